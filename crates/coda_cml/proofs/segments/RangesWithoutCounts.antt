-- Segments without their counts: joining some of them is cutting the run at fewer places.
use Rattle.std.proofs.Common.{◌≡◌, ℕ, Bool, true, false, not, ◌&&◌, List, [], ◌∷◌, ◌++◌, drop, map, refl, sym, ap, ◌∙◌, arith}
use Rattle.std.specs.Prelude.{max}
use Rattle.coda_fid.specs.declared.op.Record.{Record}
use Rattle.coda_cml.specs.declared.segment.Segment.{Segment}
use Rattle.coda_cml.specs.Segments.{put_front, single, segments_by}
use Rattle.coda_cml.specs.Regrouping.{widened, widen_front, rejoined, leading, recounted}

-- a segment that counts nothing
abbrev pub bared : Segment → Segment
bared s = record { first = s.first; last = s.last; count = 0; newest = s.newest }

-- an operation alone
abbrev pub bare : Record → Segment
bare o = record { first = o.number; last = o.number; count = 0; newest = o.time }

-- the segments of a run without their counts
abbrev pub ranges_by : (ℕ → Bool) → List Record → List Segment
ranges_by c [] = []
ranges_by c (o ∷ os) = widen_front (c o.number) (bare o) (ranges_by c os)

max_thrice : (a b d : ℕ) → max (max a b) d ≡ max a (max b d)
max_thrice a b d = omega arith

widen_twice : (s t : Segment) (b : Bool) (us : List Segment) → widen_front b (widened s t) us ≡ widen_front false s (widen_front b t us)
widen_twice s t true us = refl
widen_twice s t false [] = refl
widen_twice s t false (u ∷ us) = λ i. record { first = s.first; last = u.last; count = s.count; newest = max_thrice s.newest t.newest u.newest i } ∷ us

alone : (s : Segment) (b : Bool) → widen_front b s [] ≡ s ∷ []
alone s true = refl
alone s false = refl

rejoined-widen : (g : ℕ → Bool) (b : Bool) (s : Segment) (ss : List Segment) → rejoined g (widen_front b s ss) ≡ widen_front (b && not (g s.last)) s (rejoined g ss)
rejoined-widen g true s ss = refl
rejoined-widen g false s [] = alone s (not (g s.last))
rejoined-widen g false s (t ∷ ts) = widen_twice s t (not (g t.last)) (rejoined g ts)

-- cutting at fewer places
pub ranges-fewer : (c g : ℕ → Bool) (os : List Record) → rejoined g (ranges_by c os) ≡ ranges_by (λ n. c n && not (g n)) os
ranges-fewer c g [] = refl
ranges-fewer c g (o ∷ os) = rejoined-widen g (c o.number) (bare o) (ranges_by c os) ∙ ap (widen_front (c o.number && not (g o.number)) (bare o)) (ranges-fewer c g os)

-- the last operation ends a segment
abbrev pub EndsAt : (ℕ → Bool) → List Record → Type 0
EndsAt c [] = Unit {0}
EndsAt c (o ∷ []) = c o.number ≡ true
EndsAt c (o ∷ p ∷ os) = EndsAt c (p ∷ os)

widen-append : (b : Bool) (s t : Segment) (ts us : List Segment) → widen_front b s ((t ∷ ts) ++ us) ≡ widen_front b s (t ∷ ts) ++ us
widen-append true s t ts us = refl
widen-append false s t ts us = refl

some_range : (c : ℕ → Bool) (o : Record) (os : List Record) → (t : Segment) × (ts : List Segment) × (ranges_by c (o ∷ os) ≡ t ∷ ts)
some_range c o os = go (c o.number) (ranges_by c os)
  where
    go : (b : Bool) (rs : List Segment) → (t : Segment) × (ts : List Segment) × (widen_front b (bare o) rs ≡ t ∷ ts)
    go true rs = (bare o, rs, refl)
    go false [] = (bare o, [], refl)
    go false (t ∷ ts) = (widened (bare o) t, ts, refl)

pub ranges-append : (c : ℕ → Bool) (front back : List Record) → EndsAt c front → ranges_by c (front ++ back) ≡ ranges_by c front ++ ranges_by c back
ranges-append c [] back e = refl
ranges-append c (o ∷ []) back e = ap (λ b. widen_front b (bare o) (ranges_by c back)) e ∙ sym (ap (λ b. widen_front b (bare o) [] ++ ranges_by c back) e)
ranges-append c (o ∷ p ∷ os) back e =
    let m = some_range c p os in
    ap (widen_front (c o.number) (bare o)) (ranges-append c (p ∷ os) back e)
    ∙ ap (λ l. widen_front (c o.number) (bare o) (l ++ ranges_by c back)) m.2 ∙ widen-append (c o.number) (bare o) m.0 m.1 (ranges_by c back)
    ∙ ap (λ l. widen_front (c o.number) (bare o) l ++ ranges_by c back) (sym m.2)

-- ---- counts

bared-put : (b : Bool) (s : Segment) (ss : List Segment) → map bared (put_front b s ss) ≡ widen_front b (bared s) (map bared ss)
bared-put true s ss = refl
bared-put false s [] = refl
bared-put false s (t ∷ ss) = refl

bared-widen : (b : Bool) (s : Segment) (ss : List Segment) → map bared (widen_front b s ss) ≡ widen_front b (bared s) (map bared ss)
bared-widen true s ss = refl
bared-widen false s [] = refl
bared-widen false s (t ∷ ss) = refl

pub bared-segments : (c : ℕ → Bool) (rs os : List Record) → map bared (segments_by c rs os) ≡ ranges_by c os
bared-segments c rs [] = refl
bared-segments c rs (o ∷ os) = bared-put (c o.number) (single rs o) (segments_by c rs os) ∙ ap (widen_front (c o.number) (bare o)) (bared-segments c rs os)

pub bared-rejoined : (g : ℕ → Bool) (ss : List Segment) → map bared (rejoined g ss) ≡ rejoined g (map bared ss)
bared-rejoined g [] = refl
bared-rejoined g (s ∷ ss) = bared-widen (not (g s.last)) s (rejoined g ss) ∙ ap (widen_front (not (g s.last)) (bared s)) (bared-rejoined g ss)

pub bared-append : (ss ts : List Segment) → map bared (ss ++ ts) ≡ map bared ss ++ map bared ts
bared-append [] ts = refl
bared-append (s ∷ ss) ts = ap (λ l. bared s ∷ l) (bared-append ss ts)

-- the old counts don't matter
pub recounted-bared : (rs : List Record) (ss : List Segment) → recounted rs (map bared ss) ≡ recounted rs ss
recounted-bared rs [] = refl
recounted-bared rs (s ∷ ss) = ap (λ l. record s { count = leading s.last rs } ∷ l) (recounted-bared (drop (leading s.last rs) rs) ss)
