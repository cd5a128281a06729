-- Segments part the records whose numbers lie in them.
use Rattle.std.proofs.Common.{◌≡◌, ℕ, zero, suc, ◌<◌, ◌≤◌, Bool, true, false, not, List, [], ◌∷◌, ◌++◌, ◌⊎◌, inl, inr, take, drop, length, refl, sym, ap, ◌∙◌, subst, append_assoc, arith}
use Rattle.std.proofs.lemmas.List.{take-append-drop, length-take-le}
use Rattle.std.proofs.Math.Seq.{take-append_seam, drop-append_seam}
use Rattle.std.proofs.lemmas.Bool.{cases_lt}
use Rattle.coda_fid.specs.declared.op.Record.{Record}
use Rattle.coda_cancel.specs.Cancel.{fold}
use Rattle.coda_cancel.specs.Numbers.{AreUpTo, AreAbove, IsRising}
use Rattle.coda_cancel.proofs.Rising.{above_more, rising_behind}
use Rattle.coda_cancel.proofs.Turns.{rising_added}
use Rattle.coda_cml.specs.declared.segment.Segment.{Segment}
use Rattle.coda_cml.specs.Segments.{end_of}
use Rattle.coda_cml.specs.Regrouping.{widen_front, rejoined, leading, recounted}
use Rattle.coda_cml.specs.Partition.{AreBetween, BeginAbove, AreInTurn, EndUpTo, ArePartedBy, SegmentsPartTheFold}
use Rattle.coda_cml.proofs.segments.RangesWithoutCounts.{bare, ranges_by}
use Rattle.coda_cml.proofs.runs.WhatIsLeft.{IsLeft, left_fold}
use Rattle.coda_cml.proofs.segments.CountedRanges.{recounted-ranges}
use Rattle.coda_cml.proofs.segments.GrowingRuns.{ends}
use Rattle.coda_cml.proofs.segments.FrozenFronts.{leading_split}

-- some segment has the number
abbrev pub IsIn : ℕ → List Segment → Type 0
IsIn n [] = ⊥
IsIn n (s ∷ ss) = ((s.first ≤ n) × (n ≤ s.last)) ⊎ IsIn n ss

-- each record has a number of some segment
abbrev pub AreIn : List Segment → List Record → Type 0
AreIn ss [] = Unit {0}
AreIn ss (r ∷ rs) = IsIn r.number ss × AreIn ss rs

-- ---- records by numbers

split_by : (n : ℕ) (rs : List Record) → IsRising rs → (low : List Record) × (high : List Record) × (rs ≡ low ++ high) × AreUpTo n low × AreAbove n high
split_by n [] h = ([], [], refl, tt, tt)
split_by n (r ∷ rs) h = go (cases_lt n r.number) (split_by n rs h.1)
  where
    go : (n < r.number) ⊎ (r.number ≤ n) → (low : List Record) × (high : List Record) × (rs ≡ low ++ high) × AreUpTo n low × AreAbove n high → (low : List Record) × (high : List Record) × (r ∷ rs ≡ low ++ high) × AreUpTo n low × AreAbove n high
    go (inl l) rest = ([], r ∷ rs, refl, tt, (l, above_more n r.number (omega (arith, l)) rs h.0))
    go (inr l) rest = (r ∷ rest.0, rest.1, ap (λ l. r ∷ l) rest.2, (l, rest.3), rest.4)

in_both : (ss : List Segment) (rs os : List Record) → AreIn ss (rs ++ os) → AreIn ss rs × AreIn ss os
in_both ss [] os h = (tt, h)
in_both ss (r ∷ rs) os h = let rest = in_both ss rs os h.1 in ((h.0, rest.0), rest.1)

pub in_append : (ss : List Segment) (rs os : List Record) → AreIn ss rs → AreIn ss os → AreIn ss (rs ++ os)
in_append ss [] os a b = b
in_append ss (r ∷ rs) os a b = (a.0, in_append ss rs os a.1 b)

in_above : (m n : ℕ) (ss : List Segment) → BeginAbove m ss → IsIn n ss → m < n
in_above m n [] b h = absurd h
in_above m n (s ∷ ss) b (inl h) = omega (arith, b.0, h.0)
in_above m n (s ∷ ss) b (inr h) = in_above m n ss b.1 h

in_first : (s : Segment) (ss : List Segment) → BeginAbove s.last ss → (rs : List Record) → AreUpTo s.last rs → AreIn (s ∷ ss) rs → AreBetween s.first s.last rs
in_first s ss b [] u h = tt
in_first s ss b (r ∷ rs) u h = go h.0 (in_first s ss b rs u.1 h.1)
  where
    go : IsIn r.number (s ∷ ss) → AreBetween s.first s.last rs → (s.first ≤ r.number) × (r.number ≤ s.last) × AreBetween s.first s.last rs
    go (inl k) rest = (k.0, k.1, rest)
    go (inr k) rest = let l = in_above s.last r.number ss b k in absurd (omega (arith, l, u.0))

in_later : (s : Segment) (ss : List Segment) (rs : List Record) → AreAbove s.last rs → AreIn (s ∷ ss) rs → AreIn ss rs
in_later s ss [] a h = tt
in_later s ss (r ∷ rs) a h = (go h.0, in_later s ss rs a.1 h.1)
  where
    go : IsIn r.number (s ∷ ss) → IsIn r.number ss
    go (inl k) = absurd (omega (arith, k.1, a.0))
    go (inr k) = k

length-front : (rs os : List Record) → length rs ≤ length (rs ++ os)
length-front [] os = omega arith
length-front (r ∷ rs) os = let h = length-front rs os in omega (arith, h)

begin_recounted : (m : ℕ) (rs : List Record) (ss : List Segment) → BeginAbove m ss → BeginAbove m (recounted rs ss)
begin_recounted m rs [] h = tt
begin_recounted m rs (s ∷ ss) h = (h.0, begin_recounted m (drop (leading s.last rs) rs) ss h.1)

-- counted again, segments part the records whose numbers lie in them
pub recounted_parts : (ss : List Segment) (rs : List Record) → AreInTurn ss → IsRising rs → AreIn ss rs → ArePartedBy (recounted rs ss) rs
recounted_parts [] [] g r h = refl
recounted_parts [] (r ∷ rs) g rise h = absurd h.0
recounted_parts (s ∷ ss) rs g r h = (
  g.0,
  begin_recounted s.last (drop (leading s.last rs) rs) ss g.1,
  subst (λ n. n ≤ length rs) (sym counted) (subst (λ l. length m.0 ≤ length l) (sym m.2) (length-front m.0 m.1)),
  subst (AreBetween s.first s.last) (sym front) (in_first s ss g.1 m.0 m.3 parts.0),
  recounted_parts ss (drop (leading s.last rs) rs) g.2 (subst IsRising (sym back) (rising_behind m.0 m.1 (subst IsRising m.2 r))) (subst (AreIn ss) (sym back) (in_later s ss m.1 m.4 parts.1)),
)
  where
    m : (low : List Record) × (high : List Record) × (rs ≡ low ++ high) × AreUpTo s.last low × AreAbove s.last high
    m = split_by s.last rs r

    parts : AreIn (s ∷ ss) m.0 × AreIn (s ∷ ss) m.1
    parts = in_both (s ∷ ss) m.0 m.1 (subst (AreIn (s ∷ ss)) m.2 h)

    counted : leading s.last rs ≡ length m.0
    counted = ap (leading s.last) m.2 ∙ leading_split s.last m.0 m.1 m.3 m.4

    front : take (leading s.last rs) rs ≡ m.0
    front = (λ i. take (counted i) (m.2 i)) ∙ take-append_seam m.0 m.1

    back : drop (leading s.last rs) rs ≡ m.1
    back = (λ i. drop (counted i) (m.2 i)) ∙ drop-append_seam m.0 m.1

-- ---- what joining keeps

begin_widened : (m : ℕ) (b : Bool) (s : Segment) (ss : List Segment) → m < s.first → BeginAbove m ss → BeginAbove m (widen_front b s ss)
begin_widened m true s ss l h = (l, h)
begin_widened m false s [] l h = (l, tt)
begin_widened m false s (t ∷ ts) l h = (l, h.1)

turn_widened : (b : Bool) (s : Segment) (ss : List Segment) → AreInTurn (s ∷ ss) → AreInTurn (widen_front b s ss)
turn_widened true s ss g = g
turn_widened false s [] g = g
turn_widened false s (t ∷ ts) g = (omega (arith, g.0, g.1.0, g.2.0), g.2.1, g.2.2)

in_widened : (n : ℕ) (b : Bool) (s : Segment) (ss : List Segment) → AreInTurn (s ∷ ss) → IsIn n (s ∷ ss) → IsIn n (widen_front b s ss)
in_widened n true s ss g h = h
in_widened n false s [] g h = h
in_widened n false s (t ∷ ts) g (inl h) = inl (h.0, omega (arith, h.1, g.1.0, g.2.0))
in_widened n false s (t ∷ ts) g (inr (inl h)) = inl (omega (arith, g.0, g.1.0, h.0), h.1)
in_widened n false s (t ∷ ts) g (inr (inr h)) = inr h

begin_rejoined : (m : ℕ) (g : ℕ → Bool) (ss : List Segment) → BeginAbove m ss → BeginAbove m (rejoined g ss)
begin_rejoined m g [] h = tt
begin_rejoined m g (s ∷ ss) h = begin_widened m (not (g s.last)) s (rejoined g ss) h.0 (begin_rejoined m g ss h.1)

pub turn_rejoined : (g : ℕ → Bool) (ss : List Segment) → AreInTurn ss → AreInTurn (rejoined g ss)
turn_rejoined g [] h = tt
turn_rejoined g (s ∷ ss) h = turn_widened (not (g s.last)) s (rejoined g ss) (h.0, begin_rejoined s.last g ss h.1, turn_rejoined g ss h.2)

is_in_rejoined : (n : ℕ) (g : ℕ → Bool) (ss : List Segment) → AreInTurn ss → IsIn n ss → IsIn n (rejoined g ss)
is_in_rejoined n g [] r h = h
is_in_rejoined n g (s ∷ ss) r h = in_widened n (not (g s.last)) s (rejoined g ss) (r.0, begin_rejoined s.last g ss r.1, turn_rejoined g ss r.2) (go h (is_in_rejoined n g ss r.2))
  where
    go : IsIn n (s ∷ ss) → (IsIn n ss → IsIn n (rejoined g ss)) → IsIn n (s ∷ rejoined g ss)
    go (inl k) later = inl k
    go (inr k) later = inr (later k)

pub in_rejoined : (g : ℕ → Bool) (ss : List Segment) → AreInTurn ss → (rs : List Record) → AreIn ss rs → AreIn (rejoined g ss) rs
in_rejoined g ss r [] h = tt
in_rejoined g ss r (o ∷ os) h = (is_in_rejoined o.number g ss r h.0, in_rejoined g ss r os h.1)

-- ---- what cancellation keeps

in_same : (ss : List Segment) (m n : ℕ) → m ≡ n → IsIn n ss → IsIn m ss
in_same ss m n e h = subst (λ k. IsIn k ss) (sym e) h

pub left_in : (ss : List Segment) (ks os : List Record) → IsLeft ks os → AreIn ss os → AreIn ss ks
left_in ss ks [] h a = subst (AreIn ss) (sym h) tt
left_in ss ks (o ∷ os) (inl h) a = left_in ss ks os h a.1
left_in ss ks (o ∷ os) (inr h) a = subst (AreIn ss) (sym h.2) (in_same ss h.0.number o.number h.3 a.0, left_in ss h.1 os h.4 a.1)

-- ---- the segments of a run

begin_ranges : (m : ℕ) (c : ℕ → Bool) (os : List Record) → AreAbove m os → BeginAbove m (ranges_by c os)
begin_ranges m c [] a = tt
begin_ranges m c (o ∷ os) a = begin_widened m (c o.number) (bare o) (ranges_by c os) a.0 (begin_ranges m c os a.1)

run_turn : (c : ℕ → Bool) (os : List Record) → IsRising os → AreInTurn (ranges_by c os)
run_turn c [] r = tt
run_turn c (o ∷ os) r = turn_widened (c o.number) (bare o) (ranges_by c os) (omega arith, begin_ranges o.number c os r.0, run_turn c os r.1)

in_ranges : (c : ℕ → Bool) (os : List Record) → IsRising os → AreIn (ranges_by c os) os
in_ranges c [] r = tt
in_ranges c (o ∷ os) r = (here o.number (inl (omega arith, omega arith)), later os (in_ranges c os r.1))
  where
    here : (n : ℕ) → IsIn n (bare o ∷ ranges_by c os) → IsIn n (widen_front (c o.number) (bare o) (ranges_by c os))
    here n = in_widened n (c o.number) (bare o) (ranges_by c os) (omega arith, begin_ranges o.number c os r.0, run_turn c os r.1)

    later : (rs : List Record) → AreIn (ranges_by c os) rs → AreIn (widen_front (c o.number) (bare o) (ranges_by c os)) rs
    later [] h = tt
    later (p ∷ ps) h = (here p.number (inr h.0), later ps h.1)

pub segments_part : SegmentsPartTheFold
segments_part run r = subst (λ ss. ArePartedBy ss (fold run)) (recounted-ranges (ends run) run (fold run) (left_fold run) r)
    (recounted_parts (ranges_by (ends run) run) (fold run) (run_turn (ends run) run r) (rising_added [] run r) (left_in (ranges_by (ends run) run) (fold run) run (left_fold run) (in_ranges (ends run) run r)))

-- ---- what a log keeps

-- what parts records has their numbers
in_taken : (s : Segment) (ss : List Segment) (rs : List Record) → AreBetween s.first s.last rs → AreIn (s ∷ ss) rs
in_taken s ss [] h = tt
in_taken s ss (r ∷ rs) h = (inl (h.0, h.1), in_taken s ss rs h.2)

in_more : (s : Segment) (ss : List Segment) (rs : List Record) → AreIn ss rs → AreIn (s ∷ ss) rs
in_more s ss [] h = tt
in_more s ss (r ∷ rs) h = (inr h.0, in_more s ss rs h.1)

pub parted_in : (ss : List Segment) (rs : List Record) → ArePartedBy ss rs → AreIn ss rs
parted_in [] rs h = subst (AreIn []) (sym h) tt
parted_in (s ∷ ss) rs h = subst (AreIn (s ∷ ss)) (take-append-drop s.count rs)
    (in_append (s ∷ ss) (take s.count rs) (drop s.count rs) (in_taken s ss (take s.count rs) h.3) (in_more s ss (drop s.count rs) (parted_in ss (drop s.count rs) h.4)))

pub in_front : (ss ts : List Segment) (rs : List Record) → AreIn ss rs → AreIn (ss ++ ts) rs
in_front ss ts [] h = tt
in_front ss ts (r ∷ rs) h = (go ss h.0, in_front ss ts rs h.1)
  where
    go : (ss : List Segment) → IsIn r.number ss → IsIn r.number (ss ++ ts)
    go [] h = absurd h
    go (s ∷ ss) (inl k) = inl k
    go (s ∷ ss) (inr k) = inr (go ss k)

pub in_behind : (ss ts : List Segment) (rs : List Record) → AreIn ts rs → AreIn (ss ++ ts) rs
in_behind [] ts rs h = h
in_behind (s ∷ ss) ts rs h = in_more s (ss ++ ts) rs (in_behind ss ts rs h)

pub ends_both : (n : ℕ) (ss ts : List Segment) → EndUpTo n ss → EndUpTo n ts → EndUpTo n (ss ++ ts)
ends_both n [] ts a b = b
ends_both n (s ∷ ss) ts a b = (a.0, ends_both n ss ts a.1 b)

pub ends_front : (n : ℕ) (ss ts : List Segment) → EndUpTo n (ss ++ ts) → EndUpTo n ss
ends_front n [] ts h = tt
ends_front n (s ∷ ss) ts h = (h.0, ends_front n ss ts h.1)

pub ends_behind : (n : ℕ) (ss ts : List Segment) → EndUpTo n (ss ++ ts) → EndUpTo n ts
ends_behind n [] ts h = h
ends_behind n (s ∷ ss) ts h = ends_behind n ss ts h.1

pub ends_more : (m n : ℕ) → m ≤ n → (ss : List Segment) → EndUpTo m ss → EndUpTo n ss
ends_more m n l [] h = tt
ends_more m n l (s ∷ ss) h = (omega (arith, h.0), ends_more m n l ss h.1)

ends_widened : (n : ℕ) (b : Bool) (s : Segment) (ss : List Segment) → EndUpTo n (s ∷ ss) → EndUpTo n (widen_front b s ss)
ends_widened n true s ss h = h
ends_widened n false s [] h = h
ends_widened n false s (t ∷ ts) h = h.1

pub ends_rejoined : (n : ℕ) (g : ℕ → Bool) (ss : List Segment) → EndUpTo n ss → EndUpTo n (rejoined g ss)
ends_rejoined n g [] h = tt
ends_rejoined n g (s ∷ ss) h = ends_widened n (not (g s.last)) s (rejoined g ss) (h.0, ends_rejoined n g ss h.1)

pub ends_recounted : (n : ℕ) (rs : List Record) (ss : List Segment) → EndUpTo n ss → EndUpTo n (recounted rs ss)
ends_recounted n rs [] h = tt
ends_recounted n rs (s ∷ ss) h = (h.0, ends_recounted n (drop (leading s.last rs) rs) ss h.1)

pub turn_recounted : (rs : List Record) (ss : List Segment) → AreInTurn ss → AreInTurn (recounted rs ss)
turn_recounted rs [] h = tt
turn_recounted rs (s ∷ ss) h = (h.0, begin_recounted s.last (drop (leading s.last rs) rs) ss h.1, turn_recounted (drop (leading s.last rs) rs) ss h.2)

pub turn_behind : (ss ts : List Segment) → AreInTurn (ss ++ ts) → AreInTurn ts
turn_behind [] ts h = h
turn_behind (s ∷ ss) ts h = turn_behind ss ts h.2

begin_swapped : (m : ℕ) (ss ts us : List Segment) → (BeginAbove m ts → BeginAbove m us) → BeginAbove m (ss ++ ts) → BeginAbove m (ss ++ us)
begin_swapped m [] ts us f h = f h
begin_swapped m (s ∷ ss) ts us f h = (h.0, begin_swapped m ss ts us f h.1)

-- other segments in turn in place of the later ones
pub turn_swapped : (ss ts us : List Segment) → ((m : ℕ) → BeginAbove m ts → BeginAbove m us) → AreInTurn us → AreInTurn (ss ++ ts) → AreInTurn (ss ++ us)
turn_swapped [] ts us f u h = u
turn_swapped (s ∷ ss) ts us f u h = (h.0, begin_swapped s.last ss ts us (f s.last) h.1, turn_swapped ss ts us f u h.2)

begin_push : (m : ℕ) (ss : List Segment) (t : Segment) → BeginAbove m ss → m < t.first → BeginAbove m (ss ++ t ∷ [])
begin_push m [] t h l = (l, tt)
begin_push m (s ∷ ss) t h l = (h.0, begin_push m ss t h.1 l)

-- one more segment behind all
pub turn_push : (n : ℕ) (ss : List Segment) (t : Segment) → AreInTurn ss → EndUpTo n ss → n < t.first → t.first ≤ t.last → AreInTurn (ss ++ t ∷ [])
turn_push n [] t h e l k = (k, tt, tt)
turn_push n (s ∷ ss) t h e l k = (h.0, begin_push s.last ss t h.1 (let m = e.0 in omega (arith, m, l)), turn_push n ss t h.2 e.1 l k)

pub begin_regrouped : (m : ℕ) (g : ℕ → Bool) (rs : List Record) (ss : List Segment) → BeginAbove m ss → BeginAbove m (recounted rs (rejoined g ss))
begin_regrouped m g rs ss h = begin_recounted m rs (rejoined g ss) (begin_rejoined m g ss h)

-- joined and counted again, segments part what has their numbers
pub regrouped_parts : (g : ℕ → Bool) (ss : List Segment) (rs : List Record) → AreInTurn ss → IsRising rs → AreIn ss rs → ArePartedBy (recounted rs (rejoined g ss)) rs
regrouped_parts g ss rs t r h = recounted_parts (rejoined g ss) rs (turn_rejoined g ss t) r (in_rejoined g ss t rs h)

-- ---- the first segments and the rest

pub between_upto : (first last : ℕ) (rs : List Record) → AreBetween first last rs → AreUpTo last rs
between_upto first last [] h = tt
between_upto first last (r ∷ rs) h = (h.1, between_upto first last rs h.2)

pub parted_above : (m : ℕ) (ss : List Segment) (rs : List Record) → BeginAbove m ss → ArePartedBy ss rs → AreAbove m rs
parted_above m ss rs b h = go rs (parted_in ss rs h)
  where
    go : (rs : List Record) → AreIn ss rs → AreAbove m rs
    go [] k = tt
    go (r ∷ rs) k = (in_above m r.number ss b k.0, go rs k.1)

upto_joined : (n : ℕ) (rs os : List Record) → AreUpTo n rs → AreUpTo n os → AreUpTo n (rs ++ os)
upto_joined n [] os a b = b
upto_joined n (r ∷ rs) os a b = (a.0, upto_joined n rs os a.1 b)

upto_more : (m n : ℕ) → m ≤ n → (rs : List Record) → AreUpTo m rs → AreUpTo n rs
upto_more m n l [] h = tt
upto_more m n l (r ∷ rs) h = (omega (arith, h.0), upto_more m n l rs h.1)

begin_taken : (n k : ℕ) (ss : List Segment) → BeginAbove n ss → BeginAbove n (take k ss)
begin_taken n zero ss b = tt
begin_taken n (suc k) [] b = tt
begin_taken n (suc k) (s ∷ ss) b = (b.0, begin_taken n k ss b.1)

pub halves : (k : ℕ) (ss : List Segment) (rs : List Record) → AreInTurn ss → ArePartedBy ss rs → (low : List Record) × (high : List Record) × (rs ≡ low ++ high) × ArePartedBy (take k ss) low × ArePartedBy (drop k ss) high
halves zero ss rs t h = ([], rs, refl, refl, h)
halves (suc k) [] rs t h = ([], rs, refl, refl, h)
halves (suc k) (s ∷ ss) rs t h = go (halves k ss (drop s.count rs) t.2 h.4)
  where
    first : List Record
    first = take s.count rs

    long : length first ≡ s.count
    long = length-take-le s.count rs h.2

    go : (low : List Record) × (high : List Record) × (drop s.count rs ≡ low ++ high) × ArePartedBy (take k ss) low × ArePartedBy (drop k ss) high →
        (low : List Record) × (high : List Record) × (rs ≡ low ++ high) × ArePartedBy (s ∷ take k ss) low × ArePartedBy (drop k ss) high
    go m =
        let front : take s.count (first ++ m.0) ≡ first = (λ i. take (sym long i) (first ++ m.0)) ∙ take-append_seam first m.0 in
        let back : drop s.count (first ++ m.0) ≡ m.0 = (λ i. drop (sym long i) (first ++ m.0)) ∙ drop-append_seam first m.0 in (
          first ++ m.0,
          m.1,
          sym (take-append-drop s.count rs) ∙ ap (λ l. first ++ l) m.2 ∙ sym (append_assoc first m.0 m.1),
          (
            h.0,
            begin_taken s.last k ss h.1,
            subst (λ n. n ≤ length (first ++ m.0)) long (length-front first m.0),
            subst (AreBetween s.first s.last) (sym front) h.3,
            subst (ArePartedBy (take k ss)) (sym back) m.3,
          ),
          m.4,
        )

pub end_above : (s : Segment) (ss : List Segment) → AreInTurn (s ∷ ss) → s.last ≤ end_of (s ∷ ss)
end_above s [] t = omega arith
end_above s (u ∷ us) t = let h = end_above u us t.2 in let a = t.1.0 in let b = t.2.0 in omega (arith, h, a, b)

pub parted_upto : (ss : List Segment) (rs : List Record) → AreInTurn ss → ArePartedBy ss rs → AreUpTo (end_of ss) rs
parted_upto [] rs t h = subst (AreUpTo 0) (sym h) tt
parted_upto (s ∷ []) rs t h = subst (AreUpTo s.last) (take-append-drop s.count rs) (upto_joined s.last (take s.count rs) (drop s.count rs) (between_upto s.first s.last (take s.count rs) h.3) (subst (AreUpTo s.last) (sym h.4) tt))
parted_upto (s ∷ u ∷ us) rs t h =
    let e : s.last ≤ end_of (u ∷ us) = (let k = end_above u us t.2 in let a = t.1.0 in let b = t.2.0 in omega (arith, k, a, b)) in
    subst (AreUpTo (end_of (u ∷ us))) (take-append-drop s.count rs)
    (upto_joined (end_of (u ∷ us)) (take s.count rs) (drop s.count rs) (upto_more s.last (end_of (u ∷ us)) e (take s.count rs) (between_upto s.first s.last (take s.count rs) h.3)) (parted_upto (u ∷ us) (drop s.count rs) t.2 h.4))

turn_taken : (k : ℕ) (ss : List Segment) → AreInTurn ss → AreInTurn (take k ss)
turn_taken zero ss t = tt
turn_taken (suc k) [] t = tt
turn_taken (suc k) (s ∷ ss) t = (t.0, begin_taken s.last k ss t.1, turn_taken k ss t.2)

begin_dropped : (k : ℕ) (s : Segment) (ss : List Segment) → AreInTurn (s ∷ ss) → BeginAbove (end_of (s ∷ take k ss)) (drop k ss)
begin_dropped zero s ss t = t.1
begin_dropped (suc k) s [] t = tt
begin_dropped (suc k) s (u ∷ us) t = begin_dropped k u us t.2

-- records that segments part, cut behind the first segments, so many
pub cut_parts : (k : ℕ) (ss : List Segment) (rs : List Record) → 0 < k → 0 < length ss → AreInTurn ss → ArePartedBy ss rs →
    ArePartedBy (take k ss) (take (leading (end_of (take k ss)) rs) rs) × ArePartedBy (drop k ss) (drop (leading (end_of (take k ss)) rs) rs)
cut_parts zero ss rs p q t h = absurd (omega (arith, p))
cut_parts (suc k) [] rs p q t h = absurd (omega (arith, q))
cut_parts (suc k) (s ∷ ss) rs p q t h =
    let m = halves (suc k) (s ∷ ss) rs t h in
    let up = parted_upto (s ∷ take k ss) m.0 (turn_taken (suc k) (s ∷ ss) t) m.3 in
    let above = parted_above (end_of (s ∷ take k ss)) (drop k ss) m.1 (begin_dropped k s ss t) m.4 in
    let counted : leading (end_of (s ∷ take k ss)) rs ≡ length m.0 = ap (leading (end_of (s ∷ take k ss))) m.2 ∙ leading_split (end_of (s ∷ take k ss)) m.0 m.1 up above in
    let front : take (leading (end_of (s ∷ take k ss)) rs) rs ≡ m.0 = (λ i. take (counted i) (m.2 i)) ∙ take-append_seam m.0 m.1 in
    let back : drop (leading (end_of (s ∷ take k ss)) rs) rs ≡ m.1 = (λ i. drop (counted i) (m.2 i)) ∙ drop-append_seam m.0 m.1 in
    (subst (ArePartedBy (s ∷ take k ss)) (sym front) m.3, subst (ArePartedBy (drop k ss)) (sym back) m.4)
