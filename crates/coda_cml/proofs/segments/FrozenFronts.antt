-- The log after its first segments are frozen.
use Rattle.std.proofs.Common.{◌≡◌, ℕ, zero, suc, ◌+◌, ◌<◌, ◌≤◌, ◌==◌, Bool, true, false, cond, not, ◌||◌, List, [], ◌∷◌, ◌++◌, Option, Some, None, take, drop, length, refl, sym, ap, ◌∙◌, subst, arith, inl, inr}
use Rattle.std.specs.Prelude.{nat_le}
use Rattle.std.specs.List.{find}
use Rattle.std.proofs.lemmas.Bool.{false_from_ne_true, false≢true}
use Rattle.std.proofs.lemmas.Bool.Decides.{nat_tests}
use Rattle.std.proofs.lemmas.Option.{none-some}
use Rattle.std.proofs.Math.Seq.{take-append_seam, drop-append_seam}
use Rattle.coda_fid.specs.declared.op.Record.{Record}
use Rattle.coda_cancel.specs.Cancel.{added, fold}
use Rattle.coda_cancel.specs.Numbers.{AreUpTo, AreAbove, IsRising}
use Rattle.coda_cml.specs.declared.segment.Segment.{Segment}
use Rattle.coda_cml.specs.Steady.{IsSteady}
use Rattle.coda_cml.specs.Segments.{is_joined, joined, put_front, single, count_of, segments_by, segments_of, end_of, last_in}
use Rattle.coda_cml.specs.declared.frozen.Frozen.{Frozen}
use Rattle.coda_cml.specs.declared.fault.FreezeFault.{FreezeFault}
use Rattle.coda_cml.specs.declared.fault.FreezeFault.TheVariants.{Nothing}
use Rattle.coda_cml.specs.Chunks.{is_filled, too_young, freeze_refusal, first_filled, chunk_length}
use Rattle.coda_cml.specs.Regrouping.{leading}
use Rattle.coda_cml.specs.State.{LogState, IsLogOf}
use Rattle.coda_cml.specs.Steps.{frozen_to}
use Rattle.coda_cml.proofs.runs.JoinedNumbers.{IsJoined, joined_fact, cut_fact, cut_test}
use Rattle.coda_cml.proofs.runs.AlmostAlike.{append_nil}
use Rattle.coda_cml.proofs.runs.ThawedFold.{added-append}
use Rattle.coda_cml.proofs.runs.FrontFolds.{up_added, joined_later}
use Rattle.coda_cml.proofs.runs.CutsAfterThaw.{none_up, above_added}
use Rattle.coda_cml.proofs.segments.RangesWithoutCounts.{EndsAt}
use Rattle.coda_cml.proofs.segments.GrowingRuns.{ends, run_ends, joined-append}
use Rattle.coda_cml.proofs.runs.StandingAlone.{run_alone, back_fresh}

-- ---- the operations of the first segments

pub some_segment : (c : ℕ → Bool) (ks : List Record) (o : Record) (os : List Record) → (t : Segment) × (ts : List Segment) × (segments_by c ks (o ∷ os) ≡ t ∷ ts)
some_segment c ks o os = go (c o.number) (segments_by c ks os)
  where
    go : (b : Bool) (ss : List Segment) → (t : Segment) × (ts : List Segment) × (put_front b (single ks o) ss ≡ t ∷ ts)
    go true ss = (single ks o, ss, refl)
    go false [] = (single ks o, [], refl)
    go false (t ∷ ts) = (joined (single ks o) t, ts, refl)

take_none : (k : ℕ) (ss : List Segment) → ss ≡ [] → take k ss ≡ []
take_none zero ss e = refl
take_none (suc k) [] e = refl
take_none (suc k) (s ∷ ss) e = absurd (cc)

drop_none : (k : ℕ) (ss : List Segment) → ss ≡ [] → drop k ss ≡ []
drop_none zero ss e = e
drop_none (suc k) [] e = refl
drop_none (suc k) (s ∷ ss) e = absurd (cc)

one_taken : (k : ℕ) (s : Segment) (b : Bool) → (take (suc k) (put_front b s []) ≡ put_front b s []) × (drop (suc k) (put_front b s []) ≡ [])
one_taken k s true = (ap (λ l. s ∷ l) (take_none k [] refl), drop_none k [] refl)
one_taken k s false = (ap (λ l. s ∷ l) (take_none k [] refl), drop_none k [] refl)

-- where the first segments, so many, end
pub record IsSplit (c : ℕ → Bool) (ks run : List Record) (k : ℕ) (front back : List Record) : Type 0 where
  pub run_is : run ≡ front ++ back
  pub taken : take k (segments_by c ks run) ≡ segments_by c ks front
  pub left : drop k (segments_by c ks run) ≡ segments_by c ks back
  pub ended : EndsAt c front

pub split_at : (c : ℕ → Bool) (ks run : List Record) → EndsAt c run → (k : ℕ) → (front : List Record) × (back : List Record) × IsSplit c ks run k front back
split_at c ks run e zero = ([], run, record { run_is = refl; taken = refl; left = refl; ended = tt })
split_at c ks [] e (suc k) = ([], [], record { run_is = refl; taken = refl; left = refl; ended = tt })
split_at c ks (o ∷ []) e (suc k) = (o ∷ [], [], record { run_is = refl; taken = one.0; left = one.1; ended = e })
  where
    one : (take (suc k) (put_front (c o.number) (single ks o) []) ≡ put_front (c o.number) (single ks o) []) × (drop (suc k) (put_front (c o.number) (single ks o) []) ≡ [])
    one = one_taken k (single ks o) (c o.number)
split_at c ks (o ∷ p ∷ os) e (suc k) = go (c o.number) refl (split_at c ks (p ∷ os) e k) (split_at c ks (p ∷ os) e (suc k))
  where
    Goal : Type 0
    Goal = (front : List Record) × (back : List Record) × IsSplit c ks (o ∷ p ∷ os) (suc k) front back

    go : (b : Bool) → c o.number ≡ b → (front : List Record) × (back : List Record) × IsSplit c ks (p ∷ os) k front back → (front : List Record) × (back : List Record) × IsSplit c ks (p ∷ os) (suc k) front back →
        (front : List Record) × (back : List Record) × IsSplit c ks (o ∷ p ∷ os) (suc k) front back
    go true h m n = (
      o ∷ m.0,
      m.1,
      record {
        run_is = ap (λ l. o ∷ l) m.2.run_is;
        taken = ap (λ b. take (suc k) (put_front b (single ks o) (segments_by c ks (p ∷ os)))) h ∙ ap (λ l. single ks o ∷ l) m.2.taken ∙ sym (ap (λ b. put_front b (single ks o) (segments_by c ks m.0)) h);
        left = ap (λ b. drop (suc k) (put_front b (single ks o) (segments_by c ks (p ∷ os)))) h ∙ m.2.left;
        ended = more m.0 m.2.ended;
      },
    )
      where
        more : (f : List Record) → EndsAt c f → EndsAt c (o ∷ f)
        more [] x = h
        more (q ∷ f) x = x
    go false h m n = (
      o ∷ n.0,
      n.1,
      record {
        run_is = ap (λ l. o ∷ l) n.2.run_is;
        taken = ap (λ b. take (suc k) (put_front b (single ks o) (segments_by c ks (p ∷ os)))) h
            ∙ ap (λ l. take (suc k) (put_front false (single ks o) l)) s.2
            ∙ ap (put_front false (single ks o)) (ap (take (suc k)) (sym s.2) ∙ n.2.taken)
            ∙ sym (ap (λ b. put_front b (single ks o) (segments_by c ks n.0)) h);
        left = ap (λ b. drop (suc k) (put_front b (single ks o) (segments_by c ks (p ∷ os)))) h
            ∙ ap (λ l. drop (suc k) (put_front false (single ks o) l)) s.2 ∙ ap (drop (suc k)) (sym s.2) ∙ n.2.left;
        ended = more n.0 (sym n.2.taken ∙ ap (take (suc k)) s.2) n.2.ended;
      },
    )
      where
        s : (t : Segment) × (ts : List Segment) × (segments_by c ks (p ∷ os) ≡ t ∷ ts)
        s = some_segment c ks p os

        more : (f : List Record) → segments_by c ks f ≡ (some_segment c ks p os).0 ∷ take k (some_segment c ks p os).1 → EndsAt c f → EndsAt c (o ∷ f)
        more [] x y = absurd (cc)
        more (q ∷ f) x y = y

-- ---- the end of the front

pub last_number : Record → List Record → ℕ
last_number o [] = o.number
last_number o (p ∷ os) = last_number p os

pub last_is : (o : Record) (os : List Record) → last_in (o ∷ os) ≡ Some (last_number o os)
unfolding last_number
last_is o [] = refl
last_is o (p ∷ os) = last_is p os

put_end : (b : Bool) (s t : Segment) (ts : List Segment) → end_of (put_front b s (t ∷ ts)) ≡ end_of (t ∷ ts)
put_end true s t ts = refl
put_end false s t [] = refl
put_end false s t (u ∷ us) = refl

one_end : (b : Bool) (s : Segment) → end_of (put_front b s []) ≡ s.last
one_end true s = refl
one_end false s = refl

pub end_is : (c : ℕ → Bool) (ks : List Record) (o : Record) (os : List Record) → end_of (segments_by c ks (o ∷ os)) ≡ last_number o os
unfolding last_number
end_is c ks o [] = one_end (c o.number) (single ks o)
end_is c ks o (p ∷ os) =
    let s = some_segment c ks p os in
    ap (λ l. end_of (put_front (c o.number) (single ks o) l)) s.2 ∙ put_end (c o.number) (single ks o) s.0 s.1 ∙ ap end_of (sym s.2) ∙ end_is c ks p os

pub last_upto : (o : Record) (os back : List Record) → IsRising ((o ∷ os) ++ back) → AreUpTo (last_number o os) (o ∷ os)
unfolding last_number
last_upto o [] back r = (omega arith, tt)
last_upto o (p ∷ os) back r = let h = last_upto p os back r.1 in (omega (arith, h.0, r.0.0), h)

pub last_above : (o : Record) (os back : List Record) → IsRising ((o ∷ os) ++ back) → AreAbove (last_number o os) back
unfolding last_number
last_above o [] back r = r.0
last_above o (p ∷ os) back r = last_above p os back r.1

pub last_cut : (c : ℕ → Bool) (o : Record) (os : List Record) → EndsAt c (o ∷ os) → c (last_number o os) ≡ true
unfolding last_number
last_cut c o [] e = e
last_cut c o (p ∷ os) e = last_cut c p os e

-- ---- the segments of both parts

count_none_up : (e n : ℕ) (ks : List Record) → AreUpTo e ks → e < n → count_of n ks ≡ 0
count_none_up e n [] a l = refl
count_none_up e n (k ∷ ks) a l =
    let t : (k.number == n) ≡ false = not_same k.number n (omega (arith, a.0)) in
    ap (λ b. cond b 1 0 + count_of n ks) t ∙ ap (λ x. 0 + x) (count_none_up e n ks a.1 l)
  where
    not_same : (m n : ℕ) → m < n → (m == n) ≡ false
    not_same m n h = grind (arith, nat_tests)

count_none_above : (e n : ℕ) (ks : List Record) → AreAbove e ks → n ≤ e → count_of n ks ≡ 0
count_none_above e n [] a l = refl
count_none_above e n (k ∷ ks) a l =
    let t : (k.number == n) ≡ false = not_same k.number n (omega (arith, a.0)) in
    ap (λ b. cond b 1 0 + count_of n ks) t ∙ ap (λ x. 0 + x) (count_none_above e n ks a.1 l)
  where
    not_same : (m n : ℕ) → n < m → (m == n) ≡ false
    not_same m n h = grind (arith, nat_tests)

count-append : (n : ℕ) (ks js : List Record) → count_of n (ks ++ js) ≡ count_of n ks + count_of n js
count-append n [] js = omega arith
count-append n (k ∷ ks) js = let m = count-append n ks js in omega (arith, m)

same_upto : (e : ℕ) (c d : ℕ → Bool) (ks js os : List Record) → AreUpTo e os → ((n : ℕ) → n ≤ e → c n ≡ d n) → ((n : ℕ) → n ≤ e → count_of n ks ≡ count_of n js) → segments_by c ks os ≡ segments_by d js os
same_upto e c d ks js [] a h k = refl
same_upto e c d ks js (o ∷ os) a h k = λ i. put_front (h o.number a.0 i) (record { first = o.number; last = o.number; count = k o.number a.0 i; newest = o.time }) (same_upto e c d ks js os a.1 h k i)

same_above : (e : ℕ) (c d : ℕ → Bool) (ks js os : List Record) → AreAbove e os → ((n : ℕ) → e < n → c n ≡ d n) → ((n : ℕ) → e < n → count_of n ks ≡ count_of n js) → segments_by c ks os ≡ segments_by d js os
same_above e c d ks js [] a h k = refl
same_above e c d ks js (o ∷ os) a h k = λ i. put_front (h o.number a.0 i) (record { first = o.number; last = o.number; count = k o.number a.0 i; newest = o.time }) (same_above e c d ks js os a.1 h k i)

-- what is joined up to a smaller number is joined up to a greater one that all operations are above
joined_more : (n e : ℕ) → n ≤ e → (rs os : List Record) → AreAbove e os → IsJoined n rs os → IsJoined e rs os
joined_more n e l rs [] a x = x
joined_more n e l rs (o ∷ os) a (inl x) = let k = x.2 in inl (x.0, x.1, omega arith, a.0)
joined_more n e l rs (o ∷ os) a (inr x) = inr (joined_more n e l (added rs (o ∷ [])) os a.1 x)

upto_greater : (e n : ℕ) → e ≤ n → (rs : List Record) → AreUpTo e rs → AreUpTo n rs
upto_greater e n l [] a = tt
upto_greater e n l (r ∷ rs) a = (omega (arith, a.0), upto_greater e n l rs a.1)

pub leading_split : (e : ℕ) (ks js : List Record) → AreUpTo e ks → AreAbove e js → leading e (ks ++ js) ≡ length ks
leading_split e [] [] a b = refl
leading_split e [] (j ∷ js) a b = let t : nat_le j.number e ≡ false = grind (arith, nat_tests, b.0) in ap (λ x. cond x (1 + leading e js) 0) t
leading_split e (k ∷ ks) js a b = let t : nat_le k.number e ≡ true = grind (arith, nat_tests, a.0) in let m = leading_split e ks js a.1 b in ap (λ x. cond x (1 + leading e (ks ++ js)) 0) t ∙ omega (arith, m)

-- a steady run, cut where it may be
module _ (e : ℕ) (front back : List Record) (s : IsSteady (front ++ back)) (a : AreUpTo e front) (b : AreAbove e back) (n : IsJoined e [] (front ++ back) → ⊥) where
  front_up : AreUpTo e (fold front)
  front_up = up_added e [] front tt a

  back_up : AreAbove e (fold back)
  back_up = above_added e [] back tt b

  apart : (added (fold front ++ []) back ≡ fold front ++ added [] back) × ((m : ℕ) → is_joined m (fold front ++ []) back ≡ is_joined m [] back)
  apart = run_alone e (fold front) [] back front_up b (λ x. n (joined_later e [] front back (subst (λ l. IsJoined e l back) (append_nil (fold front)) x))) (λ f h. absurd (false≢true h)) (back_fresh front back s)

  pub fold_apart : fold (front ++ back) ≡ fold front ++ fold back
  fold_apart = added-append [] front back ∙ ap (λ l. added l back) (sym (append_nil (fold front))) ∙ apart.0

  ends_low : (m : ℕ) → m ≤ e → ends (front ++ back) m ≡ ends front m
  ends_low m l =
      let quiet : is_joined m (fold front) back ≡ false = false_from_ne_true (is_joined m (fold front) back) (λ h. n (joined_later e [] front back (joined_more m e l (fold front) back b (joined_fact m (fold front) back h)))) in
      ap not (joined-append m [] front back ∙ ap (λ x. is_joined m [] front || x) quiet ∙ or_none (is_joined m [] front))
    where
      or_none : (x : Bool) → (x || false) ≡ x
      or_none true = refl
      or_none false = refl

  ends_high : (m : ℕ) → e < m → ends (front ++ back) m ≡ ends back m
  ends_high m l =
      let quiet : is_joined m [] front ≡ false = cut_test m [] front (none_up m [] front (upto_greater e m (omega (arith, l)) front a)) in
      ap not (joined-append m [] front back ∙ ap (λ x. x || is_joined m (fold front) back) quiet ∙ ap (λ r. is_joined m r back) (sym (append_nil (fold front))) ∙ apart.1 m)

  counts_low : (m : ℕ) → m ≤ e → count_of m (fold (front ++ back)) ≡ count_of m (fold front)
  counts_low m l = let z = count_none_above e m (fold back) back_up l in let t = count-append m (fold front) (fold back) in ap (count_of m) fold_apart ∙ t ∙ omega (arith, z)

  counts_high : (m : ℕ) → e < m → count_of m (fold (front ++ back)) ≡ count_of m (fold back)
  counts_high m l = let z = count_none_up e m (fold front) front_up l in let t = count-append m (fold front) (fold back) in ap (count_of m) fold_apart ∙ t ∙ omega (arith, z)

  pub front_segments : segments_by (ends (front ++ back)) (fold (front ++ back)) front ≡ segments_of front
  front_segments = same_upto e (ends (front ++ back)) (ends front) (fold (front ++ back)) (fold front) front a ends_low counts_low

  pub back_segments : segments_by (ends (front ++ back)) (fold (front ++ back)) back ≡ segments_of back
  back_segments = same_above e (ends (front ++ back)) (ends back) (fold (front ++ back)) (fold back) back b ends_high counts_high

  pub front_records : (ks : List Record) → ks ≡ fold (front ++ back) → take (leading e ks) ks ≡ fold front
  front_records ks h =
      let w : ks ≡ fold front ++ fold back = h ∙ fold_apart in
      ap (λ l. take (leading e l) l) w ∙ ap (λ x. take x (fold front ++ fold back)) (leading_split e (fold front) (fold back) front_up back_up) ∙ take-append_seam (fold front) (fold back)

  pub back_records : (ks : List Record) → ks ≡ fold (front ++ back) → drop (leading e ks) ks ≡ fold back
  back_records ks h =
      let w : ks ≡ fold front ++ fold back = h ∙ fold_apart in
      ap (λ l. drop (leading e l) l) w ∙ ap (λ x. drop x (fold front ++ fold back)) (leading_split e (fold front) (fold back) front_up back_up) ∙ drop-append_seam (fold front) (fold back)

-- ---- the log

not_false : (b : Bool) → not b ≡ true → b ≡ false
not_false true h = absurd (false≢true h)
not_false false h = refl

pub taken_some : (k : ℕ) (ss : List Segment) → 0 < length ss → take (suc k) ss ≡ [] → ⊥
taken_some k [] h e = absurd (omega (arith, h))
taken_some k (s ∷ ss) h e = absurd (cc)

-- the first segments of the log of a steady run are those of its front
pub frozen_log : (log : LogState) (run : List Record) (home k : ℕ) → IsLogOf log [] run → IsSteady run → 0 < k → 0 < length log.segments →
    (front : List Record) × (back : List Record) × (run ≡ front ++ back) × IsLogOf (frozen_to log home k) front back
frozen_log log run home zero h s p q = absurd (omega (arith, p))
frozen_log log run home (suc k) h s p q = go m.0 m.1 m.2
  where
    m : (front : List Record) × (back : List Record) × IsSplit (ends run) (fold run) run (suc k) front back
    m = split_at (ends run) (fold run) run (run_ends run h.rising) (suc k)

    go : (front back : List Record) → IsSplit (ends run) (fold run) run (suc k) front back → (front : List Record) × (back : List Record) × (run ≡ front ++ back) × IsLogOf (frozen_to log home (suc k)) front back
    go [] back d = absurd (taken_some k log.segments q (ap (take (suc k)) h.segments ∙ d.taken))
    go (o ∷ os) back d =
        let e : ℕ = last_number o os in
        let r : IsRising ((o ∷ os) ++ back) = subst IsRising d.run_is h.rising in
        let a : AreUpTo (last_number o os) (o ∷ os) = last_upto o os back r in
        let b : AreAbove (last_number o os) back = last_above o os back r in
        let n : IsJoined (last_number o os) [] ((o ∷ os) ++ back) → ⊥ = cut_fact (last_number o os) [] ((o ∷ os) ++ back) (not_false (is_joined (last_number o os) [] ((o ∷ os) ++ back)) (subst (λ l. ends l (last_number o os) ≡ true) d.run_is (last_cut (ends run) o os d.ended))) in
        let t : IsSteady ((o ∷ os) ++ back) = subst IsSteady d.run_is s in
        let first : take (suc k) log.segments ≡ segments_of (o ∷ os) = ap (take (suc k)) h.segments ∙ d.taken ∙ ap (λ l. segments_by (ends l) (fold l) (o ∷ os)) d.run_is ∙ front_segments (last_number o os) (o ∷ os) back t a b n in
        let rest : drop (suc k) log.segments ≡ segments_of back = ap (drop (suc k)) h.segments ∙ d.left ∙ ap (λ l. segments_by (ends l) (fold l) back) d.run_is ∙ back_segments (last_number o os) (o ∷ os) back t a b n in
        let at : end_of (take (suc k) log.segments) ≡ last_number o os = ap end_of first ∙ end_is (ends (o ∷ os)) (fold (o ∷ os)) o os in
        let whole : log.records ≡ fold ((o ∷ os) ++ back) = h.records ∙ ap fold d.run_is in (
          o ∷ os,
          back,
          d.run_is,
          record {
            rising = r;
            reached = subst (AreUpTo log.last) d.run_is h.reached;
            thawed = λ x. absurd (none-some _ (sym x));
            sent = λ x. absurd (cc);
            chunk = ap (λ x. take (leading x log.records) log.records) at ∙ front_records (last_number o os) (o ∷ os) back t a b n log.records whole;
            chunk_segments = first;
            records = ap (λ x. drop (leading x log.records) log.records) at ∙ back_records (last_number o os) (o ∷ os) back t a b n log.records whole;
            segments = rest;
          },
        )

-- ---- what may go

filled_some : (now window : ℕ) (ss : List Segment) → too_young now window (find is_filled ss) ≡ None → 0 < length ss
filled_some now window [] e = absurd (none-some Nothing (sym e))
filled_some now window (s ∷ ss) e = omega arith

first_some : (ss : List Segment) → 0 < length ss → 0 < first_filled ss
first_some [] h = absurd (omega (arith, h))
first_some (s ∷ ss) h = go (is_filled s)
  where
    go : (b : Bool) → 0 < cond b 1 (1 + first_filled ss)
    go true = omega arith
    go false = omega arith

pub may_go : (f : Option Frozen) (now window cap : ℕ) (ss : List Segment) → freeze_refusal f now window ss ≡ None → (0 < chunk_length now window cap ss) × (0 < length ss)
may_go (Some c) now window cap ss e = absurd (none-some (FreezeFault.Frozen c.number c.home) (sym e))
may_go None now window cap ss e = let n = filled_some now window ss e in let m = first_some ss n in (omega (arith, m), n)
