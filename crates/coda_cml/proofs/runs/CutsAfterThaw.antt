-- the segments after a thaw
use Rattle.std.proofs.Common.{◌≡◌, ℕ, ◌≤◌, ◌<◌, List, [], ◌∷◌, ◌++◌, refl, sym, ap, ◌∙◌, subst, ⊎_elim, inl, inr, ◌⊎◌, ◌↔◌, arith}
use Rattle.std.proofs.lemmas.Bool.{cases_lt, cond_both, false≢true}
use Rattle.coda_fid.specs.declared.op.Record.{Record}
use Rattle.coda_fid.specs.Op.{carried}
use Rattle.coda_cancel.specs.Handing.{hand, nothing}
use Rattle.coda_cancel.specs.Dropping.{drops, mentioning}
use Rattle.coda_cancel.specs.Cancel.{add, added, appended, cancels, debt, fold, kept, object, without}
use Rattle.coda_cancel.specs.Numbers.{AreAbove, AreUpTo, IsRising, numbers}
use Rattle.coda_cml.specs.Steady.{GoesOn, IsSteady}
use Rattle.coda_cml.specs.Segments.{records_upto}
use Rattle.coda_cml.proofs.runs.AlmostAlike.{append_nil}
use Rattle.coda_cml.proofs.runs.ThawedFold.{added-append, goes_split, mentions_in_added, thaw}
use Rattle.coda_cml.proofs.runs.FrontFolds.{above_append, above_kept, above_without, behind, joined_later, up_added, upto_front}
use Rattle.coda_cml.proofs.runs.JoinedCounts.{not_joined}
use Rattle.coda_cml.proofs.runs.StillThere.{Carry, carry_run, joined_too}
use Rattle.coda_cml.proofs.runs.JoinedNumbers.{In, IsJoined}

module _ (j : ℕ) where
  pub above_add : (rs : List Record) (o : Record) → AreAbove j rs → j < o.number → AreAbove j (add rs o)
  above_add rs o a h = cond_both (cancels o.op rs) (without (object (carried o.op)) rs) (appended rs o) (AreAbove j) (λ e. above_without j (object (carried o.op)) rs a) (λ e. above_append j (kept (drops o.op) nothing rs) (hand (debt (drops o.op) nothing rs) o ∷ []) (above_kept j (drops o.op) nothing rs a) (h, tt))

  pub above_added : (rs os : List Record) → AreAbove j rs → AreAbove j os → AreAbove j (added rs os)
  above_added rs [] a b = a
  above_added rs (o ∷ os) a b = above_added (add rs o) os (above_add rs o a b.0) b.1

  -- no operation with a number up to j joins there
  pub none_up : (rs os : List Record) → AreUpTo j os → IsJoined j rs os → ⊥
  none_up rs [] a x = x
  none_up rs (o ∷ os) a (inl x) = let h = x.3 in let k = a.0 in omega arith
  none_up rs (o ∷ os) a (inr x) = none_up (add rs o) os a.1 x

  numbers_above : (t : _) (rs : List Record) → AreAbove j rs → (i : ℕ) → In i (numbers t rs) → j < i
  numbers_above t [] a i h = absurd h
  numbers_above t (r ∷ rs) a i h = cond_both (t r.op) (r.number ∷ numbers t rs) (numbers t rs) (λ l. In i l → j < i) (λ e. elim [ inl n ↦ (let k = a.0 in omega arith) | inr m ↦ numbers_above t rs a.1 i m ]) (λ e m. numbers_above t rs a.1 i m) h

  pub none_above : (rs os : List Record) → AreAbove j rs → AreAbove j os → IsJoined j rs os → ⊥
  none_above rs [] a b x = x
  none_above rs (o ∷ os) a b (inl x) =
      let h : j < x.0 = cond_both (cancels o.op rs) (numbers (mentioning (object (carried o.op))) rs) (numbers (drops o.op) rs) (λ l. In x.0 l → j < x.0) (λ e. numbers_above (mentioning (object (carried o.op))) rs a x.0) (λ e. numbers_above (drops o.op) rs a x.0) x.1 in
      let k = x.2 in omega arith
  none_above rs (o ∷ os) a b (inr x) = none_above (add rs o) os (above_add rs o a b.0) b.1 x

  pub parts : (rs front back : List Record) → IsJoined j rs (front ++ back) → IsJoined j rs front ⊎ IsJoined j (added rs front) back
  parts rs [] back x = inr x
  parts rs (o ∷ front) back (inl x) = inl (inl x)
  parts rs (o ∷ front) back (inr x) = ⊎_elim (λ (y : IsJoined j (add rs o) front). inl (inr y)) (λ (y : IsJoined j (added (add rs o) front) back). inr y) (parts (add rs o) front back x)

  pub sooner : (rs front back : List Record) → IsJoined j rs front → IsJoined j rs (front ++ back)
  sooner rs [] back x = absurd x
  sooner rs (o ∷ front) back (inl x) = inl x
  sooner rs (o ∷ front) back (inr x) = inr (sooner (add rs o) front back x)

  pub past : (rs low high : List Record) → AreUpTo j low → IsJoined j rs (low ++ high) → IsJoined j (added rs low) high
  past rs low high a x = ⊎_elim (λ (y : IsJoined j rs low). absurd (none_up rs low a y)) (λ (y : IsJoined j (added rs low) high). y) (parts rs low high x)

  stays_upto : (front rs os : List Record) → AreUpTo j front → AreAbove j rs → AreAbove j os → (IsJoined j (front ++ rs) os → ⊥) → records_upto j (added (front ++ rs) os) ≡ records_upto j (front ++ rs)
  stays_upto front rs os a b c n =
      let m : (left : List Record) × (added (front ++ rs) os ≡ front ++ left) × AreAbove j left = behind j front rs os a b c n in
      ap (records_upto j) m.1 ∙ upto_front j front m.0 a m.2 ∙ sym (upto_front j front rs a b)

  stays_low : (front os : List Record) → AreUpTo j front → AreAbove j os → (IsJoined j front os → ⊥) → records_upto j (added front os) ≡ records_upto j front
  stays_low front os a c n = subst (λ l. records_upto j (added l os) ≡ records_upto j l) (append_nil front) (stays_upto front [] os a tt c (λ x. n (subst (λ l. IsJoined j l os) (append_nil front) x)))

  pub begun : (x : List Record) → Carry (fold x) x []
  begun x = record { about = λ f h. mentions_in_added f [] x refl h; fresh = λ f h. absurd (false≢true h); safe = tt; lean = tt }

  abbrev Cut : List Record → List Record → Type 0
  Cut rs os = IsJoined j rs os → ⊥

  -- where j lies in the tail
  module _ (x lo hi : List Record) (ax : AreUpTo j x) (al : AreUpTo j lo) (ah : AreAbove j hi) (s : IsSteady (x ++ (lo ++ hi))) where
    g : GoesOn x (fold x) (lo ++ hi)
    g = goes_split [] [] x (lo ++ hi) s

    mid : (added (fold x) (fold lo) ≡ added (fold x) lo) × Carry (fold x) (x ++ lo) (fold lo) × GoesOn (x ++ lo) (added (fold x) (fold lo)) hi
    mid = carry_run (fold x) x [] lo hi (begun x) g

    all_same : added (fold x) (fold (lo ++ hi)) ≡ added (added (fold x) (fold lo)) hi
    all_same = thaw x (lo ++ hi) s ∙ added-append [] x (lo ++ hi) ∙ added-append (fold x) lo hi ∙ ap (λ l. added l hi) (sym mid.0)

    state_up : AreUpTo j (added (fold x) (fold lo))
    state_up = up_added j (fold x) (fold lo) (up_added j [] x tt ax) (up_added j [] lo tt al)

    whole_high : IsJoined j [] (x ++ (lo ++ hi)) → IsJoined j (added (fold x) (fold lo)) hi
    whole_high y = subst (λ l. IsJoined j l hi) (sym mid.0) (past (fold x) lo hi al (past [] x (lo ++ hi) ax y))

    high_whole : IsJoined j (added (fold x) (fold lo)) hi → IsJoined j [] (x ++ (lo ++ hi))
    high_whole y = joined_later j [] x (lo ++ hi) (joined_later j (fold x) lo hi (subst (λ l. IsJoined j l hi) mid.0 y))

    tail_cut : Cut [] (x ++ (lo ++ hi)) → Cut [] (lo ++ hi)
    tail_cut n y = n (high_whole (joined_too j (fold x) (x ++ lo) (fold lo) hi mid.1 mid.2 (past [] lo hi al y)))

    module _ (n : Cut [] (lo ++ hi)) where
      split : (left : List Record) × (fold (lo ++ hi) ≡ fold lo ++ left) × AreAbove j left
      split =
          let m = behind j (fold lo) [] hi (up_added j [] lo tt al) tt ah (λ y. n (joined_later j [] lo hi (subst (λ l. IsJoined j l hi) (append_nil (fold lo)) y))) in
          (m.0, added-append [] lo hi ∙ ap (λ l. added l hi) (sym (append_nil (fold lo))) ∙ m.1, m.2)

      left_same : added (added (fold x) (fold lo)) split.0 ≡ added (added (fold x) (fold lo)) hi
      left_same = sym (added-append (fold x) (fold lo) split.0) ∙ ap (added (fold x)) (sym split.1) ∙ all_same

      thaw_left : IsJoined j (fold x) (fold (lo ++ hi)) → IsJoined j (added (fold x) (fold lo)) split.0
      thaw_left y = past (fold x) (fold lo) split.0 (up_added j [] lo tt al) (subst (λ l. IsJoined j (fold x) l) split.1 y)

      left_thaw : IsJoined j (added (fold x) (fold lo)) split.0 → IsJoined j (fold x) (fold (lo ++ hi))
      left_thaw y = subst (λ l. IsJoined j (fold x) l) (sym split.1) (joined_later j (fold x) (fold lo) split.0 y)

      thaw_cut : Cut [] (x ++ (lo ++ hi)) → Cut (fold x) (fold (lo ++ hi))
      thaw_cut m y = not_joined j (added (fold x) (fold lo)) split.0 split.2 (ap (records_upto j) left_same ∙ stays_low (added (fold x) (fold lo)) hi state_up ah (λ z. m (high_whole z))) (thaw_left y)

      whole_cut : Cut (fold x) (fold (lo ++ hi)) → Cut [] (x ++ (lo ++ hi))
      whole_cut m y = not_joined j (added (fold x) (fold lo)) hi ah (ap (records_upto j) (sym left_same) ∙ stays_low (added (fold x) (fold lo)) split.0 state_up split.2 (λ z. m (left_thaw z))) (whole_high y)

    pub in_tail : Cut [] (x ++ (lo ++ hi)) ↔ Cut [] x × Cut [] (lo ++ hi) × Cut (fold x) (fold (lo ++ hi))
    in_tail = (λ n. ((λ y. none_up [] x ax y), tail_cut n, thaw_cut (tail_cut n) n), λ k. whole_cut k.1 k.2)

  -- where j lies in the front
  module _ (lo hi b : List Record) (al : AreUpTo j lo) (ah : AreAbove j hi) (ab : AreAbove j b) (s : IsSteady ((lo ++ hi) ++ b)) where
    same_end : added (fold (lo ++ hi)) (fold b) ≡ added (fold (lo ++ hi)) b
    same_end = thaw (lo ++ hi) b s ∙ added-append [] (lo ++ hi) b

    low_up : AreUpTo j (fold lo)
    low_up = up_added j [] lo tt al

    fold_above : AreAbove j (fold b)
    fold_above = above_added [] b tt ab

    module _ (n : Cut [] (lo ++ hi)) where
      halves : (left : List Record) × (fold (lo ++ hi) ≡ fold lo ++ left) × AreAbove j left
      halves =
          let m = behind j (fold lo) [] hi low_up tt ah (λ y. n (joined_later j [] lo hi (subst (λ l. IsJoined j l hi) (append_nil (fold lo)) y))) in
          (m.0, added-append [] lo hi ∙ ap (λ l. added l hi) (sym (append_nil (fold lo))) ∙ m.1, m.2)

      still : (os : List Record) → AreAbove j os → Cut (fold (lo ++ hi)) os → records_upto j (added (fold (lo ++ hi)) os) ≡ records_upto j (fold (lo ++ hi))
      still os a m = subst (λ l. records_upto j (added l os) ≡ records_upto j l) (sym halves.1) (stays_upto (fold lo) halves.0 os low_up halves.2 a (λ y. m (subst (λ l. IsJoined j l os) (sym halves.1) y)))

    pub in_front : Cut [] ((lo ++ hi) ++ b) ↔ Cut [] (lo ++ hi) × Cut [] b × Cut (fold (lo ++ hi)) (fold b)
    in_front = (
      λ n.
          let front : Cut [] (lo ++ hi) = λ y. n (sooner [] (lo ++ hi) b y) in
          (front, (λ y. none_above [] b tt ab y), λ y. not_joined j (fold (lo ++ hi)) (fold b) fold_above (ap (records_upto j) same_end ∙ still front b ab (λ z. n (joined_later j [] (lo ++ hi) b z))) y),
      λ k y. ⊎_elim (λ (z : IsJoined j [] (lo ++ hi)). k.0 z) (λ (z : IsJoined j (fold (lo ++ hi)) b). not_joined j (fold (lo ++ hi)) b ab (ap (records_upto j) (sym same_end) ∙ still k.0 (fold b) fold_above k.2) z) (parts [] (lo ++ hi) b y),
    )

  -- a rising run, split at j
  above_more : (n : ℕ) → j < n → (rs : List Record) → AreAbove n rs → AreAbove j rs
  above_more n h [] a = tt
  above_more n h (r ∷ rs) a = ((let k = a.0 in omega arith), above_more n h rs a.1)

  pub halve : (rs : List Record) → IsRising rs → (lo : List Record) × (hi : List Record) × (rs ≡ lo ++ hi) × AreUpTo j lo × AreAbove j hi
  halve [] a = ([], [], refl, tt, tt)
  halve (r ∷ rs) a = ⊎_elim
      (λ (h : j < r.number). ([], r ∷ rs, refl, tt, (h, above_more r.number h rs a.0)))
      (λ (h : r.number ≤ j). let m = halve rs a.1 in (r ∷ m.0, m.1, ap (λ l. r ∷ l) m.2, (h, m.3), m.4))
      (cases_lt j r.number)

  rising_back : (front back : List Record) → IsRising (front ++ back) → IsRising back
  rising_back [] back a = a
  rising_back (r ∷ front) back a = rising_back front back a.1

  rising_front : (front back : List Record) → IsRising (front ++ back) → IsRising front
  rising_front [] back a = tt
  rising_front (r ∷ front) back a = (first front back a.0, rising_front front back a.1)
    where
      first : (front back : List Record) → AreAbove r.number (front ++ back) → AreAbove r.number front
      first [] back h = tt
      first (x ∷ front) back h = (h.0, first front back h.1)

  -- what comes after a greater number is greater
  above_back : (lo : List Record) (r : Record) (hi back : List Record) → IsRising ((lo ++ r ∷ hi) ++ back) → j < r.number → AreAbove j back
  above_back [] r hi back a h = above_more r.number h back (second hi back a.0)
    where
      second : (front back : List Record) → AreAbove r.number (front ++ back) → AreAbove r.number back
      second [] back k = k
      second (x ∷ front) back k = second front back k.1
  above_back (y ∷ lo) r hi back a h = above_back lo r hi back a.1 h

  pub cuts : (front back : List Record) → IsSteady (front ++ back) → IsRising (front ++ back) → Cut [] (front ++ back) ↔ Cut [] front × Cut [] back × Cut (fold front) (fold back)
  cuts front back s a = go (halve front (rising_front front back a)).1 (halve front (rising_front front back a)).2 (halve front (rising_front front back a)).4
    where
      lo : List Record
      lo = (halve front (rising_front front back a)).0

      al : AreUpTo j (halve front (rising_front front back a)).0
      al = (halve front (rising_front front back a)).3

      Goal : List Record → List Record → Type 0
      Goal f b = Cut [] (f ++ b) ↔ Cut [] f × Cut [] b × Cut (fold f) (fold b)

      go : (hi : List Record) → front ≡ (halve front (rising_front front back a)).0 ++ hi → AreAbove j hi → Cut [] (front ++ back) ↔ Cut [] front × Cut [] back × Cut (fold front) (fold back)
      go [] e ah =
          let b = halve back (rising_back front back a) in
          let up : AreUpTo j front = subst (AreUpTo j) (sym (e ∙ append_nil _)) al in
          subst (λ z. Cut [] (front ++ z) ↔ Cut [] front × Cut [] z × Cut (fold front) (fold z)) (sym b.2) (in_tail front b.0 b.1 up b.3 b.4 (subst (λ z. IsSteady (front ++ z)) b.2 s))
      go (r ∷ hi) e ah =
          subst (λ z. Cut [] (z ++ back) ↔ Cut [] z × Cut [] back × Cut (fold z) (fold back)) (sym e)
          (in_front (halve front (rising_front front back a)).0 (r ∷ hi) back al ah (above_back (halve front (rising_front front back a)).0 r hi back (subst (λ z. IsRising (z ++ back)) e a) ah.0) (subst (λ z. IsSteady (z ++ back)) e s))
