-- Where a run may be cut, what is behind goes on as if it stood alone.
use Rattle.std.proofs.Common.{◌≡◌, ℕ, ◌≤◌, Bool, true, false, cond, ◌&&◌, ◌||◌, List, [], ◌∷◌, ◌++◌, refl, sym, ap, ◌∙◌, subst, append_assoc, ⊎_elim, inl, inr}
use Rattle.std.specs.Prelude.{nat_le, nat_lt}
use Rattle.std.specs.List.{list_any}
use Rattle.std.proofs.lemmas.Bool.{false_from_ne_true, false≢true, or_parts, or_cases}
use Rattle.coda_fid.specs.declared.fid.Fid.{Fid}
use Rattle.coda_fid.specs.declared.op.Op.{Op}
use Rattle.coda_fid.specs.declared.op.Record.{Record}
use Rattle.coda_fid.specs.Op.{carried}
use Rattle.coda_cancel.specs.Handing.{nothing, hand}
use Rattle.coda_cancel.specs.Dropping.{mentioning, creates, drops}
use Rattle.coda_cancel.specs.Cancel.{kept, debt, without, cancels, object, others, add, added, fold}
use Rattle.coda_cancel.specs.Numbers.{numbers, dropped, AreUpTo, AreAbove}
use Rattle.coda_cancel.proofs.Debts.{kept-append, debt-append}
use Rattle.coda_cml.specs.Steady.{any_record, GoesOn, IsSteady}
use Rattle.coda_cml.specs.Segments.{is_joined}
use Rattle.coda_cml.proofs.runs.JoinedNumbers.{In, IsJoined}
use Rattle.coda_cml.proofs.runs.OtherRecords.{others-append}
use Rattle.coda_cml.proofs.runs.InStep.{add_stays, add_goes}
use Rattle.coda_cml.proofs.runs.WithoutObject.{any-append, without-append, without_none}
use Rattle.coda_cml.proofs.runs.ThawedFold.{goes_split, mentions_in_added, cancels_at, cancels_created, creates_in_add}
use Rattle.coda_cml.proofs.runs.FrontFolds.{found, kept_none}
use Rattle.coda_cml.proofs.runs.StillThere.{numbers-append}

-- no operation creates what the front mentions
abbrev pub AreFresh : List Record → List Record → Type 0
AreFresh front [] = Unit {0}
AreFresh front (o ∷ os) = ((f : Fid) → creates f o.op ≡ true → any_record (mentioning f) front ≡ false) × AreFresh front os

numbers_none : (t : Op → Bool) (rs : List Record) → any_record t rs ≡ false → numbers t rs ≡ []
numbers_none t [] e = refl
numbers_none t (r ∷ rs) e = let k = or_parts (t r.op) (any_record t rs) e in ap (λ b. cond b (r.number ∷ numbers t rs) (numbers t rs)) k.0 ∙ numbers_none t rs k.1

numbers_behind : (t : Op → Bool) (front rs : List Record) → any_record t front ≡ false → numbers t (front ++ rs) ≡ numbers t rs
numbers_behind t front rs e = numbers-append t front rs ∙ ap (λ l. l ++ numbers t rs) (numbers_none t front e)

module _ (j : ℕ) where
  -- an operation that drops nothing of the front
  add_alone : (front rs : List Record) (o : Record) → AreUpTo j front → ((i : ℕ) → In i (dropped (front ++ rs) o) → i ≤ j → ⊥) → ((f : Fid) → any_record (creates f) rs ≡ true → any_record (mentioning f) front ≡ false) →
      (add (front ++ rs) o ≡ front ++ add rs o) × (dropped (front ++ rs) o ≡ dropped rs o)
  add_alone front rs o a never fresh = go (cancels o.op (front ++ rs)) refl
    where
      f : Fid
      f = object (carried o.op)

      silent : (t : Op → Bool) → ((i : ℕ) → In i (numbers t (front ++ rs)) → i ≤ j → ⊥) → any_record t front ≡ false
      silent t n = false_from_ne_true _ (λ e. let k = found t j front rs a e in n k.0 k.1 k.2)

      same : any_record (mentioning (object (carried o.op))) front ≡ false → cancels o.op (front ++ rs) ≡ cancels o.op rs
      same k = cancels_at o.op (front ++ rs) rs (others-append (object (carried o.op)) front rs ∙ ap (λ l. l ++ others (object (carried o.op)) rs) (without_none (object (carried o.op)) front k).2)

      go : (c : Bool) → cancels o.op (front ++ rs) ≡ c → (add (front ++ rs) o ≡ front ++ add rs o) × (dropped (front ++ rs) o ≡ dropped rs o)
      go true e =
          let k : any_record (mentioning (object (carried o.op))) front ≡ false = silent (mentioning (object (carried o.op))) (λ i x. never i (subst (In i) (sym (ap (λ c. cond c (numbers (mentioning (object (carried o.op))) (front ++ rs)) (numbers (drops o.op) (front ++ rs))) e)) x)) in
          let b : cancels o.op rs ≡ true = sym (same k) ∙ e in (
            add_goes (front ++ rs) o e ∙ without-append (object (carried o.op)) front rs ∙ ap (λ l. l ++ without (object (carried o.op)) rs) (without_none (object (carried o.op)) front k).0 ∙ ap (λ l. front ++ l) (sym (add_goes rs o b)),
            ap (λ c. cond c (numbers (mentioning (object (carried o.op))) (front ++ rs)) (numbers (drops o.op) (front ++ rs))) e ∙ numbers_behind (mentioning (object (carried o.op))) front rs k
                ∙ sym (ap (λ c. cond c (numbers (mentioning (object (carried o.op))) rs) (numbers (drops o.op) rs)) b),
          )
      go false e =
          let k : any_record (drops o.op) front ≡ false = silent (drops o.op) (λ i x. never i (subst (In i) (sym (ap (λ c. cond c (numbers (mentioning (object (carried o.op))) (front ++ rs)) (numbers (drops o.op) (front ++ rs))) e)) x)) in
          let b : cancels o.op rs ≡ false = false_from_ne_true _ (λ h. false≢true (sym e ∙ same (fresh (object (carried o.op)) (cancels_created o.op rs h)) ∙ h)) in
          let n = kept_none (drops o.op) front k in (
            add_stays (front ++ rs) o e
                ∙ (λ i. kept-append (drops o.op) nothing front rs i ++ hand (debt-append (drops o.op) nothing front rs i) o ∷ [])
                ∙ (λ i. (n.0 i ++ kept (drops o.op) (n.1 i) rs) ++ hand (debt (drops o.op) (n.1 i) rs) o ∷ [])
                ∙ append_assoc front (kept (drops o.op) nothing rs) (hand (debt (drops o.op) nothing rs) o ∷ [])
                ∙ ap (λ l. front ++ l) (sym (add_stays rs o b)),
            ap (λ c. cond c (numbers (mentioning (object (carried o.op))) (front ++ rs)) (numbers (drops o.op) (front ++ rs))) e ∙ numbers_behind (drops o.op) front rs k
                ∙ sym (ap (λ c. cond c (numbers (mentioning (object (carried o.op))) rs) (numbers (drops o.op) rs)) b),
          )

  pub run_alone : (front rs os : List Record) → AreUpTo j front → AreAbove j os → (IsJoined j (front ++ rs) os → ⊥) → ((f : Fid) → any_record (creates f) rs ≡ true → any_record (mentioning f) front ≡ false) → AreFresh front os →
      (added (front ++ rs) os ≡ front ++ added rs os) × ((n : ℕ) → is_joined n (front ++ rs) os ≡ is_joined n rs os)
  run_alone front rs [] a b n fresh new = (refl, λ m. refl)
  run_alone front rs (o ∷ os) a b n fresh new =
      let k : (add (front ++ rs) o ≡ front ++ add rs o) × (dropped (front ++ rs) o ≡ dropped rs o) = add_alone front rs o a (λ i x y. n (inl (i, x, y, b.0))) fresh in
      let later : (f : Fid) → any_record (creates f) (add rs o) ≡ true → any_record (mentioning f) front ≡ false =
      λ f h. ⊎_elim (λ (c : any_record (creates f) rs ≡ true). fresh f c) (λ (c : creates f o.op ≡ true). new.0 f c) (or_cases (any_record (creates f) rs) (creates f o.op) (creates_in_add f rs o h)) in
      let m = run_alone front (add rs o) os a b.1 (λ x. n (inr (subst (λ l. IsJoined j l os) (sym k.0) x))) later new.1 in (
        ap (λ l. added l os) k.0 ∙ m.0,
        λ i. (λ z. (nat_lt i o.number && list_any (λ gone. nat_le gone i) (k.1 z)) || is_joined i (k.0 z) os) ∙ ap (λ x. (nat_lt i o.number && list_any (λ gone. nat_le gone i) (dropped rs o)) || x) (m.1 i),
      )

-- a steady run creates nothing that its front mentions
steady_fresh : (before front rs os : List Record) → ((f : Fid) → any_record (mentioning f) before ≡ false → any_record (mentioning f) front ≡ false) → GoesOn before rs os → AreFresh front os
steady_fresh before front rs [] sub g = tt
steady_fresh before front rs (o ∷ os) sub g = (
  λ f h. sub f (g.0 f h),
  steady_fresh (before ++ o ∷ []) front (add rs o) os (λ f h. sub f (or_parts (any_record (mentioning f) before) (any_record (mentioning f) (o ∷ [])) (sym (any-append (mentioning f) before (o ∷ [])) ∙ h)).0) g.2,
)

pub back_fresh : (front back : List Record) → IsSteady (front ++ back) → AreFresh (fold front) back
back_fresh front back s = steady_fresh front (fold front) (added [] front) back (λ f h. mentions_in_added f [] front refl h) (goes_split [] [] front back s)
