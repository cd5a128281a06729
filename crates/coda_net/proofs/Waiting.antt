-- Which letter waits under which number, after a post and after a loss.
use Rattle.std.proofs.Common.{◌≡◌, ℕ, zero, suc, ◌+◌, ◌≤◌, ◌<◌, Bool, true, false, List, [], ◌∷◌, ◌++◌, nat_eq, Option, Some, None, refl, sym, ap, subst, ◌∙◌, arith, ◌⊎◌, inl, inr}
use Rattle.std.specs.Prelude.{cond}
use Rattle.std.proofs.lemmas.Bool.{cases_Bool, eqb-true, eq-eqb, ne_eqb}
use Rattle.coda_net.specs.declared.letter.Letter.{Letter}
use Rattle.coda_net.specs.Pool.{Letters, without_oldest, without_oldest_of, without, letter_at, lost_for, posted_to, AreRising, AreUpTo, AreKept}
use Rattle.coda_net.specs.Laws.{LettersWaitUntilLost}
use Rattle.coda_net.proofs.Losing.{not_given}
use Rattle.coda_net.proofs.Kept.{oldest_lossy, oldest_safe, rising_without_oldest, up_left}
use Rattle.coda_net.proofs.Found.{some_is, some_isnt, true_or_false, at_first, at_later, at_above}

-- what stands behind is looked at where nothing before has the number
at_behind : (ls ks : Letters) (number : ℕ) → letter_at ls number ≡ None → letter_at (ls ++ ks) number ≡ letter_at ks number
at_behind [] ks number e = refl
at_behind (l ∷ ls) ks number e = elim (cases_Bool (nat_eq number l.0)) [
  | inl that ↦ absurd (some_isnt l.1 (subst (λ (b : Bool). cond b (Some l.1) (letter_at ls number) ≡ None) that e))
  | inr other ↦ rw other (at_behind ls ks number (subst (λ (b : Bool). cond b (Some l.1) (letter_at ls number) ≡ None) other e))
]

-- and not where one has
at_before : (ls ks : Letters) (number : ℕ) (x : Letter) → letter_at ls number ≡ Some x → letter_at (ls ++ ks) number ≡ Some x
at_before [] ks number x e = absurd cc
at_before (l ∷ ls) ks number x e = elim (cases_Bool (nat_eq number l.0)) [
  | inl that ↦ rw that (subst (λ (b : Bool). cond b (Some l.1) (letter_at ls number) ≡ Some x) that e)
  | inr other ↦ rw other (at_before ls ks number x (subst (λ (b : Bool). cond b (Some l.1) (letter_at ls number) ≡ Some x) other e))
]

-- what waits where the oldest is lost waited before
was_there : (before : ℕ) (ls : Letters) (number : ℕ) (x : Letter) → AreRising before ls → letter_at (without_oldest ls) number ≡ Some x → letter_at ls number ≡ Some x
was_there before [] number x rising e = e
was_there before (l ∷ ls) number x rising e = elim (cases_Bool l.1.lossy) [
  | inl lossy ↦
      let behind : letter_at ls number ≡ Some x = subst (λ (ks : Letters). letter_at ks number ≡ Some x) (oldest_lossy l ls lossy) e in
      at_later l ls number (λ same. omega (arith, same, at_above l.0 ls number x rising.1 behind)) ∙ behind
  | inr safe ↦
      let kept : letter_at (l ∷ without_oldest ls) number ≡ Some x = subst (λ (ks : Letters). letter_at ks number ≡ Some x) (oldest_safe l ls safe) e in
      elim (cases_Bool (nat_eq number l.0)) [
        | inl that ↦ rw that (subst (λ (b : Bool). cond b (Some l.1) (letter_at (without_oldest ls) number) ≡ Some x) that kept)
        | inr other ↦ rw other (was_there l.0 ls number x rising.1 (subst (λ (b : Bool). cond b (Some l.1) (letter_at (without_oldest ls) number) ≡ Some x) other kept))
      ]
]

were_there : (count before : ℕ) (ls : Letters) (number : ℕ) (x : Letter) → AreRising before ls → letter_at (without_oldest_of count ls) number ≡ Some x → letter_at ls number ≡ Some x
were_there zero before ls number x rising e = e
were_there (suc count) before ls number x rising e =
    was_there before ls number x rising (were_there count before (without_oldest ls) number x (rising_without_oldest before ls rising) e)

-- a letter that may not be lost stays
stays_there : (ls : Letters) (number : ℕ) (x : Letter) → x.lossy ≡ false → letter_at ls number ≡ Some x → letter_at (without_oldest ls) number ≡ Some x
stays_there [] number x safe e = e
stays_there (l ∷ ls) number x safe e = elim (cases_Bool l.1.lossy) [
  | inl lossy ↦ elim (cases_Bool (nat_eq number l.0)) [
    | inl that ↦
        let is : l.1 ≡ x = some_is l.1 x (subst (λ (b : Bool). cond b (Some l.1) (letter_at ls number) ≡ Some x) that e) in
        absurd (true_or_false l.1.lossy lossy (ap (λ (y : Letter). y.lossy) is ∙ safe))
    | inr other ↦ rw (oldest_lossy l ls lossy) (subst (λ (b : Bool). cond b (Some l.1) (letter_at ls number) ≡ Some x) other e)
  ]
  | inr keeps ↦ rw (oldest_safe l ls keeps) (elim (cases_Bool (nat_eq number l.0)) [
    | inl that ↦ rw that (subst (λ (b : Bool). cond b (Some l.1) (letter_at ls number) ≡ Some x) that e)
    | inr other ↦ rw other (stays_there ls number x safe (subst (λ (b : Bool). cond b (Some l.1) (letter_at ls number) ≡ Some x) other e))
  ])
]

stay_there : (count : ℕ) (ls : Letters) (number : ℕ) (x : Letter) → x.lossy ≡ false → letter_at ls number ≡ Some x → letter_at (without_oldest_of count ls) number ≡ Some x
stay_there zero ls number x safe e = e
stay_there (suc count) ls number x safe e = stay_there count (without_oldest ls) number x safe (stays_there ls number x safe e)

-- ---- a new letter

in_front : (ls ks : Letters) (number : ℕ) (x : Letter) → letter_at ks number ≡ None → letter_at (ls ++ ks) number ≡ Some x → letter_at ls number ≡ Some x
in_front [] ks number x none e = absurd (some_isnt x (sym e ∙ none))
in_front (l ∷ ls) ks number x none e = elim (cases_Bool (nat_eq number l.0)) [
  | inl that ↦ rw that (subst (λ (b : Bool). cond b (Some l.1) (letter_at (ls ++ ks) number) ≡ Some x) that e)
  | inr other ↦ rw other (in_front ls ks number x none (subst (λ (b : Bool). cond b (Some l.1) (letter_at (ls ++ ks) number) ≡ Some x) other e))
]

new_waits : (ls : Letters) (posted : ℕ) (letter : Letter) → AreKept ls posted → letter_at (posted_to ls (posted + 1) letter) (posted + 1) ≡ Some letter
new_waits ls posted letter kept =
    let left : Letters = without_oldest_of (lost_for letter ls) ls in
    at_behind left ((posted + 1, letter) ∷ []) (posted + 1) (not_given left posted (posted + 1) (up_left (lost_for letter ls) posted ls kept.given) (omega arith))
    ∙ at_first (posted + 1, letter) [] (posted + 1) refl

older_is_itself : (ls : Letters) (posted number : ℕ) (letter x : Letter) → AreKept ls posted → number ≤ posted → letter_at (posted_to ls (posted + 1) letter) number ≡ Some x → letter_at ls number ≡ Some x
older_is_itself ls posted number letter x kept le e =
    let left : Letters = without_oldest_of (lost_for letter ls) ls in
    let not_new : letter_at ((posted + 1, letter) ∷ []) number ≡ None = at_later (posted + 1, letter) [] number (λ same. omega (arith, le, same)) in
    were_there (lost_for letter ls) 0 ls number x kept.rising (in_front left ((posted + 1, letter) ∷ []) number x not_new e)

-- ---- a lost letter

none_above_all : (before : ℕ) (ls : Letters) (number : ℕ) → number < before → AreRising before ls → letter_at ls number ≡ None
none_above_all before [] number lt rising = refl
none_above_all before (l ∷ ls) number lt rising = at_later l ls number (λ same. omega (arith, lt, same, rising.0)) ∙ none_above_all l.0 ls number (omega (arith, lt, rising.0)) rising.1

none_above : (before : ℕ) (ls : Letters) (number : ℕ) → number ≡ before → AreRising before ls → letter_at ls number ≡ None
none_above before [] number e rising = refl
none_above before (l ∷ ls) number e rising = at_later l ls number (λ same. omega (arith, e, same, rising.0)) ∙ none_above_all l.0 ls number (omega (arith, e, rising.0)) rising.1

gone_at : (before : ℕ) (ls : Letters) (number : ℕ) → AreRising before ls → letter_at (without ls number) number ≡ None
gone_at before [] number rising = refl
gone_at before (l ∷ ls) number rising = elim (cases_Bool (nat_eq number l.0)) [
  | inl that ↦ rw that (none_above l.0 ls number (eqb-true number l.0 that) rising.1)
  | inr other ↦ rw (other, other) (gone_at l.0 ls number rising.1)
]

others_at : (ls : Letters) (number other : ℕ) → (other ≡ number → ⊥) → letter_at (without ls number) other ≡ letter_at ls other
others_at [] number other ne = refl
others_at (l ∷ ls) number other ne = elim (cases_Bool (nat_eq number l.0)) [
  | inl that ↦ rw that (sym (at_later l ls other (λ same. ne (same ∙ sym (eqb-true number l.0 that)))))
  | inr differs ↦ rw differs (ap (λ (o : Option Letter). cond (nat_eq other l.0) (Some l.1) o) (others_at ls number other ne))
]

pub letters_wait : LettersWaitUntilLost
letters_wait = record {
  waits = new_waits;
  is_itself = older_is_itself;
  stays = λ ls posted number letter x kept safe e. at_before (without_oldest_of (lost_for letter ls) ls) ((posted + 1, letter) ∷ []) number x (stay_there (lost_for letter ls) ls number x safe e);
  gone = λ ls number rising. gone_at 0 ls number rising;
  others_stay = others_at;
}
