-- What waits once a letter is trimmed.
use Rattle.std.proofs.Common.{◌≡◌, ℕ, zero, suc, ◌+◌, ◌≤◌, Bool, List, [], ◌∷◌, ◌++◌, length, take, drop, nat_eq, Option, Some, None, option_map, refl, sym, ap, subst, ◌∙◌, arith, inl, inr}
use Rattle.std.specs.Prelude.{cond, if◌then◌else◌}
use Rattle.std.specs.Map.{keys_of, values_of, set_value}
use Rattle.std.proofs.lemmas.Bool.{cases_Bool, eqb-true}
use Rattle.std.proofs.lemmas.List.{length-take-le}
use Rattle.coda_net.specs.declared.letter.Letter.{Letter}
use Rattle.coda_net.specs.Pool.{Letters, lossy_count, lossy_bytes, cut_to, trimmed, letter_at, AreRising, AreUpTo, AreKept}
use Rattle.coda_net.specs.Laws.{IsFrontOf, TrimmedLettersWait}
use Rattle.coda_net.proofs.Losing.{within_count, within_bytes, is_within}
use Rattle.coda_net.proofs.Found.{some_is, some_isnt, at_later}

-- what is written in the place of the letter of a number
pub trimmed_set : (number most : ℕ) (ls : Letters) (x : Letter) → letter_at ls number ≡ Some x → set_value (nat_eq number) ls (cut_to most x) ≡ trimmed ls number most
trimmed_set number most [] x e = absurd cc
trimmed_set number most (l ∷ ls) x e = elim (cases_Bool (nat_eq number l.0)) [
  | inl that ↦
      let is : l.1 ≡ x = some_is l.1 x (subst (λ (b : Bool). cond b (Some l.1) (letter_at ls number) ≡ Some x) that e) in
      rw that (ap (λ (y : Letter). let ks : Letters = (l.0, cut_to most y) ∷ ls in ks) (sym is))
  | inr other ↦ rw other (ap (λ (ks : Letters). l ∷ ks) (trimmed_set number most ls x (subst (λ (b : Bool). cond b (Some l.1) (letter_at ls number) ≡ Some x) other e)))
]

pub none_trimmed : (number most : ℕ) (ls : Letters) → letter_at ls number ≡ None → trimmed ls number most ≡ ls
none_trimmed number most [] e = refl
none_trimmed number most (l ∷ ls) e = elim (cases_Bool (nat_eq number l.0)) [
  | inl that ↦ absurd (some_isnt l.1 (subst (λ (b : Bool). cond b (Some l.1) (letter_at ls number) ≡ None) that e))
  | inr other ↦ rw other (ap (λ (ks : Letters). l ∷ ks) (none_trimmed number most ls (subst (λ (b : Bool). cond b (Some l.1) (letter_at ls number) ≡ None) other e)))
]

-- ---- what is kept

rising_trimmed : (before number most : ℕ) (ls : Letters) → AreRising before ls → AreRising before (trimmed ls number most)
rising_trimmed before number most [] rising = tt
rising_trimmed before number most (l ∷ ls) rising = elim (cases_Bool (nat_eq number l.0)) [
  | inl that ↦ rw that (rising.0, rising.1)
  | inr other ↦ rw other (rising.0, rising_trimmed l.0 number most ls rising.1)
]

up_trimmed : (posted number most : ℕ) (ls : Letters) → AreUpTo posted ls → AreUpTo posted (trimmed ls number most)
up_trimmed posted number most [] up = tt
up_trimmed posted number most (l ∷ ls) up = elim (cases_Bool (nat_eq number l.0)) [
  | inl that ↦ rw that (up.0, up.1)
  | inr other ↦ rw other (up.0, up_trimmed posted number most ls up.1)
]

count_trimmed : (number most : ℕ) (ls : Letters) → lossy_count (values_of (trimmed ls number most)) ≡ lossy_count (values_of ls)
count_trimmed number most [] = refl
count_trimmed number most (l ∷ ls) = elim (cases_Bool (nat_eq number l.0)) [
  | inl that ↦ rw that refl
  | inr other ↦ rw other (ap (λ (n : ℕ). (if l.1.lossy then 1 else 0) + n) (count_trimmed number most ls))
]

first_bytes : (most : ℕ) (bytes : List ℕ) → length (take most bytes) ≤ length bytes
first_bytes zero bytes = omega arith
first_bytes (suc most) [] = omega arith
first_bytes (suc most) (b ∷ bytes) = omega (arith, first_bytes most bytes)

cut_weighs : (most : ℕ) (l : Letter) → (if l.lossy then length (take most l.bytes) else 0) ≤ (if l.lossy then length l.bytes else 0)
cut_weighs most l = elim (cases_Bool l.lossy) [
  | inl lossy ↦ rw lossy (first_bytes most l.bytes)
  | inr safe ↦ rw safe (omega arith)
]

bytes_trimmed : (number most : ℕ) (ls : Letters) → lossy_bytes (values_of (trimmed ls number most)) ≤ lossy_bytes (values_of ls)
bytes_trimmed number most [] = omega arith
bytes_trimmed number most (l ∷ ls) = elim (cases_Bool (nat_eq number l.0)) [
  | inl that ↦ rw that (omega (arith, cut_weighs most l.1))
  | inr other ↦ rw other (omega (arith, bytes_trimmed number most ls))
]

pub kept_trimmed : (ls : Letters) (posted number most : ℕ) → AreKept ls posted → AreKept (trimmed ls number most) posted
kept_trimmed ls posted number most kept =
    let count = lossy_count (values_of ls) in
    let bytes = lossy_bytes (values_of ls) in
    record {
      rising = rising_trimmed 0 number most ls kept.rising;
      given = up_trimmed posted number most ls kept.given;
      within = is_within (lossy_count (values_of (trimmed ls number most))) (lossy_bytes (values_of (trimmed ls number most)))
          (omega (arith, count_trimmed number most ls, within_count count bytes kept.within)) (omega (arith, bytes_trimmed number most ls, within_bytes count bytes kept.within));
    }

-- ---- what waits

trimmed_itself : (ls : Letters) (number most : ℕ) → letter_at (trimmed ls number most) number ≡ option_map (cut_to most) (letter_at ls number)
trimmed_itself [] number most = refl
trimmed_itself (l ∷ ls) number most = elim (cases_Bool (nat_eq number l.0)) [
  | inl that ↦ rw (that, that) refl
  | inr other ↦ rw (other, other) (trimmed_itself ls number most)
]

others_at : (ls : Letters) (number other most : ℕ) → (other ≡ number → ⊥) → letter_at (trimmed ls number most) other ≡ letter_at ls other
others_at [] number other most ne = refl
others_at (l ∷ ls) number other most ne = elim (cases_Bool (nat_eq number l.0)) [
  | inl that ↦
      let apart : other ≡ l.0 → ⊥ = λ same. ne (same ∙ sym (eqb-true number l.0 that)) in
      rw that (at_later (l.0, cut_to most l.1) ls other apart ∙ sym (at_later l ls other apart))
  | inr differs ↦ rw differs (ap (λ (o : Option Letter). cond (nat_eq other l.0) (Some l.1) o) (others_at ls number other most ne))
]

numbers_kept : (ls : Letters) (number most : ℕ) → keys_of (trimmed ls number most) ≡ keys_of ls
numbers_kept [] number most = refl
numbers_kept (l ∷ ls) number most = elim (cases_Bool (nat_eq number l.0)) [
  | inl that ↦ rw that refl
  | inr other ↦ rw other (ap (λ (ns : List ℕ). l.0 ∷ ns) (numbers_kept ls number most))
]

parted : (most : ℕ) (bytes : List ℕ) → bytes ≡ take most bytes ++ drop most bytes
parted zero bytes = refl
parted (suc most) [] = refl
parted (suc most) (b ∷ bytes) = ap (λ (bs : List ℕ). b ∷ bs) (parted most bytes)

cut_is_front : (most : ℕ) (whole : Letter) → most ≤ length whole.bytes → IsFrontOf whole most (cut_to most whole)
cut_is_front most whole some = record {
  behind = drop most whole.bytes;
  begins = parted most whole.bytes;
  many = length-take-le most whole.bytes some;
  client_is = refl;
  server_is = refl;
  to_server_is = refl;
  lossy_is = refl;
}

pub trimmed_wait : TrimmedLettersWait
trimmed_wait = record {
  keeps_front = λ ls number most whole there some. (cut_to most whole, trimmed_itself ls number most ∙ ap (option_map (cut_to most)) there, cut_is_front most whole some);
  is_cut = trimmed_itself;
  others_stay = others_at;
  numbers_stay = numbers_kept;
  counts = λ ls number most. count_trimmed number most ls;
  still_fits = λ ls number most fits. is_within (lossy_count (values_of (trimmed ls number most))) (lossy_bytes (values_of (trimmed ls number most)))
      (omega (arith, count_trimmed number most ls, within_count (lossy_count (values_of ls)) (lossy_bytes (values_of ls)) fits)) (omega (arith, bytes_trimmed number most ls, within_bytes (lossy_count (values_of ls)) (lossy_bytes (values_of ls)) fits));
}
