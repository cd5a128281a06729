-- What is lost, as loops count it and as lists show it.
use Rattle.std.proofs.Common.{◌≡◌, ℕ, zero, suc, ◌+◌, ◌≤◌, ◌<◌, Bool, true, false, ◌&&◌, List, [], ◌∷◌, remove, nat_le, refl, ap, arith}
use Rattle.std.specs.Prelude.{if◌then◌else◌, Option, Some, None, unwrap_or, cond}
use Rattle.std.specs.Map.{values_of}
use Rattle.std.proofs.lemmas.Bool.{leb-true, le-leb, ne_eqb}
use Rattle.coda_state.specs.declared.state.Link.{Link}
use Rattle.coda_state.specs.declared.state.Link.TheVariants.{Down}
use Rattle.coda_net.specs.declared.letter.Letter.{Letter}
use Rattle.coda_net.specs.Pool.{Letters, lossy_count, lossy_bytes, are_within, must_go, oldest_place, without_oldest, without_oldest_of, AreUpTo, letter_at}

pub first_true : (a b : Bool) → (a && b) ≡ true → a ≡ true
first_true true b e = refl
first_true false b e = e

pub second_true : (a b : Bool) → (a && b) ≡ true → b ≡ true
second_true true b e = e
second_true false b e = absurd cc

pub within_count : (count bytes : ℕ) → are_within count bytes ≡ true → count ≤ 1024
within_count count bytes e = leb-true _ _ (first_true (nat_le count 1024) (nat_le bytes 67108864) e)

pub within_bytes : (count bytes : ℕ) → are_within count bytes ≡ true → bytes ≤ 67108864
within_bytes count bytes e = leb-true _ _ (second_true (nat_le count 1024) (nat_le bytes 67108864) e)

pub is_within : (count bytes : ℕ) → count ≤ 1024 → bytes ≤ 67108864 → are_within count bytes ≡ true
is_within count bytes few small = rw (le-leb count 1024 few, le-leb bytes 67108864 small) refl

-- where all fits nothing has to go
pub none_goes : (count bytes : ℕ) (ls : List Letter) → are_within (count + lossy_count ls) (bytes + lossy_bytes ls) ≡ true → must_go count bytes ls ≡ 0
none_goes count bytes [] e = refl
none_goes count bytes (l ∷ ls) e = rw e refl

-- where it doesn't, the first letter goes, if it may
pub one_goes : (count bytes : ℕ) (l : Letter) (ls : List Letter) → are_within (count + lossy_count (l ∷ ls)) (bytes + lossy_bytes (l ∷ ls)) ≡ false
    → must_go count bytes (l ∷ ls) ≡ (if l.lossy then 1 else 0) + must_go count bytes ls
one_goes count bytes l ls e = rw e refl

removed_at : (b : Bool) (l : ℕ × Letter) (ls : Letters) (place : ℕ) → remove ls place ≡ without_oldest ls → remove (l ∷ ls) (if b then 0 else suc place) ≡ (if b then ls else l ∷ without_oldest ls)
removed_at true l ls place e = refl
removed_at false l ls place e = ap (λ (r : Letters). l ∷ r) e

pub removed_oldest : (letters : Letters) → remove letters (oldest_place (values_of letters)) ≡ without_oldest letters
removed_oldest [] = refl
removed_oldest (l ∷ ls) = removed_at l.1.lossy l ls (oldest_place (values_of ls)) (removed_oldest ls)

one_more_of : (count : ℕ) (letters : Letters) → without_oldest_of (suc count) letters ≡ without_oldest (without_oldest_of count letters)
one_more_of zero letters = refl
one_more_of (suc count) letters = one_more_of count (without_oldest letters)

-- one more is lost behind so many
pub one_more : (count : ℕ) (letters : Letters) → without_oldest_of (count + 1) letters ≡ without_oldest (without_oldest_of count letters)
one_more count letters =
    let next : count + 1 ≡ suc count = omega arith in
    rw next (one_more_of count letters)

-- a number that was not given out has no letter
pub not_given : (letters : Letters) (posted number : ℕ) → AreUpTo posted letters → posted < number → letter_at letters number ≡ None
not_given [] posted number up lt = refl
not_given (l ∷ ls) posted number up lt = rw (ne_eqb number l.0 (λ e. omega (arith, e, lt, up.0))) (not_given ls posted number up.1 lt)

-- a link that is set
pub set_at : (b : Bool) (link : Link) (old : Option Link) → unwrap_or (cond b (Some link) old) Down ≡ (if b then link else unwrap_or old Down)
set_at true link old = refl
set_at false link old = refl
