-- What the letters of a network say, after each call.
use Rattle.std.proofs.Common.{◌≡◌, ℕ, zero, suc, Bool, true, false, cond, nat_eq, [], ◌∷◌, ◌++◌, Some, option_map, refl, sym, ap, ◌∙◌, subst}
use Rattle.std.specs.Prelude.{not, if◌then◌else◌}
use Rattle.std.specs.List.{filter}
use Rattle.std.proofs.lemmas.List.{map-append}
use Rattle.coda_net.specs.declared.letter.Letter.{Letter}
use Rattle.coda_net.specs.Pool.{Letters, Pool, letter_at, without as without_letter, without_oldest, without_oldest_of, posted_to}
use Rattle.coda_letters.specs.Sent.{Sent, CanBeSent, CanBeSaid, is_lossy, letter_of, Waiting, numbered, letters_of, AreLetters, sent_at, without, lost_by, but_oldest, with_sent}
use Rattle.coda_letters.specs.Laws.{BreaksWait}

-- the letter of a number says what is sent under it
pub at_number : (number : ℕ) (waiting : Waiting) → letter_at (letters_of waiting) number ≡ option_map letter_of (sent_at number waiting)
at_number number [] = refl
at_number number (l ∷ waiting) = elim (nat_eq number l.0) as (λ b. cond b (Some (letter_of l.1)) (letter_at (letters_of waiting) number) ≡ option_map letter_of (cond b (Some l.1) (sent_at number waiting))) [ true ↦ refl | false ↦ at_number number waiting ]

pub lost_one : (number : ℕ) (waiting : Waiting) → without_letter (letters_of waiting) number ≡ letters_of (without number waiting)
lost_one number [] = refl
lost_one number (l ∷ waiting) = elim (nat_eq number l.0) as (λ b. cond b (letters_of waiting) (numbered l ∷ without_letter (letters_of waiting) number) ≡ letters_of (cond b waiting (l ∷ without number waiting))) [
  | true ↦ refl
  | false ↦ ap (λ ls. numbered l ∷ ls) (lost_one number waiting)
]

none_oldest : (count : ℕ) → (let none : Letters = [] in without_oldest_of count none ≡ none)
none_oldest zero = refl
none_oldest (suc count) = none_oldest count

-- a letter that may not be lost stays in front
safe_in_front : (count : ℕ) (l : ℕ × Letter) (ls : Letters) → l.1.lossy ≡ false → without_oldest_of count (l ∷ ls) ≡ l ∷ without_oldest_of count ls
safe_in_front zero l ls safe = refl
safe_in_front (suc count) l ls safe = ap (λ b. without_oldest_of count (cond b ls (l ∷ without_oldest ls))) safe ∙ safe_in_front count l (without_oldest ls) safe

first_oldest : (count : ℕ) (l : ℕ × Sent) (waiting : Waiting) → without_oldest_of count (letters_of waiting) ≡ letters_of (but_oldest count waiting) → without_oldest_of (suc count) (letters_of waiting) ≡ letters_of (but_oldest (suc count) waiting)
    → (b : Bool) → is_lossy l.1 ≡ b → without_oldest_of count (cond b (letters_of waiting) (numbered l ∷ without_oldest (letters_of waiting))) ≡ letters_of (cond b (but_oldest count waiting) (l ∷ but_oldest (suc count) waiting))
first_oldest count l waiting fewer all true lossy = fewer
first_oldest count l waiting fewer all false safe = safe_in_front count (numbered l) (without_oldest (letters_of waiting)) safe ∙ ap (λ (ls : Letters). numbered l ∷ ls) all

oldest_lost : (count : ℕ) (waiting : Waiting) → without_oldest_of count (letters_of waiting) ≡ letters_of (but_oldest count waiting)
oldest_lost zero waiting = refl
oldest_lost (suc count) [] = none_oldest count
oldest_lost (suc count) (l ∷ waiting) = first_oldest count l waiting (oldest_lost count waiting) (oldest_lost (suc count) waiting) (is_lossy l.1) refl

pub posted_last : (number : ℕ) (sent : Sent) (waiting : Waiting) → posted_to (letters_of waiting) number (letter_of sent) ≡ letters_of (with_sent number sent waiting)
posted_last number sent waiting =
    ap (λ ls. ls ++ (number, letter_of sent) ∷ []) (oldest_lost (lost_by sent waiting) waiting) ∙ sym (map-append numbered (but_oldest (lost_by sent waiting) waiting) ((number, sent) ∷ []))

-- what can be said stays so
oldest_said : (count : ℕ) (waiting : Waiting) → CanBeSaid waiting → CanBeSaid (but_oldest count waiting)
oldest_said zero waiting all = all
oldest_said (suc count) [] all = tt
oldest_said (suc count) (l ∷ waiting) all = by (is_lossy l.1) (oldest_said count waiting all.1) (oldest_said (suc count) waiting all.1)
  where
    by : (b : Bool) → CanBeSaid (but_oldest count waiting) → CanBeSaid (but_oldest (suc count) waiting) → CanBeSaid (cond b (but_oldest count waiting) (l ∷ but_oldest (suc count) waiting))
    by true fewer rest = fewer
    by false fewer rest = (all.0, rest)

pub said_without : (number : ℕ) (waiting : Waiting) → CanBeSaid waiting → CanBeSaid (without number waiting)
said_without number [] all = tt
said_without number (l ∷ waiting) all = elim (nat_eq number l.0) as (λ b. CanBeSaid (cond b waiting (l ∷ without number waiting))) [ true ↦ all.1 | false ↦ (all.0, said_without number waiting all.1) ]

said_behind : (front back : Waiting) → CanBeSaid front → CanBeSaid back → CanBeSaid (front ++ back)
said_behind [] back f b = b
said_behind (l ∷ front) back f b = (f.0, said_behind front back f.1 b)

pub said_at : (number : ℕ) (waiting : Waiting) (sent : Sent) → CanBeSaid waiting → sent_at number waiting ≡ Some sent → CanBeSent sent
said_at number [] sent all e = cc
said_at number (l ∷ waiting) sent all e = elim (nat_eq number l.0) as (λ b. cond b (Some l.1) (sent_at number waiting) ≡ Some sent → CanBeSent sent) [
  | true ↦ λ h. (let same : l.1 ≡ sent = cc in subst CanBeSent same all.0)
  | false ↦ λ h. said_at number waiting sent all.1 h
] e

-- a new letter waits behind the others
pub letters_posted : (waiting : Waiting) (old new : Pool) (number : ℕ) (sent : Sent) (letter : Letter) → AreLetters waiting old → CanBeSent sent → letter ≡ letter_of sent → new.letters ≡ posted_to old.letters number letter → AreLetters (with_sent number sent waiting) new
letters_posted waiting old new number sent letter are can is posted = record {
  letters = posted ∙ (λ i. posted_to (are.letters i) number (is i)) ∙ posted_last number sent waiting;
  said = said_behind (but_oldest (lost_by sent waiting) waiting) ((number, sent) ∷ []) (oldest_said (lost_by sent waiting) waiting are.said) (can, tt);
}

pub letters_lost : (waiting : Waiting) (old new : Pool) (number : ℕ) → AreLetters waiting old → new.letters ≡ without_letter old.letters number → AreLetters (without number waiting) new
letters_lost waiting old new number are lost = record { letters = lost ∙ ap (λ ls. without_letter ls number) are.letters ∙ lost_one number waiting; said = said_without number waiting are.said }

-- ---- breaks

-- what waits that may not be lost for the limits
abbrev safe : Waiting → Waiting
safe waiting = filter (λ l. not (is_lossy l.1)) waiting

safe_both : (front back : Waiting) → safe (front ++ back) ≡ safe front ++ safe back
safe_both [] back = refl
safe_both (l ∷ front) back = elim (is_lossy l.1) as (λ b. cond (not b) (l ∷ safe (front ++ back)) (safe (front ++ back)) ≡ cond (not b) (l ∷ safe front) (safe front) ++ safe back) [
  | true ↦ safe_both front back
  | false ↦ ap (λ (ls : Waiting). l ∷ ls) (safe_both front back)
]

safe_first : (count : ℕ) (l : ℕ × Sent) (waiting : Waiting) → safe (but_oldest count waiting) ≡ safe waiting → safe (but_oldest (suc count) waiting) ≡ safe waiting
    → (b : Bool) → is_lossy l.1 ≡ b → safe (cond b (but_oldest count waiting) (l ∷ but_oldest (suc count) waiting)) ≡ cond (not b) (l ∷ safe waiting) (safe waiting)
safe_first count l waiting fewer all true lossy = fewer
safe_first count l waiting fewer all false is = ap (λ b. cond (not b) (l ∷ safe (but_oldest (suc count) waiting)) (safe (but_oldest (suc count) waiting))) is ∙ ap (λ (ls : Waiting). l ∷ ls) all

safe_stay : (count : ℕ) (waiting : Waiting) → safe (but_oldest count waiting) ≡ safe waiting
safe_stay zero waiting = refl
safe_stay (suc count) [] = refl
safe_stay (suc count) (l ∷ waiting) = safe_first count l waiting (safe_stay count waiting) (safe_stay (suc count) waiting) (is_lossy l.1) refl

safe_one : (number : ℕ) (sent : Sent) → safe ((number, sent) ∷ []) ≡ (if is_lossy sent then [] else (number, sent) ∷ [])
safe_one number sent = elim (is_lossy sent) as (λ b. cond (not b) ((number, sent) ∷ safe []) (safe []) ≡ (if b then [] else (number, sent) ∷ [])) [ true ↦ refl | false ↦ refl ]

pub breaks_wait : BreaksWait
breaks_wait = record {
  breaks_stay = λ number sent waiting.
      safe_both (but_oldest (lost_by sent waiting) waiting) ((number, sent) ∷ [])
      ∙ (λ i. safe_stay (lost_by sent waiting) waiting i ++ safe_one number sent i);
  puts_none_out = λ number server client volume fids waiting. refl;
}
