-- The lines of a script that is read in two parts.
use Rattle.std.proofs.Common.{◌≡◌, ◌≢◌, ℕ, Bool, true, false, cond, List, [], ◌∷◌, ◌++◌, map, length, refl, ap, append_assoc, inl, inr, eqb, All}
use Rattle.std.specs.List.{slice_split, onto_first}
use Rattle.std.specs.Str.Lines.{lines, lines_of_parts, strip_carriage_return}
use Rattle.std.proofs.lemmas.List.{append-nil}
use Rattle.std.proofs.lemmas.List.Splits.{slice_split_at, slice_split_none}
use Rattle.std.proofs.lemmas.List.Elements.{All-weaker}
use Rattle.std.proofs.lemmas.Bool.{ne_eqb}
use Rattle.std.proofs.Math.Dec.{eqb-suc-zero}
use Rattle.coda_engine.specs.Lines.{HasNoNewline, IsWholeLines}

-- the byte is a newline
abbrev pub ends : ℕ → Bool
ends b = eqb b 10

-- there is always a first part
pub split_some : (xs : List ℕ) → (first : List ℕ) × (more : List (List ℕ)) × (slice_split ends xs ≡ first ∷ more)
split_some [] = ([], [], refl)
split_some (x ∷ xs) =
    let found = split_some xs in
    elim (ends x) as (λ b. (first : List ℕ) × (more : List (List ℕ)) × (cond b ([] ∷ slice_split ends xs) (onto_first x (slice_split ends xs)) ≡ first ∷ more)) [
      | true ↦ ([], slice_split ends xs, refl)
      | false ↦ (x ∷ found.0, found.1, ap (onto_first x) found.2)
    ]

-- the parts of a list that is cut at a newline
split-more : (front xs : List ℕ) → slice_split ends (front ++ 10 ∷ xs) ≡ slice_split ends front ++ slice_split ends xs
split-more [] xs = refl
split-more (x ∷ front) xs =
    let found = split_some front in
    let step = split-more front xs in
    elim (ends x) as (λ b. cond b ([] ∷ slice_split ends (front ++ 10 ∷ xs)) (onto_first x (slice_split ends (front ++ 10 ∷ xs)))
    ≡ cond b ([] ∷ slice_split ends front) (onto_first x (slice_split ends front)) ++ slice_split ends xs) [
      | true ↦ ap (λ parts. [] ∷ parts) step
      | false ↦ rw (step, found.2) refl
    ]

parts-more : (parts : List (List ℕ)) (next : List ℕ) (more : List (List ℕ)) → lines_of_parts (parts ++ next ∷ more) ≡ map strip_carriage_return parts ++ lines_of_parts (next ∷ more)
parts-more [] next more = refl
parts-more (part ∷ []) next more = refl
parts-more (part ∷ other ∷ parts) next more = ap (λ ls. strip_carriage_return part ∷ ls) (parts-more (other ∷ parts) next more)

lines-at_newline : (before xs : List ℕ) → lines (before ++ 10 ∷ xs) ≡ map strip_carriage_return (slice_split ends before) ++ lines xs
lines-at_newline before xs =
    let found = split_some xs in
    rw (split-more before xs, found.2) (parts-more (slice_split ends before) found.0 found.1)

-- whole lines, and then others
pub lines-more : (front xs : List ℕ) → IsWholeLines front → lines (front ++ xs) ≡ lines front ++ lines xs
lines-more front xs (inl none) = rw none refl
lines-more front xs (inr (before, e)) =
    rw (e, append_assoc before (10 ∷ []) xs, lines-at_newline before xs, lines-at_newline before [], append-nil (map strip_carriage_return (slice_split ends before))) refl

passes-none : (xs : List ℕ) → HasNoNewline xs → All (λ b. ends b ≡ false) xs
passes-none xs clean = All-weaker (λ b. b ≢ 10) (λ b. ends b ≡ false) (λ b differs. ne_eqb b 10 differs) xs clean

-- one line with its newline
pub lines-ended : (stands : List ℕ) → HasNoNewline stands → lines (stands ++ 10 ∷ []) ≡ strip_carriage_return stands ∷ []
lines-ended stands clean = rw (slice_split_at ends stands 10 [] (passes-none stands clean) refl) refl

-- a last line without one
pub lines-last : (rest : List ℕ) → HasNoNewline rest → rest ≢ [] → lines rest ≡ rest ∷ []
lines-last [] clean some = absurd (some refl)
lines-last (b ∷ bs) clean some = rw (slice_split_none ends (b ∷ bs) (passes-none (b ∷ bs) clean), eqb-suc-zero (length bs)) refl
