-- Items in whatever order, as a loop writes them.
use Rattle.std.proofs.Common.{◌≡◌, ℕ, suc, ◌+◌, true, ◌&&◌, ◌<◌, ◌^◌, List, [], ◌∷◌, ◌++◌, Some, length, take, All, refl, sym, ap, ◌∙◌, append_assoc, arith}
use Rattle.std.specs.Prelude.{IsTrue, slice_get}
use Rattle.std.specs.List.{flat_map, AllByRecursion}
use Rattle.std.proofs.lemmas.Bool.{ltb-true}
use Rattle.std.proofs.lemmas.Grind.{flat_map-append}
use Rattle.std.proofs.lemmas.Option.{slice_get_within, get_or_from_slice_get}
use Rattle.std.proofs.lemmas.List.{append-nil}
use Rattle.std.proofs.Math.Seq.{take-suc, take-length}
use Rattle.std.proofs.lemmas.List.Elements.{All-from_recursion}
use Rattle.std.proofs.lemmas.List.Concat.{flat_map-cons}
use Rattle.coda_values.specs.Form.{Piece, together, Format}
use Rattle.coda_values.specs.Parts.{items_piece, each, list_of}
use Rattle.coda_values.specs.Spelling.{HasSpelling}
use Rattle.coda_values.proofs.PartsAgree.{first_true, second_true}

pub items_bytes : {A : Type 0} (f : Format A) (xs : List A) → (items_piece (each f) (λ x. tt) tt xs).bytes ≡ flat_map (λ x. (f.piece x).bytes) xs
items_bytes f [] = refl
items_bytes f (x ∷ xs) = ap (λ (b : List ℕ). (f.piece x).bytes ++ b) (items_bytes f xs) ∙ sym (flat_map-cons (λ x. (f.piece x).bytes) x xs)

all_spelled : {A : Type 0} (f : Format A) (xs : List A) → IsTrue (items_piece (each f) (λ x. tt) tt xs).fits → AllByRecursion (λ x. HasSpelling f x) xs
all_spelled f [] fits = tt
all_spelled f (x ∷ xs) fits = (first_true _ _ fits, all_spelled f xs (second_true _ _ fits))

-- each item of a list that has a spelling has one
pub each_spelled : {A : Type 0} (f : Format A) (xs : List A) → HasSpelling (list_of f) xs → All (λ x. HasSpelling f x) xs
each_spelled f xs fits = All-from_recursion (λ x. HasSpelling f x) xs (all_spelled f xs (second_true _ _ fits))

-- there are fewer than 2 ^ 32 items in a list that has a spelling
pub few_items : {A : Type 0} (f : Format A) (xs : List A) → HasSpelling (list_of f) xs → length xs < 2 ^ 32
few_items f xs fits = ltb-true _ _ (first_true _ _ fits)

-- what is written in two parts
pub together_split : (ps qs : List Piece) → (together (ps ++ qs)).bytes ≡ (together ps).bytes ++ (together qs).bytes
together_split [] qs = refl
together_split (p ∷ ps) qs = ap (λ (b : List ℕ). p.bytes ++ b) (together_split ps qs) ∙ sym (append_assoc p.bytes (together ps).bytes (together qs).bytes)

-- one item more is written
pub one_written : {A : Type 0} (f : A → List ℕ) (xs : List A) (i : ℕ) (x : A) (out now next : List ℕ) → Some x ≡ slice_get xs i → now ≡ out ++ flat_map f (take i xs) → next ≡ now ++ f x
    → next ≡ out ++ flat_map f (take (i + 1) xs)
one_written f xs i x out now next is so_far more =
    let within = slice_get_within xs i x (sym is) in
    let next_one : i + 1 ≡ suc i = omega arith in
    let one : take (i + 1) xs ≡ take i xs ++ x ∷ [] = ap (λ k. take k xs) next_one ∙ take-suc xs i x within ∙ ap (λ y. take i xs ++ y ∷ []) (get_or_from_slice_get xs i x x (sym is)) in
    let last : flat_map f (x ∷ []) ≡ f x = flat_map-cons f x [] ∙ append-nil (f x) in
    let split : flat_map f (take (i + 1) xs) ≡ flat_map f (take i xs) ++ f x = ap (λ ys. flat_map f ys) one ∙ flat_map-append f (take i xs) (x ∷ []) ∙ ap (λ b. flat_map f (take i xs) ++ b) last in
    more ∙ ap (λ b. b ++ f x) so_far ∙ append_assoc out (flat_map f (take i xs)) (f x) ∙ ap (λ b. out ++ b) (sym split)

-- all were written
pub all_written : {A : Type 0} (f : A → List ℕ) (xs : List A) (i : ℕ) (out now : List ℕ) → i ≡ length xs → now ≡ out ++ flat_map f (take i xs) → now ≡ out ++ flat_map f xs
all_written f xs i out now is so_far = so_far ∙ ap (λ ys. out ++ flat_map f ys) (ap (λ k. take k xs) is ∙ take-length xs)
