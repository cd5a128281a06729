-- What a list collects, entry by entry.
use Rattle.std.proofs.Common.{◌≡◌, ◌+◌, ℕ, zero, suc, arith, Bool, Some, slice_get, get_or, length, drop, ◌-◌, ◌≤◌, List, [], ◌∷◌, ◌++◌, take, sym, ap, ◌∙◌, append_assoc}
use Rattle.std.specs.List.{filter}
use Rattle.std.proofs.lemmas.List.{take_all}
use Rattle.std.proofs.lemmas.List.Elements.{filter-append}
use Rattle.coda_reslog.specs.declared.entry.ResEntry.{ResEntry}

-- a front with one entry more
front_more : {X : Type 0} (entries : List X) (index : ℕ) (entry : X) → slice_get entries index ≡ Some entry → take (suc index) entries ≡ take index entries ++ entry ∷ []
front_more [] index entry e = absurd cc
front_more (first ∷ rest) zero entry e = let same : first ≡ entry = cc in λ j. same j ∷ []
front_more (first ∷ rest) (suc index) entry e = λ j. first ∷ front_more rest index entry e j

pub one_more : {X : Type 0} (entries : List X) (index : ℕ) (entry : X) → Some entry ≡ slice_get entries index → take (index + 1) entries ≡ take index entries ++ entry ∷ []
one_more entries index entry e = let next : index + 1 ≡ suc index = omega arith in ap (λ n. take n entries) next ∙ front_more entries index entry (sym e)

-- what passes of one entry more
pub one_more_passes : (t : ResEntry → Bool) (log : List ResEntry) (index : ℕ) (update : ResEntry) (before found all : List ResEntry) → Some update ≡ slice_get log index → found ≡ before ++ filter t (take index log) → all ≡ found ++ filter t (update ∷ []) → all ≡ before ++ filter t (take (index + 1) log)
one_more_passes t log index update before found all at sofar here =
    here
    ∙ ap (λ front. front ++ filter t (update ∷ [])) sofar
    ∙ append_assoc before (filter t (take index log)) (filter t (update ∷ []))
    ∙ ap (λ more. before ++ more) (sym (filter-append t (take index log) (update ∷ [])) ∙ ap (filter t) (sym (one_more log index update at)))

-- what passes of one list, and then of more lists
pub then_passes : (t : ResEntry → Bool) (before one more found all : List ResEntry) → found ≡ before ++ filter t one → all ≡ found ++ filter t more → all ≡ before ++ filter t (one ++ more)
then_passes t before one more found all first then =
    then
    ∙ ap (λ front. front ++ filter t more) first
    ∙ append_assoc before (filter t one) (filter t more)
    ∙ ap (λ rest. before ++ rest) (sym (filter-append t one more))

-- a list that has a first item
pub split_first : {X : Type 0} (xs : List X) (x : X) → 1 ≤ length xs → x ≡ get_or xs 0 x → xs ≡ x ∷ take (length xs - 1) (drop 1 xs)
split_first [] x some is = absurd (omega arith)
split_first (y ∷ ys) x some is = λ i. sym is i ∷ whole i
  where
    whole : ys ≡ take (length (y ∷ ys) - 1) ys
    whole = sym (take_all (length (y ∷ ys) - 1) ys (omega arith))
