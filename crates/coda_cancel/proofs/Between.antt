-- What stands in the index between two numbers of one object.
use Rattle.std.proofs.Common.{◌≡◌, ℕ, ◌≤◌, true, false, List, [], ◌∷◌, refl, ap, sym, ◌∙◌, subst, arith}
use Rattle.std.specs.Option.{IfSome}
use Rattle.std.specs.Prelude.{IsTrue, slice_get, ⊤}
use Rattle.std.specs.Ordering.{nat_cmp, is_gt, ordering_then, ordering_reverse}
use Rattle.std.specs.declared.cmp.Ordering.TheVariants.{Less, Equal, Greater}
use Rattle.std.specs.declared.ops.Bound.TheVariants.{Included, Unbounded}
use Rattle.std.specs.BTreeMap.Range.{IsLeBy}
use Rattle.std.specs.BTreeSet.{BTreeSet, IsKeyRangeOf}
use Rattle.std.proofs.lemmas.Cmp.{tied_itself}
use Rattle.std.proofs.lemmas.Map.Keys.{le_from_not_gt}
use Rattle.std.proofs.lemmas.Bool.Decides.{nat_tests}
use Rattle.std.proofs.lemmas.Bool.{true≢false, false_from_ne_true}
use Rattle.coda_fid.specs.Fid.{fid_cmp}
use Rattle.coda_fid.specs.declared.fid.Fid.{Fid}
use Rattle.coda_fid.proofs.Fids.{fids_total, exact_fids}
use Rattle.coda_cancel.specs.declared.mentions.Mention.{Mention}
use Rattle.coda_cancel.specs.Mentions.{mention, mention_cmp, has, IsFirst, NoneBetween}

le_cmp : (m n : ℕ) → m ≤ n → is_gt (nat_cmp m n) ≡ false
le_cmp m n h = grind (arith, nat_tests)

-- an object's numbers compare as they do
pub at_one : (f : Fid) (m n : ℕ) → mention_cmp (mention f m) (mention f n) ≡ nat_cmp m n
at_one f m n = ap (λ r. ordering_then r (nat_cmp m n)) (tied_itself fids_total f)

pub own_le : (f : Fid) (m n : ℕ) → m ≤ n → IsLeBy mention_cmp (mention f m) (mention f n)
own_le f m n h = ap is_gt (at_one f m n) ∙ le_cmp m n h

pub le_own : (f : Fid) (m n : ℕ) → IsLeBy mention_cmp (mention f m) (mention f n) → m ≤ n
le_own f m n h = le_from_not_gt m n (sym (ap is_gt (at_one f m n)) ∙ h)

-- what stands between two mentions of an object is one of it
pub same_object : (f : Fid) (from last : ℕ) (q : Mention) → IsLeBy mention_cmp (mention f from) q → IsLeBy mention_cmp q (mention f last) → f ≡ q.fid
same_object f from last q low high =
    elim (fid_cmp f q.fid) as (λ r. fid_cmp f q.fid ≡ r → is_gt (ordering_then r (nat_cmp from q.number)) ≡ false → f ≡ q.fid) [
      | Less ↦ λ e _. absurd (true≢false (sym (ap (λ r. is_gt (ordering_then r (nat_cmp q.number last))) (fids_total.antisymm q.fid f ∙ ap ordering_reverse e)) ∙ high))
      | Equal ↦ λ e _. exact_fids f q.fid e
      | Greater ↦ λ _ h. absurd (true≢false h)
    ] refl low

-- the index from a mention on
abbrev Range : BTreeSet Mention → Mention → List Mention → Type 0
Range s start found = IsKeyRangeOf mention_cmp (Included start) Unbounded s found

module _ (s : BTreeSet Mention) (f : Fid) (from last : ℕ) (found : List Mention) (range : Range s (mention f from) found) where
  pub none_found : found ≡ [] → NoneBetween s f from last
  none_found none number low high = range.5 none (mention f number) (own_le f from number low, tt)

  module _ (first : Mention) (rest : List Mention) (is : found ≡ first ∷ rest) where
    -- what is found first is no later than what is there
    least : (number : ℕ) → from ≤ number → has s f number ≡ true → IsLeBy mention_cmp first (mention f number)
    least number low there = subst (λ l. IfSome (slice_get l 0) (λ k. IsLeBy mention_cmp k (mention f number))) is (range.2 (mention f number) (own_le f from number low, tt) there)

    here : (IsLeBy mention_cmp (mention f from) first × ⊤) × IsTrue (has s first.fid first.number)
    here = subst (λ l. IfSome (slice_get l 0) (λ k. (IsLeBy mention_cmp (mention f from) k × ⊤) × IsTrue (has s k.fid k.number))) is range.1

    own : f ≡ first.fid → first ≡ mention f first.number
    own same = λ i. mention (sym same i) first.number

    pub first_found : first.fid ≡ f → first.number ≤ last → IsFirst s f from last first.number
    first_found same below = (
      le_own f from first.number (subst (λ (m : Mention). IsLeBy mention_cmp (mention f from) m) (own (sym same)) here.0.0),
      below,
      subst (λ g. has s g first.number ≡ true) same here.1,
      λ between low less. false_from_ne_true (has s f between) (λ there.
          let over : first.number ≤ between = le_own f first.number between (subst (λ (m : Mention). IsLeBy mention_cmp m (mention f between)) (own (sym same)) (least between low there)) in
          absurd (omega (arith, over, less))),
    )

    -- of the object there is none up to the last number, where the first is of another, or later
    pub other_found : (first.fid ≡ f → first.number ≤ last → ⊥) → NoneBetween s f from last
    other_found other number low high = false_from_ne_true (has s f number) (λ there.
        let le = least number low there in
        let same : f ≡ first.fid = same_object f from number first here.0.0 le in
        let below : first.number ≤ number = le_own f first.number number (subst (λ (m : Mention). IsLeBy mention_cmp m (mention f number)) (own same) le) in
        absurd (other (sym same) (omega (arith, below, high))))
