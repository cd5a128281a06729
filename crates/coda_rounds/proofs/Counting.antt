-- Items of different objects have a block each at least.
use Rattle.std.proofs.Common.{◌≡◌, ◌+◌, ◌≤◌, Bool, true, false, cond, not, List, [], ◌∷◌, length, sym, ap, ◌∙◌, subst}
use Rattle.std.proofs.Common.{inl, inr, arith}
use Rattle.std.proofs.lemmas.Bool.{or_left, or_right, false≢true, not_from_false}
use Rattle.std.specs.List.{filter}
use Rattle.coda_fid.specs.Fid.{same_fid}
use Rattle.coda_fid.specs.declared.fid.Fid.{Fid}
use Rattle.coda_fid.proofs.Fids.{same_fid_refl}
use Rattle.coda_cancel.proofs.Keys.{fid_other}
use Rattle.coda_walk.specs.declared.item.Item.{Item}
use Rattle.coda_walk.specs.Going.{blocks_of, is_listed, without}
use Rattle.coda_walk.specs.Laws.{Among}
use Rattle.coda_walk.proofs.Lists.{in_filter}
use Rattle.coda_rounds.specs.Laws.{AreAllDifferent}

-- an item of the object, of a block at least
abbrev pub HasBlocks : List Item → Fid → Type 0
HasBlocks items f = (i : Item) × Among i items × (i.fid ≡ f) × (1 ≤ i.blocks)

fewer : (test : Item → Bool) (items : List Item) → blocks_of (filter test items) ≤ blocks_of items
fewer test [] = omega arith
fewer test (j ∷ items) =
    let less = fewer test items in
    let left : List Item = filter test items in
    elim (test j) as (λ b. blocks_of (cond b (j ∷ left) left) ≤ j.blocks + blocks_of items) [
      | true ↦ omega (arith, less)
      | false ↦ omega (arith, less)
    ]

blocks_without : (items : List Item) (i : Item) → Among i items
    → i.blocks + blocks_of (without i.fid items) ≤ blocks_of items
blocks_without [] i h = absurd h
blocks_without (j ∷ items) i (inl same) =
    let less = fewer (λ (x : Item). not (same_fid x.fid i.fid)) items in
    let own : j.blocks ≡ i.blocks = ap (λ (x : Item). x.blocks) same in
    let left : List Item = without i.fid items in
    subst (λ b. i.blocks + blocks_of (cond (not b) (j ∷ left) left) ≤ j.blocks + blocks_of items)
    (sym (ap (λ (x : Item). same_fid x.fid i.fid) same ∙ same_fid_refl i.fid)) (omega (arith, less, own))
blocks_without (j ∷ items) i (inr more) =
    let rest = blocks_without items i more in
    let left : List Item = without i.fid items in
    let own : Bool = same_fid j.fid i.fid in
    elim own as (λ b. i.blocks + blocks_of (cond (not b) (j ∷ left) left) ≤ j.blocks + blocks_of items) [
      | true ↦ omega (arith, rest)
      | false ↦ omega (arith, rest)
    ]

-- there are at most as many such objects as the items have blocks
pub few_fids : (fids : List Fid) (items : List Item) → AreAllDifferent fids
    → ((f : Fid) → is_listed fids f ≡ true → HasBlocks items f) → length fids ≤ blocks_of items
few_fids [] items different have = omega arith
few_fids (g ∷ fids) items different have =
    let own = have g (or_left (same_fid g g) (is_listed fids g) (same_fid_refl g)) in
    let i : Item = own.0 in
    let less = blocks_without items i own.1 in
    let block = own.3 in
    let rest = few_fids fids (without i.fid items) different.1 (λ f on.
    let one = have f (or_right (same_fid g f) (is_listed fids f) on) in
    let off : same_fid one.0.fid i.fid ≡ false = fid_other one.0.fid i.fid
    (λ same. false≢true (sym different.0 ∙ ap (is_listed fids) (sym own.2 ∙ sym same ∙ one.2) ∙ on)) in
    let there = in_filter (λ (x : Item). not (same_fid x.fid i.fid)) items one.0 one.1 (not_from_false _ off) in
    (one.0, there, one.2, one.3)) in
    omega (arith, less, block, rest)
