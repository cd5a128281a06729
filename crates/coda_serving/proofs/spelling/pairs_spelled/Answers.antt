use Rattle.std.proofs.Common.{◌≡◌, ℕ, ◌+◌, List, Some, slice_get, sym, ap, ◌∙◌, subst, inl, inr, arith}
use Rattle.std.specs.FinMap as map
use Rattle.std.proofs.lemmas.Bool.{cases_eq}
use Rattle.coda_fid.specs.declared.fid.Fid.{Fid}
use Rattle.coda_tree.specs.Bindings.{Name}
use Rattle.coda_serving.specs.Spelling.{IsPairSpelled, AreSpelledTo}
use Rattle.coda_serving.proofs.spelling.pairs_spelled.Goals as goal

one_more : (count : ℕ) (pairs : List (Name × Fid)) (pair : Name × Fid) → AreSpelledTo count pairs → slice_get pairs count ≡ Some pair → IsPairSpelled pair → AreSpelledTo (count + 1) pairs
one_more count pairs pair before here is index other low there = elim (cases_eq index count) [
  | inl same ↦ subst IsPairSpelled (some_is pair other (sym here ∙ sym (ap (slice_get pairs) same) ∙ there)) is
  | inr off ↦ before index other (omega (arith, low, off)) there
]
  where
    some_is : (x y : Name × Fid) → Some x ≡ Some y → x ≡ y
    some_is x y e = cc

pub loop-index-preserved : goal.loop-index-preserved
loop-index-preserved c =
    one_more c.loop-index.index (map.entries c.args.entries.now) (c.in-Some.name.now, c.in-Some.fid) c.loop-index.invariant (sym c.in-Some.ensures.pair) (c.pair_spelled.ensures.name, c.pair_spelled.ensures.fid)
