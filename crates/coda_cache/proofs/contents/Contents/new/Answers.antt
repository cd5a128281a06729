use Rattle.std.proofs.Common.{List, [], sym, subst}
use Rattle.std.specs.FinMap as map
use Rattle.coda_fid.specs.declared.fid.Fid.{Fid}
use Rattle.coda_tree.specs.Volume.{Nodes}
use Rattle.coda_cache.specs.State.{Holds}
use Rattle.coda_cache.specs.Keeping.{AreWhole}
use Rattle.coda_cache.proofs.Agreeing.{agree_none}
use Rattle.coda_cache.proofs.Small.{small_none}
use Rattle.coda_cache.proofs.contents.Contents.new.Goals as goal

pub invariant_of-result : goal.invariant_of-result
invariant_of-result c =
    let none : AreWhole map.empty map.empty [] = record { agree = agree_none; small = small_none } in
    subst (λ (n : Nodes). AreWhole n c.new-3.result c.in_ok-recency.recency) (sym c.new-2.ensures)
    (subst (λ (h : Holds). AreWhole _ h c.in_ok-recency.recency) (sym c.new-3.ensures) (subst (λ (r : List Fid). AreWhole _ _ r) (sym c.in_ok-recency.ensures) none))
