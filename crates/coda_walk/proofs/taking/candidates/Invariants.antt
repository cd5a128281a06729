use Rattle.std.proofs.Common.{◌≡◌, take}
use Rattle.std.specs.Prelude as prelude
use Rattle.std.specs.List.{list_any, filter}
use Rattle.std.specs.Ordering.{eq_by_cmp}
use Rattle.std.specs.BTreeSet as tree_set
use Rattle.coda_walk.specs.declared.candidate.Candidate.{Candidate}
use Rattle.coda_walk.specs.Planning.{candidate_cmp, candidate_of, is_candidate}
use Rattle.coda_walk.proofs.taking.candidates.Given as goal

abbrev pub invariant-loop-item : goal.invariant-loop-item
invariant-loop-item l = (q : Candidate) → tree_set.contains candidate_cmp l.set q ≡ list_any (λ k. eq_by_cmp candidate_cmp k q) (prelude.map candidate_of (filter is_candidate (take l.item-index l.items)))
