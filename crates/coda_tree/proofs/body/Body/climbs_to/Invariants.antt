use Rattle.std.proofs.Common.{◌≡◌, ◌-◌}
use Rattle.coda_tree.specs.Volume.{below_within}
use Rattle.coda_tree.specs.Slots.{nodes_in}
use Rattle.coda_tree.proofs.body.Body.climbs_to.Given as goal

abbrev pub invariant-loop-step : goal.invariant-loop-step
invariant-loop-step l = below_within (nodes_in l.self.slots) (l.steps - l._step) l.at l.of ≡ below_within (nodes_in l.self.slots) l.steps l.fn.fid l.of
