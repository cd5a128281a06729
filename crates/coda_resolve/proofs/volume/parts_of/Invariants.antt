use Rattle.std.proofs.Common.{◌≡◌, ℕ, take, drop, map, reverse}
use Rattle.coda_fid.specs.declared.fid.Fid.{Fid}
use Rattle.coda_reslog.specs.declared.change.Change.{Change}
use Rattle.coda_record.specs.declared.view.View.{View}
use Rattle.coda_resolve.specs.Outcome.{taken_up}
use Rattle.coda_resolve.specs.Placement.{AreTreesOfOneKind}
use Rattle.coda_resolve.specs.Reading.{AreAllRenewed}
use Rattle.coda_resolve.specs.Renewals.{AreParts}
use Rattle.coda_resolve.specs.Views.{replicas_of}
use Rattle.coda_resolve.proofs.volume.parts_of.Given as goal

abbrev pub invariant-loop-view : goal.invariant-loop-view
invariant-loop-view l = record {
  servers : map (λ (c : ℕ × Change). c.0) l.changes.items ≡ map (λ (v : View). v.server) (take l.view-index l.views);
  parts : (root : Fid) → AreTreesOfOneKind (replicas_of l.views) root → l.survey.fids.items ≡ taken_up (replicas_of l.views) root → AreParts (replicas_of l.views) root (replicas_of (take l.view-index l.views)) l.changes.items l.touched;
  left : AreAllRenewed (replicas_of l.views) (drop l.view-index l.views) l.changed (reverse l.renewals.items);
}
