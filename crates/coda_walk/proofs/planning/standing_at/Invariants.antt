use Rattle.std.proofs.Common.{◌≡◌, ◌++◌}
use Rattle.std.specs.Prelude as prelude
use Rattle.coda_walk.specs.declared.candidate.Place.{Place}
use Rattle.coda_walk.proofs.planning.standing_at.Given as goal

abbrev pub invariant-loop-place : goal.invariant-loop-place
invariant-loop-place l = prelude.map (λ (p : Place). p.fid) l.places.keys ≡ l.fids.items ++ prelude.map (λ (p : Place). p.fid) l.place-iterator
