use Rattle.std.proofs.Common.{◌≡◌, Bool, true, false, take, map}
use Rattle.std.specs.List.{filter}
use Rattle.coda_fid.specs.declared.fid.Fid.{Fid}
use Rattle.coda_reslog.specs.declared.change.Held.{Held}
use Rattle.coda_resolve.specs.Changes.{is_among}
use Rattle.coda_resolve.proofs.part.unmet.Given as goal

abbrev pub invariant-loop-place : goal.invariant-loop-place
invariant-loop-place l = (t : Fid → Bool) → ((f : Fid) → is_among l.fids f ≡ true → t f ≡ false) → filter t l.unmet.items ≡ filter t (map (λ (o : Fid × Held). o.0) (take l.place l.held))
