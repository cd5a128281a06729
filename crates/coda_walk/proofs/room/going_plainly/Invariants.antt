use Rattle.std.proofs.Common.{◌≡◌, ◌++◌, ◌-◌, List}
use Rattle.std.specs.BTreeSet as set
use Rattle.coda_fid.specs.declared.fid.Fid.{Fid}
use Rattle.coda_fid.specs.Fid.{fid_cmp}
use Rattle.coda_walk.specs.Going.{is_listed, going_within, who_goes}
use Rattle.coda_walk.proofs.room.going_plainly.Given as goal

abbrev pub invariant-loop-step : goal.invariant-loop-step
invariant-loop-step l = (fids : List Fid) → ((f : Fid) → set.contains fid_cmp l.fn.kept f ≡ is_listed fids f) → l.gone.items ++ going_within (l._step-end - l._step) l.fn.size fids l.left.items ≡ who_goes l.fn.size fids l.fn.items
