use Rattle.std.proofs.Common.{◌≡◌, ◌+◌, ◌||◌, length}
use Rattle.coda_fid.specs.declared.fid.Fid.{Fid}
use Rattle.coda_cancel.specs.Dropping.{mentioning}
use Rattle.coda_cml.specs.Steady.{any_record}
use Rattle.coda_walk.specs.Going.{is_listed}
use Rattle.coda_venus.proofs.mentioning.add_mentioned.Given as goal

abbrev pub invariant-loop : goal.invariant-loop
invariant-loop l = ((f : Fid) → (is_listed l.fids.items f || any_record (mentioning f) l.records) ≡ (is_listed l.fn.fids.items f || any_record (mentioning f) l.fn.records)) × (length l.records + l.counter ≡ l.end)
