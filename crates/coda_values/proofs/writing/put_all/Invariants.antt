use Rattle.std.proofs.Common.{◌≡◌, ◌++◌, take}
use Rattle.std.specs.List.{flat_map}
use Rattle.coda_values.specs.Form.{four}
use Rattle.coda_values.specs.Table.{record_above}
use Rattle.coda_values.proofs.writing.put_all.Given as goal

abbrev pub invariant-loop-rec : goal.invariant-loop-rec
invariant-loop-rec l = l.out.items ≡ l.fn.out.items ++ flat_map (λ r. ((record_above four 0).piece r).bytes) (take l.rec-index l.records)
