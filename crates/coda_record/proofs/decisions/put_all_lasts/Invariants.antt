use Rattle.std.proofs.Common.{◌≡◌, ◌++◌, take, None}
use Rattle.std.specs.List.{flat_map}
use Rattle.coda_values.specs.Form.{four}
use Rattle.coda_record.specs.Table.{last_above}
use Rattle.coda_record.proofs.decisions.put_all_lasts.Given as goal

abbrev pub invariant-loop-last : goal.invariant-loop-last
invariant-loop-last l = l.out.items ≡ l.fn.out.items ++ flat_map (λ l. ((last_above 0).piece l).bytes) (take l.last-index l.lasts)
