use Rattle.std.proofs.Common.{◌≡◌, ◌++◌, take, None}
use Rattle.std.specs.List.{flat_map}
use Rattle.coda_values.specs.Form.{four}
use Rattle.coda_record.specs.Entries.{segment, volume_log_above, cached_after, client_entry}
use Rattle.coda_record.proofs.snapshots.put_all_volume_logs.Given as goal

abbrev pub invariant-loop-log : goal.invariant-loop-log
invariant-loop-log l = l.out.items ≡ l.fn.out.items ++ flat_map (λ l. ((volume_log_above four 0).piece l).bytes) (take l.log-index l.logs)
