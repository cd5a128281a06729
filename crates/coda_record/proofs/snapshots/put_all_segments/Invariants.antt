use Rattle.std.proofs.Common.{◌≡◌, ◌++◌, take, None}
use Rattle.std.specs.List.{flat_map}
use Rattle.coda_values.specs.Form.{four}
use Rattle.coda_record.specs.Entries.{segment, volume_log_above, cached_after, client_entry}
use Rattle.coda_record.proofs.snapshots.put_all_segments.Given as goal

abbrev pub invariant-loop-segment : goal.invariant-loop-segment
invariant-loop-segment l = l.out.items ≡ l.fn.out.items ++ flat_map (λ s. ((segment four).piece s).bytes) (take l.segment-index l.segments)
