use Rattle.std.proofs.Common.{◌≡◌, ◌++◌, take, None}
use Rattle.std.specs.List.{flat_map}
use Rattle.coda_values.specs.Form.{four}
use Rattle.coda_record.specs.Entries.{segment, volume_log_above, cached_after, client_entry}
use Rattle.coda_record.proofs.snapshots.put_all_cached.Given as goal

abbrev pub invariant-loop-object : goal.invariant-loop-object
invariant-loop-object l = l.out.items ≡ l.fn.out.items ++ flat_map (λ o. ((cached_after four None).piece o).bytes) (take l.object-index l.objects)
