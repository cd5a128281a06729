use Rattle.std.proofs.Common.{◌∙◌, append_assoc, length, arith, None}
use Rattle.std.specs.List.{flat_map}
use Rattle.std.proofs.lemmas.Result.{on_ok_weaker}
use Rattle.coda_values.specs.Form.{number_bytes, four}
use Rattle.coda_record.specs.Entries.{volume_logs, volume_log_above}
use Rattle.coda_record.proofs.InEntries.{few_logs, each_segments, logs_bytes}
use Rattle.coda_record.proofs.snapshots.put_volume_logs.Goals as goal

pub overflow_cast-logs : goal.overflow_cast-logs
overflow_cast-logs c = let few = few_logs c.args.logs.now c.requires in omega (arith, few)

pub put_all_volume_logs-requires : goal.put_all_volume_logs-requires
put_all_volume_logs-requires c = each_segments c.args.logs.now c.requires

pub returns : goal.returns
unfolding volume_logs
returns c = on_ok_weaker c.put_all_volume_logs.result (λ e. e
    ∙ rw (c.in_ok-put_u32.ensures, logs_bytes 0 c.args.logs.now) (append_assoc c.args.out.now.items (number_bytes four (length c.args.logs.now)) (flat_map (λ l. ((volume_log_above four 0).piece l).bytes) c.args.logs.now))) c.put_all_volume_logs.ensures
