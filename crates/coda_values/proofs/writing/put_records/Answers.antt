use Rattle.std.proofs.Common.{◌∙◌, append_assoc, length}
use Rattle.coda_values.specs.Form.{number_bytes, four}
use Rattle.std.specs.List.{flat_map}
use Rattle.std.proofs.lemmas.Result.{on_ok_weaker}
use Rattle.coda_values.specs.Table.{records, record_above}
use Rattle.coda_values.proofs.RecordBytes.{each_op, records_bytes}
use Rattle.coda_values.proofs.writing.put_records.Goals as goal

pub put_all-requires : goal.put_all-requires
put_all-requires c = each_op c.args.records.now c.requires

pub returns : goal.returns
unfolding records
returns c = on_ok_weaker c.put_all.result (λ e. e
    ∙ rw (c.in_ok-put_u32.ensures, records_bytes c.args.records.now) (append_assoc c.args.out.now.items (number_bytes four (length c.args.records.now)) (flat_map (λ r. ((record_above four 0).piece r).bytes) c.args.records.now))) c.put_all.ensures
