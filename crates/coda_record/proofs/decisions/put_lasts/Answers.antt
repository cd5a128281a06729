use Rattle.std.proofs.Common.{◌∙◌, append_assoc, length, arith, None}
use Rattle.std.specs.List.{flat_map}
use Rattle.std.proofs.lemmas.Result.{on_ok_weaker}
use Rattle.coda_values.specs.Form.{number_bytes, four}
use Rattle.coda_record.specs.Table.{lasts, last_above}
use Rattle.coda_record.proofs.InEntries.{few_lasts, lasts_bytes}
use Rattle.coda_record.proofs.decisions.put_lasts.Goals as goal

pub overflow_cast-lasts : goal.overflow_cast-lasts
overflow_cast-lasts c = let few = few_lasts c.args.lasts.now c.requires in omega (arith, few)

pub returns : goal.returns
unfolding lasts
returns c = on_ok_weaker c.put_all_lasts.result (λ e. e
    ∙ rw (c.in_ok-put_u32.ensures, lasts_bytes 0 c.args.lasts.now) (append_assoc c.args.out.now.items (number_bytes four (length c.args.lasts.now)) (flat_map (λ l. ((last_above 0).piece l).bytes) c.args.lasts.now))) c.put_all_lasts.ensures
