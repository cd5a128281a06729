use Rattle.std.proofs.Common.{◌∙◌, append_assoc, length}
use Rattle.std.specs.List.{flat_map}
use Rattle.std.proofs.lemmas.Result.{on_ok_weaker}
use Rattle.coda_values.specs.Form.{number_bytes, four}
use Rattle.coda_values.specs.Held.{updates, update}
use Rattle.coda_values.proofs.ListOf.{items_bytes}
use Rattle.coda_values.proofs.updates.put_updates.Goals as goal

pub returns : goal.returns
unfolding updates
returns c = on_ok_weaker c.put_all_updates.result (λ e. e
    ∙ rw (c.in_ok-put_u32.ensures, c.len.ensures.count, items_bytes update c.args.log.now) (append_assoc c.args.out.now.items (number_bytes four (length c.args.log.now)) (flat_map (λ u. (update.piece u).bytes) c.args.log.now))) c.put_all_updates.ensures
