use Rattle.std.proofs.Common.{◌∙◌, append_assoc, length, arith, None}
use Rattle.std.specs.List.{flat_map}
use Rattle.std.proofs.lemmas.Result.{on_ok_weaker}
use Rattle.coda_values.specs.Form.{number_bytes, four}
use Rattle.coda_values.specs.Table.{fid}
use Rattle.coda_values.specs.Held.{fids}
use Rattle.coda_values.proofs.Objects.{few_fids, fids_bytes}
use Rattle.coda_values.proofs.held.put_fids.Goals as goal

pub overflow_cast-fids : goal.overflow_cast-fids
overflow_cast-fids c = let few = few_fids c.args.fids.now c.requires in omega (arith, few)

pub returns : goal.returns
unfolding fids
returns c = on_ok_weaker c.put_all_fids.result (λ e. e
    ∙ rw (c.in_ok-put_u32.ensures, fids_bytes None c.args.fids.now) (append_assoc c.args.out.now.items (number_bytes four (length c.args.fids.now)) (flat_map (λ f. (fid.piece f).bytes) c.args.fids.now))) c.put_all_fids.ensures
