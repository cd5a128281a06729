use Rattle.std.proofs.Common.{◌∙◌, ◌++◌, ap, sym}
use Rattle.std.proofs.lemmas.Result.{on_ok_weaker}
use Rattle.coda_values.specs.Table.{count}
use Rattle.coda_values.specs.Held.{vector}
use Rattle.coda_values.proofs.ListOf.{items_bytes}
use Rattle.coda_values.proofs.updates.put_vector.Goals as goal

pub returns : goal.returns
unfolding vector
returns c = on_ok_weaker c.put_counts.result (λ e. e ∙ ap (λ b. c.args.out.now.items ++ b) (sym (items_bytes count c.args.vector.now.0))) c.put_counts.ensures
