use Rattle.std.proofs.Common.{arith}
use Rattle.coda_values.proofs.Objects.{few_fids}
use Rattle.coda_wire.proofs.writing.length_of_break.Goals as goal

pub overflow_mul-result : goal.overflow_mul-result
overflow_mul-result c = let few = few_fids c.args.fids.now c.requires in omega (arith, few)

pub overflow_add-result : goal.overflow_add-result
overflow_add-result c = let few = few_fids c.args.fids.now c.requires in omega (arith, few)
