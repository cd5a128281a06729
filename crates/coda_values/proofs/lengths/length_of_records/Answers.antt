use Rattle.std.proofs.Common.{arith}
use Rattle.coda_values.proofs.RecordBytes.{each_op}
use Rattle.coda_values.proofs.Spans.{few_records}
use Rattle.coda_values.proofs.lengths.length_of_records.Goals as goal

pub length_of_all-requires-clause-some : goal.length_of_all-requires-clause-some
length_of_all-requires-clause-some c = each_op c.args.records.now c.requires

pub length_of_all-requires-clause-few : goal.length_of_all-requires-clause-few
length_of_all-requires-clause-few c = let few = few_records c.args.records.now c.requires in omega (arith, few)

pub overflow_add-result : goal.overflow_add-result
overflow_add-result c = let few = few_records c.args.records.now c.requires in omega (arith, few, c.length_of_all.ensures.small)

pub returns-clause-small : goal.returns-clause-small
returns-clause-small c = let few = few_records c.args.records.now c.requires in omega (arith, few, c.length_of_all.ensures.small)
