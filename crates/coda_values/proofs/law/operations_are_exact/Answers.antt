use Rattle.coda_values.specs.Table.{op, record_above, records}
use Rattle.coda_values.proofs.Offsets.{agreeing_is_exact}
use Rattle.coda_values.proofs.Tabled.{op_agrees, record_agrees, records_agrees}
use Rattle.coda_values.proofs.law.operations_are_exact.Goals as goal

pub returns-clause-op : goal.returns-clause-op
returns-clause-op c = λ size. agreeing_is_exact (op size) (op_agrees size)

pub returns-clause-single : goal.returns-clause-single
returns-clause-single c = λ size before. agreeing_is_exact (record_above size before) (record_agrees size before)

pub returns-clause-records : goal.returns-clause-records
returns-clause-records c = λ size. agreeing_is_exact (records size) (records_agrees size)
