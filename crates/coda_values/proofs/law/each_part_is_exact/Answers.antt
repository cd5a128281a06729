use Rattle.coda_values.specs.Table.{attrs, fid, name, over, sid}
use Rattle.coda_values.proofs.Offsets.{agreeing_is_exact}
use Rattle.coda_values.proofs.Tabled.{attrs_agrees, fid_agrees, name_agrees, over_agrees, sid_agrees}
use Rattle.coda_values.proofs.law.each_part_is_exact.Goals as goal

pub returns-clause-name : goal.returns-clause-name
returns-clause-name c = agreeing_is_exact name name_agrees

pub returns-clause-fid : goal.returns-clause-fid
returns-clause-fid c = agreeing_is_exact fid fid_agrees

pub returns-clause-sid : goal.returns-clause-sid
returns-clause-sid c = agreeing_is_exact sid sid_agrees

pub returns-clause-over : goal.returns-clause-over
returns-clause-over c = agreeing_is_exact over over_agrees

pub returns-clause-attrs : goal.returns-clause-attrs
returns-clause-attrs c = agreeing_is_exact attrs attrs_agrees
