use Rattle.coda_values.specs.Held.{vector, update, updates, held, fid_after, fids, objects, change}
use Rattle.coda_values.proofs.Offsets.{agreeing_is_exact}
use Rattle.coda_values.proofs.HeldAgree.{vector_agrees, update_agrees, updates_agree, held_agrees, fid_after_agrees, fids_agree, objects_agree, change_agrees}
use Rattle.coda_values.proofs.law.changes_are_exact.Goals as goal

pub returns-clause-vector : goal.returns-clause-vector
returns-clause-vector c = agreeing_is_exact vector vector_agrees

pub returns-clause-update : goal.returns-clause-update
returns-clause-update c = agreeing_is_exact update update_agrees

pub returns-clause-updates : goal.returns-clause-updates
returns-clause-updates c = agreeing_is_exact updates updates_agree

pub returns-clause-single : goal.returns-clause-single
returns-clause-single c = λ before. agreeing_is_exact (fid_after before) (fid_after_agrees before)

pub returns-clause-fids : goal.returns-clause-fids
returns-clause-fids c = agreeing_is_exact fids fids_agree

pub returns-clause-held : goal.returns-clause-held
returns-clause-held c = λ size. agreeing_is_exact (held size) (held_agrees size)

pub returns-clause-objects : goal.returns-clause-objects
returns-clause-objects c = λ size. agreeing_is_exact (objects size) (objects_agree size)

pub returns-clause-change : goal.returns-clause-change
returns-clause-change c = λ size. agreeing_is_exact (change size) (change_agrees size)
