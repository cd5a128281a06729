-- Which answers can be spelled.
use Rattle.std.specs.Prelude.{Bool, ℕ}
use Rattle.coda_certify.specs.declared.reason.Reason.{Reason}
use Rattle.coda_fid.specs.declared.fid.Sid.{Sid}
use Rattle.coda_record.specs.declared.answer.Answer.{Answer}
use Rattle.coda_record.specs.Table as table

-- whether a version is within the ranges of its format
abbrev pub sid_fits : Sid → Bool
sid_fits s = (table.sid.piece s).fits

-- whether a reason is
abbrev pub reason_fits : Reason → Bool
reason_fits why = (table.reason.piece why).fits

-- whether an answer is
abbrev pub answer_fits : Answer → Bool
answer_fits answer = (table.answer.piece answer).fits

-- whether a number is that of an operation
abbrev pub number_fits : ℕ → Bool
number_fits number = (table.ordinal.piece number).fits

-- whether a number is that of a last chunk
abbrev pub last_fits : ℕ → Bool
last_fits last = (table.count.piece last).fits
