use Rattle.std.proofs.Common.{sym, subst}
use Rattle.std.proofs.Math.Bool.{Bool-set}
use Rattle.std.proofs.Math.Logic.{∥∥₁_elim}
use Rattle.coda_record.specs.Form.{four}
use Rattle.coda_record.specs.Spelling.{HasSpelling}
use Rattle.coda_record.specs.Table as table
use Rattle.coda_venus.specs.Code.{volume_in}
use Rattle.coda_venus.specs.Logs.{IsSendable}
use Rattle.coda_venus.proofs.SendableLogs.{chunk_sendable, none_sendable}
use Rattle.coda_venus.proofs.venus.Venus.chunk.Goals as goal

pub returns-in-None-clause-sendable : goal.returns-in-None-clause-sendable
returns-in-None-clause-sendable g c = none_sendable

pub returns-in-Some-clause-sendable : goal.returns-in-Some-clause-sendable
returns-in-Some-clause-sendable g c =
    ∥∥₁_elim c.args.self.now.sendable (Bool-set _ _)
    (λ all. subst (HasSpelling (table.records four)) (sym c.chunk.ensures.records) (chunk_sendable c.in-Some.log.now.log (subst (λ o. IsSendable (volume_in o).log) (sym c.in-Some.ensures.value) (all c.args.volume))))
