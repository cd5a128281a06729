use Rattle.std.proofs.lemmas.Result.{on_ok_weaker, on_err_weaker}
use Rattle.coda_engine.proofs.Forwarding.{forwards_on}
use Rattle.coda_engine.proofs.gathering.Gathered.add.Goals as goal

-- the text went straight on, whole
pub returns-clause-ok : goal.returns-clause-ok
returns-clause-ok g c =
    on_ok_weaker c.write_all.result (λ wrote. forwards_on _ _ _ _ _ _ _ _ c.if-gather.ensures c.flush.ensures.sent c.in_ok-flush.ensures.ok c.if-gather-2.ensures wrote) c.write_all.ensures.ok

-- a front of it went straight on
pub returns-clause-err : goal.returns-clause-err
returns-clause-err g c =
    on_err_weaker c.write_all.result (λ part. (part.0, part.1, forwards_on _ _ _ _ _ _ _ _ c.if-gather.ensures c.flush.ensures.sent c.in_ok-flush.ensures.ok c.if-gather-2.ensures part.2)) c.write_all.ensures.err
