use Rattle.coda_matching.specs.Replicas.{journal_at}
use Rattle.coda_sending.proofs.Rulings.{ruling_ends}
use Rattle.coda_sending.proofs.ruling.rule.Goals as goal

pub returns-clause-ends : goal.returns-clause-ends
returns-clause-ends g c = λ header history span up is sent.
    ruling_ends g.D.Disk.told header history c.args.client c.args.number c.args.recs.now span c.args.replica.now c.decide.new.self up is sent c.decide.result
    (c.decide.ensures.decides header (journal_at header.number history) up).answers
