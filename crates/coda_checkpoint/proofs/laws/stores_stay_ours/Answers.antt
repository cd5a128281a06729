use Rattle.coda_checkpoint.proofs.Doubts.{at_rest_ours, doubt_ours}
use Rattle.coda_checkpoint.proofs.laws.stores_stay_ours.Goals as goal

pub returns-clause-at_rest : goal.returns-clause-at_rest
returns-clause-at_rest g c = λ header payloads o.
    let j = c.args.store.now.journal in
    at_rest_ours (g.D.Disk.told j.disk) header j.start j.used j.area payloads o

pub returns-clause-failed : goal.returns-clause-failed
returns-clause-failed g c = λ header payloads snapshot d.
    doubt_ours (g.D.Disk.told c.args.store.now.journal.disk) header payloads snapshot d
