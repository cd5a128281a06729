use Rattle.coda_journal.proofs.Ours.{at_rest_ours, failed_ours, crashed_ours}
use Rattle.coda_journal.proofs.laws.journals_stay_ours.Goals as goal

pub returns-clause-at_rest : goal.returns-clause-at_rest
returns-clause-at_rest g c = λ header payloads o. at_rest_ours (g.D.Disk.told c.args.journal.now.disk) header c.args.journal.now.start c.args.journal.now.used c.args.journal.now.area payloads o

pub returns-clause-failed : goal.returns-clause-failed
returns-clause-failed g c = λ header payloads entry s. failed_ours (g.D.Disk.told c.args.journal.now.disk) header payloads entry s

pub returns-clause-crash : goal.returns-clause-crash
returns-clause-crash g c = λ header image ours crashed. crashed_ours (g.D.Disk.told c.args.journal.now.disk) (g.D.Disk.told c.args.crashed.now) header image ours crashed
