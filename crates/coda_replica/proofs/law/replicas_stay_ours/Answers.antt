use Rattle.coda_replica.proofs.Standings.{up_ours, failed_ours, crashed_ours}
use Rattle.coda_replica.proofs.law.replicas_stay_ours.Goals as goal

pub returns-clause-up : goal.returns-clause-up
returns-clause-up g c = λ header history up. up_ours g.D.Disk.told header c.args.replica.now history up

pub returns-clause-failed : goal.returns-clause-failed
returns-clause-failed g c = λ header history entry stands. failed_ours (g.D.Disk.told c.args.replica.now.journal.disk) header history entry stands

pub returns-clause-crash : goal.returns-clause-crash
returns-clause-crash g c = λ header image ours crashed. crashed_ours (g.D.Disk.told c.args.replica.now.journal.disk) (g.D.Disk.told c.args.crashed.now) header image ours crashed
