use Rattle.coda_venus.proofs.Standings.{up_ours, failed_ours, crashed_ours}
use Rattle.coda_venus.proofs.law.clients_stay_ours.Goals as goal

pub returns-clause-up : goal.returns-clause-up
returns-clause-up g c = λ header history up. up_ours g.D.Disk.told header c.args.venus.now history up

pub returns-clause-failed : goal.returns-clause-failed
returns-clause-failed g c = λ header history payload stands. failed_ours (g.D.Disk.told c.args.venus.now.journal.disk) header history payload stands

pub returns-clause-crash : goal.returns-clause-crash
returns-clause-crash g c = λ header image ours crashed. crashed_ours (g.D.Disk.told c.args.venus.now.journal.disk) (g.D.Disk.told c.args.crashed.now) header image ours crashed
