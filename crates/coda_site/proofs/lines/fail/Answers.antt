use Rattle.coda_script.specs.declared.line.Line.TheVariants as line
use Rattle.coda_site.proofs.Leading.{becomes_named}
use Rattle.coda_site.proofs.lines.fail.Goals as goal

pub returns-in-CrashClient-clause-does : goal.returns-in-CrashClient-clause-does
returns-in-CrashClient-clause-does g c = λ cell shows.
    let bay = c.crash_client.new.bay in
    becomes_named g.B.D.Disk.told (g.B.Bay.out bay) (g.B.Bay.has bay) cell c.crash_client.new.site c.args.line.now (line.CrashClient c.in-CrashClient.client c.in-CrashClient.choice) c.crash_client.result
    (g.B.Bay.answered c.args.bay.now) (g.B.Bay.answered bay) c.in-CrashClient.is (c.crash_client.ensures.does cell shows)

pub returns-in-RecoverClient-clause-does : goal.returns-in-RecoverClient-clause-does
returns-in-RecoverClient-clause-does g c = λ cell shows.
    let bay = c.args.bay.now in
    becomes_named g.B.D.Disk.told (g.B.Bay.out bay) (g.B.Bay.has bay) cell c.recover_client.new.site c.args.line.now (line.RecoverClient c.in-RecoverClient.client) c.recover_client.result
    (g.B.Bay.answered bay) (g.B.Bay.answered bay) c.in-RecoverClient.is (c.recover_client.ensures.does cell shows)
