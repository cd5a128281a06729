use Rattle.coda_journal.proofs.Mounts.{still_ours, not_foreign}
use Rattle.coda_journal.proofs.journal.Journal.mount.Goals as goal

pub returns-in-Err-clause-never_foreign : goal.returns-in-Err-clause-never_foreign
returns-in-Err-clause-never_foreign g c = λ h ours.
    not_foreign c.args.header.now c.requires (g.D.Disk.told c.args.disk) ours (g.D.Disk.told c.mount_disk.new.disk) c.in-Err.why (c.in-Err.ensures.answers h) (g.met.D.Disk.seen_now c.args.disk h)

pub returns-in-Err-clause-ours : goal.returns-in-Err-clause-ours
returns-in-Err-clause-ours g c = λ h ours.
    still_ours c.args.header.now c.requires (g.D.Disk.told c.args.disk) ours (g.D.Disk.told c.mount_disk.new.disk) c.in-Err.why (c.in-Err.ensures.answers h)
