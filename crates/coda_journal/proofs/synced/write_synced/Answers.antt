use Rattle.coda_journal.proofs.WithSync.{wrote1, wrote2, wrote_ok}
use Rattle.coda_journal.proofs.synced.write_synced.Goals as goal

pub returns-in_err-write_at-clause-wrote : goal.returns-in_err-write_at-clause-wrote
returns-in_err-write_at-clause-wrote g c = λ h.
    let told = g.D.Disk.told in
    wrote1 (told c.args.disk.now) (λ f h' left. g.met.D.Disk.only_now c.args.disk.now f h' left) h c.args.at c.args.bytes.now (told c.write_at.new.self) (c.write_at.ensures.written h) c.from_residual.ensures.0

pub returns-in_err-sync-clause-wrote : goal.returns-in_err-sync-clause-wrote
returns-in_err-sync-clause-wrote g c = λ h.
    let told = g.D.Disk.told in
    let w = c.write_at.ensures.written h in
    wrote2 (told c.args.disk.now) (λ f h' left. g.met.D.Disk.only_now c.args.disk.now f h' left) h c.args.at c.args.bytes.now (told c.write_at.new.self) (told c.sync.new.self) w (c.sync.ensures.kept w.honest) c.from_residual-in_err-sync.ensures.0

pub returns-clause-wrote : goal.returns-clause-wrote
returns-clause-wrote g c = λ h.
    let told = g.D.Disk.told in
    let w = c.in_ok-write_at.ensures.written h in
    wrote_ok (told c.args.disk.now) (λ f h' left. g.met.D.Disk.only_now c.args.disk.now f h' left) h c.args.at c.args.bytes.now (told c.write_at.new.self) (told c.sync.new.self) w (c.sync.ensures.kept w.honest) (c.in_ok-sync.ensures.durable w.honest)
