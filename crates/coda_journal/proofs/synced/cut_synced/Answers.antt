use Rattle.coda_journal.proofs.WithSync.{cut1, cut2, cut_ok}
use Rattle.coda_journal.proofs.synced.cut_synced.Goals as goal

pub returns-in_err-cut-clause-wrote : goal.returns-in_err-cut-clause-wrote
returns-in_err-cut-clause-wrote g c = λ h.
    let told = g.D.Disk.told in
    cut1 (told c.args.disk.now) (λ f h' left. g.met.D.Disk.only_now c.args.disk.now f h' left) h c.args.size (told c.cut.new.self) (c.cut.ensures.was_cut h) c.from_residual.ensures.0

pub returns-in_err-sync-clause-wrote : goal.returns-in_err-sync-clause-wrote
returns-in_err-sync-clause-wrote g c = λ h.
    let told = g.D.Disk.told in
    let w = c.cut.ensures.was_cut h in
    cut2 (told c.args.disk.now) (λ f h' left. g.met.D.Disk.only_now c.args.disk.now f h' left) h c.args.size (told c.cut.new.self) (told c.sync.new.self) w (c.sync.ensures.kept w.honest) c.from_residual-in_err-sync.ensures.0

pub returns-clause-wrote : goal.returns-clause-wrote
returns-clause-wrote g c = λ h.
    let told = g.D.Disk.told in
    let w = c.in_ok-cut.ensures.was_cut h in
    cut_ok (told c.args.disk.now) (λ f h' left. g.met.D.Disk.only_now c.args.disk.now f h' left) h c.args.size (told c.cut.new.self) (told c.sync.new.self) w (c.sync.ensures.kept w.honest) (c.in_ok-sync.ensures.durable w.honest)
