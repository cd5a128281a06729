use Rattle.std.proofs.Common.{refl, ◌∷◌}
use Rattle.coda_journal.specs.Header.{marks}
use Rattle.coda_journal.proofs.Making.{exit1, exit2, exit3, exit4, finish}
use Rattle.coda_journal.proofs.anew.make.Goals as goal

pub returns-in_err-cut_synced-clause-made : goal.returns-in_err-cut_synced-clause-made
returns-in_err-cut_synced-clause-made g c = λ header same ok h only unmade.
    let body = 0 ∷ marks header in
    let told = g.D.Disk.told in
    let t0 = told c.args.disk.now in
    let t1 = told c.cut_synced.new.disk in
    let w1 = c.cut_synced.ensures.wrote h in
    exit1 header ok body refl t0 only unmade t1 w1 c.from_residual.ensures.0

pub returns-in_err-write_synced-clause-made : goal.returns-in_err-write_synced-clause-made
returns-in_err-write_synced-clause-made g c = λ header same ok h only unmade.
    let body = 0 ∷ marks header in
    let told = g.D.Disk.told in
    let t0 = told c.args.disk.now in
    let t1 = told c.cut_synced.new.disk in
    let w1 = c.in_ok-cut_synced.ensures.wrote h in
    let t2 = told c.write_synced.new.disk in
    let w2 = c.write_synced.ensures.wrote w1.honest in
    exit2 header ok body refl t0 only unmade t1 w1 t2 w2 c.from_residual-in_err-write_synced.ensures.0

pub returns-in_err-write_synced-2-clause-made : goal.returns-in_err-write_synced-2-clause-made
returns-in_err-write_synced-2-clause-made g c = λ header same ok h only unmade.
    let body = 0 ∷ marks header in
    let told = g.D.Disk.told in
    let t0 = told c.args.disk.now in
    let t1 = told c.cut_synced.new.disk in
    let w1 = c.in_ok-cut_synced.ensures.wrote h in
    let t2 = told c.write_synced.new.disk in
    let w2 = c.in_ok-write_synced.ensures.wrote w1.honest in
    let t3 = told c.write_synced-2.new.disk in
    let w3 = c.write_synced-2.ensures.wrote w2.honest in
    exit3 header ok body refl t0 only unmade t1 w1 t2 w2 c.args.behind.now t3 w3 c.from_residual-in_err-write_synced-2.ensures.0

pub returns-in_err-write_synced-3-clause-made : goal.returns-in_err-write_synced-3-clause-made
returns-in_err-write_synced-3-clause-made g c = λ header same ok h only unmade.
    let body = 0 ∷ marks header in
    let told = g.D.Disk.told in
    let t0 = told c.args.disk.now in
    let t1 = told c.cut_synced.new.disk in
    let w1 = c.in_ok-cut_synced.ensures.wrote h in
    let t2 = told c.write_synced.new.disk in
    let w2 = c.in_ok-write_synced.ensures.wrote w1.honest in
    let t3 = told c.write_synced-2.new.disk in
    let w3 = c.in_ok-write_synced-2.ensures.wrote w2.honest in
    let t4 = told c.write_synced-3.new.disk in
    let w4 = c.write_synced-3.ensures.wrote w3.honest in
    exit4 header ok body refl t0 only unmade t1 w1 t2 w2 c.args.behind.now same t3 w3 t4 w4 c.from_residual-in_err-write_synced-3.ensures.0

pub returns-clause-made : goal.returns-clause-made
returns-clause-made g c = λ header same ok h only unmade.
    let body = 0 ∷ marks header in
    let told = g.D.Disk.told in
    let t0 = told c.args.disk.now in
    let t1 = told c.cut_synced.new.disk in
    let w1 = c.in_ok-cut_synced.ensures.wrote h in
    let t2 = told c.write_synced.new.disk in
    let w2 = c.in_ok-write_synced.ensures.wrote w1.honest in
    let t3 = told c.write_synced-2.new.disk in
    let w3 = c.in_ok-write_synced-2.ensures.wrote w2.honest in
    let t4 = told c.write_synced-3.new.disk in
    let w4 = c.in_ok-write_synced-3.ensures.wrote w3.honest in
    finish header ok body refl t0 only unmade t1 w1 t2 w2 c.args.behind.now same t3 w3 t4 w4
