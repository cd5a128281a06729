use Rattle.std.proofs.Common.{inl}
use Rattle.coda_actors.specs.Form.{IsAsked}
use Rattle.coda_actors.proofs.Deeds.{opens, opens_fault, opens_memory, opens_foreign}
use Rattle.coda_actors.proofs.life.make.Goals as goal

pub returns-in-Ok-clause-step : goal.returns-in-Ok-clause-step
returns-in-Ok-clause-step g c = λ plain fits.
    let law = g.met.A.Actor in
    let header = c.args.header.now in
    let form = g.A.Actor.form in
    let asked : IsAsked form header = record { whole = c.requires.header; words = c.has_words.ensures; owner = c.requires.owner } in
    let m = c.in-Ok.ensures.ok fits.stands.honest in
    let w = opens form (record { same = law.same; empty = law.empty; grows = law.grows }) header asked plain (g.D.Disk.told c.args.disk) (c.in-Ok.ensures.seen fits.stands.honest) c.in-Ok.actor c.in-Ok.count m (law.lawful c.in-Ok.actor header m.history m.up).1 fits in
    (w.0, w.1, inl w.2)

pub returns-in-Foreign-clause-step : goal.returns-in-Foreign-clause-step
returns-in-Foreign-clause-step g c = λ plain fits.
    let law = g.met.A.Actor in
    let header = c.args.header.now in
    let form = g.A.Actor.form in
    let asked : IsAsked form header = record { whole = c.requires.header; words = c.has_words.ensures; owner = c.requires.owner } in
    let honest = fits.stands.honest in
    let at = c.in-Foreign.at in
    let told = g.D.Disk.told in
    opens_foreign form (record { same = law.same; empty = law.empty; grows = law.grows }) header asked plain (told c.args.disk) (c.in-Err.ensures.seen honest) (told c.in-Err.unmounted.disk) at (c.in-Err.ensures.err honest).honest
    (λ own. c.in-Err.ensures.never_foreign honest own at c.in-Foreign.is) (c.in-Err.ensures.foreign honest at c.in-Foreign.is) fits

pub returns-in-DiskFault-clause-step : goal.returns-in-DiskFault-clause-step
returns-in-DiskFault-clause-step g c = λ plain fits.
    let law = g.met.A.Actor in
    let header = c.args.header.now in
    let form = g.A.Actor.form in
    let asked : IsAsked form header = record { whole = c.requires.header; words = c.has_words.ensures; owner = c.requires.owner } in
    let honest = fits.stands.honest in
    let told = g.D.Disk.told in
    opens_fault form (record { same = law.same; empty = law.empty; grows = law.grows }) header asked plain (told c.args.disk) (c.in-Err.ensures.seen honest) (told c.in-Err.unmounted.disk) (c.in-Err.ensures.err honest) fits

pub returns-in-Memory-clause-step : goal.returns-in-Memory-clause-step
returns-in-Memory-clause-step g c = λ plain fits.
    let law = g.met.A.Actor in
    let header = c.args.header.now in
    let form = g.A.Actor.form in
    let asked : IsAsked form header = record { whole = c.requires.header; words = c.has_words.ensures; owner = c.requires.owner } in
    let honest = fits.stands.honest in
    let told = g.D.Disk.told in
    opens_memory form (record { same = law.same; empty = law.empty; grows = law.grows }) header asked plain (told c.args.disk) (c.in-Err.ensures.seen honest) (told c.in-Err.unmounted.disk) (c.in-Err.ensures.err honest) fits
