use Rattle.std.proofs.Common.{inl}
use Rattle.coda_actors.proofs.Deeds.{recovers, recovers_fault, recovers_memory, recovers_foreign}
use Rattle.coda_actors.proofs.life.recover.Goals as goal

pub returns-in-Ok-clause-step : goal.returns-in-Ok-clause-step
returns-in-Ok-clause-step g c = λ plain fits.
    let law = g.met.A.Actor in
    let header = c.made_disk-disk.result.0 in
    let disk = c.made_disk-disk.result.1 in
    let stays = c.made_disk-disk.ensures.stands plain fits in
    let honest = stays.stands.honest in
    let m = c.in-Ok.ensures.ok honest in
    let w = recovers g.A.Actor.form (record { same = law.same; empty = law.empty; grows = law.grows }) header stays.asked plain (g.D.Disk.told disk) (c.in-Ok.ensures.seen honest) c.in-Ok.actor c.in-Ok.count m (law.lawful c.in-Ok.actor header m.history m.up).1 stays in
    (w.0, w.1, inl w.2)

pub returns-in-Foreign-clause-step : goal.returns-in-Foreign-clause-step
returns-in-Foreign-clause-step g c = λ plain fits.
    let law = g.met.A.Actor in
    let header = c.made_disk-disk.result.0 in
    let disk = c.made_disk-disk.result.1 in
    let stays = c.made_disk-disk.ensures.stands plain fits in
    let honest = stays.stands.honest in
    let at = c.in-Foreign.at in
    let told = g.D.Disk.told in
    recovers_foreign g.A.Actor.form (record { same = law.same; empty = law.empty; grows = law.grows }) header stays.asked plain (told disk) (c.in-Err.ensures.seen honest) (told c.in-Err.unmounted.disk) at (c.in-Err.ensures.err honest).honest
    (λ own. c.in-Err.ensures.never_foreign honest own at c.in-Foreign.is) (c.in-Err.ensures.foreign honest at c.in-Foreign.is) stays

pub returns-in-DiskFault-clause-step : goal.returns-in-DiskFault-clause-step
returns-in-DiskFault-clause-step g c = λ plain fits.
    let law = g.met.A.Actor in
    let header = c.made_disk-disk.result.0 in
    let disk = c.made_disk-disk.result.1 in
    let stays = c.made_disk-disk.ensures.stands plain fits in
    let honest = stays.stands.honest in
    let told = g.D.Disk.told in
    recovers_fault g.A.Actor.form (record { same = law.same; empty = law.empty; grows = law.grows }) header stays.asked plain (told disk) (c.in-Err.ensures.seen honest) (told c.in-Err.unmounted.disk) (c.in-Err.ensures.err honest) stays

pub returns-in-Memory-clause-step : goal.returns-in-Memory-clause-step
returns-in-Memory-clause-step g c = λ plain fits.
    let law = g.met.A.Actor in
    let header = c.made_disk-disk.result.0 in
    let disk = c.made_disk-disk.result.1 in
    let stays = c.made_disk-disk.ensures.stands plain fits in
    let honest = stays.stands.honest in
    let told = g.D.Disk.told in
    recovers_memory g.A.Actor.form (record { same = law.same; empty = law.empty; grows = law.grows }) header stays.asked plain (told disk) (c.in-Err.ensures.seen honest) (told c.in-Err.unmounted.disk) (c.in-Err.ensures.err honest) stays
