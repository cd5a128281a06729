use Rattle.std.proofs.Common.{refl}
use Rattle.std.specs.Prelude.{Some}
use Rattle.coda_actors.specs.Plain.{Down}
use Rattle.coda_actors.proofs.Deeds.{crashed_down}
use Rattle.coda_actors.proofs.life.crash.Goals as goal

pub returns-clause-step : goal.returns-clause-step
returns-clause-step g c = λ plain fits.
    let told = g.B.D.Disk.told in
    let header = c.made_disk-whole.result.0 in
    let stays = c.made_disk-whole.ensures.stands plain fits in
    let w = c.in_ok-disk.ensures.crashed stays.stands.honest in (
      w.0,
      record { disk = plain.disk; life = Down header; left = Some w.0 },
      w.2,
      (header, stays.asks, stays.stands.each w.0 w.1.allowed, refl),
      crashed_down g.A.Actor.form (told c.made_disk-whole.result.1) (told c.in_ok-disk.disk) header plain w.0 stays w.1,
    )
