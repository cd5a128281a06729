use Rattle.std.proofs.Common.{◌≤◌, subst}
use Rattle.coda_venus.specs.State.{ClientVolume}
use Rattle.coda_venus.proofs.Performed.{volume_is}
use Rattle.coda_venus.proofs.Recorded.{few_operations}
use Rattle.coda_venus.proofs.venus.Venus.accept_served.Goals as goal

pub returns-clause-record : goal.returns-clause-record
returns-clause-record g c = λ s is.
    let old = c.args.self.now in
    c.record_for.ensures.record s is
    (subst (λ (v : ClientVolume). v.log.last ≤ 4294967295)
    (volume_is (s.volumes c.args.volume) _ (is.logs c.args.volume))
    (few_operations old.client.logs c.args.volume old.sendable))
