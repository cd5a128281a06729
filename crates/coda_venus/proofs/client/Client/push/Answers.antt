use Rattle.std.proofs.Common.{rules, refl, sym, subst}
use Rattle.std.specs.Prelude.{OnOk, Result, Ok, Err}
use Rattle.coda_plain.specs.Deeds.{Operated}
use Rattle.coda_venus.specs.Code.{IsLogAt, IsVolumeLog, IsClient}
use Rattle.coda_venus.specs.State.{after_deed, volume_after}
use Rattle.coda_venus.specs.declared.client.Client.{Client}
use Rattle.coda_venus.proofs.OneLog.{with_log}
use Rattle.coda_venus.proofs.client.Client.push.Goals as goal

-- what holds on success of one holds on success of the other
both_ok : {A E : Type 0} (r : Result A E) (P Q : Type 0) → OnOk r P → (P → Q) → OnOk r Q
both_ok (Ok x) P Q p to = to p
both_ok (Err e) P Q p to = tt

pub returns-in-Some-clause-pushed : goal.returns-in-Some-clause-pushed
returns-in-Some-clause-pushed c = λ s is.
    let old = c.args.self.now in
    let v = s.volumes c.args.volume in
    let left : Client = record old { logs = c.get_mut.follows.lender c.push.new.self } in
    both_ok c.push.result (IsVolumeLog (volume_after v (Operated c.args.rec)) c.push.new.self) (IsClient (after_deed s c.args.volume (Operated c.args.rec)) left)
    (c.push.ensures.pushed v (subst (IsLogAt v) (sym (c.in-Some.ensures).value) (is.logs c.args.volume)))
    (λ made. with_log s old left c.args.volume _ c.push.new.self is (refl, refl) (λ q. search rules) made)
