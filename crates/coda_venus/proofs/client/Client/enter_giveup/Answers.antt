use Rattle.std.proofs.Common.{rules, refl, sym, subst}
use Rattle.std.specs.Prelude.{OnOk}
use Rattle.coda_record.specs.declared.entry.ClientEntry.TheVariants.{Giveup}
use Rattle.coda_venus.specs.State.{client_after}
use Rattle.coda_venus.specs.Code.{IsLogAt, IsClient}
use Rattle.coda_venus.specs.declared.client.Client.{Client}
use Rattle.coda_venus.proofs.OneLog.{with_log}
use Rattle.coda_venus.proofs.client.Client.enter_giveup.Goals as goal
use Rattle.coda_venus.proofs.client.Client.enter_giveup.Goals.{in-Ok, in-Err}

pub returns-after-giveup-clause-leaves : goal.returns-after-giveup-clause-leaves
returns-after-giveup-clause-leaves c = λ s is.
    let old = c.args.self.now in
    let v = s.volumes c.args.volume in
    let left : Client = record old { logs = c.get_mut.follows.lender c.giveup.new.self } in
    elim c.match-giveup.branch [
      | in-Ok w ↦
          subst (λ r. OnOk r (IsClient (client_after s (Giveup c.args.volume)) left)) (sym w.result-is)
          (with_log s old left c.args.volume _ c.giveup.new.self is (refl, refl) (λ q. search rules) (w.in-Ok.ensures.given_up v (subst (IsLogAt v) (sym (c.in-Some.ensures).value) (is.logs c.args.volume))))
      | in-Err w ↦ subst (λ r. OnOk r (IsClient (client_after s (Giveup c.args.volume)) left)) (sym w.result-is) tt
    ]
