use Rattle.std.proofs.Common.{rules, refl, sym, subst}
use Rattle.coda_venus.specs.Code.{IsLogAt}
use Rattle.coda_venus.specs.declared.client.Client.{Client}
use Rattle.coda_venus.proofs.OneLog.{with_log}
use Rattle.coda_venus.proofs.client.Client.freeze.Goals as goal

pub returns-in-Ok-clause-frozen : goal.returns-in-Ok-clause-frozen
returns-in-Ok-clause-frozen c = λ s is.
    let old = c.args.self.now in
    let v = s.volumes c.args.volume in
    let left : Client = record old { logs = c.get_mut.follows.lender c.freeze.new.self } in
    with_log s old left c.args.volume _ c.freeze.new.self is (refl, refl) (λ q. search rules)
    (c.in-Ok.ensures.frozen v (subst (IsLogAt v) (sym (c.in-Some.ensures).value) (is.logs c.args.volume)))
