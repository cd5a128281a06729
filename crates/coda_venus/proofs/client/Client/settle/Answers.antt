use Rattle.std.proofs.Common.{sym, subst}
use Rattle.coda_venus.specs.Code.{IsLogAt}
use Rattle.coda_venus.proofs.Unsettled.{IsUnsettled, unsettled}
use Rattle.coda_venus.proofs.client.Client.settle.Goals as goal

pub returns-in-Err-clause-refused : goal.returns-in-Err-clause-refused
returns-in-Err-clause-refused c = λ s is.
    let v = s.volumes c.args.volume in
    subst (IsUnsettled v c.args.number) (sym c.unsettled_as.ensures.is) (unsettled v _ c.args.number c.in-Err.why (subst (IsLogAt v) (sym (c.in-Some.ensures).value) (is.logs c.args.volume)) c.in-Err.ensures.causes)
