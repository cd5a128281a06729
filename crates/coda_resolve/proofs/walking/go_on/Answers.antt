use Rattle.std.proofs.Common.{reverse, ap, sym, subst, ◌++◌, ◌∙◌}
use Rattle.coda_resolve.specs.Outcome.{next_up}
use Rattle.coda_resolve.specs.Resolution.{copies_at, fate_at}
use Rattle.coda_resolve.specs.Survey.{IsOutlook}
use Rattle.coda_resolve.proofs.Known.{plain_next, plain_mark}
use Rattle.coda_resolve.proofs.Others.{known_more}
use Rattle.coda_resolve.proofs.walking.go_on.Goals as goal

pub returns-in_default-clause-next : goal.returns-in_default-clause-next
returns-in_default-clause-next c = λ views changed is.
    let k = subst (λ o. IsOutlook views changed c.args.fid o c.args.stays) c.in_default.is is in
    ap (λ fids. fids ++ reverse c.args.stack.items) (sym (plain_next (fate_at views c.args.fid) k.plain))

pub returns-in_default-clause-others : goal.returns-in_default-clause-others
returns-in_default-clause-others c = λ views changed fids is are.
    let k = subst (λ o. IsOutlook views changed c.args.fid o c.args.stays) c.in_default.is is in
    known_more views changed fids c.args.others.now.items c.args.fid (plain_mark (copies_at views c.args.fid) c.args.fid (fate_at views c.args.fid) k.plain) k.stays are

pub returns-clause-next : goal.returns-clause-next
returns-clause-next c = λ views changed is.
    let s = subst (λ o. IsOutlook views changed c.args.fid o c.args.stays) c.in-Some.is is in
    c.in_ok-stack.ensures ∙ ap (λ fate. next_up fate ++ reverse c.args.stack.items) s.0

pub returns-clause-others : goal.returns-clause-others
returns-clause-others c = λ views changed fids is are. c.in_ok-add_other.ensures views changed fids (subst (λ o. IsOutlook views changed c.args.fid o c.args.stays) c.in-Some.is is) are
