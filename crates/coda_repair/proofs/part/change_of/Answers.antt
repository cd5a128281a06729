use Rattle.std.proofs.Common.{◌∙◌, subst}
use Rattle.coda_reslog.specs.declared.change.Change.{Change}
use Rattle.coda_resolve.specs.Reached.{AreReached}
use Rattle.coda_resolve.specs.Resolution.{copies_at}
use Rattle.coda_resolve.specs.Views.{objects_of, replicas_of}
use Rattle.coda_repair.specs.Making.{ArePut}
use Rattle.coda_repair.proofs.Made.{change_is}
use Rattle.coda_repair.proofs.part.change_of.Goals as goal

pub returns : goal.returns
returns c = λ inview.
    let views = replicas_of c.args.views.now in
    let right = objects_of c.args.right.now in
    let view = objects_of c.args.view.now in
    let change : Change = record { held = c.in_ok-held-2.held; gone = c.from_vec.result } in
    change_is views right c.args.view.now.held c.args.from c.args.top c.args.subtree.now.set c.in_ok-below.below c.args.subtree.now.fids.items c.in_ok-held.held c.spare.new.held change
    c.requires.from_one c.requires.to_eight c.requires.own c.requires.same
    (subst (λ fids. AreReached view fids c.in_ok-below.below) c.deref.ensures.value c.in_ok-below.ensures)
    (subst (λ fids. ArePut c.args.from (copies_at views) right fids c.in_ok-held.held) c.deref-2.ensures.value c.in_ok-held.ensures)
    c.in_ok-spare.ensures c.in_ok-held-2.ensures.sorted c.in_ok-held-2.ensures.same
    (c.from_vec.ensures ∙ c.in_ok-gone.ensures) inview
