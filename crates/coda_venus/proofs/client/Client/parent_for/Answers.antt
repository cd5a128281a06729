use Rattle.std.proofs.Common.{◌≡◌, None, sym, ap, subst, ◌∙◌}
use Rattle.std.specs.FinMap as map
use Rattle.coda_venus.specs.Code.{held_of}
use Rattle.coda_venus.specs.History.{IsParent}
use Rattle.coda_venus.specs.Keeping.{parent_for_of}
use Rattle.coda_venus.proofs.Fetches.{parent_fits}
use Rattle.coda_venus.proofs.client.Client.parent_for.Goals as goal

pub returns-in-None-clause-place : goal.returns-in-None-clause-place
returns-in-None-clause-place c = λ missed.
    let held = held_of c.args.self.now in
    let own : map.get held.parents c.args.fid ≡ None = sym c.parent.ensures ∙ c.in-None.is in
    let is : parent_for_of (map.get held.parents c.args.fid) held.nodes c.args.fid ≡ c.binder.result = ap (λ o. parent_for_of o held.nodes c.args.fid) own ∙ sym c.binder.ensures in
    subst (IsParent held c.args.fid) is (parent_fits held c.args.fid missed)
