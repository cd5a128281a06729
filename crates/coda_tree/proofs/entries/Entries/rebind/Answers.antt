use Rattle.std.proofs.Common.{IsSome, sym, ap, ◌∙◌, subst}
use Rattle.std.specs.FinMap as map
use Rattle.coda_fid.specs.Name.{name_cmp}
use Rattle.coda_tree.specs.Bindings.{Bindings, Pairs}
use Rattle.coda_tree.specs.Pages.{all_pairs}
use Rattle.coda_tree.proofs.Paged.{paged_get, paged_same, seen_put}
use Rattle.coda_tree.proofs.entries.Entries.rebind.Goals as goal

pub rebind-requires-clause-bound : goal.rebind-requires-clause-bound
rebind-requires-clause-bound c = subst IsSome (sym (paged_get c.self.inside.pages.items c.self.inside.count c.args.self.now c.args.name.now c.self.invariant c.self.view_is)) c.requires

pub invariant_of-self : goal.invariant_of-self
invariant_of-self c =
    paged_same c.self.inside.pages.items c.rebind.new.pages.items c.self.inside.count c.args.name.now c.args.fid c.self.invariant c.rebind.ensures.pairs c.rebind.ensures.filled
    (subst IsSome (sym (paged_get c.self.inside.pages.items c.self.inside.count c.args.self.now c.args.name.now c.self.invariant c.self.view_is)) c.requires)

pub returns : goal.returns
returns c =
    ap (λ (l : Pairs). map.from_sorted {R = name_cmp} l) c.rebind.ensures.pairs ∙ seen_put (all_pairs c.self.inside.pages.items) c.args.name.now c.args.fid c.self.invariant.sorted
    ∙ ap (λ (m : Bindings). map.insert m c.args.name.now c.args.fid) c.self.view_is
