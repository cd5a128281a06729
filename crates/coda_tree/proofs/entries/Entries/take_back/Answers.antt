use Rattle.std.proofs.Common.{◌<◌, sym, ap, ◌∙◌, subst}
use Rattle.std.specs.FinMap as map
use Rattle.coda_fid.specs.Name.{name_cmp}
use Rattle.coda_tree.specs.Bindings.{Bindings, Pairs}
use Rattle.coda_tree.specs.Pages.{all_pairs, IsPaged}
use Rattle.coda_tree.proofs.Paged.{paged_get, paged_len, paged_more, seen_put}
use Rattle.coda_tree.proofs.entries.Entries.take_back.Goals as goal

pub more_than-count-requires : goal.more_than-count-requires
more_than-count-requires c = subst (λ n. n < c.args.room) (sym (paged_len c.self.inside.pages.items c.self.inside.count c.args.self.now c.self.invariant c.self.view_is)) c.requires.room

pub take_back-requires-clause-free : goal.take_back-requires-clause-free
take_back-requires-clause-free c = paged_get c.self.inside.pages.items c.self.inside.count c.args.self.now c.args.name c.self.invariant c.self.view_is ∙ c.requires.free

pub take_back-requires-clause-room : goal.take_back-requires-clause-room
take_back-requires-clause-room c =
    subst (λ n. n < c.args.room) (sym (sym c.self.invariant.counted ∙ paged_len c.self.inside.pages.items c.self.inside.count c.args.self.now c.self.invariant c.self.view_is)) c.requires.room

pub invariant_of-self : goal.invariant_of-self
invariant_of-self c =
    subst (IsPaged c.take_back.new.pages.items) (sym c.more_than-count.ensures)
    (paged_more c.self.inside.pages.items c.take_back.new.pages.items c.self.inside.count c.args.name c.args.fid c.self.invariant c.take_back.ensures.pairs c.take_back.ensures.filled
    (paged_get c.self.inside.pages.items c.self.inside.count c.args.self.now c.args.name c.self.invariant c.self.view_is ∙ c.requires.free))

pub returns : goal.returns
returns c =
    ap (λ (l : Pairs). map.from_sorted {R = name_cmp} l) c.take_back.ensures.pairs ∙ seen_put (all_pairs c.self.inside.pages.items) c.args.name c.args.fid c.self.invariant.sorted
    ∙ ap (λ (m : Bindings). map.insert m c.args.name c.args.fid) c.self.view_is
