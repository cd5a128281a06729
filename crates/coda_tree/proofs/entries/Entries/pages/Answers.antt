use Rattle.std.proofs.Common.{sym, ap, ◌∙◌}
use Rattle.coda_tree.specs.Pages.{Pages, all_pairs}
use Rattle.coda_tree.proofs.Pairs.{entries_seen}
use Rattle.coda_tree.proofs.entries.Entries.pages.Goals as goal

pub returns : goal.returns
returns c = ap (λ (p : Pages). all_pairs p) c.deref.ensures.value ∙ sym (entries_seen (all_pairs c.self.inside.pages.items) c.args.self.now c.self.invariant.sorted c.self.view_is)
