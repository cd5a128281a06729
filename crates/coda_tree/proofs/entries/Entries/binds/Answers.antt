use Rattle.std.proofs.Common.{◌≡◌, true, ap, ◌∙◌, sym}
use Rattle.std.specs.FinMap as map
use Rattle.std.proofs.lemmas.Cmp.{nat_list_cmp_total}
use Rattle.std.proofs.lemmas.Map.Lookups.{exact_bytes}
use Rattle.coda_tree.specs.Pages.{Pages, all_pairs, any_binds}
use Rattle.coda_tree.proofs.MapEntries.{entry_index, get_entry}
use Rattle.coda_tree.proofs.Pairs.{entries_seen}
use Rattle.coda_tree.proofs.Binds.{bound_pair, pair_binds}
use Rattle.coda_tree.proofs.entries.Entries.binds.Goals as goal

pub returns-clause-some : goal.returns-clause-some
returns-clause-some c = λ binds.
    let m = c.args.self.now in
    let f = c.args.fid in
    let seen = entries_seen (all_pairs c.self.inside.pages.items) m c.self.invariant.sorted c.self.view_is in
    let is : c.binds.result ≡ any_binds f (map.entries m) = c.binds.ensures ∙ ap (λ (p : Pages). any_binds f (all_pairs p)) c.deref.ensures.value ∙ sym (ap (any_binds f) seen) in
    let found = bound_pair f (map.entries m) (sym is ∙ binds) in
    (found.1, get_entry nat_list_cmp_total m found.0 (found.1, f) found.2)

pub returns-clause-none : goal.returns-clause-none
returns-clause-none c = λ not name bound.
    let m = c.args.self.now in
    let f = c.args.fid in
    let seen = entries_seen (all_pairs c.self.inside.pages.items) m c.self.invariant.sorted c.self.view_is in
    let is : c.binds.result ≡ any_binds f (map.entries m) = c.binds.ensures ∙ ap (λ (p : Pages). any_binds f (all_pairs p)) c.deref.ensures.value ∙ sym (ap (any_binds f) seen) in
    let at = entry_index nat_list_cmp_total exact_bytes m name f bound in
    let yes : any_binds f (map.entries m) ≡ true = pair_binds f (map.entries m) at.0 name at.1 in
    cc
