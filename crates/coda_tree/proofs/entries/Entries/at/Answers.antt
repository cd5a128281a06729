use Rattle.std.proofs.Common.{sym, ap, ◌∙◌, subst, ◌<◌, ◌≤◌}
use Rattle.std.specs.Prelude.{slice_get}
use Rattle.std.specs.FinMap as map
use Rattle.std.proofs.lemmas.Cmp.{nat_list_cmp_total}
use Rattle.coda_tree.specs.Bindings.{Pairs}
use Rattle.coda_tree.specs.Pages.{Pages, all_pairs}
use Rattle.coda_tree.proofs.MapEntries.{get_entry, index_within, past_none}
use Rattle.coda_tree.proofs.Pairs.{entries_seen}
use Rattle.coda_tree.proofs.entries.Entries.at.Goals as goal

pub returns-in-Some-clause-pair : goal.returns-in-Some-clause-pair
returns-in-Some-clause-pair c =
    let seen = entries_seen (all_pairs c.self.inside.pages.items) c.args.self.now c.self.invariant.sorted c.self.view_is in
    c.in-Some.ensures ∙ ap (λ (p : Pages). slice_get (all_pairs p) c.args.index) c.deref.ensures.value ∙ sym (ap (λ (l : Pairs). slice_get l c.args.index) seen)

pub returns-in-Some-clause-within : goal.returns-in-Some-clause-within
returns-in-Some-clause-within c = subst (λ n. c.args.index < n) (sym (map.len-entries c.args.self.now)) (index_within (map.entries c.args.self.now) c.args.index c.in-Some.pair.now (sym (returns-in-Some-clause-pair c)))

pub returns-in-Some-clause-bound : goal.returns-in-Some-clause-bound
returns-in-Some-clause-bound c = get_entry nat_list_cmp_total c.args.self.now c.args.index c.in-Some.pair.now (sym (returns-in-Some-clause-pair c))

pub returns-in-None-clause-pair : goal.returns-in-None-clause-pair
returns-in-None-clause-pair c =
    let seen = entries_seen (all_pairs c.self.inside.pages.items) c.args.self.now c.self.invariant.sorted c.self.view_is in
    c.in-None.ensures ∙ ap (λ (p : Pages). slice_get (all_pairs p) c.args.index) c.deref.ensures.value ∙ sym (ap (λ (l : Pairs). slice_get l c.args.index) seen)

pub returns-in-None-clause-past : goal.returns-in-None-clause-past
returns-in-None-clause-past c = subst (λ n. n ≤ c.args.index) (sym (map.len-entries c.args.self.now)) (past_none (map.entries c.args.self.now) c.args.index (sym (returns-in-None-clause-pair c)))
