use Rattle.std.proofs.Common.{◌≡◌, ◌∙◌, sym, ap, map}
use Rattle.std.specs.FinMap.{is_sorted}
use Rattle.std.proofs.lemmas.List.{map-id}
use Rattle.std.proofs.lemmas.Map.Iter.{iter_end}
use Rattle.coda_fid.specs.Fid.{fid_cmp}
use Rattle.coda_fid.specs.declared.fid.Fid.{Fid}
use Rattle.coda_reslog.specs.declared.change.Held.{Held}
use Rattle.coda_resolve.proofs.Sorted.{sorted_entries, entries_hold}
use Rattle.coda_repair.proofs.part.in_order.Goals as goal

pub returns-clause-sorted : goal.returns-clause-sorted
returns-clause-sorted c =
    let ends : map {B = Fid × Held} (λ x. x) c.loop-fid.yielded ≡ c.args.held.entries = (iter_end (λ x. x) c.args.held.entries c.loop-fid.yielded c.into_iter-fid-iterator.result c.loop-fid.fid-iterator c.next.new.self c.next.result c.into_iter-fid-iterator.ensures.into_iter_gives.0 c.loop-fid.yielded_by c.in-None.is c.next.ensures.steps).0 in
    ap (λ es. is_sorted fid_cmp es) (c.from_vec.ensures ∙ c.loop-fid.invariant ∙ sym (map-id c.loop-fid.yielded) ∙ ends) ∙ sorted_entries c.args.held.entries c.into_iter-fid-iterator.ensures.into_iter_gives.5

pub returns-clause-same : goal.returns-clause-same
returns-clause-same c = λ f.
    let ends : map {B = Fid × Held} (λ x. x) c.loop-fid.yielded ≡ c.args.held.entries = (iter_end (λ x. x) c.args.held.entries c.loop-fid.yielded c.into_iter-fid-iterator.result c.loop-fid.fid-iterator c.next.new.self c.next.result c.into_iter-fid-iterator.ensures.into_iter_gives.0 c.loop-fid.yielded_by c.in-None.is c.next.ensures.steps).0 in
    entries_hold c.from_vec.result c.args.held.entries f (c.from_vec.ensures ∙ c.loop-fid.invariant ∙ sym (map-id c.loop-fid.yielded) ∙ ends) c.into_iter-fid-iterator.ensures.into_iter_gives.5
