use Rattle.std.proofs.Common.{◌≡◌, ◌∙◌, ◌||◌, Bool, refl, sym, ap, not, subst, map, ◌++◌}
use Rattle.std.specs.FinMap as finmap
use Rattle.std.specs.List.{filter}
use Rattle.coda_fid.specs.declared.fid.Fid.{Fid}
use Rattle.coda_reslog.specs.declared.change.Change.{Change}
use Rattle.coda_reslog.specs.declared.change.Held.{Held}
use Rattle.coda_resolve.specs.Changes.{is_among}
use Rattle.coda_resolve.specs.Counted.{has_fid}
use Rattle.coda_resolve.specs.Renewals.{AreRenewed, marked_among, IsPart}
use Rattle.coda_resolve.specs.Taken.{fids_of}
use Rattle.coda_resolve.specs.Views.{objects_of, replicas_of}
use Rattle.coda_resolve.proofs.Assembled.{all_others, all_fids, all_marked, all_are, met_left, twice_filtered}
use Rattle.coda_resolve.proofs.Parts.{part_from}
use Rattle.coda_resolve.proofs.Sorted.{keys_in_order}
use Rattle.coda_resolve.proofs.part.part_of.Goals as goal

pub returns : goal.returns
returns c = λ root history all inview.
    let replicas = replicas_of c.args.views.now in
    let view = objects_of c.args.view.now in
    let seen = c.in_ok-below.below in
    let fids = c.args.survey.now.fids.items in
    let some = c.args.survey.now.others.items in
    let changed = c.args.changed.now in
    let others = all_others replicas changed fids some in
    let held = c.in_ok-renewed.renewed.held in
    let touched = c.in_ok-renewed.renewed.touched.items in
    let left : Fid → Bool = λ f. has_fid seen f || is_among fids f in
    let apart : Fid → Bool = λ f. not (is_among fids f) in
    let strays = c.in_ok-others.others.items in
    let change : Change = record { held = c.in_ok-held.held; gone = c.from_vec.result } in
    let are_strays : strays ≡ filter apart (finmap.keys view) =
    c.in_ok-others.ensures
    ∙ (λ i. filter (λ f. not (is_among (c.deref-5.ensures.value i) f)) (c.deref-4.ensures.value i))
    ∙ c.in_ok-unmet.ensures apart (λ f e. ap not (ap (λ gs. is_among gs f) (sym c.deref-3.ensures.value) ∙ e))
    ∙ ap (λ ps. filter apart (map (λ (p : Fid × Held). p.0) ps)) c.objects.ensures
    ∙ ap (filter apart) (sym (keys_in_order c.args.view.now.held c.requires.sorted)) in
    let own : AreRenewed replicas view (filter (λ f. not (is_among strays f)) changed) c.in_ok-own.own.held c.in_ok-own.own.touched.items =
    subst (λ gs. AreRenewed replicas view (filter (λ f. not (is_among gs f)) changed) c.in_ok-own.own.held c.in_ok-own.own.touched.items) c.deref-7.ensures.value (c.in_ok-own.ensures replicas view changed c.requires.own) in
    let renewed : AreRenewed replicas view (fids_of others) held touched =
    subst (λ gs. AreRenewed replicas view gs held touched) (sym (all_fids replicas changed fids some c.requires.changed))
    (subst (λ gs. AreRenewed replicas view (gs ++ fids_of some) held touched) (met_left replicas changed fids some c.requires.changed view inview strays are_strays)
    (subst (λ os. AreRenewed replicas view (filter (λ f. not (is_among strays f)) changed ++ fids_of os) held touched) c.deref-8.ensures.value
    (c.in_ok-renewed.ensures (filter (λ f. not (is_among strays f)) changed) own))) in
    subst (IsPart replicas root view change)
    (sym (c.in_ok-add_all.ensures ∙ ap (λ gs. touched ++ gs) (c.deref-9.ensures.value ∙ sym c.from_vec.ensures)))
    (part_from replicas root view history inview fids others all (all_are replicas changed fids some c.requires.changed c.requires.others) change held touched seen left c.deref-2.result.now
    (c.deref-2.ensures.value ∙ c.in_ok-marked.ensures ∙ ap marked_among c.deref.ensures.value ∙ sym (all_marked replicas changed fids some c.requires.changed))
    c.in_ok-below.ensures (λ f. refl) renewed c.in_ok-held.ensures.sorted c.in_ok-held.ensures.same
    (c.from_vec.ensures
    ∙ c.in_ok-gone.ensures
    ∙ ap (filter (λ f. not (has_fid seen f))) (c.deref-6.ensures.value ∙ are_strays)
    ∙ twice_filtered (has_fid seen) (is_among fids) (finmap.keys view)))
