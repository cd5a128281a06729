use Rattle.std.proofs.Common.{zero, [], reverse, refl, ap, sym, subst, ◌++◌, ◌∙◌}
use Rattle.std.proofs.lemmas.List.{append-nil}
use Rattle.std.specs.List.{flat_map}
use Rattle.coda_resolve.specs.Placement.{AreTreesOfOneKind}
use Rattle.coda_resolve.specs.Outcome.{walk, levels_of}
use Rattle.coda_resolve.specs.Survey.{AreOthersBut}
use Rattle.coda_resolve.specs.Views.{replicas_of}
use Rattle.coda_resolve.proofs.Others.{none_others}
use Rattle.coda_resolve.proofs.Stack.{AllBelow, popped, one_taken, all_from}
use Rattle.coda_resolve.proofs.walking.take_up.Goals as goal

pub loop-init : goal.loop-init
loop-init c =
    let replicas = replicas_of c.args.views.now in
    record {
      below = λ history. subst (λ stack. AllBelow replicas c.args.root (reverse stack)) (sym c.in_ok-stack.ensures.items) ((zero, refl), tt);
      all = λ history. (λ i. c.in_ok-fids.ensures.items i ++ flat_map (walk (levels_of replicas) replicas) (reverse (c.in_ok-stack.ensures.items i))) ∙ append-nil (walk (levels_of replicas) replicas c.args.root);
      others = subst (λ fids. AreOthersBut replicas c.args.known.now.changed.items fids c.new-others.result.items) (sym c.in_ok-fids.ensures.items) (subst (AreOthersBut replicas c.args.known.now.changed.items []) (sym c.new-others.ensures.items) (none_others replicas c.args.known.now.changed.items));
    }

pub loop-preserved : goal.loop-preserved
loop-preserved c =
    let replicas = replicas_of c.args.views.now in
    let g = c.in-Some.fid in
    let top = popped c.loop.stack.items c.pop.new.self.items g c.in-Some.ensures.items in
    let next = c.in_ok-stack-2.ensures.next replicas c.args.known.now.changed.items c.in_ok-outlook.ensures in
    let step = λ (history : AreTreesOfOneKind replicas c.args.root). one_taken replicas c.args.root history c.loop.fids.items (reverse c.loop.stack.items) (reverse c.pop.new.self.items) (reverse c.in_ok-stack-2.stack.items) g top next (c.loop.invariant.below history) (c.loop.invariant.all history) in
    record {
      below = λ history. (step history).0;
      all = λ history. ap (λ fids. fids ++ flat_map (all_from replicas c.args.root history) (reverse c.in_ok-stack-2.stack.items)) c.in_ok-push.ensures.items ∙ (step history).1;
      others = subst (λ fids. AreOthersBut replicas c.args.known.now.changed.items fids c.go_on.new.others.items) (sym c.in_ok-push.ensures.items) (c.in_ok-stack-2.ensures.others replicas c.args.known.now.changed.items c.loop.fids.items c.in_ok-outlook.ensures c.loop.invariant.others);
    }
