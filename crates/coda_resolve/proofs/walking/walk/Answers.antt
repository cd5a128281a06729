use Rattle.std.proofs.Common.{reverse, ap, ◌++◌, ◌∙◌}
use Rattle.std.specs.List.{flat_map}
use Rattle.coda_resolve.specs.Outcome.{next_up}
use Rattle.coda_resolve.specs.Placement.{AreTreesOfOneKind}
use Rattle.coda_resolve.specs.Taken.{fids_of}
use Rattle.coda_resolve.specs.Views.{replicas_of}
use Rattle.coda_resolve.proofs.Stack.{popped, one_taken, one_more_taken, all_from}
use Rattle.coda_resolve.proofs.walking.walk.Goals as goal

pub loop-preserved : goal.loop-preserved
loop-preserved c =
    let replicas = replicas_of c.args.views.now in
    let g = c.in-Some.fid in
    let top = popped c.loop.stack.items c.pop.new.self.items g c.in-Some.ensures.items in
    let next = c.in_ok-stack-2.ensures ∙ ap (λ fate. next_up fate ++ reverse c.pop.new.self.items) c.in_ok-fate.ensures in
    let more = one_more_taken replicas c.loop.taken.items c.push.new.self.items g c.in_ok-fate.fate c.in_ok-push.ensures.items c.loop.invariant.fates c.in_ok-fate.ensures in
    let step = λ (history : AreTreesOfOneKind replicas c.args.root). one_taken replicas c.args.root history (fids_of c.loop.taken.items) (reverse c.loop.stack.items) (reverse c.pop.new.self.items) (reverse c.in_ok-stack-2.stack.items) g top next (c.loop.invariant.below history) (c.loop.invariant.all history) in
    record {
      below = λ history. (step history).0;
      all = λ history. ap (λ fids. fids ++ flat_map (all_from replicas c.args.root history) (reverse c.in_ok-stack-2.stack.items)) more.1 ∙ (step history).1;
      fates = more.0;
    }
