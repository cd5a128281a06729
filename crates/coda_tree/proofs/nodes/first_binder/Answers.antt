use Rattle.std.proofs.Common.{Some, sym, ◌∙◌, subst}
use Rattle.coda_tree.proofs.FirstParent.{IsPassed, IsBinder, passed_over, passed_binder, binder_still, rest_distinct, passed_all}
use Rattle.coda_tree.proofs.nodes.first_binder.Goals as goal

pub loop-dir-preserved-then-binds : goal.loop-dir-preserved-then-binds
loop-dir-preserved-then-binds c =
    let all = c.args.nodes.now.entries in
    let left = c.loop-dir.dir-iterator in
    let rest = c.next.new.self in
    let k = c.in-Some.dir.now in
    let node = c.in-Some.node.now in
    let is = c.in-Some.ensures.steps in
    let binds = sym c.binds.ensures ∙ c.if-binds.true in
    let distinct = c.loop-dir.invariant.distinct in
    record {
      distinct = rest_distinct all left rest k node c.args.fid is distinct;
      passed = subst (λ d. IsPassed all rest c.args.fid (Some d)) (sym c.earliest.ensures) (passed_binder all left rest k node c.args.fid is distinct c.loop-dir.first c.loop-dir.invariant.passed);
      binder = subst (λ d. IsBinder all c.args.fid (Some d)) (sym c.earliest.ensures) (binder_still all left rest k node c.args.fid is distinct c.loop-dir.first c.loop-dir.invariant.passed binds c.loop-dir.invariant.binder);
    }

pub loop-dir-preserved : goal.loop-dir-preserved
loop-dir-preserved c =
    let all = c.args.nodes.now.entries in
    let left = c.loop-dir.dir-iterator in
    let rest = c.next.new.self in
    let k = c.in-Some.dir.now in
    let node = c.in-Some.node.now in
    let is = c.in-Some.ensures.steps in
    let distinct = c.loop-dir.invariant.distinct in
    record {
      distinct = rest_distinct all left rest k node c.args.fid is distinct;
      passed = passed_over all left rest k node c.args.fid is distinct c.loop-dir.first c.loop-dir.invariant.passed (sym c.binds.ensures ∙ c.if-binds.false);
      binder = c.loop-dir.invariant.binder;
    }

pub returns : goal.returns
returns c = passed_all c.args.nodes.now.entries c.loop-dir.dir-iterator c.args.fid c.loop-dir.first c.in-None.ensures.steps.0 c.loop-dir.invariant.passed c.loop-dir.invariant.binder
