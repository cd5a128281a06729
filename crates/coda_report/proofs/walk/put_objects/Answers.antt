use Rattle.std.proofs.Common.{ℕ, List, ◌++◌, reverse, string_bytes, sym, ap, subst, ◌∙◌, arith}
use Rattle.coda_report.specs.Walking.{turns_of, Nest}
use Rattle.coda_report.proofs.Turns.{walk_begins, walk_ends, turn_kept, last_first, nest_none, put_by}
use Rattle.coda_report.proofs.walk.put_objects.Goals as goal

pub loop-frame-init : goal.loop-frame-init
loop-frame-init c =
    let m = c.args.volume.now.nodes in
    let levels = c.len-levels.result in
    let path = c.deref.ensures.value in
    let after = c.show_object.new.frames.items in
    let none = c.new-frames.ensures.items in
    record {
      text =
          ap (λ (p : List ℕ). string_bytes c.show_object.new.out ++ put_by (turns_of m levels p (reverse after))) (sym path)
          ∙ walk_begins m levels c.args.root (string_bytes c.args.out.now) (string_bytes c.show_object.new.out) c.deref.result.now c.new-frames.result.items after c.len-levels.ensures.count (path ∙ c.new-path.ensures.items) none
          c.in_ok-show_object.ensures.line c.in_ok-show_object.ensures.turns;
      nest =
          subst (λ (p : List ℕ). Nest p (reverse after)) path
          (c.in_ok-show_object.ensures.nest (subst (λ fs. Nest c.deref.result.now (reverse fs)) (sym none) (nest_none c.deref.result.now)));
    }

pub loop-frame-preserved : goal.loop-frame-preserved
loop-frame-preserved c =
    let left = turns_of c.args.volume.now.nodes c.len-levels.result c.loop-frame.path.items in
    let first = last_first c.pop.new.self.items c.loop-frame.frames.items c.in-Some.frame c.in-Some.ensures.items in
    let turn = c.in_ok-take_turn.ensures.turn in
    record {
      text = turn_kept (string_bytes c.loop-frame.out) turn.0 (string_bytes c.take_turn.new.out) _ (left (reverse c.loop-frame.frames.items)) _ c.loop-frame.invariant.text turn.1 (ap left first ∙ turn.2);
      nest = c.in_ok-take_turn.ensures.nest;
    }

pub returns : goal.returns
returns c =
    walk_ends c.args.volume.now.nodes c.len-levels.result (string_bytes c.loop-frame.out) _ c.loop-frame.path.items c.loop-frame.frames.items (omega (arith, c.in_default.ensures.cases)) c.loop-frame.invariant.text
