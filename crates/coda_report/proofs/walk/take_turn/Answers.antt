use Rattle.std.proofs.Common.{ℕ, List, [], ◌∷◌, ◌-◌, ◌++◌, ◌≤◌, length, reverse, Result, Ok, Err, OnOk, string_bytes, refl, sym, ap, subst, ◌∙◌, arith}
use Rattle.std.specs.FinMap as map
use Rattle.std.proofs.lemmas.Result.{on_ok_weaker}
use Rattle.coda_report.specs.Walking.{own_line, turns_of, Nest}
use Rattle.std.proofs.lemmas.List.{append-nil}
use Rattle.coda_report.proofs.Turns.{frame_left, nest_left, nest_turn, turn_done, last_first}
use Rattle.coda_report.proofs.walk.take_turn.Goals as goal

-- what follows from two facts of a result that is good
of_both : {A E P Q R : Type 0} (r : Result A E) → OnOk r P → OnOk r Q → (P → Q → R) → OnOk r R
of_both (Ok x) p q f = f p q
of_both (Err e) p q f = tt

pub returns-then-frame-len-clause-turn : goal.returns-then-frame-len-clause-turn
returns-then-frame-len-clause-turn c =
    let past : length (map.entries c.args.frame.entries.now) ≤ c.args.frame.next = omega (arith, c.len.ensures, map.len-entries c.args.frame.entries.now) in (
      [],
      sym (append-nil (string_bytes c.args.out.now)),
      frame_left c.args.volume.now.nodes c.args.levels c.args.path.now.items c.args.frame (reverse c.args.frames.now.items) past
          ∙ ap (λ (p : List ℕ). [] ∷ turns_of c.args.volume.now.nodes c.args.levels p (reverse c.args.frames.now.items)) (sym c.truncate.ensures.items),
    )

pub returns-then-frame-len-clause-nest : goal.returns-then-frame-len-clause-nest
returns-then-frame-len-clause-nest c =
    subst (λ (p : List ℕ). Nest p (reverse c.args.frames.now.items)) (sym c.truncate.ensures.items) (nest_left c.args.path.now.items c.args.frame (reverse c.args.frames.now.items) c.requires).1

pub returns-clause-turn : goal.returns-clause-turn
returns-clause-turn c =
    let m = c.args.volume.now.nodes in
    let levels = c.args.levels in
    let here = c.deref.result.now in
    let own = own_line m (levels - length c.push.new.self.items) here c.unwrap.result.1 in
    of_both c.show_object.result c.show_object.ensures.line c.show_object.ensures.turns (λ line left. (
      own,
      line ∙ ap (λ (t : List ℕ). t ++ own) c.in_ok-make_room.ensures,
      turn_done m levels c.args.path.now.items here c.args.frames.now.items c.push.new.self.items c.show_object.new.frames.items c.args.frame _ (c.unwrap.result.0.now, c.unwrap.result.1) (sym (rw c.unwrap.ensures at c.at.ensures.pair))
          refl refl refl (nest_left c.args.path.now.items c.args.frame (reverse c.args.frames.now.items) c.requires).0
          (c.deref.ensures.value ∙ c.in_ok-push_name.ensures ∙ ap (λ (p : List ℕ). p ++ 47 ∷ c.unwrap.result.0.now) c.truncate.ensures.items)
          c.in_ok-push.ensures.items left
          ∙ ap (λ (p : List ℕ). own ∷ turns_of m levels p (reverse c.show_object.new.frames.items)) c.deref.ensures.value,
    ))

pub returns-clause-nest : goal.returns-clause-nest
returns-clause-nest c =
    let named = c.deref.ensures.value ∙ c.in_ok-push_name.ensures ∙ ap (λ (p : List ℕ). p ++ 47 ∷ c.unwrap.result.0.now) c.truncate.ensures.items in
    let before = nest_turn c.args.path.now.items c.deref.result.now (47 ∷ c.unwrap.result.0.now) c.args.frame _ (reverse c.args.frames.now.items) refl named c.requires in
    let first = last_first c.args.frames.now.items c.push.new.self.items _ c.in_ok-push.ensures.items in
    on_ok_weaker c.show_object.result (λ after. subst (λ (p : List ℕ). Nest p (reverse c.show_object.new.frames.items)) c.deref.ensures.value (after (subst (Nest c.deref.result.now) (sym first) before))) c.show_object.ensures.nest
