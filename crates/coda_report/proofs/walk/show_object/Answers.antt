use Rattle.std.proofs.Common.{◌-◌, ◌++◌, length, reverse, string_bytes, refl, sym, ap, subst, ◌∙◌, arith}
use Rattle.coda_report.specs.Walking.{Nest}
use Rattle.coda_report.proofs.Turns.{with_none, behind_none, no_levels, not_there, line_there, pushed, no_turns, last_first, nest_framed}
use Rattle.coda_report.proofs.walk.show_object.Goals as goal

pub returns-then-len-levels-clause-line : goal.returns-then-len-levels-clause-line
returns-then-len-levels-clause-line c = with_none _ _ (no_levels c.args.volume.now.nodes (c.args.levels - length c.args.frames.now.items) c.args.path.now c.args.fid (omega arith)).0

pub returns-then-len-levels-clause-turns : goal.returns-then-len-levels-clause-turns
returns-then-len-levels-clause-turns c = behind_none _ _ (no_levels c.args.volume.now.nodes (c.args.levels - length c.args.frames.now.items) c.args.path.now c.args.fid (omega arith)).1

pub returns-in_ok-push-in-Dir-clause-line : goal.returns-in_ok-push-in-Dir-clause-line
returns-in_ok-push-in-Dir-clause-line c =
    c.in_ok-put_object_line-in-Some.ensures
    ∙ ap (λ t. string_bytes c.args.out.now ++ t) (sym (line_there c.args.volume.now.nodes (c.args.levels - length c.args.frames.now.items) c.args.path.now c.args.fid c.in-Some.node.now (omega arith) (sym c.in-Some.ensures)))

pub returns-in_ok-push-in-Dir-clause-turns : goal.returns-in_ok-push-in-Dir-clause-turns
returns-in_ok-push-in-Dir-clause-turns c =
    pushed c.args.volume.now.nodes c.args.levels c.args.path.now c.args.frames.now.items c.push.new.self.items _ c.args.fid c.in-Some.node.now c.in-Dir.entries c.in_ok-push-in-Dir.ensures.items (omega arith) (sym c.in-Some.ensures) c.in-Dir.is refl refl (omega arith)

pub returns-in_ok-push-in-Dir-clause-nest : goal.returns-in_ok-push-in-Dir-clause-nest
returns-in_ok-push-in-Dir-clause-nest c = λ n.
    let first = last_first c.args.frames.now.items c.push.new.self.items _ c.in_ok-push-in-Dir.ensures.items in
    subst (Nest c.args.path.now) (sym first) (nest_framed c.args.path.now _ (reverse c.args.frames.now.items) (omega arith) n)

pub returns-in-File-clause-line : goal.returns-in-File-clause-line
returns-in-File-clause-line c =
    c.in_ok-put_object_line-in-Some.ensures
    ∙ ap (λ t. string_bytes c.args.out.now ++ t) (sym (line_there c.args.volume.now.nodes (c.args.levels - length c.args.frames.now.items) c.args.path.now c.args.fid c.in-Some.node.now (omega arith) (sym c.in-Some.ensures)))

pub returns-in-File-clause-turns : goal.returns-in-File-clause-turns
returns-in-File-clause-turns c = no_turns c.args.volume.now.nodes (c.args.levels - length c.args.frames.now.items) c.args.path.now c.args.fid c.in-Some.node.now _ _ (omega arith) (sym c.in-Some.ensures) c.in-File.is refl

pub returns-in-Link-clause-line : goal.returns-in-Link-clause-line
returns-in-Link-clause-line c =
    c.in_ok-put_object_line-in-Some.ensures
    ∙ ap (λ t. string_bytes c.args.out.now ++ t) (sym (line_there c.args.volume.now.nodes (c.args.levels - length c.args.frames.now.items) c.args.path.now c.args.fid c.in-Some.node.now (omega arith) (sym c.in-Some.ensures)))

pub returns-in-Link-clause-turns : goal.returns-in-Link-clause-turns
returns-in-Link-clause-turns c = no_turns c.args.volume.now.nodes (c.args.levels - length c.args.frames.now.items) c.args.path.now c.args.fid c.in-Some.node.now _ _ (omega arith) (sym c.in-Some.ensures) c.in-Link.is refl

pub returns-in-None-clause-line : goal.returns-in-None-clause-line
returns-in-None-clause-line c = with_none _ _ (not_there c.args.volume.now.nodes (c.args.levels - length c.args.frames.now.items) c.args.path.now c.args.fid (sym c.in-None.ensures)).0

pub returns-in-None-clause-turns : goal.returns-in-None-clause-turns
returns-in-None-clause-turns c = behind_none _ _ (not_there c.args.volume.now.nodes (c.args.levels - length c.args.frames.now.items) c.args.path.now c.args.fid (sym c.in-None.ensures)).1
