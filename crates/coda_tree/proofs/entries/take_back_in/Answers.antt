use Rattle.std.proofs.Common.{sym, ap, ◌∙◌, subst}
use Rattle.std.specs.List.{insert}
use Rattle.std.proofs.lemmas.Option.{none-some}
use Rattle.coda_tree.specs.Bindings.{Pairs, IsIndexOf, IsGapFor}
use Rattle.coda_tree.proofs.Pairs.{find_at, put_gap}
use Rattle.coda_tree.proofs.entries.take_back_in.Goals as goal

pub returns-in-Ok : goal.returns-in-Ok
returns-in-Ok c =
    let items = c.args.page.now.items in
    let found = subst (λ (l : Pairs). IsIndexOf l c.args.name c.in-Ok.field-0) (c.deref.ensures.value ∙ c.make_room.ensures.items) c.in-Ok.ensures.found in
    absurd (none-some _ (sym c.requires.free ∙ find_at items c.args.name c.in-Ok.field-0 (c.args.name, c.args.fid) c.requires.sorted found))

pub returns-in-Err : goal.returns-in-Err
returns-in-Err c =
    let gap = subst (λ (l : Pairs). IsGapFor l c.args.name c.in-Err.at) (c.deref.ensures.value ∙ c.make_room.ensures.items) c.in-Err.ensures.absent in
    c.insert_within.ensures ∙ ap (λ (l : Pairs). insert l c.in-Err.at (c.args.name, c.args.fid)) c.make_room.ensures.items ∙ sym (put_gap c.args.page.now.items c.args.name c.args.fid c.in-Err.at gap)
