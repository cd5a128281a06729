use Rattle.std.proofs.Common.{sym, ap, ◌∙◌, subst}
use Rattle.std.proofs.lemmas.Result.{on_ok_weaker, on_err_weaker}
use Rattle.coda_tree.specs.Volume.{child, bind_in, IsDirAt}
use Rattle.coda_tree.specs.Slots.{Slots, keyed, nodes_in, altered, slot_changed}
use Rattle.coda_tree.specs.SlotSteps.{MayBindSlot}
use Rattle.coda_tree.proofs.Keyed.{keyed_altered, keyed_same}
use Rattle.coda_tree.proofs.SlotMap.{count_either, bind_slot, held_kept}
use Rattle.coda_tree.proofs.slots.SlotTable.bind.Goals as goal

pub bind-requires : goal.bind-requires
bind-requires c =
    held_kept (λ slot. MayBindSlot slot c.args.name) c.self.inside.slots.entries c.args.dir (bind_slot (keyed c.self.inside.slots.entries) c.args.dir c.args.name
    (subst (λ (s : Slots). IsDirAt (nodes_in s) c.args.dir) (sym c.self.view_is) c.requires.dir_there) (ap (λ (s : Slots). child (nodes_in s) c.args.dir c.args.name) c.self.view_is ∙ c.requires.name_free))

pub invariant_of-self : goal.invariant_of-self
invariant_of-self c =
    let old = c.self.inside.slots.entries in
    let new = c.bind.new.slots.entries in
    c.self.invariant ∙ sym (count_either c.bind.result (keyed old) (keyed new) c.args.dir (λ node. bind_in node c.args.name c.args.fid)
    (on_ok_weaker c.bind.result (keyed_altered old new c.args.dir (slot_changed (λ node. bind_in node c.args.name c.args.fid))) c.bind.ensures.ok) (on_err_weaker c.bind.result (keyed_same old new) c.bind.ensures.err))

pub returns-clause-ok : goal.returns-clause-ok
returns-clause-ok c = on_ok_weaker c.bind.result (λ binds.
    keyed_altered c.self.inside.slots.entries c.bind.new.slots.entries c.args.dir (slot_changed (λ node. bind_in node c.args.name c.args.fid)) binds
    ∙ ap (λ (s : Slots). altered s c.args.dir (slot_changed (λ node. bind_in node c.args.name c.args.fid))) c.self.view_is) c.bind.ensures.ok

pub returns-clause-err : goal.returns-clause-err
returns-clause-err c = on_err_weaker c.bind.result (λ same. keyed_same c.self.inside.slots.entries c.bind.new.slots.entries same ∙ c.self.view_is) c.bind.ensures.err
