-- What each edit of a volume does to its slots, step by step.
use Rattle.std.specs.Prelude.{Some, None}
use Rattle.std.specs.FinMap as map
use Rattle.coda_fid.specs.declared.fid.Fid.{Fid}
use Rattle.coda_tree.specs.declared.node.Node.{Node}
use Rattle.coda_tree.specs.Bindings.{Name}
use Rattle.coda_tree.specs.Volume.{bind_in, unbind_in}
use Rattle.coda_tree.specs.Slots.{Slots, altered, slot_changed, slot_moved, slot_with}

-- the directory at a fid binds f at the name too
abbrev pub slots_bound : Slots → Fid → Name → Fid → Slots
slots_bound s dir name f = altered s dir (slot_changed (λ node. bind_in node name f))

-- it binds nothing at the name
abbrev pub slots_unbound : Slots → Fid → Name → Slots
slots_unbound s dir name = altered s dir (slot_changed (λ node. unbind_in node name))

-- the slot at f is empty
abbrev pub slots_vacated : Slots → Fid → Slots
slots_vacated s f = altered s f (slot_with None)

-- a node is put at f and bound
abbrev pub slots_added : Slots → Fid → Name → Fid → Node → Slots
slots_added s dir name f node = slots_bound (map.insert s f (Some (record { node = node; parent = Some dir }))) dir name f

-- f is unbound and its slot emptied
abbrev pub slots_detached : Slots → Fid → Name → Fid → Slots
slots_detached s dir name f = slots_vacated (slots_unbound s dir name) f

-- f is bound at the new name, unbound at the old one, and the new directory is its parent
abbrev pub slots_moved : Slots → Fid → Name → Fid → Name → Fid → Slots
slots_moved s from name to new f = altered (slots_unbound (slots_bound s to new f) from name) f (slot_moved to)

-- likewise, and the slot of what the new name was bound to is emptied
abbrev pub slots_replaced : Slots → Fid → Fid → Name → Fid → Name → Fid → Slots
slots_replaced s old from name to new f = altered (slots_vacated (slots_unbound (slots_bound s to new f) from name) old) f (slot_moved to)
