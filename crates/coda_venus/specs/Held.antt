-- What a client holds: nodes, and the directory that is the parent of each.
use Rattle.std.specs.Prelude.{ℕ, Bool, true, ◌&&◌, not, List, [], ◌∷◌, Option, Some, None, is_some, option_map, ◌≡◌}
use Rattle.std.specs.List.{list_any}
use Rattle.std.specs.FinMap as map
use Rattle.std.specs.FinMap.{FinMap}
use Rattle.coda_fid.specs.Fid.{same_fid, fid_cmp}
use Rattle.coda_fid.specs.Op.{fids_of}
use Rattle.coda_fid.specs.declared.fid.Fid.{Fid}
use Rattle.coda_fid.specs.declared.op.Over.{Over}
use Rattle.coda_fid.specs.declared.op.Op.{Op}
use Rattle.coda_fid.specs.declared.op.Op.TheVariants.{Create, Mkdir, Symlink, Store, Setattr, Remove, Rmdir, Rename}
use Rattle.coda_fid.specs.declared.op.Record.{Record}
use Rattle.coda_tree.specs.declared.node.Node.{Node}
use Rattle.coda_tree.specs.Bindings.{Name}
use Rattle.coda_tree.specs.Volume.{Nodes, child}
use Rattle.coda_certify.specs.Replay.{applied}
use Rattle.coda_cache.specs.Parents.{below_within}

-- the parent of each object that has one
abbrev pub Parents : Type 0
Parents = FinMap fid_cmp Fid

pub record Held : Type 0 where
  pub nodes : Nodes
  pub parents : Parents

abbrev pub nothing_held : Held
nothing_held = record { nodes = map.empty; parents = map.empty }

-- ---- going up

-- whether f is g or is held below it: no way up has more steps than there are parents
unfoldable pub is_below : Parents → Fid → Fid → Bool
is_below parents f g = below_within parents (map.len parents) f g

-- whether some object that passes a test is held below f, and is another
unfoldable pub some_below : Held → (Fid → Bool) → Fid → Bool
some_below held test f = list_any (λ g. not (same_fid g f) && (test g && is_below held.parents g f)) (map.keys held.nodes)

-- whether an object is held below another, and is not that one
abbrev pub is_held_below : Held → Fid → Fid → Bool
is_held_below held f g = not (same_fid g f) && (is_some (map.get held.nodes g) && is_below held.parents g f)

-- whether an operation mentions an object that is held below f
abbrev pub reaches_below : Held → Fid → Op → Bool
reaches_below held f op = list_any (is_held_below held f) (fids_of op)

-- each object with a parent is bound there
abbrev pub AreBound : Held → Type 0
AreBound held = (f p : Fid) → map.get held.parents f ≡ Some p → (name : Name) × (child held.nodes p name ≡ Some f)

-- ---- what entries leave

-- the parents, with that of an object that is held now
abbrev pub with_parent : Parents → Fid → Option Fid → Parents
with_parent parents fid None = parents
with_parent parents fid (Some parent) = map.insert parents fid parent

-- the parents after the client's own operation, before what it takes out goes
abbrev pub parents_after : Parents → Op → Parents
parents_after parents (Create dir name fid mode owner) = map.insert parents fid dir
parents_after parents (Mkdir dir name fid mode owner) = map.insert parents fid dir
parents_after parents (Symlink dir name fid target mode owner) = map.insert parents fid dir
parents_after parents (Store fid pre content) = parents
parents_after parents (Setattr fid pre attrs) = parents
parents_after parents (Remove dir name fid pre) = parents
parents_after parents (Rmdir dir name fid pre) = parents
parents_after parents (Rename from_dir from to_dir to fid over) = map.insert parents fid to_dir

-- the object that an operation takes out
abbrev pub taken_out : Op → Option Fid
taken_out (Create dir name fid mode owner) = None
taken_out (Mkdir dir name fid mode owner) = None
taken_out (Symlink dir name fid target mode owner) = None
taken_out (Store fid pre content) = None
taken_out (Setattr fid pre attrs) = None
taken_out (Remove dir name fid pre) = Some fid
taken_out (Rmdir dir name fid pre) = Some fid
taken_out (Rename from_dir from to_dir to fid over) = option_map (λ (o : Over). o.fid) over

-- whether an object stays where another goes with all that is held below it
abbrev pub stays : Parents → Fid → Fid → Bool
stays parents gone f = not (is_below parents f gone)

-- the same where an object may go
abbrev pub stays_by : Parents → Option Fid → Fid → Bool
stays_by parents None f = true
stays_by parents (Some gone) f = stays parents gone f

-- what is held once an object went with all that was held below it, by these parents
abbrev pub held_without : Option Fid → Parents → Held → Held
held_without None parents held = held
held_without (Some gone) parents held = record { nodes = map.retain_keys held.nodes (stays parents gone); parents = map.retain_keys held.parents (stays parents gone) }

-- what is held after an operation of the client with this number: what it takes out goes with all that was held below it
abbrev pub held_after_operation : Held → ℕ → Record → Held
held_after_operation held client rec = held_without (taken_out rec.op) held.parents (record { nodes = applied held.nodes client rec; parents = parents_after held.parents rec.op })

-- what is held after a fetch
abbrev pub held_after_fetch : Held → Fid → Option Fid → Node → Held
held_after_fetch held fid parent node = record { nodes = map.insert held.nodes fid node; parents = with_parent held.parents fid parent }

-- what is held once an object was dropped
abbrev pub held_after_drop : Held → Fid → Held
held_after_drop held fid = record { nodes = map.remove held.nodes fid; parents = map.remove held.parents fid }

-- what is held once objects were dropped in turn
abbrev pub held_after_drops : Held → List Fid → Held
held_after_drops held [] = held
held_after_drops held (fid ∷ fids) = held_after_drops (held_after_drop held fid) fids
