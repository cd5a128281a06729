-- What goes from a client's cache with an operation, and what stays.
use Rattle.std.specs.Prelude.{◌≡◌, ◌⊎◌, ℕ, true, false, Some}
use Rattle.std.specs.FinMap as map
use Rattle.coda_fid.specs.declared.fid.Fid.{Fid}
use Rattle.coda_fid.specs.declared.op.Op.{Op}
use Rattle.coda_fid.specs.declared.op.Record.{Record}
use Rattle.coda_tree.specs.Volume.{has}
use Rattle.coda_cache.specs.Steps.{new_node, taken_out, moved_node}
use Rattle.coda_venus.specs.Held.{Held, Parents, held_after_operation}

-- an object is this one, or is cached below it: its parent is this one, or is cached below it
pub data IsAtOrBelow (parents : Parents) (top : Fid) : Fid → Type 0 where
  itself : IsAtOrBelow parents top top
  under : (f p : Fid) → map.get parents f ≡ Some p → IsAtOrBelow parents top p → IsAtOrBelow parents top f

-- an operation puts an object into a directory: it makes it there, or moves it there
abbrev pub IsPutInto : Op → Fid → Fid → Type 0
IsPutInto op f dir = (new_node op ≡ Some (dir, f)) ⊎ (moved_node op ≡ Some (f, dir))

-- Nothing goes from a client's cache with an operation but what it takes out and what is cached below that; and what
-- stays keeps its parent, or has the directory into which the operation puts it. Nothing else gets a parent.
pub record OnlyWhatIsBelowGoes : Type 0 where
  pub goes : (held : Held) (client : ℕ) (rec : Record) (f : Fid) → has held.nodes f ≡ true
      → has (held_after_operation held client rec).nodes f ≡ false
      → (gone : Fid) × (taken_out rec.op ≡ Some gone) × IsAtOrBelow held.parents gone f
  pub stays : (held : Held) (client : ℕ) (rec : Record) (f : Fid)
      → has (held_after_operation held client rec).nodes f ≡ true
      → (map.get (held_after_operation held client rec).parents f ≡ map.get held.parents f)
      ⊎ ((dir : Fid) × IsPutInto rec.op f dir × (map.get (held_after_operation held client rec).parents f ≡ Some dir))
  pub gets : (held : Held) (client : ℕ) (rec : Record) (f p : Fid)
      → map.get (held_after_operation held client rec).parents f ≡ Some p
      → (map.get held.parents f ≡ Some p) ⊎ IsPutInto rec.op f p
