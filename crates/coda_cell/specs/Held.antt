-- What a client of a cell holds, and what entries of its history leave of it.
use Rattle.std.specs.Prelude.{ℕ, List, [], ◌∷◌, Option, Some, ◌≡◌}
use Rattle.std.specs.FinMap as map
use Rattle.coda_fid.specs.declared.fid.Fid.{Fid}
use Rattle.coda_tree.specs.declared.node.Node.{Node}
use Rattle.coda_tree.specs.Volume.{IsDirAt}
use Rattle.coda_plain.specs.Cell.{ClientEntry, Fetched, Did, Dropping}
use Rattle.coda_plain.specs.Deeds.{Deed, Operated, Froze, Settled, Gaveup}
use Rattle.coda_venus.specs.Held.{Held, held_after_operation, held_after_fetch}

-- the parent of each object is a directory that is held, of the object's volume
abbrev pub AreUnderDirs : Held → Type 0
AreUnderDirs held = (f p : Fid) → map.get held.parents f ≡ Some p → IsDirAt held.nodes p × (f.volume ≡ p.volume)

-- ---- what entries leave

-- what is held after a deed; chunks change nothing of it
abbrev pub held_after_deed : Held → ℕ → Deed → Held
held_after_deed held client (Operated rec) = held_after_operation held client rec
held_after_deed held client (Froze number home last) = held
held_after_deed held client (Settled number verdict) = held
held_after_deed held client Gaveup = held

-- what is held once these were dropped
abbrev pub held_after_drops : Held → List Fid → Held
held_after_drops held [] = held
held_after_drops held (fid ∷ gone) = held_after_drops (record { nodes = map.remove held.nodes fid; parents = map.remove held.parents fid }) gone

abbrev pub held_after : Held → ℕ → ClientEntry → Held
held_after held client (Fetched fid parent node) = held_after_fetch held fid parent node
held_after held client (Did volume deed) = held_after_deed held client deed
held_after held client (Dropping gone entry) = held_after (held_after_drops held gone) client entry

-- a fetch
pub record Fetch : Type 0 where
  pub fid : Fid
  pub parent : Option Fid
  pub node : Node

-- what is held after fetches in order
abbrev pub held_after_fetches : Held → List Fetch → Held
held_after_fetches held [] = held
held_after_fetches held (fetch ∷ fetches) = held_after_fetches (held_after_fetch held fetch.fid fetch.parent fetch.node) fetches
