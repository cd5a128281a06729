-- What a replica holds: nodes, each with the updates that are in it.
use Rattle.std.specs.Prelude.{map}
use Rattle.std.specs.FinMap as finmap
use Rattle.std.specs.FinMap.{FinMap}
use Rattle.coda_fid.specs.Fid.{fid_cmp}
use Rattle.coda_fid.specs.declared.fid.Fid.{Fid}
use Rattle.coda_tree.specs.Volume.{Nodes}
use Rattle.coda_reslog.specs.declared.change.Held.{Held}

-- what a replica holds, by fid
abbrev pub Objects : Type 0
Objects = FinMap fid_cmp Held

-- a map with each value made another by its key
unfoldable pub mapped : {X Y : Type 0} → (Fid → X → Y) → FinMap fid_cmp X → FinMap fid_cmp Y
mapped {X} {Y} h m = finmap.from_entries (map {B = Fid × Y} (λ e. (e.0, h e.0 e.1)) (finmap.entries m))

-- the nodes of what is held
abbrev pub nodes_in : Objects → Nodes
nodes_in objects = mapped (λ f (held : Held). held.node) objects
