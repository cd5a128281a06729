-- Why an object isn't fetched.
use Rattle.std.specs.Prelude.{◌≡◌, Option}
use Rattle.coda_fid.specs.declared.fid.Fid.{Fid}
use Rattle.coda_tree.specs.declared.node.Node.{Node}
use Rattle.coda_tree.specs.Volume.{Nodes}
use Rattle.coda_venus.specs.declared.refused.Refused.{Refused}
use Rattle.coda_venus.specs.declared.refused.Refused.TheVariants.{Need, Memory}
use Rattle.coda_serving.specs.Fetching.{IsFetchable}

-- it can't be fetched, or there was no memory
abbrev pub IsUnfetched : Option Nodes → Nodes → Fid → Refused → Type 0
IsUnfetched offers held fid Memory = Unit {0}
IsUnfetched offers held fid (Need f) = (f ≡ fid) × ((node : Node) → ¬ IsFetchable offers held fid node)
IsUnfetched offers held fid why = ⊥
