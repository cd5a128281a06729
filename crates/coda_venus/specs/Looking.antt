-- Where a path leads over what a client holds.
use Rattle.std.specs.Prelude.{◌≡◌, ◌⊎◌, List, [], ◌∷◌, Option, Some, None, Result, Ok, Err}
use Rattle.std.specs.FinMap as finite
use Rattle.coda_fid.specs.declared.fid.Fid.{Fid}
use Rattle.coda_tree.specs.declared.node.Node.{Node}
use Rattle.coda_tree.specs.declared.node.NodeKind.{NodeKind}
use Rattle.coda_tree.specs.declared.node.NodeKind.TheVariants.{File, Link, Dir}
use Rattle.coda_tree.specs.Bindings.{Name}
use Rattle.coda_tree.specs.Volume.{Nodes}
use Rattle.coda_venus.specs.declared.refused.Refused.{Refused}
use Rattle.coda_venus.specs.declared.refused.Refused.TheVariants.{NotFound, NotDir, Need, Memory}

-- ---- where names lead over the nodes that a client holds

-- what comes after a success
abbrev pub then_find : {A B : Type 0} → Result A Refused → (A → Result B Refused) → Result B Refused
then_find (Err refusal) next = Err refusal
then_find (Ok found) next = next found

-- an object that is held
abbrev pub held : Option Node → Fid → Result Fid Refused
held None fid = Err (Need fid)
held (Some node) fid = Ok fid

-- what stands at a name that a directory may bind
abbrev pub found : Option Fid → Result Fid Refused
found None = Err NotFound
found (Some fid) = Ok fid

-- what a node binds at a name, where it is a directory
abbrev pub step_in : NodeKind → Name → Result Fid Refused
step_in (File content) name = Err NotDir
step_in (Link target) name = Err NotDir
step_in (Dir entries) name = found (finite.get entries name)

-- where a name leads from an object, where that is held
abbrev pub step_from : Option Node → Fid → Name → Result Fid Refused
step_from None at name = Err (Need at)
step_from (Some node) at name = step_in node.kind name

-- where names lead in turn from an object: each object on the way is held, the last one too
abbrev pub resolve : Nodes → Fid → List Name → Result Fid Refused
resolve m at [] = held (finite.get m at) at
resolve m at (name ∷ names) = then_find (step_from (finite.get m at) at name) (λ next. resolve m next names)

-- the answer, or want of memory
abbrev pub OrMemory : {A : Type 0} → Result A Refused → Result A Refused → Type 0
OrMemory result answer = (result ≡ Err Memory) ⊎ (result ≡ answer)
