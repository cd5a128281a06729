-- What a path leads to.
use Rattle.std.specs.Prelude.{◌≡◌, ℕ, ◌+◌, List, [], ◌∷◌, ◌++◌, length, Option, Some, None, Result, Ok, Err}
use Rattle.std.specs.FinMap as map
use Rattle.coda_fid.specs.declared.fid.Fid.{Fid}
use Rattle.coda_tree.specs.declared.node.Node.{Node}
use Rattle.coda_tree.specs.declared.node.NodeKind.{NodeKind}
use Rattle.coda_tree.specs.declared.node.NodeKind.TheVariants.{File, Link, Dir}
use Rattle.coda_tree.specs.declared.volume.PathFault.{PathFault}
use Rattle.coda_tree.specs.declared.volume.PathFault.TheVariants.{NotFound, NotDir}
use Rattle.coda_tree.specs.Bindings.{Name}
use Rattle.coda_tree.specs.Volume.{Nodes, child, IsDirAt}

-- what is bound at component i, or that nothing is
abbrev pub found_at : Option Fid → ℕ → Result Fid PathFault
found_at None i = Err (NotFound i)
found_at (Some f) i = Ok f

-- what component i leads to in a node of this kind
abbrev pub step_in : NodeKind → Name → ℕ → Result Fid PathFault
step_in (File content) n i = Err (NotDir i)
step_in (Link target) n i = Err (NotDir i)
step_in (Dir entries) n i = found_at (map.get entries n) i

-- what component i leads to in a node, where there is one
abbrev pub step_from : Option Node → Name → ℕ → Result Fid PathFault
step_from None n i = Err (NotDir i)
step_from (Some node) n i = step_in node.kind n i

-- what comes next, or the first fault
abbrev pub then_from : Result Fid PathFault → (Fid → Result Fid PathFault) → Result Fid PathFault
then_from (Err e) next = Err e
then_from (Ok f) next = next f

-- what the names lead to from d, the first of them being component i
abbrev pub lookup_of : Nodes → Fid → ℕ → List Name → Result Fid PathFault
lookup_of m d i [] = Ok d
lookup_of m d i (n ∷ ns) = then_from (step_from (map.get m d) n i) (λ f. lookup_of m f (i + 1) ns)

-- ---- the same in words of what is bound where

-- the names lead from an object to another: each is bound in the directory to which those before it lead
abbrev pub Leads : Nodes → Fid → List Name → Fid → Type 0
Leads m d [] f = f ≡ d
Leads m d (n ∷ ns) f = (g : Fid) × (child m d n ≡ Some g) × Leads m g ns f

-- The names before component i lead to an object; the first name is that of component `first`.
pub record Reaches (m : Nodes) (d : Fid) (first : ℕ) (names : List Name) (i : ℕ) : Type 0 where
  pub front : List Name
  pub name : Name
  pub rest : List Name
  pub parts : names ≡ front ++ name ∷ rest
  pub place : i ≡ first + length front
  pub at : Fid
  pub leads : Leads m d front at

-- The names before component i lead to a directory that doesn't bind the name of component i; or they lead to what is no directory.
abbrev pub Stops : Nodes → Fid → ℕ → List Name → PathFault → Type 0
Stops m d first names (NotFound i) = (way : Reaches m d first names i) × IsDirAt m way.at × (child m way.at way.name ≡ None)
Stops m d first names (NotDir i) = (way : Reaches m d first names i) × (IsDirAt m way.at → ⊥)
