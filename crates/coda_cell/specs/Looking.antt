-- Look-ups along a path: an object that a client doesn't hold is fetched where it can be.
use Rattle.std.specs.Prelude.{Bool, List, [], ◌∷◌, ◌++◌, map, Option, Some, None, Result, Ok, Err}
use Rattle.std.specs.Option.{option_and_then}
use Rattle.std.specs.List.{list_any}
use Rattle.std.specs.FinMap as finite
use Rattle.coda_fid.specs.Fid.{same_fid}
use Rattle.coda_fid.specs.declared.fid.Fid.{Fid}
use Rattle.coda_tree.specs.declared.node.Node.{Node}
use Rattle.coda_tree.specs.Bindings.{Name}
use Rattle.coda_tree.specs.Volume.{Nodes, parent_of}
use Rattle.coda_plain.specs.Cell.{ClientEntry, Fetched}
use Rattle.coda_venus.specs.Held.{Held}
use Rattle.coda_venus.specs.Looking.{step_from}
use Rattle.coda_venus.specs.declared.refused.Refused.{Refused}
use Rattle.coda_cell.specs.Held.{Fetch, held_after_fetches}

-- ---- fetches

-- the node that can be fetched, where the server can be reached: `offers` are its nodes
abbrev pub offered : Option Nodes → Fid → Option Node
offered offers fid = option_and_then (λ nodes. finite.get nodes fid) offers

-- the fetch of an object, by what is held and what is offered
abbrev pub fetch_of : Option Node → Option Node → Option Fid → Fid → List Fetch
fetch_of (Some node) offer parent fid = []
fetch_of None (Some node) parent fid = record { fid = fid; parent = parent; node = node } ∷ []
fetch_of None None parent fid = []

-- The look-up of an object: one that the client doesn't hold is fetched where it can be. Its parent is then the first directory
-- that is held and binds it.
abbrev pub look : Option Nodes → Held → Fid → List Fetch
look offers h fid = fetch_of (finite.get h.nodes fid) (offered offers fid) (parent_of h.nodes fid) fid

-- what is held after a look-up
abbrev pub looked : Option Nodes → Held → Fid → Held
looked offers h fid = held_after_fetches h (look offers h fid)

-- what follows where a step led somewhere
abbrev pub look_on : Result Fid Refused → (Fid → List Fetch) → List Fetch
look_on (Err refusal) next = []
look_on (Ok fid) next = next fid

-- the look-ups along names from an object: the object, and then what each name leads to, as far as they lead
abbrev pub look_along : Option Nodes → Held → Fid → List Name → List Fetch
look_along offers h at [] = look offers h at
look_along offers h at (name ∷ names) =
    look offers h at ++ look_on (step_from (finite.get (looked offers h at).nodes at) at name) (λ next. look_along offers (looked offers h at) next names)

-- the objects that were fetched
abbrev pub fids_of : List Fetch → List Fid
fids_of [] = []
fids_of (fetch ∷ fetches) = fetch.fid ∷ fids_of fetches

-- whether the object is among them
abbrev pub is_fetched : List Fetch → Fid → Bool
is_fetched fetches fid = list_any (λ f. same_fid f fid) (fids_of fetches)

-- a fetch as an entry of the client's history
abbrev pub fetched : Fetch → ClientEntry
fetched fetch = Fetched fetch.fid fetch.parent fetch.node

abbrev pub entries_of : List Fetch → List ClientEntry
entries_of fetches = map fetched fetches
