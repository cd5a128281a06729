-- What a client needs for a call is fetched first, where its server offers it.
use Rattle.std.specs.Prelude.{◌≡◌, ◌+◌, ℕ, Bool, true, is_some, if◌then◌else◌, List, [], ◌∷◌, ◌++◌, Option, Some, None, Result, Ok, Err}
use Rattle.std.specs.Borrow.{Bor}
use Rattle.std.specs.FinMap as map
use Rattle.std.specs.List.{list_any}
use Rattle.std.specs.Option.{option_map}
use Rattle.coda_fid.specs.Fid.{same_fid}
use Rattle.coda_fid.specs.declared.fid.Fid.{Fid}
use Rattle.coda_tree.specs.declared.node.Node.{Node}
use Rattle.coda_tree.specs.Volume.{Nodes, Tree}
use Rattle.coda_disk.specs.Told.{Told}
use Rattle.coda_journal.specs.declared.header.Header.{Header}
use Rattle.coda_record.specs.declared.entry.ClientEntry.TheVariants.{Fetched}
use Rattle.coda_venus.specs.History.{Payload, state_of}
use Rattle.coda_venus.specs.Keeping.{IsMissed, IsFull, parent_for}
use Rattle.coda_venus.specs.Standing.{IsUp, StandsFor}
use Rattle.coda_venus.specs.State.{ClientState, client_after_all}
use Rattle.coda_venus.specs.declared.refused.Refused.{Refused}
use Rattle.coda_venus.specs.declared.refused.Refused.TheVariants.{Need, JournalFull, DiskFault, Memory}
use Rattle.coda_venus.specs.declared.venus.Venus.{Venus}
use Rattle.coda_serving.specs.Spelling.{can_be_spelled}

-- the nodes of a volume that is offered, where one is
abbrev pub nodes_offered : Option (Bor Tree) → Option Nodes
nodes_offered offers = option_map (λ (volume : Bor Tree). volume.now.nodes) offers

-- the node of an object that is offered
abbrev pub offered : Option Nodes → Fid → Option Node
offered None fid = None
offered (Some m) fid = map.get m fid

-- An object can be fetched by a client that holds these: it is offered with this node, which a journal can keep, and the client misses it.
pub record IsFetchable (offers : Option Nodes) (held : Nodes) (fid : Fid) (node : Node) : Type 0 where
  pub offer : offered offers fid ≡ Some node
  pub spelled : can_be_spelled node ≡ true
  pub missed : IsMissed held fid

-- what a client keeps of it
abbrev pub fetch_of : ClientState → Fid → Node → Payload
fetch_of c fid node = Fetched fid (parent_for c.held fid) node ∷ []

-- A fetch for a call, of the object that the call needs first: what the client keeps of it.
pub record IsFetch {A : Type 0} (offers : Option Nodes) (call : ClientState → Result A Refused) (c : ClientState) (fid : Fid) (payload : Payload) : Type 0 where
  pub node : Node
  pub needed : call c ≡ Err (Need fid)
  pub can : IsFetchable offers c.held.nodes fid node
  pub is : payload ≡ fetch_of c fid node

-- These objects were fetched for a call, one after the other, and the client kept these payloads.
abbrev pub Fetches : {A : Type 0} → Option Nodes → (ClientState → Result A Refused) → ClientState → List Fid → List Payload → Type 0
Fetches offers call c [] [] = Unit {0}
Fetches offers call c (fid ∷ fids) (payload ∷ payloads) = IsFetch offers call c fid payload × Fetches offers call (client_after_all c payload) fids payloads
Fetches offers call c fids payloads = ⊥

-- whether the object is one of these
abbrev pub is_among : List Fid → Fid → Bool
is_among fids fid = list_any (λ f. same_fid f fid) fids

-- What a fetch comes to: the client keeps the object, or has no room for it, or a fault of the disk stopped that; it can't be fetched; or there
-- was no memory.
abbrev pub FetchEnds : {D T : Type 0} → (D → Told) → Header → Option Nodes → List Payload → Fid → Venus D → Result T Refused → Type 0
FetchEnds told header offers history fid new (Ok x) =
    (node : Node) × IsFetchable offers (state_of header history).held.nodes fid node × IsUp told header new (history ++ fetch_of (state_of header history) fid node ∷ [])
FetchEnds told header offers history fid new (Err Memory) = IsUp told header new history
FetchEnds told header offers history fid new (Err JournalFull) =
    (node : Node) × IsFetchable offers (state_of header history).held.nodes fid node × IsFull new.journal (fetch_of (state_of header history) fid node) × IsUp told header new history
FetchEnds told header offers history fid new (Err DiskFault) =
    (node : Node) × IsFetchable offers (state_of header history).held.nodes fid node × (new.down ≡ true) × StandsFor (told new.journal.disk) header history (Some (fetch_of (state_of header history) fid node))
FetchEnds told header offers history fid new (Err (Need f)) = (f ≡ fid) × ((node : Node) → ¬ IsFetchable offers (state_of header history).held.nodes fid node) × IsUp told header new history
FetchEnds told header offers history fid new (Err why) = ⊥

-- ---- how many objects a client still misses

-- how many of these objects aren't held
abbrev pub absent_in : Nodes → List (Fid × Node) → ℕ
absent_in held [] = 0
absent_in held (entry ∷ entries) = (if is_some (map.get held entry.0) then 0 else 1) + absent_in held entries

-- how many objects that are offered aren't held
abbrev pub absent : Option Nodes → Nodes → ℕ
absent None held = 0
absent (Some m) held = absent_in held (map.entries m)
