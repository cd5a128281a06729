-- What fetches for a call make of a client, in other words.
use Rattle.std.specs.Prelude.{◌≡◌, ℕ, List, [], ◌∷◌, Option, Some, None, Result}
use Rattle.std.specs.FinMap as map
use Rattle.coda_fid.specs.declared.fid.Fid.{Fid}
use Rattle.coda_fid.specs.declared.op.Record.{Record}
use Rattle.coda_tree.specs.declared.node.Node.{Node}
use Rattle.coda_tree.specs.Volume.{Nodes}
use Rattle.coda_plain.specs.Histories.{In}
use Rattle.coda_venus.specs.History.{Payload}
use Rattle.coda_venus.specs.State.{ClientState, client_after_all}
use Rattle.coda_venus.specs.declared.refused.Refused.{Refused}
use Rattle.coda_venus.specs.declared.seen.Seen.{Seen}
use Rattle.coda_serving.specs.Fetching.{offered, Fetches}

-- the state that payloads leave, one after the other
abbrev pub after_payloads : ClientState → List Payload → ClientState
after_payloads c [] = c
after_payloads c (payload ∷ payloads) = after_payloads (client_after_all c payload) payloads

-- Of two states, the second is the first with these objects: none of them was cached before, each is cached as it is offered, what was cached
-- is as it was, and so is each log.
pub record AreBrought (offers : Option Nodes) (old : ClientState) (fids : List Fid) (new : ClientState) : Type 0 where
  pub absent : (fid : Fid) → In fid fids → map.get old.held.nodes fid ≡ None
  pub brought : (fid : Fid) → In fid fids → (node : Node) × (offered offers fid ≡ Some node) × (map.get new.held.nodes fid ≡ Some node)
  pub kept : (fid : Fid) (node : Node) → map.get old.held.nodes fid ≡ Some node → map.get new.held.nodes fid ≡ Some node
  pub logs : (volume : ℕ) → new.volumes volume ≡ old.volumes volume

-- what is fetched for a call that comes to such a thing
abbrev pub Bring : Type 0 → Type 0
Bring A = (offers : Option Nodes) (call : ClientState → Result A Refused) (c : ClientState) (fids : List Fid) (payloads : List Payload) → Fetches offers call c fids payloads → AreBrought offers c fids (after_payloads c payloads)

-- What is fetched for an operation, or for what is shown, brings what is offered, and changes nothing else.
pub record FetchesBringWhatIsOffered : Type 0 where
  pub operations : Bring Record
  pub shows : Bring Seen
