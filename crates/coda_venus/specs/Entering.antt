-- How payloads are read as a history, one after the other.
use Rattle.std.specs.Prelude.{◌≡◌, ℕ, ◌+◌, ◌^◌, ◌-◌, min, List, ◌∷◌, ◌++◌, length}
use Rattle.std.specs.Int.{w32}
use Rattle.coda_journal.specs.Entries.{blocks}
use Rattle.coda_journal.specs.declared.header.Header.{Header}
use Rattle.coda_record.specs.Entries.{client_payload}
use Rattle.coda_record.specs.Form.{four}
use Rattle.coda_record.specs.Spelling.{Spells}
use Rattle.coda_venus.specs.State.{ClientState, client_after_all}
use Rattle.coda_venus.specs.History.{Payload, payloads_of, state_of, MayEnterAll, IsHistory}
use Rattle.coda_venus.specs.Code.{IsClient}
use Rattle.coda_venus.specs.Recovering.{IsMisfit}
use Rattle.coda_venus.specs.declared.client.Client.{Client}

-- the payload is of entries that may follow in a state, and the code is then the client that they leave
pub record Enters (c : ClientState) (payload : List ℕ) (code : Client) : Type 0 where
  pub entries : Payload
  pub spells : Spells (client_payload four) payload entries
  pub may : MayEnterAll c entries
  pub leaves : IsClient (client_after_all c entries) code

-- the payload is of no entries that may follow in the state
abbrev pub IsUnfit : ClientState → List ℕ → Type 0
IsUnfit c payload = (entries : Payload) → Spells (client_payload four) payload entries → ¬ MayEnterAll c entries

-- the payloads are those of a history, and the code is the client that it leaves
pub record AreEntered (header : Header) (payloads : List (List ℕ)) (code : Client) : Type 0 where
  pub history : List Payload
  pub same : payloads ≡ payloads_of history
  pub lawful : IsHistory header history
  pub leaves : IsClient (state_of header history) code

-- Behind the payloads of a history there is one that can't follow it, and its gate stands here, where the first one stands at start.
pub record Breaks (header : Header) (payloads : List (List ℕ)) (start at : ℕ) : Type 0 where
  pub past : List Payload
  pub payload : List ℕ
  pub rest : List (List ℕ)
  pub same : payloads ≡ payloads_of past ++ payload ∷ rest
  pub lawful : IsHistory header past
  pub misfit : IsMisfit header past payload
  pub here : at ≡ min (start + length (blocks w32 (payloads_of past))) (2 ^ 64 - 1)
