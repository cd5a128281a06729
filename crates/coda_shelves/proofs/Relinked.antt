-- What happens in a cell, and whether it is kept, doesn't depend on its links.
use Rattle.std.proofs.Common.{◌≡◌, ℕ, List, [], ◌∷◌, refl, subst}
use Rattle.coda_script.specs.declared.line.Strength.{Strength}
use Rattle.coda_cell.specs.State.{Event, VolumeMade, ClientMade, Ticked, LinkSet, Entered, Posted, Lost, Used, Kept, Stale}
use Rattle.coda_cell.specs.Made.{MadeCell, grown, grown_all}
use Rattle.coda_cell.specs.Runs.{IsKept}

abbrev pub relinked : MadeCell → (ℕ → ℕ → Strength) → MadeCell
relinked cell links = record cell { links = links }

-- whether a cell is kept doesn't depend on its links
pub kept_relinked : (cell : MadeCell) (links : ℕ → ℕ → Strength) → IsKept cell → IsKept (relinked cell links)
kept_relinked cell links kept = record {
  sound = kept.sound;
  up = kept.up;
  made = record { numbered = kept.made.numbered; clients = kept.made.clients; replicas = kept.made.replicas };
  holding = kept.holding;
  letters = record { numbered = kept.letters.numbered; pooled = kept.letters.pooled };
}

-- nor does what happens depend on them
pub grown_relinked : (cell : MadeCell) (events : List Event) (links other : ℕ → ℕ → Strength) → relinked (grown_all (relinked cell links) events) other ≡ relinked (grown_all cell events) other
grown_relinked cell [] links other = refl
grown_relinked cell (VolumeMade volume server ∷ events) links other = grown_relinked (grown cell (VolumeMade volume server)) events links other
grown_relinked cell (ClientMade client blocks ∷ events) links other = grown_relinked (grown cell (ClientMade client blocks)) events links other
grown_relinked cell (Ticked seconds ∷ events) links other = grown_relinked (grown cell (Ticked seconds)) events links other
grown_relinked cell (LinkSet client server strength ∷ events) links other = grown_relinked (grown cell (LinkSet client server strength)) events (grown (relinked cell links) (LinkSet client server strength)).links other
grown_relinked cell (Entered append ∷ events) links other = grown_relinked (grown cell (Entered append)) events links other
grown_relinked cell (Posted sent ∷ events) links other = grown_relinked (grown cell (Posted sent)) events links other
grown_relinked cell (Lost message ∷ events) links other = grown_relinked (grown cell (Lost message)) events links other
grown_relinked cell (Used client fids ∷ events) links other = grown_relinked (grown cell (Used client fids)) events links other
grown_relinked cell (Kept client server fid ∷ events) links other = grown_relinked (grown cell (Kept client server fid)) events links other
grown_relinked cell (Stale client fids ∷ events) links other = grown_relinked (grown cell (Stale client fids)) events links other

pub kept_grown : (cell : MadeCell) (events : List Event) (links : ℕ → ℕ → Strength) → IsKept (grown_all (relinked cell links) events) → IsKept (grown_all cell events)
kept_grown cell events links kept =
    let other = (grown_all cell events).links in
    subst IsKept (grown_relinked cell events links other) (kept_relinked (grown_all (relinked cell links) events) other kept)
