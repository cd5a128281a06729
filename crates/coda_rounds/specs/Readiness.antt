-- A client that is ready for calls stays so.
use Rattle.std.specs.Prelude.{◌≡◌, ◌≢◌, ℕ, ◌<◌, Bool, Some, None, Ok, [], ◌∷◌}
use Rattle.std.specs.FinMap as map
use Rattle.coda_fid.specs.declared.fid.Fid.{Fid}
use Rattle.coda_fid.specs.declared.op.Record.{Record}
use Rattle.coda_tree.specs.declared.node.Node.{Node}
use Rattle.coda_histories.specs.Forests.{KeepsKindsIn}
use Rattle.coda_record.specs.declared.entry.ClientEntry.{ClientEntry}
use Rattle.coda_record.specs.declared.entry.ClientEntry.TheVariants as entry
use Rattle.coda_venus.specs.Ask.{Asked}
use Rattle.coda_venus.specs.Held.{Held}
use Rattle.coda_venus.specs.History.{Payload, MayEnterAll}
use Rattle.coda_venus.specs.Serving.{ServingClient}
use Rattle.coda_venus.specs.Rounds.{RoundStep, Sources, accepted, entries_of_step, serving_after}
use Rattle.coda_rounds.specs.Caches.{IsUncopied}
use Rattle.coda_rounds.specs.Entering.{IsReady, new_serving_client}
use Rattle.coda_rounds.specs.Places.{KeepsToVolume, ArePlaced, AreOfTheirVolumes}
use Rattle.coda_rounds.specs.Orders.{IsInOrderBelowDirs}
use Rattle.coda_rounds.specs.Later.{IsLater, AreLaterFree, StepComesFrom}

-- each parent is of the volume of its child
abbrev pub AreWithinVolumes : Held → Type 0
AreWithinVolumes held = (f p : Fid) → map.get held.parents f ≡ Some p → f.volume ≡ p.volume

-- an operation mentions objects of its volume alone, and what is fetched gets a parent of its volume
abbrev pub IsOfOneVolume : ClientEntry → Type 0
IsOfOneVolume (entry.Fetched fid (Some dir) node) = fid.volume ≡ dir.volume
IsOfOneVolume entry = KeepsToVolume entry

-- so does each of the entries
abbrev pub AllOfOneVolume : Payload → Type 0
AllOfOneVolume [] = Unit {0}
AllOfOneVolume (entry ∷ entries) = IsOfOneVolume entry × AllOfOneVolume entries

-- A client works over servers: its cache is in order, in directories of their volume; what its logs mention is of their
-- volumes, and stands where it was made; and what it creates later is free, and has no valid copy.
pub record IsAtWork (sources : Sources) (s : ServingClient) : Type 0 where
  pub order : IsInOrderBelowDirs s
  pub within : AreWithinVolumes s.client.held
  pub placed : ArePlaced s.client
  pub logs : AreOfTheirVolumes s.client
  pub later : (volume : ℕ) → AreLaterFree sources s.client volume
  pub uncopied : (volume : ℕ) (fid : Fid) → IsLater s.client volume fid → s.beside.copies fid ≡ None

-- A step may follow: its payload may; it fetches what servers have, no file or link in place of a directory that is
-- cached, and keeps to volumes.
pub record MayStep (sources : Sources) (s : ServingClient) (step : RoundStep) : Type 0 where
  pub may : MayEnterAll s.client (entries_of_step step)
  pub comes : StepComesFrom sources step
  pub kinds : KeepsKindsIn s.client (entries_of_step step)
  pub volumes : AllOfOneVolume (entries_of_step step)

-- A client that works is ready for calls on each volume. One that was just made works, where no server has an object that
-- it creates; it works on behind each step that may follow; and over other servers too, where they have none of the objects
-- that it would create later. And an operation that it accepts makes no object of which it has a valid copy.
pub record ClientsStayReady : Type 0 where
  pub ready : (sources : Sources) (s : ServingClient) (volume : ℕ) → IsAtWork sources s → IsReady sources s volume
  pub first : (sources : Sources) (number blocks : ℕ)
      → ((fid : Fid) → fid.vnode ≡ number → 0 < fid.uniq → (given : Node × ℕ) → sources fid ≢ Ok given)
      → IsAtWork sources (new_serving_client number blocks)
  pub stepped : (sources : Sources) (s : ServingClient) (step : RoundStep) → IsAtWork sources s
      → MayStep sources s step → IsAtWork sources (serving_after s step)
  pub over_others : (sources others : Sources) (s : ServingClient) → IsAtWork sources s
      → ((volume : ℕ) (fid : Fid) → IsLater s.client volume fid → (given : Node × ℕ) → others fid ≢ Ok given)
      → IsAtWork others s
  pub uncopied : (sources : Sources) (emulating : Bool) (s : ServingClient) (time volume : ℕ) (ask : Asked)
      (rec : Record) → IsAtWork sources s → accepted emulating s time volume ask ≡ Ok rec → IsUncopied s rec.op
