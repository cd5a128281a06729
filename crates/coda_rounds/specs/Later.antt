-- The objects that a client will create are free.
use Rattle.std.specs.Prelude.{◌≡◌, ◌≢◌, ℕ, ◌<◌, None, Ok}
use Rattle.std.specs.FinMap as map
use Rattle.coda_fid.specs.declared.fid.Fid.{Fid}
use Rattle.coda_tree.specs.declared.node.Node.{Node}
use Rattle.coda_record.specs.declared.entry.ClientEntry.{ClientEntry}
use Rattle.coda_record.specs.declared.entry.ClientEntry.TheVariants.{Fetched}
use Rattle.coda_venus.specs.Accepting.{next_fid, sight_of}
use Rattle.coda_venus.specs.History.{MayEnter, MayEnterAll}
use Rattle.coda_venus.specs.State.{ClientState, client_after}
use Rattle.coda_venus.specs.Serving.{ServingClient}
use Rattle.coda_venus.specs.Rounds.{RoundStep, Installed, Sources, entries_of_step, serving_after}
use Rattle.coda_rounds.specs.Entering.{IsNextFree}

-- the client would create the object in the volume, behind all that it created there
abbrev pub IsLater : ClientState → ℕ → Fid → Type 0
IsLater c volume fid = (fid.volume ≡ volume) × (fid.vnode ≡ c.number) × ((c.volumes volume).creations < fid.uniq)

-- No object that a client would create later is cached, and no server has one.
pub record AreLaterFree (sources : Sources) (c : ClientState) (volume : ℕ) : Type 0 where
  pub here : (fid : Fid) → IsLater c volume fid → map.get c.held.nodes fid ≡ None
  pub there : (fid : Fid) → IsLater c volume fid → (given : Node × ℕ) → sources fid ≢ Ok given

-- what an entry fetches is what some server has
abbrev pub ComesFrom : Sources → ClientEntry → Type 0
ComesFrom sources (Fetched fid parent node) = (server : ℕ) × (sources fid ≡ Ok (node, server))
ComesFrom sources entry = Unit {0}

-- what a step installs is what its server has
abbrev pub StepComesFrom : Sources → RoundStep → Type 0
StepComesFrom sources (Installed gone fid parent node server) = sources fid ≡ Ok (node, server)
StepComesFrom sources step = Unit {0}

-- Where the objects that a client would create later in a volume are free, its next one is; and they stay so behind
-- each entry that may follow, in whatever volume, and behind each step, where what is fetched is what servers have: for
-- of those objects an operation makes the first alone, and counts it.
pub record LaterObjectsStayFree : Type 0 where
  pub next : (sources : Sources) (s : ServingClient) (volume : ℕ) → AreLaterFree sources s.client volume
      → IsNextFree s volume × ((given : Node × ℕ) → sources (next_fid (sight_of s.client volume) volume) ≢ Ok given)
  pub entered : (sources : Sources) (c : ClientState) (entry : ClientEntry) (volume : ℕ) → AreLaterFree sources c volume
      → MayEnter c entry → ComesFrom sources entry → AreLaterFree sources (client_after c entry) volume
  pub stepped : (sources : Sources) (s : ServingClient) (step : RoundStep) (volume : ℕ)
      → AreLaterFree sources s.client volume → MayEnterAll s.client (entries_of_step step) → StepComesFrom sources step
      → AreLaterFree sources (serving_after s step).client volume
