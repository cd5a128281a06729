-- What holds of all runs of cells whose volumes have several replicas.
use Rattle.std.specs.Prelude.{◌≡◌, ◌⊎◌, ◌<◌, ℕ, false, List, [], ◌∷◌}
use Rattle.coda_fid.specs.Fid.{root_of}
use Rattle.coda_fid.specs.declared.fid.Fid.{Fid}
use Rattle.coda_tree.specs.Bindings.{Name}
use Rattle.coda_tree.specs.Tree.{IsBelow}
use Rattle.coda_reslog.specs.declared.change.Held.{Held}
use Rattle.std.specs.List.{AllZip, flat_map}
use Rattle.coda_certify.specs.declared.verdict.Verdict.TheVariants.{Applied}
use Rattle.coda_record.specs.declared.last.Last.{Last as KeptLast}
use Rattle.coda_resolve.specs.Lasts.{latest, joined_lasts}
use Rattle.coda_reslog.specs.declared.change.Change.{Change}
use Rattle.coda_resolve.specs.Changes.{changed, AreChanges}
use Rattle.coda_resolve.specs.Outcomes.{IsNoChange}
use Rattle.coda_plain.specs.Objects.{Objects}
use Rattle.coda_plain.specs.Histories.{In}
use Rattle.coda_plain.specs.Decisions.{Last, Decision, decisions_of}
use Rattle.coda_fid.specs.declared.op.Record.{Record}
use Rattle.coda_certify.specs.declared.verdict.Verdict.{Verdict}
use Rattle.coda_plain.specs.Cell.{ChunkSent, AnswerSent, Ruled, PlainCell, empty_cell, Joins, found_in}
use Rattle.coda_plain.specs.Sound.{HasFrozen}
use Rattle.coda_plain.specs.Laws.{IsRun}
use Rattle.coda_plain.specs.Moves.{Moved}
use Rattle.coda_resolve.specs.Settled.{IsEverywhere, IsEqualOrMarked}
use Rattle.coda_resolve.specs.Resolution.{copies_at, child_in, IsTakenUp}
use Rattle.coda_resolve.specs.Placement.{IsIn}
use Rattle.coda_lineage.specs.Lineage.{AreAmong}
use Rattle.std.specs.Prelude.{◌≢◌, Option, Some, None}
use Rattle.coda_group.specs.Steps.{AreJoined, Install, HasInstall, IsResolution, GroupStep, Resolves, Repairs}
use Rattle.coda_group.specs.Steps.{moves_of_step, views_at, history_at, objects_at, last_at, MayStep, after_step}
use Rattle.coda_group.specs.Steps.{GroupStepped}
use Rattle.coda_group.specs.Sound.{IsGroupSound}
use Rattle.coda_group.specs.Promises.{IsDecidedAtHome, AreGroupPromised}

-- what a step is made of may happen, entry by entry and letter by letter
abbrev pub StepsAreMoves : Type 0
StepsAreMoves = (servers : ℕ → List ℕ) (cell : PlainCell) (step : GroupStep) → MayStep servers cell step
    → IsGroupSound servers cell → Moved cell (moves_of_step step) (after_step cell step)

-- what may happen keeps a cell sound, and its replicas of one group
abbrev pub StepsKeepGroupSound : Type 0
StepsKeepGroupSound = (servers : ℕ → List ℕ) (cell : PlainCell) (step : GroupStep) → MayStep servers cell step
    → IsGroupSound servers cell → IsGroupSound servers (after_step cell step)

-- whatever happened in a cell that was empty, it is sound
abbrev pub GroupRunsAreSound : Type 0
GroupRunsAreSound = (servers : ℕ → List ℕ) (steps : List GroupStep) (cell : PlainCell)
    → GroupStepped servers empty_cell steps cell → IsGroupSound servers cell

-- of a sound cell the histories keep what is promised, whichever of the failed entries join
abbrev pub GroupCellsArePromised : Type 0
GroupCellsArePromised = (servers : ℕ → List ℕ) (cell : PlainCell) → IsGroupSound servers cell → (joins : Joins)
    → AreGroupPromised servers (found_in cell joins)

-- Of a sound cell, whichever of the failed entries join: each chunk in the pool was frozen for its server, and each
-- verdict in the pool is that of the decision at the home of its chunk, whoever posted it.
pub record LettersAreTrue : Type 0 where
  pub chunks : (servers : ℕ → List ℕ) (cell : PlainCell) (joins : Joins) (message client server volume number : ℕ)
      → IsGroupSound servers cell → cell.pool message ≡ Some (ChunkSent client server volume number)
      → (span : List Record) × HasFrozen (found_in cell joins) client volume number server span
  pub verdicts : (servers : ℕ → List ℕ) (cell : PlainCell) (joins : Joins) (message server client volume number : ℕ)
      (verdict : Verdict) → IsGroupSound servers cell
      → cell.pool message ≡ Some (AnswerSent server client volume number (Ruled verdict))
      → IsDecidedAtHome (found_in cell joins) volume client number verdict

-- what a resolution leaves at a server is installed there, or it is what the replica held and kept
abbrev pub IsInstalledOrKept : PlainCell → ℕ → List ℕ → (ℕ → Last) → List Install → ℕ → Type 0
IsInstalledOrKept cell volume some lasts installs server =
    HasInstall installs server
    ⊎ (IsResolution cell volume some server (objects_at cell volume server)
    × ((client : ℕ) → last_at cell volume server client ≡ lasts client))

-- Behind a resolution each object that it took up is the same, or marked, at all replicas where what it leaves is
-- installed: at all that were resolved, where no install was refused. And each of these keeps of each client the last
-- decision that any of those kept which were resolved.
pub record ResolvedReplicasAreEqualOrMarked : Type 0 where
  pub objects : (servers : ℕ → List ℕ) (cell : PlainCell) (volume : ℕ) (some part : List ℕ) (lasts : ℕ → Last)
      (installs : List Install) (failing : Option Install) (f : Fid)
      → IsGroupSound servers cell → MayStep servers cell (Resolves volume some lasts installs failing)
      → AreAmong part some
      → ((server : ℕ) → IsIn server part → IsInstalledOrKept cell volume some lasts installs server)
      → IsTakenUp (views_at cell volume some) (root_of volume) f
      → IsEqualOrMarked
      (copies_at (views_at (after_step cell (Resolves volume some lasts installs failing)) volume part) f)
  pub lasts : (servers : ℕ → List ℕ) (cell : PlainCell) (volume : ℕ) (some : List ℕ) (lasts : ℕ → Last)
      (installs : List Install) (failing : Option Install) (server client : ℕ)
      → IsGroupSound servers cell → MayStep servers cell (Resolves volume some lasts installs failing)
      → IsInstalledOrKept cell volume some lasts installs server
      → last_at (after_step cell (Resolves volume some lasts installs failing)) volume server client ≡ lasts client

-- Behind a repair an object that was repaired, or stood below one, is the same and not marked at all replicas where
-- what the repair leaves is installed: at all that take part, where no install was refused. The others hold what they
-- held.
pub record RepairedAreEqual : Type 0 where
  pub objects : (servers : ℕ → List ℕ) (cell : PlainCell) (volume source : ℕ) (names : List Name) (some part : List ℕ)
      (lasts : ℕ → ℕ → Last) (installs : List Install) (failing : Option Install)
      → IsGroupSound servers cell
      → (may : MayStep servers cell (Repairs volume source names some lasts installs failing))
      → ((server : ℕ) → IsIn server part → HasInstall installs server)
      → (f : Fid) → IsBelow (child_in (objects_at cell volume source)) may.repair.top f
      → (held : Held)
      × ((held.node.marked ≡ false)
      × IsEverywhere held
      (copies_at (views_at (after_step cell (Repairs volume source names some lasts installs failing)) volume part)
      f))
  pub others : (cell : PlainCell) (volume source : ℕ) (names : List Name) (some : List ℕ) (lasts : ℕ → ℕ → Last)
      (installs : List Install) (failing : Option Install) (server : ℕ)
      → (HasInstall installs server → ⊥)
      → objects_at (after_step cell (Repairs volume source names some lasts installs failing)) volume server ≡
      objects_at cell volume server

-- volumes on the servers 1 and 2
abbrev pub two_servers : ℕ → List ℕ
two_servers volume = 1 ∷ 2 ∷ []

-- The premises can be met: in some run from an empty cell a chunk of a client is decided at server 1, server 2 takes
-- its verdict over by a resolution, tells it to the client, and decides the client's next chunk.
abbrev pub SomeChunkIsTakenOver : Type 0
SomeChunkIsTakenOver =
    (steps : List GroupStep) × ((cell : PlainCell) × (GroupStepped two_servers empty_cell steps cell
    × (((d : Decision) × (In d (decisions_of 7 (history_at cell 7 1)) × (d.number ≡ 1)))
    × ((e : Decision) × (In e (decisions_of 7 (history_at cell 7 2)) × (e.number ≡ 2))))))

-- And those of a repair can be met: on a new volume the root is repaired as server 1 has it.
abbrev pub SomeVolumeIsRepaired : Type 0
SomeVolumeIsRepaired = (installs : List Install)
    × MayStep two_servers empty_cell (Repairs 7 1 [] (1 ∷ 2 ∷ []) (last_at empty_cell 7) installs None)

-- what a replica holds after a change is what the resolution leaves there
abbrev pub IsChangeOf : PlainCell → ℕ → List ℕ → ℕ → Change → Type 0
IsChangeOf cell volume some server change =
    IsResolution cell volume some server (changed (objects_at cell volume server) change)

-- The changes that a merge answers for the replicas at some servers make of each what the resolution leaves there;
-- and one that has nothing leaves a replica as it is.
pub record MergeChangesAreResolutions : Type 0 where
  pub installs : (cell : PlainCell) (volume : ℕ) (some : List ℕ) (changes : List Change)
      → AreChanges (views_at cell volume some) (root_of volume) changes
      → AllZip (IsChangeOf cell volume some) some changes
  pub nothing : (o : Objects) (change : Change) → IsNoChange change → changed o change ≡ o

-- a last decision as histories have it: of number 0 where there is none
abbrev pub plain_last : Option KeptLast → Last
plain_last None = record { number = 0; verdict = Applied }
plain_last (Some last) = record { number = last.number; verdict = last.verdict }

-- the list has of each client the last decision that is kept
abbrev pub IsListOfLasts : (ℕ → Last) → List KeptLast → Type 0
IsListOfLasts lasts table = (client : ℕ) → lasts client ≡ plain_last (latest table client)

-- The latest of all lists that replicas keep are their last decisions, joined; and the list that a merge answers has
-- these.
pub record JoinedListsAreJoined : Type 0 where
  pub joined : (cell : PlainCell) (volume : ℕ) (some : List ℕ) (tables : List (List KeptLast)) → some ≢ []
      → AllZip (λ server table. IsListOfLasts (last_at cell volume server) table) some tables
      → AreJoined cell volume some (λ client. plain_last (latest (flat_map (λ table. table) tables) client))
  pub list : (lasts : List KeptLast) (client : ℕ) → client < 256
      → latest (joined_lasts lasts) client ≡ latest lasts client

-- What a run makes of a sound cell: it is sound again; whichever of the failed entries join, its histories keep what
-- is promised; and it is a run of moves, so each history begins with what it was.
pub record IsGroupRun (servers : ℕ → List ℕ) (old new : PlainCell) : Type 0 where
  pub sound : IsGroupSound servers new
  pub promised : (joins : Joins) → AreGroupPromised servers (found_in new joins)
  pub run : IsRun old new

-- Whatever happened in a sound cell, what that left is a run of it.
abbrev pub StepsRun : Type 0
StepsRun = (servers : ℕ → List ℕ) (steps : List GroupStep) (old new : PlainCell) → IsGroupSound servers old
    → GroupStepped servers old steps new → IsGroupRun servers old new
