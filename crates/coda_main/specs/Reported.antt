-- A run over whatever stands on the disks of a bay: what the cell of the code shows of it, and what its report tells. A cell is its disks.
use Rattle.std.specs.Prelude.{◌≡◌, ◌≢◌, ◌⊎◌, ◌≤◌, ◌++◌, ℕ, List, [], Option, None, Ok}
use Rattle.coda_disk.specs.Bays.{plus}
use Rattle.coda_disk.specs.Told.{Told}
use Rattle.coda_engine.specs.Run.{Reports}
use Rattle.coda_engine.specs.declared.status.Status.{Status}
use Rattle.coda_engine.specs.declared.status.Status.TheVariants.{BayFault, Memory}
use Rattle.coda_script.specs.Lines.{line_of}
use Rattle.coda_script.specs.declared.line.Line.{Line}
use Rattle.coda_script.specs.declared.reply.Reply.{Reply}
use Rattle.coda_shelves.specs.Cells.{Cell, begun_on, shelves_of, state_of}
use Rattle.coda_shelves.specs.Lines.{Happens}
use Rattle.coda_shelves.specs.Shelves.{Shelves}
use Rattle.coda_site.specs.Shelves.{Shows, AreOnDisks}
use Rattle.coda_site.specs.Totals.{Counts, IsCounted, IsFault, has_armed}
use Rattle.coda_runs.specs.Shelved.{Replies, HasRun, LineRefused}
use Rattle.coda_runs.specs.Texts.{text_of}
use Rattle.coda_main.specs.Lines.{AnyGives}
use Rattle.coda_main.specs.Shows.{Moment, MayGoOn, answered_since}
use Rattle.coda_main.specs.Tallies.{IsReplied, Tally, no_tally, tally_with}

-- ---- what the cell of the code shows

-- the site shows the cell, and the bay answered these images
abbrev pub ShowsAt : {D : Type 0} → (D → Told) → Cell → List (List ℕ) → Moment D → Type 0
ShowsAt told plain images now = Shows told now.out now.has plain now.site × (now.answered ≡ images)

-- In a cell that was shown the line may have this reply, whose text is this one, and the cell that it leaves is shown.
pub record Answered {D : Type 0} (told : D → Told) (plain : Cell) (said : Line) (reply : Reply) (text : List ℕ) (old new : Moment D) : Type 0 where
  pub next : Cell
  pub happens : Happens plain said reply (answered_since old new) next
  pub printed : text ≡ text_of (state_of next) reply
  pub answered : new.answered ≡ old.answered ++ answered_since old new
  pub shows : Shows told new.out new.has next new.site

-- In the cell the line may have this reply, and what it leaves is shown.
pub record RepliesSo {D : Type 0} (told : D → Told) (plain : Cell) (images : List (List ℕ)) (bytes text : List ℕ) (outside : List (List ℕ)) (r : IsReplied bytes text) (new : Moment D) : Type 0 where
  pub next : Cell
  pub replies : Replies plain bytes text outside next
  pub said : replies.said ≡ r.said
  pub reply : replies.reply ≡ r.reply
  pub shows : ShowsAt told next (images ++ outside) new

-- A line that ran says nothing, and all is as it was; or it had a reply, the totals are counted so, and each cell that was shown may have had this reply.
abbrev pub LineRan : {D : Type 0} → (D → Told) → Moment D → Counts → List ℕ → List ℕ → List (List ℕ) → Moment D → Counts → Type 0
LineRan told old old_counts bytes text outside new new_counts =
    ((line_of bytes ≡ Ok None) × (text ≡ []) × (outside ≡ []) × (new_counts ≡ old_counts) × ((plain : Cell) (images : List (List ℕ)) → ShowsAt told plain images old → ShowsAt told plain images new))
    ⊎ ((r : IsReplied bytes text) × IsCounted (IsFault (Ok r.reply)) (has_armed r.said (Ok r.reply)) old_counts new_counts
    × ((plain : Cell) (images : List (List ℕ)) → ShowsAt told plain images old → RepliesSo told plain images bytes text outside r new))

-- so it is, and the site goes on if it did before
abbrev pub Ran : {D : Type 0} → (D → Told) → Moment D → Counts → List ℕ → List ℕ → List (List ℕ) → Moment D → Counts → Type 0
Ran told old old_counts bytes text outside new new_counts = LineRan told old old_counts bytes text outside new new_counts × (MayGoOn told old → MayGoOn told new)

-- ---- what a report tells

-- Whatever the disks hold, what was read and written fits the status: each line that ran is a good one, and a line that ended the run is a bad one.
abbrev pub IsReportOfLines : Option (List ℕ) → Option (List ℕ) → Option (List ℕ) → Option (List ℕ) → Status → Type 0
IsReportOfLines left_old left_new held_old held_new status =
    (outside : List (List ℕ)) × Reports AnyGives LineRefused tt tt left_old left_new held_old held_new outside status

-- a cell, and the tally of the lines that ran in it
pub record TalliedCell : Type 0 where
  pub cell : Cell
  pub tally : Tally

-- From old, the cell may run this line, with the text of its reply and these answers of the bay, and be new then; and the tally is kept of the line and
-- of this reply.
abbrev pub TalliedGives : TalliedCell → List ℕ → List ℕ → List (List ℕ) → TalliedCell → Type 0
TalliedGives old bytes text outside new =
    ((line_of bytes ≡ Ok None) × (text ≡ []) × (outside ≡ []) × (new ≡ old))
    ⊎ ((r : Replies old.cell bytes text outside new.cell) × (new.tally ≡ tally_with r.said r.reply old.tally))

-- What was read and written is the report of a run over these shelves, in which nothing is made at first; it keeps what is promised of runs, and loses nothing that
-- stood there. Unless memory was wanting, the bay answered what the run had of it, its sum of the faults of disks rose by at least as many as the run has replies that
-- a disk failed, and its sum of `arm` calls by as many as lines that arm a disk were answered `ok`, each up to the last value of a sum. And unless the bay was at
-- fault too, its disks stand for the shelves that the run left, over which the next one goes on.
pub record IsReport {D : Type 0} (told : D → Told) (has : ℕ → Told) (answered_old answered_new : List (List ℕ)) (faults_old faults_new arms_old arms_new : ℕ) (left_old left_new held_old held_new : Option (List ℕ)) (status : Status) (shelves : Shelves) : Type 0 where
  pub cell : Cell
  pub outside : List (List ℕ)
  pub tally : Tally
  pub reports : Reports TalliedGives LineRefused (record { cell = begun_on shelves; tally = no_tally }) (record { cell = cell; tally = tally }) left_old left_new held_old held_new outside status
  pub has_run : HasRun shelves cell
  pub answered : status ≢ Memory → answered_new ≡ answered_old ++ outside
  pub faults : status ≢ Memory → plus faults_old tally.faults ≤ faults_new
  pub arms : status ≢ Memory → plus arms_new 0 ≡ plus arms_old tally.arms
  pub on_disks : status ≢ Memory → status ≢ BayFault → AreOnDisks told has (shelves_of cell)
