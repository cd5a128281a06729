-- What the lines of a script tell of the disks of its cell, whatever these hold.
use Rattle.std.specs.Prelude.{◌≡◌, ◌≢◌, ◌≤◌, ◌+◌, ◌⊎◌, ℕ, Bool, true, false, if◌then◌else◌, List, [], Option, Some, None, Ok}
use Rattle.coda_disk.specs.Bays.{plus}
use Rattle.coda_engine.specs.Run.{Reports}
use Rattle.coda_engine.specs.declared.status.Status.{Status}
use Rattle.coda_engine.specs.declared.status.Status.TheVariants.{Memory}
use Rattle.coda_cml.specs.State.{LogState}
use Rattle.coda_report.specs.LogTexts.{log_text}
use Rattle.coda_report.specs.Texts.{reply_text}
use Rattle.coda_report.specs.Volumes.{volume_text}
use Rattle.coda_tree.specs.Volume.{Tree}
use Rattle.coda_script.specs.Lines.{line_of}
use Rattle.coda_script.specs.declared.line.Line.{Line}
use Rattle.coda_script.specs.declared.refusal.Refusal.TheVariants.{DiskFault}
use Rattle.coda_script.specs.declared.reply.Reply.{Reply}
use Rattle.coda_script.specs.declared.reply.Reply.TheVariants.{Refused, Accepted, ShowVolume, ShowLog}
use Rattle.coda_shelves.specs.Lines.{is_built, refused_fault}
use Rattle.coda_site.specs.Totals.{has_armed}
use Rattle.coda_runs.specs.Shelved.{LineRefused}

-- ---- lines and replies

-- the text is that of the reply; where this shows a volume or a log, it is the text of some volume at the server, or empty, or that of some log
abbrev pub IsText : Reply → List ℕ → Type 0
IsText (ShowVolume server volume) text = (text ≡ []) ⊎ ((tree : Tree) × (text ≡ volume_text server tree))
IsText (ShowLog client volume) text = (log : LogState) × (text ≡ log_text log)
IsText reply text = text ≡ reply_text reply

-- the reply is that a disk failed
abbrev pub tells_fault : Reply → Bool
tells_fault (Refused DiskFault []) = true
tells_fault _ = false

-- A text tells whether the reply is one that is counted: no other than that a disk failed has the text of this one, which is counted, and no other than
-- `ok` has that.
abbrev pub CountedRepliesAreTold : Type 0
CountedRepliesAreTold =
    (reply : Reply) (text : List ℕ) → IsText reply text
    → (text ≡ reply_text refused_fault → (reply ≡ refused_fault) × (tells_fault reply ≡ true)) × (text ≡ reply_text Accepted → reply ≡ Accepted)

-- The bytes say a line that is built; its reply has this text.
pub record IsReplied (bytes text : List ℕ) : Type 0 where
  pub said : Line
  pub reply : Reply
  pub spelled : line_of bytes ≡ Ok (Some said)
  pub built : is_built said ≡ true
  pub printed : IsText reply text

-- ---- the tally of a script

-- how many replies were that a disk failed, and how many lines that arm a disk were answered `ok`
pub record Tally : Type 0 where
  pub faults : ℕ
  pub arms : ℕ

abbrev pub no_tally : Tally
no_tally = record { faults = 0; arms = 0 }

-- the tally with a line and its reply
abbrev pub tally_with : Line → Reply → Tally → Tally
tally_with said reply tally = record {
  faults = if tells_fault reply then tally.faults + 1 else tally.faults;
  arms = if has_armed said (Ok reply) then tally.arms + 1 else tally.arms;
}

-- what the lines of a script give and refuse, of which nothing else is known than the bytes, the text and the tally
abbrev pub TallyGives : Tally → List ℕ → List ℕ → List (List ℕ) → Tally → Type 0
TallyGives old bytes text outside new = ((line_of bytes ≡ Ok None) × (text ≡ []) × (new ≡ old)) ⊎ ((r : IsReplied bytes text) × (new ≡ tally_with r.said r.reply old))

-- What was read and written is the report of a run with this tally. Unless memory was wanting, the bay's sum of the faults of disks rose by as many
-- at least as the run has replies that a disk failed, and its sum of `arm` calls by as many as lines that arm a disk were answered `ok`, each up to
-- the last value of a sum: also where the bay was at fault at a line, which has no reply.
pub record IsReportOfDisks (faults_old faults_new arms_old arms_new : ℕ) (left_old left_new held_old held_new : Option (List ℕ)) (status : Status) : Type 0 where
  pub tally : Tally
  pub outside : List (List ℕ)
  pub reports : Reports TallyGives LineRefused no_tally tally left_old left_new held_old held_new outside status
  pub faults : status ≢ Memory → plus faults_old tally.faults ≤ faults_new
  pub arms : status ≢ Memory → plus arms_new 0 ≡ plus arms_old tally.arms
