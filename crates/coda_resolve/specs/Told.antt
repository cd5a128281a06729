-- What a resolution tells and keeps: the new marks, the last decisions of clients, and the logs of merged directories.
use Rattle.std.specs.Prelude.{◌≡◌, ◌⊎◌, ◌++◌, ◌<◌, ◌≤◌, true, List, [], length, map, Option}
use Rattle.std.specs.List.{list_all, fold}
use Rattle.coda_fid.specs.declared.fid.Fid.{Fid}
use Rattle.coda_record.specs.declared.last.Last.{Last}
use Rattle.coda_reslog.specs.declared.entry.ResEntry.{ResEntry}
use Rattle.coda_reslog.specs.declared.change.Held.{Held}
use Rattle.coda_resolve.specs.declared.why.Why.{Why}
use Rattle.coda_resolve.specs.Copies.{Copies, is_marked, log_of}
use Rattle.coda_resolve.specs.Lasts.{joined_lasts}
use Rattle.coda_resolve.specs.Merged.{stands_in, followed_by, log_of_copies}
use Rattle.coda_resolve.specs.Outcome.{marks_of}
use Rattle.coda_resolve.specs.Placement.{IsIn, AreTreesOfOneKind}
use Rattle.coda_resolve.specs.Resolution.{Replicas, copies_at, fate_at, IsTakenUp}
use Rattle.coda_resolve.specs.Settling.{Marked}

-- an object that is taken up and marked was marked at all replicas before, or it is among the new marks, with its cause
abbrev pub MarksAreTold : Type 0
MarksAreTold = (views : Replicas) (root f : Fid) (why : Why) → AreTreesOfOneKind views root → IsTakenUp views root f → fate_at views f ≡ Marked why → (list_all is_marked (copies_at views f) ≡ true) ⊎ IsIn (record { fid = f; why = why }) (marks_of views root)

-- of each decision that is known one of the same client with a number at least as great is among the joined ones
abbrev pub GreatestAreJoined : Type 0
GreatestAreJoined = (lasts : List Last) (last : Last) → last.client < 256 → IsIn last lasts → (joined : Last) × (IsIn joined (joined_lasts lasts) × ((joined.client ≡ last.client) × (last.number ≤ joined.number)))

-- the logs of all copies, one after the other, each update once
abbrev pub whole_log_of : Copies → List ResEntry
whole_log_of copies = fold followed_by [] (map log_of copies)

-- The log of a merged directory is the end of that of all copies, where each update of a copy's log stands. Of up to 256 it is all, and of more
-- it has 256.
pub record MergedLogsKeepTheLatest : Type 0 where
  pub each : (copies : Copies) (copy : Option Held) (u : ResEntry) → IsIn copy copies → IsIn u (log_of copy) → stands_in (whole_log_of copies) u ≡ true
  pub end : (copies : Copies) → (before : List ResEntry) × (whole_log_of copies ≡ before ++ log_of_copies copies)
  pub all : (copies : Copies) → length (whole_log_of copies) ≤ 256 → log_of_copies copies ≡ whole_log_of copies
  pub full : (copies : Copies) → 256 ≤ length (whole_log_of copies) → length (log_of_copies copies) ≡ 256
