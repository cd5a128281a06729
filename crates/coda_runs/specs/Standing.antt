-- What stands on disks behind the letters that wait: the verdict with the server that is the volume's home, and the chunk with its client.
use Rattle.std.specs.Prelude.{◌≡◌, ◌<◌, ℕ, Bool, List, Some}
use Rattle.coda_fid.specs.declared.op.Record.{Record}
use Rattle.coda_certify.specs.declared.verdict.Verdict.{Verdict}
use Rattle.coda_letters.specs.Sent.{ChunkSent, AnswerSent, sent_at}
use Rattle.coda_plain.specs.Cell.{deeds_of, Joins}
use Rattle.coda_plain.specs.Decisions.{Decision, verdict_on, last_of}
use Rattle.coda_plain.specs.Deeds.{chunks_of}
use Rattle.coda_plain.specs.Histories.{In}
use Rattle.coda_cell.specs.Steps.{alone}
use Rattle.coda_shelves.specs.Shelves.{Found, found_on, entries_on}
use Rattle.coda_shelves.specs.Cells.{Cell, shelves_of, Stand, stand_of}
use Rattle.coda_shelves.specs.Kept.{Decides}
use Rattle.coda_runs.specs.Headline.{InEachKept, InEachFound}
use Rattle.coda_runs.specs.Lettered.{answer_with}

-- The replica at this place is of the volume, and decided the chunk with this verdict.
pub record IsDecidedOn (f : Found) (row server volume client number : ℕ) (verdict : Verdict) : Type 0 where
  pub by : Decision
  pub there : Decides f row server volume by
  pub client_is : by.client ≡ client
  pub number_is : by.number ≡ number
  pub verdict_is : verdict_on by ≡ verdict

-- The server that is the volume's home, where the volume stands now, decided the chunk with this verdict, by the entries that its disk gives back, where these join of
-- those whose appends failed.
pub record IsDecidedAtHome (cell : Cell) (joins : Joins) (client volume number : ℕ) (verdict : Verdict) : Type 0 where
  pub at : Stand
  pub stands : stand_of cell volume ≡ Some at
  pub decided : IsDecidedOn (found_on (shelves_of cell) joins) at.row (alone at.servers) volume client number verdict

-- In every cell that is kept, a verdict that waits in a letter is that of a decision of the volume's home, and stands on its disk, whichever of the
-- entries join whose appends failed. And the verdict that a replica keeps on a client's last chunk, which it sends again where the letter was lost, is that of a decision on
-- the replica's own disk: of each replica that stands on a disk, also of those of earlier runs.
pub record VerdictsStandAtHome : Type 0 where
  pub letters : InEachKept (λ cell. (joins : Joins) (message server client volume number : ℕ) (verdict : Verdict) → sent_at message cell.waiting ≡ Some (AnswerSent server client volume number (answer_with verdict))
      → IsDecidedAtHome cell joins client volume number verdict)
  pub again : InEachFound (λ f. (row server client : ℕ) → (let last = last_of (f.volumes row server) (f.replicas row server) client in
      0 < last.number → IsDecidedOn f row server (f.volumes row server) client last.number last.verdict))

-- In every cell that is kept, a chunk that waits in a letter is one that its client froze for this server, under this number and of these operations,
-- also by the entries that the client's disk gives back, with the entry whose append failed or without it.
abbrev pub ChunksStandWithClients : Type 0
ChunksStandWithClients =
    InEachKept (λ cell. (joins : Bool) (message client server volume number : ℕ) (span : List Record) → sent_at message cell.waiting ≡ Some (ChunkSent client server volume number span)
    → In (record { number = number; home = server; span = span }) (chunks_of (deeds_of volume (entries_on joins (cell.clients client).disk))))
