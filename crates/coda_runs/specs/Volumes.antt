-- That nobody does anything on a volume that wasn't made.
use Rattle.std.specs.Prelude.{◌≡◌, ℕ, Bool, List, [], None}
use Rattle.coda_actors.specs.Plain.{PlainDisk}
use Rattle.coda_engine.specs.Run.{Runs}
use Rattle.coda_plain.specs.Cell.{ClientEntry, deeds_of}
use Rattle.coda_script.specs.declared.line.Line.{Line}
use Rattle.coda_script.specs.declared.reply.Reply.{Reply}
use Rattle.coda_shelves.specs.Shelves.{Shelves, blank_shelves, entries_on}
use Rattle.coda_shelves.specs.Cells.{Cell, begun_on, stand_of}
use Rattle.coda_shelves.specs.Lines.{Happens}
use Rattle.coda_runs.specs.Shelved.{LineGives}

-- What would be found on the disk, with the entry whose append failed or without it, of deeds on the volume, would have been found on the other one.
abbrev pub IsSameOn : ℕ → PlainDisk ClientEntry → PlainDisk ClientEntry → Type 0
IsSameOn volume new old = (joins : Bool) → (earlier : Bool) × (deeds_of volume (entries_on joins new) ≡ deeds_of volume (entries_on earlier old))

-- A volume that isn't made behind a line wasn't made before it, and what a client would be found to have done there it would have been found to have done before.
pub record DidNoMore (old new : Cell) (client volume : ℕ) : Type 0 where
  pub unmade : stand_of old volume ≡ None
  pub before : IsSameOn volume (new.clients client).disk (old.clients client).disk

-- Whatever a line does, in whatever cell, and whichever disk fails it: no client does anything by it on a volume that isn't made.
abbrev pub LinesActOnMadeVolumes : Type 0
LinesActOnMadeVolumes =
    (old new : Cell) (said : Line) (reply : Reply) (outside : List (List ℕ)) → Happens old said reply outside new → (client volume : ℕ) → stand_of new volume ≡ None → DidNoMore old new client volume

-- So it is whatever lines ran, over whatever stood on disks: nothing was done on a volume that the run didn't make. So nobody did anything there whatever lines ran over blank
-- disks.
pub record ScriptsActOnMadeVolumes : Type 0 where
  pub runs : (shelves : Shelves) (cell : Cell) (ls : List (List ℕ)) (report : List ℕ) (outside : List (List ℕ)) → Runs LineGives (begun_on shelves) ls report outside cell
      → (client volume : ℕ) → stand_of cell volume ≡ None → IsSameOn volume (cell.clients client).disk (shelves.clients client)
  pub first : (cell : Cell) (ls : List (List ℕ)) (report : List ℕ) (outside : List (List ℕ)) → Runs LineGives (begun_on blank_shelves) ls report outside cell
      → (joins : Bool) (client volume : ℕ) → stand_of cell volume ≡ None → deeds_of volume (entries_on joins (cell.clients client).disk) ≡ []
