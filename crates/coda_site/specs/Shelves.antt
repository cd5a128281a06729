-- What a site shows, and the disks that a cell begins with and leaves: a cell is its disks.
use Rattle.std.specs.Prelude.{◌≡◌, ◌<◌, ◌++◌, ℕ, Bool, List}
use Rattle.coda_disk.specs.Told.{Told}
use Rattle.coda_actors.specs.Clients.{client_form}
use Rattle.coda_actors.specs.Fits.{StandsFor}
use Rattle.coda_actors.specs.Replicas.{replica_form}
use Rattle.coda_script.specs.Ranges.{IsServer}
use Rattle.coda_script.specs.declared.reply.Reply.{Reply}
use Rattle.coda_site.specs.Cells.{AreBlank}
use Rattle.coda_site.specs.Sites.{IsSite}
use Rattle.coda_site.specs.declared.site.Site.{Site}
use Rattle.coda_shelves.specs.Shelves.{Shelves, blank_shelves, client_journal, replica_journal, disk_at}
use Rattle.coda_shelves.specs.Cells.{Cell}
use Rattle.coda_shelves.specs.Lines.{Becoming}
use Rattle.coda_shelves.specs.FromBlank.{ArePlaced}
use Rattle.coda_shelves.specs.Running.{IsKept}

-- the cell is kept, its replicas are at their places, and the site stands for it
pub record Shows {D : Type 0} (told : D → Told) (out : ℕ → Bool) (has : ℕ → Told) (cell : Cell) (site : Site D) : Type 0 where
  pub kept : IsKept cell
  pub placed : ArePlaced cell
  pub stands : IsSite told out has cell site

-- A line has this reply, the bay answered these images for it, and the site shows the cell that it leaves.
pub record Leads {D : Type 0} (told : D → Told) (out : ℕ → Bool) (has : ℕ → Told) (becoming : Becoming) (reply : Reply) (old new : List (List ℕ)) (site : Site D) : Type 0 where
  pub outside : List (List ℕ)
  pub left : Cell
  pub happens : becoming reply outside left
  pub answered : new ≡ old ++ outside
  pub shows : Shows told out has left site

-- ---- disks

-- The disks of a bay stand for shelves: each client's by its number, and each of a replica by that of its place, whichever of the entries joins whose append
-- failed.
pub record AreOnDisks {D : Type 0} (told : D → Told) (has : ℕ → Told) (shelves : Shelves) : Type 0 where
  pub clients : (client : ℕ) → client < 256 → StandsFor (client_form told) (has client) (client_journal (shelves.clients client))
  pub replicas : (row server : ℕ) → IsServer server → StandsFor (replica_form told) (has (disk_at row server)) (replica_journal (shelves.replicas row server))

-- Blank disks stand for blank shelves.
abbrev pub BlankDisksStand : {D : Type 0} → (D → Told) → (ℕ → Told) → Type 0
BlankDisksStand told has = AreBlank has → AreOnDisks told has blank_shelves
