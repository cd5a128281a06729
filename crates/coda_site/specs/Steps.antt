-- What a line leaves of a site.
use Rattle.std.specs.Prelude.{◌≡◌, ℕ, Bool, List, ◌++◌}
use Rattle.coda_disk.specs.Told.{Told}
use Rattle.coda_script.specs.declared.reply.Reply.{Reply}
use Rattle.coda_shelves.specs.Cells.{Cell}
use Rattle.coda_shelves.specs.Lines.{Becoming}
use Rattle.coda_site.specs.Sites.{IsSite}
use Rattle.coda_site.specs.declared.site.Site.{Site}

-- A line has this reply, the bay answered these images for it, and the site stands for the cell that it leaves.
pub record Becomes {D : Type 0} (told : D → Told) (out : ℕ → Bool) (has : ℕ → Told) (becoming : Becoming) (reply : Reply) (old new : List (List ℕ)) (site : Site D) : Type 0 where
  pub outside : List (List ℕ)
  pub left : Cell
  pub happens : becoming reply outside left
  pub answered : new ≡ old ++ outside
  pub stands : IsSite told out has left site
