-- The run that a trace tells of.
use Rattle.std.specs.Prelude.{◌≡◌, ℕ, Bool, List, [], ◌∷◌, ◌++◌}
use Rattle.coda_disk.specs.Told.{Told}
use Rattle.coda_script.specs.Ranges.{InRange}
use Rattle.coda_script.specs.declared.reply.Reply.{Reply}
use Rattle.coda_shelves.specs.Cells.{Cell}
use Rattle.coda_shelves.specs.Lines.{Happens}
use Rattle.coda_site.specs.Shelves.{Shows}
use Rattle.coda_site.specs.declared.site.Site.{Site}
use Rattle.coda_trace.specs.Notes.{IsNoteOf}
use Rattle.coda_trace.specs.declared.event.Event.{Event}

-- In a cell the line of the event happened, with a reply that the event notes; the bay answered these images, and this is the cell behind it.
pub record IsStep (old : Cell) (event : Event) (outside : List (List ℕ)) (new : Cell) : Type 0 where
  pub reply : Reply
  pub range : InRange event.line
  pub happens : Happens old event.line reply outside new
  pub noted : IsNoteOf reply event.note

-- The events are the steps of a run, in their order, from one cell to another; the bay answered these images.
abbrev pub AreSteps : Cell → List Event → List (List ℕ) → Cell → Type 0
AreSteps start [] outside end = (outside ≡ []) × (end ≡ start)
AreSteps start (event ∷ events) outside end =
    (next : Cell) × (first : List (List ℕ)) × (rest : List (List ℕ)) × IsStep start event first next × AreSteps next events rest end × (outside ≡ first ++ rest)

-- The bay answered further images, the site shows a cell, and the events are the steps of a run to that.
pub record GoesOn {D : Type 0} (told : D → Told) (out : ℕ → Bool) (has : ℕ → Told) (start : Cell) (events : List Event) (images old new : List (List ℕ)) (site : Site D) : Type 0 where
  pub outside : List (List ℕ)
  pub left : Cell
  pub answered : new ≡ old ++ outside
  pub shows : Shows told out has left site
  pub steps : AreSteps start events (images ++ outside) left
