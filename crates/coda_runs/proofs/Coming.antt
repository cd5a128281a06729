-- What every line comes to in a cell that is its disks: it acts; or it makes an actor, crashes it or recovers it, and touches no letter.
use Rattle.std.proofs.Common.{◌≡◌, ℕ, Bool, true, false, List, [], ◌∷◌, ◌++◌, refl, sym, ap, ◌∙◌, subst}
use Rattle.coda_actors.specs.Plain.{PlainActor}
use Rattle.coda_actors.specs.declared.slot.Mounting.{Mounting}
use Rattle.coda_actors.specs.declared.slot.Mounting.TheVariants.{Entries, Foreign, DiskFault, Memory}
use Rattle.coda_plain.specs.Cell.{ClientEntry}
use Rattle.coda_plain.specs.Decisions.{ReplicaEntry}
use Rattle.coda_report.specs.Texts.{IsWhole}
use Rattle.coda_script.specs.declared.line.Line.{Line}
use Rattle.coda_script.specs.declared.line.Line.TheVariants as line
use Rattle.coda_script.specs.declared.reply.Reply.{Reply}
use Rattle.coda_shelves.specs.Cells.{Cell}
use Rattle.coda_shelves.specs.Lines.{is_others, opening, area_of, with_row, with_made, Happens}
use Rattle.coda_runs.proofs.Becoming.{Becomes, Stayed, ClientMoved, ReplicaMoved, ClientComes, VolumeComes, HasActed, becomes}
use Rattle.coda_runs.proofs.Meeting.{Ends, line_ends}
use Rattle.coda_runs.proofs.Unlettered.{is_acting}

-- the lines that touch letters
abbrev pub touches_letters : Line → Bool
touches_letters (line.Send client volume server window) = true
touches_letters (line.Deliver message) = true
touches_letters (line.Lose message) = true
touches_letters _ = false

pub data ComesTo (old : Cell) (said : Line) (reply : Reply) (new : Cell) : Type 0 where
  Acted : is_acting said ≡ true → Ends old said reply new → ComesTo old said reply new
  Aside : touches_letters said ≡ false → IsWhole reply → new.waiting ≡ old.waiting → ComesTo old said reply new

-- ---- replies that show nothing

opening_whole : (counts : List ℕ) (faulty : Bool) (endings : List Mounting) → IsWhole (opening counts faulty endings)
opening_whole counts false [] = tt
opening_whole counts true [] = tt
opening_whole counts faulty (Entries count ∷ endings) = opening_whole (counts ++ count ∷ []) faulty endings
opening_whole counts faulty (Foreign at ∷ endings) = tt
opening_whole counts faulty (DiskFault ∷ endings) = opening_whole counts true endings
opening_whole counts faulty (Memory ∷ endings) = opening_whole counts true endings

row_letters : (others : Bool) (cell : Cell) (volume : ℕ) (servers : List ℕ) (area : ℕ) (row : ℕ → PlainActor ReplicaEntry) → (with_row others cell volume servers area row).waiting ≡ cell.waiting
row_letters true cell volume servers area row = refl
row_letters false cell volume servers area row = refl

made_letters : (others : Bool) (cell : Cell) (client area : ℕ) (actor : PlainActor ClientEntry) → (with_made others cell client area actor).waiting ≡ cell.waiting
made_letters true cell client area actor = refl
made_letters false cell client area actor = refl

-- a line that doesn't act touches no letter
quiet_touches : (said : Line) → is_acting said ≡ false → touches_letters said ≡ false
quiet_touches (line.Send client volume server window) quiet = cc
quiet_touches (line.Deliver message) quiet = cc
quiet_touches (line.Lose message) quiet = cc
quiet_touches _ quiet = refl

comes_so : (old : Cell) (reply : Reply) (outside : List (List ℕ)) (new : Cell) (said : Line) → Becomes old said reply outside new → ComesTo old said reply new
comes_so old reply outside new said (Stayed quiet whole is) = Aside (quiet_touches said quiet) whole (ap (λ (c : Cell). c.waiting) is)
comes_so old reply outside new said (ClientMoved client actor quiet whole moved is) = Aside (quiet_touches said quiet) whole (ap (λ (c : Cell). c.waiting) is)
comes_so old reply outside new said (ReplicaMoved row server actor quiet whole moved is) = Aside (quiet_touches said quiet) whole (ap (λ (c : Cell). c.waiting) is)
comes_so old reply outside new said (ClientComes client blocks area says free (ending, disk, told, mounts, answered, out, is)) =
    Aside (ap touches_letters says) (subst IsWhole (sym answered) (opening_whole [] false (ending ∷ []))) (ap (λ (c : Cell). c.waiting) is ∙ made_letters (is_others (ending ∷ [])) old client (area_of area) _)
comes_so old reply outside new said (VolumeComes volume servers area says free (endings, row, mounts, answered, out, is)) =
    Aside (ap touches_letters says) (subst IsWhole (sym answered) (opening_whole [] false endings)) (ap (λ (c : Cell). c.waiting) is ∙ row_letters (is_others endings) old volume servers (area_of area) row)
comes_so old reply outside new said (HasActed acting does) = Acted acting (line_ends old said reply outside new acting does)

pub line_comes : (old : Cell) (reply : Reply) (outside : List (List ℕ)) (new : Cell) (said : Line) → Happens old said reply outside new → ComesTo old said reply new
line_comes old reply outside new said does = comes_so old reply outside new said (becomes old reply outside new said does)
