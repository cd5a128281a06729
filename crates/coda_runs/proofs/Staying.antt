-- Who was made stays made, whatever a line does: it asks for the header that it asked for, and volumes stand where they stood.
use Rattle.std.proofs.Common.{◌≡◌, ℕ, Bool, true, false, List, [], ◌∷◌, Some, is_some, sym, ap, ◌∙◌, subst}
use Rattle.coda_actors.specs.Plain.{PlainActor}
use Rattle.coda_journal.specs.declared.header.Header.{Header}
use Rattle.coda_plain.specs.Cell.{ClientEntry}
use Rattle.coda_plain.specs.Decisions.{ReplicaEntry}
use Rattle.coda_script.specs.declared.line.Line.{Line}
use Rattle.coda_script.specs.declared.reply.Reply.{Reply}
use Rattle.coda_cell.specs.State.{put}
use Rattle.coda_shelves.specs.Cells.{Cell, asked, Stand, stand_from, stand_of}
use Rattle.coda_shelves.specs.Lines.{needs, is_down_for, is_others, area_of, with_row, with_made, Happens}
use Rattle.coda_shelves.proofs.FromBlank.{not_there}
use Rattle.coda_shelves.proofs.Mounting.{at_put}
use Rattle.coda_shelves.proofs.Rows.{stand_push}
use Rattle.coda_runs.proofs.Becoming.{Becomes, Stayed, ClientMoved, ReplicaMoved, ClientComes, VolumeComes, HasActed, becomes, Body, body, acts_so}

-- of a cell, what it has of what there was
abbrev Has : Cell → Body → Type 0
Has old b = ((client : ℕ) (header : Header) → asked (old.clients client).life ≡ Some header → asked (b.clients client).life ≡ Some header) × ((volume : ℕ) (at : Stand) → stand_of old volume ≡ Some at → stand_from 0 b.rows volume ≡ Some at)

pub record StayMade (old new : Cell) : Type 0 where
  pub clients : (client : ℕ) (header : Header) → asked (old.clients client).life ≡ Some header → asked (new.clients client).life ≡ Some header
  pub volumes : (volume : ℕ) (at : Stand) → stand_of old volume ≡ Some at → stand_of new volume ≡ Some at

has_same : (cell : Cell) → Has cell (body cell)
has_same cell = (λ client header is. is, λ volume at is. is)

-- another client, which asks for what was asked for
client_has : (old : Cell) (b : Body) (client : ℕ) (actor : PlainActor ClientEntry) → ((header : Header) → asked (b.clients client).life ≡ Some header → asked actor.life ≡ Some header) → Has old b → Has old (record b { clients = put b.clients client actor })
client_has old b client actor still has = (
  λ c header is. at_put (λ n a. asked (b.clients n).life ≡ Some header → asked a.life ≡ Some header) b.clients client actor (still header) (λ n e. e) c (has.0 c header is),
  has.1,
)

row_has : (others : Bool) (old : Cell) (volume : ℕ) (servers : List ℕ) (area : ℕ) (row : ℕ → PlainActor ReplicaEntry) → Has old (body (with_row others old volume servers area row))
row_has true old volume servers area row = has_same old
row_has false old volume servers area row = (λ client header is. is, λ v at is. stand_push 0 old.rows (record { volume = volume; servers = servers }) v at is)

-- where no client was made
made_has : (others : Bool) (old : Cell) (client area : ℕ) (actor : PlainActor ClientEntry) → is_some (asked (old.clients client).life) ≡ false → Has old (body (with_made others old client area actor))
made_has true old client area actor none = has_same old
made_has false old client area actor none =
    let has = client_has old (body old) client actor (λ header is. (let no : false ≡ true = sym none ∙ ap is_some is in cc)) (has_same old) in (has.0, has.1)

becomes_has : (old : Cell) (said : Line) (reply : Reply) (outside : List (List ℕ)) (new : Cell) → Becomes old said reply outside new → Has old (body new)
becomes_has old said reply outside new (Stayed quiet whole is) = subst (λ c. Has old (body c)) (sym is) (has_same old)
becomes_has old said reply outside new (ClientMoved client actor quiet whole moved is) =
    subst (λ c. Has old (body c)) (sym is) (client_has old (body old) client actor (λ header e. moved.still ∙ sym moved.asks ∙ e) (has_same old))
becomes_has old said reply outside new (ReplicaMoved row server actor quiet whole moved is) = subst (λ c. Has old (body c)) (sym is) (has_same old)
becomes_has old said reply outside new (ClientComes client blocks area says free (ending, disk, told, mounts, answered, out, is)) =
    subst (λ c. Has old (body c)) (sym is) (made_has (is_others (ending ∷ [])) old client (area_of area) _ (not_there (is_some (asked (old.clients client).life)) _ free))
becomes_has old said reply outside new (VolumeComes volume servers area says free (endings, row, mounts, answered, out, is)) =
    subst (λ c. Has old (body c)) (sym is) (row_has (is_others endings) old volume servers (area_of area) row)
becomes_has old said reply outside new (HasActed acting does) =
    acts_so (Has old) (λ b client actor asks has. client_has old b client actor (λ header e. asks.asks ∙ e) has) (λ b row server actor asks has. has) old said reply outside new (is_down_for (needs old said)) does (has_same old)

pub happens_stay : (old : Cell) (reply : Reply) (outside : List (List ℕ)) (new : Cell) (said : Line) → Happens old said reply outside new → StayMade old new
happens_stay old reply outside new said does = let has = becomes_has old said reply outside new (becomes old reply outside new said does) in record { clients = has.0; volumes = has.1 }
