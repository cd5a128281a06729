-- What one run made can be made again: the lines that made it do so.
use Rattle.std.proofs.Common.{◌≡◌, ◌&&◌, ℕ, ◌+◌, ◌==◌, ◌||◌, true, false, cond, List, [], ◌∷◌, ◌++◌, length, Option, Some, None, is_some, refl, sym, ap, ◌∙◌, subst, inl, inr, ◌⊎◌}
use Rattle.std.specs.Prelude.{nat_le, nat_lt}
use Rattle.std.specs.List.{AllByRecursion}
use Rattle.coda_actors.specs.Plain.{PlainActor}
use Rattle.coda_actors.specs.declared.slot.Mounting.{Mounting}
use Rattle.coda_actors.specs.declared.slot.Mounting.TheVariants.{Entries, Foreign, DiskFault, Memory}
use Rattle.coda_engine.specs.Run.{Runs}
use Rattle.coda_journal.specs.declared.header.Header.{Header}
use Rattle.coda_plain.specs.Cell.{ClientEntry}
use Rattle.coda_plain.specs.Decisions.{ReplicaEntry}
use Rattle.coda_script.specs.Ranges.{InRange}
use Rattle.coda_script.specs.declared.line.Line.{Line}
use Rattle.coda_script.specs.declared.line.Line.TheVariants as line
use Rattle.coda_script.specs.declared.reply.Reply.{Reply}
use Rattle.coda_cell.specs.Refused.{Refused, AlreadyThere}
use Rattle.coda_cell.specs.State.{put}
use Rattle.coda_cell.specs.Steps.{no_room, is_alone, alone}
use Rattle.coda_shelves.specs.Shelves.{client_header, replica_header}
use Rattle.coda_shelves.specs.Cells.{Row, Cell, begun_on, asked, stand_from}
use Rattle.coda_shelves.specs.Lines.{is_built, Unless, needs, is_down_for, is_others, opening, made_on, MountsRow, area_of, with_row, MakesVolume, with_made, MakesClient, Happens, refused_fault, refused_foreign}
use Rattle.coda_shelves.proofs.Mounting.{at_put, at_place}
use Rattle.coda_runs.specs.Again.{Happen, NoneIsForeign, WhatRanCanBeResumed}
use Rattle.coda_runs.specs.Shelved.{LineGives}
use Rattle.coda_runs.proofs.Becoming.{Becomes, Stayed, ClientMoved, ReplicaMoved, ClientComes, VolumeComes, HasActed, becomes, Body, body, acts_so}
use Rattle.coda_runs.proofs.Shelved.{read_in_range}

-- ---- what is made in a cell

pub record Made : Type 0 where
  pub clients : ℕ → Option Header
  pub replicas : ℕ → ℕ → Option Header
  pub rows : List Row
  pub areas : ℕ

abbrev made_in : Body → Made
made_in b = record { clients = λ client. asked (b.clients client).life; replicas = λ row server. asked (b.replicas row server).life; rows = b.rows; areas = b.areas }

abbrev made_of : Cell → Made
made_of cell = made_in (body cell)

abbrev nothing : Made
nothing = record { clients = λ client. None; replicas = λ row server. None; rows = []; areas = 0 }

abbrev with_line : Made → Line → Made
with_line made (line.Client client blocks area) = record made { clients = put made.clients client (Some (client_header client blocks (area_of area))); areas = made.areas + area_of area }
with_line made (line.Volume volume servers area) = record made {
  replicas = put made.replicas (length made.rows) (put (made.replicas (length made.rows)) (alone servers) (Some (replica_header volume servers (area_of area) (alone servers))));
  rows = made.rows ++ record { volume = volume; servers = servers } ∷ [];
  areas = made.areas + area_of area;
}
with_line made said = made

abbrev with_lines : Made → List Line → Made
with_lines made [] = made
with_lines made (said ∷ lines) = with_lines (with_line made said) lines

-- why there is no room for what a line makes; only lines that make something have room
abbrev room : Made → Line → Option Refused
room made (line.Volume volume servers area) = no_room (is_some (stand_from 0 made.rows volume)) (nat_le 64 (length made.rows) || nat_lt 512 (made.areas + area_of area))
room made (line.Client client blocks area) = no_room (is_some (made.clients client)) (nat_lt 512 (made.areas + area_of area))
room made said = Some AlreadyThere

abbrev CanMakeOne : Made → Line → Type 0
CanMakeOne made said = InRange said × (is_built said ≡ true) × (room made said ≡ None)

abbrev CanMake : Made → List Line → Type 0
CanMake made [] = Unit {0}
CanMake made (said ∷ lines) = CanMakeOne made said × CanMake (with_line made said) lines

lines_last : (made : Made) (lines : List Line) (said : Line) → with_lines made (lines ++ said ∷ []) ≡ with_line (with_lines made lines) said
lines_last made [] said = refl
lines_last made (first ∷ lines) said = lines_last (with_line made first) lines said

can_last : (made : Made) (lines : List Line) (said : Line) → CanMake made lines → CanMakeOne (with_lines made lines) said → CanMake made (lines ++ said ∷ [])
can_last made [] said can one = (one, tt)
can_last made (first ∷ lines) said can one = (can.0, can_last (with_line made first) lines said can.1 one)

spelled : (made : Made) (lines : List Line) → CanMake made lines → AllByRecursion (λ said. InRange said × (is_built said ≡ true)) lines
spelled made [] can = tt
spelled made (said ∷ lines) can = ((can.0.0, can.0.1), spelled (with_line made said) lines can.1)

-- ---- lines that make nothing

client_as : (b : Body) (client : ℕ) (actor : PlainActor ClientEntry) → asked actor.life ≡ asked (b.clients client).life → made_in (record b { clients = put b.clients client actor }) ≡ made_in b
client_as b client actor same = λ i. record (made_in b) { clients = λ c. at_put (λ n a. asked a.life ≡ asked (b.clients n).life) b.clients client actor same (λ n. refl) c i }

replica_as : (b : Body) (row server : ℕ) (actor : PlainActor ReplicaEntry) → asked actor.life ≡ asked (b.replicas row server).life
    → made_in (record b { replicas = λ r s. cond ((r == row) && (s == server)) actor (b.replicas r s) }) ≡ made_in b
replica_as b row server actor same = λ i. record (made_in b) { replicas = λ r s. at_place (λ m n a. asked a.life ≡ asked (b.replicas m n).life) b.replicas row server actor same (λ m n. refl) r s i }

-- ---- lines that make an actor

-- all is as it was, for the disk of another; or the line's actor is made
abbrev HasMade : Cell → Line → Reply → Cell → Type 0
HasMade old said reply new = ((made_of new ≡ made_of old) × ((at : ℕ) × (reply ≡ refused_foreign at))) ⊎ (made_of new ≡ with_line (made_of old) said)

module _ (old : Cell) (reply : Reply) (outside : List (List ℕ)) (new : Cell) where
  client_as_made : (client blocks : ℕ) (area : Option ℕ) (actor : PlainActor ClientEntry) → asked actor.life ≡ Some (client_header client blocks (area_of area)) → new ≡ with_made false old client (area_of area) actor
      → made_of new ≡ with_line (made_of old) (line.Client client blocks area)
  client_as_made client blocks area actor is next = ap made_of next ∙ (λ i. record (made_of old) { clients = λ c. same c i; areas = old.areas + area_of area })
    where
      same : (c : ℕ) → asked (put old.clients client actor c).life ≡ put (λ n. asked (old.clients n).life) client (Some (client_header client blocks (area_of area))) c
      same c = elim (c == client) as (λ b. asked (cond b actor (old.clients c)).life ≡ cond b (Some (client_header client blocks (area_of area))) (asked (old.clients c).life)) [ true ↦ is | false ↦ refl ]

  client_made : (client blocks : ℕ) (area : Option ℕ) → MakesClient old client (client_header client blocks (area_of area)) reply outside new → HasMade old (line.Client client blocks area) reply new
  client_made client blocks area (Entries count, disk, told, mounts, says, out, next) = inr (client_as_made client blocks area _ refl next)
  client_made client blocks area (DiskFault, disk, told, mounts, says, out, next) = inr (client_as_made client blocks area _ refl next)
  client_made client blocks area (Foreign at, disk, told, mounts, says, out, next) = inl (ap made_of next, (at, says))
  client_made client blocks area (Memory, disk, told, mounts, says, out, next) = absurd told

  module _ (volume server : ℕ) (area : Option ℕ) where
    abbrev header : Header
    header = replica_header volume (server ∷ []) (area_of area) server

    abbrev first : ℕ → PlainActor ReplicaEntry
    first = old.replicas (length old.rows)

    row_as_made : (actor : PlainActor ReplicaEntry) → asked actor.life ≡ Some header → (row : ℕ → PlainActor ReplicaEntry) → row ≡ put first server actor → new ≡ with_row false old volume (server ∷ []) (area_of area) row
        → made_of new ≡ with_line (made_of old) (line.Volume volume (server ∷ []) area)
    row_as_made actor is row are next =
        ap made_of next ∙ (λ i. record { clients = λ client. asked (old.clients client).life; replicas = λ r s. same r s i; rows = old.rows ++ record { volume = volume; servers = server ∷ [] } ∷ []; areas = old.areas + area_of area })
      where
        one : (s : ℕ) → asked (put first server actor s).life ≡ put (λ n. asked (first n).life) server (Some header) s
        one s = elim (s == server) as (λ b. asked (cond b actor (first s)).life ≡ cond b (Some header) (asked (first s).life)) [ true ↦ is | false ↦ refl ]

        same : (r s : ℕ) → asked (put old.replicas (length old.rows) row r s).life ≡ put (λ m n. asked (old.replicas m n).life) (length old.rows) (put (λ n. asked (first n).life) server (Some header)) r s
        same r s = elim (r == length old.rows) as (λ b. asked ((cond b row (old.replicas r)) s).life ≡ (cond b (put (λ n. asked (first n).life) server (Some header)) (λ n. asked (old.replicas r n).life)) s) [
          | true ↦ ap (λ (f : ℕ → PlainActor ReplicaEntry). asked (f s).life) are ∙ one s
          | false ↦ refl
        ]

    rows_made : (endings : List Mounting) (row : ℕ → PlainActor ReplicaEntry) → MountsRow (is_others endings) (replica_header volume (server ∷ []) (area_of area)) first (server ∷ []) endings row → reply ≡ opening [] false endings
        → new ≡ with_row (is_others endings) old volume (server ∷ []) (area_of area) row → HasMade old (line.Volume volume (server ∷ []) area) reply new
    rows_made [] row m says next = absurd m
    rows_made (Memory ∷ endings) row m says next = absurd m.0
    rows_made (Foreign at ∷ endings) row m says next = inl (ap made_of next ∙ still, (at, says))
      where
        still : made_of (with_row true old volume (server ∷ []) (area_of area) row) ≡ made_of old
        still = λ i. record (made_of old) { replicas = λ r s. same r s i }
          where
            same : (r s : ℕ) → asked (put old.replicas (length old.rows) row r s).life ≡ asked (old.replicas r s).life
            same r s = at_put (λ n f. asked (f s).life ≡ asked (old.replicas n s).life) old.replicas (length old.rows) row (ap (λ (f : ℕ → PlainActor ReplicaEntry). asked (f s).life) m.2) (λ n. refl) r
    rows_made (Entries count ∷ []) row (told, (disk, mounts, rest)) says next = inr (row_as_made _ refl row rest.1 next)
    rows_made (DiskFault ∷ []) row (told, (disk, mounts, rest)) says next = inr (row_as_made _ refl row rest.1 next)
    rows_made (Entries count ∷ x ∷ endings) row (told, (disk, mounts, rest)) says next = (let no = rest.0 in cc)
    rows_made (DiskFault ∷ x ∷ endings) row (told, (disk, mounts, rest)) says next = (let no = rest.0 in cc)

  volume_made : (volume : ℕ) (servers : List ℕ) (area : Option ℕ) → is_alone servers ≡ true → MakesVolume old volume servers (area_of area) reply outside new → HasMade old (line.Volume volume servers area) reply new
  volume_made volume [] area is does = cc
  volume_made volume (server ∷ []) area is (endings, row, mounts, says, out, next) = rows_made volume server area endings row mounts says next
  volume_made volume (server ∷ other ∷ servers) area is does = cc

  -- ---- every line

  -- nothing more is made, or what there was room for
  abbrev HasRoomFor : Line → Type 0
  HasRoomFor said = (made_of new ≡ made_of old) ⊎ ((room (made_of old) said ≡ None) × (made_of new ≡ with_line (made_of old) said))

  had_made : (said : Line) → room (made_of old) said ≡ None → HasMade old said reply new → HasRoomFor said
  had_made said free (inl same) = inl same.0
  had_made said free (inr made) = inr (free, made)

  becomes_as : (said : Line) → is_built said ≡ true → Becomes old said reply outside new → HasRoomFor said
  becomes_as said built (Stayed quiet whole is) = inl (ap made_of is)
  becomes_as said built (ClientMoved client actor quiet whole moved is) = inl (ap made_of is ∙ client_as (body old) client actor (moved.still ∙ sym moved.asks))
  becomes_as said built (ReplicaMoved row server actor quiet whole moved is) = inl (ap made_of is ∙ replica_as (body old) row server actor (moved.still ∙ sym moved.asks))
  becomes_as said built (ClientComes client blocks area says free did) =
      subst HasRoomFor (sym says) (had_made (line.Client client blocks area) free (client_made client blocks area did))
  becomes_as said built (VolumeComes volume servers area says free did) =
      subst HasRoomFor (sym says) (had_made (line.Volume volume servers area) free (volume_made volume servers area (sym (ap is_built says) ∙ built) did))
  becomes_as said built (HasActed acting does) =
      inl (acts_so (λ b. made_in b ≡ made_of old) (λ b client actor asks is. client_as b client actor asks.asks ∙ is) (λ b row server actor asks is. replica_as b row server actor asks.asks ∙ is)
      old said reply outside new (is_down_for (needs old said)) does refl)

-- ---- the lines that made it

abbrev IsMadeBy : Cell → List Line → Type 0
IsMadeBy cell lines = CanMake nothing lines × (made_of cell ≡ with_lines nothing lines)

one_more : (old new : Cell) (said : Line) (reply : Reply) (outside : List (List ℕ)) (lines : List Line) → InRange said → is_built said ≡ true → IsMadeBy old lines → Happens old said reply outside new → (more : List Line) × IsMadeBy new more
one_more old new said reply outside lines range built by does = elim (becomes_as old reply outside new said built (becomes old reply outside new said does)) [
  | inl same ↦ (lines, (by.0, same ∙ by.1))
  | inr (free, made) ↦ (
    lines ++ said ∷ [],
    (can_last nothing lines said by.0 (range, built, ap (λ m. room m said) (sym by.1) ∙ free), made ∙ ap (λ m. with_line m said) by.1 ∙ sym (lines_last nothing lines said)),
  )
]

gives_more : (old new : Cell) (bytes text : List ℕ) (outside : List (List ℕ)) (lines : List Line) → IsMadeBy old lines → LineGives old bytes text outside new → (more : List Line) × IsMadeBy new more
gives_more old new bytes text outside lines by (inl silent) = (lines, (by.0, ap made_of silent.3 ∙ by.1))
gives_more old new bytes text outside lines by (inr x) = one_more old new x.said x.reply outside lines (read_in_range bytes x.said x.spelled) x.built by x.happens

runs_more : (old new : Cell) (ls : List (List ℕ)) (report : List ℕ) (outside : List (List ℕ)) (lines : List Line) → IsMadeBy old lines → Runs LineGives old ls report outside new → (more : List Line) × IsMadeBy new more
runs_more old new [] report outside lines by run = (lines, (by.0, ap made_of run.2 ∙ by.1))
runs_more old new (l ∷ ls) report outside lines by run = (let first = gives_more old run.0 l run.1 run.3 lines by run.5 in runs_more run.0 new ls run.2 run.4 first.0 first.1 run.6)

-- ---- make it again

-- a line that has room does what it does where it is free
free_does : (old : Cell) (said : Line) (reply : Reply) (outside : List (List ℕ)) (new : Cell) → is_built said ≡ true → room (made_of old) said ≡ None → Happens old said reply outside new → HasMade old said reply new
free_does old (line.Volume volume servers area) reply outside new built free does =
    volume_made old reply outside new volume servers area built (subst (λ o. Unless old o (MakesVolume old volume servers (area_of area)) reply outside new) free does)
free_does old (line.Client client blocks area) reply outside new built free does =
    client_made old reply outside new client blocks area (subst (λ o. Unless old o (MakesClient old client (client_header client blocks (area_of area))) reply outside new) free does)
free_does old _ reply outside new built free does = cc

made_again : (lines : List Line) (replies : List Reply) (old new : Cell) (made : Made) → made_of old ≡ made → CanMake made lines → Happen old lines replies new → NoneIsForeign replies → made_of new ≡ with_lines made lines
made_again [] replies old new made is can happen none = ap made_of happen.1 ∙ is
made_again (said ∷ lines) [] old new made is can happen none = absurd happen
made_again (said ∷ lines) (reply ∷ replies) old new made is can (mid, outside, happens, rest) none =
    elim (free_does old said reply outside mid can.0.1 (ap (λ m. room m said) is ∙ can.0.2) happens) [
      | inl (same, (at, says)) ↦ absurd (none at (inl (sym says)))
      | inr next ↦ made_again lines replies mid new (with_line made said) (next ∙ ap (λ m. with_line m said) is) can.1 rest (λ at i. none at (inr i))
    ]

-- a call of its disk may fail
may_fail : (old : Cell) (said : Line) → is_built said ≡ true → room (made_of old) said ≡ None → (new : Cell) × Happens old said refused_fault [] new × (made_of new ≡ with_line (made_of old) said)
may_fail old (line.Volume volume [] area) built free = cc
may_fail old (line.Volume volume (server ∷ []) area) built free =
    let first = old.replicas (length old.rows) in
    let row = put first server (made_on false (replica_header volume (server ∷ []) (area_of area) server) (first server) (first server).disk DiskFault) in
    let new = with_row false old volume (server ∷ []) (area_of area) row in (
      new,
      subst (λ o. Unless old o (MakesVolume old volume (server ∷ []) (area_of area)) refused_fault [] new) (sym free) (DiskFault ∷ [], row, (tt, ((first server).disk, inl refl, (refl, refl))), refl, refl, refl),
      row_as_made old refused_fault [] new volume server area _ refl row refl refl,
    )
may_fail old (line.Volume volume (server ∷ other ∷ servers) area) built free = cc
may_fail old (line.Client client blocks area) built free =
    let actor = old.clients client in
    let header = client_header client blocks (area_of area) in
    let new = with_made false old client (area_of area) (made_on false header actor actor.disk DiskFault) in
    (new, subst (λ o. Unless old o (MakesClient old client header) refused_fault [] new) (sym free) (DiskFault, actor.disk, tt, inl refl, refl, refl, refl), client_as_made old refused_fault [] new client blocks area _ refl refl)
may_fail old _ built free = cc

not_foreign : (at : ℕ) → refused_foreign at ≡ refused_fault → ⊥
not_foreign at e = cc

may_be : (lines : List Line) (old : Cell) (made : Made) → made_of old ≡ made → CanMake made lines → (replies : List Reply) × (new : Cell) × Happen old lines replies new × NoneIsForeign replies
may_be [] old made is can = ([], old, (refl, refl), λ at i. i)
may_be (said ∷ lines) old made is can =
    let first = may_fail old said can.0.1 (ap (λ m. room m said) is ∙ can.0.2) in
    let rest = may_be lines first.0 (with_line made said) (first.2 ∙ ap (λ m. with_line m said) is) can.1 in
    (refused_fault ∷ rest.0, rest.1, (first.0, [], first.1, rest.2), λ at i. elim i [ inl here ↦ not_foreign at here | inr later ↦ rest.3 at later ])

pub what_ran_can_be_resumed : WhatRanCanBeResumed
what_ran_can_be_resumed shelves cell ls report outside run =
    let by = runs_more (begun_on shelves) cell ls report outside [] (tt, refl) run in
    record {
      lines = by.0;
      spelled = spelled nothing by.0 by.1.0;
      again = λ other replies new happen none.
          let same : made_of new ≡ made_of cell = made_again by.0 replies (begun_on other) new nothing refl by.1.0 happen none ∙ sym by.1.1 in
          record {
            rows = ap (λ (m : Made). m.rows) same;
            areas = ap (λ (m : Made). m.areas) same;
            clients = λ client. ap (λ (m : Made). m.clients client) same;
            replicas = λ row server. ap (λ (m : Made). m.replicas row server) same;
          };
      may = λ other. may_be by.0 (begun_on other) nothing refl by.1.0;
    }
