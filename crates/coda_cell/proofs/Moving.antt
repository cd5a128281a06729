-- What events in order make of a cell: its actors stay up, histories go on, and entries of one client touch that client alone.
use Rattle.std.proofs.Common.{◌≡◌, ◌≢◌, ℕ, ◌==◌, ◌&&◌, true, false, cond, List, [], ◌∷◌, ◌++◌, append_assoc, append-nil, map, refl, sym, ap, ◌∙◌, subst, inl, inr}
use Rattle.std.proofs.lemmas.Bool.{eqb-true, eq-eqb, cases_Bool, false≢true}
use Rattle.coda_fid.specs.declared.fid.Fid.{Fid}
use Rattle.coda_plain.specs.Deeds.{Deed, IsMade}
use Rattle.coda_plain.specs.Cell.{ClientEntry, deed_on, deeds_of, Actor, PlainCell}
use Rattle.coda_plain.specs.Logs.{BeginsWith}
use Rattle.coda_plain.specs.Moves.{with_client, grown as grown_actor, Append, AtClient, AtReplica, Move, Does, after as after_move, done_on, Moved}
use Rattle.coda_plain.proofs.AtClients.{made_more}
use Rattle.coda_plain.proofs.Staying.{clients_run}
use Rattle.coda_cell.specs.State.{CellState, Event, VolumeMade, ClientMade, Ticked, LinkSet, Entered, Posted, Lost, Used, Kept, Stale, after, after_all, at_client}
use Rattle.coda_cell.specs.Made.{MadeCell, state_of, grown, grown_all, move_of, moves_of}
use Rattle.coda_cell.specs.Runs.{AreUp, IsKept, IsLeft}
use Rattle.coda_cell.proofs.Grown.{client_grown}

pub grown_both : (cell : MadeCell) (first rest : List Event) → grown_all cell (first ++ rest) ≡ grown_all (grown_all cell first) rest
grown_both cell [] rest = refl
grown_both cell (event ∷ first) rest = grown_both (grown cell event) first rest

pub after_both : (s : CellState) (first rest : List Event) → after_all s (first ++ rest) ≡ after_all (after_all s first) rest
after_both s [] rest = refl
after_both s (event ∷ first) rest = after_both (after s event) first rest

moves_both : (first rest : List Event) → moves_of (first ++ rest) ≡ moves_of first ++ moves_of rest
moves_both [] rest = refl
moves_both (event ∷ first) rest = ap (λ l. move_of event ++ l) (moves_both first rest) ∙ sym (append_assoc (move_of event) (moves_of first) (moves_of rest))

pub moved_both : (old mid new : PlainCell) (first rest : List Move) → Moved old first mid → Moved mid rest new → Moved old (first ++ rest) new
moved_both old mid new [] rest a b = subst (λ c. Moved c rest new) a b
moved_both old mid new (move ∷ first) rest a b = (a.0, moved_both (after_move old move) mid new first rest a.1 b)

pub left_both : (cell : MadeCell) (first rest : List Event) → IsLeft cell first → IsLeft (grown_all cell first) rest → IsLeft cell (first ++ rest)
left_both cell first rest a b = record {
  moved = subst (λ (new : MadeCell). Moved cell.acted (moves_of (first ++ rest)) new.acted) (sym (grown_both cell first rest))
      (subst (λ moves. Moved cell.acted moves (grown_all (grown_all cell first) rest).acted) (sym (moves_both first rest))
      (moved_both cell.acted (grown_all cell first).acted (grown_all (grown_all cell first) rest).acted (moves_of first) (moves_of rest) a.moved b.moved));
  kept = subst IsKept (sym (grown_both cell first rest)) b.kept;
  shown = ap state_of (grown_both cell first rest) ∙ b.shown ∙ ap (λ s. after_all s rest) a.shown ∙ sym (after_both (state_of cell) first rest);
}

-- nothing happened
pub left_none : (cell : MadeCell) → IsKept cell → IsLeft cell []
left_none cell kept = record { moved = refl; kept = kept; shown = refl }

-- each of events in turn might happen in the cell that those before it left, and keeps it
abbrev pub AreLeft : MadeCell → List Event → Type 0
AreLeft cell [] = IsKept cell
AreLeft cell (event ∷ events) = IsLeft cell (event ∷ []) × AreLeft (grown cell event) events

pub are_left_one : (cell : MadeCell) (event : Event) → IsLeft cell (event ∷ []) → AreLeft cell (event ∷ [])
are_left_one cell event left = (left, left.kept)

pub are_left_both : (cell : MadeCell) (first rest : List Event) → AreLeft cell first → AreLeft (grown_all cell first) rest → AreLeft cell (first ++ rest)
are_left_both cell [] rest a b = b
are_left_both cell (event ∷ first) rest a b = (a.0, are_left_both (grown cell event) first rest a.1 b)

-- the cell behind all of them is kept
pub kept_behind : (cell : MadeCell) (events : List Event) → AreLeft cell events → IsKept (grown_all cell events)
kept_behind cell [] are = are
kept_behind cell (event ∷ events) are = kept_behind (grown cell event) events are.1

-- each front of them might happen, and keeps the cell
pub front_left : (cell : MadeCell) (done rest : List Event) → IsKept cell → AreLeft cell (done ++ rest) → IsLeft cell done
front_left cell [] rest kept are = left_none cell kept
front_left cell (event ∷ done) rest kept are = left_both cell (event ∷ []) done are.0 (front_left (grown cell event) done rest are.0.kept are.1)

-- and so all of them
pub all_left : (cell : MadeCell) (events : List Event) → IsKept cell → AreLeft cell events → IsLeft cell events
all_left cell events kept are = front_left cell events [] kept (subst (AreLeft cell) (sym (append-nil events)) are)

up_after : (cell : PlainCell) (append : Append) → AreUp cell → AreUp (after_move cell (Does append))
up_after cell (AtClient client entry) up = record {
  clients = λ c. elim (c == client) as (λ b. (cond b (grown_actor entry (cell.clients client)) (cell.clients c)).up ≡ true) [ true ↦ up.clients client | false ↦ up.clients c ];
  replicas = up.replicas;
}
up_after cell (AtReplica server volume entry) up = record {
  clients = up.clients;
  replicas = λ s v. elim ((s == server) && (v == volume)) as (λ b. (cond b (grown_actor entry (cell.replicas server volume)) (cell.replicas s v)).up ≡ true) [ true ↦ up.replicas server volume | false ↦ up.replicas s v ];
}

up_grown : (cell : MadeCell) (event : Event) → AreUp cell.acted → AreUp (grown cell event).acted
up_grown cell (VolumeMade volume server) up = up
up_grown cell (ClientMade client blocks) up = up
up_grown cell (Ticked seconds) up = up
up_grown cell (LinkSet client server strength) up = up
up_grown cell (Entered append) up = up_after cell.acted append up
up_grown cell (Posted sent) up = record { clients = up.clients; replicas = up.replicas }
up_grown cell (Lost message) up = record { clients = up.clients; replicas = up.replicas }
up_grown cell (Used client fids) up = up
up_grown cell (Kept client server fid) up = up
up_grown cell (Stale client fids) up = up

pub up_all : (cell : MadeCell) (events : List Event) → AreUp cell.acted → AreUp (grown_all cell events).acted
up_all cell [] up = up
up_all cell (event ∷ events) up = up_all (grown cell event) events (up_grown cell event up)

pub deeds_both : (volume : ℕ) (first rest : List ClientEntry) → deeds_of volume (first ++ rest) ≡ deeds_of volume first ++ deeds_of volume rest
deeds_both volume [] rest = refl
deeds_both volume (entry ∷ first) rest = ap (λ l. deed_on volume entry ++ l) (deeds_both volume first rest) ∙ sym (append_assoc (deed_on volume entry) (deeds_of volume first) (deeds_of volume rest))

made_more_all : (volume : ℕ) (deeds more : List Deed) (fid : Fid) → IsMade volume deeds fid → IsMade volume (deeds ++ more) fid
made_more_all volume deeds [] fid made = subst (λ ds. IsMade volume ds fid) (sym (append-nil deeds)) made
made_more_all volume deeds (deed ∷ more) fid made = subst (λ ds. IsMade volume ds fid) (append_assoc deeds (deed ∷ []) more) (made_more_all volume (deeds ++ deed ∷ []) more fid (made_more volume deeds deed fid made))

pub made_stays : (moves : List Move) (old new : PlainCell) → Moved old moves new → (client volume : ℕ) (fid : Fid) → IsMade volume (done_on old client volume) fid → IsMade volume (done_on new client volume) fid
made_stays moves old new moved client volume fid made =
    let begins : BeginsWith (new.clients client).history (old.clients client).history = clients_run moves old new moved client in
    subst (λ ds. IsMade volume ds fid) (sym (ap (deeds_of volume) begins.1 ∙ deeds_both volume (old.clients client).history begins.0))
    (made_more_all volume (done_on old client volume) (deeds_of volume begins.0) fid made)

-- a cell in which one client has these entries more
pub record HasMore (old new : MadeCell) (number : ℕ) (entries : List ClientEntry) : Type 0 where
  pub here : (new.acted.clients number).history ≡ (old.acted.clients number).history ++ entries
  pub others : (c : ℕ) → c ≢ number → new.acted.clients c ≡ old.acted.clients c
  pub replicas : new.acted.replicas ≡ old.acted.replicas
  pub sizes : new.sizes ≡ old.sizes
  pub homes : new.homes ≡ old.homes
  pub waiting : new.waiting ≡ old.waiting
  pub pool : new.acted.pool ≡ old.acted.pool
  pub posted : new.acted.posted ≡ old.acted.posted

other_client : (cell : PlainCell) (number c : ℕ) (next : Actor ClientEntry) → c ≢ number → (with_client cell number next).clients c ≡ cell.clients c
other_client cell number c next other = elim (cases_Bool (c == number)) [
  | inl same ↦ absurd (other (eqb-true c number same))
  | inr e ↦ ap (λ b. cond b next (cell.clients c)) e
]

one_more : (cell : MadeCell) (number : ℕ) (entry : ClientEntry) → HasMore cell (grown cell (at_client number entry)) number (entry ∷ [])
one_more cell number entry = record {
  here = ap (λ b. (cond b (grown_actor entry (cell.acted.clients number)) (cell.acted.clients number)).history) (eq-eqb number number refl);
  others = λ c other. other_client cell.acted number c (grown_actor entry (cell.acted.clients number)) other;
  replicas = refl;
  sizes = refl;
  homes = refl;
  waiting = refl;
  pool = refl;
  posted = refl;
}

pub has_more : (cell : MadeCell) (number : ℕ) (entries : List ClientEntry) → HasMore cell (grown_all cell (map (at_client number) entries)) number entries
has_more cell number [] = record { here = sym (append-nil (cell.acted.clients number).history); others = λ c other. refl; replicas = refl; sizes = refl; homes = refl; waiting = refl; pool = refl; posted = refl }
has_more cell number (entry ∷ entries) =
    let one = one_more cell number entry in
    let rest = has_more (grown cell (at_client number entry)) number entries in
    record {
      here = rest.here ∙ ap (λ h. h ++ entries) one.here ∙ append_assoc (cell.acted.clients number).history (entry ∷ []) entries;
      others = λ c other. rest.others c other ∙ one.others c other;
      replicas = rest.replicas;
      sizes = rest.sizes;
      homes = rest.homes;
      waiting = rest.waiting;
      pool = rest.pool;
      posted = rest.posted;
    }

pub shown_more : (cell : MadeCell) (number : ℕ) (entries : List ClientEntry) → state_of (grown_all cell (map (at_client number) entries)) ≡ after_all (state_of cell) (map (at_client number) entries)
shown_more cell number [] = refl
shown_more cell number (entry ∷ entries) = shown_more (grown cell (at_client number entry)) number entries ∙ ap (λ s. after_all s (map (at_client number) entries)) (client_grown cell number entry)

-- what clients did, where one has more entries
module _ (old new : MadeCell) (number : ℕ) (entries : List ClientEntry) (more : HasMore old new number entries) where
  pub done_here : (volume : ℕ) → done_on new.acted number volume ≡ done_on old.acted number volume ++ deeds_of volume entries
  done_here volume = ap (deeds_of volume) more.here ∙ deeds_both volume (old.acted.clients number).history entries

  pub done_elsewhere : (client volume : ℕ) → client ≢ number → done_on new.acted client volume ≡ done_on old.acted client volume
  done_elsewhere client volume other = ap (λ (a : Actor ClientEntry). deeds_of volume a.history) (more.others client other)

  -- where the entries are no deeds on the volume
  pub done_same : (client volume : ℕ) → deeds_of volume entries ≡ [] → done_on new.acted client volume ≡ done_on old.acted client volume
  done_same client volume none = elim (cases_Bool (client == number)) [
    | inl e ↦ (let same = eqb-true client number e in
        subst (λ c. done_on new.acted c volume ≡ done_on old.acted c volume) (sym same) (done_here volume ∙ ap (λ l. done_on old.acted number volume ++ l) none ∙ append-nil (done_on old.acted number volume)))
    | inr e ↦ done_elsewhere client volume (λ same. false≢true (sym e ∙ eq-eqb client number same))
  ]
