-- However the events of a line end, the cell behind them is kept.
use Rattle.std.proofs.Common.{◌≡◌, ℕ, ◌+◌, ◌==◌, Bool, true, false, cond, List, [], ◌∷◌, ◌++◌, length, append_assoc, append-nil, Option, Some, None, refl, sym, ap, ◌∙◌, subst, inl, inr, ◌⊎◌}
use Rattle.coda_actors.specs.Laws.{IsAtRest}
use Rattle.coda_actors.specs.Plain.{PlainDisk, PlainActor, Life, Unmade, Down, Up}
use Rattle.coda_fid.specs.declared.fid.Fid.{Fid}
use Rattle.coda_journal.specs.declared.header.Header.{Header}
use Rattle.coda_letters.specs.Sent.{Waiting, without}
use Rattle.coda_script.specs.declared.line.Strength.{Strength}
use Rattle.coda_plain.specs.Cell.{ClientEntry, Letter, Joins}
use Rattle.coda_plain.specs.Decisions.{ReplicaEntry}
use Rattle.coda_plain.specs.Deeds.{Settlement}
use Rattle.coda_plain.specs.Histories.{In}
use Rattle.coda_plain.specs.Logs.{BeginsWith}
use Rattle.coda_plain.specs.Moves.{Append, AtClient, AtReplica}
use Rattle.coda_plain.proofs.Lists.{in_parts}
use Rattle.coda_cell.specs.State.{Event, VolumeMade, ClientMade, Ticked, LinkSet, Entered, Posted, Lost, Used, Kept, Stale, put, later, linked, but_of, with_copy, cut_by, used_then}
use Rattle.coda_cell.specs.Made.{Copy, plain_letter, grown as grown_cell, grown_all}
use Rattle.coda_cell.specs.Steps.{alone}
use Rattle.coda_matching.specs.Replicas.{IsDecision}
use Rattle.coda_shelves.proofs.Entering.{IsBy, AreBy}
use Rattle.coda_shelves.specs.Shelves.{entries_on, volume_of}
use Rattle.coda_shelves.specs.Cells.{Cell, asked, is_up, Stand, stand_of, with_client, with_replica, with_volume, grown, fallen, failing, failed, entries_at, after, after_all}
use Rattle.coda_shelves.specs.Running.{made_now, IsKept}
use Rattle.coda_shelves.proofs.Mounting.{at_put, at_place}
use Rattle.coda_shelves.proofs.Rows.{stand_one}
use Rattle.coda_shelves.proofs.Taken.{rested}
use Rattle.coda_shelves.proofs.Whole.{whole_client, client_kept_as, now, now_here, whole_replica, replica_kept_as}
use Rattle.coda_shelves.proofs.Wholly.{Grew, IsNow, HasGrown}

-- ---- who is up

abbrev pub UpClient : Cell → ℕ → Type 0
UpClient cell client = is_up (cell.clients client).life ≡ true

abbrev pub UpReplica : Cell → ℕ → ℕ → Type 0
UpReplica cell server volume = (at : Stand) × (stand_of cell volume ≡ Some at) × (server ≡ alone at.servers) × (is_up (cell.replicas at.row server).life ≡ true)

pub up_under : (life : Life) → is_up life ≡ true → (header : Header) × (life ≡ Up header)
up_under Unmade e = cc
up_under (Down header) e = cc
up_under (Up header) e = (header, refl)

-- what is the same of all cells whose invariants are those between two lines
pub record AreClean (cell : Cell) : Type 0 where
  pub clients_rest : (client : ℕ) → IsAtRest (cell.clients client)
  pub replicas_rest : (row server : ℕ) → IsAtRest (cell.replicas row server)
  pub clients_left : (client : ℕ) → (cell.clients client).life ≡ Unmade → (cell.clients client).left ≡ None
  pub replicas_left : (row server : ℕ) → (cell.replicas row server).life ≡ Unmade → (cell.replicas row server).left ≡ None
  pub placed : (row server : ℕ) (header : Header) → asked (cell.replicas row server).life ≡ Some header → (servers : List ℕ) × (stand_of cell header.number ≡ Some (record { row = row; servers = servers }))
  pub alone : (row server : ℕ) (entry : ReplicaEntry) → In entry (entries_on true (cell.replicas row server).disk) → IsDecision entry

pub clean_in : (cell : Cell) → IsKept cell → AreClean cell
clean_in cell kept = record {
  clients_rest = kept.clients_rest;
  replicas_rest = kept.replicas_rest;
  clients_left = kept.clients_left;
  replicas_left = kept.replicas_left;
  placed = λ row server header e. (kept.replicas_ask row server header e).1;
  alone = kept.shelves.alone;
}

-- ---- one actor more or less

fallen_asks : (life : Life) → asked (fallen life) ≡ asked life
fallen_asks Unmade = refl
fallen_asks (Down header) = refl
fallen_asks (Up header) = refl

fallen_rests : (life : Life) (header : Header) → fallen life ≡ Up header → ⊥
fallen_rests Unmade header e = cc
fallen_rests (Down other) header e = cc
fallen_rests (Up other) header e = cc

fallen_unmade : (life : Life) → fallen life ≡ Unmade → life ≡ Unmade
fallen_unmade Unmade e = refl
fallen_unmade (Down other) e = cc
fallen_unmade (Up other) e = cc

module _ {E : Type 0} where
  same_begins : (l : List E) → BeginsWith l l
  same_begins l = ([], sym (append-nil l))

  pub grew_same : (disk : PlainDisk E) → Grew disk disk
  grew_same disk = record { header = refl; begins = λ b. same_begins (entries_on b disk) }

  more_begins : (xs ys zs : List E) → BeginsWith ys xs → BeginsWith zs ys → BeginsWith zs xs
  more_begins xs ys zs a b = (a.0 ++ b.0, b.1 ∙ ap (λ l. l ++ b.0) a.1 ∙ append_assoc xs a.0 b.0)

  grew_both : (a b c : PlainDisk E) → Grew a b → Grew b c → Grew a c
  grew_both a b c p q = record { header = q.header ∙ p.header; begins = λ j. more_begins (entries_on j a) (entries_on j b) (entries_on j c) (p.begins j) (q.begins j) }

  grown_found : (b : Bool) (entry : E) (actor : PlainActor E) → actor.disk.failed ≡ None → entries_on b (grown entry actor).disk ≡ entries_on b actor.disk ++ entry ∷ []
  grown_found b entry actor none = rested b (grown entry actor).disk none ∙ ap (λ l. l ++ entry ∷ []) (sym (rested b actor.disk none))

  -- an append that failed may be there
  failing_found : (b : Bool) (entry : E) (actor : PlainActor E) → actor.disk.failed ≡ None → (entries_on b (failing entry actor).disk ≡ entries_on b actor.disk ++ entry ∷ []) ⊎ (entries_on b (failing entry actor).disk ≡ entries_on b actor.disk)
  failing_found true entry actor none = inl (ap (λ l. l ++ entry ∷ []) (sym (rested true actor.disk none)))
  failing_found false entry actor none = inr refl

  grew_grown : (entry : E) (actor : PlainActor E) → actor.disk.failed ≡ None → Grew actor.disk (grown entry actor).disk
  grew_grown entry actor none = record { header = refl; begins = λ b. (entry ∷ [], grown_found b entry actor none) }

  grew_failing : (entry : E) (actor : PlainActor E) → actor.disk.failed ≡ None → Grew actor.disk (failing entry actor).disk
  grew_failing entry actor none = record { header = refl; begins = λ b. elim (failing_found b entry actor none) [ inl more ↦ (entry ∷ [], more) | inr same ↦ ([], same ∙ sym (append-nil (entries_on b actor.disk))) ] }

  -- the actor goes on under the header that it asks for
  pub record Goes (old new : PlainActor E) : Type 0 where
    pub grew : Grew old.disk new.disk
    pub rest : IsAtRest new
    pub ask : asked new.life ≡ asked old.life
    pub left : new.life ≡ Unmade → new.left ≡ None
    pub was : (header : Header) × (old.disk.header ≡ Some header)

  pub up_rest : (actor : PlainActor E) → IsAtRest actor → is_up actor.life ≡ true → (actor.disk.failed ≡ None) × ((header : Header) × (actor.life ≡ Up header) × (actor.disk.header ≡ Some header))
  up_rest actor rest up = let under = up_under actor.life up in let r = rest under.0 under.1 in (r.0, (under.0, under.1, r.1))

  goes_grown : (entry : E) (actor : PlainActor E) → IsAtRest actor → (actor.life ≡ Unmade → actor.left ≡ None) → is_up actor.life ≡ true → Goes actor (grown entry actor)
  goes_grown entry actor rest left up = let r = up_rest actor rest up in
      record { grew = grew_grown entry actor r.0; rest = λ h e. rest h e; ask = refl; left = left; was = (r.1.0, r.1.2) }

  goes_failing : (entry : E) (actor : PlainActor E) → IsAtRest actor → (actor.life ≡ Unmade → actor.left ≡ None) → is_up actor.life ≡ true → Goes actor (failing entry actor)
  goes_failing entry actor rest left up = let r = up_rest actor rest up in
      record { grew = grew_failing entry actor r.0; rest = λ h e. absurd (fallen_rests actor.life h e); ask = fallen_asks actor.life; left = λ e. left (fallen_unmade actor.life e); was = (r.1.0, r.1.2) }

-- ---- the cell with it

pub grown_none : (cell : Cell) → AreClean cell → HasGrown cell cell
grown_none cell clean = record {
  rows = refl;
  clients = λ client. grew_same (cell.clients client).disk;
  replicas = λ row server. grew_same (cell.replicas row server).disk;
  others = λ row server. inl refl;
  clients_rest = clean.clients_rest;
  replicas_rest = clean.replicas_rest;
  clients_ask = λ client. refl;
  replicas_ask = λ row server. refl;
  clients_left = clean.clients_left;
  replicas_left = clean.replicas_left;
  alone = clean.alone;
  clients_were = λ client. inl refl;
  replicas_were = λ row server. inl refl;
}

grown_client : (cell : Cell) (client : ℕ) (actor : PlainActor ClientEntry) → AreClean cell → Goes (cell.clients client) actor → HasGrown cell (with_client cell client actor)
grown_client cell client actor clean goes = record {
  rows = refl;
  clients = at_put (λ c a. Grew (cell.clients c).disk a.disk) cell.clients client actor goes.grew (λ c. grew_same (cell.clients c).disk);
  replicas = λ row server. grew_same (cell.replicas row server).disk;
  others = λ row server. inl refl;
  clients_rest = at_put (λ c a. IsAtRest a) cell.clients client actor goes.rest clean.clients_rest;
  replicas_rest = clean.replicas_rest;
  clients_ask = at_put (λ c a. asked a.life ≡ asked (cell.clients c).life) cell.clients client actor goes.ask (λ c. refl);
  replicas_ask = λ row server. refl;
  clients_left = at_put (λ c a. a.life ≡ Unmade → a.left ≡ None) cell.clients client actor goes.left clean.clients_left;
  replicas_left = clean.replicas_left;
  alone = clean.alone;
  clients_were = at_put (λ c a. (a.disk ≡ (cell.clients c).disk) ⊎ ((header : Header) × ((cell.clients c).disk.header ≡ Some header))) cell.clients client actor (inr goes.was) (λ c. inl refl);
  replicas_were = λ row server. inl refl;
}

grown_replica : (cell : Cell) (row server : ℕ) (actor : PlainActor ReplicaEntry) → AreClean cell → Goes (cell.replicas row server) actor → IsNow cell row server → ((entry : ReplicaEntry) → In entry (entries_on true actor.disk) → IsDecision entry)
    → HasGrown cell (with_replica cell row server actor)
grown_replica cell row server actor clean goes here alone = record {
  rows = refl;
  clients = λ client. grew_same (cell.clients client).disk;
  replicas = at_place (λ r s a. Grew (cell.replicas r s).disk a.disk) cell.replicas row server actor goes.grew (λ r s. grew_same (cell.replicas r s).disk);
  others = at_place (λ r s a. (a.disk ≡ (cell.replicas r s).disk) ⊎ IsNow cell r s) cell.replicas row server actor (inr here) (λ r s. inl refl);
  clients_rest = clean.clients_rest;
  replicas_rest = at_place (λ r s a. IsAtRest a) cell.replicas row server actor goes.rest clean.replicas_rest;
  clients_ask = λ client. refl;
  replicas_ask = at_place (λ r s a. asked a.life ≡ asked (cell.replicas r s).life) cell.replicas row server actor goes.ask (λ r s. refl);
  clients_left = clean.clients_left;
  replicas_left = at_place (λ r s a. a.life ≡ Unmade → a.left ≡ None) cell.replicas row server actor goes.left clean.replicas_left;
  alone = at_place (λ r s a. (entry : ReplicaEntry) → In entry (entries_on true a.disk) → IsDecision entry) cell.replicas row server actor alone clean.alone;
  clients_were = λ client. inl refl;
  replicas_were = at_place (λ r s a. (a.disk ≡ (cell.replicas r s).disk) ⊎ ((header : Header) × ((cell.replicas r s).disk.header ≡ Some header))) cell.replicas row server actor (inr goes.was) (λ r s. inl refl);
}

pub clean_grown : (old new : Cell) → AreClean old → HasGrown old new → AreClean new
clean_grown old new clean g = record {
  clients_rest = g.clients_rest;
  replicas_rest = g.replicas_rest;
  clients_left = g.clients_left;
  replicas_left = g.replicas_left;
  placed = λ row server header e. let was = clean.placed row server header (sym (g.replicas_ask row server) ∙ e) in (was.0, ap (λ rows. stand_of (record old { rows = rows }) header.number) g.rows ∙ was.1);
  alone = g.alone;
}

now_before : (old mid : Cell) (row server : ℕ) → HasGrown old mid → IsNow mid row server → IsNow old row server
now_before old mid row server g is = record {
  at = is.at;
  stands = ap (λ o. stand_of old (volume_of o)) (sym (g.replicas row server).header) ∙ ap (λ rows. stand_of (record old { rows = rows }) (volume_of (mid.replicas row server).disk.header)) (sym g.rows) ∙ is.stands;
  row_is = is.row_is;
  home = is.home;
}

pub grown_twice : (old mid new : Cell) → HasGrown old mid → HasGrown mid new → HasGrown old new
grown_twice old mid new a b = record {
  rows = b.rows ∙ a.rows;
  clients = λ client. grew_both (old.clients client).disk (mid.clients client).disk (new.clients client).disk (a.clients client) (b.clients client);
  replicas = λ row server. grew_both (old.replicas row server).disk (mid.replicas row server).disk (new.replicas row server).disk (a.replicas row server) (b.replicas row server);
  others = λ row server. elim (b.others row server) [
    | inl same ↦ elim (a.others row server) [ inl was ↦ inl (same ∙ was) | inr here ↦ inr here ]
    | inr here ↦ inr (now_before old mid row server a here)
  ];
  clients_rest = b.clients_rest;
  replicas_rest = b.replicas_rest;
  clients_ask = λ client. b.clients_ask client ∙ a.clients_ask client;
  replicas_ask = λ row server. b.replicas_ask row server ∙ a.replicas_ask row server;
  clients_left = b.clients_left;
  replicas_left = b.replicas_left;
  alone = b.alone;
  clients_were = λ client. elim (b.clients_were client) [
    | inl same ↦ elim (a.clients_were client) [ inl was ↦ inl (same ∙ was) | inr has ↦ inr has ]
    | inr has ↦ inr (has.0, sym (a.clients client).header ∙ has.1)
  ];
  replicas_were = λ row server. elim (b.replicas_were row server) [
    | inl same ↦ elim (a.replicas_were row server) [ inl was ↦ inl (same ∙ was) | inr has ↦ inr has ]
    | inr has ↦ inr (has.0, sym (a.replicas row server).header ∙ has.1)
  ];
}

-- ---- one event

abbrev pub pool_step : ℕ → (ℕ → Option Letter) → Event → ℕ → Option Letter
pool_step posted pool (Posted sent) = λ m. cond (m == posted + 1) (Some (plain_letter sent)) (pool m)
pool_step posted pool (Lost message) = λ m. cond (m == message) None (pool m)
pool_step posted pool (VolumeMade v s) = pool
pool_step posted pool (ClientMade c b) = pool
pool_step posted pool (Ticked seconds) = pool
pool_step posted pool (LinkSet c s strength) = pool
pool_step posted pool (Entered append) = pool
pool_step posted pool (Used client fids) = pool
pool_step posted pool (Kept client server fid) = pool
pool_step posted pool (Stale client fids) = pool

abbrev pub pool_after : Cell → (ℕ → Option Letter) → List Event → ℕ → Option Letter
pool_after cell pool [] = pool
pool_after cell pool (event ∷ events) = pool_after (after cell event) (pool_step cell.posted pool event) events

-- what an event makes of a cell
pub record IsStep (cell : Cell) (pool : ℕ → Option Letter) (event : Event) (next : Cell) : Type 0 where
  pub grown : HasGrown cell next
  pub whole : (joins : Joins) (l : ℕ → ℕ → List Settlement) → made_now next joins (pool_step cell.posted pool event) l ≡ grown_cell (made_now cell joins pool l) event
  pub clients_life : (client : ℕ) → (next.clients client).life ≡ (cell.clients client).life
  pub replicas_life : (row server : ℕ) → (next.replicas row server).life ≡ (cell.replicas row server).life

module _ (cell : Cell) (clean : AreClean cell) (pool : ℕ → Option Letter) where
  client_step : (client : ℕ) (entry : ClientEntry) → UpClient cell client → IsStep cell pool (Entered (AtClient client entry)) (with_client cell client (grown entry (cell.clients client)))
  client_step client entry up =
      let actor = cell.clients client in
      let r = up_rest actor (clean.clients_rest client) up in
      record {
        grown = grown_client cell client (grown entry actor) clean (goes_grown entry actor (clean.clients_rest client) (clean.clients_left client) up);
        whole = λ joins l. whole_client cell joins pool l client (grown entry actor) (entries_on (joins.clients client) actor.disk ++ entry ∷ []) (grown_found (joins.clients client) entry actor r.0) refl refl;
        clients_life = at_put (λ c a. a.life ≡ (cell.clients c).life) cell.clients client (grown entry actor) refl (λ c. refl);
        replicas_life = λ row server. refl;
      }

  -- a replica that is up stands on its own disk
  pub named_up : (server volume : ℕ) (up : UpReplica cell server volume) → volume_of (cell.replicas up.0.row server).disk.header ≡ volume
  named_up server volume (at, stands, home, up) =
      let r = up_rest (cell.replicas at.row server) (clean.replicas_rest at.row server) up in
      let there = clean.placed at.row server r.1.0 (ap asked r.1.1) in
      ap volume_of r.1.2 ∙ stand_one 0 cell.rows r.1.0.number volume (record { row = at.row; servers = there.0 }) at there.1 stands refl

  now_up : (server volume : ℕ) (up : UpReplica cell server volume) → IsNow cell up.0.row server
  now_up server volume up = record { at = up.0; stands = ap (stand_of cell) (named_up server volume up) ∙ up.1; row_is = refl; home = up.2 }

  replica_step : (server volume : ℕ) (entry : ReplicaEntry) (up : UpReplica cell server volume) → IsDecision entry → IsStep cell pool (Entered (AtReplica server volume entry)) (with_replica cell up.0.row server (grown entry (cell.replicas up.0.row server)))
  replica_step server volume entry up decides =
      let at = up.0 in
      let actor = cell.replicas at.row server in
      let r = up_rest actor (clean.replicas_rest at.row server) up.3 in
      record {
        grown = grown_replica cell at.row server (grown entry actor) clean (goes_grown entry actor (clean.replicas_rest at.row server) (clean.replicas_left at.row server) up.3) (now_up server volume up)
            (λ x i. elim (in_parts x (entries_on true actor.disk) (entry ∷ []) (subst (In x) (grown_found true entry actor r.0) i)) [ inl old ↦ clean.alone at.row server x old | inr (inl e) ↦ subst IsDecision (sym e) decides | inr (inr none) ↦ absurd none ]);
        whole = λ joins l.
            let here = now_here cell joins pool l server volume at up.1 up.2 (named_up server volume up) in
            whole_replica cell joins pool l server volume at up.1 up.2 (named_up server volume up) (grown entry actor) (now cell joins pool l server volume ++ entry ∷ [])
            (grown_found (joins.replicas at.row server) entry actor r.0 ∙ ap (λ es. es ++ entry ∷ []) (sym here)) refl;
        clients_life = λ client. refl;
        replicas_life = at_place (λ r s a. a.life ≡ (cell.replicas r s).life) cell.replicas at.row server (grown entry actor) refl (λ r s. refl);
      }

  -- nothing of its actors changed
  beside : (event : Event) (clock posted : ℕ) (links : ℕ → ℕ → Strength) (waiting : Waiting) (copies : ℕ → Fid → Option Copy) (uses : ℕ → List Fid)
      → ((joins : Joins) (l : ℕ → ℕ → List Settlement) → made_now (record cell { clock = clock; links = links; waiting = waiting; posted = posted; copies = copies; uses = uses }) joins (pool_step cell.posted pool event) l ≡ grown_cell (made_now cell joins pool l) event)
      → IsStep cell pool event (record cell { clock = clock; links = links; waiting = waiting; posted = posted; copies = copies; uses = uses })
  beside event clock posted links waiting copies uses whole =
      let g = grown_none cell clean in
      record {
        grown = record {
          rows = refl;
          clients = g.clients;
          replicas = g.replicas;
          others = g.others;
          clients_rest = g.clients_rest;
          replicas_rest = g.replicas_rest;
          clients_ask = g.clients_ask;
          replicas_ask = g.replicas_ask;
          clients_left = g.clients_left;
          replicas_left = g.replicas_left;
          alone = g.alone;
          clients_were = g.clients_were;
          replicas_were = g.replicas_were;
        };
        whole = whole;
        clients_life = λ client. refl;
        replicas_life = λ row server. refl;
      }

  -- how many entries stand at a replica that is up, and are found of it
  given_by : (joins : Joins) (l : ℕ → ℕ → List Settlement) (server volume : ℕ) → UpReplica cell server volume → entries_at cell (stand_of cell volume) server ≡ length (now cell joins pool l server volume)
  given_by joins l server volume up =
      let r = up_rest (cell.replicas up.0.row server) (clean.replicas_rest up.0.row server) up.3 in
      ap (λ o. entries_at cell o server) up.1
      ∙ ap length (sym (now_here cell joins pool l server volume up.0 up.1 up.2 (named_up server volume up) ∙ rested (joins.replicas up.0.row server) (cell.replicas up.0.row server).disk r.0))

  pub one_step : (event : Event) → IsBy (UpClient cell) (UpReplica cell) event → IsStep cell pool event (after cell event)
  one_step (VolumeMade v s) by = absurd by
  one_step (ClientMade c b) by = absurd by
  one_step (Ticked seconds) by = beside (Ticked seconds) (later cell.clock seconds) cell.posted cell.links cell.waiting cell.copies cell.uses (λ joins l. refl)
  one_step (LinkSet c s strength) by =
      beside (LinkSet c s strength) cell.clock cell.posted (linked cell.links c s strength) cell.waiting (cut_by (λ (copy : Copy). copy.server) strength cell.copies c s) cell.uses (λ joins l. refl)
  one_step (Entered (AtClient client entry)) by = client_step client entry by
  one_step (Entered (AtReplica server volume entry)) by =
      subst (IsStep cell pool (Entered (AtReplica server volume entry))) (ap (λ o. with_volume cell o server (grown entry)) (sym by.0.1)) (replica_step server volume entry by.0 by.1)
  one_step (Posted sent) by = beside (Posted sent) cell.clock (cell.posted + 1) cell.links (cell.waiting ++ (cell.posted + 1, sent) ∷ []) cell.copies cell.uses (λ joins l. refl)
  one_step (Lost message) by = beside (Lost message) cell.clock cell.posted cell.links (without message cell.waiting) cell.copies cell.uses (λ joins l. refl)
  one_step (Used client fids) by = beside (Used client fids) cell.clock cell.posted cell.links cell.waiting cell.copies (put cell.uses client (used_then (cell.uses client) fids)) (λ joins l. refl)
  one_step (Kept client server fid) by =
      beside (Kept client server fid) cell.clock cell.posted cell.links cell.waiting (with_copy cell.copies client fid (record { server = server; position = entries_at cell (stand_of cell fid.volume) server })) cell.uses
      (λ joins l. let same = given_by joins l server fid.volume by in λ i. record (made_now cell joins pool l) { copies = with_copy cell.copies client fid (record { server = server; position = same i }) })
  one_step (Stale client fids) by = beside (Stale client fids) cell.clock cell.posted cell.links cell.waiting (but_of cell.copies client fids) cell.uses (λ joins l. refl)

-- ---- events in order

by_more : (C D : ℕ → Type 0) (R S : ℕ → ℕ → Type 0) → ((client : ℕ) → C client → D client) → ((server volume : ℕ) → R server volume → S server volume) → (events : List Event) → AreBy C R events → AreBy D S events
by_more C D R S f g [] are = tt
by_more C D R S f g (VolumeMade volume server ∷ events) are = absurd are.0
by_more C D R S f g (ClientMade client blocks ∷ events) are = absurd are.0
by_more C D R S f g (Ticked seconds ∷ events) are = (tt, by_more C D R S f g events are.1)
by_more C D R S f g (LinkSet client server strength ∷ events) are = (tt, by_more C D R S f g events are.1)
by_more C D R S f g (Entered (AtClient client entry) ∷ events) are = (f client are.0, by_more C D R S f g events are.1)
by_more C D R S f g (Entered (AtReplica server volume entry) ∷ events) are = ((g server volume are.0.0, are.0.1), by_more C D R S f g events are.1)
by_more C D R S f g (Posted sent ∷ events) are = (tt, by_more C D R S f g events are.1)
by_more C D R S f g (Lost message ∷ events) are = (tt, by_more C D R S f g events are.1)
by_more C D R S f g (Used client fids ∷ events) are = (tt, by_more C D R S f g events are.1)
by_more C D R S f g (Kept client server fid ∷ events) are = (g server fid.volume are.0, by_more C D R S f g events are.1)
by_more C D R S f g (Stale client fids ∷ events) are = (tt, by_more C D R S f g events are.1)

pub by_step : (cell next : Cell) (pool : ℕ → Option Letter) (event : Event) → IsStep cell pool event next → (events : List Event) → AreBy (UpClient cell) (UpReplica cell) events → AreBy (UpClient next) (UpReplica next) events
by_step cell next pool event step events are =
    by_more (UpClient cell) (UpClient next) (UpReplica cell) (UpReplica next)
    (λ client up. ap is_up (step.clients_life client) ∙ up)
    (λ server volume up. (up.0, ap (λ rows. stand_of (record cell { rows = rows }) volume) step.grown.rows ∙ up.1, up.2, ap is_up (step.replicas_life up.0.row server) ∙ up.3)) events are

-- a cell behind events
pub record IsBehind (old : Cell) (pool : ℕ → Option Letter) (events : List Event) : Type 0 where
  pub grown : HasGrown old (after_all old events)
  pub whole : (joins : Joins) (l : ℕ → ℕ → List Settlement) → made_now (after_all old events) joins (pool_after old pool events) l ≡ grown_all (made_now old joins pool l) events
  pub ups : (next : Event) → IsBy (UpClient old) (UpReplica old) next → IsBy (UpClient (after_all old events)) (UpReplica (after_all old events)) next

pub behind_all : (cell : Cell) (pool : ℕ → Option Letter) (events : List Event) → AreClean cell → AreBy (UpClient cell) (UpReplica cell) events → IsBehind cell pool events
behind_all cell pool [] clean are = record { grown = grown_none cell clean; whole = λ joins l. refl; ups = λ next by. by }
behind_all cell pool (event ∷ events) clean are =
    let step = one_step cell clean pool event are.0 in
    let next = after cell event in
    let rest = behind_all next (pool_step cell.posted pool event) events (clean_grown cell next clean step.grown) (by_step cell next pool event step events are.1) in
    record {
      grown = grown_twice cell next (after_all next events) step.grown rest.grown;
      whole = λ joins l. rest.whole joins l ∙ ap (λ c. grown_all c events) (step.whole joins l);
      ups = λ e by. rest.ups e (by_step cell next pool event step (e ∷ []) (by, tt)).0;
    }

-- ---- a failed append

pub record IsFailed (cell : Cell) (pool : ℕ → Option Letter) (append : Append) (next : Cell) : Type 0 where
  pub grown : HasGrown cell next
  pub whole : (joins : Joins) (l : ℕ → ℕ → List Settlement) → (made_now next joins pool l ≡ grown_cell (made_now cell joins pool l) (Entered append)) ⊎ (made_now next joins pool l ≡ made_now cell joins pool l)

module _ (cell : Cell) (clean : AreClean cell) (pool : ℕ → Option Letter) where
  client_failed : (client : ℕ) (entry : ClientEntry) → UpClient cell client → IsFailed cell pool (AtClient client entry) (with_client cell client (failing entry (cell.clients client)))
  client_failed client entry up =
      let actor = cell.clients client in
      let r = up_rest actor (clean.clients_rest client) up in
      record {
        grown = grown_client cell client (failing entry actor) clean (goes_failing entry actor (clean.clients_rest client) (clean.clients_left client) up);
        whole = λ joins l. elim (failing_found (joins.clients client) entry actor r.0) [
          | inl more ↦ inl (whole_client cell joins pool l client (failing entry actor) (entries_on (joins.clients client) actor.disk ++ entry ∷ []) more refl (fallen_asks actor.life))
          | inr same ↦ inr (whole_client cell joins pool l client (failing entry actor) (entries_on (joins.clients client) actor.disk) same refl (fallen_asks actor.life)
              ∙ (λ i. record (made_now cell joins pool l) { acted = client_kept_as cell joins pool l client i }))
        ];
      }

  replica_failed : (server volume : ℕ) (entry : ReplicaEntry) (up : UpReplica cell server volume) → IsDecision entry → IsFailed cell pool (AtReplica server volume entry) (with_replica cell up.0.row server (failing entry (cell.replicas up.0.row server)))
  replica_failed server volume entry up decides =
      let at = up.0 in
      let actor = cell.replicas at.row server in
      let r = up_rest actor (clean.replicas_rest at.row server) up.3 in
      let named = named_up cell clean pool server volume up in
      record {
        grown = grown_replica cell at.row server (failing entry actor) clean (goes_failing entry actor (clean.replicas_rest at.row server) (clean.replicas_left at.row server) up.3) (now_up cell clean pool server volume up)
            (λ x i. elim (in_parts x (entries_on true actor.disk) (entry ∷ []) (subst (λ es. In x (es ++ entry ∷ [])) (sym (rested true actor.disk r.0)) i)) [ inl old ↦ clean.alone at.row server x old | inr (inl e) ↦ subst IsDecision (sym e) decides | inr (inr none) ↦ absurd none ]);
        whole = λ joins l.
            let here = now_here cell joins pool l server volume at up.1 up.2 named in
            elim (failing_found (joins.replicas at.row server) entry actor r.0) [
              | inl more ↦ inl (whole_replica cell joins pool l server volume at up.1 up.2 named (failing entry actor) (now cell joins pool l server volume ++ entry ∷ []) (more ∙ ap (λ es. es ++ entry ∷ []) (sym here)) refl)
              | inr same ↦ inr (whole_replica cell joins pool l server volume at up.1 up.2 named (failing entry actor) (now cell joins pool l server volume) (same ∙ sym here) refl
                  ∙ (λ i. record (made_now cell joins pool l) { acted = replica_kept_as cell joins pool l server volume i }))
            ];
      }

  pub one_failed : (append : Append) → IsBy (UpClient cell) (UpReplica cell) (Entered append) → IsFailed cell pool append (failed cell append)
  one_failed (AtClient client entry) by = client_failed client entry by
  one_failed (AtReplica server volume entry) by =
      subst (IsFailed cell pool (AtReplica server volume entry)) (ap (λ o. with_volume cell o server (failing entry)) (sym by.0.1)) (replica_failed server volume entry by.0 by.1)
