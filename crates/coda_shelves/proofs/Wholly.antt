-- A cell is kept where the cells are that would be found, whichever of the failed entries join.
use Rattle.std.proofs.Common.{◌≡◌, ◌≢◌, ℕ, ◌==◌, ◌&&◌, Bool, true, false, cond, List, [], Option, Some, None, option_map, refl, sym, ap, ◌∙◌, subst, inl, inr, ◌⊎◌, arith}
use Rattle.std.proofs.lemmas.Bool.{ne_eqb}
use Rattle.coda_actors.specs.Laws.{IsAtRest}
use Rattle.coda_actors.specs.Plain.{PlainDisk, Life, Unmade, Down, Up}
use Rattle.coda_journal.specs.declared.header.Header.{Header}
use Rattle.coda_certify.specs.declared.verdict.Verdict.{Verdict}
use Rattle.coda_plain.specs.Cell.{Letter, Joins, Histories, joined_to, found_in}
use Rattle.coda_plain.specs.Decisions.{ReplicaEntry, decision_at, decisions_of}
use Rattle.coda_plain.specs.Deeds.{Settlement}
use Rattle.coda_plain.specs.Elsewhere.{DoesFit}
use Rattle.coda_plain.specs.Histories.{In}
use Rattle.coda_plain.specs.Logs.{BeginsWith}
use Rattle.coda_plain.specs.Sound.{IsDecided as IsDecidedNow, DoAgree as DoAgreeNow}
use Rattle.coda_plain.proofs.Elsewhere.{told_begins, replicas_stand_elsewhere}
use Rattle.coda_plain.proofs.Soundness.{none_joins}
use Rattle.coda_cell.specs.Kept.{IsHolding}
use Rattle.coda_cell.specs.Made.{MadeCell, client_of}
use Rattle.coda_cell.specs.Runs.{IsKept as IsMadeKept}
use Rattle.coda_cell.specs.Steps.{alone}
use Rattle.coda_cell.proofs.KeptCells.{nothing_holding}
use Rattle.coda_matching.specs.Replicas.{IsDecision}
use Rattle.coda_shelves.specs.Shelves.{entries_on, volume_of, Found, found_on}
use Rattle.coda_shelves.specs.Cells.{Cell, shelves_of, asked, Stand, stand_of}
use Rattle.coda_shelves.specs.Kept.{IsDecided, DoAgree, IsLabelled, IsOfClient, IsOfServer, clients_with}
use Rattle.coda_shelves.specs.Running.{replica_now, size_on, made_now, settled_on, AreLettersSo, IsKept}
use Rattle.coda_shelves.proofs.Mounting.{pooled_same}
use Rattle.coda_shelves.proofs.Whole.{now_by, now_here}

joined_none : {E : Type 0} (b : Bool) (history : List E) → joined_to history b None ≡ history
joined_none true history = refl
joined_none false history = refl

some_once : (a b : ℕ) (o : Option ℕ) → o ≡ Some a → o ≡ Some b → a ≡ b
some_once a b o p q = (let same : Some a ≡ Some b = sym p ∙ q in cc)

abbrev option_map_alone : Option Stand → Option ℕ
option_map_alone o = option_map (λ (at : Stand). alone at.servers) o

-- ---- the cell as it would be found is kept

module _ (cell : Cell) (kept : IsKept cell) (joins : Joins) where
  abbrev pub f : Found
  f = found_on (shelves_of cell) joins

  abbrev pub learned : ℕ → ℕ → List Settlement
  learned = settled_on f

  abbrev whole : MadeCell
  whole = made_now cell joins kept.pool learned

  abbrev pub now : ℕ → ℕ → List ReplicaEntry
  now server volume = replica_now cell joins (stand_of cell volume) server volume

  abbrev pub histories : Histories
  histories = record { clients = f.clients; replicas = now; learned = learned }

  -- what a replica of this run decided fits
  now_fits : (server volume : ℕ) → DoesFit f.clients server volume (now server volume)
  now_fits server volume = now_by cell joins kept.pool learned server volume (DoesFit f.clients server volume) (replicas_stand_elsewhere.nothing f.clients server volume)
      (λ at stands home named. subst (λ v. DoesFit f.clients server v (f.replicas at.row server)) named ((kept.shelves.agree joins).fits at.row server))

  pub agree_now : DoAgreeNow histories kept.pool
  agree_now = let a = kept.shelves.agree joins in record {
    lawful = a.lawful;
    numbered = a.numbered;
    ruled = λ server volume. (now_fits server volume).ruled;
    made = a.made;
    held = λ server volume. (now_fits server volume).held;
    frozen = λ server volume. (now_fits server volume).frozen;
    reached = λ server volume. (now_fits server volume).reached;
    kept = λ server volume client some. let is = (now_fits server volume).kept client some in
        record { server = server; by = is.by; there = is.there; client_is = is.client_is; number_is = is.number_is; verdict_is = is.verdict_is };
    settled = λ client volume s i. inr i;
    sent = (kept.letters joins).sent;
    answered = (kept.letters joins).answered;
  }

  found_again : (again : Joins) → histories ≡ found_in whole.acted again
  found_again again = λ i. record {
    clients = λ client. sym (joined_none (again.clients client) (f.clients client)) i;
    replicas = λ server volume. sym (joined_none (again.replicas server volume) (now server volume)) i;
    learned = learned;
  }

  client_header : (client : ℕ) (header : Header) → (cell.clients client).disk.header ≡ Some header → IsOfClient client header
  client_header client header is = elim (kept.shelves.clients client) [
    | inl none ↦ (let no : None ≡ Some header = sym none.0 ∙ is in cc)
    | inr (other, has, own) ↦ (let same : Some other ≡ Some header = sym has ∙ is in let one : other ≡ header = cc in subst (IsOfClient client) one own)
  ]

  client_blank : (client : ℕ) → (cell.clients client).disk.header ≡ None → f.clients client ≡ []
  client_blank client is = elim (kept.shelves.clients client) [
    | inl none ↦ ap (λ o. joined_to (cell.clients client).disk.history (joins.clients client) o) none.2 ∙ joined_none (joins.clients client) (cell.clients client).disk.history ∙ none.1
    | inr (other, has, own) ↦ (let no : None ≡ Some other = sym is ∙ has in cc)
  ]

  numbered : (client blocks : ℕ) (o : Option Header) (life : Life) → (cell.clients client).disk.header ≡ o → (cell.clients client).life ≡ life → size_on o life ≡ Some blocks → client ≢ 0
  numbered client blocks (Some header) life is lives e zero = (let own = client_header client header is in let one = own.2 in let no : ⊥ = omega (arith, one, zero) in absurd no)
  numbered client blocks None Unmade is lives e zero = cc
  numbered client blocks None (Down header) is lives e zero = (let own = kept.clients_ask client header (ap asked lives) in let one = own.2 in let no : ⊥ = omega (arith, one, zero) in absurd no)
  numbered client blocks None (Up header) is lives e zero = (let own = kept.clients_ask client header (ap asked lives) in let one = own.2 in let no : ⊥ = omega (arith, one, zero) in absurd no)

  unsized : (client : ℕ) (o : Option Header) (life : Life) → (cell.clients client).disk.header ≡ o → size_on o life ≡ None → f.clients client ≡ []
  unsized client (Some header) life is e = cc
  unsized client None life is e = client_blank client is

  homeless : (server volume : ℕ) (o : Option Stand) → option_map_alone o ≢ Some server → replica_now cell joins o server volume ≡ []
  homeless server volume None off = refl
  homeless server volume (Some at) off =
      ap (λ b. cond (b && (volume_of (cell.replicas at.row server).disk.header == volume)) (entries_on (joins.replicas at.row server) (cell.replicas at.row server).disk) []) (ne_eqb server (alone at.servers) (λ e. off (ap Some (sym e))))

  holding_now : (client blocks : ℕ) (o : Option Header) (life : Life) → (cell.clients client).disk.header ≡ o → size_on o life ≡ Some blocks → IsHolding whole.acted (client_of client (f.clients client) blocks)
  holding_now client blocks None life is e = nothing_holding whole.acted client blocks (f.clients client) (client_blank client is)
  holding_now client blocks (Some header) life is e =
      let size : header.cache ≡ blocks = cc in
      let h = kept.shelves.holding joins client header is in
      subst (λ n. IsHolding whole.acted (client_of client (f.clients client) n)) size (record { under = h.under; forest = h.forest; within = h.within; made = h.made; named = h.named; kept = h.kept })

  pub whole_kept : IsMadeKept whole
  whole_kept = record {
    sound = record {
      clients_up = λ client up. refl;
      replicas_up = λ server volume up. refl;
      agree = λ again. subst (λ h. DoAgreeNow h kept.pool) (found_again again) agree_now;
    };
    up = record { clients = λ client. refl; replicas = λ server volume. refl };
    made = record {
      numbered = λ client blocks e. numbered client blocks (cell.clients client).disk.header (cell.clients client).life refl refl e;
      clients = λ client e. unsized client (cell.clients client).disk.header (cell.clients client).life refl e;
      replicas = λ server volume off. homeless server volume (stand_of cell volume) off;
    };
    holding = λ client blocks e. holding_now client blocks (cell.clients client).disk.header (cell.clients client).life refl e;
    letters = (kept.letters joins).letters;
  }

-- ---- and a cell is kept where such cells are

-- a disk that grew
pub record Grew {E : Type 0} (old new : PlainDisk E) : Type 0 where
  pub header : new.header ≡ old.header
  pub begins : (b : Bool) → BeginsWith (entries_on b new) (entries_on b old)

-- the replica of a place is one of this run, on its own disk
pub record IsNow (cell : Cell) (row server : ℕ) : Type 0 where
  pub at : Stand
  pub stands : stand_of cell (volume_of (cell.replicas row server).disk.header) ≡ Some at
  pub row_is : at.row ≡ row
  pub home : server ≡ alone at.servers

-- What a line leaves that adds entries: all disks grew, and those of other runs are as they were.
pub record HasGrown (old new : Cell) : Type 0 where
  pub rows : new.rows ≡ old.rows
  pub clients : (client : ℕ) → Grew (old.clients client).disk (new.clients client).disk
  pub replicas : (row server : ℕ) → Grew (old.replicas row server).disk (new.replicas row server).disk
  pub others : (row server : ℕ) → ((new.replicas row server).disk ≡ (old.replicas row server).disk) ⊎ IsNow old row server
  pub clients_rest : (client : ℕ) → IsAtRest (new.clients client)
  pub replicas_rest : (row server : ℕ) → IsAtRest (new.replicas row server)
  pub clients_ask : (client : ℕ) → asked (new.clients client).life ≡ asked (old.clients client).life
  pub replicas_ask : (row server : ℕ) → asked (new.replicas row server).life ≡ asked (old.replicas row server).life
  pub clients_left : (client : ℕ) → (new.clients client).life ≡ Unmade → (new.clients client).left ≡ None
  pub replicas_left : (row server : ℕ) → (new.replicas row server).life ≡ Unmade → (new.replicas row server).left ≡ None
  pub alone : (row server : ℕ) (entry : ReplicaEntry) → In entry (entries_on true (new.replicas row server).disk) → IsDecision entry
  pub clients_were : (client : ℕ) → ((new.clients client).disk ≡ (old.clients client).disk) ⊎ ((header : Header) × ((old.clients client).disk.header ≡ Some header))
  pub replicas_were : (row server : ℕ) → ((new.replicas row server).disk ≡ (old.replicas row server).disk) ⊎ ((header : Header) × ((old.replicas row server).disk.header ≡ Some header))

module _ (old new : Cell) (kept : IsKept old) (grown : HasGrown old new) (pool : ℕ → Option Letter) (wholes : (joins : Joins) → IsMadeKept (made_now new joins pool (settled_on (found_on (shelves_of old) joins)))) where
  stands_same : (volume : ℕ) → stand_of new volume ≡ stand_of old volume
  stands_same volume = ap (λ rows. stand_of (record new { rows = rows }) volume) grown.rows

  labelled : {E : Type 0} (IsOwn : Header → Type 0) (was now : PlainDisk E) → Grew was now → (now ≡ was) ⊎ ((header : Header) × (was.header ≡ Some header)) → IsLabelled IsOwn was → IsLabelled IsOwn now
  labelled IsOwn was now g (inl same) label = subst (IsLabelled IsOwn) (sym same) label
  labelled IsOwn was now g (inr (header, is)) (inl none) = (let no : None ≡ Some header = sym none.0 ∙ is in cc)
  labelled IsOwn was now g (inr (header, is)) (inr (other, has, own)) = inr (other, g.header ∙ has, own)

  module _ (joins : Joins) where
    abbrev was : Found
    was = found_on (shelves_of old) joins

    abbrev is : Found
    is = found_on (shelves_of new) joins

    a_now : DoAgreeNow (found_in (made_now new joins pool (settled_on was)).acted none_joins) pool
    a_now = (wholes joins).sound.agree none_joins

    volume_same : (row server : ℕ) → is.volumes row server ≡ was.volumes row server
    volume_same row server = ap volume_of (grown.replicas row server).header

    fits_now : (row server : ℕ) → DoesFit is.clients server (is.volumes row server) (is.replicas row server)
    fits_now row server = elim (grown.others row server) [
      | inl same ↦ (
          let old_fit = (kept.shelves.agree joins).fits row server in
          let moved = subst (λ (d : PlainDisk ReplicaEntry). DoesFit was.clients server (volume_of d.header) (entries_on (joins.replicas row server) d)) (sym same) old_fit in
          replicas_stand_elsewhere.stays was.clients is.clients server (is.volumes row server) (is.replicas row server) (λ client. (grown.clients client).begins (joins.clients client)) (λ client volume. a_now.lawful client volume) moved
          )
      | inr here ↦ (
          let volume = is.volumes row server in
          let stands : stand_of new volume ≡ Some here.at = stands_same volume ∙ ap (stand_of old) (volume_same row server) ∙ here.stands in
          let only : (other : ℕ) → other ≢ server → replica_now new joins (stand_of new volume) other volume ≡ [] = (λ other off.
          ap (λ o. replica_now new joins o other volume) stands
          ∙ ap (λ b. cond (b && (volume_of (new.replicas here.at.row other).disk.header == volume)) (entries_on (joins.replicas here.at.row other) (new.replicas here.at.row other).disk) []) (ne_eqb other (alone here.at.servers) (λ e. off (e ∙ sym here.home)))) in
          let fit = replicas_stand_elsewhere.fits (found_in (made_now new joins pool (settled_on was)).acted none_joins) pool server volume a_now only in
          let same : replica_now new joins (stand_of new volume) server volume ≡ entries_on (joins.replicas here.at.row server) (new.replicas here.at.row server).disk
          = now_here new joins pool (settled_on was) server volume here.at stands here.home (ap (λ r. volume_of (new.replicas r server).disk.header) here.row_is) in
          subst (λ r. DoesFit is.clients server volume (entries_on (joins.replicas r server) (new.replicas r server).disk)) here.row_is (subst (DoesFit is.clients server volume) same fit)
          )
    ]

    decided_still : (client volume number : ℕ) (verdict : Verdict) → IsDecided was volume client number verdict → IsDecided is volume client number verdict
    decided_still client volume number verdict d = record {
      row = d.row;
      server = d.server;
      by = d.by;
      there = (
        volume_same d.row d.server ∙ d.there.0,
        (let begins = (grown.replicas d.row d.server).begins (joins.replicas d.row d.server) in
            subst (λ l. In d.by (decisions_of volume l)) (sym begins.1) (told_begins (decision_at volume) (was.replicas d.row d.server) begins.0 d.by d.there.1)),
      );
      client_is = d.client_is;
      number_is = d.number_is;
      verdict_is = d.verdict_is;
    }

    decided_now : (client volume number : ℕ) (verdict : Verdict) → IsDecidedNow (λ server v. replica_now new joins (stand_of new v) server v) volume client number verdict → IsDecided is volume client number verdict
    decided_now client volume number verdict d =
        now_by new joins pool (settled_on was) d.server volume (λ l. In d.by (decisions_of volume l) → IsDecided is volume client number verdict) (λ i. absurd i)
        (λ at stands home named i. record { row = at.row; server = d.server; by = d.by; there = (named, i); client_is = d.client_is; number_is = d.number_is; verdict_is = d.verdict_is }) d.there

    agree_is : DoAgree is
    agree_is = record {
      lawful = a_now.lawful;
      numbered = a_now.numbered;
      made = a_now.made;
      fits = fits_now;
      settled = λ client volume s i. elim (a_now.settled client volume s i) [
        | inl decided ↦ decided_now client volume s.number s.verdict decided
        | inr learned ↦ decided_still client volume s.number s.verdict ((kept.shelves.agree joins).settled client volume s learned)
      ];
    }

    holding_is : (client : ℕ) (header : Header) → (new.clients client).disk.header ≡ Some header → IsHolding (clients_with is) (client_of client (is.clients client) header.cache)
    holding_is client header e =
        let h = (wholes joins).holding client header.cache (ap (λ o. size_on o (new.clients client).life) e) in
        record { under = h.under; forest = h.forest; within = h.within; made = h.made; named = h.named; kept = h.kept }

    letters_is : AreLettersSo new pool joins
    letters_is = record {
      letters = record {
        numbered = (wholes joins).letters.numbered;
        pooled = pooled_same (made_now new joins pool (settled_on was)).acted (made_now new joins pool (settled_on is)).acted refl (λ client. refl) new.waiting (wholes joins).letters.pooled;
      };
      sent = a_now.sent;
      answered = a_now.answered;
    }

  pub grown_kept : IsKept new
  grown_kept = record {
    shelves = record {
      clients = λ client. labelled (IsOfClient client) (old.clients client).disk (new.clients client).disk (grown.clients client) (grown.clients_were client) (kept.shelves.clients client);
      replicas = λ row server. labelled (IsOfServer server) (old.replicas row server).disk (new.replicas row server).disk (grown.replicas row server) (grown.replicas_were row server) (kept.shelves.replicas row server);
      agree = agree_is;
      holding = holding_is;
      alone = grown.alone;
    };
    clients_rest = grown.clients_rest;
    replicas_rest = grown.replicas_rest;
    clients_ask = λ client header e. kept.clients_ask client header (sym (grown.clients_ask client) ∙ e);
    replicas_ask = λ row server header e. let a = kept.replicas_ask row server header (sym (grown.replicas_ask row server) ∙ e) in (a.0, (a.1.0, stands_same header.number ∙ a.1.1));
    clients_left = grown.clients_left;
    replicas_left = grown.replicas_left;
    pool = pool;
    letters = letters_is;
  }
