-- What may happen keeps a cell sound.
use Rattle.std.proofs.Common.{◌≡◌, ℕ, ◌+◌, ◌<◌, ◌==◌, ◌&&◌, Bool, true, false, cond, List, [], ◌∷◌, ◌++◌, Option, Some, None, is_some, refl, sym, ap, ◌∙◌, subst, inl, inr, arith}
use Rattle.std.proofs.lemmas.Bool.{eqb-true, cases_Bool, and_parts, false≢true}
use Rattle.coda_fid.specs.declared.fid.Fid.{Fid}
use Rattle.coda_fid.specs.declared.op.Record.{Record}
use Rattle.std.specs.FinMap as map
use Rattle.coda_fid.specs.Fid.{root_of, fid_cmp}
use Rattle.coda_fid.proofs.Fids.{fids_total, exact_fids}
use Rattle.coda_tree.specs.Volume.{has, fresh, fresh_root}
use Rattle.coda_tree.proofs.Order.{fid_cases, get_else}
use Rattle.coda_certify.specs.declared.verdict.Verdict.{Verdict}
use Rattle.coda_plain.specs.Histories.{In}
use Rattle.coda_plain.specs.Deeds.{Deed, Operated, Froze, Settled, Gaveup, IsMade, course_of, Chunk, chunk_at, chunks_of, span_of, MayDo, AreLawful}
use Rattle.coda_plain.specs.Decisions.{ReplicaEntry, Decided, Resolved, Last, nodes_of, last_of, MayDecide}
use Rattle.coda_plain.specs.Cell.{ClientEntry, Fetched, Did, Dropping, deeds_of, Ruled, Behind, Old, Letter, ChunkSent, AnswerSent, BreakSent, Actor, PlainCell, empty_cell, joined_to, found, Histories, Joins, found_in}
use Rattle.coda_plain.specs.Moves.{AtClient, AtReplica, TheClient, TheReplica, Move, Does, Fails, Posts, Loses, Crashes, Recovers, with_client, with_replica, grown, fallen, crashed, recovered, after, done_on, IsFrozenFor, IsKeptBy, IsSent, IsToldOf, IsNext, IsBacked, IsGiven, MayEnter, MayAppend, MayPost, May, Moved}
use Rattle.coda_plain.specs.Sound.{deeds_in, HasFrozen, IsDecided, DoAgree, IsSound}
use Rattle.coda_plain.specs.Laws.{MovesKeepSound, RunsAreSound}
use Rattle.coda_plain.proofs.Lists.{told_more}
use Rattle.coda_plain.proofs.Chunking.{numbered}
use Rattle.coda_plain.proofs.Places.{IsGrown, at_grown, deeds_grown, deeds_fetched, deeds_beside, IsBeside, beside}
use Rattle.coda_plain.proofs.AtClients.{IsRuled, IsNamed, made_more, agree_client, agree_same}
use Rattle.coda_plain.proofs.AtReplicas.{IsMet, agree_replica}

-- ---- what is found of one actor

module _ {E : Type 0} where
  -- of one that is up its history is found
  joined_none : (b : Bool) (history : List E) (failed : Option E) → failed ≡ None → joined_to history b failed ≡ history
  joined_none true history None e = refl
  joined_none true history (Some x) e = cc
  joined_none false history failed e = refl

  pub found_up : (b : Bool) (actor : Actor E) → actor.failed ≡ None → found b actor ≡ actor.history
  found_up b actor none = joined_none b actor.history actor.failed none

  pub grown_found : (entry : E) (b : Bool) (actor : Actor E) → actor.failed ≡ None → IsGrown (Unit {0}) entry (found b actor) (found b (grown entry actor))
  grown_found entry b actor none = inr (tt, found_up b (grown entry actor) none ∙ ap (λ (h : List E). h ++ entry ∷ []) (sym (found_up b actor none)))

  pub fallen_found : (entry : E) (b : Bool) (actor : Actor E) → actor.failed ≡ None → IsGrown (Unit {0}) entry (found b actor) (found b (fallen entry actor))
  fallen_found entry true actor none = inr (tt, ap (λ (h : List E). h ++ entry ∷ []) (sym (found_up true actor none)))
  fallen_found entry false actor none = inl refl

  pub recovered_found : (j b : Bool) (actor : Actor E) → found b (recovered j actor) ≡ found j actor
  recovered_found j b actor = found_up b (recovered j actor) refl

-- what a client did stands in what is found of it
found_chunk : (volume : ℕ) (b : Bool) (history : List ClientEntry) (failed : Option ClientEntry) (chunk : Chunk) → In chunk (chunks_of (deeds_of volume history)) → In chunk (chunks_of (deeds_of volume (joined_to history b failed)))
found_chunk volume true history (Some (Fetched fid parent node)) chunk i =
    subst (λ ds. In chunk (chunks_of ds)) (sym (deeds_fetched (Unit {0}) volume fid parent node history (history ++ Fetched fid parent node ∷ []) (inr (tt, refl)))) i
found_chunk volume true history (Some (Did at deed)) chunk i =
    at_grown ((0 ≡ 0) × (volume ≡ at)) deed (deeds_of volume history) (deeds_of volume (history ++ Did at deed ∷ [])) (λ ds. In chunk (chunks_of ds))
    (deeds_grown 0 volume 0 at deed history (history ++ Did at deed ∷ []) (inr (refl, refl))) i (λ here. told_more chunk_at (deeds_of volume history) deed chunk i)
found_chunk volume true history (Some (Dropping gone entry)) chunk i = subst (λ ds. In chunk (chunks_of ds)) (sym (deeds_beside gone volume entry history)) (found_chunk volume true history (Some entry) chunk i)
found_chunk volume true history None chunk i = i
found_chunk volume false history failed chunk i = i

found_made : (volume : ℕ) (b : Bool) (history : List ClientEntry) (failed : Option ClientEntry) (fid : Fid) → IsMade volume (deeds_of volume history) fid → IsMade volume (deeds_of volume (joined_to history b failed)) fid
found_made volume true history (Some (Fetched other parent node)) fid m =
    subst (λ ds. IsMade volume ds fid) (sym (deeds_fetched (Unit {0}) volume other parent node history (history ++ Fetched other parent node ∷ []) (inr (tt, refl)))) m
found_made volume true history (Some (Did at deed)) fid m =
    at_grown ((0 ≡ 0) × (volume ≡ at)) deed (deeds_of volume history) (deeds_of volume (history ++ Did at deed ∷ [])) (λ ds. IsMade volume ds fid)
    (deeds_grown 0 volume 0 at deed history (history ++ Did at deed ∷ []) (inr (refl, refl))) m (λ here. made_more volume (deeds_of volume history) deed fid m)
found_made volume true history (Some (Dropping gone entry)) fid m = subst (λ ds. IsMade volume ds fid) (sym (deeds_beside gone volume entry history)) (found_made volume true history (Some entry) fid m)
found_made volume true history None fid m = m
found_made volume false history failed fid m = m

-- none of the failed entries joins
abbrev pub none_joins : Joins
none_joins = record { clients = λ c. false; replicas = λ s v. false }

-- ---- what letters and actors that are up say

module _ (cell : PlainCell) (sound : IsSound cell) where
  lawful_now : (client volume : ℕ) → AreLawful (done_on cell client volume)
  lawful_now client volume = (sound.agree none_joins).lawful client volume

  way_now : (client server volume number : ℕ) → IsFrozenFor cell client server volume number → (span : List Record) × In (record { number = number; home = server; span = span }) (chunks_of (done_on cell client volume))
  way_now client server volume number is =
      let way = (numbered (done_on cell client volume) (lawful_now client volume)).way is.cut is.frozen in (
        way.0,
        subst (λ n. In (record { number = n; home = server; span = way.0 }) (chunks_of (done_on cell client volume))) (sym is.last)
            (subst (λ s. In (record { number = (course_of (done_on cell client volume)).chunks; home = s; span = way.0 }) (chunks_of (done_on cell client volume))) is.home way.1),
      )

  sent_some : (client server volume number : ℕ) → IsSent cell client server volume number → (span : List Record) × In (record { number = number; home = server; span = span }) (chunks_of (done_on cell client volume))
  sent_some client server volume number (inl letter) = (sound.agree none_joins).sent letter.0 client server volume number letter.1
  sent_some client server volume number (inr is) = way_now client server volume number is

  -- the chunk that is sent was frozen with its span
  sent_now : (joins : Joins) (client server volume number : ℕ) → IsSent cell client server volume number → HasFrozen (found_in cell joins) client volume number server (span_of (done_on cell client volume) number)
  sent_now joins client server volume number is =
      let some = sent_some client server volume number is in
      let own = (numbered (done_on cell client volume) (lawful_now client volume)).own (record { number = number; home = server; span = some.0 }) some.1 in
      found_chunk volume (joins.clients client) (cell.clients client).history (cell.clients client).failed _
      (subst (λ (span : List Record). In (record { number = number; home = server; span = span }) (chunks_of (done_on cell client volume))) (sym own) some.1)

  -- of a replica that is up the history is found
  replica_up : (joins : Joins) (server volume : ℕ) → (cell.replicas server volume).up ≡ true → (found_in cell joins).replicas server volume ≡ (cell.replicas server volume).history
  replica_up joins server volume up = found_up (joins.replicas server volume) (cell.replicas server volume) (sound.replicas_up server volume up)

  client_up : (joins : Joins) (client : ℕ) → (cell.clients client).up ≡ true → (found_in cell joins).clients client ≡ (cell.clients client).history
  client_up joins client up = found_up (joins.clients client) (cell.clients client) (sound.clients_up client up)

  -- a verdict that is kept is that of a decision
  kept_now : (joins : Joins) (client server volume number : ℕ) (verdict : Verdict) → IsKeptBy cell client server volume number verdict → IsDecided (found_in cell joins).replicas volume client number verdict
  kept_now joins client server volume number verdict is =
      let last : last_of volume ((found_in cell joins).replicas server volume) client ≡ record { number = number; verdict = verdict } = ap (λ h. last_of volume h client) (replica_up joins server volume is.up) ∙ is.last in
      subst (λ (l : Last). 0 < l.number → IsDecided (found_in cell joins).replicas volume client l.number l.verdict) last ((sound.agree joins).kept server volume client) is.some

  pub told_now : (joins : Joins) (client volume number : ℕ) (verdict : Verdict) → IsToldOf cell client volume number verdict → IsDecided (found_in cell joins).replicas volume client number verdict
  told_now joins client volume number verdict (server, inl letter) = (sound.agree joins).answered letter.0 server client volume number verdict letter.1
  told_now joins client volume number verdict (server, inr is) = kept_now joins client server volume number verdict is

  pub ruled_now : (joins : Joins) (client volume : ℕ) (deed : Deed) → IsBacked cell client volume deed → IsRuled (found_in cell joins).replicas volume client deed
  ruled_now joins client volume (Operated rec) backed = tt
  ruled_now joins client volume (Froze number home last) backed = tt
  ruled_now joins client volume (Settled number verdict) backed = told_now joins client volume number verdict backed
  ruled_now joins client volume Gaveup backed = tt

  -- what was made in a history is made in what is found of it
  made_found : (joins : Joins) (client volume : ℕ) (fid : Fid) → IsMade volume (done_on cell client volume) fid → IsMade volume (deeds_in (found_in cell joins) client volume) fid
  made_found joins client volume fid made = found_made volume (joins.clients client) (cell.clients client).history (cell.clients client).failed fid made

  named_now : (joins : Joins) (client volume : ℕ) (deed : Deed) → (cell.clients client).up ≡ true → IsBacked cell client volume deed → IsNamed (found_in cell joins) volume client deed
  named_now joins client volume (Operated rec) up backed =
      let found_next : (fid : Fid) → IsNext volume (done_on cell client volume) client rec.op fid → IsNext volume (deeds_in (found_in cell joins) client volume) client rec.op fid =
      λ fid. subst (λ h. IsNext volume (deeds_of volume h) client rec.op fid) (sym (client_up joins client up)) in (
        (λ fid m. elim (backed.known fid m) [ inl next ↦ inl (found_next fid next) | inr made ↦ inr (made_found joins fid.vnode volume fid made) ]),
        (λ fid e. found_next fid (backed.next fid e)),
      )
  named_now joins client volume (Froze number home last) up backed = tt
  named_now joins client volume (Settled number verdict) up backed = tt
  named_now joins client volume Gaveup up backed = tt

  met_now : (joins : Joins) (server volume : ℕ) (entry : ReplicaEntry) → IsGiven cell server volume entry → IsMet (found_in cell joins) server volume entry
  met_now joins server volume (Decided client number span) given =
      subst (λ (ops : List Record). HasFrozen (found_in cell joins) client volume number server ops) (sym given.1) (sent_now joins client server volume number given.0)
  met_now joins server volume (Resolved nodes lasts) given = (
    (λ client. let from = given.0 client in (from.0, from.2 ∙ ap (λ h. last_of volume h client) (sym (replica_up joins from.0 volume from.1)))),
    (λ fid m. let from = given.1 fid m in (from.0, ap (λ h. has (nodes_of volume h) fid) (replica_up joins from.0 volume from.1) ∙ from.2)),
  )

  -- ---- one client, or one replica, as another

  clients_up_with : (client : ℕ) (next : Actor ClientEntry) → (next.up ≡ true → next.failed ≡ None) → (c : ℕ) → ((with_client cell client next).clients c).up ≡ true → ((with_client cell client next).clients c).failed ≡ None
  clients_up_with client next ok c = elim (c == client) as (λ b. (cond b next (cell.clients c)).up ≡ true → (cond b next (cell.clients c)).failed ≡ None) [ true ↦ ok | false ↦ sound.clients_up c ]

  replicas_up_with : (server volume : ℕ) (next : Actor ReplicaEntry) → (next.up ≡ true → next.failed ≡ None) → (s v : ℕ) → ((with_replica cell server volume next).replicas s v).up ≡ true → ((with_replica cell server volume next).replicas s v).failed ≡ None
  replicas_up_with server volume next ok s v =
      elim ((s == server) && (v == volume)) as (λ b. (cond b next (cell.replicas s v)).up ≡ true → (cond b next (cell.replicas s v)).failed ≡ None) [ true ↦ ok | false ↦ sound.replicas_up s v ]

  -- what is found of the clients, with one entry more of one
  pub found_grown : (client : ℕ) (entry : ClientEntry) (next : Actor ClientEntry) (joins : Joins) → ((b : Bool) → IsGrown (Unit {0}) entry (found b (cell.clients client)) (found b next))
      → (c : ℕ) → IsGrown (c ≡ client) entry ((found_in cell joins).clients c) ((found_in (with_client cell client next) joins).clients c)
  found_grown client entry next joins more c = elim (cases_Bool (c == client)) [
    | inl e ↦ (
        let same = eqb-true c client e in
        let is : found (joins.clients c) next ≡ (found_in (with_client cell client next) joins).clients c = ap (λ b. found (joins.clients c) (cond b next (cell.clients c))) (sym e) in
        elim (more (joins.clients c)) [
          | inl old ↦ inl (sym is ∙ old ∙ ap (λ n. found (joins.clients c) (cell.clients n)) (sym same))
          | inr new ↦ inr (same, sym is ∙ new.1 ∙ ap (λ n. found (joins.clients c) (cell.clients n) ++ entry ∷ []) (sym same))
        ])
    | inr e ↦ inl (ap (λ b. found (joins.clients c) (cond b next (cell.clients c))) e)
  ]

  -- the histories agree with one entry more of a client
  agree_entry : (client : ℕ) (entry : ClientEntry) (joins : Joins) (clients : ℕ → List ClientEntry) → ((c : ℕ) → IsGrown (c ≡ client) entry ((found_in cell joins).clients c) (clients c)) → (cell.clients client).up ≡ true → MayEnter cell client entry
      → DoAgree (record (found_in cell joins) { clients = clients }) cell.pool
  agree_entry client (Fetched fid parent node) joins clients grown up may =
      agree_same (found_in cell joins) cell.pool clients (sound.agree joins) (λ c v. deeds_fetched (c ≡ client) v fid parent node ((found_in cell joins).clients c) (clients c) (grown c))
  agree_entry client (Did volume deed) joins clients grown up may =
      agree_client (found_in cell joins) cell.pool (sound.agree joins) clients client volume deed grown
      (subst (λ h. MayDo (deeds_of volume h) deed) (sym (client_up joins client up)) may.0) (ruled_now joins client volume deed may.1) (named_now joins client volume deed up may.1)
  agree_entry client (Dropping gone entry) joins clients grown up may =
      let alone : (c : ℕ) → IsBeside (c ≡ client) entry ((found_in cell joins).clients c) (clients c) = λ c. beside (c ≡ client) gone entry ((found_in cell joins).clients c) (clients c) (grown c) in
      agree_same (record (found_in cell joins) { clients = λ c. (alone c).alone }) cell.pool clients
      (agree_entry client entry joins (λ c. (alone c).alone) (λ c. (alone c).grown) up may) (λ c v. (alone c).same v)

  append_client : (client : ℕ) (entry : ClientEntry) (next : Actor ClientEntry) → (next.up ≡ true → next.failed ≡ None) → ((b : Bool) → IsGrown (Unit {0}) entry (found b (cell.clients client)) (found b next))
      → MayAppend cell (AtClient client entry) → IsSound (with_client cell client next)
  append_client client entry next ok more may = record {
    clients_up = clients_up_with client next ok;
    replicas_up = sound.replicas_up;
    agree = λ joins. agree_entry client entry joins (found_in (with_client cell client next) joins).clients (found_grown client entry next joins more) may.0 may.1;
  }

  append_replica : (server volume : ℕ) (entry : ReplicaEntry) (next : Actor ReplicaEntry) → (next.up ≡ true → next.failed ≡ None) → ((b : Bool) → IsGrown (Unit {0}) entry (found b (cell.replicas server volume)) (found b next))
      → MayAppend cell (AtReplica server volume entry) → IsSound (with_replica cell server volume next)
  append_replica server volume entry next ok more may = record {
    clients_up = sound.clients_up;
    replicas_up = replicas_up_with server volume next ok;
    agree = λ joins. agree_replica (found_in cell joins) cell.pool (sound.agree joins) (found_in (with_replica cell server volume next) joins).replicas server volume entry
        (λ s v. elim (cases_Bool ((s == server) && (v == volume))) [
          | inl e ↦ (
              let both = and_parts (s == server) (v == volume) e in
              let same_s = eqb-true s server both.0 in
              let same_v = eqb-true v volume both.1 in
              let actor : cell.replicas server volume ≡ cell.replicas s v = ap (λ n. cell.replicas n volume) (sym same_s) ∙ ap (λ n. cell.replicas s n) (sym same_v) in
              let is : found (joins.replicas s v) next ≡ (found_in (with_replica cell server volume next) joins).replicas s v = ap (λ b. found (joins.replicas s v) (cond b next (cell.replicas s v))) (sym e) in
              elim (more (joins.replicas s v)) [
                | inl old ↦ inl (sym is ∙ old ∙ ap (λ (a : Actor ReplicaEntry). found (joins.replicas s v) a) actor)
                | inr new ↦ inr ((same_s, same_v), sym is ∙ new.1 ∙ ap (λ (a : Actor ReplicaEntry). found (joins.replicas s v) a ++ entry ∷ []) actor)
              ])
          | inr e ↦ inl (ap (λ b. found (joins.replicas s v) (cond b next (cell.replicas s v))) e)
        ])
        (subst (λ h. MayDecide volume h entry) (sym (replica_up joins server volume may.0)) may.1)
        (met_now joins server volume entry may.2);
  }

  -- one actor of which nothing else is found
  same_client : (client : ℕ) (next : Actor ClientEntry) (f : Bool → Bool) → (next.up ≡ true → next.failed ≡ None) → ((b : Bool) → found b next ≡ found (f b) (cell.clients client)) → IsSound (with_client cell client next)
  same_client client next f ok same = record {
    clients_up = clients_up_with client next ok;
    replicas_up = sound.replicas_up;
    agree = λ joins.
        let other : Joins = record joins { clients = λ c. cond (c == client) (f (joins.clients c)) (joins.clients c) } in
        let at : (c : ℕ) → (found_in cell other).clients c ≡ (found_in (with_client cell client next) joins).clients c = λ c.
        elim (c == client) as (λ b. (c == client) ≡ b → found (cond b (f (joins.clients c)) (joins.clients c)) (cell.clients c) ≡ found (joins.clients c) (cond b next (cell.clients c))) [
          | true ↦ λ e. ap (λ n. found (f (joins.clients c)) (cell.clients n)) (eqb-true c client e) ∙ sym (same (joins.clients c))
          | false ↦ λ e. refl
        ] refl in
        let is : found_in cell other ≡ found_in (with_client cell client next) joins = λ i. record (found_in cell other) { clients = λ c. at c i } in
        subst (λ (h : Histories). DoAgree h cell.pool) is (sound.agree other);
  }

  same_replica : (server volume : ℕ) (next : Actor ReplicaEntry) (f : Bool → Bool) → (next.up ≡ true → next.failed ≡ None) → ((b : Bool) → found b next ≡ found (f b) (cell.replicas server volume)) → IsSound (with_replica cell server volume next)
  same_replica server volume next f ok same = record {
    clients_up = sound.clients_up;
    replicas_up = replicas_up_with server volume next ok;
    agree = λ joins.
        let here : ℕ → ℕ → Bool = λ s v. (s == server) && (v == volume) in
        let other : Joins = record joins { replicas = λ s v. cond (here s v) (f (joins.replicas s v)) (joins.replicas s v) } in
        let at : (s v : ℕ) → (found_in cell other).replicas s v ≡ (found_in (with_replica cell server volume next) joins).replicas s v = λ s v.
        elim (here s v) as (λ b. here s v ≡ b → found (cond b (f (joins.replicas s v)) (joins.replicas s v)) (cell.replicas s v) ≡ found (joins.replicas s v) (cond b next (cell.replicas s v))) [
          | true ↦ λ e.
              let both = and_parts (s == server) (v == volume) e in
              ap (λ n. found (f (joins.replicas s v)) (cell.replicas n v)) (eqb-true s server both.0) ∙ ap (λ n. found (f (joins.replicas s v)) (cell.replicas server n)) (eqb-true v volume both.1) ∙ sym (same (joins.replicas s v))
          | false ↦ λ e. refl
        ] refl in
        let is : found_in cell other ≡ found_in (with_replica cell server volume next) joins = λ i. record (found_in cell other) { replicas = λ s v. at s v i } in
        subst (λ (h : Histories). DoAgree h cell.pool) is (sound.agree other);
  }

  -- ---- letters

  -- what a letter says that may be posted
  abbrev Says : Histories → Letter → Type 0
  Says h (ChunkSent client server volume number) = (span : List Record) × HasFrozen h client volume number server span
  Says h (AnswerSent server client volume number (Ruled verdict)) = IsDecided h.replicas volume client number verdict
  Says h (AnswerSent server client volume number (Behind last)) = Unit {0}
  Says h (AnswerSent server client volume number (Old last)) = Unit {0}
  Says h (BreakSent server client fids) = Unit {0}

  says_now : (joins : Joins) (letter : Letter) → MayPost cell letter → Says (found_in cell joins) letter
  says_now joins (ChunkSent client server volume number) may = (span_of (done_on cell client volume) number, sent_now joins client server volume number (inr may))
  says_now joins (AnswerSent server client volume number (Ruled verdict)) may = kept_now joins client server volume number verdict may
  says_now joins (AnswerSent server client volume number (Behind last)) may = tt
  says_now joins (AnswerSent server client volume number (Old last)) may = tt
  says_now joins (BreakSent server client fids) may = tt

  says_old : (joins : Joins) (message : ℕ) (letter : Letter) → cell.pool message ≡ Some letter → Says (found_in cell joins) letter
  says_old joins message (ChunkSent client server volume number) e = (sound.agree joins).sent message client server volume number e
  says_old joins message (AnswerSent server client volume number (Ruled verdict)) e = (sound.agree joins).answered message server client volume number verdict e
  says_old joins message (AnswerSent server client volume number (Behind last)) e = tt
  says_old joins message (AnswerSent server client volume number (Old last)) e = tt
  says_old joins message (BreakSent server client fids) e = tt

  -- another pool, each letter of which says what is so
  other_pool : (pool : ℕ → Option Letter) (posted : ℕ) → ((joins : Joins) (message : ℕ) (letter : Letter) → pool message ≡ Some letter → Says (found_in cell joins) letter) → IsSound (record cell { pool = pool; posted = posted })
  other_pool pool posted says = record {
    clients_up = sound.clients_up;
    replicas_up = sound.replicas_up;
    agree = λ joins.
        let a = sound.agree joins in
        record {
          lawful = a.lawful;
          ruled = a.ruled;
          numbered = a.numbered;
          made = a.made;
          held = a.held;
          frozen = a.frozen;
          reached = a.reached;
          kept = a.kept;
          settled = a.settled;
          sent = λ m c s v n e. says joins m (ChunkSent c s v n) e;
          answered = λ m s c v n verdict e. says joins m (AnswerSent s c v n (Ruled verdict)) e;
        };
  }

  some_is : (x y : Letter) → Some x ≡ Some y → x ≡ y
  some_is x y e = cc

  posted_says : (letter : Letter) → MayPost cell letter → (joins : Joins) (message : ℕ) (other : Letter) (b : Bool) → cond b (Some letter) (cell.pool message) ≡ Some other → Says (found_in cell joins) other
  posted_says letter may joins message other true e = subst (λ (l : Letter). Says (found_in cell joins) l) (some_is letter other e) (says_now joins letter may)
  posted_says letter may joins message other false e = says_old joins message other e

  lost_says : (joins : Joins) (message : ℕ) (other : Letter) (b : Bool) → cond b None (cell.pool message) ≡ Some other → Says (found_in cell joins) other
  lost_says joins message other true e = cc
  lost_says joins message other false e = says_old joins message other e

  -- ---- each move

  moved : (move : Move) → May cell move → IsSound (after cell move)
  moved (Does (AtClient client entry)) may =
      append_client client entry (grown entry (cell.clients client)) (λ up. sound.clients_up client up) (λ b. grown_found entry b (cell.clients client) (sound.clients_up client may.0)) may
  moved (Does (AtReplica server volume entry)) may =
      append_replica server volume entry (grown entry (cell.replicas server volume)) (λ up. sound.replicas_up server volume up) (λ b. grown_found entry b (cell.replicas server volume) (sound.replicas_up server volume may.0)) may
  moved (Fails (AtClient client entry)) may =
      append_client client entry (fallen entry (cell.clients client)) (λ up. cc) (λ b. fallen_found entry b (cell.clients client) (sound.clients_up client may.0)) may
  moved (Fails (AtReplica server volume entry)) may =
      append_replica server volume entry (fallen entry (cell.replicas server volume)) (λ up. cc) (λ b. fallen_found entry b (cell.replicas server volume) (sound.replicas_up server volume may.0)) may
  moved (Posts letter) may = other_pool (after cell (Posts letter)).pool (cell.posted + 1) (λ joins m other e. posted_says letter may joins m other (m == cell.posted + 1) e)
  moved (Loses message) may = other_pool (after cell (Loses message)).pool cell.posted (λ joins m other e. lost_says joins m other (m == message) e)
  moved (Crashes (TheClient client)) may = same_client client (crashed (cell.clients client)) (λ b. b) (λ up. cc) (λ b. refl)
  moved (Crashes (TheReplica server volume)) may = same_replica server volume (crashed (cell.replicas server volume)) (λ b. b) (λ up. cc) (λ b. refl)
  moved (Recovers (TheClient client) joins) may = same_client client (recovered joins (cell.clients client)) (λ b. joins) (λ up. refl) (λ b. recovered_found joins b (cell.clients client))
  moved (Recovers (TheReplica server volume) joins) may = same_replica server volume (recovered joins (cell.replicas server volume)) (λ b. joins) (λ up. refl) (λ b. recovered_found joins b (cell.replicas server volume))

pub moves_keep_sound : MovesKeepSound
moves_keep_sound cell move may sound = moved cell sound move may

-- ---- runs

empty_joined : {E : Type 0} (b : Bool) → joined_to {E = E} [] b None ≡ []
empty_joined true = refl
empty_joined false = refl

-- a fresh volume holds its root alone
fresh_root_is : (volume : ℕ) (fid : Fid) → has (fresh volume).nodes fid ≡ true → fid ≡ root_of volume
fresh_root_is volume fid m = elim (fid_cases fid (root_of volume)) [
  | inl at ↦ at
  | inr off ↦ absurd (false≢true (sym (ap is_some (get_else fids_total exact_fids map.empty (root_of volume) fresh_root fid off ∙ map.get-empty fid_cmp fid)) ∙ m))
]

-- what a fresh volume holds was made
pub root_made : (volume : ℕ) (deeds : List Deed) (fid : Fid) → has (fresh volume).nodes fid ≡ true → IsMade volume deeds fid
root_made volume deeds fid m = let is = fresh_root_is volume fid m in (ap (λ (f : Fid). f.volume) is, inl (ap (λ (f : Fid). f.vnode) is))

empty_sound : IsSound empty_cell
empty_sound = record {
  clients_up = λ c up. refl;
  replicas_up = λ s v up. refl;
  agree = λ joins.
      let nothing : Histories = record { clients = λ c. []; replicas = λ s v. []; learned = λ c v. [] } in
      let is : nothing ≡ found_in empty_cell joins = λ i. record { clients = λ c. sym (empty_joined (joins.clients c)) i; replicas = λ s v. sym (empty_joined (joins.replicas s v)) i; learned = λ c v. [] } in
      subst (λ (h : Histories). DoAgree h empty_cell.pool) is (record {
        lawful = λ c v. tt;
        ruled = λ s v. tt;
        numbered = λ c v. tt;
        made = λ c v rec i. absurd i;
        held = λ s v fid m. root_made v [] fid m;
        frozen = λ s v d i. absurd i;
        reached = λ s v c. omega arith;
        kept = λ s v c some. (let no : ⊥ = omega (arith, some) in absurd no);
        settled = λ c v s i. absurd i;
        sent = λ m c s v n e. cc;
        answered = λ m s c v n verdict e. cc;
      });
}

pub runs_sound : (moves : List Move) (old new : PlainCell) → IsSound old → Moved old moves new → IsSound new
runs_sound [] old new sound run = subst IsSound (sym run) sound
runs_sound (move ∷ moves) old new sound run = runs_sound moves (after old move) new (moves_keep_sound old move run.0 sound) run.1

pub runs_are_sound : RunsAreSound
runs_are_sound moves cell run = runs_sound moves empty_cell cell empty_sound run
