-- What may happen keeps a cell sound, and its replicas of one group.
use Rattle.std.proofs.Common.{◌≡◌, ◌≢◌, ℕ, ◌+◌, ◌<◌, ◌==◌, Bool, true, false, cond, List, [], ◌∷◌, ◌++◌, append-nil}
use Rattle.std.proofs.Common.{Option, Some, None, refl, sym, ap, ◌∙◌, subst, inl, inr, ◌⊎◌, arith}
use Rattle.std.proofs.lemmas.Bool.{cases_eq}
use Rattle.coda_fid.specs.declared.fid.Fid.{Fid}
use Rattle.coda_cancel.specs.Dropping.{creates}
use Rattle.coda_fid.specs.declared.op.Record.{Record}
use Rattle.coda_fid.specs.Fid.{root_of}
use Rattle.coda_resolve.specs.Placement.{IsIn}
use Rattle.coda_fid.specs.Fid.{same_fid}
use Rattle.coda_fid.proofs.Fids.{same_fid_is}
use Rattle.coda_lineage.proofs.Reaching.{new_sound}
use Rattle.coda_plain.specs.Histories.{In}
use Rattle.coda_certify.specs.declared.verdict.Verdict.{Verdict}
use Rattle.coda_plain.specs.Deeds.{Deed, Operated, Froze, Settled, Gaveup, operation_in, full_of, created_in}
use Rattle.coda_plain.specs.Deeds.{settlements_of, MayDo}
use Rattle.coda_plain.specs.Objects.{Objects}
use Rattle.coda_plain.specs.Decisions.{ReplicaEntry, Decided, Resolved, Last, Kept, Decision, verdict_on, sent_of}
use Rattle.coda_plain.specs.Decisions.{decision_at, decisions_of, last_of, nodes_of}
use Rattle.coda_plain.specs.Cell.{ClientEntry, Fetched, Did, Dropping, deeds_of, Letter, ChunkSent, Actor, new_actor}
use Rattle.coda_plain.specs.Cell.{PlainCell, empty_cell, found, Histories, Joins, found_in}
use Rattle.coda_plain.specs.Moves.{AtClient, AtReplica, TheClient, TheReplica, Move, Does, Fails, Posts, Loses}
use Rattle.coda_plain.specs.Moves.{Crashes, Recovers, with_client, with_replica, grown, fallen, crashed, recovered}
use Rattle.coda_plain.specs.Moves.{after, done_on, IsBacked, MayAppend, MayPost, May}
use Rattle.coda_plain.specs.Promises.{Decides}
use Rattle.coda_plain.specs.Sound.{deeds_in, HasFrozen, IsDecided, IsSound}
use Rattle.coda_plain.proofs.Lists.{told_more, told_last, told_new, in_parts}
use Rattle.coda_plain.proofs.AtReplicas.{kept_push}
use Rattle.coda_plain.proofs.Chunking.{full_push}
use Rattle.coda_plain.proofs.Places.{IsGrown, at_grown, deeds_grown, deeds_fetched, IsBeside, beside}
use Rattle.coda_plain.proofs.Soundness.{found_up, grown_found, fallen_found, recovered_found, found_grown, told_now}
use Rattle.coda_plain.proofs.Soundness.{moves_keep_sound, runs_are_sound}
use Rattle.coda_group.specs.Holdings.{replica_objects}
use Rattle.coda_group.specs.Groups.{IsObjectNumbered, AreNumberedFrom, IsCreatedByChunk, IsReplica, IsOneGroup}
use Rattle.coda_group.specs.Groups.{IsFrozenNow, WasDecided, DoGroupsStand}
use Rattle.coda_group.specs.Steps.{GroupStep, Moves, Resolves, Repairs, CreatesNext, MayAppendAlone, MayMoveAlone}
use Rattle.coda_group.specs.Steps.{after_step, GroupStepped}
use Rattle.coda_group.specs.Sound.{IsGroupSound}
use Rattle.coda_group.specs.Laws.{StepsAreMoves, StepsKeepGroupSound, GroupRunsAreSound}
use Rattle.coda_group.proofs.Making.{numbered_push, AreNew}
use Rattle.coda_group.proofs.Truths.{frozen_push, settled_push, one_verdict}
use Rattle.coda_group.proofs.Before.{new_span, unsettled}
use Rattle.coda_group.proofs.Deciding.{group_same, decided_group}
use Rattle.coda_group.proofs.Growing.{grown_at, other_client, other_replica}
use Rattle.coda_group.proofs.Rings.{new_ringed}
use Rattle.coda_group.proofs.Resolving.{resolution_done, group_behind}
use Rattle.coda_group.proofs.Repairing.{repair_done, group_repaired}

-- ---- what clients number

-- what an entry creates is the next object
abbrev CreatesIn : ℕ → ℕ → List Deed → Deed → Type 0
CreatesIn volume client past (Operated rec) =
    (f : Fid) → creates f rec.op ≡ true → IsObjectNumbered volume client (created_in (full_of past) + 1) f
CreatesIn volume client past (Froze number home last) = Unit {0}
CreatesIn volume client past (Settled number verdict) = Unit {0}
CreatesIn volume client past Gaveup = Unit {0}

abbrev AreNumbers : ℕ → ℕ → List Deed → Type 0
AreNumbers volume client deeds = AreNumberedFrom volume client 0 (full_of deeds)

more_numbers : (volume client : ℕ) (past : List Deed) (deed : Deed) → AreNumbers volume client past
    → CreatesIn volume client past deed → AreNumberedFrom volume client 0 (full_of past ++ operation_in deed)
more_numbers volume client past (Operated rec) a next = numbered_push volume client 0 (full_of past) rec a (λ f e.
    (let is = next f e in let number = is.number_is in record { here = is.here; own = is.own; some = is.some; number_is = omega (arith, number) }))
more_numbers volume client past (Froze number home last) a next =
    subst (AreNumberedFrom volume client 0) (sym (append-nil (full_of past))) a
more_numbers volume client past (Settled number verdict) a next =
    subst (AreNumberedFrom volume client 0) (sym (append-nil (full_of past))) a
more_numbers volume client past Gaveup a next =
    subst (AreNumberedFrom volume client 0) (sym (append-nil (full_of past))) a

numbers_push : (volume client : ℕ) (past : List Deed) (deed : Deed) → AreNumbers volume client past
    → CreatesIn volume client past deed → AreNumbers volume client (past ++ deed ∷ [])
numbers_push volume client past deed a next =
    subst (AreNumberedFrom volume client 0) (sym (full_push past deed)) (more_numbers volume client past deed a next)

creates_in : (cell : PlainCell) (client volume : ℕ) (deed : Deed) → CreatesNext cell client volume deed
    → CreatesIn volume client (done_on cell client volume) deed
creates_in cell client volume (Operated rec) next = next
creates_in cell client volume (Froze number home last) next = tt
creates_in cell client volume (Settled number verdict) next = tt
creates_in cell client volume Gaveup next = tt

module _ (servers : ℕ → List ℕ) (cell : PlainCell) (gs : IsGroupSound servers cell) where
  -- ---- a client

  -- histories stand with clients that did the same
  stand_same : (h : Histories) (clients : ℕ → List ClientEntry) → DoGroupsStand servers h cell.pool
      → ((c v : ℕ) → deeds_of v (clients c) ≡ deeds_in h c v)
      → DoGroupsStand servers (record h { clients = clients }) cell.pool
  stand_same h clients st at = record {
    numbered = λ c v. subst (AreNumbers v c) (sym (at c v)) (st.numbered c v);
    truths =
        λ s v d verdict i. subst (λ ds. In (record { number = d.number; verdict = verdict }) (settlements_of ds)
        → verdict ≡ verdict_on d) (sym (at d.client v)) (st.truths s v d verdict i);
    sent = λ m c s v n e. subst (λ ds. IsFrozenNow ds n ⊎ WasDecided h v c n) (sym (at c v)) (st.sent m c s v n e);
    taken = st.taken;
    groups = λ v. group_same (servers v) h (record h { clients = clients }) v (λ s. refl) (λ s d i. i) (st.groups v);
  }

  module _ (client volume : ℕ) (deed : Deed) (joins : Joins) (clients : ℕ → List ClientEntry) (more : (c : ℕ) → IsGrown (c ≡ client) (Did volume deed) ((found_in cell joins).clients c) (clients c))
      (may : MayAppend cell (AtClient client (Did volume deed))) (creation : CreatesNext cell client volume deed) where
    abbrev was : Histories
    was = found_in cell joins

    abbrev is : Histories
    is = record (found_in cell joins) { clients = clients }

    abbrev st : DoGroupsStand servers was cell.pool
    st = gs.stand joins

    client_found : was.clients client ≡ (cell.clients client).history
    client_found = found_up (joins.clients client) (cell.clients client) (gs.sound.clients_up client may.0)

    -- what holds of the deeds before, and of them with this one, holds of the deeds then
    at_deeds : (c v : ℕ) (P : List Deed → Type 0) → P (deeds_of v (was.clients c))
        → ((c ≡ client) × (v ≡ volume) → P (deeds_of v (was.clients c) ++ deed ∷ [])) → P (deeds_of v (is.clients c))
    at_deeds c v P =
        at_grown ((c ≡ client) × (v ≡ volume)) deed (deeds_of v (was.clients c)) (deeds_of v (is.clients c)) P
        (deeds_grown client v c volume deed (was.clients c) (is.clients c) (more c))

    -- what holds there of the client and the volume holds here
    here_as : (c v : ℕ) → (c ≡ client) × (v ≡ volume) → (P : ℕ → ℕ → List Deed → Type 0)
        → P client volume (done_on cell client volume) → P c v (deeds_of v (was.clients c))
    here_as c v at P p =
        subst (λ n. P n v (deeds_of v (was.clients n))) (sym at.0)
        (subst (λ n. P client n (deeds_of n (was.clients client))) (sym at.1)
        (subst (λ es. P client volume (deeds_of volume es)) (sym client_found) p))

    told_there : (number : ℕ) (verdict : Verdict) → deed ≡ Settled number verdict
        → IsDecided was.replicas volume client number verdict
    told_there number verdict e =
        told_now cell gs.sound joins client volume number verdict (subst (IsBacked cell client volume) e may.1.1)

    told_here : (c v : ℕ) → (c ≡ client) × (v ≡ volume) → (number : ℕ) (verdict : Verdict)
        → deed ≡ Settled number verdict → IsDecided was.replicas v c number verdict
    told_here c v at number verdict e =
        subst (λ n. IsDecided was.replicas v n number verdict) (sym at.0)
        (subst (λ n. IsDecided was.replicas n client number verdict) (sym at.1) (told_there number verdict e))

    pub stand_did : DoGroupsStand servers is cell.pool
    stand_did = record {
      numbered = λ c v. at_deeds c v (AreNumbers v c) (st.numbered c v)
          (λ at. numbers_push v c (deeds_of v (was.clients c)) deed (st.numbered c v)
          (here_as c v at (λ n m ds. CreatesIn m n ds deed) (creates_in cell client volume deed creation)));
      truths =
          λ s v d verdict i. at_deeds d.client v (λ ds. In (record { number = d.number; verdict = verdict })
          (settlements_of ds) → verdict ≡ verdict_on d) (st.truths s v d verdict i)
          (λ at j. elim (settled_push (deeds_of v (was.clients d.client)) deed
          (record { number = d.number; verdict = verdict }) j) [
            | inl old ↦ st.truths s v d verdict i old
            | inr new ↦ one_verdict was cell.pool (gs.sound.agree joins) v d.client d.number d.number verdict (verdict_on d) (told_here d.client v at d.number verdict new)
                (record { server = s; by = d; there = i; client_is = refl; number_is = refl; verdict_is = refl }) refl
          ]);
      sent = λ m c s v n e. at_deeds c v (λ ds. IsFrozenNow ds n ⊎ WasDecided was v c n) (st.sent m c s v n e)
          (λ at. elim (st.sent m c s v n e) [
            | inl frozen ↦ frozen_push (deeds_of v (was.clients c)) deed n (WasDecided was v c n) (here_as c v at (λ k l ds. MayDo ds deed) may.1.0) (λ verdict settles. (verdict, told_here c v at n verdict settles)) frozen
            | inr decided ↦ inr decided
          ]);
      taken = st.taken;
      groups = λ v. group_same (servers v) was is v (λ s. refl) (λ s d i. i) (st.groups v);
    }

  -- what an entry leaves of a client, whatever was dropped at once with it
  stand_entry : (client : ℕ) (entry : ClientEntry) (joins : Joins) (clients : ℕ → List ClientEntry)
      → ((c : ℕ) → IsGrown (c ≡ client) entry ((found_in cell joins).clients c) (clients c))
      → MayAppend cell (AtClient client entry) → MayAppendAlone servers cell (AtClient client entry) → DoGroupsStand
      servers (record (found_in cell joins) { clients = clients }) cell.pool
  stand_entry client (Fetched fid parent node) joins clients more may alone =
      stand_same (found_in cell joins) clients (gs.stand joins)
      (λ c v. deeds_fetched (c ≡ client) v fid parent node ((found_in cell joins).clients c) (clients c) (more c))
  stand_entry client (Did volume deed) joins clients more may alone =
      stand_did client volume deed joins clients more may alone
  stand_entry client (Dropping gone entry) joins clients more may alone =
      let by : (c : ℕ) → IsBeside (c ≡ client) entry ((found_in cell joins).clients c) (clients c) = λ c. beside (c ≡ client) gone entry ((found_in cell joins).clients c) (clients c) (more c) in
      stand_same (record (found_in cell joins) { clients = λ c. (by c).alone }) clients
      (stand_entry client entry joins (λ c. (by c).alone) (λ c. (by c).grown) may alone) (λ c v. (by c).same v)

  -- ---- a replica

  module _ (server volume client number : ℕ) (span : List Record) (next : Actor ReplicaEntry)
      (more : (b : Bool) → IsGrown (Unit {0}) (Decided client number span) (found b (cell.replicas server volume))
      (found b next))
      (may : MayAppend cell (AtReplica server volume (Decided client number span)))
      (at : IsIn server (servers volume)) (sound : IsSound (with_replica cell server volume next)) (joins : Joins)
    where
      abbrev old : Histories
      old = found_in cell joins

      abbrev new : Histories
      new = found_in (with_replica cell server volume next) joins

      abbrev entry : ReplicaEntry
      entry = Decided client number span

      here_or : (s v : ℕ) → IsGrown ((s ≡ server) × (v ≡ volume)) entry (old.replicas s v) (new.replicas s v)
      here_or s v = grown_at cell server volume entry next more joins s v

      -- where no replica of the volume has an entry more, the group is the same
      group_stays : (v : ℕ) → ((s : ℕ) → new.replicas s v ≡ old.replicas s v) → IsOneGroup new (servers v) v
      group_stays v same =
          group_same (servers v) old new v (λ s. ap (replica_objects s v) (sym (same s)))
          (λ s d i. subst (λ es. In d (decisions_of v es)) (sym (same s)) i) ((gs.stand joins).groups v)

      others : (s : ℕ) → s ≢ server → new.replicas s volume ≡ old.replicas s volume
      others s ne = elim (here_or s volume) [ inl same ↦ same | inr grew ↦ absurd (ne grew.0.0) ]

      is_next : number ≡ (last_of volume (old.replicas server volume) client).number + 1
      is_next =
          subst (λ es. number ≡ (last_of volume es client).number + 1)
          (sym (found_up (joins.replicas server volume) (cell.replicas server volume)
          (gs.sound.replicas_up server volume may.0))) may.1

      -- the chunk is frozen now, or was decided
      under : IsFrozenNow (deeds_in old client volume) number ⊎ WasDecided old volume client number
      under = elim may.2.0 [
        | inl letter ↦ (gs.stand joins).sent letter.0 client server volume number letter.1
        | inr is ↦ inl (subst (λ es. IsFrozenNow (deeds_of volume es) number) (sym (found_up (joins.clients client) (cell.clients client) (gs.sound.clients_up client is.up))) ((is.cut, is.frozen), is.last))
      ]

      frozen_here : new.replicas server volume ≡ old.replicas server volume ++ entry ∷ []
          → HasFrozen old client volume number server span
      frozen_here grew =
          let it : Decision = record { client = client; number = number; span = span; before = nodes_of volume (old.replicas server volume) } in
          (sound.agree joins).frozen server volume it
          (subst (λ es. In it (decisions_of volume es)) (sym grew)
          (told_new (decision_at volume) (old.replicas server volume) entry it (inl refl)))

      fresh : new.replicas server volume ≡ old.replicas server volume ++ entry ∷ [] → (made : Fid → Bool)
          → ((f : Fid) → made f ≡ true → (f ≡ root_of volume) ⊎ IsCreatedByChunk old volume f)
          → AreNew made (sent_of span)
      fresh grew =
          new_span old cell.pool (gs.sound.agree joins) volume (λ c. (gs.stand joins).numbered c volume) client
          (λ s d verdict. (gs.stand joins).truths s volume d verdict) server number span is_next (frozen_here grew)
          under

      no_settlement : new.replicas server volume ≡ old.replicas server volume ++ entry ∷ [] → (verdict : Verdict)
          → In (record { number = number; verdict = verdict }) (settlements_of (deeds_in old client volume)) → ⊥
      no_settlement grew verdict =
          unsettled old cell.pool (gs.sound.agree joins) volume (λ c. (gs.stand joins).numbered c volume) client
          (λ s d v. (gs.stand joins).truths s volume d v) server number span is_next (frozen_here grew) under verdict

      group_here : IsOneGroup new (servers volume) volume
      group_here = elim (here_or server volume) [
        | inl same ↦ group_stays volume (λ s. elim (cases_eq s server) [
          | inl is ↦ ap (λ n. new.replicas n volume) is ∙ same ∙ ap (λ n. old.replicas n volume) (sym is)
          | inr ne ↦ others s ne
        ])
        | inr grew ↦ decided_group (servers volume) old new volume server client number span ((gs.stand joins).groups volume) at ((gs.sound.agree joins).ruled server volume) grew.1 others (fresh grew.1)
      ]

      decides_more : (s v : ℕ) (d : Decision) → Decides old s v d → Decides new s v d
      decides_more s v d i =
          at_grown ((s ≡ server) × (v ≡ volume)) entry (old.replicas s v) (new.replicas s v)
          (λ es. In d (decisions_of v es)) (here_or s v) i
          (λ here. told_more (decision_at v) (old.replicas s v) entry d i)

      truths_then : (s v : ℕ) (d : Decision) (verdict : Verdict) → Decides new s v d
          → In (record { number = d.number; verdict = verdict }) (settlements_of (deeds_in old d.client v))
          → verdict ≡ verdict_on d
      truths_then s v d verdict i j = elim (here_or s v) [
        | inl same ↦ (gs.stand joins).truths s v d verdict (subst (λ es. In d (decisions_of v es)) same i) j
        | inr grew ↦ elim (told_last (decision_at v) (old.replicas s v) entry d (subst (λ es. In d (decisions_of v es)) grew.1 i)) [
          | inl was ↦ (gs.stand joins).truths s v d verdict was j
          | inr (inl is) ↦ absurd (no_settlement
              (subst (λ es. es ≡ old.replicas server volume ++ entry ∷ []) refl
              (subst (λ n. new.replicas n volume ≡ old.replicas n volume ++ entry ∷ []) grew.0.0
              (subst (λ n. new.replicas s n ≡ old.replicas s n ++ entry ∷ []) grew.0.1 grew.1))) verdict
              (subst (λ n. In (record { number = number; verdict = verdict }) (settlements_of (deeds_in old client n)))
              grew.0.1 (subst (λ (x : Decision). In (record { number = x.number; verdict = verdict })
              (settlements_of (deeds_in old x.client v))) is j)))
          | inr (inr none) ↦ absurd none
        ]
      ]

      still_decided : (v c n : ℕ) (verdict : Verdict) → IsDecided old.replicas v c n verdict
          → IsDecided new.replicas v c n verdict
      still_decided v c n verdict was =
          record {
            server = was.server;
            by = was.by;
            there = decides_more was.server v was.by was.there;
            client_is = was.client_is;
            number_is = was.number_is;
            verdict_is = was.verdict_is;
          }

      taken_then : (s v c : ℕ) (objects : Objects) (lasts : ℕ → Last) → In (Resolved objects lasts) (new.replicas s v)
          → 0 < (lasts c).number → IsDecided new.replicas v c (lasts c).number (lasts c).verdict
      taken_then s v c objects lasts i some =
          still_decided v c (lasts c).number (lasts c).verdict ((gs.stand joins).taken s v c objects lasts was some)
        where
          was : In (Resolved objects lasts) (old.replicas s v)
          was = elim (here_or s v) [
            | inl same ↦ subst (In (Resolved objects lasts)) same i
            | inr grew ↦ elim (in_parts (Resolved objects lasts) (old.replicas s v) (entry ∷ []) (subst (In (Resolved objects lasts)) grew.1 i)) [
              | inl there ↦ there
              | inr (inl e) ↦ cc
              | inr (inr none) ↦ absurd none
            ]
          ]

      pub stand_decided : DoGroupsStand servers new cell.pool
      stand_decided = record {
        numbered = (gs.stand joins).numbered;
        truths = truths_then;
        sent = λ m c s v n e. elim ((gs.stand joins).sent m c s v n e) [
          | inl frozen ↦ inl frozen
          | inr decided ↦ inr (decided.0, still_decided v c n decided.0 decided.1)
        ];
        taken = taken_then;
        groups = λ v. elim (cases_eq v volume) [
          | inl is ↦ subst (λ n. IsOneGroup new (servers n) n) (sym is) group_here
          | inr ne ↦ group_stays v (λ s. elim (here_or s v) [ inl same ↦ same | inr grew ↦ absurd (ne grew.0.1) ])
        ];
      }

  -- ---- each move

  after_client : (client : ℕ) (entry : ClientEntry) (next : Actor ClientEntry)
      → ((b : Bool) → IsGrown (Unit {0}) entry (found b (cell.clients client)) (found b next))
      → MayAppend cell (AtClient client entry) → MayAppendAlone servers cell (AtClient client entry)
      → IsSound (with_client cell client next) → IsGroupSound servers (with_client cell client next)
  after_client client entry next more may alone sound = record {
    sound = sound;
    stand =
        λ joins. stand_entry client entry joins (found_in (with_client cell client next) joins).clients
        (found_grown cell gs.sound client entry next joins more) may alone;
  }

  after_replica : (server volume : ℕ) (entry : ReplicaEntry) (next : Actor ReplicaEntry)
      → ((b : Bool) → IsGrown (Unit {0}) entry (found b (cell.replicas server volume)) (found b next))
      → MayAppend cell (AtReplica server volume entry) → MayAppendAlone servers cell (AtReplica server volume entry)
      → IsSound (with_replica cell server volume next) → IsGroupSound servers (with_replica cell server volume next)
  after_replica server volume (Decided client number span) next more may alone sound = record {
    sound = sound;
    stand = stand_decided server volume client number span next more may alone sound;
  }
  after_replica server volume (Resolved objects lasts) next more may alone sound = absurd alone

  -- ---- letters

  abbrev IsSentStill : Joins → ℕ → ℕ → ℕ → Type 0
  IsSentStill joins c v n = IsFrozenNow (deeds_in (found_in cell joins) c v) n ⊎ WasDecided (found_in cell joins) v c n

  other_pool : (joins : Joins) (pool : ℕ → Option Letter)
      → ((m c s v n : ℕ) → pool m ≡ Some (ChunkSent c s v n) → IsSentStill joins c v n)
      → DoGroupsStand servers (found_in cell joins) pool
  other_pool joins pool sent =
      record {
        numbered = (gs.stand joins).numbered;
        truths = (gs.stand joins).truths;
        sent = sent;
        taken = (gs.stand joins).taken;
        groups = (gs.stand joins).groups;
      }

  by_letter : (joins : Joins) (letter : Letter) (c s v n : ℕ) → MayPost cell letter → letter ≡ ChunkSent c s v n
      → IsSentStill joins c v n
  by_letter joins letter c s v n may e =
      let is = subst (MayPost cell) e may in
      inl (subst (λ es. IsFrozenNow (deeds_of v es) n)
      (sym (found_up (joins.clients c) (cell.clients c) (gs.sound.clients_up c is.up)))
      ((is.cut, is.frozen), is.last))

  some_is : (x y : Letter) → Some x ≡ Some y → x ≡ y
  some_is x y e = cc

  posted : (joins : Joins) (letter : Letter) → MayPost cell letter → (m c s v n : ℕ) (b : Bool)
      → cond b (Some letter) (cell.pool m) ≡ Some (ChunkSent c s v n) → IsSentStill joins c v n
  posted joins letter may m c s v n true e = by_letter joins letter c s v n may (some_is letter (ChunkSent c s v n) e)
  posted joins letter may m c s v n false e = (gs.stand joins).sent m c s v n e

  lost : (joins : Joins) (m c s v n : ℕ) (b : Bool) → cond b None (cell.pool m) ≡ Some (ChunkSent c s v n)
      → IsSentStill joins c v n
  lost joins m c s v n true e = cc
  lost joins m c s v n false e = (gs.stand joins).sent m c s v n e

  moved : (move : Move) → May cell move → MayMoveAlone servers cell move → IsGroupSound servers (after cell move)
  moved (Does (AtClient client entry)) may alone =
      after_client client entry (grown entry (cell.clients client))
      (λ b. grown_found entry b (cell.clients client) (gs.sound.clients_up client may.0)) may alone
      (moves_keep_sound cell (Does (AtClient client entry)) may gs.sound)
  moved (Does (AtReplica server volume entry)) may alone =
      after_replica server volume entry (grown entry (cell.replicas server volume))
      (λ b. grown_found entry b (cell.replicas server volume) (gs.sound.replicas_up server volume may.0)) may alone
      (moves_keep_sound cell (Does (AtReplica server volume entry)) may gs.sound)
  moved (Fails (AtClient client entry)) may alone =
      after_client client entry (fallen entry (cell.clients client))
      (λ b. fallen_found entry b (cell.clients client) (gs.sound.clients_up client may.0)) may alone
      (moves_keep_sound cell (Fails (AtClient client entry)) may gs.sound)
  moved (Fails (AtReplica server volume entry)) may alone =
      after_replica server volume entry (fallen entry (cell.replicas server volume))
      (λ b. fallen_found entry b (cell.replicas server volume) (gs.sound.replicas_up server volume may.0)) may alone
      (moves_keep_sound cell (Fails (AtReplica server volume entry)) may gs.sound)
  moved (Posts letter) may alone = record {
    sound = moves_keep_sound cell (Posts letter) may gs.sound;
    stand =
        λ joins. other_pool joins (after cell (Posts letter)).pool
        (λ m c s v n e. posted joins letter may m c s v n (m == cell.posted + 1) e);
  }
  moved (Loses message) may alone = record {
    sound = moves_keep_sound cell (Loses message) may gs.sound;
    stand =
        λ joins. other_pool joins (after cell (Loses message)).pool
        (λ m c s v n e. lost joins m c s v n (m == message) e);
  }
  moved (Crashes (TheClient client)) may alone = record {
    sound = moves_keep_sound cell (Crashes (TheClient client)) may gs.sound;
    stand =
        λ joins. (let other = other_client cell client (crashed (cell.clients client)) (λ b. b) (λ b. refl) joins in
        subst (λ h. DoGroupsStand servers h cell.pool) other.1 (gs.stand other.0));
  }
  moved (Crashes (TheReplica server volume)) may alone = record {
    sound = moves_keep_sound cell (Crashes (TheReplica server volume)) may gs.sound;
    stand =
        λ joins. (let other = other_replica cell server volume (crashed (cell.replicas server volume)) (λ b. b)
        (λ b. refl) joins in subst (λ h. DoGroupsStand servers h cell.pool) other.1 (gs.stand other.0));
  }
  moved (Recovers (TheClient client) j) may alone = record {
    sound = moves_keep_sound cell (Recovers (TheClient client) j) may gs.sound;
    stand =
        λ joins. (let other = other_client cell client (recovered j (cell.clients client)) (λ b. j)
        (λ b. recovered_found j b (cell.clients client)) joins in subst (λ h. DoGroupsStand servers h cell.pool)
        other.1 (gs.stand other.0));
  }
  moved (Recovers (TheReplica server volume) j) may alone = record {
    sound = moves_keep_sound cell (Recovers (TheReplica server volume) j) may gs.sound;
    stand =
        λ joins. (let other = other_replica cell server volume (recovered j (cell.replicas server volume)) (λ b. j)
        (λ b. recovered_found j b (cell.replicas server volume)) joins in subst
        (λ h. DoGroupsStand servers h cell.pool) other.1 (gs.stand other.0));
  }

  -- ---- something left at replicas of a volume

  -- nothing came, or one entry of what was taken over
  abbrev TookOne : List ReplicaEntry → List ReplicaEntry → Type 0
  TookOne before behind =
      (behind ≡ before) ⊎ ((objects : Objects)
      × ((lasts : ℕ → Last) × (behind ≡ before ++ Resolved objects lasts ∷ [])))

  took_decides : (v : ℕ) (before behind : List ReplicaEntry) (d : Decision) → TookOne before behind
      → In d (decisions_of v before) → In d (decisions_of v behind)
  took_decides v before behind d (inl same) i = subst (λ es. In d (decisions_of v es)) (sym same) i
  took_decides v before behind d (inr one) i =
      subst (λ es. In d (decisions_of v es)) (sym one.1.1)
      (told_more (decision_at v) before (Resolved one.0 one.1.0) d i)

  took_decided : (v : ℕ) (before behind : List ReplicaEntry) (d : Decision) → TookOne before behind
      → In d (decisions_of v behind) → In d (decisions_of v before)
  took_decided v before behind d (inl same) i = subst (λ es. In d (decisions_of v es)) same i
  took_decided v before behind d (inr one) i = elim (told_last (decision_at v) before (Resolved one.0 one.1.0) d (subst (λ es. In d (decisions_of v es)) one.1.1 i)) [ inl was ↦ was | inr none ↦ absurd none ]

  same_lasts : (o p : Objects) (l m : ℕ → Last) → Resolved o l ≡ Resolved p m → l ≡ m
  same_lasts o p l m e = ap (λ (x : ReplicaEntry). lasts_in l x) e
    where
      lasts_in : (ℕ → Last) → ReplicaEntry → ℕ → Last
      lasts_in other (Decided client number span) = other
      lasts_in other (Resolved objects lasts) = lasts

  stand_behind : (final : PlainCell) (volume : ℕ) → final.clients ≡ cell.clients → final.pool ≡ cell.pool → ((joins : Joins) (s v : ℕ) → v ≢ volume → (found_in final joins).replicas s v ≡ (found_in cell joins).replicas s v)
      → ((joins : Joins) (s : ℕ) → TookOne ((found_in cell joins).replicas s volume)
      ((found_in final joins).replicas s volume))
      → IsSound final → ((joins : Joins) → IsOneGroup (found_in final joins) (servers volume) volume) → IsGroupSound
      servers final
  stand_behind final volume clients pool elsewhere each sound group =
      let took : (joins : Joins) (s v : ℕ) → TookOne ((found_in cell joins).replicas s v) ((found_in final joins).replicas s v) = λ joins s v. elim (cases_eq v volume) [
        | inl is ↦ subst (λ n. TookOne ((found_in cell joins).replicas s n) ((found_in final joins).replicas s n)) (sym is) (each joins s)
        | inr ne ↦ inl (elsewhere joins s v ne)
      ] in
      let still : (joins : Joins) (v c n : ℕ) (verdict : Verdict) → IsDecided (found_in cell joins).replicas v c n verdict → IsDecided (found_in final joins).replicas v c n verdict = λ joins v c n verdict was. record {
        server = was.server;
        by = was.by;
        there =
            took_decides v ((found_in cell joins).replicas was.server v)
            ((found_in final joins).replicas was.server v) was.by (took joins was.server v) was.there;
        client_is = was.client_is;
        number_is = was.number_is;
        verdict_is = was.verdict_is;
      } in
      let clients_found : (joins : Joins) (c v : ℕ) → deeds_in (found_in final joins) c v ≡ deeds_in (found_in cell joins) c v = λ joins c v. ap (λ (cs : ℕ → Actor ClientEntry). deeds_of v (found (joins.clients c) (cs c))) clients in
      record {
        sound = sound;
        stand = λ joins. record {
          numbered = λ c v. subst (AreNumbers v c) (sym (clients_found joins c v)) ((gs.stand joins).numbered c v);
          truths =
              λ s v d verdict i j. (gs.stand joins).truths s v d verdict
              (took_decided v ((found_in cell joins).replicas s v) ((found_in final joins).replicas s v) d
              (took joins s v) i)
              (subst (λ ds. In (record { number = d.number; verdict = verdict }) (settlements_of ds))
              (clients_found joins d.client v) j);
          sent = λ m c s v n e. elim ((gs.stand joins).sent m c s v n (ap (λ p. p m) (sym pool) ∙ e)) [
            | inl frozen ↦ inl (subst (λ ds. IsFrozenNow ds n) (sym (clients_found joins c v)) frozen)
            | inr was ↦ inr (was.0, still joins v c n was.0 was.1)
          ];
          taken = λ s v c objects lasts i some. elim (took joins s v) [
            | inl same ↦ still joins v c (lasts c).number (lasts c).verdict ((gs.stand joins).taken s v c objects lasts (subst (In (Resolved objects lasts)) same i) some)
            | inr one ↦ elim (in_parts (Resolved objects lasts) ((found_in cell joins).replicas s v) (Resolved one.0 one.1.0 ∷ []) (subst (In (Resolved objects lasts)) one.1.1 i)) [
              | inl there ↦ still joins v c (lasts c).number (lasts c).verdict ((gs.stand joins).taken s v c objects lasts there some)
              | inr (inl e) ↦ (
                  let is : lasts ≡ one.1.0 = same_lasts objects one.0 lasts one.1.0 e in
                  let kept : last_of v ((found_in final joins).replicas s v) c ≡ lasts c = ap (λ es. last_of v es c) one.1.1 ∙ ap (λ (k : Kept). k.lasts c) (kept_push v ((found_in cell joins).replicas s v) (Resolved one.0 one.1.0)) ∙ ap (λ l. l c) (sym is) in
                  subst (λ (l : Last). IsDecided (found_in final joins).replicas v c l.number l.verdict) kept
                  ((sound.agree joins).kept s v c (subst (λ (l : Last). 0 < l.number) (sym kept) some)))
              | inr (inr none) ↦ absurd none
            ]
          ];
          groups = λ v. elim (cases_eq v volume) [
            | inl is ↦ subst (λ n. IsOneGroup (found_in final joins) (servers n) n) (sym is) (group joins)
            | inr ne ↦ group_same (servers v) (found_in cell joins) (found_in final joins) v (λ s. ap (replica_objects s v) (sym (elsewhere joins s v ne)))
                (λ s d i. subst (λ es. In d (decisions_of v es)) (sym (elsewhere joins s v ne)) i)
                ((gs.stand joins).groups v)
          ];
        };
      }

pub steps_keep_group_sound : StepsKeepGroupSound
steps_keep_group_sound servers cell (Moves move) may gs = moved servers cell gs move may.0 may.1
steps_keep_group_sound servers cell (Resolves volume some lasts installs failing) may gs =
    let done = resolution_done servers cell gs volume some lasts installs failing may in
    stand_behind servers cell gs (after_step cell (Resolves volume some lasts installs failing)) volume
    done.behind.clients done.behind.pool done.behind.elsewhere
    (λ joins s. elim (done.behind.each joins s) [ inl same ↦ inl same | inr put ↦ inr (put.objects, (_, put.more)) ]) done.sound
    (group_behind servers cell gs volume some lasts installs failing may
    (after_step cell (Resolves volume some lasts installs failing)) done.behind)
steps_keep_group_sound servers cell (Repairs volume source names some lasts installs failing) may gs =
    let done = repair_done servers cell gs volume source names some lasts installs failing may in
    stand_behind servers cell gs (after_step cell (Repairs volume source names some lasts installs failing)) volume
    done.behind.clients done.behind.pool done.behind.elsewhere
    (λ joins s. elim (done.behind.each joins s) [ inl same ↦ inl same | inr put ↦ inr (put.objects, (_, put.more)) ]) done.sound
    (group_repaired servers cell gs volume source names some lasts installs failing may
    (after_step cell (Repairs volume source names some lasts installs failing)) done.behind)

pub steps_are_moves : StepsAreMoves
steps_are_moves servers cell (Moves move) may gs = (may.0, refl)
steps_are_moves servers cell (Resolves volume some lasts installs failing) may gs =
    (resolution_done servers cell gs volume some lasts installs failing may).moved
steps_are_moves servers cell (Repairs volume source names some lasts installs failing) may gs =
    (repair_done servers cell gs volume source names some lasts installs failing may).moved

-- ---- runs

-- a new volume: its replicas hold the root alone
pub new_group : (servers : List ℕ) (h : Histories) (volume : ℕ) → ((s : ℕ) → h.replicas s volume ≡ [])
    → IsOneGroup h servers volume
new_group servers h volume none = record {
  kind = λ f. true;
  top = refl;
  each = λ s i. subst (IsReplica h volume (λ f. true)) (sym (ap (replica_objects s volume) (none s))) (
      let root = root_of volume in
      let at = new_sound root (λ f. same_fid f root) (λ f. refl) in
      record {
        tree = at.tree;
        kinds = at.kinds;
        rings = new_ringed root;
        known = λ f e. inl (same_fid_is f root (at.was_made f e));
      });
}

none_found : {E : Type 0} (b : Bool) → found {E = E} b new_actor ≡ []
none_found b = found_up b new_actor refl

empty_stands : (servers : ℕ → List ℕ) → IsGroupSound servers empty_cell
empty_stands servers = record {
  sound = runs_are_sound [] empty_cell refl;
  stand = λ joins. record {
    truths = λ s v d verdict i j. absurd (subst (λ es. In d (decisions_of v es)) (none_found (joins.replicas s v)) i);
    sent = λ m c s v n e. cc;
    taken =
        λ s v c objects lasts i some. absurd (subst (In (Resolved objects lasts)) (none_found (joins.replicas s v))
        i);
    numbered = λ c v. subst (λ es. AreNumbers v c (deeds_of v es)) (sym (none_found (joins.clients c))) tt;
    groups = λ v. new_group (servers v) (found_in empty_cell joins) v (λ s. none_found (joins.replicas s v));
  };
}

pub stepped_sound : (servers : ℕ → List ℕ) (steps : List GroupStep) (before behind : PlainCell)
    → GroupStepped servers before steps behind → IsGroupSound servers before → IsGroupSound servers behind
stepped_sound servers [] before behind run gs = subst (λ c. IsGroupSound servers c) (sym run) gs
stepped_sound servers (step ∷ steps) before behind run gs =
    stepped_sound servers steps (after_step before step) behind run.1
    (steps_keep_group_sound servers before step run.0 gs)

pub group_runs_are_sound : GroupRunsAreSound
group_runs_are_sound servers steps cell run = stepped_sound servers steps empty_cell cell run (empty_stands servers)
