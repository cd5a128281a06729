-- What a drain leaves of a site: the client's freeze, the replica's ruling, and the taking of its answer.
use Rattle.std.proofs.Common.{◌≡◌, ℕ, ◌==◌, Bool, true, false, cond, not, List, [], ◌∷◌, ◌++◌, append-nil, map, Option, Some, None, is_some, Result, Ok, Err, refl, sym, ap, subst, ◌∙◌, inl}
use Rattle.std.specs.Prelude.{⊤}
use Rattle.std.specs.Option.{option_map_or}
use Rattle.std.specs.BTreeMap.{BTreeMap}
use Rattle.std.proofs.lemmas.Bool.{false≢true, eq-eqb}
use Rattle.coda_disk.specs.Told.{Told}
use Rattle.coda_fid.specs.declared.op.Record.{Record}
use Rattle.coda_journal.specs.declared.header.Header.{Header}
use Rattle.coda_plain.specs.Cell.{ClientEntry}
use Rattle.coda_plain.specs.Decisions.{sent_of}
use Rattle.coda_script.specs.declared.line.Line.TheVariants as line
use Rattle.coda_script.specs.declared.line.Strength.{Strength}
use Rattle.coda_script.specs.declared.line.Strength.TheVariants.{Strong, Weak, Down}
use Rattle.coda_script.specs.declared.line.Task.TheVariants as task
use Rattle.coda_script.specs.declared.reply.Reply.{Reply}
use Rattle.coda_script.specs.declared.reply.Reply.TheVariants.{Drained}
use Rattle.coda_actors.specs.Plain.{PlainActor}
use Rattle.coda_actors.specs.declared.slot.Slot.{Slot}
use Rattle.coda_actors.specs.declared.slot.Slot.TheVariants.{Started}
use Rattle.coda_crew.specs.Crews.{slot_at, KeepsOtherSlots}
use Rattle.coda_replica.specs.Standing.{IsUp as IsRulerUp}
use Rattle.coda_replica.specs.declared.fault.ReplicaFault.{ReplicaFault}
use Rattle.coda_replica.specs.declared.replica.Replica.{Replica}
use Rattle.coda_venus.specs.Standing.{IsUp}
use Rattle.coda_venus.specs.declared.refused.Refused.{Refused as VenusRefused}
use Rattle.coda_venus.specs.declared.venus.Venus.{Venus}
use Rattle.coda_cell.specs.Cells.{linked_in}
use Rattle.coda_cell.specs.Made.{client_of}
use Rattle.coda_cell.specs.Refusing.{refusal}
use Rattle.coda_cell.specs.Sending.{Freezing, freezing, Ruling, ruling, Taking, taking, Outcome, deeds_at, entries_at, reply_answer, answered_to, ruled_on, drained_of, drained, drain, stays}
use Rattle.coda_cell.specs.State.{ClientVolume, ReplicaState, Event, at_client, new_replica, replica_after_all}
use Rattle.coda_cell.specs.Steps.{Named, client_named, volume_named, holder_named, on_holder, first_missing, reply_to, ByBoth}
use Rattle.coda_cell.specs.Refused.{Refused}
use Rattle.coda_cell.specs.Refused as refused
use Rattle.coda_cell.proofs.Events.{ruling_left}
use Rattle.coda_cell.proofs.Histories.{server_stays}
use Rattle.coda_matching.specs.Clients.{journal_by, IsClientHistory}
use Rattle.coda_matching.specs.Replicas.{journal_at, RulingEnds}
use Rattle.coda_sending.specs.Ending.{entries_on, deeds_for, number_said, FreezingEnds, deeds_by, nothing_said, TakingEnds}
use Rattle.coda_sending.proofs.Kept.{GoesOn, frozen_so}
use Rattle.coda_shelves.specs.Cells.{Cell, state_of, after_all}
use Rattle.coda_shelves.specs.Lines.{refused_full, is_cut, Fits as FitsEvents, EndsBy}
use Rattle.coda_site.specs.Chunks.{volume_by, replica_by}
use Rattle.coda_site.specs.Drains.{Acted}
use Rattle.coda_site.specs.Sites.{IsSite}
use Rattle.coda_site.specs.declared.site.Place.{Place}
use Rattle.coda_site.specs.declared.site.Site.{Site}
use Rattle.coda_site.proofs.Becomings.{RepliesTo, named_there}
use Rattle.coda_site.proofs.ClientSites.{IsClientUp, entries_left, history_left, with_entries, with_clients, entered, entries_fit, leaves}
use Rattle.coda_site.proofs.ReplicaSites.{StandsAt, IsReplicaThere, replica_is, with_replicas}
use Rattle.coda_site.proofs.Stages.{ends_behind, EndsAt, IsFirst, client_refused, up_on, up_beside, clients_still, IsRuledFirst, UnruledReply, ruled_fits, ruled_left, replica_refused}

-- ---- who is there

pub there_all : (a b c : Named) → a.there ≡ true → b.there ≡ true → c.there ≡ true → first_missing (a ∷ b ∷ c ∷ []) ≡ None
there_all a b c x y z =
    ap (λ (w : Bool). cond w (first_missing (b ∷ c ∷ [])) (Some (refused.NoSuchActor a.number))) x
    ∙ ap (λ (w : Bool). cond w (first_missing (c ∷ [])) (Some (refused.NoSuchActor b.number))) y
    ∙ ap (λ (w : Bool). cond w None (Some (refused.NoSuchActor c.number))) z

-- ---- a chunk that was frozen

-- what a client froze: by what was wanted, with its number, and with these entries more
pub record IsFrozenAs {D : Type 0} (told : D → Told) (header : Header) (history : List ClientEntry) (volume : ℕ) (wanted : Result Freezing Refused) (left : Venus D) (chunk : ℕ) : Type 0 where
  pub f : Freezing
  pub is : wanted ≡ Ok f
  pub number : f.number ≡ chunk
  pub runs : IsUp told header left (journal_by (history ++ entries_on volume f.deeds))

same_number : (n m : ℕ) → (let r : Result ℕ Refused = Ok n in r ≡ Ok m) → n ≡ m
same_number n m e = cc

pub frozen_as : {D : Type 0} (told : D → Told) (header : Header) (history : List ClientEntry) (volume : ℕ) (wanted : Result Freezing Refused) (left : Venus D) (chunk : ℕ) → FreezingEnds told header history volume wanted left (Ok chunk)
    → IsFrozenAs told header history volume wanted left chunk
frozen_as told header history volume (Ok f) left chunk ends = record { f = f; is = refl; number = same_number f.number ends.0 ends.1 ∙ ends.2; runs = ends.3 }
frozen_as told header history volume (Err why) left chunk ends = (let no = ends.1 in cc)

-- what it took
pub record IsTakenAs {D : Type 0} (told : D → Told) (header : Header) (history : List ClientEntry) (volume : ℕ) (wanted : Result Taking Refused) (left : Venus D) : Type 0 where
  pub took : Taking
  pub is : wanted ≡ Ok took
  pub runs : IsUp told header left (journal_by (history ++ entries_on volume took.deeds))

pub taken_as : {D : Type 0} (told : D → Told) (header : Header) (history : List ClientEntry) (volume : ℕ) (wanted : Result Taking Refused) (left : Venus D) (u : ⊤) → TakingEnds told header history volume wanted left (Ok u)
    → IsTakenAs told header history volume wanted left
taken_as told header history volume (Ok took) left u ends = record { took = took; is = refl; runs = ends.3 }
taken_as told header history volume (Err why) left u ends = (let no = ends.1 in cc)

-- ---- events of a drain

module _ (client volume : ℕ) (r : ReplicaState) where
  abbrev answered_events : (f : Freezing) (ruled : Ruling) (o : Result Taking Refused) → (more : List Event) × ((answered_to client volume f ruled o).events ≡ deeds_at client volume f.deeds ++ (entries_at ruled.replica.server volume ruled.entries ++ more))
  answered_events f ruled (Err why) = ([], ap (λ (l : List Event). deeds_at client volume f.deeds ++ l) (sym (append-nil (entries_at ruled.replica.server volume ruled.entries))))
  answered_events f ruled (Ok took) = (deeds_at client volume took.deeds, refl)

  abbrev ruled_events : (f : Freezing) (o : Result Ruling Refused) → (more : List Event) × ((ruled_on client volume f r o).events ≡ deeds_at client volume f.deeds ++ more)
  ruled_events f (Err why) = ([], sym (append-nil (deeds_at client volume f.deeds)))
  ruled_events f (Ok ruled) = (let e = answered_events f ruled (taking f.number ruled.answer f.volume) in (entries_at ruled.replica.server volume ruled.entries ++ e.0, e.1))

  -- the client's freeze is first
  freeze_first : (v : ClientVolume) (o : Result Freezing Refused) → IsFirst client (entries_on volume (deeds_for o)) (number_said o) (drained_of client volume v r o).events (reply_to (drained_of client volume v r o).said)
  freeze_first v (Err why) = record { more = []; is = refl; stays = λ w e. ((let same : why ≡ w = cc in ap refusal same), refl) }
  freeze_first v (Ok f) = (let e = ruled_events f (ruling client f.number f.span r) in record { more = e.0; is = e.1; stays = λ w no. cc })

  -- then the replica's ruling, on its server
  abbrev behind_freeze : (f : Freezing) (o : Result Ruling Refused) → List Event
  behind_freeze f o = (ruled_events f o).0

  rule_first : (server : ℕ) (f : Freezing) (o : Result Ruling Refused) → ((ruled : Ruling) → o ≡ Ok ruled → ruled.replica.server ≡ server) → IsRuledFirst server volume o (behind_freeze f o) (reply_to (ruled_on client volume f r o).said)
  rule_first server f (Err why) home = record { goes = λ ruled e. cc; stays = λ w e. ((let same : why ≡ w = cc in ap refusal same), refl) }
  rule_first server f (Ok ruled) home = record {
    goes = λ other e.
        let same : ruled ≡ other = cc in (
          (answered_events f ruled (taking f.number ruled.answer f.volume)).0,
          ap (λ (s : ℕ). entries_at s volume ruled.entries ++ (answered_events f ruled (taking f.number ruled.answer f.volume)).0) (home ruled refl)
              ∙ ap (λ (x : Ruling). entries_at server volume x.entries ++ (answered_events f ruled (taking f.number ruled.answer f.volume)).0) same,
        );
    stays = λ w e. cc;
  }

  -- and the taking of its answer last
  abbrev behind_ruling : (f : Freezing) (ruled : Ruling) (o : Result Taking Refused) → List Event
  behind_ruling f ruled o = (answered_events f ruled o).0

  take_first : (f : Freezing) (ruled : Ruling) (o : Result Taking Refused) → IsFirst client (entries_on volume (deeds_by o)) (nothing_said o) (behind_ruling f ruled o) (reply_to (answered_to client volume f ruled o).said)
  take_first f ruled (Err why) = record { more = []; is = refl; stays = λ w e. ((let same : why ≡ w = cc in ap refusal same), refl) }
  take_first f ruled (Ok took) = record { more = []; is = sym (append-nil (deeds_at client volume took.deeds)); stays = λ w e. cc }

  took_events : (f : Freezing) (ruled : Ruling) (o : Result Taking Refused) (took : Taking) → o ≡ Ok took → behind_ruling f ruled o ≡ map (at_client client) (entries_on volume took.deeds)
  took_events f ruled (Err why) took e = cc
  took_events f ruled (Ok other) took e = (let same : other ≡ took = cc in ap (λ (t : Taking). deeds_at client volume t.deeds) same)

-- ---- the link

over_link : (x : Strength) (now window client volume : ℕ) (v : ClientVolume) (r : ReplicaState) → not (is_cut x) ≡ true → drain x now window client volume v r ≡ drained now window client volume v r
over_link Strong now window client volume v r up = refl
over_link Weak now window client volume v r up = refl
over_link Down now window client volume v r up = absurd (false≢true up)

module _ {D : Type 0} (told : D → Told) (out : ℕ → Bool) (has : ℕ → Told) (cell : Cell) (site : Site D) (is : IsSite told out has cell site) (client volume server : ℕ)
    (place : Place) (at : StandsAt cell.rows volume place) (home : place.server ≡ server) (ch : Header) (venus : Venus D) (up : IsClientUp told out cell site.clients client ch venus) where
  -- what the client has, and what the replica is
  abbrev pub h : List ClientEntry
  h = (cell.clients client).disk.history

  abbrev pub v : ClientVolume
  v = volume_by ch h volume

  module _ (rh : Header) (replica : Replica D) (there : IsReplicaThere told out has cell site is volume place at rh replica) where
    abbrev pub r : ReplicaState
    r = replica_by rh (cell.replicas at.row place.server).disk.history

    pub shown_replica : (state_of cell).replicas volume ≡ Some r
    shown_replica = replica_is told out has cell site is volume place at
        ∙ (λ i. Some (replica_after_all (new_replica (sym there.up.home i) (sym there.up.number i)) (cell.replicas at.row place.server).disk.history))

    pub server_is : r.server ≡ server
    server_is = server_stays (new_replica rh.server rh.number) (cell.replicas at.row place.server).disk.history ∙ there.up.home ∙ home

    -- all three are there
    pub all_named : first_missing (on_holder (state_of cell) client volume server) ≡ None
    all_named = there_all (client_named (state_of cell) client) (volume_named (state_of cell) volume) (holder_named (state_of cell) server volume)
        (ap is_some up.shown) (ap is_some shown_replica)
        (ap (λ (o : Option ReplicaState). option_map_or (λ (x : ReplicaState). x.server == server) o false) shown_replica ∙ eq-eqb r.server server server_is)

    -- nothing is drained over a link that carries nothing
    pub cut_drains : (window : ℕ) (reply : Reply) → linked_in site.net client server ≡ Down → reply ≡ refusal refused.LinkDown → Acted told out has cell (line.Task (task.Drain client volume server (Some window))) reply site
    cut_drains window reply cut replied =
        let whole : drain (cell.links client r.server) cell.clock window client volume v r ≡ stays refused.LinkDown v r =
        ap (λ (s : ℕ). drain (cell.links client s) cell.clock window client volume v r) server_is
        ∙ ap (λ (x : Strength). drain x cell.clock window client volume v r) (is.net.links_are client server ∙ cut) in (
          cell,
          record {
            own = refusal refused.LinkDown;
            events = [];
            does = named_there (on_holder (state_of cell) client volume server) (ByBoth (state_of cell) client volume window) (refusal refused.LinkDown) [] all_named (record {
              client = client_of ch.number h ch.cache;
              replica = r;
              client_there = up.shown;
              replica_there = shown_replica;
              answered = ap (λ (o : Outcome). reply_to o.said) (sym whole);
              happened = ap (λ (o : Outcome). o.events) (sym whole);
            });
            ends = inl (tt, replied, refl);
          },
          is,
        )

    -- ---- a drain, by what each stage was to be

    module _ (seen : (d : D) → (told d).honest → (told d).may_leave (told d).seen) (window : ℕ) where
      abbrev pub wanted : Result Freezing Refused
      wanted = freezing site.clock window server v

      abbrev pub outcome : Outcome
      outcome = drained_of client volume v r wanted

      -- what ends so is a drain
      pub drains : (link : not (is_cut (linked_in site.net client server)) ≡ true) (after : Site D) (reply : Reply) → EndsAt told out has cell outcome.events (reply_to outcome.said) reply after
          → Acted told out has cell (line.Task (task.Drain client volume server (Some window))) reply after
      drains link after reply (left, ends, stands) =
          let whole : drain (cell.links client r.server) cell.clock window client volume v r ≡ outcome =
          ap (λ (s : ℕ). drain (cell.links client s) cell.clock window client volume v r) server_is
          ∙ ap (λ (x : Strength). drain x cell.clock window client volume v r) (is.net.links_are client server)
          ∙ over_link (linked_in site.net client server) cell.clock window client volume v r link
          ∙ (λ i. drained_of client volume v r (freezing (is.clock i) window (server_is i) v)) in (
            left,
            record {
              own = reply_to outcome.said;
              events = outcome.events;
              does = named_there (on_holder (state_of cell) client volume server) (ByBoth (state_of cell) client volume window) (reply_to outcome.said) outcome.events all_named (record {
                client = client_of ch.number h ch.cache;
                replica = r;
                client_there = up.shown;
                replica_there = shown_replica;
                answered = ap (λ (o : Outcome). reply_to o.said) (sym whole);
                happened = ap (λ (o : Outcome). o.events) (sym whole);
              });
              ends = ends;
            },
            stands,
          )

      -- ---- the freeze

      module _ (clients : BTreeMap ℕ (Slot (Venus D) D)) (others : KeepsOtherSlots client site.clients clients) (frozen : Venus D) (put : slot_at clients client ≡ Started ch frozen) where
        -- it was refused
        pub unfrozen : (why : VenusRefused) (reply : Reply) → FreezingEnds told ch h volume wanted frozen (Err why) → RepliesTo (λ (n : ℕ). refused_full) (Err why) reply → EndsAt told out has cell outcome.events (reply_to outcome.said) reply (with_clients site clients)
        unfrozen why reply ends replied =
            client_refused told out has cell client (entries_on volume (deeds_for wanted)) (number_said wanted) (λ (a b : ℕ). a ≡ b) (with_clients site clients) outcome.events (reply_to outcome.said)
            (freeze_first client volume r v wanted) (λ (n : ℕ). refused_full) why reply
            (leaves told out has cell site clients client ch venus frozen is up others put (entries_on volume (deeds_for wanted)) (number_said wanted) (λ (a b : ℕ). a ≡ b) (Err why) (seen frozen.journal.disk) ends) replied

        -- it was done
        module _ (chunk : ℕ) (froze : IsFrozenAs told ch h volume wanted frozen chunk) where
          abbrev f : Freezing
          f = froze.f

          abbrev entries : List ClientEntry
          entries = entries_on volume f.deeds

          abbrev cell1 : Cell
          cell1 = with_entries cell client entries

          so : (GoesOn ch h volume f.deeds f.volume) × (f.volume.front ≡ f.span)
          so = let s = frozen_so ch h volume up.lawful site.clock window server f froze.is in (s.0 froze.runs.lawful, s.1)

          is1 : IsSite told out has cell1 (with_clients site clients)
          is1 = subst (λ (c : Cell). IsSite told out has c (with_clients site clients)) (entries_left cell client entries) (entered told out has cell site clients client ch venus frozen is up others put entries froze.runs)

          fits1 : FitsEvents cell (map (at_client client) entries)
          fits1 = entries_fit told out has cell site clients client ch venus frozen is up others put entries []
              (subst (λ (e : List ClientEntry). IsUp told ch frozen (journal_by (h ++ e))) (sym (append-nil entries)) froze.runs)

          up1 : IsClientUp told out cell1 clients client ch frozen
          up1 = subst (λ (c : Cell). IsClientUp told out c clients client ch frozen) (entries_left cell client entries) (up_on told out cell client ch site.clients clients venus frozen entries up put froze.runs so.0.lawful)

          volume1 : volume_by ch (cell1.clients client).disk.history volume ≡ f.volume
          volume1 =
              ap (λ (c : Cell). volume_by ch (c.clients client).disk.history volume) (sym (entries_left cell client entries))
              ∙ ap (λ (a : PlainActor ClientEntry). volume_by ch a.disk.history volume) (history_left cell client entries) ∙ so.0.leaves

          -- what is sent are its operations
          pub sent_is : (recs : List Record) → (IsClientHistory ch (h ++ entries) → recs ≡ sent_of (volume_by ch (h ++ entries) volume).front) → recs ≡ sent_of f.span
          sent_is recs are = are so.0.lawful ∙ ap (λ (w : ClientVolume). sent_of w.front) so.0.leaves ∙ ap sent_of so.1

          outcome_is : outcome ≡ ruled_on client volume f r (ruling client f.number f.span r)
          outcome_is = ap (drained_of client volume v r) froze.is

          -- what ends behind the freeze
          behind : (after : Site D) (reply : Reply) → EndsAt told out has cell1 (behind_freeze client volume r f (ruling client f.number f.span r)) (reply_to (ruled_on client volume f r (ruling client f.number f.span r)).said) reply after
              → EndsAt told out has cell outcome.events (reply_to outcome.said) reply after
          behind after reply (left, ends, stands) = (
            left,
            subst (λ (o : Outcome). EndsBy cell o.events (reply_to o.said) reply left) (sym outcome_is)
                (subst (λ (e : List Event). EndsBy cell e (reply_to (ruled_on client volume f r (ruling client f.number f.span r)).said) reply left) (sym (ruled_events client volume r f (ruling client f.number f.span r)).1)
                (ends_behind cell (map (at_client client) entries) (behind_freeze client volume r f (ruling client f.number f.span r)) (reply_to (ruled_on client volume f r (ruling client f.number f.span r)).said) reply left fits1
                (subst (λ (c : Cell). EndsBy c (behind_freeze client volume r f (ruling client f.number f.span r)) (reply_to (ruled_on client volume f r (ruling client f.number f.span r)).said) reply left) (sym (entries_left cell client entries)) ends))),
            stands,
          )

          -- ---- the ruling

          module _ (replicas : BTreeMap ℕ (Slot (Replica D) D)) (kept_slots : KeepsOtherSlots place.disk site.replicas replicas) (ruler : Replica D) (put_ruler : slot_at replicas place.disk ≡ Started rh ruler) where
            abbrev wanted_ruling : Result Ruling Refused
            wanted_ruling = ruling client f.number f.span r

            home_of : (ruled : Ruling) → wanted_ruling ≡ Ok ruled → ruled.replica.server ≡ place.server
            home_of ruled e = (ruling_left client f.number f.span r ruled e).1 ∙ server_is ∙ sym home

            -- it was refused
            pub unruled : (why : ReplicaFault) (reply : Reply) → RulingEnds told rh (cell.replicas at.row place.server).disk.history wanted_ruling ruler (Err why) → UnruledReply why reply
                → EndsAt told out has cell outcome.events (reply_to outcome.said) reply (with_replicas (with_clients site clients) replicas)
            unruled why reply ends replied = behind (with_replicas (with_clients site clients) replicas) reply
                (replica_refused told out has cell1 (with_clients site clients) is1 volume place at replicas kept_slots rh replica ruler there.lent there.up put_ruler client f.number f.span
                (behind_freeze client volume r f wanted_ruling) (reply_to (ruled_on client volume f r wanted_ruling).said) (rule_first client volume r place.server f wanted_ruling home_of) why reply ends replied)

            -- it was done
            module _ (ruled : Ruling) (ruled_is : wanted_ruling ≡ Ok ruled) (stands : IsRulerUp told rh ruler (journal_at rh.number ((cell.replicas at.row place.server).disk.history ++ ruled.entries))) where
              abbrev decided : List Event
              decided = entries_at place.server volume ruled.entries

              abbrev cell2 : Cell
              cell2 = after_all cell1 decided

              is2 : IsSite told out has cell2 (with_replicas (with_clients site clients) replicas)
              is2 = ruled_left told out has cell1 (with_clients site clients) is1 volume place at replicas kept_slots rh replica ruler there.lent there.up put_ruler client f.number f.span ruled ruled_is stands

              fits2 : FitsEvents cell1 decided
              fits2 = ruled_fits told out has cell1 (with_clients site clients) is1 volume place at replicas kept_slots rh replica ruler there.lent there.up put_ruler client f.number f.span ruled ruled_is stands

              pub up2 : IsClientUp told out cell2 clients client ch frozen
              up2 = up_beside told out cell1 client ch clients frozen volume place at ruled.entries up1

              abbrev pub h2 : List ClientEntry
              h2 = (cell2.clients client).disk.history

              volume2 : volume_by ch h2 volume ≡ f.volume
              volume2 = ap (λ (a : PlainActor ClientEntry). volume_by ch a.disk.history volume) (clients_still cell1 volume place at ruled.entries client) ∙ volume1

              abbrev wanted_taking : Result Taking Refused
              wanted_taking = taking f.number ruled.answer f.volume

              wanted_is : taking f.number ruled.answer (volume_by ch h2 volume) ≡ wanted_taking
              wanted_is = ap (taking f.number ruled.answer) volume2

              abbrev ending : Outcome
              ending = answered_to client volume f ruled wanted_taking

              ending_is : ruled_on client volume f r wanted_ruling ≡ ending
              ending_is = ap (ruled_on client volume f r) ruled_is

              -- what ends behind the ruling
              behind_both : (after : Site D) (reply : Reply) → EndsAt told out has cell2 (behind_ruling client volume r f ruled wanted_taking) (reply_to ending.said) reply after → EndsAt told out has cell outcome.events (reply_to outcome.said) reply after
              behind_both after reply (left, ends, stands_after) = behind after reply (
                left,
                subst (λ (o : Result Ruling Refused). EndsBy cell1 (behind_freeze client volume r f o) (reply_to (ruled_on client volume f r o).said) reply left) (sym ruled_is)
                    (subst (λ (s : ℕ). EndsBy cell1 (entries_at s volume ruled.entries ++ behind_ruling client volume r f ruled wanted_taking) (reply_to ending.said) reply left) (sym (home_of ruled ruled_is))
                    (ends_behind cell1 decided (behind_ruling client volume r f ruled wanted_taking) (reply_to ending.said) reply left fits2 ends)),
                stands_after,
              )

              -- ---- the taking of its answer

              module _ (after : BTreeMap ℕ (Slot (Venus D) D)) (others_after : KeepsOtherSlots client clients after) (settled : Venus D) (put_after : slot_at after client ≡ Started ch settled) where
                abbrev site2 : Site D
                site2 = with_replicas (with_clients site clients) replicas

                -- it was refused
                pub untaken : (why : VenusRefused) (reply : Reply) → TakingEnds told ch h2 volume (taking f.number ruled.answer (volume_by ch h2 volume)) settled (Err why) → RepliesTo (λ (u : ⊤). refused_full) (Err why) reply
                    → EndsAt told out has cell outcome.events (reply_to outcome.said) reply (with_clients site2 after)
                untaken why reply ends replied = behind_both (with_clients site2 after) reply
                    (client_refused told out has cell2 client (entries_on volume (deeds_by wanted_taking)) (nothing_said wanted_taking) (λ (a b : ⊤). a ≡ b) (with_clients site2 after) (behind_ruling client volume r f ruled wanted_taking) (reply_to ending.said)
                    (take_first client volume r f ruled wanted_taking) (λ (u : ⊤). refused_full) why reply
                    (leaves told out has cell2 site2 after client ch frozen settled is2 up2 others_after put_after (entries_on volume (deeds_by wanted_taking)) (nothing_said wanted_taking) (λ (a b : ⊤). a ≡ b) (Err why) (seen settled.journal.disk)
                    (subst (λ (o : Result Taking Refused). TakingEnds told ch h2 volume o settled (Err why)) wanted_is ends)) replied)

                -- it was done
                pub taken : (u : ⊤) → TakingEnds told ch h2 volume (taking f.number ruled.answer (volume_by ch h2 volume)) settled (Ok u)
                    → EndsAt told out has cell outcome.events (reply_to outcome.said) (Drained f.number (reply_answer ruled.answer)) (with_clients site2 after)
                taken u ends =
                    let t = taken_as told ch h2 volume wanted_taking settled u (subst (λ (o : Result Taking Refused). TakingEnds told ch h2 volume o settled (Ok u)) wanted_is ends) in
                    let own : Drained f.number (reply_answer ruled.answer) ≡ reply_to ending.said = ap (λ (o : Result Taking Refused). reply_to (answered_to client volume f ruled o).said) (sym t.is) in
                    let events : behind_ruling client volume r f ruled wanted_taking ≡ map (at_client client) (entries_on volume t.took.deeds) = took_events client volume r f ruled wanted_taking t.took t.is in
                    let fits = entries_fit told out has cell2 site2 after client ch frozen settled is2 up2 others_after put_after (entries_on volume t.took.deeds) []
                    (subst (λ (e : List ClientEntry). IsUp told ch settled (journal_by (h2 ++ e))) (sym (append-nil (entries_on volume t.took.deeds))) t.runs) in
                    behind_both (with_clients site2 after) (Drained f.number (reply_answer ruled.answer)) (
                      after_all cell2 (map (at_client client) (entries_on volume t.took.deeds)),
                      subst (λ (e : List Event). EndsBy cell2 e (reply_to ending.said) (Drained f.number (reply_answer ruled.answer)) (after_all cell2 (map (at_client client) (entries_on volume t.took.deeds)))) (sym events) (inl (fits, own, refl)),
                      entered told out has cell2 site2 after client ch frozen settled is2 up2 others_after put_after (entries_on volume t.took.deeds) t.runs,
                    )
