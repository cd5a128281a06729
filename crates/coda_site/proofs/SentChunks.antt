-- What a client that sends a chunk leaves of a site.
use Rattle.std.proofs.Common.{◌≡◌, ◌≤◌, ℕ, zero, suc, arith, ◌+◌, ◌==◌, Bool, true, false, not, List, [], ◌++◌, append-nil, map, Option, Some, None, is_some, option_map, Result, Ok, Err, refl, sym, ap, subst, ◌∙◌, inl}
use Rattle.std.specs.Option.{option_map_or, unwrap_or}
use Rattle.std.specs.BTreeMap.{BTreeMap}
use Rattle.std.proofs.lemmas.Bool.{false≢true, eq-eqb}
use Rattle.coda_disk.specs.Told.{Told}
use Rattle.coda_record.specs.Form.{eight}
use Rattle.coda_record.specs.Spelling.{HasSpelling}
use Rattle.coda_record.specs.Table as table
use Rattle.coda_spelling.proofs.SpelledParts.{within}
use Rattle.coda_journal.specs.declared.header.Header.{Header}
use Rattle.coda_plain.specs.Cell.{ClientEntry}
use Rattle.coda_plain.proofs.Soundness.{none_joins}
use Rattle.coda_script.specs.declared.line.Line.TheVariants as line
use Rattle.coda_script.specs.declared.line.Strength.{Strength}
use Rattle.coda_script.specs.declared.line.Strength.TheVariants.{Strong, Weak, Down}
use Rattle.coda_script.specs.declared.reply.Reply.{Reply}
use Rattle.coda_script.specs.declared.reply.Reply.TheVariants as replies
use Rattle.coda_actors.specs.Clients.{client_form}
use Rattle.coda_actors.specs.Slots.{is_up}
use Rattle.coda_actors.specs.declared.slot.Slot.{Slot}
use Rattle.coda_actors.specs.declared.slot.Slot.TheVariants.{Started}
use Rattle.coda_crew.specs.Crews.{slot_at, KeepsOtherSlots}
use Rattle.coda_net.specs.Pool.{Pool}
use Rattle.coda_letters.specs.Calls.{IsSent}
use Rattle.coda_letters.specs.Sent.{Sent, ChunkSent, number_of}
use Rattle.coda_venus.specs.Standing.{IsUp}
use Rattle.coda_venus.specs.declared.refused.Refused.{Refused as VenusRefused}
use Rattle.coda_venus.specs.declared.venus.Venus.{Venus}
use Rattle.coda_cell.specs.Cells.{linked_in}
use Rattle.coda_cell.specs.Made.{client_of}
use Rattle.coda_cell.specs.Runs.{AreNumbered}
use Rattle.coda_cell.specs.Messages.{Ending, over, posting, going_by, going, Going, sends_of, sends}
use Rattle.coda_cell.specs.Refusing.{refusal}
use Rattle.coda_cell.specs.Sending.{Freezing, freezing}
use Rattle.coda_cell.specs.State.{ClientVolume, ReplicaState, CellState, at_client, new_replica, replica_after_all}
use Rattle.coda_cell.specs.Steps.{Named, client_named, volume_named, holder_named, on_holder, first_missing, reply_to, BySend}
use Rattle.coda_cell.specs.Refused.{Refused}
use Rattle.coda_cell.specs.Refused as refused
use Rattle.coda_cell.proofs.Histories.{server_stays}
use Rattle.coda_matching.specs.Clients.{journal_by, IsClientHistory}
use Rattle.coda_sending.specs.Ending.{entries_on, deeds_for, number_said, FreezingEnds}
use Rattle.coda_sending.proofs.Kept.{GoesOn, frozen_so}
use Rattle.coda_shelves.specs.Cells.{Cell, state_of, after_all}
use Rattle.coda_shelves.specs.Lines.{refused_down, refused_full, client_down, is_cut, needs, is_down_for, Fits as FitsEvents, EndsBy, Acts, Becoming, DoesUp, UnlessDown, Happens}
use Rattle.coda_site.specs.Chunks.{volume_by, ClientEnds}
use Rattle.coda_site.specs.Drains.{Acted, PostsChunk}
use Rattle.coda_site.specs.Shelves.{Shows}
use Rattle.coda_site.specs.Sites.{is_client_disk, place_in, IsSite}
use Rattle.coda_site.specs.Steps.{Becomes}
use Rattle.coda_site.specs.declared.site.Place.{Place}
use Rattle.coda_site.specs.declared.site.Site.{Site}
use Rattle.coda_site.proofs.Becomings.{RepliesTo, named_there, named_missing, missing_becomes, down_becomes, up_becomes, says}
use Rattle.coda_site.proofs.ClientSites.{IsClientUp, up_at, entries_left, with_entries, with_clients, entered, entries_fit, leaves}
use Rattle.coda_site.proofs.ReplicaSites.{StandsAt, stands_at, replica_is}
use Rattle.coda_site.proofs.Stages.{ends_behind, EndsAt, IsFirst, client_refused}
use Rattle.coda_site.proofs.Drained.{there_all, IsFrozenAs, frozen_as}
use Rattle.coda_site.proofs.Holders.{names_in, missing_named, client_down_by, cut_is}
use Rattle.coda_site.proofs.Posted.{with_net, sent_site}

-- the client's freeze is first
freeze_first : (s : CellState) (client volume server : ℕ) (o : Result Freezing Refused) → IsFirst client (entries_on volume (deeds_for o)) (number_said o) (sends_of s client volume server o).events (reply_to (sends_of s client volume server o).said)
freeze_first s client volume server (Err why) = record { more = []; is = refl; stays = λ w e. ((let same : why ≡ w = cc in ap refusal same), refl) }
freeze_first s client volume server (Ok f) = record { more = (going (ChunkSent client server volume f.number f.span) s).events; is = refl; stays = λ w e. cc }

over_link : {A : Type 0} (x : Strength) (o : Result A Refused) → not (is_cut x) ≡ true → over x o ≡ o
over_link Strong o up = refl
over_link Weak o up = refl
over_link Down o up = absurd (false≢true up)

-- a letter goes by what waits
going_same : (s t : CellState) (sent : Sent) (o : Option ℕ) → s.waiting ≡ t.waiting → s.posted ≡ t.posted → going_by o sent s ≡ going_by o sent t
going_same s t sent (Some message) waiting posted = refl
going_same s t sent None waiting posted = λ i. record { message = posted i + 1; events = posting sent (waiting i) }

module _ {D : Type 0} (told : D → Told) (out : ℕ → Bool) (has : ℕ → Told) (cell : Cell) (site : Site D) (is : IsSite told out has cell site) (client volume server window : ℕ) (place : Place) (at : StandsAt cell.rows volume place) (home : place.server ≡ server)
    (ch : Header) (venus : Venus D) (up : IsClientUp told out cell site.clients client ch venus) where
  abbrev h : List ClientEntry
  h = (cell.clients client).disk.history

  abbrev v : ClientVolume
  v = volume_by ch h volume

  abbrev s : CellState
  s = state_of cell

  all_named : first_missing (on_holder s client volume server) ≡ None
  all_named =
      let there = replica_is told out has cell site is volume place at in
      let r = replica_after_all (new_replica place.server volume) (cell.replicas at.row place.server).disk.history in
      there_all (client_named s client) (volume_named s volume) (holder_named s server volume) (ap is_some up.shown) (ap is_some there)
      (ap (λ (o : Option ReplicaState). option_map_or (λ (x : ReplicaState). x.server == server) o false) there
      ∙ eq-eqb r.server server (server_stays (new_replica place.server volume) (cell.replicas at.row place.server).disk.history ∙ home))

  abbrev wanted : Result Freezing Refused
  wanted = freezing site.clock window server v

  abbrev outcome : Ending
  outcome = sends_of s client volume server wanted

  -- what ends so is a chunk that is sent
  pub is_sent : not (is_cut (linked_in site.net client server)) ≡ true → (after : Site D) (reply : Reply) → EndsAt told out has cell outcome.events (reply_to outcome.said) reply after
      → Acted told out has cell (line.Send client volume server (Some window)) reply after
  is_sent link after reply (left, ends, stands) =
      let whole : sends s client volume server window v ≡ outcome =
      ap (sends_of s client volume server) (ap (λ (x : Strength). over x (freezing cell.clock window server v)) (is.net.links_are client server)
      ∙ over_link (linked_in site.net client server) (freezing cell.clock window server v) link ∙ ap (λ (now : ℕ). freezing now window server v) is.clock) in (
        left,
        record {
          own = reply_to outcome.said;
          events = outcome.events;
          does = named_there (on_holder s client volume server) (BySend s client volume server window) (reply_to outcome.said) outcome.events all_named (record {
            client = client_of ch.number h ch.cache;
            there = up.shown;
            answered = ap (λ (o : Ending). reply_to o.said) (sym whole);
            happened = ap (λ (o : Ending). o.events) (sym whole);
          });
          ends = ends;
        },
        stands,
      )

  -- nothing is sent over a link that carries nothing
  pub cut_sent : linked_in site.net client server ≡ Down → (reply : Reply) → reply ≡ refusal refused.LinkDown → Acted told out has cell (line.Send client volume server (Some window)) reply site
  cut_sent cut reply replied =
      let whole : sends s client volume server window v ≡ sends_of s client volume server (Err refused.LinkDown) =
      ap (sends_of s client volume server) (ap (λ (x : Strength). over x (freezing cell.clock window server v)) (is.net.links_are client server ∙ cut)) in (
        cell,
        record {
          own = refusal refused.LinkDown;
          events = [];
          does = named_there (on_holder s client volume server) (BySend s client volume server window) (refusal refused.LinkDown) [] all_named (record {
            client = client_of ch.number h ch.cache;
            there = up.shown;
            answered = ap (λ (o : Ending). reply_to o.said) (sym whole);
            happened = ap (λ (o : Ending). o.events) (sym whole);
          });
          ends = inl (tt, replied, refl);
        },
        is,
      )

  module _ (seen : (d : D) → (told d).honest → (told d).may_leave (told d).seen) (clients : BTreeMap ℕ (Slot (Venus D) D)) (others : KeepsOtherSlots client site.clients clients) (frozen : Venus D) (put : slot_at clients client ≡ Started ch frozen) where
    -- the freeze was refused
    pub unfrozen : (why : VenusRefused) (reply : Reply) → FreezingEnds told ch h volume wanted frozen (Err why) → RepliesTo (λ (n : ℕ). refused_full) (Err why) reply → EndsAt told out has cell outcome.events (reply_to outcome.said) reply (with_clients site clients)
    unfrozen why reply ends replied =
        client_refused told out has cell client (entries_on volume (deeds_for wanted)) (number_said wanted) (λ (a b : ℕ). a ≡ b) (with_clients site clients) outcome.events (reply_to outcome.said)
        (freeze_first s client volume server wanted) (λ (n : ℕ). refused_full) why reply
        (leaves told out has cell site clients client ch venus frozen is up others put (entries_on volume (deeds_for wanted)) (number_said wanted) (λ (a b : ℕ). a ≡ b) (Err why) (seen frozen.journal.disk) ends) replied

  -- it was done, and the chunk went
  module _ (clients : BTreeMap ℕ (Slot (Venus D) D)) (others : KeepsOtherSlots client site.clients clients) (frozen : Venus D) (put : slot_at clients client ≡ Started ch frozen) (chunk : ℕ) (froze : IsFrozenAs told ch h volume wanted frozen chunk)
      (net : Pool) (links : net.links ≡ site.net.links) (message : ℕ) (posts : PostsChunk told client volume server chunk clients site.net net message) (numbered : AreNumbered 0 cell.posted cell.waiting) where
    abbrev f : Freezing
    f = froze.f

    abbrev entries : List ClientEntry
    entries = entries_on volume f.deeds

    abbrev cell1 : Cell
    cell1 = with_entries cell client entries

    so : (GoesOn ch h volume f.deeds f.volume) × (f.volume.front ≡ f.span)
    so = let s = frozen_so ch h volume up.lawful site.clock window server f froze.is in (s.0 froze.runs.lawful, s.1)

    is1 : IsSite told out has cell1 (with_clients site clients)
    is1 = subst (λ (c : Cell). IsSite told out has c (with_clients site clients)) (entries_left cell client entries) (entered told out has cell site clients client ch venus frozen is up others put entries froze.runs)

    fits1 : FitsEvents cell (map (at_client client) entries)
    fits1 = entries_fit told out has cell site clients client ch venus frozen is up others put entries []
        (subst (λ (e : List ClientEntry). IsUp told ch frozen (journal_by (h ++ e))) (sym (append-nil entries)) froze.runs)

    abbrev sent : Sent
    sent = ChunkSent client server volume f.number f.span

    went : IsSent cell.waiting sent site.net message net
    went = subst (λ (x : Sent). IsSent cell.waiting x site.net message net)
        (λ i. ChunkSent client server volume (sym froze.number i) ((ap (λ (w : ClientVolume). w.front) so.0.leaves ∙ so.1) i))
        (posts ch frozen (h ++ entries) cell.waiting put froze.runs so.0.lawful is.net.letters)

    gone : FitsEvents cell1 (going sent (state_of cell1)).events × IsSite told out has (after_all cell1 (going sent (state_of cell1)).events) (with_net (with_clients site clients) net)
        × (message ≡ (going sent (state_of cell1)).message)
    gone = sent_site told out has cell1 (with_clients site clients) is1 net sent message links numbered went

    same : going sent (state_of cell1) ≡ going sent s
    same = going_same (state_of cell1) s sent (number_of sent cell.waiting) refl refl

    abbrev own : Ending
    own = sends_of s client volume server (Ok f)

    pub chunk_sent : EndsAt told out has cell outcome.events (reply_to outcome.said) (replies.Sent message chunk) (with_net (with_clients site clients) net)
    chunk_sent =
        let reply_is : replies.Sent message chunk ≡ reply_to own.said = (λ i. replies.Sent ((gone.2 ∙ ap (λ (g : Going). g.message) same) i) (sym froze.number i)) in
        let left = after_all cell1 (going sent (state_of cell1)).events in (
          left,
          subst (λ (o : Result Freezing Refused). EndsBy cell (sends_of s client volume server o).events (reply_to (sends_of s client volume server o).said) (replies.Sent message chunk) left) (sym froze.is)
              (ends_behind cell (map (at_client client) entries) (going sent s).events (reply_to own.said) (replies.Sent message chunk) left fits1
              (subst (λ (c : Cell). EndsBy c (going sent s).events (reply_to own.said) (replies.Sent message chunk) left) (sym (entries_left cell client entries))
              (subst (λ (g : Going). EndsBy cell1 g.events (reply_to own.said) (replies.Sent message chunk) left) same (inl (gone.0, reply_is, refl))))),
          gone.1,
        )

-- ---- by the calls

module _ {D : Type 0} (told : D → Told) (out : ℕ → Bool) (has : ℕ → Told) (cell : Cell) (site : Site D) (shows : Shows told out has cell site) (client volume server window : ℕ) (here : is_client_disk client ≡ true) where
  abbrev AsFrozen : Result ℕ VenusRefused → Header → List ClientEntry → Venus D → Type 0
  AsFrozen result header history left = FreezingEnds told header history volume (freezing site.clock window server (volume_by header history volume)) left result

  module _ (on : is_up (client_form told) (slot_at site.clients client) ≡ true) where
    c : (header : Header) × (venus : Venus D) × IsClientUp told out cell site.clients client header venus
    c = up_at told out has cell shows.kept site client shows.stands here on

    abbrev hist : List ClientEntry
    hist = (cell.clients client).disk.history

    module _ (clients : BTreeMap ℕ (Slot (Venus D) D)) (chunk : ℕ) (ends : ClientEnds told client site.clients clients (AsFrozen (Ok chunk))) where
      e : (left : Venus D) × (slot_at clients client ≡ Started c.0 left) × ((history : List ClientEntry) → IsUp told c.0 c.1 (journal_by history) → IsClientHistory c.0 history → AsFrozen (Ok chunk) c.0 history left)
      e = ends c.0 c.1 c.2.slot

      froze : IsFrozenAs told c.0 hist volume (freezing site.clock window server (volume_by c.0 hist volume)) e.0 chunk
      froze = frozen_as told c.0 hist volume (freezing site.clock window server (volume_by c.0 hist volume)) e.0 chunk (e.2 hist c.2.up c.2.lawful)

    module _ (place : Place) (placed : place_in site volume ≡ Some place) (home : place.server ≡ server) where
      at : StandsAt cell.rows volume place
      at = stands_at told out has cell site shows volume place placed

      pub send_cut : not (is_cut (linked_in site.net client server)) ≡ false → (reply : Reply) → reply ≡ refusal refused.LinkDown → Acted told out has cell (line.Send client volume server (Some window)) reply site
      send_cut cut = cut_sent told out has cell site shows.stands client volume server window place at home c.0 c.1 c.2 (cut_is (linked_in site.net client server) cut)

      module _ (link : not (is_cut (linked_in site.net client server)) ≡ true) (clients : BTreeMap ℕ (Slot (Venus D) D)) (others : KeepsOtherSlots client site.clients clients) where
        pub send_unfrozen : (seen : (d : D) → (told d).honest → (told d).may_leave (told d).seen) (why : VenusRefused) → ClientEnds told client site.clients clients (AsFrozen (Err why)) → (reply : Reply) → RepliesTo (λ (n : ℕ). refused_full) (Err why) reply
            → Acted told out has cell (line.Send client volume server (Some window)) reply (with_clients site clients)
        send_unfrozen seen why ends reply replied =
            let x = ends c.0 c.1 c.2.slot in
            is_sent told out has cell site shows.stands client volume server window place at home c.0 c.1 c.2 link (with_clients site clients) reply
            (unfrozen told out has cell site shows.stands client volume server window place at home c.0 c.1 c.2 seen clients others x.0 x.1 why reply (x.2 hist c.2.up c.2.lawful) replied)

        pub send_done : (chunk : ℕ) (ends : ClientEnds told client site.clients clients (AsFrozen (Ok chunk))) (net : Pool) → net.links ≡ site.net.links → (message : ℕ) → PostsChunk told client volume server chunk clients site.net net message
            → Acted told out has cell (line.Send client volume server (Some window)) (replies.Sent message chunk) (with_net (with_clients site clients) net)
        send_done chunk ends net links message posts =
            is_sent told out has cell site shows.stands client volume server window place at home c.0 c.1 c.2 link (with_net (with_clients site clients) net) (replies.Sent message chunk)
            (chunk_sent told out has cell site shows.stands client volume server window place at home c.0 c.1 c.2 clients others (e clients chunk ends).0 (e clients chunk ends).1 chunk (froze clients chunk ends) net links message posts (shows.kept.letters none_joins).letters.numbered)

  -- ---- the whole line

  module _ (answered : List (List ℕ)) where
    abbrev IsDone : Reply → Site D → Type 0
    IsDone reply after = Becomes told out has (Happens cell (line.Send client volume server (Some window))) reply answered answered after

    abbrev names : List Named
    names = on_holder (state_of cell) client volume server

    abbrev done : Becoming
    done reply outside left = (outside ≡ []) × Acts cell (line.Send client volume server (Some window)) reply left

    pub send_missing : (result : Option ℕ) (number : ℕ) → result ≡ Some number → option_map refused.NoSuchActor result ≡ first_missing (names_in site client volume server) → (reply : Reply) → reply ≡ refusal (refused.NoSuchActor number) → IsDone reply site
    send_missing result number e missing reply replied =
        let none = missing_named told out has cell site shows client volume server here result number e missing in
        missing_becomes told out has cell names (client_down cell client) done reply answered site (refused.NoSuchActor number) none
        (refl, says cell (line.Send client volume server (Some window)) reply (named_missing names (refused.NoSuchActor number) (BySend (state_of cell) client volume server window) reply none replied)) shows.stands

    module _ (none : first_missing names ≡ None) where
      pub send_down : (reply : Reply) → reply ≡ refused_down → is_up (client_form told) (slot_at site.clients client) ≡ false → IsDone reply site
      send_down reply replied off = down_becomes told out has cell names (client_down cell client) done reply answered site none (client_down_by told out has cell site shows client volume server here none false off) replied shows.stands

      pub send_happens : is_up (client_form told) (slot_at site.clients client) ≡ true → (reply : Reply) (after : Site D) → Acted told out has cell (line.Send client volume server (Some window)) reply after → IsDone reply after
      send_happens on reply after (left, acts, stands) = up_becomes told out has cell names (client_down cell client) done reply answered after none (client_down_by told out has cell site shows client volume server here none true on) left (refl, acts) stands

-- a number of a chunk that can be told
pub number_told : (n : ℕ) → (n ≡ 0 → ⊥) → n ≤ 4294967295 → HasSpelling table.ordinal n
number_told zero not most = absurd (not refl)
number_told (suc n) not most = within 1 4294967295 eight (suc n) (omega arith) most (omega (arith, most))

-- ---- windows

module _ (cell : Cell) (client volume server : ℕ) (window : Option ℕ) (reply : Reply) (outside : List (List ℕ)) (left : Cell) where
  windowed_by : (down : Bool) → UnlessDown down cell (DoesUp cell (line.Send client volume server (Some (unwrap_or window 600)))) reply outside left → UnlessDown down cell (DoesUp cell (line.Send client volume server window)) reply outside left
  windowed_by true stays = stays
  windowed_by false sent = (sent.0, record { own = sent.1.own; events = sent.1.events; does = sent.1.does; ends = sent.1.ends })

  -- a line that names no window sends as one that names the one that is meant
  pub windowed : (w : ℕ) → w ≡ unwrap_or window 600 → Happens cell (line.Send client volume server (Some w)) reply outside left → Happens cell (line.Send client volume server window) reply outside left
  windowed w same sent = windowed_by (is_down_for (needs cell (line.Send client volume server window))) (subst (λ (x : ℕ). Happens cell (line.Send client volume server (Some x)) reply outside left) same sent)
