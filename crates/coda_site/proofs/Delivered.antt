-- What letters that come, and letters that are lost, leave of a site.
use Rattle.std.proofs.Common.{◌≡◌, ◌≢◌, ℕ, Bool, true, false, cond, ◌&&◌, not, List, [], ◌∷◌, ◌++◌, append-nil, map, Option, Some, None, is_some, option_map, Result, Ok, Err, refl, sym, ap, subst, ◌∙◌, true≢false, inl, inr}
use Rattle.std.specs.Prelude.{⊤, nat_eq}
use Rattle.std.specs.BTreeMap.{BTreeMap}
use Rattle.coda_disk.specs.Told.{Told}
use Rattle.coda_fid.specs.declared.fid.Fid.{Fid}
use Rattle.coda_fid.specs.declared.op.Record.{Record}
use Rattle.coda_journal.specs.declared.header.Header.{Header}
use Rattle.coda_plain.specs.Cell.{ClientEntry, PlainCell}
use Rattle.coda_plain.specs.Decisions.{ReplicaEntry, sent_of}
use Rattle.coda_plain.proofs.Soundness.{none_joins}
use Rattle.coda_record.specs.Form.{four}
use Rattle.coda_record.specs.Spelling.{HasSpelling}
use Rattle.coda_record.specs.Table as table
use Rattle.coda_record.specs.declared.answer.Answer.{Answer}
use Rattle.coda_record.proofs.PartsAgree.{first_true, second_true}
use Rattle.coda_wire.specs.Table.{message}
use Rattle.coda_wire.specs.declared.message.Message.{Message}
use Rattle.coda_wire.specs.declared.message.Message.TheVariants.{Chunk, Verdict, Fetch, Break}
use Rattle.coda_wire.specs.declared.message.Message.TheVariants as messages
use Rattle.coda_script.specs.declared.line.Line.TheVariants as line
use Rattle.coda_script.specs.declared.line.Strength.{Strength}
use Rattle.coda_script.specs.declared.line.Strength.TheVariants.{Down}
use Rattle.coda_script.specs.declared.reply.Answer.{Answer as ReplyAnswer}
use Rattle.coda_script.specs.declared.reply.Reply.{Reply}
use Rattle.coda_script.specs.declared.reply.Reply.TheVariants as replies
use Rattle.coda_state.specs.declared.state.Link.{Link}
use Rattle.coda_state.specs.declared.state.Link.TheVariants as link
use Rattle.coda_actors.specs.Clients.{client_form}
use Rattle.coda_actors.specs.Replicas.{replica_form}
use Rattle.coda_actors.specs.Slots.{is_up}
use Rattle.coda_actors.specs.declared.slot.Slot.{Slot}
use Rattle.coda_actors.specs.declared.slot.Slot.TheVariants.{Started}
use Rattle.coda_crew.specs.Crews.{slot_at, KeepsOtherSlots}
use Rattle.coda_net.specs.declared.letter.Letter.{Letter}
use Rattle.coda_net.specs.Pool.{Pool, is_down, link_of}
use Rattle.coda_letters.specs.Calls.{IsPosted, DeliversTo, Delivers as LettersDeliver, LosesTo, Loses as LettersLose}
use Rattle.coda_letters.specs.Sent.{Sent, ChunkSent, AnswerSent, BreakSent, message_of, client_of as sent_client, server_of as sent_server, is_lossy, letter_of, Waiting, AreLetters, CanBeSaid, CanBeSent, sent_at}
use Rattle.coda_letters.specs.declared.fault.LetterFault.{LetterFault}
use Rattle.coda_letters.specs.declared.fault.LetterFault.TheVariants as letter
use Rattle.coda_replica.specs.declared.fault.ReplicaFault.{ReplicaFault}
use Rattle.coda_replica.specs.declared.replica.Replica.{Replica}
use Rattle.coda_venus.specs.Standing.{IsUp}
use Rattle.coda_venus.specs.declared.refused.Refused.{Refused as VenusRefused}
use Rattle.coda_venus.specs.declared.venus.Venus.{Venus}
use Rattle.coda_cell.specs.Cells.{strength_of, linked_in}
use Rattle.coda_cell.specs.Refusing.{letter_refused_as}
use Rattle.coda_cell.specs.Made.{client_of}
use Rattle.coda_cell.specs.Messages.{Ending, posting, ruled_in, reply_taken, taken_in}
use Rattle.coda_cell.specs.Refusing.{refusal}
use Rattle.coda_cell.specs.Runs.{IsSaid}
use Rattle.coda_cell.specs.Sending.{Ruling, ruling, Taking, taking, deeds_at, entries_at, reply_answer}
use Rattle.coda_cell.specs.State.{ReplicaState, CellState, Event, at_client, LinkSet, Lost, linked as relinked, new_replica, replica_after_all}
use Rattle.coda_cell.specs.Steps.{Doing, Named, on_holder, first_missing, link_down, reply_to, Unless, Naming, ByRuling, ByTaking, Comes, Delivers, cut_with, Loses}
use Rattle.coda_cell.specs.Refused.{Refused}
use Rattle.coda_cell.specs.Refused as refused
use Rattle.coda_cell.proofs.KeptLetters.{waits}
use Rattle.coda_cell.proofs.Delivering.{Came as LetterCame, came, chunk_of, answer_of}
use Rattle.coda_matching.specs.Clients.{journal_by}
use Rattle.coda_matching.specs.Replicas.{RulingEnds}
use Rattle.coda_sending.specs.Ending.{entries_on, deeds_by, nothing_said, TakingEnds}
use Rattle.coda_shelves.specs.Cells.{Cell, shelves_of, state_of, after, after_all}
use Rattle.coda_shelves.specs.Running.{made_now, settled_on, IsKept}
use Rattle.coda_shelves.specs.Shelves.{found_on}
use Rattle.coda_shelves.specs.Lines.{refused_down, refused_full, client_down, replica_down, is_cut, receiver, is_down_for, Fits as FitsEvents, EndsBy, Acts, Becoming, UnlessDown, Happens}
use Rattle.coda_site.specs.Chunks.{volume_by, replica_by, ClientEnds, ReplicaEnds}
use Rattle.coda_site.specs.Drains.{ActsBy, Came, taker_down, CameTo}
use Rattle.coda_site.specs.Shelves.{Shows}
use Rattle.coda_site.specs.Sites.{is_client_disk, place_in, IsSite}
use Rattle.coda_site.specs.Steps.{Becomes}
use Rattle.coda_site.specs.declared.site.Place.{Place}
use Rattle.coda_site.specs.declared.site.Site.{Site}
use Rattle.coda_site.proofs.Becomings.{RepliesTo, named_there, named_missing, missing_becomes, down_becomes, up_becomes, becomes_as}
use Rattle.coda_site.proofs.ClientSites.{IsClientUp, up_at, with_clients, entered, entries_fit, leaves}
use Rattle.coda_site.proofs.ReplicaSites.{StandsAt, stands_at, IsReplicaThere, replica_is, there, with_decided, decided_left, with_replicas}
use Rattle.coda_site.proofs.Stages.{ends_behind, EndsAt, IsFirst, client_refused, IsRuledFirst, UnruledReply, ruled_fits, ruled_left, replica_refused}
use Rattle.coda_site.proofs.Drained as exchange
use Rattle.coda_site.proofs.Holders.{names_in, missing_named, client_down_by, replica_down_by}
use Rattle.coda_site.proofs.Clocks.{link_set}
use Rattle.coda_site.proofs.Posted.{with_net, posted_site, posted_number, posting_fits, lost_site, unlost_site}

-- what a replica that is up is
pub shown_by : {D : Type 0} (told : D → Told) (out : ℕ → Bool) (has : ℕ → Told) (cell : Cell) (site : Site D) (is : IsSite told out has cell site) (volume : ℕ) (place : Place) (at : StandsAt cell.rows volume place) (header : Header) (replica : Replica D)
    → IsReplicaThere told out has cell site is volume place at header replica → (state_of cell).replicas volume ≡ Some (replica_by header (cell.replicas at.row place.server).disk.history)
shown_by told out has cell site is volume place at header replica there =
    replica_is told out has cell site is volume place at
    ∙ (λ i. Some (replica_after_all (new_replica (sym there.up.home i) (sym there.up.number i)) (cell.replicas at.row place.server).disk.history))

-- ---- messages by their parts

pub chunk_records : (client server volume number : ℕ) (recs : List Record) → HasSpelling message (Chunk client server volume number recs) → HasSpelling (table.records four) recs
unfolding message
chunk_records client server volume number recs fits =
    let behind_client = second_true (table.client.piece client).fits ((table.server.piece server).fits && ((table.volume.piece volume).fits && ((table.ordinal.piece number).fits && (((table.records four).piece recs).fits && true)))) fits in
    let behind_server = second_true (table.server.piece server).fits ((table.volume.piece volume).fits && ((table.ordinal.piece number).fits && (((table.records four).piece recs).fits && true))) behind_client in
    let behind_volume = second_true (table.volume.piece volume).fits ((table.ordinal.piece number).fits && (((table.records four).piece recs).fits && true)) behind_server in
    first_true ((table.records four).piece recs).fits true (second_true (table.ordinal.piece number).fits (((table.records four).piece recs).fits && true) behind_volume)

pub verdict_volume : (server client volume number : ℕ) (answer : Answer) → HasSpelling message (Verdict server client volume number answer) → HasSpelling table.volume volume
unfolding message
verdict_volume server client volume number answer fits =
    let behind_server = second_true (table.server.piece server).fits ((table.client.piece client).fits && ((table.volume.piece volume).fits && ((table.ordinal.piece number).fits && ((table.answer.piece answer).fits && true)))) fits in
    let behind_client = second_true (table.client.piece client).fits ((table.volume.piece volume).fits && ((table.ordinal.piece number).fits && ((table.answer.piece answer).fits && true))) behind_server in
    first_true (table.volume.piece volume).fits ((table.ordinal.piece number).fits && ((table.answer.piece answer).fits && true)) behind_client

-- a letter that waits can be said
said_of : (number : ℕ) (waiting : Waiting) (sent : Sent) → CanBeSaid waiting → sent_at number waiting ≡ Some sent → CanBeSent sent
said_of number [] sent can e = cc
said_of number (l ∷ waiting) sent can e = by (nat_eq number l.0) e (said_of number waiting sent can.1)
  where
    by : (b : Bool) → cond b (Some l.1) (sent_at number waiting) ≡ Some sent → (sent_at number waiting ≡ Some sent → CanBeSent sent) → CanBeSent sent
    by true e rest = (let same : l.1 ≡ sent = cc in subst CanBeSent same can.0)
    by false e rest = rest e

-- ---- a chunk comes to a replica

module _ {D : Type 0} (told : D → Told) (out : ℕ → Bool) (has : ℕ → Told) (cell : Cell) (site : Site D) (shows : Shows told out has cell site) (client server volume disk number : ℕ) (replica_on : is_up (replica_form told) (slot_at site.replicas disk) ≡ true)
    (place : Place) (placed : place_in site volume ≡ Some place) (disk_is : place.disk ≡ disk) (home : place.server ≡ server) (named : first_missing (on_holder (state_of cell) client volume server) ≡ None)
    (recs : List Record) (span : List Record) (sent : recs ≡ sent_of span) where
  abbrev is : IsSite told out has cell site
  is = shows.stands

  at : StandsAt cell.rows volume place
  at = stands_at told out has cell site shows volume place placed

  r : (header : Header) × (replica : Replica D) × IsReplicaThere told out has cell site is volume place at header replica
  r = there told out has cell site is volume place at shows.kept (subst (λ (d : ℕ). is_up (replica_form told) (slot_at site.replicas d) ≡ true) (sym disk_is) replica_on)

  abbrev g : List ReplicaEntry
  g = (cell.replicas at.row place.server).disk.history

  abbrev state : ReplicaState
  state = replica_by r.0 g

  abbrev s : CellState
  s = state_of cell

  abbrev wanted : Result Ruling Refused
  wanted = ruling client number span state

  abbrev outcome : Result Ruling Refused → Ending
  outcome o = ruled_in s client server volume number o

  ruled_by : (after : Site D) (reply : Reply) → EndsAt told out has cell (outcome wanted).events (reply_to (outcome wanted).said) reply after → Came told out has cell (ChunkSent client server volume number span) reply after
  ruled_by after reply (left, ends, stands) = (
    left,
    record {
      own = reply_to (outcome wanted).said;
      events = (outcome wanted).events;
      does = named_there (on_holder s client volume server) (ByRuling s client server volume number span) (reply_to (outcome wanted).said) (outcome wanted).events named (record {
        replica = state;
        there = shown_by told out has cell site is volume place at r.0 r.1 r.2;
        answered = refl;
        happened = refl;
      });
      ends = ends;
    },
    stands,
  )

  rule_first : (o : Result Ruling Refused) → IsRuledFirst place.server volume o (outcome o).events (reply_to (outcome o).said)
  rule_first (Err why) = record { goes = λ ruled e. cc; stays = λ w e. ((let same : why ≡ w = cc in ap refusal same), refl) }
  rule_first (Ok ruled) = record {
    goes = λ other e.
        let same : ruled ≡ other = cc in (
          posting (AnswerSent server client volume number ruled.answer) s.waiting,
          (λ i. entries_at (sym home i) volume (same i).entries ++ posting (AnswerSent server client volume number ruled.answer) s.waiting),
        );
    stays = λ w e. cc;
  }

  abbrev AsRuled : Result Answer ReplicaFault → Header → List ReplicaEntry → Replica D → Type 0
  AsRuled result header history left = (span : List Record) → recs ≡ sent_of span → RulingEnds told header history (ruling client number span (replica_by header history)) left result

  module _ (replicas : BTreeMap ℕ (Slot (Replica D) D)) (kept_slots : KeepsOtherSlots disk site.replicas replicas) where
    slots_there : KeepsOtherSlots place.disk site.replicas replicas
    slots_there = subst (λ (d : ℕ). KeepsOtherSlots d site.replicas replicas) (sym disk_is) kept_slots

    w : (result : Result Answer ReplicaFault) → ReplicaEnds told disk site.replicas replicas (AsRuled result) → (left : Replica D) × (slot_at replicas place.disk ≡ Started r.0 left) × RulingEnds told r.0 g wanted left result
    w result rules = (let x = rules r.0 r.1 (ap (slot_at site.replicas) (sym disk_is) ∙ r.2.slot) in (x.0, ap (slot_at replicas) disk_is ∙ x.1, x.2 g r.2.up.stands r.2.up.lawful span sent))

    -- it was refused
    pub unruled_came : (why : ReplicaFault) → ReplicaEnds told disk site.replicas replicas (AsRuled (Err why)) → (reply : Reply) → UnruledReply why reply → Came told out has cell (ChunkSent client server volume number span) reply (with_replicas site replicas)
    unruled_came why rules reply replied =
        let x = w (Err why) rules in
        ruled_by (with_replicas site replicas) reply
        (replica_refused told out has cell site is volume place at replicas slots_there r.0 r.1 x.0 r.2.lent r.2.up x.1 client number span (outcome wanted).events (reply_to (outcome wanted).said) (rule_first wanted) why reply x.2 replied)

    -- it was done, and the answer goes out
    module _ (answer : Answer) (rules : ReplicaEnds told disk site.replicas replicas (AsRuled (Ok answer))) (net : Pool) (links : net.links ≡ site.net.links) (going : ℕ) (posts : (waiting : Waiting) → AreLetters waiting site.net → IsPosted waiting (AnswerSent server client volume number answer) site.net going net)
        (said : ReplyAnswer) (said_is : said ≡ reply_answer answer) where
      x : (left : Replica D) × (slot_at replicas place.disk ≡ Started r.0 left) × RulingEnds told r.0 g wanted left (Ok answer)
      x = w (Ok answer) rules

      abbrev ruled : Ruling
      ruled = x.2.0

      abbrev decided : List Event
      decided = entries_at place.server volume ruled.entries

      abbrev cell1 : Cell
      cell1 = with_decided cell at.row place.server ruled.entries

      abbrev site1 : Site D
      site1 = with_replicas site replicas

      is1 : IsSite told out has cell1 site1
      is1 = subst (λ (c : Cell). IsSite told out has c site1) (decided_left cell volume place at ruled.entries)
          (ruled_left told out has cell site is volume place at replicas slots_there r.0 r.1 x.0 r.2.lent r.2.up x.1 client number span ruled x.2.1 x.2.3)

      fits1 : FitsEvents cell decided
      fits1 = ruled_fits told out has cell site is volume place at replicas slots_there r.0 r.1 x.0 r.2.lent r.2.up x.1 client number span ruled x.2.1 x.2.3

      abbrev says : Sent
      says = AnswerSent server client volume number ruled.answer

      posted : IsPosted cell.waiting says site.net going net
      posted = subst (λ (a : Answer). IsPosted cell.waiting (AnswerSent server client volume number a) site.net going net) x.2.2 (posts cell.waiting is.net.letters)

      abbrev events : List Event
      events = posting says cell.waiting

      abbrev delivered : Reply
      delivered = replies.Delivered number said going

      pub ruled_came : Came told out has cell (ChunkSent client server volume number span) delivered (with_net site1 net)
      ruled_came =
          let left = after_all cell1 events in
          let own : delivered ≡ reply_to (outcome (Ok ruled)).said = (λ i. replies.Delivered number ((said_is ∙ ap reply_answer x.2.2) i) (posted_number told out has cell1 site1 is1 net says going posted links i)) in
          ruled_by (with_net site1 net) delivered (
            left,
            subst (λ (o : Result Ruling Refused). EndsBy cell (outcome o).events (reply_to (outcome o).said) delivered left) (sym x.2.1)
                (subst (λ (at_server : ℕ). EndsBy cell (entries_at at_server volume ruled.entries ++ events) (reply_to (outcome (Ok ruled)).said) delivered left) home
                (ends_behind cell decided events (reply_to (outcome (Ok ruled)).said) delivered left fits1
                (subst (λ (c : Cell). EndsBy c events (reply_to (outcome (Ok ruled)).said) delivered left) (sym (decided_left cell volume place at ruled.entries))
                (inl (posting_fits told out has cell1 site1 is1 net says, own, refl))))),
            posted_site told out has cell1 site1 is1 net says going posted links (shows.kept.letters none_joins).letters.numbered,
          )

-- ---- an answer comes to a client

module _ {D : Type 0} (told : D → Told) (out : ℕ → Bool) (has : ℕ → Told) (seen : (d : D) → (told d).honest → (told d).may_leave (told d).seen) (cell : Cell) (site : Site D) (shows : Shows told out has cell site)
    (client server volume number : ℕ) (here : is_client_disk client ≡ true) (on : is_up (client_form told) (slot_at site.clients client) ≡ true) (answer : Answer) (named : first_missing (on_holder (state_of cell) client volume server) ≡ None) where
  c : (header : Header) × (venus : Venus D) × IsClientUp told out cell site.clients client header venus
  c = up_at told out has cell shows.kept site client shows.stands here on

  abbrev h : List ClientEntry
  h = (cell.clients client).disk.history

  abbrev wanted_taking : Result Taking Refused
  wanted_taking = taking number answer (volume_by c.0 h volume)

  abbrev ending : Result Taking Refused → Ending
  ending o = taken_in client volume number answer o

  taken_by : (after : Site D) (reply : Reply) → EndsAt told out has cell (ending wanted_taking).events (reply_to (ending wanted_taking).said) reply after → Came told out has cell (AnswerSent server client volume number answer) reply after
  taken_by after reply (left, ends, stands) = (
    left,
    record {
      own = reply_to (ending wanted_taking).said;
      events = (ending wanted_taking).events;
      does = named_there (on_holder (state_of cell) client volume server) (ByTaking (state_of cell) client volume number answer) (reply_to (ending wanted_taking).said) (ending wanted_taking).events named (record {
        client = client_of c.0.number h c.0.cache;
        there = c.2.shown;
        answered = refl;
        happened = refl;
      });
      ends = ends;
    },
    stands,
  )

  take_first : (o : Result Taking Refused) → IsFirst client (entries_on volume (deeds_by o)) (nothing_said o) (ending o).events (reply_to (ending o).said)
  take_first (Err why) = record { more = []; is = refl; stays = λ w e. ((let same : why ≡ w = cc in ap refusal same), refl) }
  take_first (Ok took) = record { more = []; is = sym (append-nil (deeds_at client volume took.deeds)); stays = λ w e. cc }

  abbrev AsTaken : Result ⊤ VenusRefused → Header → List ClientEntry → Venus D → Type 0
  AsTaken result header history left = TakingEnds told header history volume (taking number answer (volume_by header history volume)) left result

  module _ (clients : BTreeMap ℕ (Slot (Venus D) D)) (others : KeepsOtherSlots client site.clients clients) where
    pub untaken_came : (why : VenusRefused) → ClientEnds told client site.clients clients (AsTaken (Err why)) → (reply : Reply) → RepliesTo (λ (u : ⊤). refused_full) (Err why) reply → Came told out has cell (AnswerSent server client volume number answer) reply (with_clients site clients)
    untaken_came why takes reply replied =
        let y = takes c.0 c.1 c.2.slot in
        taken_by (with_clients site clients) reply
        (client_refused told out has cell client (entries_on volume (deeds_by wanted_taking)) (nothing_said wanted_taking) (λ (a b : ⊤). a ≡ b) (with_clients site clients) (ending wanted_taking).events (reply_to (ending wanted_taking).said)
        (take_first wanted_taking) (λ (u : ⊤). refused_full) why reply
        (leaves told out has cell site clients client c.0 c.1 y.0 shows.stands c.2 others y.1 (entries_on volume (deeds_by wanted_taking)) (nothing_said wanted_taking) (λ (a b : ⊤). a ≡ b) (Err why) (seen y.0.journal.disk) (y.2 h c.2.up c.2.lawful)) replied)

    pub taken_came : (u : ⊤) → ClientEnds told client site.clients clients (AsTaken (Ok u)) → (reply : Reply) → reply ≡ reply_taken number answer → Came told out has cell (AnswerSent server client volume number answer) reply (with_clients site clients)
    taken_came u takes reply replied =
        let y = takes c.0 c.1 c.2.slot in
        let t = exchange.taken_as told c.0 h volume wanted_taking y.0 u (y.2 h c.2.up c.2.lawful) in
        let entries = entries_on volume t.took.deeds in
        let fits = entries_fit told out has cell site clients client c.0 c.1 y.0 shows.stands c.2 others y.1 entries [] (subst (λ (e : List ClientEntry). IsUp told c.0 y.0 (journal_by (h ++ e))) (sym (append-nil entries)) t.runs) in
        let left = after_all cell (map (at_client client) entries) in
        taken_by (with_clients site clients) reply (
          left,
          subst (λ (o : Result Taking Refused). EndsBy cell (ending o).events (reply_to (ending o).said) reply left) (sym t.is) (inl (fits, replied, refl)),
          entered told out has cell site clients client c.0 c.1 y.0 shows.stands c.2 others y.1 entries t.runs,
        )

-- ---- whom it comes to

module _ {D : Type 0} (told : D → Told) (out : ℕ → Bool) (has : ℕ → Told) (cell : Cell) (site : Site D) (shows : Shows told out has cell site) (client volume server : ℕ) (here : is_client_disk client ≡ true) (answered : List (List ℕ)) where
  abbrev names : List Named
  names = on_holder (state_of cell) client volume server

  module _ (sent : Sent) (by : Doing) where
    abbrev own : Becoming
    own reply outside left = (outside ≡ []) × ActsBy (Naming names by) cell reply left

    own_missing : (why : Refused) (reply : Reply) → first_missing names ≡ Some why → reply ≡ refusal why → own reply [] cell
    own_missing why reply none replied = (refl, record { own = reply; events = []; does = named_missing names why by reply none replied; ends = inl (tt, refl, refl) })

  module _ (number : ℕ) (span : List Record) where
    abbrev chunk_does : Becoming
    chunk_does = own (ChunkSent client server volume number span) (ByRuling (state_of cell) client server volume number span)

    pub chunk_missing : (result : Option ℕ) (n : ℕ) → result ≡ Some n → option_map refused.NoSuchActor result ≡ first_missing (names_in site client volume server) → (reply : Reply) → reply ≡ refusal (refused.NoSuchActor n)
        → Becomes told out has (CameTo cell (ChunkSent client server volume number span)) reply answered answered site
    chunk_missing result n e missing reply replied =
        let none = missing_named told out has cell site shows client volume server here result n e missing in
        missing_becomes told out has cell names (replica_down cell server volume) chunk_does reply answered site (refused.NoSuchActor n) none
        (own_missing (ChunkSent client server volume number span) (ByRuling (state_of cell) client server volume number span) (refused.NoSuchActor n) reply none replied) shows.stands

    module _ (none : first_missing names ≡ None) (place : Place) (at : place_in site volume ≡ Some place) where
      pub chunk_down : (reply : Reply) → reply ≡ refused_down → is_up (replica_form told) (slot_at site.replicas place.disk) ≡ false → Becomes told out has (CameTo cell (ChunkSent client server volume number span)) reply answered answered site
      chunk_down reply replied off = down_becomes told out has cell names (replica_down cell server volume) chunk_does reply answered site none (replica_down_by told out has cell site shows client volume server here none place false at off) replied shows.stands

      pub chunk_came : is_up (replica_form told) (slot_at site.replicas place.disk) ≡ true → (reply : Reply) (after : Site D) → Came told out has cell (ChunkSent client server volume number span) reply after
          → Becomes told out has (CameTo cell (ChunkSent client server volume number span)) reply answered answered after
      chunk_came on reply after (left, acts, stands) =
          up_becomes told out has cell names (replica_down cell server volume) chunk_does reply answered after none (replica_down_by told out has cell site shows client volume server here none place true at on) left (refl, acts) stands

  module _ (number : ℕ) (answer : Answer) where
    abbrev answer_does : Becoming
    answer_does = own (AnswerSent server client volume number answer) (ByTaking (state_of cell) client volume number answer)

    pub answer_missing : (result : Option ℕ) (n : ℕ) → result ≡ Some n → option_map refused.NoSuchActor result ≡ first_missing (names_in site client volume server) → (reply : Reply) → reply ≡ refusal (refused.NoSuchActor n)
        → Becomes told out has (CameTo cell (AnswerSent server client volume number answer)) reply answered answered site
    answer_missing result n e missing reply replied =
        let none = missing_named told out has cell site shows client volume server here result n e missing in
        missing_becomes told out has cell names (client_down cell client) answer_does reply answered site (refused.NoSuchActor n) none
        (own_missing (AnswerSent server client volume number answer) (ByTaking (state_of cell) client volume number answer) (refused.NoSuchActor n) reply none replied) shows.stands

    module _ (none : first_missing names ≡ None) where
      pub answer_down : (reply : Reply) → reply ≡ refused_down → is_up (client_form told) (slot_at site.clients client) ≡ false → Becomes told out has (CameTo cell (AnswerSent server client volume number answer)) reply answered answered site
      answer_down reply replied off = down_becomes told out has cell names (client_down cell client) answer_does reply answered site none (client_down_by told out has cell site shows client volume server here none false off) replied shows.stands

      pub answer_came : is_up (client_form told) (slot_at site.clients client) ≡ true → (reply : Reply) (after : Site D) → Came told out has cell (AnswerSent server client volume number answer) reply after
          → Becomes told out has (CameTo cell (AnswerSent server client volume number answer)) reply answered answered after
      answer_came on reply after (left, acts, stands) =
          up_becomes told out has cell names (client_down cell client) answer_does reply answered after none (client_down_by told out has cell site shows client volume server here none true on) left (refl, acts) stands

-- ---- messages that nothing sends

-- whether a message may be what a letter says
abbrev pub is_of_letter : Message → Bool
is_of_letter (Chunk client server volume number recs) = true
is_of_letter (Verdict server client volume number answer) = true
is_of_letter (Fetch client server fid) = false
is_of_letter (messages.Node server client fid found) = false
is_of_letter (Break server client volume fids) = true

said_of_letter : (sent : Sent) → is_of_letter (message_of sent) ≡ true
said_of_letter (ChunkSent client server volume number span) = refl
said_of_letter (AnswerSent server client volume number answer) = refl
said_of_letter (BreakSent server client volume fids) = refl

-- no other one comes
pub others_never_come : (waiting : Waiting) (net : Pool) (number : ℕ) (m : Message) → LettersDeliver waiting net number (Ok m) → is_of_letter m ≡ false → ⊥
others_never_come waiting net number m delivers other =
    let c = came waiting net number m delivers in
    let sent : is_of_letter m ≡ true = sym (ap is_of_letter c.says) ∙ said_of_letter c.sent in
    true≢false (sym sent ∙ other)

-- and no letter of a cell that is kept is a break
no_break : (cell : PlainCell) (sent : Sent) → IsSaid cell sent → (server client volume : ℕ) (fids : List Fid) → message_of sent ≡ Break server client volume fids → ⊥
no_break cell (ChunkSent c s v n span) said server client volume fids e = cc
no_break cell (AnswerSent s c v n answer) said server client volume fids e = cc
no_break cell (BreakSent s c v fs) said server client volume fids e = said

pub breaks_never_come : (cell : Cell) → IsKept cell → (net : Pool) (number server client volume : ℕ) (fids : List Fid) → LettersDeliver cell.waiting net number (Ok (Break server client volume fids)) → ⊥
breaks_never_come cell kept net number server client volume fids delivers =
    let c = came cell.waiting net number (Break server client volume fids) delivers in
    let now = (made_now cell none_joins kept.pool (settled_on (found_on (shelves_of cell) none_joins))).acted in
    let waiting = waits now number cell.waiting c.sent (kept.letters none_joins).letters.pooled c.at in
    no_break now c.sent waiting.said server client volume fids c.says

-- ---- lines

up_link : (l : Link) → is_down l ≡ false → (link_down (strength_of l) ≡ None) × (is_cut (strength_of l) ≡ false)
up_link link.Strong e = (refl, refl)
up_link link.Weak e = (refl, refl)
up_link link.Down e = cc

down_link : (l : Link) → is_down l ≡ true → (link_down (strength_of l) ≡ Some refused.LinkDown) × (is_cut (strength_of l) ≡ true)
down_link link.Strong e = cc
down_link link.Weak e = cc
down_link link.Down e = (refl, refl)

between : (a b c : Bool) → (a && (b && c)) ≡ (b && (a && c))
between true true c = refl
between true false c = refl
between false true c = refl
between false false c = refl

-- who is down that it needs, by its link
by_link : (cell : Cell) (sent : Sent) → is_down_for (receiver cell (Some sent)) ≡ (not (is_cut (cell.links (sent_client sent) (sent_server sent))) && taker_down cell sent)
by_link cell (ChunkSent client server volume number span) = between (not (is_some (first_missing (on_holder (state_of cell) client volume server)))) (not (is_cut (cell.links client server))) (replica_down cell server volume)
by_link cell (AnswerSent server client volume number answer) = between (not (is_some (first_missing (on_holder (state_of cell) client volume server)))) (not (is_cut (cell.links client server))) (client_down cell client)
by_link cell (BreakSent server client volume fids) = between (not (is_some (first_missing (on_holder (state_of cell) client volume server)))) (not (is_cut (cell.links client server))) (client_down cell client)

unless_as : (one other : Bool) (cell : Cell) (a b : Becoming) (reply : Reply) (outside : List (List ℕ)) (left : Cell) → one ≡ other → (a reply outside left → b reply outside left) → UnlessDown one cell a reply outside left → UnlessDown other cell b reply outside left
unless_as true true cell a b reply outside left same goes is = is
unless_as false false cell a b reply outside left same goes is = goes is
unless_as true false cell a b reply outside left same goes is = (let no : true ≡ false = same in cc)
unless_as false true cell a b reply outside left same goes is = (let no : false ≡ true = same in cc)

module _ {D : Type 0} (told : D → Told) (out : ℕ → Bool) (has : ℕ → Told) (cell : Cell) (site : Site D) (is : IsSite told out has cell site) (number : ℕ) (answered : List (List ℕ)) where
  abbrev at_first : CellState
  at_first = state_of cell

  abbrev IsDelivered : Reply → Site D → Type 0
  IsDelivered reply after = Becomes told out has (Happens cell (line.Deliver number)) reply answered answered after

  linked : (sent : Sent) → cell.links (sent_client sent) (sent_server sent) ≡ strength_of (link_of site.net (sent_client sent) (sent_server sent))
  linked sent = is.net.links_are (sent_client sent) (sent_server sent)

  -- a letter came to whom it was sent
  came_to : (m : Message) (c : LetterCame cell.waiting site.net number m) (sent : Sent) → c.sent ≡ sent → (reply : Reply) (after : Site D) → Becomes told out has (CameTo cell sent) reply answered answered after → IsDelivered reply after
  came_to m c sent same reply after b =
      let on = up_link (link_of site.net (sent_client sent) (sent_server sent)) (subst (λ (x : Sent). is_down (link_of site.net (sent_client x) (sent_server x)) ≡ false) same c.up) in
      let waits : sent_at number cell.waiting ≡ Some sent = c.at ∙ ap Some same in
      becomes_as told out has (CameTo cell sent) (Happens cell (line.Deliver number)) reply answered answered after (λ outside left.
      unless_as (taker_down cell sent) (is_down_for (receiver cell (sent_at number cell.waiting))) cell (λ reply outside new. (outside ≡ []) × ActsBy (Comes at_first sent) cell reply new) (λ reply outside new. (outside ≡ []) × Acts cell (line.Deliver number) reply new) reply outside left
      (sym (ap (λ (o : Option Sent). is_down_for (receiver cell o)) waits ∙ by_link cell sent ∙ ap (λ (x : Strength). not (is_cut x) && taker_down cell sent) (linked sent) ∙ ap (λ (x : Bool). not x && taker_down cell sent) on.1))
      (λ does. (
        does.0,
        record {
          own = does.1.own;
          events = does.1.events;
          does = subst (λ (o : Option Sent). Delivers at_first number o does.1.own does.1.events) (sym waits)
              (subst (λ (o : Option Refused). Unless o (Comes at_first sent) does.1.own does.1.events) (sym (ap link_down (linked sent) ∙ on.0)) does.1.does);
          ends = does.1.ends;
        },
      ))) b

  -- a chunk came
  pub chunk_delivered : (client server volume chunk : ℕ) (recs : List Record) → LettersDeliver cell.waiting site.net number (Ok (Chunk client server volume chunk recs)) → (reply : Reply) (after : Site D)
      → ((span : List Record) → recs ≡ sent_of span → Becomes told out has (CameTo cell (ChunkSent client server volume chunk span)) reply answered answered after) → IsDelivered reply after
  chunk_delivered client server volume chunk recs delivers reply after comes =
      let c = came cell.waiting site.net number (Chunk client server volume chunk recs) delivers in
      let x = chunk_of c.sent client server volume chunk recs c.says in
      came_to (Chunk client server volume chunk recs) c (ChunkSent client server volume chunk x.0) x.2 reply after (comes x.0 x.1)

  -- or an answer
  pub answer_delivered : (server client volume chunk : ℕ) (answer : Answer) → LettersDeliver cell.waiting site.net number (Ok (Verdict server client volume chunk answer)) → (reply : Reply) (after : Site D)
      → Becomes told out has (CameTo cell (AnswerSent server client volume chunk answer)) reply answered answered after → IsDelivered reply after
  answer_delivered server client volume chunk answer delivers reply after comes =
      let c = came cell.waiting site.net number (Verdict server client volume chunk answer) delivers in
      came_to (Verdict server client volume chunk answer) c (AnswerSent server client volume chunk answer) (answer_of c.sent server client volume chunk answer c.says) reply after comes

  -- nothing came
  stays : (o : Option Sent) → sent_at number cell.waiting ≡ o → is_down_for (receiver cell o) ≡ false → (reply : Reply) → Delivers at_first number o reply [] → IsDelivered reply site
  stays o at off reply does = record {
    outside = [];
    left = cell;
    happens = subst (λ (b : Bool). UnlessDown b cell (λ reply outside new. (outside ≡ []) × Acts cell (line.Deliver number) reply new) reply [] cell) (sym (ap (λ (x : Option Sent). is_down_for (receiver cell x)) at ∙ off))
        (refl, record { own = reply; events = []; does = subst (λ (x : Option Sent). Delivers at_first number x reply []) (sym at) does; ends = inl (tt, refl, refl) });
    answered = sym (append-nil answered);
    stands = is;
  }

  pub not_delivered : (why : LetterFault) → LettersDeliver cell.waiting site.net number (Err why) → (reply : Reply) → (why ≢ letter.Memory) × (reply ≡ refusal (letter_refused_as why)) → IsDelivered reply site
  not_delivered why (inl memory) reply replied = (let same : why ≡ letter.Memory = cc in absurd (replied.0 same))
  not_delivered why (inr to) reply replied = by (sent_at number cell.waiting) refl to
    where
      down : (sent : Sent) (b : Bool) → (let r : Result Message LetterFault = Err why in let x : Result Message LetterFault = cond b (Err letter.LinkDown) (Ok (message_of sent)) in r ≡ x) → (why ≡ letter.LinkDown) × (b ≡ true)
      down sent true e = ((let same : why ≡ letter.LinkDown = cc in same), refl)
      down sent false e = cc

      by : (o : Option Sent) → sent_at number cell.waiting ≡ o → DeliversTo site.net number o (Err why) → IsDelivered reply site
      by None at e = (let same : why ≡ letter.NoMessage number = cc in stays None at refl reply (replied.1 ∙ ap (λ w. refusal (letter_refused_as w)) same, refl))
      by (Some sent) at e =
          let d = down sent (is_down (link_of site.net (sent_client sent) (sent_server sent))) e in
          let off = down_link (link_of site.net (sent_client sent) (sent_server sent)) d.1 in
          stays (Some sent) at (by_link cell sent ∙ ap (λ (x : Strength). not (is_cut x) && taker_down cell sent) (linked sent) ∙ ap (λ (x : Bool). not x && taker_down cell sent) off.1) reply
          (subst (λ (o : Option Refused). Unless o (Comes at_first sent) reply []) (sym (ap link_down (linked sent) ∙ off.0)) (replied.1 ∙ ap (λ w. refusal (letter_refused_as w)) d.0, refl))

  -- ---- a letter is lost

  abbrev IsLost : Reply → Site D → Type 0
  IsLost reply after = Becomes told out has (Happens cell (line.Lose number)) reply answered answered after

  -- with one that may not be lost for the limits its link is cut
  module _ (net cut : Pool) (handed : Letter) (posted : net.posted ≡ site.net.posted) (links : net.links ≡ site.net.links) (stays : handed.lossy ≡ true → cut ≡ net)
      (goes : handed.lossy ≡ false → (c s : ℕ) → linked_in cut c s ≡ relinked (linked_in net) handed.client handed.server Down c s) (letters : cut.letters ≡ net.letters) (many : cut.posted ≡ net.posted) where
    abbrev cut_by : Sent → Bool → List Event
    cut_by sent b = cond b [] (LinkSet (sent_client sent) (sent_server sent) Down ∷ [])

    cut_fits : (sent : Sent) (b : Bool) → FitsEvents (after cell (Lost number)) (cut_by sent b)
    cut_fits sent true = tt
    cut_fits sent false = (tt, tt)

    cut_site : (sent : Sent) → handed ≡ letter_of sent → IsSite told out has (after cell (Lost number)) (with_net site net) → (b : Bool) → is_lossy sent ≡ b
        → IsSite told out has (after_all (after cell (Lost number)) (cut_by sent b)) (with_net site cut)
    cut_site sent same lost true lossy = subst (λ (n : Pool). IsSite told out has (after cell (Lost number)) (with_net site n)) (sym (stays (ap (λ (l : Letter). l.lossy) same ∙ lossy))) lost
    cut_site sent same lost false safe = link_set told out has (after cell (Lost number)) (with_net site net) lost (sent_client sent) (sent_server sent) Down cut
        (λ c s. goes (ap (λ (l : Letter). l.lossy) same ∙ safe) c s ∙ ap (λ (l : Letter). relinked (linked_in net) l.client l.server Down c s) same) letters many

    pub letter_lost : LettersLose cell.waiting number (Ok handed) net → IsLost (replies.Lost number) (with_net site cut)
    letter_lost loses = by (sent_at number cell.waiting) refl loses
      where
        by : (o : Option Sent) → sent_at number cell.waiting ≡ o → LosesTo o cell.waiting number (Ok handed) net → IsLost (replies.Lost number) (with_net site cut)
        by None at l = (let no = l.0 in cc)
        by (Some sent) at l =
            let e = l.0 in
            let same : handed ≡ letter_of sent = cc in
            let events = Lost number ∷ cut_with sent in record {
              outside = [];
              left = after_all cell events;
              happens = (refl, record { own = replies.Lost number; events = events; does = subst (λ (o : Option Sent). Loses number o (replies.Lost number) events) (sym at) (refl, refl); ends = inl ((tt, cut_fits sent (is_lossy sent)), refl, refl) });
              answered = sym (append-nil answered);
              stands = cut_site sent same (lost_site told out has cell site is net number l.1 posted links) (is_lossy sent) refl;
            }

  pub not_lost : (net : Pool) → net.posted ≡ site.net.posted → net.links ≡ site.net.links → (why : LetterFault) → LettersLose cell.waiting number (Err why) net → (reply : Reply) → (why ≢ letter.Memory) × (reply ≡ refusal (letter_refused_as why))
      → IsLost reply (with_net site net)
  not_lost net posted links why loses reply replied = by (sent_at number cell.waiting) refl loses
    where
      by : (o : Option Sent) → sent_at number cell.waiting ≡ o → LosesTo o cell.waiting number (Err why) net → IsLost reply (with_net site net)
      by (Some sent) at l = (let no = l.0 in cc)
      by None at l = (let e = l.0 in let same : why ≡ letter.NoMessage number = cc in record {
        outside = [];
        left = cell;
        happens = (refl, record { own = reply; events = []; does = subst (λ (o : Option Sent). Loses number o reply []) (sym at) (replied.1 ∙ ap (λ w. refusal (letter_refused_as w)) same, refl); ends = inl (tt, refl, refl) });
        answered = sym (append-nil answered);
        stands = unlost_site told out has cell site is net l.1 posted links;
      })
