-- What happens in a cell leaves whatever an actor has of the kind with which it was made.
use Rattle.std.proofs.Common.{◌≡◌, ◌≢◌, ℕ, ◌==◌, ◌&&◌, Bool, true, false, cond, List, [], ◌∷◌, ◌++◌, Option, Some}
use Rattle.std.proofs.Common.{None, refl, sym, ap, ◌∙◌, subst, append-nil}
use Rattle.std.proofs.Common.{inl, inr, ◌⊎◌}
use Rattle.std.proofs.lemmas.Bool.{eqb-true, eq-eqb, and_from, cases_Bool, false≢true}
use Rattle.coda_fid.specs.Fid.{root_of}
use Rattle.coda_fid.specs.declared.fid.Fid.{Fid}
use Rattle.coda_fid.specs.declared.op.Op.{Op}
use Rattle.coda_fid.specs.declared.op.Op.TheVariants.{Create, Mkdir, Symlink}
use Rattle.coda_fid.specs.declared.op.Record.{Record}
use Rattle.coda_cancel.specs.Dropping.{creates}
use Rattle.coda_cml.specs.Steady.{any_record}
use Rattle.coda_plain.specs.Histories.{In}
use Rattle.coda_plain.specs.Deeds.{Deed, Operated, Froze, Settled, Gaveup, full_of, AreNumberedObjects}
use Rattle.coda_plain.specs.Objects.{nodes_in}
use Rattle.coda_plain.specs.Decisions.{ReplicaEntry, Decided, Resolved, Decision, decision_at, Kept, kept_after}
use Rattle.coda_plain.specs.Decisions.{kept_of, nodes_of, decisions_of}
use Rattle.coda_plain.specs.Cell.{ClientEntry, Fetched, Did, Dropping, deed_on, deeds_of, Actor, PlainCell}
use Rattle.coda_plain.specs.Logs.{BeginsWith}
use Rattle.coda_plain.specs.Moves.{AtClient, AtReplica, Move, MayEnter, done_on, Moved, grown as grown_actor}
use Rattle.coda_plain.specs.Sound.{IsSound}
use Rattle.coda_plain.proofs.Chunking.{spans_in}
use Rattle.coda_plain.proofs.Lists.{left_push, some_record, any_of, told_new}
use Rattle.coda_plain.proofs.Soundness.{none_joins}
use Rattle.coda_plain.proofs.Staying.{clients_run}
use Rattle.coda_cell.specs.Held.{held_after}
use Rattle.coda_cell.specs.Made.{MadeCell, client_of, grown, grown_all, move_of, moves_of}
use Rattle.coda_cell.specs.Runs.{IsKept}
use Rattle.coda_cell.specs.State.{ClientState, new_client, client_after, at_client, Event, VolumeMade, ClientMade}
use Rattle.coda_cell.specs.State.{Ticked, LinkSet, Entered, Posted, Lost, Used}
use Rattle.coda_cell.specs.State as state
use Rattle.coda_cell.proofs.Histories.{client_push}
use Rattle.coda_cell.proofs.Moving.{deeds_both, HasMore, has_more, done_here}
use Rattle.coda_creations.specs.Kinds.{Kind, AFile, ALink, ADirectory, kind_in, kind_at, makes, IsMadeAs}
use Rattle.coda_creations.specs.Kinds.{IsBroughtAsBy, AreAsMade}
use Rattle.coda_creations.proofs.KindsKept.{entry_kind}
use Rattle.coda_creations.proofs.KindsHeld.{IsHadBy}
use Rattle.coda_creations.proofs.Tails.{counted_from, made_own, made_here, once, in_full, full_behind}

-- ---- what makes an object creates it

pub made_creates : (f : Fid) (kind : Kind) (op : Op) → makes f kind op ≡ true → creates f op ≡ true
made_creates f AFile (Create dir name fid mode owner) h = h
made_creates f ALink (Create dir name fid mode owner) h = absurd (false≢true h)
made_creates f ADirectory (Create dir name fid mode owner) h = absurd (false≢true h)
made_creates f AFile (Mkdir dir name fid mode owner) h = absurd (false≢true h)
made_creates f ALink (Mkdir dir name fid mode owner) h = absurd (false≢true h)
made_creates f ADirectory (Mkdir dir name fid mode owner) h = h
made_creates f AFile (Symlink dir name fid target mode owner) h = absurd (false≢true h)
made_creates f ALink (Symlink dir name fid target mode owner) h = h
made_creates f ADirectory (Symlink dir name fid target mode owner) h = absurd (false≢true h)
made_creates f kind _ h = absurd (false≢true h)

-- an operation makes an object of one kind
one_kind : (f : Fid) (one other : Kind) (op : Op) → makes f one op ≡ true → makes f other op ≡ true → one ≡ other
one_kind f AFile AFile op a b = refl
one_kind f ALink ALink op a b = refl
one_kind f ADirectory ADirectory op a b = refl
one_kind f AFile ALink (Create dir name fid mode owner) a b = absurd (false≢true b)
one_kind f AFile ADirectory (Create dir name fid mode owner) a b = absurd (false≢true b)
one_kind f ALink other (Create dir name fid mode owner) a b = absurd (false≢true a)
one_kind f ADirectory other (Create dir name fid mode owner) a b = absurd (false≢true a)
one_kind f AFile other (Mkdir dir name fid mode owner) a b = absurd (false≢true a)
one_kind f ALink other (Mkdir dir name fid mode owner) a b = absurd (false≢true a)
one_kind f ADirectory AFile (Mkdir dir name fid mode owner) a b = absurd (false≢true b)
one_kind f ADirectory ALink (Mkdir dir name fid mode owner) a b = absurd (false≢true b)
one_kind f AFile other (Symlink dir name fid target mode owner) a b = absurd (false≢true a)
one_kind f ALink AFile (Symlink dir name fid target mode owner) a b = absurd (false≢true b)
one_kind f ALink ADirectory (Symlink dir name fid target mode owner) a b = absurd (false≢true b)
one_kind f ADirectory other (Symlink dir name fid target mode owner) a b = absurd (false≢true a)
one_kind f one other _ a b = absurd (false≢true a)

both_parts : (a b : Bool) → (a && b) ≡ true → (a ≡ true) × (b ≡ true)
both_parts true b h = (refl, h)
both_parts false b h = absurd (false≢true h)

-- ---- what was made stays made

pub made_grows : (moves : List Move) (old new : PlainCell) → Moved old moves new → (f : Fid) (kind : Kind)
    → IsMadeAs (done_on old) f kind → IsMadeAs (done_on new) f kind
made_grows moves old new moved f kind (inl root) = inl root
made_grows moves old new moved f kind (inr made) =
    let begins : BeginsWith (new.clients f.vnode).history (old.clients f.vnode).history =
    clients_run moves old new moved f.vnode in
    let deeds = done_on old f.vnode f.volume in
    let more : done_on new f.vnode f.volume ≡ deeds ++ deeds_of f.volume begins.0 =
    ap (deeds_of f.volume) begins.1 ∙ deeds_both f.volume (old.clients f.vnode).history begins.0 in
    let rec = some_record (makes f kind) (full_of deeds) made in
    inr (any_of (makes f kind) (full_of (done_on new f.vnode f.volume)) rec.0
    (subst (λ ds. In rec.0 (full_of ds)) (sym more) (in_full rec.0 deeds (deeds_of f.volume begins.0) rec.1)) rec.2)

-- ---- what clients made

-- what a client's operation made was made so
pub made_from : (deeds : ℕ → ℕ → List Deed) (client volume : ℕ) (rec : Record) (f : Fid) (kind : Kind)
    → AreNumberedObjects volume client (deeds client volume) → In rec (full_of (deeds client volume))
    → makes f kind rec.op ≡ true → IsMadeAs deeds f kind
made_from deeds client volume rec f kind numbered i makes_it =
    let c = made_creates f kind rec.op makes_it in
    let full = full_of (deeds client volume) in
    let own : client ≡ f.vnode = made_own volume client 0 full rec f numbered i c in
    let here : volume ≡ f.volume = made_here volume client 0 full rec f numbered i c in
    inr (any_of (makes f kind) (full_of (deeds f.vnode f.volume)) rec
    (subst (λ v. In rec (full_of (deeds f.vnode v))) here (subst (λ n. In rec (full_of (deeds n volume))) own i))
    makes_it)

-- where no client has the number 0, none made a root; and each object is made of one kind
module _ (deeds : ℕ → ℕ → List Deed) (f : Fid) (idle : deeds 0 f.volume ≡ [])
    (numbered : AreNumberedObjects f.volume f.vnode (deeds f.vnode f.volume)) where
  no_root : (kind : Kind) → f ≡ root_of f.volume
      → any_record (makes f kind) (full_of (deeds f.vnode f.volume)) ≡ true → ⊥
  no_root kind root made =
      let none : deeds f.vnode f.volume ≡ [] = ap (λ (g : Fid). deeds g.vnode f.volume) root ∙ idle in
      false≢true (sym (ap (λ ds. any_record (makes f kind) (full_of ds)) none) ∙ made)

  pub made_once : (one other : Kind) → IsMadeAs deeds f one → IsMadeAs deeds f other → one ≡ other
  made_once one other (inl a) (inl b) = a.1 ∙ sym b.1
  made_once one other (inl a) (inr b) = absurd (no_root other a.0 b)
  made_once one other (inr a) (inl b) = absurd (no_root one b.0 a)
  made_once one other (inr a) (inr b) =
      let full = full_of (deeds f.vnode f.volume) in
      let x = some_record (makes f one) full a in
      let y = some_record (makes f other) full b in
      let counted = counted_from f.volume f.vnode 0 full numbered in
      let same : x.0 ≡ y.0 = once 0 full f x.0 y.0 counted x.1 y.1 (made_creates f one x.0.op x.2)
      (made_creates f other y.0.op y.2) in
      one_kind f one other y.0.op (subst (λ (r : Record). makes f one r.op ≡ true) same x.2) y.2

-- ---- a cell

-- what a client's operation made in a sound cell was made so
pub made_by : (cell : PlainCell) → IsSound cell → (client volume : ℕ) (rec : Record) (f : Fid) (kind : Kind)
    → In rec (full_of (done_on cell client volume)) → makes f kind rec.op ≡ true → IsMadeAs (done_on cell) f kind
made_by cell sound client volume rec f kind i makes_it =
    made_from (done_on cell) client volume rec f kind ((sound.agree none_joins).numbered client volume) i makes_it

pub kept_once : (cell : MadeCell) → IsKept cell → (f : Fid) (one other : Kind) → IsMadeAs (done_on cell.acted) f one
    → IsMadeAs (done_on cell.acted) f other → one ≡ other
kept_once cell kept f one other a b =
    let idle = ap (deeds_of f.volume) (kept.made.clients 0 (unmade (cell.sizes 0) refl)) in
    let numbered = (kept.sound.agree none_joins).numbered f.vnode f.volume in
    made_once (done_on cell.acted) f idle numbered one other a b
  where
    unmade : (o : Option ℕ) → cell.sizes 0 ≡ o → cell.sizes 0 ≡ None
    unmade None e = e
    unmade (Some blocks) e = absurd (kept.made.numbered 0 blocks e refl)

-- ---- an event

-- What an event does keeps kinds: what a client holds behind its entry it held so before, or has by the entry; and what
-- a resolution left is as it was made.
abbrev pub GoesByKinds : MadeCell → Event → Type 0
GoesByKinds old (Entered (AtClient client entry)) = (blocks : ℕ) (f : Fid) (kind : Kind)
    → (let c = client_of client (old.acted.clients client).history blocks in
    kind_at (held_after c.held c.number entry).nodes f ≡ Some kind
    → (kind_at c.held.nodes f ≡ Some kind) ⊎ IsHadBy f kind entry)
GoesByKinds old (Entered (AtReplica server volume (Decided client number span))) = Unit {0}
GoesByKinds old (Entered (AtReplica server volume (Resolved objects lasts))) = (f : Fid) (kind : Kind)
    → kind_at (nodes_in objects) f ≡ Some kind → IsMadeAs (done_on old.acted) f kind
GoesByKinds old _ = Unit {0}

-- ---- the entry of an actor

-- an event that might happen, and left a sound cell
module _ (old : MadeCell) (event : Event) (sound : IsSound (grown old event).acted)
    (moved : Moved old.acted (move_of event) (grown old event).acted) (as_made : AreAsMade old.acted) where
  grows : (f : Fid) (kind : Kind) → IsMadeAs (done_on old.acted) f kind
      → IsMadeAs (done_on (grown old event).acted) f kind
  grows = made_grows (move_of event) old.acted (grown old event).acted moved

  -- what a client has by an entry was made so
  had_made : (client : ℕ) (entry : ClientEntry) (f : Fid) (kind : Kind) → MayEnter old.acted client entry
      → ((volume : ℕ) (rec : Record) → In rec (full_of (deed_on volume entry))
      → In rec (full_of (done_on (grown old event).acted client volume)))
      → IsHadBy f kind entry → IsMadeAs (done_on (grown old event).acted) f kind
  had_made client (Fetched fid parent node) f kind may done had =
      let nodes = nodes_of may.1 (old.acted.replicas may.0 may.1).history in
      let there : kind_at nodes f ≡ Some kind = ap (kind_at nodes) had.0 ∙ ap kind_in may.3 ∙ ap Some had.1 in
      grows f kind (as_made.replicas may.0 may.1 f kind there)
  had_made client (Did volume (Operated rec)) f kind may done had =
      let here : In rec (full_of (deed_on volume (Did volume (Operated rec)))) =
      subst (λ b. In rec (full_of (cond b (Operated rec ∷ []) []))) (sym (eq-eqb volume volume refl)) (inl refl) in
      made_by (grown old event).acted sound client volume rec f kind (done volume rec here) had
  had_made client (Did volume (Froze number home last)) f kind may done had = absurd had
  had_made client (Did volume (Settled number verdict)) f kind may done had = absurd had
  had_made client (Did volume Gaveup) f kind may done had = absurd had
  had_made client (Dropping gone entry) f kind may done had = had_made client entry f kind may done had

  -- what a replica has by an entry was made so
  brought_made : (server volume : ℕ) (entry : ReplicaEntry) (f : Fid) (kind : Kind)
      → GoesByKinds old (Entered (AtReplica server volume entry))
      → ((d : Decision) → In d (decision_at volume (old.acted.replicas server volume).history entry)
      → In d (decisions_of volume ((grown old event).acted.replicas server volume).history))
      → IsBroughtAsBy f kind (kept_of volume (old.acted.replicas server volume).history) entry
      → IsMadeAs (done_on (grown old event).acted) f kind
  brought_made server volume (Decided client number span) f kind goes decides by =
      let agree = sound.agree none_joins in
      let d : Decision = record {
        client = client;
        number = number;
        span = span;
        before =
            nodes_of volume (old.acted.replicas server volume).history;
      } in
      let frozen = agree.frozen server volume d (decides d (inl refl)) in
      let rec = some_record (makes f kind) span by.1 in
      made_by (grown old event).acted sound client volume rec.0 f kind
      (spans_in (done_on (grown old event).acted client volume) (agree.lawful client volume)
      (record { number = number; home = server; span = span }) frozen rec.0 rec.1) rec.2
  brought_made server volume (Resolved objects lasts) f kind goes decides by = grows f kind (goes f kind by)

module _ (old : MadeCell) (client : ℕ) (entry : ClientEntry)
    (sound : IsSound (grown old (at_client client entry)).acted)
    (moved : Moved old.acted (move_of (at_client client entry)) (grown old (at_client client entry)).acted)
    (as_made : AreAsMade old.acted) (goes : GoesByKinds old (at_client client entry)) where
  abbrev entered : Event
  entered = at_client client entry

  abbrev history : List ClientEntry
  history = (old.acted.clients client).history

  one : HasMore old (grown old entered) client (entry ∷ [])
  one = has_more old client (entry ∷ [])

  done : (volume : ℕ) (rec : Record) → In rec (full_of (deed_on volume entry))
      → In rec (full_of (done_on (grown old entered).acted client volume))
  done volume rec i =
      let whole = done_here old (grown old entered) client (entry ∷ []) one volume in
      let last : In rec (full_of (deeds_of volume (entry ∷ []))) =
      subst (λ ds. In rec (full_of ds)) (sym (append-nil (deed_on volume entry))) i in
      subst (λ ds. In rec (full_of ds)) (sym whole)
      (full_behind rec (done_on old.acted client volume) (deeds_of volume (entry ∷ [])) last)

  here : (blocks : ℕ) (f : Fid) (kind : Kind)
      → kind_at (client_of client ((grown old entered).acted.clients client).history blocks).held.nodes f ≡ Some kind
      → IsMadeAs (done_on (grown old entered).acted) f kind
  here blocks f kind is =
      let c = client_of client history blocks in
      let after : client_of client ((grown old entered).acted.clients client).history blocks ≡ client_after c entry =
      ap (λ h. client_of client h blocks) one.here ∙ client_push (new_client client blocks) history entry in
      elim (goes blocks f kind (sym (ap (λ (x : ClientState). kind_at x.held.nodes f) after) ∙ is)) [
        | inl was ↦ grows old entered sound moved as_made f kind (as_made.clients client blocks f kind was)
        | inr had ↦ had_made old entered sound moved as_made client entry f kind moved.0.1 done had
      ]

  pub client_as_made : AreAsMade (grown old entered).acted
  client_as_made = record {
    replicas = λ server volume f kind is.
        grows old entered sound moved as_made f kind (as_made.replicas server volume f kind is);
    clients = λ c blocks f kind is. elim (cases_Bool (c == client)) [
      | inl same ↦
          let at = eqb-true c client same in
          here blocks f kind (subst (λ n.
          kind_at (client_of n ((grown old entered).acted.clients n).history blocks).held.nodes f ≡ Some kind) at
          is)
      | inr other ↦
          let off : c ≢ client = λ same. false≢true (sym other ∙ eq-eqb c client same) in
          grows old entered sound moved as_made f kind
          (as_made.clients c blocks f kind
          (sym (ap (λ (a : Actor ClientEntry). kind_at (client_of c a.history blocks).held.nodes f)
          (one.others c off)) ∙ is))
    ];
  }

module _ (old : MadeCell) (server volume : ℕ) (entry : ReplicaEntry)
    (sound : IsSound (grown old (Entered (AtReplica server volume entry))).acted)
    (moved : Moved old.acted (move_of (Entered (AtReplica server volume entry)))
    (grown old (Entered (AtReplica server volume entry))).acted)
    (as_made : AreAsMade old.acted) (goes : GoesByKinds old (Entered (AtReplica server volume entry))) where
  abbrev decided : Event
  decided = Entered (AtReplica server volume entry)

  abbrev past : List ReplicaEntry
  past = (old.acted.replicas server volume).history

  now : ((grown old decided).acted.replicas server volume).history ≡ past ++ entry ∷ []
  now = ap (λ b. (cond b (grown_actor entry (old.acted.replicas server volume))
      (old.acted.replicas server volume)).history)
      (and_from (server == server) (volume == volume) (eq-eqb server server refl) (eq-eqb volume volume refl))

  has_now : (f : Fid) (kind : Kind)
      → kind_at (nodes_of volume ((grown old decided).acted.replicas server volume).history) f ≡ Some kind
      → IsMadeAs (done_on (grown old decided).acted) f kind
  has_now f kind is =
      let whole : nodes_of volume ((grown old decided).acted.replicas server volume).history ≡
      (kept_after (kept_of volume past) entry).nodes =
      ap (nodes_of volume) now ∙ ap (λ (k : Kept). k.nodes) (left_push kept_after (kept_of volume []) past entry) in
      elim (entry_kind (kept_of volume past) entry f kind (sym (ap (λ m. kind_at m f) whole) ∙ is)) [
        | inl was ↦ grows old decided sound moved as_made f kind (as_made.replicas server volume f kind was)
        | inr by ↦ brought_made old decided sound moved as_made server volume entry f kind goes
            (λ d i. subst (λ h. In d (decisions_of volume h)) (sym now)
            (told_new (decision_at volume) past entry d i)) by
      ]

  pub replica_as_made : AreAsMade (grown old decided).acted
  replica_as_made = record {
    clients = λ c blocks f kind is. grows old decided sound moved as_made f kind (as_made.clients c blocks f kind is);
    replicas = λ s v f kind is. elim (cases_Bool ((s == server) && (v == volume))) [
      | inl both ↦
          let at = both_parts (s == server) (v == volume) both in
          has_now f kind (subst (λ w. kind_at
          (nodes_of w ((grown old decided).acted.replicas server w).history) f ≡ Some kind) (eqb-true v volume at.1)
          (subst (λ t. kind_at (nodes_of v ((grown old decided).acted.replicas t v).history) f ≡ Some kind)
          (eqb-true s server at.0) is))
      | inr off ↦
          let else : ((grown old decided).acted.replicas s v) ≡ old.acted.replicas s v =
          ap (λ b. cond b (grown_actor entry (old.acted.replicas server volume)) (old.acted.replicas s v)) off in
          grows old decided sound moved as_made f kind
          (as_made.replicas s v f kind (sym
          (ap (λ (a : Actor ReplicaEntry). kind_at (nodes_of v a.history) f) else) ∙ is))
    ];
  }

-- ---- events

-- an event keeps it
pub event_as_made : (old : MadeCell) (event : Event) → IsSound (grown old event).acted
    → Moved old.acted (move_of event) (grown old event).acted → GoesByKinds old event → AreAsMade old.acted
    → AreAsMade (grown old event).acted
event_as_made old (Entered (AtClient client entry)) sound moved goes as_made =
    client_as_made old client entry sound moved as_made goes
event_as_made old (Entered (AtReplica server volume entry)) sound moved goes as_made =
    replica_as_made old server volume entry sound moved as_made goes
event_as_made old (VolumeMade volume server) sound moved goes as_made = as_made
event_as_made old (ClientMade client blocks) sound moved goes as_made = as_made
event_as_made old (Ticked seconds) sound moved goes as_made = as_made
event_as_made old (LinkSet client server strength) sound moved goes as_made = as_made
event_as_made old (Posted sent) sound moved goes as_made =
    record { replicas = as_made.replicas; clients = as_made.clients }
event_as_made old (Lost message) sound moved goes as_made =
    record { replicas = as_made.replicas; clients = as_made.clients }
event_as_made old (Used client fids) sound moved goes as_made = as_made
event_as_made old (state.Kept client server fid) sound moved goes as_made = as_made
event_as_made old (state.Stale client fids) sound moved goes as_made = as_made

-- each of events in turn goes by kinds in the cell that those before it left
abbrev pub AllGoByKinds : MadeCell → List Event → Type 0
AllGoByKinds old [] = Unit {0}
AllGoByKinds old (event ∷ events) = GoesByKinds old event × AllGoByKinds (grown old event) events

split : (old : MadeCell) (event : Event) (moves : List Move) (new : PlainCell)
    → Moved old.acted (move_of event ++ moves) new
    → Moved old.acted (move_of event) (grown old event).acted × Moved (grown old event).acted moves new
split old (VolumeMade volume server) moves new m = (refl, m)
split old (ClientMade client blocks) moves new m = (refl, m)
split old (Ticked seconds) moves new m = (refl, m)
split old (LinkSet client server strength) moves new m = (refl, m)
split old (Entered append) moves new m = ((m.0, refl), m.1)
split old (Posted sent) moves new m = ((m.0, refl), m.1)
split old (Lost message) moves new m = ((m.0, refl), m.1)
split old (Used client fids) moves new m = (refl, m)
split old (state.Kept client server fid) moves new m = (refl, m)
split old (state.Stale client fids) moves new m = (refl, m)

-- and so do events in order that might happen, where each front of them leaves a cell that is sound
pub events_as_made : (old : MadeCell) (happened : List Event) (new : PlainCell) → Moved old.acted
    (moves_of happened) new
    → ((done rest : List Event) → happened ≡ done ++ rest → IsSound (grown_all old done).acted)
    → AllGoByKinds old happened
    → AreAsMade old.acted → AreAsMade (grown_all old happened).acted
events_as_made old [] new moved fronts goes as_made = as_made
events_as_made old (event ∷ happened) new moved fronts goes as_made =
    let parts = split old event (moves_of happened) new moved in
    events_as_made (grown old event) happened new parts.1
    (λ done rest e. fronts (event ∷ done) rest (ap (λ l. event ∷ l) e)) goes.1
    (event_as_made old event (fronts (event ∷ []) happened refl) parts.0 goes.0 as_made)
