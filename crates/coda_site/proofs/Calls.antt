-- What a client's call leaves of the slot that it was taken from.
use Rattle.std.proofs.Common.{◌≡◌, ◌≢◌, ℕ, Bool, true, false, List, [], ◌∷◌, map, Option, Some, None, Result, Ok, Err, IfOk, refl, sym, ap, subst, ◌∙◌, inl}
use Rattle.std.specs.Prelude.{not}
use Rattle.std.specs.BTreeMap.{BTreeMap}
use Rattle.std.specs.Option.{option_map}
use Rattle.coda_disk.specs.Told.{Told}
use Rattle.coda_tree.specs.Volume.{Nodes}
use Rattle.coda_journal.specs.declared.header.Header.{Header}
use Rattle.coda_actors.specs.Clients.{client_form}
use Rattle.coda_actors.specs.Slots.{is_up}
use Rattle.coda_actors.specs.declared.slot.Slot.{Slot}
use Rattle.coda_actors.specs.declared.slot.Slot.TheVariants.{Started}
use Rattle.coda_crew.specs.Crews.{slot_at, KeepsOtherSlots}
use Rattle.coda_script.specs.declared.reply.Reply.{Reply}
use Rattle.coda_venus.specs.declared.refused.Refused.{Refused as VenusRefused}
use Rattle.coda_venus.specs.declared.refused.Refused.TheVariants as reason
use Rattle.coda_venus.specs.declared.venus.Venus.{Venus}
use Rattle.coda_cell.specs.Made.{client_of}
use Rattle.coda_cell.specs.Refusing.{refusal}
use Rattle.coda_cell.specs.State.{at_client}
use Rattle.coda_cell.specs.Steps.{ByClient, on_volume, first_missing, offers_of, reply_to}
use Rattle.coda_cell.specs.Refused as refused
use Rattle.coda_matching.specs.Clients.{Ends}
use Rattle.coda_cell.specs.Refusing.{client_refused_as}
use Rattle.coda_serving.specs.Serving.{AreSpelledOffers}
use Rattle.coda_shelves.specs.Cells.{Cell, state_of}
use Rattle.coda_shelves.specs.Lines.{refused_down, refused_fault, client_down}
use Rattle.coda_site.specs.Shelves.{Shows}
use Rattle.coda_site.specs.Sites.{is_client_disk, place_in, IsReady, client_at, volume_at}
use Rattle.coda_site.specs.Steps.{Becomes}
use Rattle.coda_site.specs.Tasks.{met_by, Request, Answers, Asks, CallEnds, offered_at}
use Rattle.coda_site.specs.declared.fault.CellFault.{CellFault}
use Rattle.coda_site.specs.declared.fault.CellFault.TheVariants as fault
use Rattle.coda_site.specs.declared.site.Site.{Site}
use Rattle.coda_site.proofs.Becomings.{named_missing, named_there, missing_some, missing_becomes, down_becomes, up_becomes, RepliesTo, ends_by, refused_replies}
use Rattle.coda_site.proofs.ClientSites.{started_up, up_at, leaves, with_clients, still_ready}
use Rattle.coda_site.proofs.Offers.{offered_is}
use Rattle.coda_site.proofs.Theres.{on_volume_at, client_down_by}

-- one slot, one header and one actor
pub same_header : {A D : Type 0} (h k : Header) (a b : A) → (let started : Header → A → Slot A D = λ x y. Started x y in started h a ≡ started k b) → h ≡ k
same_header h k a b e = cc

pub same_actor : {A D : Type 0} (h k : Header) (a b : A) → (let started : Header → A → Slot A D = λ x y. Started x y in started h a ≡ started k b) → a ≡ b
same_actor h k a b e = cc

-- a client that was found up by its number is up
pub found_up_at : {D : Type 0} (told : D → Told) (slots : BTreeMap ℕ (Slot (Venus D) D)) (client found number : ℕ) (up : Bool) → up ≡ is_up (client_form told) (slot_at slots found) → found ≡ client → number ≡ client → up ≡ true
    → is_up (client_form told) (slot_at slots number) ≡ true
found_up_at told slots client found number up tells same other on = ap (λ (m : ℕ). is_up (client_form told) (slot_at slots m)) (other ∙ sym same) ∙ sym tells ∙ on

-- ---- how a client that is asked answers

module _ {D B : Type 0} (told : D → Told) (out : ℕ → Bool) (site : Site D) (slots : BTreeMap ℕ (Slot (Venus D) D)) (number : ℕ) (offers : Option Nodes) (request : Request) (IsAs : Reply → B → Type 0) (result : Result B VenusRefused)
    (up : is_up (client_form told) (slot_at site.clients number) ≡ true) (others : KeepsOtherSlots number site.clients slots) (ends : CallEnds told number offers request site.clients slots IsAs result) where
  -- a call leaves a site
  pub call_ready : IsReady told out site → IsReady told out (with_clients site slots)
  call_ready ready =
      let s = started_up told (slot_at site.clients number) up in
      let e = ends s.0 s.1 s.2 in
      still_ready told out site slots number s.0 s.1 e.0 s.2 others e.1 ready

module _ {D B : Type 0} (told : D → Told) (out : ℕ → Bool) (has : ℕ → Told) (cell : Cell) (site : Site D) (shows : Shows told out has cell site)
    (client volume number : ℕ) (here : is_client_disk client ≡ true) (there : first_missing (client_at site client ∷ volume_at site volume ∷ []) ≡ None) (same : number ≡ client)
    (up : is_up (client_form told) (slot_at site.clients number) ≡ true) (slots : BTreeMap ℕ (Slot (Venus D) D)) (others : KeepsOtherSlots number site.clients slots)
    (offers : Option Nodes) (offers_are : offers ≡ offered_at site.net site.replicas client (place_in site volume)) (request : Request) (f : B → Reply) (result : Result B VenusRefused)
    (ends : CallEnds told number offers request site.clients slots (λ (a : Reply) (b : B). a ≡ f b) result) where
  -- a call that a client answered is what the cell says
  pub asked_becomes : (reply : Reply) (answered : List (List ℕ)) → RepliesTo f result reply → Becomes told out has (Asks cell client volume request) reply answered answered (with_clients site slots)
  asked_becomes reply answered replies =
      let names = on_volume (state_of cell) client volume in
      let all = ap first_missing (on_volume_at told out has cell site shows client volume here) ∙ there in
      let off = client_down_by told out has cell site shows client number (volume_at site volume ∷ []) true here there same (sym up) in
      let up_here = subst (λ (m : ℕ). is_up (client_form told) (slot_at site.clients m) ≡ true) same up in
      let others_here = subst (λ (m : ℕ). KeepsOtherSlots m site.clients slots) same others in
      let u = up_at told out has cell shows.kept site client shows.stands here up_here in
      let header = u.0 in
      let own = u.2 in
      let history = (cell.clients client).disk.history in
      let c = client_of header.number history header.cache in
      let e = subst (λ (m : ℕ). CallEnds told m offers request site.clients slots (λ (a : Reply) (b : B). a ≡ f b) result) same ends header u.1 own.slot in
      let left = e.0 in
      let o = offered_is told out has cell site shows client volume in
      let answer = request (offers_of (met_by cell volume) client volume) c in
      let ended = subst (λ (x : Option Nodes). Ends told header history (request x c).entries (request x c).said (λ (a : Reply) (b : B). a ≡ f b) left result) (offers_are ∙ o.0)
      (e.3 history own.up own.lawful (subst AreSpelledOffers (sym offers_are) o.1)) in
      let leaves_so = leaves told out has cell site slots client header u.1 left shows.stands own others_here e.1 answer.entries answer.said (λ (a : Reply) (b : B). a ≡ f b) result e.2 ended in
      let b = ends_by told out has cell client answer.entries answer.said f (with_clients site slots) result reply leaves_so replies in
      up_becomes told out has cell names (client_down cell client) (λ reply outside new. (outside ≡ []) × Answers cell client volume request reply new) reply answered (with_clients site slots) all off b.0 (
        refl,
        record {
          own = reply_to answer.said;
          events = map (at_client client) answer.entries;
          does = named_there (on_volume (met_by cell volume) client volume) (ByClient (met_by cell volume) client volume request) (reply_to answer.said) (map (at_client client) answer.entries) all
              (record { client = c; there = own.shown; answered = refl; happened = refl });
          ends = b.1;
        },
      ) b.2

-- what is replied to a refusal
pub refused_so : {B : Type 0} (f : B → Reply) (why : VenusRefused) (result : Result Reply CellFault) → ((why ≢ reason.Down) → (why ≢ reason.DiskFault) → IfOk result (λ said. said ≡ refusal (client_refused_as why))) → (why ≡ reason.DiskFault → IfOk result (λ said. said ≡ refused_fault))
    → (why ≡ reason.Memory → result ≡ Err fault.Memory) → IfOk result (λ said. RepliesTo f (Err why) said)
refused_so f why (Ok said) own disk memory = refused_replies f why said (λ m. (let no : Ok said ≡ Err fault.Memory = memory m in cc)) own disk
refused_so f why (Err e) own disk memory = tt

-- nobody is asked who is missing, or down
module _ {D : Type 0} (told : D → Told) (out : ℕ → Bool) (has : ℕ → Told) (cell : Cell) (site : Site D) (shows : Shows told out has cell site)
    (client volume : ℕ) (here : is_client_disk client ≡ true) (request : Request) (answered : List (List ℕ)) (reply : Reply) where
  pub missing_asked : (result : Option ℕ) (number : ℕ) → option_map refused.NoSuchActor result ≡ first_missing (client_at site client ∷ volume_at site volume ∷ []) → result ≡ Some number → reply ≡ refusal (refused.NoSuchActor number)
      → Becomes told out has (Asks cell client volume request) reply answered answered site
  missing_asked result number ensures found said =
      let names = on_volume (state_of cell) client volume in
      let missing : first_missing names ≡ Some (refused.NoSuchActor number) = ap first_missing (on_volume_at told out has cell site shows client volume here) ∙ missing_some result (client_at site client ∷ volume_at site volume ∷ []) number found ensures in
      missing_becomes told out has cell names (client_down cell client) (λ reply outside new. (outside ≡ []) × Answers cell client volume request reply new) reply answered site (refused.NoSuchActor number) missing (
        refl,
        record {
          own = reply;
          events = [];
          does = named_missing (on_volume (met_by cell volume) client volume) (refused.NoSuchActor number) (ByClient (met_by cell volume) client volume request) reply missing said;
          ends = inl (tt, refl, refl);
        },
      ) shows.stands

  pub down_asked : (number : ℕ) (up : Bool) → first_missing (client_at site client ∷ volume_at site volume ∷ []) ≡ None → number ≡ client → up ≡ is_up (client_form told) (slot_at site.clients number) → up ≡ false → reply ≡ refused_down
      → Becomes told out has (Asks cell client volume request) reply answered answered site
  down_asked number up there same tells down said =
      down_becomes told out has cell (on_volume (state_of cell) client volume) (client_down cell client) (λ reply outside new. (outside ≡ []) × Answers cell client volume request reply new) reply answered site
      (ap first_missing (on_volume_at told out has cell site shows client volume here) ∙ there)
      (client_down_by told out has cell site shows client number (volume_at site volume ∷ []) up here there same tells ∙ ap not down) said shows.stands
