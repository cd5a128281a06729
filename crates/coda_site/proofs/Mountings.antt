-- What becomes of an actor becomes of it as its journal has it, and the other way round.
use Rattle.std.proofs.Common.{suc, ◌≡◌, ◌⊎◌, inl, inr, ℕ, true, false, List, [], ◌∷◌, ◌++◌, map, length, Option, Some, None, option_map, refl, sym, ap, subst, ◌∙◌}
use Rattle.std.proofs.lemmas.List.{map-append, length-map}
use Rattle.coda_disk.specs.Told.{Told}
use Rattle.coda_journal.specs.declared.header.Header.{Header}
use Rattle.coda_actors.specs.Clients.{client_form}
use Rattle.coda_actors.specs.Form.{Form}
use Rattle.coda_actors.specs.Plain.{PlainDisk, PlainActor, Life, Unmade, Down, Joins, Tries, Mounts, Asks, recovered_as, left_after, Step}
use Rattle.coda_actors.specs.Plain.{Opens as OpenDeed, Crashes as CrashDeed, Recovers as RecoverDeed, MayHave as MayHaveAs, IsReadFrom as IsReadAs}
use Rattle.coda_actors.specs.Replicas.{replica_form}
use Rattle.coda_actors.specs.declared.slot.Mounting.{Mounting}
use Rattle.coda_actors.specs.declared.slot.Mounting.TheVariants.{Entries, Foreign, DiskFault, Memory}
use Rattle.coda_plain.specs.Cell.{ClientEntry, joined_to}
use Rattle.coda_plain.specs.Decisions.{ReplicaEntry, Decided, Resolved}
use Rattle.coda_plain.specs.Histories.{In}
use Rattle.coda_plain.specs.Histories as histories
use Rattle.coda_plain.proofs.Lists.{told_push, in_left}
use Rattle.coda_record.specs.declared.entry.ReplicaEntry.{ReplicaEntry as KeptEntry}
use Rattle.coda_script.specs.declared.reply.Reply.{Reply}
use Rattle.coda_script.specs.declared.reply.Reply.TheVariants.{Crashed}
use Rattle.coda_venus.specs.History.{Payload}
use Rattle.coda_matching.specs.Clients.{journal_by, payload_by}
use Rattle.coda_matching.specs.Replicas.{entry_at, journal_at, IsDecision}
use Rattle.coda_shelves.specs.Shelves.{client_journal, replica_journal, entries_on, volume_of}
use Rattle.coda_shelves.specs.Cells.{Cell, asked}
use Rattle.coda_shelves.specs.Lines.{IsTold, made_on, opening, recovery, Payloads, client_payloads, replica_payloads, MayHave, IsReadFrom, Crashes, Recovers}
use Rattle.coda_site.specs.Makings.{SaysOpened, SaysRecovered}
use Rattle.coda_site.specs.Sites.{as_journal}

-- ---- lists

nil_mapped : {A B : Type 0} (f : A → B) (l : List A) → map f l ≡ [] → l ≡ []
nil_mapped f [] is = refl
nil_mapped f (a ∷ l) is = (let no : f a ∷ map f l ≡ [] = is in cc)

nil_by_length : {A : Type 0} (l : List A) → length l ≡ 0 → l ≡ []
nil_by_length [] none = refl
nil_by_length (a ∷ l) none = (let no : suc (length l) ≡ 0 = none in cc)

some_mapped : {A B : Type 0} (f : A → B) (o : Option A) (b : B) → option_map f o ≡ Some b → (a : A) × (o ≡ Some a) × (b ≡ f a)
some_mapped f None b is = cc
some_mapped f (Some a) b is = (a, refl, (let e : Some (f a) ≡ Some b = is in cc))

one_listed : {A : Type 0} (a b : A) → Some a ≡ Some b → a ∷ [] ≡ b ∷ []
one_listed a b e = (let same : a ≡ b = cc in ap (λ x. x ∷ []) same)

-- ---- disks

-- A mounting that left this of a disk, as its journal has it, left this of it.
pub record IsMounted {E F : Type 0} (journal : PlainDisk E → PlainDisk F) (header : Header) (old : PlainDisk E) (ending : Mounting) (new : PlainDisk F) : Type 0 where
  pub disk : PlainDisk E
  pub mounts : Mounts header old ending disk
  pub is : new ≡ journal disk

abbrev fresh : {E : Type 0} → Header → PlainDisk E
fresh header = record { header = Some header; history = []; failed = None }

-- one that tried to
tried : {E F : Type 0} (journal : PlainDisk E → PlainDisk F) (header : Header) (old : PlainDisk E) (new : PlainDisk F) → ((journal old).history ≡ [] → old.history ≡ []) → journal (fresh header) ≡ fresh header
    → Tries header (journal old) new → (disk : PlainDisk E) × Tries header old disk × (new ≡ journal disk)
tried journal header old new empty blank (inl same) = (old, inl refl, same)
tried journal header old new empty blank (inr none) = (fresh header, inr (empty none.0, refl), none.1 ∙ sym blank)

-- ---- a client's

module _ (header : Header) (old : PlainDisk ClientEntry) (new : PlainDisk Payload) where
  client_found : (count : ℕ) (history : List ClientEntry) → Joins header (client_journal old) new → count ≡ length new.history → new.history ≡ journal_by history
      → (history ≡ old.history) ⊎ ((entry : ClientEntry) × (old.failed ≡ Some entry) × (history ≡ old.history ++ entry ∷ [])) → IsMounted client_journal header old (Entries count) new
  client_found count history joined counts is from = record {
    disk = record { header = Some header; history = history; failed = None };
    mounts = (
      record {
        history = from;
        failed = refl;
        given = refl;
        was = elim joined.was [ inl same ↦ inl same | inr none ↦ inr (nil_mapped payload_by old.history none.0, nil_mapped payload_by history (sym is ∙ none.1)) ];
      },
      counts ∙ ap length is ∙ length-map history payload_by,
    );
    is = λ i. record { header = joined.given i; history = is i; failed = joined.failed i };
  }

  client_tried : Tries header (client_journal old) new → (disk : PlainDisk ClientEntry) × Tries header old disk × (new ≡ client_journal disk)
  client_tried = tried client_journal header old new (nil_mapped payload_by old.history) refl

  client_mounted : (ending : Mounting) → Mounts header (client_journal old) ending new → IsMounted client_journal header old ending new
  client_mounted (Entries count) m = elim m.0.history [
    | inl same ↦ client_found count old.history m.0 m.1 same (inl refl)
    | inr more ↦ (
        let entry = some_mapped payload_by old.failed more.0 more.1 in
        client_found count (old.history ++ entry.0 ∷ []) m.0 m.1
        (more.2 ∙ ap (λ (p : Payload). journal_by old.history ++ p ∷ []) entry.2 ∙ sym (map-append payload_by old.history (entry.0 ∷ [])))
        (inr (entry.0, entry.1, refl)))
  ]
  client_mounted (Foreign at) m = record { disk = old; mounts = (m.0, refl); is = m.1 }
  client_mounted DiskFault m = (let t = client_tried m in record { disk = t.0; mounts = t.1; is = t.2 })
  client_mounted Memory m = (let t = client_tried m in record { disk = t.0; mounts = t.1; is = t.2 })

-- ---- a replica's

-- each decision is kept as one entry
one_kept : (volume : ℕ) (past : List ReplicaEntry) (entry : ReplicaEntry) → IsDecision entry → (kept : KeptEntry) × (entry_at volume past entry ≡ kept ∷ [])
one_kept volume past (Decided client number span) is = (_, refl)
one_kept volume past (Resolved nodes lasts) is = absurd is

-- so the journal is as long as the history
kept_long : (volume : ℕ) (past history : List ReplicaEntry) → ((entry : ReplicaEntry) → In entry history → IsDecision entry) → length (histories.told (entry_at volume) past history) ≡ length history
kept_long volume past [] alone = refl
kept_long volume past (entry ∷ history) alone =
    let one = one_kept volume past entry (alone entry (inl refl)) in
    ap (λ (l : List KeptEntry). length (l ++ histories.told (entry_at volume) (past ++ entry ∷ []) history)) one.1 ∙ ap suc (kept_long volume (past ++ entry ∷ []) history (λ e i. alone e (inr i)))

module _ (header : Header) (old : PlainDisk ReplicaEntry) (alone : (entry : ReplicaEntry) → In entry (entries_on true old) → IsDecision entry) (new : PlainDisk KeptEntry) where
  decided : (entry : ReplicaEntry) → In entry old.history → IsDecision entry
  decided entry i = alone entry (by old.failed)
    where
      by : (failed : Option ReplicaEntry) → In entry (joined_to old.history true failed)
      by None = i
      by (Some last) = in_left entry old.history (last ∷ []) i

  none_decided : journal_at (volume_of old.header) old.history ≡ [] → old.history ≡ []
  none_decided none = nil_by_length old.history (sym (kept_long (volume_of old.header) [] old.history decided) ∙ ap length none)

  -- the entry whose append failed, of which the journal keeps this
  failed_as : (kept : KeptEntry) (failed : Option ReplicaEntry) → old.failed ≡ failed → (replica_journal (record old { failed = failed })).failed ≡ Some kept
      → (entry : ReplicaEntry) × (old.failed ≡ Some entry) × (entry_at (volume_of old.header) old.history entry ≡ kept ∷ [])
  failed_as kept None e is = (let no : None ≡ Some kept = is in cc)
  failed_as kept (Some (Decided client number span)) e is = (Decided client number span, e, one_listed _ kept is)
  failed_as kept (Some (Resolved nodes lasts)) e is = (let no : None ≡ Some kept = is in cc)

  replica_found : (count : ℕ) (history : List ReplicaEntry) → new.header ≡ Some header → new.failed ≡ None → count ≡ length new.history → new.history ≡ journal_at header.number history
      → ((entry : ReplicaEntry) → In entry history → IsDecision entry) → (history ≡ old.history) ⊎ ((entry : ReplicaEntry) × (old.failed ≡ Some entry) × (history ≡ old.history ++ entry ∷ []))
      → (old.header ≡ Some header) ⊎ ((old.history ≡ []) × (history ≡ [])) → IsMounted replica_journal header old (Entries count) new
  replica_found count history given failed counts is decisions from was = record {
    disk = record { header = Some header; history = history; failed = None };
    mounts = (record { history = from; failed = refl; given = refl; was = was }, counts ∙ ap length is ∙ kept_long header.number [] history decisions);
    is = λ i. record { header = given i; history = is i; failed = failed i };
  }

  replica_joined : (count : ℕ) → Joins header (replica_journal old) new → count ≡ length new.history → IsMounted replica_journal header old (Entries count) new
  replica_joined count joined counts = elim joined.was [
    | inl same ↦ (
        let volume : volume_of old.header ≡ header.number = ap volume_of same in
        elim joined.history [
          | inl all ↦ replica_found count old.history joined.given joined.failed counts (all ∙ ap (λ v. journal_at v old.history) volume) decided (inl refl) (inl same)
          | inr more ↦ (
              let entry = failed_as more.0 old.failed refl more.1 in
              let history = old.history ++ entry.0 ∷ [] in
              replica_found count history joined.given joined.failed counts
              (more.2 ∙ ap (λ l. journal_at (volume_of old.header) old.history ++ l) (sym entry.2) ∙ sym (told_push (entry_at (volume_of old.header)) old.history entry.0) ∙ ap (λ v. journal_at v history) volume)
              (λ e i. alone e (subst (λ o. In e (joined_to old.history true o)) (sym entry.1) i)) (inr (entry.0, entry.1, refl)) (inl same))
        ])
    | inr none ↦ (
        let empty = none_decided none.0 in
        replica_found count [] joined.given joined.failed counts none.1 (λ entry i. absurd i) (inl (sym empty)) (inr (empty, refl)))
  ]

  replica_tried : Tries header (replica_journal old) new → (disk : PlainDisk ReplicaEntry) × Tries header old disk × (new ≡ replica_journal disk)
  replica_tried = tried replica_journal header old new none_decided refl

  replica_mounted : (ending : Mounting) → Mounts header (replica_journal old) ending new → IsMounted replica_journal header old ending new
  replica_mounted (Entries count) m = replica_joined count m.0 m.1
  replica_mounted (Foreign at) m = record { disk = old; mounts = (m.0, refl); is = m.1 }
  replica_mounted DiskFault m = (let t = replica_tried m in record { disk = t.0; mounts = t.1; is = t.2 })
  replica_mounted Memory m = (let t = replica_tried m in record { disk = t.0; mounts = t.1; is = t.2 })

-- ---- actors

-- what becomes of an actor, which as its journal has it is this
pub record IsActor {E F : Type 0} (journal : PlainDisk E → PlainDisk F) (happens : PlainActor E → Type 0) (new : PlainActor F) : Type 0 where
  pub actor : PlainActor E
  pub did : happens actor
  pub is : new ≡ as_journal journal actor

asked_by : (life : Life) (header : Header) → Asks life header → asked life ≡ Some header
asked_by life header (inl is) = ap asked is
asked_by life header (inr is) = ap asked is

-- a line opened an actor on this disk, which as its journal has it is this
pub record IsOpenedOn {E F : Type 0} (journal : PlainDisk E → PlainDisk F) (header : Header) (old : PlainActor E) (ending : Mounting) (new : PlainActor F) : Type 0 where
  pub disk : PlainDisk E
  pub unmade : old.life ≡ Unmade
  pub mounts : Mounts header old.disk ending disk
  pub is : new ≡ as_journal journal (made_on false header old disk ending)

-- where the disk is another's, nothing is done to the actor
pub foreign_same : {E F : Type 0} (journal : PlainDisk E → PlainDisk F) (header : Header) (old : PlainActor E) (at : ℕ) (new : PlainActor F) → (old.life ≡ Unmade → old.left ≡ None) → IsOpenedOn journal header old (Foreign at) new → new ≡ as_journal journal old
foreign_same journal header old at new left opened = opened.is ∙ (λ i. as_journal journal (record { disk = opened.mounts.1 i; life = sym opened.unmade i; left = sym (left opened.unmade) i }))

module _ {A D E : Type 0} (form : Form A D) (journal : PlainDisk E → PlainDisk form.Entry) (payloads : PlainDisk E → Payloads) (old : PlainActor E)
    (mounted : (header : Header) (new : PlainDisk form.Entry) (ending : Mounting) → Mounts header (journal old.disk) ending new → IsMounted journal header old.disk ending new) where
  pub opens : (header : Header) (ending : Mounting) (new : PlainActor form.Entry) → Step form (as_journal journal old) (OpenDeed header ending) new → IsOpenedOn journal header old ending new
  opens header ending new step = let m = mounted header new.disk ending step.1 in record { disk = m.disk; unmade = step.0; mounts = m.mounts; is = λ i. record { disk = m.is i; life = step.2 i; left = step.3 i } }

  pub crashes : (goes : PlainActor E → Cell) (image : List ℕ) (new : PlainActor form.Entry) → (MayHaveAs form (journal old.disk).header (journal old.disk).history (journal old.disk).failed image → MayHave old.disk.header (payloads old.disk) image)
      → Step form (as_journal journal old) (CrashDeed image) new → IsActor journal (λ actor. Crashes payloads old goes Crashed (image ∷ []) (goes actor)) new
  crashes goes image new may step = record {
    actor = record { disk = old.disk; life = Down step.0; left = Some image };
    did = (step.0, asked_by old.life step.0 step.1, (image, may step.2, refl, refl, refl));
    is = step.3;
  }

  pub recovers : (goes : PlainActor E → Cell) (ending : Mounting) (reply : Reply) (new : PlainActor form.Entry)
      → ((header : Header) (disk : PlainDisk E) → IsReadAs form header old.left (journal disk).history ending → IsReadFrom header old.left (payloads disk).all ending) → IsTold ending → reply ≡ recovery ending
      → Step form (as_journal journal old) (RecoverDeed ending) new → IsActor journal (λ actor. Recovers payloads old goes reply [] (goes actor)) new
  recovers goes ending reply new reads told says step =
      let header = step.0 in
      let m = mounted header new.disk ending step.2 in record {
        actor = record { disk = m.disk; life = recovered_as header ending; left = left_after old.left ending };
        did = (header, asked_by old.life header step.1, (ending, m.disk, told, m.mounts, reads header m.disk (subst (λ (d : PlainDisk form.Entry). IsReadAs form header old.left d.history ending) m.is step.3), says, refl, refl));
        is = λ i. record { disk = m.is i; life = step.4 i; left = step.5 i };
      }

-- ---- replies

-- what a mounting says that isn't for want of memory
pub opened_so : (ending : Mounting) (reply : Reply) → SaysOpened ending reply → IsTold ending × (reply ≡ opening [] false (ending ∷ []))
opened_so (Entries count) reply says = (tt, says)
opened_so (Foreign at) reply says = (tt, says)
opened_so DiskFault reply says = (tt, says)
opened_so Memory reply says = absurd says

pub recovered_so : (ending : Mounting) (reply : Reply) → SaysRecovered ending reply → IsTold ending × (reply ≡ recovery ending)
recovered_so (Entries count) reply says = (tt, says)
recovered_so (Foreign at) reply says = (tt, says)
recovered_so DiskFault reply says = (tt, says)
recovered_so Memory reply says = absurd says

-- ---- clients

module _ {D : Type 0} (told : D → Told) (old : PlainActor ClientEntry) where
  pub client_opens : (header : Header) (ending : Mounting) (new : PlainActor Payload) → Step (client_form told) (as_journal client_journal old) (OpenDeed header ending) new → IsOpenedOn client_journal header old ending new
  client_opens = opens (client_form told) client_journal client_payloads old (λ header new. client_mounted header old.disk new)

  client_may : (given : Option Header) (image : List ℕ) → MayHaveAs (client_form told) given (client_journal old.disk).history (client_journal old.disk).failed image → MayHave given (client_payloads old.disk) image
  client_may None image may = may
  client_may (Some header) image may = may

  pub client_crashes : (goes : PlainActor ClientEntry → Cell) (image : List ℕ) (new : PlainActor Payload) → Step (client_form told) (as_journal client_journal old) (CrashDeed image) new
      → IsActor client_journal (λ actor. Crashes client_payloads old goes Crashed (image ∷ []) (goes actor)) new
  client_crashes goes image new = crashes (client_form told) client_journal client_payloads old (λ header new. client_mounted header old.disk new) goes image new (client_may old.disk.header image)

  client_reads : (header : Header) (ending : Mounting) (disk : PlainDisk ClientEntry) → IsReadAs (client_form told) header old.left (client_journal disk).history ending → IsReadFrom header old.left (client_payloads disk).all ending
  client_reads header (Entries count) disk reads = reads
  client_reads header (Foreign at) disk reads = tt
  client_reads header DiskFault disk reads = tt
  client_reads header Memory disk reads = tt

  pub client_recovers : (goes : PlainActor ClientEntry → Cell) (ending : Mounting) (reply : Reply) (new : PlainActor Payload) → SaysRecovered ending reply → Step (client_form told) (as_journal client_journal old) (RecoverDeed ending) new
      → IsActor client_journal (λ actor. Recovers client_payloads old goes reply [] (goes actor)) new
  client_recovers goes ending reply new says =
      let so = recovered_so ending reply says in
      recovers (client_form told) client_journal client_payloads old (λ header new. client_mounted header old.disk new) goes ending reply new (λ header disk. client_reads header ending disk) so.0 so.1

-- ---- replicas

module _ {D : Type 0} (told : D → Told) (old : PlainActor ReplicaEntry) (alone : (entry : ReplicaEntry) → In entry (entries_on true old.disk) → IsDecision entry) where
  pub replica_opens : (header : Header) (ending : Mounting) (new : PlainActor KeptEntry) → Step (replica_form told) (as_journal replica_journal old) (OpenDeed header ending) new → IsOpenedOn replica_journal header old ending new
  replica_opens = opens (replica_form told) replica_journal replica_payloads old (λ header new. replica_mounted header old.disk alone new)

  replica_may : (given : Option Header) (image : List ℕ) → MayHaveAs (replica_form told) given (replica_journal old.disk).history (replica_journal old.disk).failed image → MayHave given (replica_payloads old.disk) image
  replica_may None image may = may
  replica_may (Some header) image may = may

  pub replica_crashes : (goes : PlainActor ReplicaEntry → Cell) (image : List ℕ) (new : PlainActor KeptEntry) → Step (replica_form told) (as_journal replica_journal old) (CrashDeed image) new
      → IsActor replica_journal (λ actor. Crashes replica_payloads old goes Crashed (image ∷ []) (goes actor)) new
  replica_crashes goes image new = crashes (replica_form told) replica_journal replica_payloads old (λ header new. replica_mounted header old.disk alone new) goes image new (replica_may old.disk.header image)

  replica_reads : (header : Header) (ending : Mounting) (disk : PlainDisk ReplicaEntry) → IsReadAs (replica_form told) header old.left (replica_journal disk).history ending → IsReadFrom header old.left (replica_payloads disk).all ending
  replica_reads header (Entries count) disk reads = reads
  replica_reads header (Foreign at) disk reads = tt
  replica_reads header DiskFault disk reads = tt
  replica_reads header Memory disk reads = tt

  pub replica_recovers : (goes : PlainActor ReplicaEntry → Cell) (ending : Mounting) (reply : Reply) (new : PlainActor KeptEntry) → SaysRecovered ending reply → Step (replica_form told) (as_journal replica_journal old) (RecoverDeed ending) new
      → IsActor replica_journal (λ actor. Recovers replica_payloads old goes reply [] (goes actor)) new
  replica_recovers goes ending reply new says =
      let so = recovered_so ending reply says in
      recovers (replica_form told) replica_journal replica_payloads old (λ header new. replica_mounted header old.disk alone new) goes ending reply new (λ header disk. replica_reads header ending disk) so.0 so.1
