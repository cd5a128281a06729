-- What lines that make actors leave of a site, whatever it stands for, and whether they are refused.
use Rattle.std.proofs.Common.{◌≡◌, inl, inr, ℕ, ◌+◌, ◌*◌, ◌≤◌, ◌<◌, ◌==◌, arith, Bool, true, false, cond, List, [], ◌∷◌, ◌++◌, append-nil, length, Option, Some, None, is_some, IfSome, refl, sym, ap, subst, ◌∙◌}
use Rattle.std.proofs.lemmas.Bool.{cases_eq, false≢true, le-leb}
use Rattle.std.proofs.lemmas.Bool.Decides.{nat_tests}
use Rattle.std.proofs.lemmas.List.{length-append}
use Rattle.std.specs.Option.{unwrap_or}
use Rattle.std.specs.Prelude.{nat_le, nat_lt, ◌||◌}
use Rattle.std.specs.BTreeMap.{BTreeMap}
use Rattle.coda_disk.specs.Told.{Told}
use Rattle.coda_actors.specs.Clients.{client_form}
use Rattle.coda_actors.specs.Form.{Form}
use Rattle.coda_actors.specs.Replicas.{replica_form}
use Rattle.coda_actors.specs.Slots.{is_made, is_up}
use Rattle.coda_actors.specs.declared.slot.Slot.{Slot}
use Rattle.coda_actors.specs.declared.slot.Slot.TheVariants.{Vacant, Spare, Stopped, Started}
use Rattle.coda_crew.specs.Crews.{slot_at, KeepsOtherSlots, OutAll, OwnAll}
use Rattle.coda_replica.specs.declared.replica.Replica.{Replica}
use Rattle.coda_venus.specs.declared.venus.Venus.{Venus}
use Rattle.coda_script.specs.declared.reply.Reply.{Reply}
use Rattle.coda_script.specs.Ranges.{IsBetween, AreServers}
use Rattle.coda_cell.specs.Refusing.{refusal}
use Rattle.coda_cell.specs.Steps.{alone, no_room}
use Rattle.coda_cell.specs.Refused.{Refused}
use Rattle.coda_cell.specs.Refused.{AlreadyThere, CellFull}
use Rattle.coda_shelves.specs.Cells.{Cell}
use Rattle.coda_shelves.specs.Lines.{Becoming, Unless}
use Rattle.coda_shelves.specs.Shelves.{disk_at}
use Rattle.coda_site.specs.Sites.{is_client_disk, is_replica_disk, place_in, IsSite, IsReady}
use Rattle.coda_site.specs.Steps.{Becomes}
use Rattle.coda_site.specs.declared.site.Place.{Place}
use Rattle.coda_site.specs.declared.site.Site.{Site}
use Rattle.coda_site.proofs.ClientSites.{with_clients}

-- ---- refusals

pub unless_none : (old : Cell) (o : Option Refused) (own : Becoming) (reply : Reply) (outside : List (List ℕ)) (new : Cell) → o ≡ None → own reply outside new → Unless old o own reply outside new
unless_none old o own reply outside new none is = subst (λ (w : Option Refused). Unless old w own reply outside new) (sym none) is

pub unless_some : (old : Cell) (o : Option Refused) (why : Refused) (own : Becoming) (reply : Reply) → o ≡ Some why → reply ≡ refusal why → Unless old o own reply [] old
unless_some old o why own reply some said = subst (λ (w : Option Refused). Unless old w own reply [] old) (sym some) (said, refl, refl)

-- a line by which nothing changes
pub stays_becomes : {D : Type 0} (told : D → Told) (out : ℕ → Bool) (has : ℕ → Told) (cell : Cell) (becoming : Becoming) (reply : Reply) (answered : List (List ℕ)) (site : Site D)
    → becoming reply [] cell → IsSite told out has cell site → Becomes told out has becoming reply answered answered site
stays_becomes told out has cell becoming reply answered site happens is = record { outside = []; left = cell; happens = happens; answered = sym (append-nil answered); stands = is }

pub already_there : (there full : Bool) → there ≡ true → no_room there full ≡ Some AlreadyThere
already_there true full e = refl
already_there false full e = cc

pub cell_full : (there full : Bool) → there ≡ false → full ≡ true → no_room there full ≡ Some CellFull
cell_full true full e f = cc
cell_full false true e f = refl
cell_full false false e f = cc

pub fits_in : (there full : Bool) → there ≡ false → full ≡ false → no_room there full ≡ None
fits_in true full e f = cc
fits_in false true e f = cc
fits_in false false e f = refl

pub none_there : {A : Type 0} (o : Option A) → is_some o ≡ false → o ≡ None
none_there None is = refl
none_there (Some x) is = absurd (false≢true (sym is))

-- the areas of a cell as its site has them, with one more
pub no_room_left : (areas kept area from : ℕ) → kept ≡ areas → from ≡ area → 512 < areas + from → nat_lt 512 (kept + area) ≡ true
no_room_left areas kept area from same also more = grind (arith, nat_tests, same, also, more)

pub room_left : (areas kept area from : ℕ) → kept ≡ areas → from ≡ area → areas + from ≤ 512 → nat_lt 512 (kept + area) ≡ false
room_left areas kept area from same also less = grind (arith, nat_tests, same, also, less)

pub many_volumes : (count found : ℕ) (full : Bool) → count ≡ found → 64 ≤ found → (nat_le 64 count || full) ≡ true
many_volumes count found full same many = ap (λ (b : Bool). b || full) (let yes_so : nat_le 64 count ≡ true = grind (arith, nat_tests, same, many) in yes_so)

pub full_of_areas : (many full : Bool) → full ≡ true → (many || full) ≡ true
full_of_areas true full is = refl
full_of_areas false full is = is

pub has_room : (count found : ℕ) (full : Bool) → count ≡ found → found < 64 → full ≡ false → (nat_le 64 count || full) ≡ false
has_room count found full same less room = ap (λ (b : Bool). b || full) (let no_so : nat_le 64 count ≡ false = grind (arith, nat_tests, same, less) in no_so) ∙ room

pub replica_number : (count server : ℕ) → is_replica_disk (disk_at count server) ≡ true
replica_number count server = (let least : nat_le 256 (disk_at count server) ≡ true = le-leb 256 (disk_at count server) (omega arith) in least)

pub few_areas : (areas area from : ℕ) → from ≡ area → areas + from ≤ 512 → areas + area ≤ 512
few_areas areas area from same less = subst (λ (a : ℕ). areas + a ≤ 512) same less

-- ---- a client

-- a site with other clients, and areas of so many MiB
abbrev pub with_clients_and_areas : {D : Type 0} → Site D → BTreeMap ℕ (Slot (Venus D) D) → ℕ → Site D
with_clients_and_areas site slots areas = record (with_clients site slots) { areas = areas }

pub clients_opened : {D : Type 0} (told : D → Told) (out out1 : ℕ → Bool) (site : Site D) (slots : BTreeMap ℕ (Slot (Venus D) D)) (areas : ℕ) → IsReady told out site → OutAll is_client_disk out1 slots → OwnAll (client_form told) slots
    → OutAll is_replica_disk out1 site.replicas → areas ≤ 512 → IsReady told out1 (with_clients_and_areas site slots areas)
clients_opened told out out1 site slots areas ready outs owns others few = record {
  clients = outs;
  replicas = others;
  clients_own = owns;
  replicas_own = ready.replicas_own;
  few = ready.few;
  places = ready.places;
  made = ready.made;
  areas = few;
}

-- ---- a volume

-- a place that the disk of a volume may have, where so many were made
abbrev pub IsPlaceOf : ℕ → Place → Type 0
IsPlaceOf count p = (256 ≤ p.disk) × (p.disk < 256 + 8 * count) × (1 ≤ p.server) × (p.server ≤ 8)

placed_later : (count : ℕ) (o : Option Place) → IfSome o (IsPlaceOf count) → IfSome o (IsPlaceOf (count + 1))
placed_later count None is = tt
placed_later count (Some p) is = (is.0, (let d = p.disk in let b = is.1 in omega (arith, b)), is.2, is.3)

module _ {D : Type 0} (told : D → Told) (out out1 : ℕ → Bool) (site : Site D) (ready : IsReady told out site) (slots : BTreeMap ℕ (Slot (Replica D) D)) (volume server : ℕ) (from : 1 ≤ server) (upto : server ≤ 8)
    (outs : OutAll is_replica_disk out1 slots) (owns : OwnAll (replica_form told) slots) (others : OutAll is_client_disk out1 site.clients) (kept : KeepsOtherSlots (disk_at (length site.servers.items) server) site.replicas slots) where
  abbrev count : ℕ
  count = length site.servers.items

  abbrev disk : ℕ
  disk = disk_at count server

  -- the number of the disk is the next one
  next_disk : (256 ≤ disk) × (disk < 256 + 8 * (count + 1))
  next_disk = (omega arith, omega (arith, from, upto))

  -- the volume was noted, and its actor was made
  pub volume_opened : (noted : Site D) → noted.servers.items ≡ site.servers.items ++ server ∷ [] → ((k : ℕ) → place_in noted k ≡ cond (k == volume) (Some (record { server = server; disk = disk })) (place_in site k))
      → noted.clients ≡ site.clients → length site.servers.items < 64 → (areas : ℕ) → areas ≤ 512 → IsReady told out1 (record noted { replicas = slots; areas = areas })
  volume_opened noted servers places clients few areas least = record {
    clients = subst (OutAll is_client_disk out1) (sym clients) others;
    replicas = outs;
    clients_own = subst (OwnAll (client_form told)) (sym clients) ready.clients_own;
    replicas_own = owns;
    few = subst (λ (m : ℕ). m ≤ 64) (sym many) (omega (arith, few));
    places = λ k. subst (λ (o : Option Place). IfSome o (IsPlaceOf (length noted.servers.items))) (sym (places k)) (subst (λ (m : ℕ). IfSome (cond (k == volume) (Some here) (place_in site k)) (IsPlaceOf m)) (sym many) (at (k == volume) k));
    made = λ k made. subst (λ (m : ℕ). k < 256 + 8 * m) (sym many) (by k made);
    areas = least;
  }
    where
      here : Place
      here = record { server = server; disk = disk }

      many : length noted.servers.items ≡ count + 1
      many = ap length servers ∙ length-append site.servers.items (server ∷ [])

      at : (b : Bool) (k : ℕ) → IfSome (cond b (Some here) (place_in site k)) (IsPlaceOf (count + 1))
      at true k = (next_disk.0, next_disk.1, from, upto)
      at false k = placed_later count (place_in site k) (ready.places k)

      by : (k : ℕ) → is_made (slot_at slots k) ≡ true → k < 256 + 8 * (count + 1)
      by k made = elim (cases_eq k disk) [
        | inl same ↦ subst (λ (m : ℕ). m < 256 + 8 * (count + 1)) (sym same) next_disk.1
        | inr other ↦ (let before : k < 256 + 8 * count = ready.made k (ap is_made (sym (kept k other)) ∙ made) in let c = count in omega (arith, before))
      ]

  -- its actor wasn't made, and what was noted is taken back
  pub volume_forgotten : (left : Site D) → left.servers.items ≡ site.servers.items → place_in site volume ≡ None → ((k : ℕ) → place_in left k ≡ cond (k == volume) None (place_in site k))
      → left.clients ≡ site.clients → is_made (slot_at slots disk) ≡ false → left.replicas ≡ slots → left.areas ≤ 512 → IsReady told out1 left
  volume_forgotten left servers absent places clients unmade replicas least = record {
    clients = subst (OutAll is_client_disk out1) (sym clients) others;
    replicas = subst (OutAll is_replica_disk out1) (sym replicas) outs;
    clients_own = subst (OwnAll (client_form told)) (sym clients) ready.clients_own;
    replicas_own = subst (OwnAll (replica_form told)) (sym replicas) owns;
    few = subst (λ (m : ℕ). m ≤ 64) (sym many) ready.few;
    places = λ k. subst (λ (o : Option Place). IfSome o (IsPlaceOf (length left.servers.items))) (sym (places k)) (subst (λ (m : ℕ). IfSome (cond (k == volume) None (place_in site k)) (IsPlaceOf m)) (sym many) (at (k == volume) k));
    made = λ k made. subst (λ (m : ℕ). k < 256 + 8 * m) (sym many) (by k (ap (λ (s : BTreeMap ℕ (Slot (Replica D) D)). is_made (slot_at s k)) (sym replicas) ∙ made));
    areas = least;
  }
    where
      many : length left.servers.items ≡ count
      many = ap length servers

      at : (b : Bool) (k : ℕ) → IfSome (cond b None (place_in site k)) (IsPlaceOf count)
      at true k = tt
      at false k = ready.places k

      by : (k : ℕ) → is_made (slot_at slots k) ≡ true → k < 256 + 8 * count
      by k made = elim (cases_eq k disk) [
        | inl same ↦ absurd (false≢true (sym unmade ∙ ap (λ (m : ℕ). is_made (slot_at slots m)) (sym same) ∙ made))
        | inr other ↦ ready.made k (ap is_made (sym (kept k other)) ∙ made)
      ]

-- no line made an actor on the disk of the volume that is made next
pub next_unmade : {D : Type 0} (told : D → Told) (out : ℕ → Bool) (site : Site D) → IsReady told out site → (server : ℕ) → is_made (slot_at site.replicas (disk_at (length site.servers.items) server)) ≡ false
next_unmade told out site ready server = by (is_made (slot_at site.replicas disk)) refl
  where
    disk : ℕ
    disk = disk_at (length site.servers.items) server

    by : (made : Bool) → is_made (slot_at site.replicas disk) ≡ made → is_made (slot_at site.replicas disk) ≡ false
    by true e = (let below : disk < 256 + 8 * length site.servers.items = ready.made disk e in absurd (omega (arith, below)))
    by false e = e

-- a place that was noted and taken back
pub forgotten_place : (b : Bool) (new old mid : Option Place) → mid ≡ cond b new old → cond b None mid ≡ cond b None old
forgotten_place true new old mid is = refl
forgotten_place false new old mid is = is

-- ---- what a line names

-- ---- an actor that was opened

pub up_made : {A D : Type 0} (form : Form A D) (slot : Slot A D) → is_up form slot ≡ true → is_made slot ≡ true
up_made form Vacant up = absurd (false≢true up)
up_made form (Spare d) up = absurd (false≢true up)
up_made form (Stopped header d) up = absurd (false≢true up)
up_made form (Started header actor) up = refl
