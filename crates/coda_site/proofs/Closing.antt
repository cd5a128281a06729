-- Disks that are given back, one crew after the other.
use Rattle.std.proofs.Common.{◌≡◌, ◌⊎◌, ℕ, Bool, true, false, List, refl, sym, ◌∙◌, subst, inl, inr, arith}
use Rattle.std.proofs.lemmas.Bool.{cases_eq}
use Rattle.std.proofs.lemmas.Bool.Decides.{nat_tests}
use Rattle.std.specs.Prelude.{nat_le}
use Rattle.std.specs.BTreeMap.{BTreeMap}
use Rattle.coda_disk.specs.Told.{Told}
use Rattle.coda_actors.specs.Fits.{Fits, OutFits}
use Rattle.coda_actors.specs.Form.{Form}
use Rattle.coda_actors.specs.Plain.{PlainActor}
use Rattle.coda_actors.specs.declared.slot.Slot.{Slot}
use Rattle.coda_actors.specs.declared.slot.Slot.TheVariants.{Vacant, Spare, Stopped, Started}
use Rattle.coda_crew.specs.Crews.{slot_at, FitsAll, OutAt, OutAll, StandsAll, IsOutIfHeld, LeavesBe}
use Rattle.coda_crew.proofs.Lifts.{stands_on}
use Rattle.coda_crew.specs.Crews.{KeepsOtherSlots}
use Rattle.coda_replica.specs.declared.replica.Replica.{Replica}
use Rattle.coda_venus.specs.declared.venus.Venus.{Venus}
use Rattle.coda_site.specs.Sites.{is_client_disk, is_replica_disk, HeldAt, HeldAll, IsClosable, IsReady}
use Rattle.coda_site.specs.declared.site.Site.{Site}
use Rattle.coda_site.proofs.ClientSites.{with_clients}
use Rattle.coda_site.proofs.ReplicaSites.{with_replicas}

-- ---- numbers

-- each number is that of a client's disk, or of a replica's
pub side_of : (number : ℕ) → ((is_client_disk number ≡ true) × (is_replica_disk number ≡ false)) ⊎ ((is_client_disk number ≡ false) × (is_replica_disk number ≡ true))
side_of number = by (is_client_disk number) refl
  where
    by : (own : Bool) → is_client_disk number ≡ own → ((is_client_disk number ≡ true) × (is_replica_disk number ≡ false)) ⊎ ((is_client_disk number ≡ false) × (is_replica_disk number ≡ true))
    by true e = inl (e, (let other : nat_le 256 number ≡ false = grind (arith, nat_tests, e) in other))
    by false e = inr (e, (let other : nat_le 256 number ≡ true = grind (arith, nat_tests, e) in other))

pub client_alone : (number : ℕ) → is_client_disk number ≡ true → is_replica_disk number ≡ false
client_alone number own = grind (arith, nat_tests, own)

pub replica_alone : (number : ℕ) → is_replica_disk number ≡ true → is_client_disk number ≡ false
replica_alone number own = grind (arith, nat_tests, own)

-- ---- a crew while another one is given back

-- a slot that has a disk is out
held : {A D : Type 0} (own out : Bool) (slot : Slot A D) → OutAt own out slot → IsOutIfHeld out slot
held own out Vacant o = tt
held true out (Spare disk) o = o
held true out (Stopped header disk) o = o
held true out (Started header actor) o = o
held false out slot o = subst (IsOutIfHeld out) (sym o) tt

-- the slots of a crew whose disks are out can be given back
held_at : {A D : Type 0} (own out : Bool) (slot : Slot A D) → OutAt own out slot → HeldAt own out slot
held_at true out slot o = held true out slot o
held_at false out slot o = o

vacant_at : {A D : Type 0} (own out : Bool) (slot : Slot A D) → slot ≡ Vacant → HeldAt own out slot
vacant_at true out slot none = subst (IsOutIfHeld out) (sym none) tt
vacant_at false out slot none = none

pub vacant_held : {A D : Type 0} (of out : ℕ → Bool) (slots : BTreeMap ℕ (Slot A D)) → ((k : ℕ) → slot_at slots k ≡ Vacant) → HeldAll of out slots
vacant_held of out slots none k = vacant_at (of k) (out k) (slot_at slots k) (none k)

pub out_held : {A D : Type 0} (of out : ℕ → Bool) (slots : BTreeMap ℕ (Slot A D)) → OutAll of out slots → HeldAll of out slots
out_held of out slots all k = held_at (of k) (out k) (slot_at slots k) (all k)

held_by : {A D : Type 0} (own out : Bool) (slot : Slot A D) → HeldAt own out slot → IsOutIfHeld out slot
held_by true out slot h = h
held_by false out slot h = subst (IsOutIfHeld out) (sym h) tt

pub all_held : {A D : Type 0} (of out : ℕ → Bool) (slots : BTreeMap ℕ (Slot A D)) → HeldAll of out slots → (k : ℕ) → IsOutIfHeld (out k) (slot_at slots k)
all_held of out slots all k = held_by (of k) (out k) (slot_at slots k) (all k)

pub held_vacant : {A D : Type 0} (of out : ℕ → Bool) (slots : BTreeMap ℕ (Slot A D)) → HeldAll of out slots → (k : ℕ) → of k ≡ false → slot_at slots k ≡ Vacant
held_vacant of out slots all k other = (let at = all k in subst (λ (own : Bool). HeldAt own (out k) (slot_at slots k)) other at)

pub held_over : {A D : Type 0} (of out0 out1 : ℕ → Bool) (has0 has1 : ℕ → Told) (slots : BTreeMap ℕ (Slot A D)) → LeavesBe of out0 out1 has0 has1 → HeldAll of out0 slots → HeldAll of out1 slots
held_over of out0 out1 has0 has1 slots be all k = by (of k) refl (all k)
  where
    by : (own : Bool) → of k ≡ own → HeldAt own (out0 k) (slot_at slots k) → HeldAt own (out1 k) (slot_at slots k)
    by true e h = subst (λ (out : Bool). IsOutIfHeld out (slot_at slots k)) (sym (be k e).0) h
    by false e h = h

-- the same where one disk was lost
lost_held : {A D : Type 0} (of out out1 : ℕ → Bool) (slots left : BTreeMap ℕ (Slot A D)) (n : ℕ) → OutAll of out slots → ((k : ℕ) → out1 k ≡ out k) → KeepsOtherSlots n slots left → slot_at left n ≡ Vacant → HeldAll of out1 left
lost_held of out out1 slots left n all same others none k = elim (cases_eq k n) [
  | inl here ↦ vacant_at (of k) (out1 k) (slot_at left k) (subst (λ (m : ℕ). slot_at left m ≡ Vacant) (sym here) none)
  | inr other ↦ subst (λ (b : Bool). HeldAt (of k) b (slot_at left k)) (sym (same k)) (subst (HeldAt (of k) (out k)) (sym (others k other)) (held_at (of k) (out k) (slot_at slots k) (all k)))
]

still_held : {A D : Type 0} (of out out1 : ℕ → Bool) (slots : BTreeMap ℕ (Slot A D)) → OutAll of out slots → ((k : ℕ) → out1 k ≡ out k) → HeldAll of out1 slots
still_held of out out1 slots all same k = subst (λ (b : Bool). HeldAt (of k) b (slot_at slots k)) (sym (same k)) (held_at (of k) (out k) (slot_at slots k) (all k))

module _ {D : Type 0} (told : D → Told) (out : ℕ → Bool) (site : Site D) (ready : IsReady told out site) where
  pub ready_closes : IsClosable out site
  ready_closes = record { clients = out_held is_client_disk out site.clients ready.clients; replicas = out_held is_replica_disk out site.replicas ready.replicas }

  -- a bay refused the crash of a client, or of a replica
  pub lost_client_closes : (out1 : ℕ → Bool) (slots : BTreeMap ℕ (Slot (Venus D) D)) (n : ℕ) → ((k : ℕ) → out1 k ≡ out k) → KeepsOtherSlots n site.clients slots → slot_at slots n ≡ Vacant → IsClosable out1 (with_clients site slots)
  lost_client_closes out1 slots n same others none = record {
    clients = lost_held is_client_disk out out1 site.clients slots n ready.clients same others none;
    replicas = still_held is_replica_disk out out1 site.replicas ready.replicas same;
  }

  pub lost_replica_closes : (out1 : ℕ → Bool) (slots : BTreeMap ℕ (Slot (Replica D) D)) (n : ℕ) → ((k : ℕ) → out1 k ≡ out k) → KeepsOtherSlots n site.replicas slots → slot_at slots n ≡ Vacant → IsClosable out1 (with_replicas site slots)
  lost_replica_closes out1 slots n same others none = record {
    clients = still_held is_client_disk out out1 site.clients ready.clients same;
    replicas = lost_held is_replica_disk out out1 site.replicas slots n ready.replicas same others none;
  }

-- numbers of another crew have no slot
pub vacant : {A D : Type 0} (of out : ℕ → Bool) (slots : BTreeMap ℕ (Slot A D)) → OutAll of out slots → (k : ℕ) → of k ≡ false → slot_at slots k ≡ Vacant
vacant of out slots all k other = (let at = all k in subst (λ (own : Bool). OutAt own (out k) (slot_at slots k)) other at)

pub out_over : {A D : Type 0} (of out0 out1 : ℕ → Bool) (has0 has1 : ℕ → Told) (slots : BTreeMap ℕ (Slot A D)) → LeavesBe of out0 out1 has0 has1 → OutAll of out0 slots → OutAll of out1 slots
out_over of out0 out1 has0 has1 slots be all k = by (of k) refl (all k)
  where
    by : (own : Bool) → of k ≡ own → OutAt own (out0 k) (slot_at slots k) → OutAt own (out1 k) (slot_at slots k)
    by true e o = subst (λ (out : Bool). OutFits out (slot_at slots k)) (sym (be k e).0) o
    by false e o = o

fits_one : {A D : Type 0} (form : Form A D) (told : D → Told) (out0 out1 : Bool) (has0 has1 : Told) (slot : Slot A D) (plain : PlainActor form.Entry) → out1 ≡ out0
    → ((has0.honest → has1.honest × ((image : List ℕ) → has1.may_leave image → has0.may_leave image))) → Fits form told out0 has0 slot plain → Fits form told out1 has1 slot plain
fits_one form told out0 out1 has0 has1 Vacant plain same more f =
    (same ∙ f.0, record { life = f.1.life; left = f.1.left; stands = stands_on form has0 has1 plain.disk more f.1.stands })
fits_one form told out0 out1 has0 has1 (Spare disk) plain same more f = (same ∙ f.0, f.1)
fits_one form told out0 out1 has0 has1 (Stopped header disk) plain same more f = (same ∙ f.0, f.1)
fits_one form told out0 out1 has0 has1 (Started header actor) plain same more f = (same ∙ f.0, f.1)

pub fits_over : {A D : Type 0} (form : Form A D) (told : D → Told) (of out0 out1 : ℕ → Bool) (has0 has1 : ℕ → Told) (slots : BTreeMap ℕ (Slot A D)) (plain : ℕ → PlainActor form.Entry) → LeavesBe of out0 out1 has0 has1
    → FitsAll form told of out0 has0 slots plain → FitsAll form told of out1 has1 slots plain
fits_over form told of out0 out1 has0 has1 slots plain be fits k own =
    fits_one form told (out0 k) (out1 k) (has0 k) (has1 k) (slot_at slots k) (plain k) (be k own).0 (be k own).1 (fits k own)

pub stands_over : {A D : Type 0} (form : Form A D) (of out0 out1 : ℕ → Bool) (has0 has1 : ℕ → Told) (plain : ℕ → PlainActor form.Entry) → LeavesBe of out0 out1 has0 has1
    → StandsAll form of has0 plain → StandsAll form of has1 plain
stands_over form of out0 out1 has0 has1 plain be stands k own = stands_on form (has0 k) (has1 k) (plain k).disk (be k own).1 (stands k own)
