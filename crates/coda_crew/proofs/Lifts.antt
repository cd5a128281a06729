-- A step of one actor is a step of its crew.
use Rattle.std.proofs.Common.{◌≡◌, ◌≢◌, ◌⊎◌, inl, inr, ℕ, Bool, true, false, List, [], refl, sym, ◌∙◌, ap, subst}
use Rattle.std.proofs.lemmas.Bool.{cases_eq, false≢true}
use Rattle.std.specs.BTreeMap.{BTreeMap, is_at}
use Rattle.std.specs.Map.{lookup}
use Rattle.std.specs.Ordering.{nat_cmp}
use Rattle.coda_disk.specs.Told.{Told, Kept}
use Rattle.coda_disk.specs.Bays.{KeepsOthers}
use Rattle.coda_actors.specs.Form.{Form}
use Rattle.coda_actors.specs.Plain.{PlainDisk, PlainActor, Deed, Step}
use Rattle.coda_actors.specs.Fits.{Fits, FitsHeld, StandsFor, AsksOwn, OutFits, Others}
use Rattle.coda_actors.specs.Slots.{is_made, is_up}
use Rattle.coda_actors.specs.declared.slot.Slot.{Slot}
use Rattle.coda_actors.specs.declared.slot.Slot.TheVariants.{Vacant, Spare, Stopped, Started}
use Rattle.coda_actors.proofs.Mountings.{fewer}
use Rattle.coda_actors.proofs.Deeds.{held, placed}
use Rattle.coda_crew.specs.Crews.{slot_or_vacant, slot_at, KeepsSlots, KeepsOtherSlots, FitsAll, OutAt, OutAll, OwnAll, IsAtEntry, Takes, IsOutIfHeld, LeavesNoMore, LeavesBe}

-- one plain actor under a number, and another one under each other number
abbrev pub choose : {Entry : Type 0} {k n : ℕ} → (k ≡ n) ⊎ (k ≢ n) → PlainActor Entry → PlainActor Entry → PlainActor Entry
choose (inl same) p q = p
choose (inr other) p q = q

choose_here : {Entry : Type 0} {k n : ℕ} (s : (k ≡ n) ⊎ (k ≢ n)) (p q : PlainActor Entry) → k ≡ n → choose s p q ≡ p
choose_here (inl same) p q is = refl
choose_here (inr other) p q is = absurd (other is)

choose_other : {Entry : Type 0} {k n : ℕ} (s : (k ≡ n) ⊎ (k ≢ n)) (p q : PlainActor Entry) → k ≢ n → choose s p q ≡ q
choose_other (inl same) p q not = absurd (not same)
choose_other (inr other) p q not = refl

-- the plain crew with another actor under a number
abbrev pub with_actor : {Entry : Type 0} → ℕ → PlainActor Entry → (ℕ → PlainActor Entry) → ℕ → PlainActor Entry
with_actor n p plain k = choose (cases_eq k n) p (plain k)

pub no_more : (old new : Told) → Kept old new → LeavesNoMore old new
no_more old new kept = (kept.honest, kept.crash)

pub others_left : (of out0 out1 : ℕ → Bool) (has0 has1 : ℕ → Told) (n : ℕ) → of n ≡ false → Others n out0 out1 → KeepsOthers n has0 has1 → LeavesBe of out0 out1 has0 has1
others_left of out0 out1 has0 has1 n not others keeps k is = let other : k ≢ n = (λ same. false≢true (sym not ∙ subst (λ (m : ℕ). of m ≡ true) same is)) in (others k other, λ h. no_more (has0 k) (has1 k) (keeps k other h))

pub stands_on : {A D : Type 0} (form : Form A D) (old new : Told) (disk : PlainDisk form.Entry) → (old.honest → LeavesNoMore old new) → StandsFor form old disk → StandsFor form new disk
stands_on form old new disk more stands = (let m = more stands.honest in fewer form old new disk stands m.0 m.1)

module _ {A D : Type 0} (form : Form A D) (told : D → Told) where
  pub fits_kept : (out0 out1 : Bool) (has0 has1 : Told) (slot : Slot A D) (plain : PlainActor form.Entry) → out1 ≡ out0 → (has0.honest → LeavesNoMore has0 has1) → Fits form told out0 has0 slot plain → Fits form told out1 has1 slot plain
  fits_kept out0 out1 has0 has1 Vacant plain same kept f = (same ∙ f.0, record { life = f.1.life; left = f.1.left; stands = stands_on form has0 has1 plain.disk kept f.1.stands })
  fits_kept out0 out1 has0 has1 (Spare disk) plain same kept f = (same ∙ f.0, f.1)
  fits_kept out0 out1 has0 has1 (Stopped header disk) plain same kept f = (same ∙ f.0, f.1)
  fits_kept out0 out1 has0 has1 (Started header actor) plain same kept f = (same ∙ f.0, f.1)

  pub left_fits : (of out0 out1 : ℕ → Bool) (has0 has1 : ℕ → Told) (slots : BTreeMap ℕ (Slot A D)) (plain : ℕ → PlainActor form.Entry) → LeavesBe of out0 out1 has0 has1 → FitsAll form told of out0 has0 slots plain → FitsAll form told of out1 has1 slots plain
  left_fits of out0 out1 has0 has1 slots plain left fits k is = fits_kept (out0 k) (out1 k) (has0 k) (has1 k) (slot_at slots k) (plain k) (left k is).0 (left k is).1 (fits k is)

  -- slots that are as they were
  pub same_fits : (of out0 out1 : ℕ → Bool) (has0 has1 : ℕ → Told) (slots0 slots1 : BTreeMap ℕ (Slot A D)) (plain : ℕ → PlainActor form.Entry) → KeepsSlots slots0 slots1 → ((k : ℕ) → out1 k ≡ out0 k) → ((k : ℕ) → (has0 k).honest → LeavesNoMore (has0 k) (has1 k))
      → FitsAll form told of out0 has0 slots0 plain → FitsAll form told of out1 has1 slots1 plain
  same_fits of out0 out1 has0 has1 slots0 slots1 plain same outs kept fits k is =
      subst (λ (s : Slot A D). Fits form told (out1 k) (has1 k) s (plain k)) (sym (same k)) (fits_kept (out0 k) (out1 k) (has0 k) (has1 k) (slot_at slots0 k) (plain k) (outs k) (kept k) (fits k is))

  -- a slot that was taken out and has the disk of an actor that was made
  pub held_there : (out : Bool) (has : Told) (slot took : Slot A D) (plain : PlainActor form.Entry) → took ≡ slot → is_made slot ≡ true → Fits form told out has slot plain → (out ≡ true) × FitsHeld form told took plain
  held_there out has slot took plain is made fits =
      let h = held form told out has slot plain made fits in (h.0, subst (λ (s : Slot A D). FitsHeld form told s plain) (sym is) h.1)

  -- a slot that was taken out
  pub fits_there : (out : Bool) (has : Told) (slot took : Slot A D) (plain : PlainActor form.Entry) → took ≡ slot → Fits form told out has slot plain → Fits form told out has took plain
  fits_there out has slot took plain is fits = subst (λ (s : Slot A D). Fits form told out has s plain) (sym is) fits

  -- a slot that was put back
  pub put_there : (out : Bool) (has : Told) (slot put : Slot A D) (plain : PlainActor form.Entry) → slot ≡ put → out ≡ true → FitsHeld form told put plain → Fits form told out has slot plain
  put_there out has slot put plain is lent fits = subst (λ (s : Slot A D). Fits form told out has s plain) (sym is) (placed form told out has put plain lent fits)

  -- before its first line
  pub entered : (of out : ℕ → Bool) (has : ℕ → Told) (slots : BTreeMap ℕ (Slot A D)) (plain : ℕ → PlainActor form.Entry) → ((k : ℕ) → slot_at slots k ≡ Vacant) → ((k : ℕ) → of k ≡ true → out k ≡ false) → IsAtEntry form of has plain
      → FitsAll form told of out has slots plain
  entered of out has slots plain vacant none entry k is = (let e = entry k is in
      subst (λ (s : Slot A D). Fits form told (out k) (has k) s (plain k)) (sym (vacant k)) (none k is, record { life = e.0; left = e.1; stands = e.2 }))

  pub lifted : (of out0 out1 : ℕ → Bool) (has0 has1 : ℕ → Told) (slots0 slots1 : BTreeMap ℕ (Slot A D)) (plain : ℕ → PlainActor form.Entry) (n : ℕ) (deed : Deed form.Entry) (next : PlainActor form.Entry)
      → FitsAll form told of out0 has0 slots0 plain → Others n out0 out1 → ((k : ℕ) → k ≢ n → (has0 k).honest → LeavesNoMore (has0 k) (has1 k)) → KeepsOtherSlots n slots0 slots1
      → Step form (plain n) deed next → Fits form told (out1 n) (has1 n) (slot_at slots1 n) next → Takes form told of plain n deed out1 has1 slots1
  lifted of out0 out1 has0 has1 slots0 slots1 plain n deed next fits others keeps there step here = (
    with_actor n next plain,
    (subst (λ (p : PlainActor form.Entry). Step form (plain n) deed p) (sym (choose_here (cases_eq n n) next (plain n) refl)) step, λ k other. choose_other (cases_eq k n) next (plain k) other),
    λ k is. each k is (cases_eq k n),
  )
    where
      each : (k : ℕ) → of k ≡ true → (w : (k ≡ n) ⊎ (k ≢ n)) → Fits form told (out1 k) (has1 k) (slot_at slots1 k) (with_actor n next plain k)
      each k is (inl same) =
          subst (λ (q : PlainActor form.Entry). Fits form told (out1 k) (has1 k) (slot_at slots1 k) q) (sym (choose_here (cases_eq k n) next (plain k) same))
          (subst (λ (m : ℕ). Fits form told (out1 m) (has1 m) (slot_at slots1 m) next) (sym same) here)
      each k is (inr other) =
          subst (λ (q : PlainActor form.Entry). Fits form told (out1 k) (has1 k) (slot_at slots1 k) q) (sym (choose_other (cases_eq k n) next (plain k) other))
          (subst (λ (s : Slot A D). Fits form told (out1 k) (has1 k) s (plain k)) (sym (there k other))
          (fits_kept (out0 k) (out1 k) (has0 k) (has1 k) (slot_at slots0 k) (plain k) (others k other) (keeps k other) (fits k is)))

  -- the bay is as it was
  pub lifted_here : (of out : ℕ → Bool) (has : ℕ → Told) (slots0 slots1 : BTreeMap ℕ (Slot A D)) (plain : ℕ → PlainActor form.Entry) (n : ℕ) (deed : Deed form.Entry) (next : PlainActor form.Entry)
      → FitsAll form told of out has slots0 plain → KeepsOtherSlots n slots0 slots1
      → Step form (plain n) deed next → Fits form told (out n) (has n) (slot_at slots1 n) next → Takes form told of plain n deed out has slots1
  lifted_here of out has slots0 slots1 plain n deed next fits there step here =
      lifted of out out has has slots0 slots1 plain n deed next fits (λ k other. refl) (λ k other h. (h, λ image now. now)) there step here

out_vacant : (A D : Type 0) (of out : Bool) → (of ≡ true → out ≡ false) → OutAt {A = A} {D = D} of out Vacant
out_vacant A D false out none = refl
out_vacant A D true out none = none refl

module _ {A D : Type 0} where
  pub none_there : (slots : BTreeMap ℕ (Slot A D)) → slots.entries ≡ [] → (k : ℕ) → slot_at slots k ≡ Vacant
  none_there slots empty k = ap (λ (e : List (ℕ × Slot A D)). slot_or_vacant (lookup (is_at (nat_cmp k)) e)) empty

  pub none_out : (of out : ℕ → Bool) (slots : BTreeMap ℕ (Slot A D)) → ((k : ℕ) → slot_at slots k ≡ Vacant) → ((k : ℕ) → of k ≡ true → out k ≡ false) → OutAll of out slots
  none_out of out slots vacant none k = subst (OutAt (of k) (out k)) (sym (vacant k)) (out_vacant A D (of k) (out k) (none k))

  pub out_kept : (of out0 out1 : Bool) (slot : Slot A D) → (of ≡ true → out1 ≡ out0) → OutAt of out0 slot → OutAt of out1 slot
  out_kept false out0 out1 slot same fits = fits
  out_kept true out0 out1 slot same fits = subst (λ (b : Bool). OutFits b slot) (sym (same refl)) fits

  pub left_out : (of out0 out1 : ℕ → Bool) (has0 has1 : ℕ → Told) (slots : BTreeMap ℕ (Slot A D)) → LeavesBe of out0 out1 has0 has1 → OutAll of out0 slots → OutAll of out1 slots
  left_out of out0 out1 has0 has1 slots left fits k = out_kept (of k) (out0 k) (out1 k) (slot_at slots k) (λ is. (left k is).0) (fits k)

  pub out_here : (of out : Bool) (slot : Slot A D) → of ≡ true → OutFits out slot → OutAt of out slot
  out_here false out slot is fits = absurd (false≢true is)
  out_here true out slot is fits = fits

  pub out_from : (of out : Bool) (slot : Slot A D) → of ≡ true → OutAt of out slot → OutFits out slot
  out_from false out slot is fits = absurd (false≢true is)
  out_from true out slot is fits = fits

  pub out_same : (of out0 out1 : ℕ → Bool) (slots0 slots1 : BTreeMap ℕ (Slot A D)) → KeepsSlots slots0 slots1 → ((k : ℕ) → out1 k ≡ out0 k) → OutAll of out0 slots0 → OutAll of out1 slots1
  out_same of out0 out1 slots0 slots1 same outs fits k = subst (OutAt (of k) (out1 k)) (sym (same k)) (out_kept (of k) (out0 k) (out1 k) (slot_at slots0 k) (λ is. outs k) (fits k))

  -- the slot of an actor that was made
  pub out_changed : (of out : Bool) (slot took next put : Slot A D) → took ≡ slot → put ≡ next → is_made slot ≡ true → (OutFits out took → OutFits out next) → OutAt of out slot → OutAt of out put
  out_changed false out slot took next put was is made on fits = absurd (false≢true (subst (λ (s : Slot A D). is_made s ≡ true) fits made))
  out_changed true out slot took next put was is made on fits = subst (OutFits out) (sym is) (on (subst (OutFits out) (sym was) fits))

  pub up_made : (form : Form A D) (slot : Slot A D) → is_up form slot ≡ true → is_made slot ≡ true
  up_made form Vacant up = absurd (false≢true up)
  up_made form (Spare disk) up = absurd (false≢true up)
  up_made form (Stopped header disk) up = absurd (false≢true up)
  up_made form (Started header actor) up = refl

  -- the slot of one number changes, whether it is of the crew or not: then it fits so
  pub out_more : (of out0 out1 : ℕ → Bool) (slots0 slots1 : BTreeMap ℕ (Slot A D)) (n : ℕ) → Others n out0 out1 → KeepsOtherSlots n slots0 slots1 → OutAt (of n) (out1 n) (slot_at slots1 n) → OutAll of out0 slots0 → OutAll of out1 slots1
  out_more of out0 out1 slots0 slots1 n others there here fits k = each (cases_eq k n)
    where
      each : (k ≡ n) ⊎ (k ≢ n) → OutAt (of k) (out1 k) (slot_at slots1 k)
      each (inl same) = subst (λ (m : ℕ). OutAt (of m) (out1 m) (slot_at slots1 m)) (sym same) here
      each (inr other) = subst (OutAt (of k) (out1 k)) (sym (there k other)) (out_kept (of k) (out0 k) (out1 k) (slot_at slots0 k) (λ is. others k other) (fits k))

  pub own_more : (form : Form A D) (slots0 slots1 : BTreeMap ℕ (Slot A D)) (n : ℕ) → KeepsOtherSlots n slots0 slots1 → AsksOwn form (slot_at slots1 n) → OwnAll form slots0 → OwnAll form slots1
  own_more form slots0 slots1 n there here own k = each (cases_eq k n)
    where
      each : (k ≡ n) ⊎ (k ≢ n) → AsksOwn form (slot_at slots1 k)
      each (inl same) = subst (λ (m : ℕ). AsksOwn form (slot_at slots1 m)) (sym same) here
      each (inr other) = subst (AsksOwn form) (sym (there k other)) (own k)

  pub own_same : (form : Form A D) (slots0 slots1 : BTreeMap ℕ (Slot A D)) → KeepsSlots slots0 slots1 → OwnAll form slots0 → OwnAll form slots1
  own_same form slots0 slots1 same own k = subst (AsksOwn form) (sym (same k)) (own k)

  held_of : (of out : Bool) (slot : Slot A D) → OutAt of out slot → IsOutIfHeld out slot
  held_of false out slot fits = subst (IsOutIfHeld out) (sym fits) tt
  held_of true out Vacant fits = tt
  held_of true out (Spare disk) fits = fits
  held_of true out (Stopped header disk) fits = fits
  held_of true out (Started header actor) fits = fits

  -- all disks of a crew can be given back
  pub all_held : (of out : ℕ → Bool) (slots : BTreeMap ℕ (Slot A D)) → OutAll of out slots → (k : ℕ) → IsOutIfHeld (out k) (slot_at slots k)
  all_held of out slots fits k = held_of (of k) (out k) (slot_at slots k) (fits k)
