-- Slots that are given back one after the other.
use Rattle.std.proofs.Common.{◌≡◌, ◌≢◌, ◌⊎◌, inl, inr, ℕ, Bool, true, false, List, ◌∷◌, refl, sym, ◌∙◌, ap, subst}
use Rattle.std.proofs.lemmas.Bool.{cases_eq}
use Rattle.std.specs.BTreeMap.{BTreeMap}
use Rattle.coda_disk.specs.Told.{Told}
use Rattle.coda_disk.specs.Bays.{KeepsAll, KeepsOthers}
use Rattle.coda_actors.specs.Form.{Form}
use Rattle.coda_actors.specs.Plain.{PlainActor}
use Rattle.coda_actors.specs.Fits.{Fits, StandsFor, Others}
use Rattle.coda_actors.specs.Slots.{sum_with}
use Rattle.coda_actors.specs.declared.slot.Slot.{Slot}
use Rattle.coda_actors.specs.declared.slot.Slot.TheVariants.{Vacant, Spare, Stopped, Started}
use Rattle.coda_crew.specs.Crews.{slot_at, KeepsOtherSlots, FitsAll, OutAt, OutAll, StandsAll, IsOutIfHeld, out_after, Lies, LeavesNoMore, LeavesBe, sum_all}
use Rattle.coda_crew.proofs.Lifts.{no_more, stands_on, out_kept, out_from}

-- These are vacant, and left be.
pub record AreApart {A D : Type 0} (apart : ℕ → Bool) (out0 out1 : ℕ → Bool) (has0 has1 : ℕ → Told) (slots : BTreeMap ℕ (Slot A D)) : Type 0 where
  pub vacant : (k : ℕ) → apart k ≡ true → slot_at slots k ≡ Vacant
  pub left : LeavesBe apart out0 out1 has0 has1

-- Of some slots the disks were given back, and these are the others.
pub record Giving {A D : Type 0} (form : Form A D) (told : D → Told) (out0 out1 : ℕ → Bool) (has0 has1 : ℕ → Told) (slots0 slots1 : BTreeMap ℕ (Slot A D)) : Type 0 where
  pub held : (k : ℕ) → IsOutIfHeld (out1 k) (slot_at slots1 k)
  pub stands : (of : ℕ → Bool) (plain : ℕ → PlainActor form.Entry) → FitsAll form told of out0 has0 slots0 plain → (k : ℕ) → of k ≡ true → Lies form told (has1 k) (slot_at slots1 k) (plain k)
  pub out : (of : ℕ → Bool) → OutAll of out0 slots0 → OutAll of out1 slots1
  pub others : (apart : ℕ → Bool) → ((k : ℕ) → apart k ≡ true → slot_at slots0 k ≡ Vacant) → AreApart apart out0 out1 has0 has1 slots1

out_given : {A D : Type 0} (of out : Bool) (slot : Slot A D) → OutAt of out slot → OutAt {A = A} {D = D} of (out_after out slot) Vacant
out_given false out slot fits = refl
out_given true out Vacant fits = fits
out_given true out (Spare disk) fits = refl
out_given true out (Stopped header disk) fits = refl
out_given true out (Started header actor) fits = refl

pub after_given : {A D : Type 0} (out : Bool) (slot : Slot A D) → slot ≢ Vacant → out_after out slot ≡ false
after_given out Vacant not = absurd (not refl)
after_given out (Spare disk) not = refl
after_given out (Stopped header disk) not = refl
after_given out (Started header actor) not = refl

held_kept : {A D : Type 0} (out0 out1 : Bool) (slot : Slot A D) → out1 ≡ out0 → IsOutIfHeld out0 slot → IsOutIfHeld out1 slot
held_kept out0 out1 slot same is = subst (λ (b : Bool). IsOutIfHeld b slot) (sym same) is

module _ {A D : Type 0} (form : Form A D) (told : D → Told) where
  lies : (out : Bool) (has : Told) (slot : Slot A D) (plain : PlainActor form.Entry) → Fits form told out has slot plain → Lies form told has slot plain
  lies out has Vacant plain f = f.1.stands
  lies out has (Spare disk) plain f = f.1
  lies out has (Stopped header disk) plain f = f.1
  lies out has (Started header actor) plain f = f.1

  lies_on : (has0 has1 : Told) (slot : Slot A D) (plain : PlainActor form.Entry) → (has0.honest → LeavesNoMore has0 has1) → Lies form told has0 slot plain → Lies form told has1 slot plain
  lies_on has0 has1 Vacant plain more f = stands_on form has0 has1 plain.disk more f
  lies_on has0 has1 (Spare disk) plain more f = f
  lies_on has0 has1 (Stopped header disk) plain more f = f
  lies_on has0 has1 (Started header actor) plain more f = f

  -- a slot that has a disk that is out
  pub fits_held : (out : Bool) (has : Told) (slot : Slot A D) (plain : PlainActor form.Entry) → slot ≢ Vacant → IsOutIfHeld out slot → Lies form told has slot plain → Fits form told out has slot plain
  fits_held out has Vacant plain not is f = absurd (not refl)
  fits_held out has (Spare disk) plain not is f = (is, f)
  fits_held out has (Stopped header disk) plain not is f = (is, f)
  fits_held out has (Started header actor) plain not is f = (is, f)

  pub begun : (out : ℕ → Bool) (has : ℕ → Told) (slots : BTreeMap ℕ (Slot A D)) → ((k : ℕ) → IsOutIfHeld (out k) (slot_at slots k)) → Giving form told out out has has slots slots
  begun out has slots is = record {
    held = is;
    stands = λ of plain fits k kind. lies (out k) (has k) (slot_at slots k) (plain k) (fits k kind);
    out = λ of fits. fits;
    others = λ apart vacant. record { vacant = vacant; left = λ k kind. (refl, λ h. (h, λ image now. now)) };
  }

  pub ended : (out0 out1 : ℕ → Bool) (has0 has1 : ℕ → Told) (slots0 slots1 : BTreeMap ℕ (Slot A D)) (of : ℕ → Bool) (plain : ℕ → PlainActor form.Entry) → Giving form told out0 out1 has0 has1 slots0 slots1 → ((k : ℕ) → slot_at slots1 k ≡ Vacant)
      → FitsAll form told of out0 has0 slots0 plain → StandsAll form of has1 plain
  ended out0 out1 has0 has1 slots0 slots1 of plain g vacant fits k kind = subst (λ (s : Slot A D). Lies form told (has1 k) s (plain k)) (vacant k) (g.stands of plain fits k kind)

  pub shut : (out0 out1 : ℕ → Bool) (has0 has1 : ℕ → Told) (slots0 slots1 : BTreeMap ℕ (Slot A D)) (of : ℕ → Bool) → Giving form told out0 out1 has0 has1 slots0 slots1 → ((k : ℕ) → slot_at slots1 k ≡ Vacant)
      → OutAll of out0 slots0 → (k : ℕ) → of k ≡ true → out1 k ≡ false
  shut out0 out1 has0 has1 slots0 slots1 of g vacant fits k kind = out_from (of k) (out1 k) Vacant kind (subst (OutAt (of k) (out1 k)) (vacant k) (g.out of fits k))

  module _ (out0 out1 out2 : ℕ → Bool) (has0 has1 has2 : ℕ → Told) (slots0 slots1 slots2 : BTreeMap ℕ (Slot A D)) (n : ℕ) (slot : Slot A D)
      (was : slot ≡ slot_at slots1 n) (gone : slot_at slots2 n ≡ Vacant) (there : KeepsOtherSlots n slots1 slots2)
      (given : (plain : PlainActor form.Entry) → Lies form told (has1 n) slot plain → StandsFor form (has2 n) plain.disk)
      (here : out2 n ≡ out_after (out1 n) slot) (others : Others n out1 out2) (keeps : KeepsOthers n has1 has2) (vacant : slot ≡ Vacant → KeepsAll has1 has2)
      (g : Giving form told out0 out1 has0 has1 slots0 slots1) where
    on : (k : ℕ) → k ≢ n → (has1 k).honest → LeavesNoMore (has1 k) (has2 k)
    on k other h = no_more (has1 k) (has2 k) (keeps k other h)

    held_more : (k : ℕ) → (k ≡ n) ⊎ (k ≢ n) → IsOutIfHeld (out2 k) (slot_at slots2 k)
    held_more k (inl same) = subst (λ (s : Slot A D). IsOutIfHeld (out2 k) s) (sym (subst (λ (m : ℕ). slot_at slots2 m ≡ Vacant) (sym same) gone)) tt
    held_more k (inr other) = subst (λ (s : Slot A D). IsOutIfHeld (out2 k) s) (sym (there k other)) (held_kept (out1 k) (out2 k) (slot_at slots1 k) (others k other) (g.held k))

    stands_more : (of : ℕ → Bool) (plain : ℕ → PlainActor form.Entry) → FitsAll form told of out0 has0 slots0 plain → (k : ℕ) → of k ≡ true → (k ≡ n) ⊎ (k ≢ n) → Lies form told (has2 k) (slot_at slots2 k) (plain k)
    stands_more of plain fits k kind (inl same) =
        subst (λ (m : ℕ). Lies form told (has2 m) (slot_at slots2 m) (plain m)) (sym same)
        (subst (λ (s : Slot A D). Lies form told (has2 n) s (plain n)) (sym gone)
        (given (plain n) (subst (λ (s : Slot A D). Lies form told (has1 n) s (plain n)) (sym was) (g.stands of plain fits n (subst (λ (m : ℕ). of m ≡ true) same kind)))))
    stands_more of plain fits k kind (inr other) =
        subst (λ (s : Slot A D). Lies form told (has2 k) s (plain k)) (sym (there k other)) (lies_on (has1 k) (has2 k) (slot_at slots1 k) (plain k) (on k other) (g.stands of plain fits k kind))

    out_more : (of : ℕ → Bool) → OutAll of out0 slots0 → (k : ℕ) → (k ≡ n) ⊎ (k ≢ n) → OutAt (of k) (out2 k) (slot_at slots2 k)
    out_more of fits k (inl same) =
        subst (λ (m : ℕ). OutAt (of m) (out2 m) (slot_at slots2 m)) (sym same)
        (subst (OutAt (of n) (out2 n)) (sym gone)
        (subst (λ (b : Bool). OutAt {A = A} {D = D} (of n) b Vacant) (sym here) (out_given (of n) (out1 n) slot (subst (OutAt (of n) (out1 n)) (sym was) (g.out of fits n)))))
    out_more of fits k (inr other) = subst (OutAt (of k) (out2 k)) (sym (there k other)) (out_kept (of k) (out1 k) (out2 k) (slot_at slots1 k) (λ kind. others k other) (g.out of fits k))

    step_apart : (k : ℕ) → slot_at slots1 k ≡ Vacant → (k ≡ n) ⊎ (k ≢ n) → (out2 k ≡ out1 k) × ((has1 k).honest → LeavesNoMore (has1 k) (has2 k)) × (slot_at slots2 k ≡ Vacant)
    step_apart k is (inl same) =
        let empty : slot ≡ Vacant = was ∙ subst (λ (m : ℕ). slot_at slots1 m ≡ Vacant) same is in (
          subst (λ (m : ℕ). out2 m ≡ out1 m) (sym same) (here ∙ ap (out_after (out1 n)) empty),
          λ h. no_more (has1 k) (has2 k) (vacant empty k h),
          subst (λ (m : ℕ). slot_at slots2 m ≡ Vacant) (sym same) gone,
        )
    step_apart k is (inr other) = (others k other, on k other, there k other ∙ is)

    apart_more : (apart : ℕ → Bool) → ((k : ℕ) → apart k ≡ true → slot_at slots0 k ≡ Vacant) → AreApart apart out0 out2 has0 has2 slots2
    apart_more apart none = (let a = g.others apart none in record {
      vacant = λ k is. (step_apart k (a.vacant k is) (cases_eq k n)).2;
      left = λ k is.
          let s = step_apart k (a.vacant k is) (cases_eq k n) in
          let l = a.left k is in
          (s.0 ∙ l.0, λ h. let m = l.1 h in let t = s.1 m.0 in (t.0, λ image now. m.1 image (t.1 image now)));
    })

    pub given_more : Giving form told out0 out2 has0 has2 slots0 slots2
    given_more = record {
      held = λ k. held_more k (cases_eq k n);
      stands = λ of plain fits k kind. stands_more of plain fits k kind (cases_eq k n);
      out = λ of fits k. out_more of fits k (cases_eq k n);
      others = apart_more;
    }

  pub sum_more : (count : D → ℕ) (old new : List (ℕ × Slot A D)) (n : ℕ) (slot : Slot A D) (sum next total : ℕ) → old ≡ (n, slot) ∷ new → next ≡ sum_with form count slot sum → sum_all form count old sum ≡ total → sum_all form count new next ≡ total
  sum_more count old new n slot sum next total is adds same = ap (sum_all form count new) adds ∙ ap (λ (e : List (ℕ × Slot A D)). sum_all form count e sum) (sym is) ∙ same
