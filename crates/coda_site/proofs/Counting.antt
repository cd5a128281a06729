-- What calls of actors and lines count.
use Rattle.std.proofs.Common.{◌≡◌, ◌≤◌, ◌+◌, ◌⊎◌, inl, inr, ℕ, Bool, true, false, List, [], ◌∷◌, Ok, Err, Result, refl, sym, ap, ◌∙◌, subst, arith}
use Rattle.std.specs.BTreeMap.{BTreeMap}
use Rattle.std.specs.Result.{IsErr}
use Rattle.coda_io.specs.Faults.{counted, Rose}
use Rattle.coda_disk.specs.Bays.{plus}
use Rattle.coda_disk.specs.Told.{Told}
use Rattle.coda_actors.specs.Clients.{client_form}
use Rattle.coda_actors.specs.Form.{Form}
use Rattle.coda_actors.specs.Replicas.{replica_form}
use Rattle.coda_actors.specs.Slots.{count_in, sum_with}
use Rattle.coda_actors.specs.declared.slot.Slot.{Slot}
use Rattle.coda_actors.specs.declared.slot.Slot.TheVariants.{Vacant, Spare, Stopped, Started}
use Rattle.coda_crew.proofs.Counts.{sum_has}
use Rattle.coda_crew.specs.Crews.{slot_at, sum_of, sum_all, CountsAt}
use Rattle.coda_replica.specs.declared.replica.Replica.{Replica}
use Rattle.coda_venus.specs.declared.venus.Venus.{Venus}
use Rattle.coda_script.specs.declared.line.Line.{Line}
use Rattle.coda_script.specs.declared.reply.Reply.{Reply}
use Rattle.coda_script.specs.declared.reply.Reply.TheVariants.{Accepted}
use Rattle.coda_record.specs.declared.answer.Answer.{Answer}
use Rattle.coda_record.specs.declared.answer.Answer.TheVariants.{Applied, Conflict, Behind, Old}
use Rattle.coda_cell.specs.Messages.{reply_taken}
use Rattle.coda_site.specs.Totals.{Counts, IsCounted, counts_in, counts_of, total, totals, IsFault, is_ok, has_armed}
use Rattle.coda_site.specs.declared.fault.CellFault.{CellFault}
use Rattle.coda_site.specs.declared.site.Site.{Site}
use Rattle.coda_site.proofs.ClientSites.{with_clients}
use Rattle.coda_site.proofs.ReplicaSites.{with_replicas}
use Rattle.std.specs.BTreeMap.{is_at}
use Rattle.std.specs.Ordering.{nat_cmp}

-- ---- numbers

rose_then : (a b c : ℕ) → Rose a b → b ≤ c → Rose a c
rose_then a b c rose later = omega (arith, rose, later)

then_rose : (a b c : ℕ) → a ≤ b → Rose b c → Rose a c
then_rose a b c later rose = omega (arith, rose, later)

-- of a sum of which one part rose
sum_rose : (s0 s1 c0 c1 : ℕ) → s1 + c0 ≡ s0 + c1 → c0 ≤ s0 → c0 ≤ c1 → Rose c0 c1 → Rose s0 s1
sum_rose s0 s1 c0 c1 is has later rose = omega (arith, is, has, later, rose)

plus_rose : (sum s0 s1 r : ℕ) → Rose s0 s1 → Rose (plus sum (s0 + r)) (plus sum (s1 + r))
plus_rose sum s0 s1 r rose = omega (arith, rose)

plus_later : (sum s0 s1 r : ℕ) → s0 ≤ s1 → plus sum (s0 + r) ≤ plus sum (s1 + r)
plus_later sum s0 s1 r later = omega (arith, later)

-- ---- calls

pub unchanged : (failed : Type 0) (x : Counts) → ¬ failed → IsCounted failed false x x
unchanged failed x not = record { later = omega arith; cause = λ f. absurd (not f); arms = refl }

pub counted_as : (failed why : Type 0) (armed : Bool) (old new : Counts) → (failed → why) → IsCounted why armed old new → IsCounted failed armed old new
counted_as failed why armed old new is c = record { later = c.later; cause = λ f. c.cause (is f); arms = c.arms }

pub counted_then : (failed one two : Type 0) (a b c : Counts) → (failed → one ⊎ two) → IsCounted one false a b → IsCounted two false b c → IsCounted failed false a c
counted_then failed one two a b c is first second = record { later = omega (arith, first.later, second.later); cause = λ f. go (is f); arms = second.arms ∙ first.arms }
  where
    go : one ⊎ two → Rose a.faults c.faults
    go (inl o) = rose_then a.faults b.faults c.faults (first.cause o) second.later
    go (inr t) = then_rose a.faults b.faults c.faults first.later (second.cause t)

-- ---- an actor in its slot

module _ {A D : Type 0} (form : Form A D) (faults arms : D → ℕ) (failed : Type 0) where
  pub slot_counted : (n : ℕ) (old new : BTreeMap ℕ (Slot A D)) (took put : Slot A D) → CountsAt n old new → slot_at old n ≡ took → slot_at new n ≡ put
      → IsCounted failed false (counts_in form faults arms took) (counts_in form faults arms put) → IsCounted failed false (counts_of form faults arms old) (counts_of form faults arms new)
  slot_counted n old new took put at was is c = record { later = later; cause = λ f. rose (c.cause f); arms = same }
    where
      f0 : count_in form faults (slot_at old n) ≡ count_in form faults took
      f0 = ap (count_in form faults) was

      f1 : count_in form faults (slot_at new n) ≡ count_in form faults put
      f1 = ap (count_in form faults) is

      a0 : count_in form arms (slot_at old n) ≡ count_in form arms took
      a0 = ap (count_in form arms) was

      a1 : count_in form arms (slot_at new n) ≡ count_in form arms put
      a1 = ap (count_in form arms) is

      fs : sum_of (count_in form faults) new.entries + count_in form faults (slot_at old n) ≡ sum_of (count_in form faults) old.entries + count_in form faults (slot_at new n)
      fs = at (count_in form faults) refl

      has : count_in form faults (slot_at old n) ≤ sum_of (count_in form faults) old.entries
      has = sum_has (count_in form faults) (is_at (nat_cmp n)) old.entries refl

      am : sum_of (count_in form arms) new.entries + count_in form arms (slot_at old n) ≡ sum_of (count_in form arms) old.entries + count_in form arms (slot_at new n)
      am = at (count_in form arms) refl

      later : sum_of (count_in form faults) old.entries ≤ sum_of (count_in form faults) new.entries
      later = omega (arith, f0, f1, fs, c.later)

      rose : Rose (count_in form faults took) (count_in form faults put) → Rose (sum_of (count_in form faults) old.entries) (sum_of (count_in form faults) new.entries)
      rose r = sum_rose (sum_of (count_in form faults) old.entries) (sum_of (count_in form faults) new.entries) (count_in form faults took) (count_in form faults put) (omega (arith, f0, f1, fs)) (omega (arith, f0, has)) c.later r

      same : sum_of (count_in form arms) new.entries ≡ sum_of (count_in form arms) old.entries
      same = omega (arith, a0, a1, am, c.arms)

pub counted_from : {A D : Type 0} (form : Form A D) (faults arms : D → ℕ) (failed : Type 0) (old was : Slot A D) (new : Counts) → old ≡ was → IsCounted failed false (counts_in form faults arms was) new → IsCounted failed false (counts_in form faults arms old) new
counted_from form faults arms failed old was new is c = subst (λ (s : Slot _ _). IsCounted failed false (counts_in form faults arms s) new) (sym is) c

-- ---- a site

module _ {D : Type 0} (told : D → Told) (faults arms : D → ℕ) (disk_faults disk_arms : ℕ) (failed : Type 0) (site : Site D) where
  pub clients_counted : (clients : BTreeMap ℕ (Slot (Venus D) D)) → IsCounted failed false (counts_of (client_form told) faults arms site.clients) (counts_of (client_form told) faults arms clients)
      → IsCounted failed false (totals told faults arms disk_faults disk_arms site) (totals told faults arms disk_faults disk_arms (with_clients site clients))
  clients_counted clients c = record {
    later = plus_later disk_faults (sum_of (count_in (client_form told) faults) site.clients.entries) (sum_of (count_in (client_form told) faults) clients.entries) (sum_of (count_in (replica_form told) faults) site.replicas.entries) c.later;
    cause = λ f. plus_rose disk_faults (sum_of (count_in (client_form told) faults) site.clients.entries) (sum_of (count_in (client_form told) faults) clients.entries) (sum_of (count_in (replica_form told) faults) site.replicas.entries) (c.cause f);
    arms = ap (λ s. plus disk_arms (s + sum_of (count_in (replica_form told) arms) site.replicas.entries)) c.arms;
  }

  pub replicas_counted : (replicas : BTreeMap ℕ (Slot (Replica D) D)) → IsCounted failed false (counts_of (replica_form told) faults arms site.replicas) (counts_of (replica_form told) faults arms replicas)
      → IsCounted failed false (totals told faults arms disk_faults disk_arms site) (totals told faults arms disk_faults disk_arms (with_replicas site replicas))
  replicas_counted replicas c = record {
    later = omega (arith, c.later);
    cause = λ f. let r = c.cause f in omega (arith, r);
    arms = ap (λ s. plus disk_arms (sum_of (count_in (client_form told) arms) site.clients.entries + s)) c.arms;
  }

-- ---- what the bay has of disks that went back to it

module _ {A D : Type 0} (form : Form A D) (count : D → ℕ) where
  sum_slot : (slot : Slot A D) (sum rest : ℕ) → plus (sum_with form count slot sum) rest ≡ plus sum (count_in form count slot + rest)
  sum_slot Vacant sum rest = omega arith
  sum_slot (Spare disk) sum rest = omega arith
  sum_slot (Stopped header disk) sum rest = omega arith
  sum_slot (Started header actor) sum rest = omega arith

  -- the disks of a crew go back
  pub sum_back : (slots : List (ℕ × Slot A D)) (sum rest : ℕ) → plus (sum_all form count slots sum) rest ≡ plus sum (sum_of (count_in form count) slots + rest)
  sum_back [] sum rest = omega arith
  sum_back (slot ∷ slots) sum rest =
      let more = sum_back slots (sum_with form count slot.1 sum) rest in
      let one = sum_slot slot.1 sum (sum_of (count_in form count) slots + rest) in
      omega (arith, more, one)

  -- the disk of one slot is counted by the bay, and no longer by the slot
  pub crashed : (n : ℕ) (old new : BTreeMap ℕ (Slot A D)) (sum0 sum1 rest : ℕ) → CountsAt n old new → count_in form count (slot_at new n) ≡ 0 → sum1 ≡ sum_with form count (slot_at old n) sum0
      → plus sum1 (sum_of (count_in form count) new.entries + rest) ≡ plus sum0 (sum_of (count_in form count) old.entries + rest)
  crashed n old new sum0 sum1 rest at rested is =
      let a = at (count_in form count) refl in
      let one = sum_slot (slot_at old n) sum0 (sum_of (count_in form count) new.entries + rest) in
      omega (arith, a, one, rested, is)

  -- the disk of one slot was armed
  pub armed : (n : ℕ) (old new : BTreeMap ℕ (Slot A D)) (sum rest : ℕ) → CountsAt n old new → count_in form count (slot_at new n) ≡ counted (count_in form count (slot_at old n))
      → plus sum (sum_of (count_in form count) new.entries + rest) ≡ counted (plus sum (sum_of (count_in form count) old.entries + rest))
  armed n old new sum rest at is =
      let a = at (count_in form count) refl in
      let has = sum_has (count_in form count) (is_at (nat_cmp n)) old.entries refl in
      omega (arith, a, has, is)

pub same_counted : (failed : Type 0) (old new : Counts) → ¬ failed → new.faults ≡ old.faults → new.arms ≡ old.arms → IsCounted failed false old new
same_counted failed old new not faults arms = record { later = omega (arith, faults); cause = λ f. absurd (not f); arms = arms }

-- ---- lines that crash, open and arm

module _ {D : Type 0} (told : D → Told) (faults arms : D → ℕ) (df0 da0 df1 da1 : ℕ) (failed : Type 0) (site : Site D) (n : ℕ) where
  module _ (slots : BTreeMap ℕ (Slot (Venus D) D)) (at : CountsAt n site.clients slots) where
    pub client_crashed : ¬ failed → count_in (client_form told) faults (slot_at slots n) ≡ 0 → count_in (client_form told) arms (slot_at slots n) ≡ 0
        → df1 ≡ sum_with (client_form told) faults (slot_at site.clients n) df0 → da1 ≡ sum_with (client_form told) arms (slot_at site.clients n) da0
        → IsCounted failed false (totals told faults arms df0 da0 site) (totals told faults arms df1 da1 (with_clients site slots))
    client_crashed not nf na isf isa =
        same_counted failed (totals told faults arms df0 da0 site) (totals told faults arms df1 da1 (with_clients site slots)) not
        (crashed (client_form told) faults n site.clients slots df0 df1 (sum_of (count_in (replica_form told) faults) site.replicas.entries) at nf isf)
        (crashed (client_form told) arms n site.clients slots da0 da1 (sum_of (count_in (replica_form told) arms) site.replicas.entries) at na isa)

    pub client_opened : df1 ≡ df0 → da1 ≡ da0 → IsCounted failed false (counts_in (client_form told) faults arms (slot_at site.clients n)) (counts_in (client_form told) faults arms (slot_at slots n))
        → IsCounted failed false (totals told faults arms df0 da0 site) (totals told faults arms df1 da1 (with_clients site slots))
    client_opened isf isa c =
        subst (λ (d : ℕ). IsCounted failed false (totals told faults arms df0 da0 site) (totals told faults arms d da1 (with_clients site slots))) (sym isf)
        (subst (λ (d : ℕ). IsCounted failed false (totals told faults arms df0 da0 site) (totals told faults arms df0 d (with_clients site slots))) (sym isa)
        (clients_counted told faults arms df0 da0 failed site slots (slot_counted (client_form told) faults arms failed n site.clients slots (slot_at site.clients n) (slot_at slots n) at refl refl c)))

    pub client_armed : ¬ failed → count_in (client_form told) faults (slot_at slots n) ≡ count_in (client_form told) faults (slot_at site.clients n) → count_in (client_form told) arms (slot_at slots n) ≡ counted (count_in (client_form told) arms (slot_at site.clients n))
        → IsCounted failed true (totals told faults arms df0 da0 site) (totals told faults arms df0 da0 (with_clients site slots))
    client_armed not f a =
        let s = at (count_in (client_form told) faults) refl in
        let same : sum_of (count_in (client_form told) faults) slots.entries ≡ sum_of (count_in (client_form told) faults) site.clients.entries = omega (arith, s, f) in record {
          later = omega (arith, same);
          cause = λ e. absurd (not e);
          arms = armed (client_form told) arms n site.clients slots da0 (sum_of (count_in (replica_form told) arms) site.replicas.entries) at a;
        }

  module _ (slots : BTreeMap ℕ (Slot (Replica D) D)) (at : CountsAt n site.replicas slots) where
    pub replica_crashed : ¬ failed → count_in (replica_form told) faults (slot_at slots n) ≡ 0 → count_in (replica_form told) arms (slot_at slots n) ≡ 0
        → df1 ≡ sum_with (replica_form told) faults (slot_at site.replicas n) df0 → da1 ≡ sum_with (replica_form told) arms (slot_at site.replicas n) da0
        → IsCounted failed false (totals told faults arms df0 da0 site) (totals told faults arms df1 da1 (with_replicas site slots))
    replica_crashed not nf na isf isa =
        let f = crashed (replica_form told) faults n site.replicas slots df0 df1 (sum_of (count_in (client_form told) faults) site.clients.entries) at nf isf in
        let a = crashed (replica_form told) arms n site.replicas slots da0 da1 (sum_of (count_in (client_form told) arms) site.clients.entries) at na isa in
        same_counted failed (totals told faults arms df0 da0 site) (totals told faults arms df1 da1 (with_replicas site slots)) not (omega (arith, f)) (omega (arith, a))

    pub replica_opened : df1 ≡ df0 → da1 ≡ da0 → IsCounted failed false (counts_in (replica_form told) faults arms (slot_at site.replicas n)) (counts_in (replica_form told) faults arms (slot_at slots n))
        → IsCounted failed false (totals told faults arms df0 da0 site) (totals told faults arms df1 da1 (with_replicas site slots))
    replica_opened isf isa c =
        subst (λ (d : ℕ). IsCounted failed false (totals told faults arms df0 da0 site) (totals told faults arms d da1 (with_replicas site slots))) (sym isf)
        (subst (λ (d : ℕ). IsCounted failed false (totals told faults arms df0 da0 site) (totals told faults arms df0 d (with_replicas site slots))) (sym isa)
        (replicas_counted told faults arms df0 da0 failed site slots (slot_counted (replica_form told) faults arms failed n site.replicas slots (slot_at site.replicas n) (slot_at slots n) at refl refl c)))

    pub replica_armed : ¬ failed → count_in (replica_form told) faults (slot_at slots n) ≡ count_in (replica_form told) faults (slot_at site.replicas n) → count_in (replica_form told) arms (slot_at slots n) ≡ counted (count_in (replica_form told) arms (slot_at site.replicas n))
        → IsCounted failed true (totals told faults arms df0 da0 site) (totals told faults arms df0 da0 (with_replicas site slots))
    replica_armed not f a =
        let s = at (count_in (replica_form told) faults) refl in
        let e = armed (replica_form told) arms n site.replicas slots da0 (sum_of (count_in (client_form told) arms) site.clients.entries) at a in
        let same : sum_of (count_in (replica_form told) faults) slots.entries ≡ sum_of (count_in (replica_form told) faults) site.replicas.entries = omega (arith, s, f) in record {
          later = omega (arith, same);
          cause = λ e. absurd (not e);
          arms = omega (arith, e);
        }

-- a site with the same slots counts the same
pub same_slots : {D : Type 0} (told : D → Told) (faults arms : D → ℕ) (df da : ℕ) (s t : Site D) → s.clients ≡ t.clients → s.replicas ≡ t.replicas → totals told faults arms df da s ≡ totals told faults arms df da t
same_slots told faults arms df da s t clients replicas = record_eq
  where
    record_eq : totals told faults arms df da s ≡ totals told faults arms df da t
    record_eq = ap (λ (p : BTreeMap ℕ (Slot (Venus _) _)). totals told faults arms df da (with_clients s p)) clients ∙ ap (λ (p : BTreeMap ℕ (Slot (Replica _) _)). totals told faults arms df da (with_replicas (with_clients s t.clients) p)) replicas

-- ---- lines

-- ---- at the end

pub closed : {D : Type 0} (told : D → Told) (count : D → ℕ) (site : Site D) (sum0 sum1 sum2 : ℕ) → sum1 ≡ sum_all (client_form told) count site.clients.entries sum0 → sum2 ≡ sum_all (replica_form told) count site.replicas.entries sum1 → plus sum2 0 ≡ total told count sum0 site
closed told count site sum0 sum1 sum2 one two =
    let replicas = sum_back (replica_form told) count site.replicas.entries sum1 0 in
    let clients = sum_back (client_form told) count site.clients.entries sum0 (sum_of (count_in (replica_form told) count) site.replicas.entries) in
    omega (arith, replicas, clients, one, two)

-- ---- replies that tell of no fault

pub err_fine : (result : Result Reply CellFault) → IsErr result → ¬ IsFault result
err_fine (Ok said) is e = cc
err_fine (Err why) is e = cc

pub accepted_fine : ¬ IsFault (Ok Accepted)
accepted_fine e = cc

pub taken_fine : (number : ℕ) (answer : Answer) (said : Reply) → said ≡ reply_taken number answer → ¬ IsFault (Ok said)
taken_fine number Applied said is e = cc
taken_fine number (Conflict refused why) said is e = cc
taken_fine number (Behind last) said is e = cc
taken_fine number (Old last) said is e = cc
