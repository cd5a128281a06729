-- Servers lack what tails create.
use Rattle.std.proofs.Common.{◌≡◌, ℕ, ◌+◌, ◌<◌, true, List, [], ◌∷◌, ◌++◌, Option, Some, None, refl, sym, ap, ◌∙◌}
use Rattle.std.proofs.Common.{subst, inl, inr, arith}
use Rattle.std.proofs.lemmas.Bool.{false_from_ne_true}
use Rattle.coda_fid.specs.declared.fid.Fid.{Fid}
use Rattle.coda_fid.specs.declared.op.Record.{Record}
use Rattle.coda_certify.specs.declared.verdict.Verdict.TheVariants.{Applied}
use Rattle.coda_cancel.specs.Dropping.{creates}
use Rattle.coda_cml.specs.Segments.{records_upto}
use Rattle.coda_cml.specs.Steady.{any_record}
use Rattle.coda_plain.specs.Histories.{In, told}
use Rattle.coda_plain.specs.Deeds.{created_by, full_of, Cut, course_of, pending_of, Ended, InChunk, operations_in}
use Rattle.coda_plain.specs.Deeds.{all_in, ended_of}
use Rattle.coda_plain.specs.Decisions.{ReplicaEntry, Decided, Resolved, Decision, decision_at, verdict_on, kept_after}
use Rattle.coda_plain.specs.Decisions.{kept_of, nodes_of}
use Rattle.coda_plain.specs.Cell.{Histories}
use Rattle.coda_plain.specs.Logs.{back_by, back_of}
use Rattle.coda_plain.specs.Promises.{Decides, AreKept, IsUnderWay}
use Rattle.coda_plain.specs.Sound.{deeds_in}
use Rattle.coda_plain.proofs.Lists.{left_push, some_record, in_left, in_right}
use Rattle.coda_plain.proofs.Chunking.{in_above}
use Rattle.coda_creations.specs.Places.{IsBrought, NoneTookOver, IsOutsideTail}
use Rattle.coda_creations.specs.Places.{ServersLackWhatTailsCreate}
use Rattle.coda_creations.proofs.Brought.{replicas_have}
use Rattle.coda_creations.proofs.Tails.{AreCreationsCounted, counted_from, made_own, one_created, later, once, above_by, upto_by}

-- what was brought was brought by a decision that applied
find : (volume : ℕ) (past es : List ReplicaEntry) (f : Fid) → NoneTookOver es → IsBrought f (kept_of volume past) es → (d : Decision) × In d (told (decision_at volume) past es) × (verdict_on d ≡ Applied) × (any_record (creates f) d.span ≡ true)
find volume past [] f all by = absurd by
find volume past (Decided client number span ∷ es) f all (inl by) =
    (record { client = client; number = number; span = span; before = nodes_of volume past }, inl refl, by.0, by.1)
find volume past (Decided client number span ∷ es) f all (inr more) =
    let e = Decided client number span in
    let r = find volume (past ++ e ∷ []) es f all (subst (λ k. IsBrought f k es) (sym (left_push kept_after _ past e)) more) in (r.0, inr r.1, r.2, r.3)
find volume past (Resolved objects lasts ∷ es) f all by = absurd all

-- no object is created in front of records and in them
parted : (count : ℕ) (front back : List Record) (f : Fid) (a b : Record) → AreCreationsCounted count (front ++ back)
    → In a front → In b back → creates f a.op ≡ true → creates f b.op ≡ true → ⊥
parted count [] back f a b are i j h k = i
parted count (x ∷ front) back f a b are (inl i) j h k =
    let c : creates f x.op ≡ true = ap (λ (r : Record). creates f r.op) (sym i) ∙ h in
    let at = are.0 f c in
    let one = one_created f x.op c in
    let more = later (count + created_by x.op) (front ++ back) f b are.1 (in_right b front back j) k in
    omega (arith, at, one, more)
parted count (x ∷ front) back f a b are (inr i) j h k = parted (count + created_by x.op) front back f a b are.1 i j h k

pub in_ended : (rec : Record) (number : ℕ) (span : List Record) (es : List Ended) → In (InChunk number span) es
    → In rec span → In rec (all_in es)
in_ended rec number span [] i j = absurd i
in_ended rec number span (x ∷ es) (inl same) j =
    in_left rec (operations_in x) (all_in es) (subst (λ e. In rec (operations_in e)) same j)
in_ended rec number span (x ∷ es) (inr i) j =
    in_right rec (operations_in x) (all_in es) (in_ended rec number span es i j)

same_cut : (a b : Cut) → Some a ≡ Some b → a ≡ b
same_cut a b e = cc

back_pending : (o : Option Cut) (pending : List Record) (rec : Record) → In rec (back_by o pending) → In rec pending
back_pending None pending rec i = i
back_pending (Some cut) pending rec i = in_above cut.last rec pending i

module _ (h : Histories) (volume server client : ℕ) (f : Fid) (kept : (c : ℕ) → AreKept h c volume)
  where
    counted : (c : ℕ) → AreCreationsCounted 0 (full_of (deeds_in h c volume))
    counted c = counted_from volume c 0 (full_of (deeds_in h c volume)) (kept c).numbered

    own : (c : ℕ) (rec : Record) → In rec (full_of (deeds_in h c volume)) → creates f rec.op ≡ true → c ≡ f.vnode
    own c rec i e = made_own volume c 0 (full_of (deeds_in h c volume)) rec f (kept c).numbered i e

    in_pending : (c : ℕ) (rec : Record) → In rec (pending_of (deeds_in h c volume))
        → In rec (full_of (deeds_in h c volume))
    in_pending c rec i = in_above (course_of (deeds_in h c volume)).done rec (full_of (deeds_in h c volume)) i

    -- a decision that applied a creation of it, and a pending creation: the decision is of this client, and under way
    under_way : (d : Decision) → Decides h server volume d → verdict_on d ≡ Applied
        → any_record (creates f) d.span ≡ true → (b : Record) → In b (pending_of (deeds_in h client volume))
        → creates f b.op ≡ true
        → (d.client ≡ client) × IsUnderWay (deeds_in h client volume) d.number d.span
    under_way d there applied made b j k =
        let a = some_record (creates f) d.span made in
        elim ((kept d.client).applied server d there refl applied) [
          | inl ended ↦
              let i : In a.0 (all_in (ended_of (deeds_in h d.client volume))) = in_ended a.0 d.number d.span (ended_of (deeds_in h d.client volume)) ended a.1 in
              let whole : In a.0 (full_of (deeds_in h d.client volume)) = subst (In a.0) (kept d.client).ledger (in_left a.0 (all_in (ended_of (deeds_in h d.client volume))) (pending_of (deeds_in h d.client volume)) i) in
              let mine : d.client ≡ client = own d.client a.0 whole a.2 ∙ sym (own client b (in_pending client b j) k) in
              absurd (parted 0 (all_in (ended_of (deeds_in h client volume))) (pending_of (deeds_in h client volume)) f
              a.0 b (subst (AreCreationsCounted 0) (sym (kept client).ledger) (counted client))
              (subst (λ c. In a.0 (all_in (ended_of (deeds_in h c volume)))) mine i) j a.2 k)
          | inr way ↦
              let low : In a.0 (records_upto way.cut.last (pending_of (deeds_in h d.client volume))) = subst (In a.0) way.front a.1 in
              let mine : d.client ≡ client = own d.client a.0 (in_pending d.client a.0 (upto_by way.cut.last a.0 (pending_of (deeds_in h d.client volume)) low).1) a.2 ∙ sym (own client b (in_pending client b j) k) in
              (mine, subst (λ c. IsUnderWay (deeds_in h c volume) d.number d.span) mine way)
        ]

    lacked : (d : Decision) → Decides h server volume d → verdict_on d ≡ Applied → any_record (creates f) d.span ≡ true
        → IsOutsideTail h volume server client f
    lacked d there applied made = record {
      tail = false_from_ne_true _ (λ t.
          let b = some_record (creates f) (back_of (deeds_in h client volume)) t in
          let j = back_pending (course_of (deeds_in h client volume)).cut (pending_of (deeds_in h client volume)) b.0 b.1 in
          let way = (under_way d there applied made b.0 j b.2).1 in
          let a = some_record (creates f) d.span made in
          let low = upto_by way.cut.last a.0 (pending_of (deeds_in h client volume)) (subst (In a.0) way.front a.1) in
          let high : way.cut.last < b.0.number = above_by way.cut.last b.0 (pending_of (deeds_in h client volume)) (subst (λ o. In b.0 (back_by o (pending_of (deeds_in h client volume)))) way.frozen b.1) in
          let same : a.0 ≡ b.0 = once 0 (full_of (deeds_in h client volume)) f a.0 b.0 (counted client) (in_pending client a.0 low.1) (in_pending client b.0 j) a.2 b.2 in
          let down = low.0 in
          let up : way.cut.last < a.0.number = subst (λ (r : Record). way.cut.last < r.number) (sym same) high in
          let no_way : ⊥ = omega (arith, down, up) in absurd no_way);
      whole = λ not. false_from_ne_true _ (λ t.
          let b = some_record (creates f) (pending_of (deeds_in h client volume)) t in
          let u = under_way d there applied made b.0 b.1 b.2 in
          absurd (not d there u.0 applied u.1.last));
    }

pub servers_lack : ServersLackWhatTailsCreate
servers_lack h volume server client f kept all known off =
    elim (replicas_have volume (h.replicas server volume) f known) [
      | inl root ↦ absurd (off root)
      | inr by ↦ (let d = find volume [] (h.replicas server volume) f all by in lacked h volume server client f kept d.0 d.1 d.2 d.3)
    ]
