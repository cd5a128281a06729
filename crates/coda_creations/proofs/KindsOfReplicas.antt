-- What replicas have is of the kind with which it was made, and so they agree on it.
use Rattle.std.proofs.Common.{◌≡◌, ℕ, true, List, [], ◌∷◌, ◌++◌, Some, refl, sym, ap, ◌∙◌, subst, inl, inr}
use Rattle.coda_fid.specs.Fid.{root_of}
use Rattle.coda_fid.specs.declared.fid.Fid.{Fid}
use Rattle.coda_fid.specs.declared.op.Record.{Record}
use Rattle.coda_certify.specs.declared.verdict.Verdict.TheVariants.{Applied}
use Rattle.coda_cml.specs.Steady.{any_record}
use Rattle.coda_plain.specs.Histories.{In, told}
use Rattle.coda_plain.specs.Deeds.{AreNumberedObjects, full_of, pending_of, course_of, all_in, ended_of}
use Rattle.coda_plain.specs.Decisions.{ReplicaEntry, Decided, Resolved, Decision, decision_at, verdict_on}
use Rattle.coda_plain.specs.Decisions.{kept_after, kept_of, nodes_of}
use Rattle.coda_plain.specs.Cell.{Histories, deeds_of}
use Rattle.coda_plain.specs.Promises.{Decides, AreKept}
use Rattle.coda_plain.specs.Sound.{deeds_in}
use Rattle.coda_plain.proofs.Lists.{left_push, some_record, in_left}
use Rattle.coda_plain.proofs.Chunking.{in_above}
use Rattle.coda_creations.specs.Places.{NoneTookOver}
use Rattle.coda_creations.specs.Kinds.{Kind, kind_at, makes, IsMadeAs, IsBroughtAs, ReplicasKeepKinds}
use Rattle.coda_creations.proofs.KindsKept.{entries_kind, history_kind}
use Rattle.coda_creations.proofs.KindsMade.{made_creates, made_from, made_once}
use Rattle.coda_creations.proofs.Lacking.{in_ended}
use Rattle.coda_creations.proofs.Tails.{upto_by, made_here}

-- what was brought of a kind was brought by a decision that applied
find : (volume : ℕ) (past es : List ReplicaEntry) (f : Fid) (kind : Kind) → NoneTookOver es
    → IsBroughtAs f kind (kept_of volume past) es
    → (d : Decision) × In d (told (decision_at volume) past es) × (verdict_on d ≡ Applied) ×
    (any_record (makes f kind) d.span ≡ true)
find volume past [] f kind all by = absurd by
find volume past (Decided client number span ∷ es) f kind all (inl by) =
    (record { client = client; number = number; span = span; before = nodes_of volume past }, inl refl, by.0, by.1)
find volume past (Decided client number span ∷ es) f kind all (inr more) =
    let e = Decided client number span in
    let r = find volume (past ++ e ∷ []) es f kind all
    (subst (λ k. IsBroughtAs f kind k es) (sym (left_push kept_after _ past e)) more) in (r.0, inr r.1, r.2, r.3)
find volume past (Resolved objects lasts ∷ es) f kind all by = absurd all

module _ (h : Histories) (volume : ℕ) (kept : (c : ℕ) → AreKept h c volume) where
  -- what a replica applied its client did
  applied_done : (server : ℕ) (d : Decision) (rec : Record) → Decides h server volume d → verdict_on d ≡ Applied
      → In rec d.span → In rec (full_of (deeds_in h d.client volume))
  applied_done server d rec there applied i =
      let deeds = deeds_in h d.client volume in
      elim ((kept d.client).applied server d there refl applied) [
        | inl ended ↦
            subst (In rec) (kept d.client).ledger
            (in_left rec (all_in (ended_of deeds)) (pending_of deeds)
            (in_ended rec d.number d.span (ended_of deeds) ended i))
        | inr way ↦
            in_above (course_of deeds).done rec (full_of deeds)
            (upto_by way.cut.last rec (pending_of deeds) (subst (In rec) way.front i)).1
      ]

  made_in : (server : ℕ) (f : Fid) (kind : Kind) → NoneTookOver (h.replicas server volume)
      → kind_at (nodes_of volume (h.replicas server volume)) f ≡ Some kind
      → (f.volume ≡ volume) × IsMadeAs (deeds_in h) f kind
  made_in server f kind all is = elim (history_kind volume (h.replicas server volume) f kind is) [
    | inl root ↦
        let here : f.volume ≡ volume = ap (λ (g : Fid). g.volume) root.0 in
        (here, inl (root.0 ∙ ap root_of (sym here), root.1))
    | inr by ↦
        let d = find volume [] (h.replicas server volume) f kind all by in
        let rec = some_record (makes f kind) d.0.span d.3 in
        let done = applied_done server d.0 rec.0 d.1 d.2 rec.1 in (
          sym (made_here volume d.0.client 0 (full_of (deeds_in h d.0.client volume)) rec.0 f
              (kept d.0.client).numbered done (made_creates f kind rec.0.op rec.2)),
          made_from (deeds_in h) d.0.client volume rec.0 f kind (kept d.0.client).numbered done rec.2,
        )
  ]

  agree : (server second : ℕ) (f : Fid) (one other : Kind) → h.clients 0 ≡ [] → NoneTookOver (h.replicas server volume)
      → NoneTookOver (h.replicas second volume) → kind_at (nodes_of volume (h.replicas server volume)) f ≡ Some one
      → kind_at (nodes_of volume (h.replicas second volume)) f ≡ Some other → one ≡ other
  agree server second f one other idle all both has has_too =
      let a = made_in server f one all has in
      let b = made_in second f other both has_too in
      let numbered = subst (λ v. AreNumberedObjects v f.vnode (deeds_in h f.vnode v)) (sym a.0)
      (kept f.vnode).numbered in
      made_once (deeds_in h) f (ap (deeds_of f.volume) idle) numbered one other a.1 b.1

pub replicas_keep : ReplicasKeepKinds
replicas_keep = record {
  kept = entries_kind;
  brought = history_kind;
  made = λ h volume server f kind kept all is. (made_in h volume kept server f kind all is).1;
  agreed = λ h volume server second f one other kept idle all both has has_too.
      agree h volume kept server second f one other idle all both has has_too;
}
