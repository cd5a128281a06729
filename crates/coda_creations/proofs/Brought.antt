-- What servers have was created by what they applied.
use Rattle.std.proofs.Common.{◌≡◌, ℕ, true, List, [], ◌∷◌, Option, Some, None, is_some, Ok, Err, refl, sym, ap, ◌∙◌}
use Rattle.std.proofs.Common.{subst, inl, inr, ◌⊎◌}
use Rattle.std.specs.FinMap as map
use Rattle.std.proofs.lemmas.Bool.{or_left, or_right, or_cases, false≢true}
use Rattle.coda_fid.specs.Fid.{fid_cmp, root_of}
use Rattle.coda_fid.specs.declared.fid.Fid.{Fid}
use Rattle.coda_fid.specs.declared.op.Op.{Op}
use Rattle.coda_fid.specs.declared.op.Op.TheVariants.{Create, Mkdir, Symlink, Store, Setattr, Remove, Rmdir, Rename}
use Rattle.coda_fid.specs.declared.op.Record.{Record}
use Rattle.coda_fid.proofs.Fids.{fids_total, exact_fids}
use Rattle.coda_tree.specs.declared.node.Node.{Node}
use Rattle.coda_tree.specs.Bindings.{Name}
use Rattle.coda_tree.specs.Volume.{Nodes, has, child_of, fresh, fresh_root}
use Rattle.coda_tree.proofs.Order.{fid_cases, get_here, get_else}
use Rattle.coda_certify.specs.declared.reason.Reason.{Reason}
use Rattle.coda_certify.specs.declared.verdict.Verdict.TheVariants.{Applied}
use Rattle.coda_certify.specs.Checks.{certify, checks, no_object_of}
use Rattle.coda_certify.specs.Replay.{Replayed, applied, unless_refused, replay}
use Rattle.coda_certify.specs.Verdicts.{verdict_of, nodes_left}
use Rattle.coda_certify.proofs.Passed.{AllPass}
use Rattle.coda_cancel.specs.Dropping.{creates}
use Rattle.coda_cancel.specs.Cancel.{add, added, fold}
use Rattle.coda_cancel.proofs.Keys.{fid_same}
use Rattle.coda_cml.specs.Steady.{any_record}
use Rattle.coda_cml.proofs.volumes.Certifying.{certified_checks}
use Rattle.coda_cml.proofs.runs.ThawedFold.{creates_in_add}
use Rattle.coda_plain.specs.Histories.{left_by}
use Rattle.coda_plain.specs.Decisions.{ReplicaEntry, Decided, Resolved, sent_of, or_replayed, decision, Kept}
use Rattle.coda_plain.specs.Decisions.{kept_after, kept_of}
use Rattle.coda_cell.proofs.AfterOperations.{IsBoundBy, bound_before, has_operation}
use Rattle.coda_creations.specs.Places.{IsHeldOrBound, DecisionsBringCreations, IsBroughtBy, IsBrought}
use Rattle.coda_creations.specs.Places.{ReplicasHaveWhatWasBrought}

-- ---- one operation

there : (o : Option Node) (fid : Fid) → no_object_of o fid ≡ None → is_some o ≡ true
there None fid h = cc
there (Some node) fid h = refl

bound_known : (m : Nodes) (op : Op) (d : Fid) (n : Name) (f : Fid) → AllPass m (checks op) → IsBoundBy op d n f
    → IsHeldOrBound m f ⊎ (creates f op ≡ true)
bound_known m (Create dir name fid mode owner) d n f pass at = inr (fid_same fid f (sym at.2))
bound_known m (Mkdir dir name fid mode owner) d n f pass at = inr (fid_same fid f (sym at.2))
bound_known m (Symlink dir name fid target mode owner) d n f pass at = inr (fid_same fid f (sym at.2))
bound_known m (Store fid pre content) d n f pass at = absurd at
bound_known m (Setattr fid pre attrs) d n f pass at = absurd at
bound_known m (Remove dir name fid pre) d n f pass at = absurd at
bound_known m (Rmdir dir name fid pre) d n f pass at = absurd at
bound_known m (Rename from_dir from to_dir to fid None) d n f pass at =
    inl (inl (subst (λ g. has m g ≡ true) (sym at.2) (there (map.get m fid) fid pass.1.1.1.1.1.0)))
bound_known m (Rename from_dir from to_dir to fid (Some over)) d n f pass at =
    inl (inl (subst (λ g. has m g ≡ true) (sym at.2) (there (map.get m fid) fid pass.1.1.1.1.1.1.0)))

known_before : (m : Nodes) (client : ℕ) (rec : Record) (f : Fid) → certify m rec.op ≡ None
    → IsHeldOrBound (applied m client rec) f → IsHeldOrBound m f ⊎ (creates f rec.op ≡ true)
known_before m client rec f pass (inl is) = elim (has_operation m client rec f is) [ inl old ↦ inl (inl old) | inr made ↦ inr made ]
known_before m client rec f pass (inr (d, n, is)) = elim (bound_before m client rec d n f is) [ inl old ↦ inl (inr (d, n, old)) | inr anew ↦ bound_known m rec.op d n f (certified_checks m rec.op pass) anew ]

-- ---- a replay

pub certified : (o : Option Reason) (number : ℕ) (rest : Replayed) (left : Nodes) → unless_refused o number rest ≡ Ok left
    → (o ≡ None) × (rest ≡ Ok left)
certified None number rest left e = (refl, e)
certified (Some why) number rest left e = cc

replayed : (m : Nodes) (client : ℕ) (recs : List Record) (left : Nodes) (f : Fid) → replay m client recs ≡ Ok left
    → IsHeldOrBound left f → IsHeldOrBound m f ⊎ (any_record (creates f) recs ≡ true)
replayed m client [] left f e known =
    (let same : m ≡ left = cc in inl (subst (λ k. IsHeldOrBound k f) (sym same) known))
replayed m client (rec ∷ recs) left f e known =
    let c = certified (certify m rec.op) rec.number (replay (applied m client rec) client recs) left e in
    elim (replayed (applied m client rec) client recs left f c.1 known) [
      | inl was ↦ elim (known_before m client rec f c.0 was) [ inl old ↦ inl old | inr made ↦ inr (or_left (creates f rec.op) (any_record (creates f) recs) made) ]
      | inr later ↦ inr (or_right (creates f rec.op) (any_record (creates f) recs) later)
    ]

-- what cancellation leaves creates nothing else
created_added : (f : Fid) (rs os : List Record) → any_record (creates f) (added rs os) ≡ true
    → (any_record (creates f) rs ≡ true) ⊎ (any_record (creates f) os ≡ true)
created_added f rs [] h = inl h
created_added f rs (o ∷ os) h = elim (created_added f (add rs o) os h) [
  | inl front ↦ elim (or_cases (any_record (creates f) rs) (creates f o.op) (creates_in_add f rs o front)) [ inl old ↦ inl old | inr here ↦ inr (or_left (creates f o.op) (any_record (creates f) os) here) ]
  | inr later ↦ inr (or_right (creates f o.op) (any_record (creates f) os) later)
]

sent_created : (f : Fid) (span : List Record) → any_record (creates f) (fold span) ≡ true
    → any_record (creates f) span ≡ true
sent_created f span h = elim (created_added f [] span h) [ inl none ↦ absurd (false≢true none) | inr is ↦ is ]

-- ---- a decision

pub either : (a b : Replayed) (m : Nodes) → or_replayed a b ≡ Ok m → (a ≡ Ok m) ⊎ (b ≡ Ok m)
either (Ok n) b m e = inl e
either (Err why) b m e = inr e

-- what is known behind it was known, or it was applied and its span created that
decided : (m : Nodes) (client : ℕ) (span : List Record) (f : Fid) (r : Replayed) → decision m client span ≡ r
    → IsHeldOrBound (nodes_left m r) f
    → IsHeldOrBound m f ⊎ ((verdict_of r ≡ Applied) × (any_record (creates f) span ≡ true))
decided m client span f (Err why) e known = inl known
decided m client span f (Ok left) e known =
    elim (either (replay m client span) (replay m client (sent_of span)) left e) [
      | inl whole ↦ elim (replayed m client span left f whole known) [ inl old ↦ inl old | inr made ↦ inr (refl, made) ]
      | inr sent ↦ elim (replayed m client (sent_of span) left f sent known) [ inl old ↦ inl old | inr made ↦ inr (refl, sent_created f span made) ]
    ]

pub decisions_bring : DecisionsBringCreations
decisions_bring m client span f known = elim (decided m client span f (decision m client span) refl known) [ inl old ↦ inl old | inr made ↦ inr made.1 ]

-- ---- a history

one_entry : (kept : Kept) (e : ReplicaEntry) (f : Fid) → IsHeldOrBound (kept_after kept e).nodes f
    → IsHeldOrBound kept.nodes f ⊎ IsBroughtBy f kept e
one_entry kept (Decided client number span) f known =
    decided kept.nodes client span f (decision kept.nodes client span) refl known
one_entry kept (Resolved objects lasts) f known = inr known

entries : (kept : Kept) (history : List ReplicaEntry) (f : Fid)
    → IsHeldOrBound (left_by kept_after kept history).nodes f → IsHeldOrBound kept.nodes f ⊎ IsBrought f kept history
entries kept [] f known = inl known
entries kept (e ∷ es) f known = elim (entries (kept_after kept e) es f known) [
  | inl before ↦ elim (one_entry kept e f before) [ inl old ↦ inl old | inr by ↦ inr (inl by) ]
  | inr later ↦ inr (inr later)
]

-- what is known in a fresh volume is its root
fresh_known : (volume : ℕ) (f : Fid) → IsHeldOrBound (fresh volume).nodes f → f ≡ root_of volume
fresh_known volume f (inl is) = elim (fid_cases f (root_of volume)) [
  | inl at ↦ at
  | inr off ↦ absurd (false≢true (sym (ap is_some (get_else fids_total exact_fids map.empty (root_of volume) fresh_root f off ∙ map.get-empty fid_cmp f)) ∙ is))
]
fresh_known volume f (inr (d, n, is)) = elim (fid_cases d (root_of volume)) [
  | inl at ↦ absurd (none (sym (ap (λ o. child_of o n) (ap (map.get (fresh volume).nodes) at ∙ get_here fids_total map.empty (root_of volume) fresh_root) ∙ map.get-empty _ n) ∙ is))
  | inr off ↦ absurd (none (sym (ap (λ o. child_of o n) (get_else fids_total exact_fids map.empty (root_of volume) fresh_root d off ∙ map.get-empty fid_cmp d)) ∙ is))
]
  where
    none : ◌≡◌ {A = Option Fid} None (Some f) → ⊥
    none e = cc

pub replicas_have : ReplicasHaveWhatWasBrought
replicas_have volume history f known = elim (entries (kept_of volume []) history f known) [ inl root ↦ inl (fresh_known volume f root) | inr by ↦ inr by ]
