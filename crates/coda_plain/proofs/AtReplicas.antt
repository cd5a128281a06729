-- One entry more of a replica keeps the histories in agreement.
use Rattle.std.proofs.Common.{◌≡◌, ℕ, ◌<◌, ◌≤◌, true, cond, List, [], ◌∷◌, ◌++◌, Option, refl, sym, ap, subst, inl, inr}
use Rattle.std.proofs.lemmas.Bool.{eq-eqb, ne_eqb, cases_eq}
use Rattle.coda_fid.specs.declared.fid.Fid.{Fid}
use Rattle.coda_tree.specs.Volume.{has, fresh}
use Rattle.coda_certify.specs.declared.verdict.Verdict.{Verdict}
use Rattle.coda_plain.specs.Histories.{In}
use Rattle.coda_plain.specs.Deeds.{IsMade, course_of}
use Rattle.coda_plain.specs.Objects.{nodes_in}
use Rattle.coda_plain.specs.Decisions.{ReplicaEntry, Decided, Resolved, Last, with_last, no_lasts, Kept, kept_after, kept_of, last_of, nodes_of, Decision, decision_at, decisions_of, MayDecide, AreDecisions}
use Rattle.coda_plain.specs.Cell.{Letter, Histories}
use Rattle.coda_plain.specs.Sound.{deeds_in, HasFrozen, IsDecided, DoAgree}
use Rattle.coda_plain.proofs.Lists.{left_push, told_more, told_last, told_new, follow_push}
use Rattle.coda_plain.proofs.Chunking.{numbered, spans_in}
use Rattle.coda_plain.proofs.Holding.{has_decided}
use Rattle.coda_plain.proofs.Places.{IsGrown, at_grown}

-- what a replica decides was frozen for it, and what it takes over is kept by replicas
abbrev pub IsMet : Histories → ℕ → ℕ → ReplicaEntry → Type 0
IsMet h server volume (Decided client number span) = HasFrozen h client volume number server span
IsMet h server volume (Resolved objects lasts) =
    ((client : ℕ) → (other : ℕ) × (lasts client ≡ last_of volume (h.replicas other volume) client))
    × ((fid : Fid) → has (nodes_in objects) fid ≡ true → (other : ℕ) × (has (nodes_of volume (h.replicas other volume)) fid ≡ true))

pub kept_push : (volume : ℕ) (es : List ReplicaEntry) (e : ReplicaEntry) → kept_of volume (es ++ e ∷ []) ≡ kept_after (kept_of volume es) e
kept_push volume es e = left_push kept_after (record { nodes = (fresh volume).nodes; lasts = no_lasts }) es e

last_push : (volume : ℕ) (es : List ReplicaEntry) (e : ReplicaEntry) (c : ℕ) → last_of volume (es ++ e ∷ []) c ≡ (kept_after (kept_of volume es) e).lasts c
last_push volume es e c = ap (λ (k : Kept). k.lasts c) (kept_push volume es e)

-- the last of this client is the next one, and those of others are as they were
pub with_last_at : (lasts : ℕ → Last) (client : ℕ) (last : Last) (c : ℕ) (P : Last → Type 0) → (c ≡ client → P last) → ((c ≡ client → ⊥) → P (lasts c)) → P (with_last lasts client last c)
with_last_at lasts client last c P new old = elim (cases_eq c client) [
  | inl same ↦ subst (λ b. P (cond b last (lasts c))) (sym (eq-eqb c client same)) (new same)
  | inr other ↦ subst (λ b. P (cond b last (lasts c))) (sym (ne_eqb c client other)) (old other)
]

module _ (h : Histories) (pool : ℕ → Option Letter) (a : DoAgree h pool) (replicas : ℕ → ℕ → List ReplicaEntry) (server volume : ℕ) (entry : ReplicaEntry)
    (grown : (s v : ℕ) → IsGrown ((s ≡ server) × (v ≡ volume)) entry (h.replicas s v) (replicas s v))
    (may : MayDecide volume (h.replicas server volume) entry) (met : IsMet h server volume entry) where
  at : (s v : ℕ) (P : List ReplicaEntry → Type 0) → P (h.replicas s v) → ((s ≡ server) × (v ≡ volume) → P (h.replicas s v ++ entry ∷ [])) → P (replicas s v)
  at s v P old new = at_grown ((s ≡ server) × (v ≡ volume)) entry (h.replicas s v) (replicas s v) P (grown s v) old new

  may_at : (s v : ℕ) → (s ≡ server) × (v ≡ volume) → MayDecide v (h.replicas s v) entry
  may_at s v here = subst (λ n. MayDecide v (h.replicas n v) entry) (sym here.0) (subst (λ n. MayDecide n (h.replicas server n) entry) (sym here.1) may)

  met_at : (s v : ℕ) → (s ≡ server) × (v ≡ volume) → IsMet h s v entry
  met_at s v here = subst (λ n. IsMet h n v entry) (sym here.0) (subst (λ n. IsMet h server n entry) (sym here.1) met)

  still_in : (s v : ℕ) (d : Decision) → In d (decisions_of v (h.replicas s v)) → In d (decisions_of v (replicas s v))
  still_in s v d i = at s v (λ es. In d (decisions_of v es)) i (λ here. told_more (decision_at v) (h.replicas s v) entry d i)

  still : (v c n : ℕ) (verdict : Verdict) → IsDecided h.replicas v c n verdict → IsDecided replicas v c n verdict
  still v c n verdict d = record { server = d.server; by = d.by; there = still_in d.server v d.by d.there; client_is = d.client_is; number_is = d.number_is; verdict_is = d.verdict_is }

-- a new decision is of a frozen chunk
frozen_at : (h : Histories) (s v : ℕ) (past : List ReplicaEntry) (entry : ReplicaEntry) (d : Decision) → IsMet h s v entry → In d (decision_at v past entry) → HasFrozen h d.client v d.number s d.span
frozen_at h s v past (Decided client number span) d met (inl e) = subst (λ (x : Decision). HasFrozen h x.client v x.number s x.span) (sym e) met
frozen_at h s v past (Decided client number span) d met (inr none) = absurd none
frozen_at h s v past (Resolved nodes lasts) d met i = absurd i

-- the last number is that of a frozen chunk
reached_at : (h : Histories) (pool : ℕ → Option Letter) (a : DoAgree h pool) (s v c : ℕ) (entry : ReplicaEntry) → IsMet h s v entry → ((kept_after (kept_of v (h.replicas s v)) entry).lasts c).number ≤ (course_of (deeds_in h c v)).chunks
reached_at h pool a s v c (Decided client number span) met =
    with_last_at (last_of v (h.replicas s v)) client _ c (λ last. last.number ≤ (course_of (deeds_in h c v)).chunks)
    (λ e. subst (λ n. number ≤ (course_of (deeds_in h n v)).chunks) (sym e) ((numbered (deeds_in h client v) (a.lawful client v)).most (record { number = number; home = s; span = span }) met)) (λ other. a.reached s v c)
reached_at h pool a s v c (Resolved nodes lasts) met =
    let m = met.0 c in
    subst (λ (last : Last). last.number ≤ (course_of (deeds_in h c v)).chunks) (sym m.1) (a.reached m.0 v c)

-- what is held was made
held_at : (h : Histories) (pool : ℕ → Option Letter) (a : DoAgree h pool) (s v : ℕ) (entry : ReplicaEntry) (fid : Fid) → IsMet h s v entry → has (kept_after (kept_of v (h.replicas s v)) entry).nodes fid ≡ true → IsMade v (deeds_in h fid.vnode v) fid
held_at h pool a s v (Decided client number span) fid met m = elim (has_decided (nodes_of v (h.replicas s v)) client span fid m) [
  | inl old ↦ a.held s v fid old
  | inr by ↦ a.made client v by.0 (spans_in (deeds_in h client v) (a.lawful client v) (record { number = number; home = s; span = span }) met by.0 by.1) fid by.2
]
held_at h pool a s v (Resolved nodes lasts) fid met m = let from = met.1 fid m in a.held from.0 v fid from.1

-- its verdict is that of a decision
abbrev IsKeptIn : (ℕ → ℕ → List ReplicaEntry) → ℕ → ℕ → Last → Type 0
IsKeptIn replicas v c last = 0 < last.number → IsDecided replicas v c last.number last.verdict

kept_at : (h : Histories) (pool : ℕ → Option Letter) (a : DoAgree h pool) (replicas : ℕ → ℕ → List ReplicaEntry) (s v c : ℕ) (entry : ReplicaEntry) → IsMet h s v entry
    → ((n : ℕ) (verdict : Verdict) → IsDecided h.replicas v c n verdict → IsDecided replicas v c n verdict)
    → ((d : Decision) → In d (decision_at v (h.replicas s v) entry) → In d (decisions_of v (replicas s v)))
    → IsKeptIn replicas v c ((kept_after (kept_of v (h.replicas s v)) entry).lasts c)
kept_at h pool a replicas s v c (Decided client number span) met more new =
    let d : Decision = record { client = client; number = number; span = span; before = nodes_of v (h.replicas s v) } in
    with_last_at (last_of v (h.replicas s v)) client _ c (IsKeptIn replicas v c)
    (λ e some. record { server = s; by = d; there = new d (inl refl); client_is = sym e; number_is = refl; verdict_is = refl })
    (λ other some. more _ _ (a.kept s v c some))
kept_at h pool a replicas s v c (Resolved nodes lasts) met more new =
    let m = met.0 c in
    subst (IsKeptIn replicas v c) (sym m.1) (λ some. more _ _ (a.kept m.0 v c some))

module _ (h : Histories) (pool : ℕ → Option Letter) (a : DoAgree h pool) (replicas : ℕ → ℕ → List ReplicaEntry) (server volume : ℕ) (entry : ReplicaEntry)
    (grown : (s v : ℕ) → IsGrown ((s ≡ server) × (v ≡ volume)) entry (h.replicas s v) (replicas s v))
    (may : MayDecide volume (h.replicas server volume) entry) (met : IsMet h server volume entry) where
  pub agree_replica : DoAgree (record h { replicas = replicas }) pool
  agree_replica =
      let mays = may_at h pool a replicas server volume entry grown may met in
      let mets = met_at h pool a replicas server volume entry grown may met in
      let stays = still h pool a replicas server volume entry grown may met in
      let place = at h pool a replicas server volume entry grown may met in
      record {
        lawful = a.lawful;
        numbered = a.numbered;
        made = a.made;
        ruled = λ s v. place s v (AreDecisions v) (a.ruled s v) (λ here. follow_push (MayDecide v) (h.replicas s v) entry (a.ruled s v) (mays s v here));
        held = λ s v fid. place s v (λ es. has (nodes_of v es) fid ≡ true → IsMade v (deeds_in h fid.vnode v) fid) (a.held s v fid)
            (λ here m. held_at h pool a s v entry fid (mets s v here) (subst (λ (k : Kept). has k.nodes fid ≡ true) (kept_push v (h.replicas s v) entry) m));
        frozen = λ s v d. place s v (λ es. In d (decisions_of v es) → HasFrozen h d.client v d.number s d.span) (a.frozen s v d)
            (λ here i. elim (told_last (decision_at v) (h.replicas s v) entry d i) [
              | inl old ↦ a.frozen s v d old
              | inr new ↦ frozen_at h s v (h.replicas s v) entry d (mets s v here) new
            ]);
        reached = λ s v c. place s v (λ es. (last_of v es c).number ≤ (course_of (deeds_in h c v)).chunks) (a.reached s v c)
            (λ here. subst (λ (last : Last). last.number ≤ (course_of (deeds_in h c v)).chunks) (sym (last_push v (h.replicas s v) entry c)) (reached_at h pool a s v c entry (mets s v here)));
        kept = λ s v c. elim (grown s v) as (λ g. IsKeptIn replicas v c (last_of v (replicas s v) c)) [
          | inl same ↦ subst (λ (es : List ReplicaEntry). IsKeptIn replicas v c (last_of v es c)) (sym same) (λ some. stays v c _ _ (a.kept s v c some))
          | inr more ↦ subst (λ (es : List ReplicaEntry). IsKeptIn replicas v c (last_of v es c)) (sym more.1) (subst (IsKeptIn replicas v c) (sym (last_push v (h.replicas s v) entry c))
              (kept_at h pool a replicas s v c entry (mets s v more.0) (stays v c)
              (λ d i. subst (λ (es : List ReplicaEntry). In d (decisions_of v es)) (sym more.1) (told_new (decision_at v) (h.replicas s v) entry d i))))
        ];
        settled = λ c v s i. elim (a.settled c v s i) [ inl decided ↦ inl (stays v c s.number s.verdict decided) | inr told ↦ inr told ];
        sent = a.sent;
        answered = λ m s c v n verdict e. stays v c n verdict (a.answered m s c v n verdict e);
      }
