-- A chunk that a replica decides keeps the replicas of its volume one group.
use Rattle.std.proofs.Common.{◌≡◌, ◌≢◌, ℕ, ◌==◌, Bool, true, false, cond, ◌||◌, List, [], ◌∷◌, ◌++◌, Ok, Err, refl}
use Rattle.std.proofs.Common.{sym, ap, ◌∙◌, subst, inl, inr, ◌⊎◌}
use Rattle.std.proofs.lemmas.Bool.{eq-eqb, ne_eqb, cases_eq, false≢true}
use Rattle.coda_fid.specs.Fid.{root_of}
use Rattle.coda_fid.specs.declared.fid.Fid.{Fid}
use Rattle.coda_fid.specs.declared.op.Record.{Record}
use Rattle.coda_tree.specs.Volume.{Nodes, IsVolume, is_at_fid}
use Rattle.coda_certify.specs.Replay.{Replayed}
use Rattle.coda_certify.specs.Verdicts.{verdict_of}
use Rattle.coda_cancel.specs.Dropping.{creates}
use Rattle.coda_cml.specs.Steady.{any_record}
use Rattle.coda_cml.proofs.volumes.Applying.{Applies, applies_from_replay}
use Rattle.coda_resolve.specs.Placement.{IsIn}
use Rattle.coda_lineage.specs.Deeds.{makes, IsDecision}
use Rattle.coda_lineage.specs.Lineage.{Group, IsDecided}
use Rattle.coda_plain.specs.Histories.{In, left_by}
use Rattle.coda_plain.specs.Objects.{Objects, nodes_in}
use Rattle.coda_plain.specs.Decisions.{Decided, sent_of, decision, nodes_of, Decision, decision_at, decisions_of}
use Rattle.coda_plain.specs.Decisions.{AreDecisions}
use Rattle.coda_plain.specs.Cell.{Histories}
use Rattle.coda_plain.specs.Promises.{Decides}
use Rattle.coda_plain.proofs.Lists.{told_more, told_new, some_record}
use Rattle.coda_plain.proofs.Volumes.{volumes, sent_decides}
use Rattle.coda_group.specs.Holdings.{held_by, objects_left, replica_objects}
use Rattle.coda_group.specs.Groups.{holdings, IsCreatedByChunk, IsReplica, IsOneGroup}
use Rattle.coda_group.proofs.Mapping.{nodes_held_by, is_decision, holding, objects_push}
use Rattle.coda_group.proofs.Making.{made_at, AreNew}
use Rattle.coda_group.proofs.Folding.{created_sent}
use Rattle.coda_group.proofs.OneGroup.{IsStanding, decided_stands, made_in, stands, known, one_group}

-- ---- record by record

-- what was made, and what these make
abbrev pub made_more : (Fid → Bool) → List Record → Fid → Bool
made_more made [] = made
made_more made (rec ∷ recs) = made_more (λ f. made f || is_at_fid (makes rec.op) f) recs

or_true : (a b : Bool) → (a || b) ≡ true → (a ≡ true) ⊎ (b ≡ true)
or_true true b e = inl refl
or_true false b e = inr e

first_true : (a b : Bool) → a ≡ true → (a || b) ≡ true
first_true true b e = refl
first_true false b e = absurd (false≢true e)

second_true : (a b : Bool) → b ≡ true → (a || b) ≡ true
second_true true b e = refl
second_true false b e = e

made_before : (made : Fid → Bool) (recs : List Record) (f : Fid) → made_more made recs f ≡ true
    → (made f ≡ true) ⊎ (any_record (creates f) recs ≡ true)
made_before made [] f e = inl e
made_before made (rec ∷ recs) f e = elim (made_before (λ f. made f || is_at_fid (makes rec.op) f) recs f e) [
  | inl here ↦ elim (or_true (made f) (is_at_fid (makes rec.op) f) here) [
    | inl old ↦ inl old
    | inr new ↦ inr (first_true (creates f rec.op) (any_record (creates f) recs) (sym (made_at rec.op f) ∙ new))
  ]
  | inr later ↦ inr (second_true (creates f rec.op) (any_record (creates f) recs) later)
]

-- the replicas, with another one at a server
abbrev pub put_at : (ℕ → Objects) → ℕ → Objects → ℕ → Objects
put_at holds server objects s = cond (s == server) objects (holds s)

pub put_here : (holds : ℕ → Objects) (server : ℕ) (objects : Objects) → put_at holds server objects server ≡ objects
put_here holds server objects = ap (λ b. cond b objects (holds server)) (eq-eqb server server refl)

pub put_else : (holds : ℕ → Objects) (server : ℕ) (objects : Objects) (s : ℕ) → s ≢ server
    → put_at holds server objects s ≡ holds s
put_else holds server objects s ne = ap (λ b. cond b objects (holds s)) (ne_eqb s server ne)

module _ (root : Fid) (servers : List ℕ) (server client : ℕ) (at : IsIn server servers) where
  pub stands_by : (recs : List Record) (holds : ℕ → Objects) (made : Fid → Bool) (m : Nodes)
      → IsStanding root servers (record { holds = holds; made = made })
      → Applies client (nodes_in (holds server)) recs m → AreNew made recs
      → (final : ℕ → Objects) → ((s : ℕ) → s ≢ server → final s ≡ holds s) → final server ≡ left_by
      (held_by server client) (holds server) recs → IsStanding root servers
      (record { holds = final; made = made_more made recs })
  stands_by [] holds made m reach a new final others here =
      let same : (s : ℕ) → holds s ≡ final s = λ s. elim (cases_eq s server) [
        | inl e ↦ ap holds e ∙ sym here ∙ ap final (sym e)
        | inr ne ↦ sym (others s ne)
      ] in
      let is : record { holds = holds; made = made } ≡ record { holds = final; made = made } = λ i. record { holds = λ s. same s i; made = made } in
      subst (λ (g : Group). IsStanding root servers g) is reach
  stands_by (rec ∷ recs) holds made m reach a new final others here =
      let x : Objects = held_by server client (holds server) rec in
      let mid : ℕ → Objects = put_at holds server x in
      let before : Group = record { holds = holds; made = made } in
      let after : Group = record { holds = mid; made = λ f. made f || is_at_fid (makes rec.op) f } in
      let here_mid : mid server ≡ x = put_here holds server x in
      let step : IsDecided server client rec before after = record {
        decides =
            subst (λ o. IsDecision server client rec (holds server) o) (sym here_mid)
            (is_decision server client (holds server) rec a.0);
        others = λ s ne. put_else holds server x s ne;
        new = new.0;
        made = λ f. refl;
      } in
      stands_by recs mid (λ f. made f || is_at_fid (makes rec.op) f) m
      (decided_stands root servers before reach server client rec at after step)
      (subst (λ o. Applies client (nodes_in o) recs m) (sym here_mid)
      (subst (λ n. Applies client n recs m) (sym (nodes_held_by server client (holds server) rec)) a.1))
      new.1 final (λ s ne. others s ne ∙ sym (put_else holds server x s ne))
      (here ∙ ap (λ o. left_by (held_by server client) o recs) (sym here_mid))

-- ---- histories

pub created_stays : (h h' : Histories) (volume : ℕ) (f : Fid)
    → ((s : ℕ) (d : Decision) → Decides h s volume d → Decides h' s volume d) → IsCreatedByChunk h volume f
    → IsCreatedByChunk h' volume f
created_stays h h' volume f more it =
    record {
      server = it.server;
      by = it.by;
      there = more it.server it.by it.there;
      applied = it.applied;
      rec = it.rec;
      in_span = it.in_span;
      creates_it = it.creates_it;
    }

-- replicas that hold the same are the same group
pub group_same : (servers : List ℕ) (h h' : Histories) (volume : ℕ)
    → ((s : ℕ) → holdings h volume s ≡ holdings h' volume s)
    → ((s : ℕ) (d : Decision) → Decides h s volume d → Decides h' s volume d)
    → IsOneGroup h servers volume → IsOneGroup h' servers volume
group_same servers h h' volume same more g = record {
  kind = g.kind;
  top = g.top;
  each = λ s i.
      let was = g.each s i in
      subst (IsReplica h' volume g.kind) (same s) (record {
        tree = was.tree;
        kinds = was.kinds;
        rings = was.rings;
        known = λ f e. elim (was.known f e) [ inl root ↦ inl root | inr created ↦ inr (created_stays h h' volume f more created) ];
      });
}

module _ (servers : List ℕ) (h h' : Histories) (volume server client number : ℕ) (span : List Record) (g : IsOneGroup h servers volume) (at : IsIn server servers) (law : AreDecisions volume (h.replicas server volume))
    (grown : h'.replicas server volume ≡ h.replicas server volume ++ Decided client number span ∷ [])
    (others : (s : ℕ) → s ≢ server → h'.replicas s volume ≡ h.replicas s volume)
    (new : (made : Fid → Bool) → ((f : Fid) → made f ≡ true → (f ≡ root_of volume) ⊎ IsCreatedByChunk h volume f)
    → AreNew made (sent_of span)) where
  abbrev objs : Objects
  objs = holdings h volume server

  there : nodes_of volume (h.replicas server volume) ≡ nodes_in objs
  there = holding server volume (h.replicas server volume) law

  is_volume : IsVolume (root_of volume) (nodes_in objs)
  is_volume = subst (IsVolume (root_of volume)) there (volumes volume (h.replicas server volume) law).0

  decides_more : (s : ℕ) (d : Decision) → Decides h s volume d → Decides h' s volume d
  decides_more s d i = elim (cases_eq s server) [
    | inl e ↦ subst (λ n. In d (decisions_of volume (h'.replicas n volume))) (sym e) (subst (λ es. In d (decisions_of volume es)) (sym grown)
        (told_more (decision_at volume) (h.replicas server volume) (Decided client number span) d
        (subst (λ n. In d (decisions_of volume (h.replicas n volume))) e i)))
    | inr ne ↦ subst (λ es. In d (decisions_of volume es)) (sym (others s ne)) i
  ]

  holds_then : (r : Replayed) → decision (nodes_in objs) client span ≡ r
      → holdings h' volume server ≡ objects_left server client (sent_of span) objs r
  holds_then r e =
      ap (replica_objects server volume) grown ∙ objects_push server volume (h.replicas server volume)
      (Decided client number span) ∙ ap (objects_left server client (sent_of span) objs) e

  holds_else : (s : ℕ) → s ≢ server → holdings h' volume s ≡ holdings h volume s
  holds_else s ne = ap (replica_objects s volume) (others s ne)

  abbrev it : Decision
  it = record { client = client; number = number; span = span; before = nodes_of volume (h.replicas server volume) }

  it_there : Decides h' server volume it
  it_there =
      subst (λ es. In it (decisions_of volume es)) (sym grown)
      (told_new (decision_at volume) (h.replicas server volume) (Decided client number span) it (inl refl))

  by_result : (r : Replayed) → decision (nodes_in objs) client span ≡ r → IsOneGroup h' servers volume
  by_result (Ok m) e =
      let made = made_in h servers volume in
      let first = known h servers volume g in
      one_group h' servers volume (made_more made (sent_of span))
      (stands_by (root_of volume) servers server client at (sent_of span) (holdings h volume) made m
      (stands h servers volume g)
      (applies_from_replay client (nodes_in objs) m (sent_of span)
      (sym (sent_decides (root_of volume) (nodes_in objs) client span is_volume) ∙ e))
      (new made first) (holdings h' volume) holds_else (holds_then (Ok m) e))
      (λ f is. elim (made_before made (sent_of span) f is) [
        | inl old ↦ elim (first f old) [ inl root ↦ inl root | inr created ↦ inr (created_stays h h' volume f decides_more created) ]
        | inr made_now ↦ (
            let by = some_record (creates f) span (created_sent f span made_now) in
            inr (record {
              server = server;
              by = it;
              there = it_there;
              applied = ap (λ n. verdict_of (decision n client span)) there ∙ ap verdict_of e;
              rec = by.0;
              in_span = by.1;
              creates_it = by.2;
            }))
      ])
  by_result (Err why) e = group_same servers h h' volume (λ s. elim (cases_eq s server) [
    | inl same ↦ ap (holdings h volume) same ∙ sym (holds_then (Err why) e) ∙ ap (holdings h' volume) (sym same)
    | inr ne ↦ sym (holds_else s ne)
  ]) decides_more g

  -- the replicas are one group behind the decision
  pub decided_group : IsOneGroup h' servers volume
  decided_group = by_result (decision (nodes_in objs) client span) refl
