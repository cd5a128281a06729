-- A repair, installed at one replica after the other.
use Rattle.std.proofs.Common.{◌≡◌, ℕ, ◌≤◌, Bool, true, false, List, [], ◌∷◌, Option, Some, None, is_some, map, refl}
use Rattle.std.proofs.Common.{sym, ap, ◌∙◌, subst, inl, inr, ◌⊎◌, arith}
use Rattle.std.specs.FinMap as finmap
use Rattle.std.proofs.lemmas.Bool.{false≢true, cases_Bool, cases_eq}
use Rattle.coda_fid.specs.Fid.{root_of}
use Rattle.coda_fid.specs.declared.fid.Fid.{Fid}
use Rattle.coda_tree.specs.Bindings.{Name}
use Rattle.coda_tree.specs.Tree.{IsBelow, itself, under}
use Rattle.coda_tree.specs.Volume.{IsVolume}
use Rattle.coda_reslog.specs.declared.change.Held.{Held}
use Rattle.coda_resolve.specs.Resolution.{copies_at, has_in, child_in, IsTreeView}
use Rattle.coda_resolve.specs.Placement.{IsIn}
use Rattle.coda_lineage.specs.Lineage.{Group, AreAmong, IsRepaired}
use Rattle.coda_lineage.specs.Repairs.{LeadsAlike, spared, IsRepairedAt}
use Rattle.coda_plain.specs.Histories.{In}
use Rattle.coda_plain.specs.Objects.{Objects, nodes_in}
use Rattle.coda_plain.specs.Decisions.{Resolved, Last, Decision, decision_at, decisions_of}
use Rattle.coda_plain.specs.Cell.{Histories, PlainCell, Joins, found_in}
use Rattle.coda_plain.specs.Promises.{Decides}
use Rattle.coda_plain.proofs.Lists.{told_more}
use Rattle.coda_plain.proofs.Soundness.{none_joins, found_up}
use Rattle.coda_group.specs.Holdings.{replica_objects}
use Rattle.coda_group.specs.Groups.{holdings, IsOneGroup}
use Rattle.coda_group.specs.Steps.{history_at, objects_at, views_at, last_at, Install, IsRepairOf, MayRepair}
use Rattle.coda_group.specs.Sound.{IsGroupSound}
use Rattle.coda_group.proofs.Mapping.{objects_push}
use Rattle.coda_group.proofs.OneGroup.{repaired_stands, made_in, group_of, stands, known, one_group}
use Rattle.coda_group.proofs.Deciding.{put_at, put_here, put_else, created_stays}
use Rattle.coda_group.proofs.Volumes.{standing_volume}
use Rattle.coda_group.proofs.Installing.{IsBehind, IsDone, at_start, install_all}

-- ---- what is repaired is there

-- where names lead is there
leads_there : (root : Fid) (a b : Objects) → IsTreeView root a → (d : Fid) (names : List Name) (f : Fid)
    → LeadsAlike a b d names f → has_in a d ≡ true → has_in a f ≡ true
leads_there root a b tree d [] f leads here = ap (has_in a) leads ∙ here
leads_there root a b tree d (n ∷ names) f leads here =
    leads_there root a b tree leads.0 names f leads.1.1.1 (tree.there d n leads.0 leads.1.0)

below_there : (root : Fid) (a : Objects) → IsTreeView root a → (g f : Fid) → has_in a g ≡ true
    → IsBelow (child_in a) g f → has_in a f ≡ true
below_there root a tree g f here (itself h e) = ap (has_in a) e ∙ here
below_there root a tree g f here (under d n h child below) = tree.there d n f child

spared_some : (subtree : Fid → Bool) (top : Fid) (o : Option Held) → is_some (spared subtree top o) ≡ is_some o
spared_some subtree top None = refl
spared_some subtree top (Some held) = refl

some_is : (o : Option Held) → is_some o ≡ true → (held : Held) × (o ≡ Some held)
some_is None e = absurd (false≢true e)
some_is (Some held) e = (held, refl)

module _ (servers : ℕ → List ℕ) (start : PlainCell) (gs : IsGroupSound servers start) (volume source : ℕ) (names : List Name) (some : List ℕ) (lasts : ℕ → ℕ → Last) (installs : List Install) (failing : Option Install)
    (may : MayRepair servers start volume source names some lasts installs failing) where
  abbrev root : Fid
  root = root_of volume

  abbrev now : IsOneGroup (found_in start none_joins) (servers volume) volume
  now = (gs.stand none_joins).groups volume

  abbrev Left : ℕ → Objects → Type 0
  Left s o = IsRepairOf start volume source names some may.repair s o

  -- ---- a step of the group

  views_same : (held : ℕ → Objects) → ((s : ℕ) → IsIn s some → objects_at start volume s ≡ held s) → (list : List ℕ)
      → AreAmong list some → views_at start volume list ≡ map held list
  views_same held same [] sub = refl
  views_same held same (s ∷ list) sub =
      λ i. same s (sub s (inl refl)) i ∷ views_same held same list (λ t j. sub t (inr j)) i

  as_step : (made : Fid → Bool) (held after : ℕ → Objects)
      → ((s : ℕ) → IsIn s some → objects_at start volume s ≡ held s)
      → ((s : ℕ) → (after s ≡ held s) ⊎ (IsIn s some × Left s (after s)))
      → IsRepaired root some source names (record { holds = held; made = made }) (record { holds = after; made = made })
  as_step made held after same each =
      let r = may.repair in
      let at = same source may.source_in in
      record {
        top = r.top;
        leads =
            λ s i. subst (λ x. LeadsAlike (held source) x root names r.top) (same s i)
            (subst (λ x. LeadsAlike x (objects_at start volume s) root names r.top) at (r.leads s i));
        subtree = r.subtree;
        below = λ f. (
          (λ e. subst (λ x. IsBelow (child_in x) r.top f) at ((r.below f).0 e)),
          (λ w. (r.below f).1 (subst (λ x. IsBelow (child_in x) r.top f) (sym at) w)),
        );
        each = λ s. elim (each s) [
          | inl stays ↦ inl stays
          | inr left ↦ inr (
            left.0,
            subst (λ vs. IsRepairedAt r.subtree r.top source (copies_at vs) (held source) (held s) (after s))
                (views_same held same some (λ t j. j))
                (subst (λ x. IsRepairedAt r.subtree r.top source (copies_at (views_at start volume some)) x (held s)
                (after s)) at
                (subst (λ x. IsRepairedAt r.subtree r.top source (copies_at (views_at start volume some))
                (objects_at start volume source) x (after s)) (same s left.0) left.1)),
          )
        ];
        made = refl;
      }

  -- what is left at a replica is a volume
  pub left_volume : (s : ℕ) (o : Objects) → IsIn s some → Left s o → IsVolume root (nodes_in o)
  left_volume s o i left =
      let h = found_in start none_joins in
      let before : Group = group_of h (servers volume) volume in
      let put : ℕ → Objects = put_at (objects_at start volume) s o in
      let after : Group = record { holds = put; made = before.made } in
      let here : put s ≡ o = put_here (objects_at start volume) s o in
      let step = as_step before.made (objects_at start volume) put (λ t j. refl) (λ t. elim (cases_eq t s) [
        | inl same ↦ inr (subst (λ n. IsIn n some) (sym same) i, subst (λ n. Left n (put n)) (sym same) (subst (λ x. Left s x) (sym here) left))
        | inr ne ↦ inl (put_else (objects_at start volume) s o t ne)
      ]) in
      subst (λ x. IsVolume root (nodes_in x)) here
      (standing_volume (servers volume) volume after
      (repaired_stands root (servers volume) before (stands h (servers volume) volume now) some may.among source
      may.source_in names after step) s (may.among s i))

  pub left_last : (s client : ℕ) → IsIn s some → (last_at start volume s client).number ≤ (lasts s client).number
  left_last s client i = let own = ap (λ (l : Last). l.number) (may.own s client) in omega (arith, own)

  pub left_from : (s client : ℕ) → IsIn s some → (t : ℕ) × (IsIn t some × ((lasts s client ≡ last_at start volume t client) × (lasts s client ≡ lasts t client)))
  left_from s client i = (s, (i, (may.own s client, refl)))

  -- ---- what is left at a replica stands somewhere, and stays there

  abbrev IsHeldStill : Fid → Type 0
  IsHeldStill f =
      (t : ℕ) × (IsIn t some × ((has_in (objects_at start volume t) f ≡ true)
      × ((p : Objects) → Left t p → has_in p f ≡ true)))

  source_tree : IsTreeView root (objects_at start volume source)
  source_tree = (now.each source (may.among source may.source_in)).tree

  -- what is repaired the source has
  pub source_has : (f : Fid) → IsBelow (child_in (objects_at start volume source)) may.repair.top f
      → (held : Held) × (finmap.get (objects_at start volume source) f ≡ Some held)
  source_has f below =
      let right = objects_at start volume source in
      let top = leads_there root right right source_tree root names may.repair.top (may.repair.leads source may.source_in) source_tree.rooted in
      some_is (finmap.get right f) (below_there root right source_tree may.repair.top f top below)

  -- and keeps
  below_held : (f : Fid) → may.repair.subtree f ≡ true → IsHeldStill f
  below_held f below =
      let held = source_has f ((may.repair.below f).0 below) in
      (source, (may.source_in, (ap is_some held.1, λ p left. ap is_some (left.put f held.0 below held.1))))

  module _ (s : ℕ) (o : Objects) (f : Fid) (left : Left s o) (out : may.repair.subtree f ≡ false) (e : has_in o f ≡ true) where
    not_below : left.below f ≡ false
    not_below = elim (cases_Bool (left.below f)) [
      | inl below ↦ absurd (false≢true (sym (ap is_some (left.goes f out below)) ∙ e))
      | inr none ↦ none
    ]

    abbrev spared_is : is_some (spared may.repair.subtree may.repair.top (finmap.get (objects_at start volume s) f)) ≡ has_in (objects_at start volume s) f
    spared_is = spared_some may.repair.subtree may.repair.top (finmap.get (objects_at start volume s) f)

    -- all else it had
    else_had : has_in (objects_at start volume s) f ≡ true
    else_had = sym spared_is ∙ sym (ap is_some (left.stays f not_below)) ∙ e

    -- and has, whatever is left there
    else_stays : (p : Objects) → Left s p → has_in p f ≡ true
    else_stays p other = elim (cases_Bool (other.below f)) [
      | inl below ↦ absurd (false≢true (sym not_below ∙ (left.is_below f).1 ((other.is_below f).0 below)))
      | inr none ↦ ap is_some (other.stays f none) ∙ spared_is ∙ else_had
    ]

  pub left_held : (s : ℕ) (o : Objects) (f : Fid) → IsIn s some → Left s o → has_in o f ≡ true → IsHeldStill f
  left_held s o f i left e = elim (cases_Bool (may.repair.subtree f)) [
    | inl below ↦ below_held f below
    | inr out ↦ (s, (i, (else_had s o f left out e, else_stays s o f left out e)))
  ]

  -- ---- it is installed

  abbrev pub IsRepairBehind : PlainCell → Type 0
  IsRepairBehind cell =
      IsBehind start gs.sound volume some lasts (IsRepairOf start volume source names some may.repair) may.up
      left_volume left_last left_from left_held cell

  abbrev pub IsRepairDone : Type 0
  IsRepairDone =
      IsDone start gs.sound volume some lasts (IsRepairOf start volume source names some may.repair) may.up
      left_volume left_last left_from left_held start installs failing

  pub repair_done : IsRepairDone
  repair_done =
      install_all start gs.sound volume some lasts (IsRepairOf start volume source names some may.repair) may.up
      left_volume left_last left_from left_held installs failing start
      (at_start start gs.sound volume some lasts (IsRepairOf start volume source names some may.repair) may.up
      left_volume left_last left_from left_held) gs.sound may.up may.installed

  -- ---- the replicas are one group behind it

  start_found : (joins : Joins) (s : ℕ) → IsIn s some
      → (found_in start joins).replicas s volume ≡ history_at start volume s
  start_found joins s i =
      found_up (joins.replicas s volume) (start.replicas s volume) (gs.sound.replicas_up s volume (may.up s i))

  module _ (cell : PlainCell) (b : IsRepairBehind cell) (joins : Joins) where
    abbrev h : Histories
    h = found_in start joins

    abbrev later : Histories
    later = found_in cell joins

    decides_more : (s : ℕ) (d : Decision) → Decides h s volume d → Decides later s volume d
    decides_more s d i = elim (b.each joins s) [
      | inl same ↦ subst (λ es. In d (decisions_of volume es)) (sym same) i
      | inr put ↦ subst (λ es. In d (decisions_of volume es)) (sym put.more) (told_more (decision_at volume) (h.replicas s volume) (Resolved put.objects (lasts s)) d i)
    ]

    holds_or : (s : ℕ)
        → (holdings later volume s ≡ holdings h volume s) ⊎ (IsIn s some × Left s (holdings later volume s))
    holds_or s = elim (b.each joins s) [
      | inl same ↦ inl (ap (replica_objects s volume) same)
      | inr put ↦ inr (put.there, subst (λ o. Left s o) (sym (ap (replica_objects s volume) put.more ∙ objects_push s volume (h.replicas s volume) (Resolved put.objects (lasts s)))) put.left)
    ]

    pub group_repaired : IsOneGroup later (servers volume) volume
    group_repaired =
        let g = (gs.stand joins).groups volume in
        let made = made_in h (servers volume) volume in
        let after : Group = record { holds = holdings later volume; made = made } in
        let step = as_step made (holdings h volume) (holdings later volume) (λ s i. ap (replica_objects s volume) (sym (start_found joins s i))) holds_or in
        one_group later (servers volume) volume made
        (repaired_stands root (servers volume) (group_of h (servers volume) volume)
        (stands h (servers volume) volume g) some may.among source may.source_in names after step)
        (λ f m. elim (known h (servers volume) volume g f m) [ inl is ↦ inl is | inr created ↦ inr (created_stays h later volume f decides_more created) ])
