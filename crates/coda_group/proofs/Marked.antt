-- Behind a resolution what it took up is the same or marked.
use Rattle.std.proofs.Common.{◌≡◌, ◌≢◌, ℕ, true, false, List, [], ◌∷◌, Option, Some, None, refl, ap, ◌∙◌, subst, inl}
use Rattle.std.proofs.Common.{inr}
use Rattle.std.specs.FinMap as finmap
use Rattle.coda_fid.specs.Fid.{root_of}
use Rattle.coda_fid.specs.declared.fid.Fid.{Fid}
use Rattle.coda_tree.specs.declared.node.NodeKind.{NodeKind}
use Rattle.coda_tree.specs.declared.node.NodeKind.TheVariants.{File, Link, Dir}
use Rattle.coda_tree.specs.Bindings.{Name}
use Rattle.coda_tree.specs.Tree.{IsBelow}
use Rattle.coda_reslog.specs.declared.change.Held.{Held}
use Rattle.coda_resolve.specs.declared.why.Why.{Why}
use Rattle.coda_resolve.specs.declared.fate.Fate.{Fate}
use Rattle.coda_resolve.specs.declared.fate.Fate.TheVariants.{Same, Marked, Gone}
use Rattle.coda_resolve.specs.Copies.{is_marked, first_some}
use Rattle.coda_resolve.specs.Settling.{settled_copy, stand_in_by}
use Rattle.coda_resolve.specs.Settled.{IsEverywhere, IsMarkedEverywhere, IsEqualOrMarked}
use Rattle.coda_resolve.specs.Resolution.{Replicas, copies_at, child_in, fate_at, IsTakenUp}
use Rattle.coda_resolve.specs.Placement.{IsIn}
use Rattle.coda_resolve.proofs.There.{taken_up_is_there}
use Rattle.coda_resolve.proofs.Whole.{gone_absent}
use Rattle.coda_plain.specs.Objects.{Objects}
use Rattle.coda_plain.specs.Decisions.{Resolved, Last, Kept, last_of}
use Rattle.coda_plain.specs.Cell.{PlainCell}
use Rattle.coda_plain.proofs.Soundness.{none_joins}
use Rattle.coda_group.specs.Holdings.{replica_objects}
use Rattle.coda_group.specs.Steps.{Install, HasInstall, Resolves, Repairs, IsResolution, IsRepairOf, after_step}
use Rattle.coda_group.specs.Steps.{history_at, objects_at, views_at, last_at, MayResolve, MayRepair}
use Rattle.coda_group.specs.Sound.{IsGroupSound}
use Rattle.coda_group.specs.Laws.{IsInstalledOrKept, ResolvedReplicasAreEqualOrMarked, RepairedAreEqual}
use Rattle.coda_lineage.specs.Repairs.{repaired}
use Rattle.coda_plain.proofs.AtReplicas.{kept_push}
use Rattle.coda_group.proofs.Repairing.{source_has, IsRepairDone, repair_done}
use Rattle.coda_group.proofs.Mapping.{objects_push}
use Rattle.coda_group.proofs.Installing.{grew_away, none_stays}
use Rattle.coda_group.proofs.Resolving.{trees, IsResolutionDone, resolution_done}

-- ---- what is settled is the same or marked

stand_in_marked : (low : Held) (kind : NodeKind) → (stand_in_by low kind).node.marked ≡ true
stand_in_marked low (File content) = refl
stand_in_marked low (Link target) = refl
stand_in_marked low (Dir entries) = refl

settled_marked : (why : Why) (lowest copy : Option Held) → lowest ≢ None
    → is_marked (settled_copy (Marked why) lowest copy) ≡ true
settled_marked why None copy there = absurd (there refl)
settled_marked why (Some low) None there = stand_in_marked low low.node.kind
settled_marked why (Some low) (Some own) there = refl

abbrev list_views : (ℕ → Objects) → List ℕ → Replicas
list_views views [] = []
list_views views (s ∷ list) = views s ∷ list_views views list

module _ (views : ℕ → Objects) (f : Fid) (lowest : Option Held) (fate : Fate) (olds : ℕ → Option Held) where
  all_same : (held : Held) → fate ≡ Same held → (list : List ℕ)
      → ((s : ℕ) → IsIn s list → finmap.get (views s) f ≡ settled_copy fate lowest (olds s))
      → IsEverywhere held (copies_at (list_views views list) f)
  all_same held e [] each = tt
  all_same held e (s ∷ list) each =
      (each s (inl refl) ∙ ap (λ x. settled_copy x lowest (olds s)) e, all_same held e list (λ t i. each t (inr i)))

  all_marked : (why : Why) → fate ≡ Marked why → lowest ≢ None → (list : List ℕ)
      → ((s : ℕ) → IsIn s list → finmap.get (views s) f ≡ settled_copy fate lowest (olds s))
      → IsMarkedEverywhere (copies_at (list_views views list) f)
  all_marked why e there [] each = tt
  all_marked why e there (s ∷ list) each = (
    ap is_marked (each s (inl refl) ∙ ap (λ x. settled_copy x lowest (olds s)) e) ∙ settled_marked why lowest (olds s)
        there,
    all_marked why e there list (λ t i. each t (inr i)),
  )

  equal_or_marked : lowest ≢ None → fate ≢ Gone → (list : List ℕ)
      → ((s : ℕ) → IsIn s list → finmap.get (views s) f ≡ settled_copy fate lowest (olds s))
      → IsEqualOrMarked (copies_at (list_views views list) f)
  equal_or_marked there stays list each = go fate refl
    where
      go : (x : Fate) → fate ≡ x → IsEqualOrMarked (copies_at (list_views views list) f)
      go (Same held) e = inl (held, all_same held e list each)
      go (Marked why) e = inr (all_marked why e there list each)
      go Gone e = absurd (stays e)

views_list : (cell : PlainCell) (volume : ℕ) (part : List ℕ)
    → list_views (objects_at cell volume) part ≡ views_at cell volume part
views_list cell volume [] = refl
views_list cell volume (s ∷ part) = ap (λ l. objects_at cell volume s ∷ l) (views_list cell volume part)

module _ (servers : ℕ → List ℕ) (cell : PlainCell) (volume : ℕ) (some part : List ℕ) (lasts : ℕ → Last) (installs : List Install) (failing : Option Install) (f : Fid) (gs : IsGroupSound servers cell)
    (may : MayResolve servers cell volume some lasts installs failing)
    (left : (server : ℕ) → IsIn server part → IsInstalledOrKept cell volume some lasts installs server)
    (is_taken : IsTakenUp (views_at cell volume some) (root_of volume) f) where
  abbrev final : PlainCell
  final = after_step cell (Resolves volume some lasts installs failing)

  abbrev views : Replicas
  views = views_at cell volume some

  abbrev lowest : Option Held
  lowest = first_some (copies_at views f)

  there : lowest ≢ None
  there =
      taken_up_is_there views (root_of volume) (trees servers cell gs volume some lasts installs failing may).trees f
      is_taken

  stays : fate_at views f ≢ Gone
  stays gone = there (gone_absent (copies_at views f) (copies_at views) lowest gone)

  done : IsResolutionDone servers cell gs volume some lasts installs failing may
  done = resolution_done servers cell gs volume some lasts installs failing may

  each : (s : ℕ) → IsIn s part → finmap.get (objects_at final volume s) f ≡ settled_copy (fate_at views f) lowest (finmap.get (objects_at cell volume s) f)
  each s i = elim (done.behind.each none_joins s) [
    | inl same ↦ elim (left s i) [
      | inl has ↦ absurd (grew_away cell final volume some (λ server. lasts) (IsResolution cell volume some) failing installs may.installed done.moved s has same)
      | inr as_it_is ↦ ap (λ es. finmap.get (replica_objects s volume es) f) same ∙ as_it_is.0.taken f is_taken
    ]
    | inr put ↦ ap (λ o. finmap.get o f) (ap (replica_objects s volume) put.more ∙ objects_push s volume (history_at cell volume s) (Resolved put.objects lasts)) ∙ put.left.taken f is_taken
  ]

  whole : IsEqualOrMarked (copies_at (views_at final volume part) f)
  whole = subst (λ vs. IsEqualOrMarked (copies_at vs f)) (views_list final volume part)
      (equal_or_marked (objects_at final volume) f lowest (fate_at views f)
      (λ s. finmap.get (objects_at cell volume s) f) there stays part each)

lasts_joined : (servers : ℕ → List ℕ) (cell : PlainCell) (volume : ℕ) (some : List ℕ) (lasts : ℕ → Last) (installs : List Install) (failing : Option Install) (server client : ℕ)
    → IsGroupSound servers cell → MayResolve servers cell volume some lasts installs failing
    → IsInstalledOrKept cell volume some lasts installs server → last_at
    (after_step cell (Resolves volume some lasts installs failing)) volume server client ≡ lasts client
lasts_joined servers cell volume some lasts installs failing server client gs may left =
    let final = after_step cell (Resolves volume some lasts installs failing) in
    let done = resolution_done servers cell gs volume some lasts installs failing may in
    elim (done.behind.each none_joins server) [
      | inl same ↦ elim left [
        | inl has ↦ absurd (grew_away cell final volume some (λ s. lasts) (IsResolution cell volume some) failing installs may.installed done.moved server has same)
        | inr as_it_is ↦ ap (λ es. last_of volume es client) same ∙ as_it_is.1 client
      ]
      | inr put ↦ ap (λ es. last_of volume es client) put.more ∙ ap (λ (k : Kept). k.lasts client) (kept_push volume (history_at cell volume server) (Resolved put.objects lasts))
    ]

pub resolved_replicas_are_equal_or_marked : ResolvedReplicasAreEqualOrMarked
resolved_replicas_are_equal_or_marked = record {
  objects =
      λ servers cell volume some part lasts installs failing f gs may sub left is_taken. whole servers cell volume
      some part lasts installs failing f gs may left is_taken;
  lasts = lasts_joined;
}

-- ---- a repair

module _ (servers : ℕ → List ℕ) (cell : PlainCell) (volume source : ℕ) (names : List Name) (some part : List ℕ) (lasts : ℕ → ℕ → Last) (installs : List Install) (failing : Option Install) (gs : IsGroupSound servers cell)
    (may : MayRepair servers cell volume source names some lasts installs failing)
    (has : (server : ℕ) → IsIn server part → HasInstall installs server) (f : Fid)
    (below : IsBelow (child_in (objects_at cell volume source)) may.repair.top f) where
  abbrev last : PlainCell
  last = after_step cell (Repairs volume source names some lasts installs failing)

  held : (held : Held) × (finmap.get (objects_at cell volume source) f ≡ Some held)
  held = source_has servers cell gs volume source names some lasts installs failing may f below

  abbrev is : Held
  is = repaired source (copies_at (views_at cell volume some) f) held.0

  repair : IsRepairDone servers cell gs volume source names some lasts installs failing may
  repair = repair_done servers cell gs volume source names some lasts installs failing may

  there_is : (s : ℕ) → IsIn s part → finmap.get (objects_at last volume s) f ≡ Some is
  there_is s i = elim (repair.behind.each none_joins s) [
    | inl same ↦ absurd (grew_away cell last volume some lasts (IsRepairOf cell volume source names some may.repair) failing installs may.installed repair.moved s (has s i) same)
    | inr put ↦ ap (λ o. finmap.get o f) (ap (replica_objects s volume) put.more ∙ objects_push s volume (history_at cell volume s) (Resolved put.objects (lasts s)))
        ∙ put.left.put f held.0 ((may.repair.below f).1 below) held.1
  ]

  everywhere : (list : List ℕ) → ((s : ℕ) → IsIn s list → finmap.get (objects_at last volume s) f ≡ Some is)
      → IsEverywhere is (copies_at (views_at last volume list) f)
  everywhere [] all = tt
  everywhere (s ∷ list) all = (all s (inl refl), everywhere list (λ t i. all t (inr i)))

  equal : (held : Held) × ((held.node.marked ≡ false) × IsEverywhere held (copies_at (views_at last volume part) f))
  equal = (is, (refl, everywhere part there_is))

pub repaired_are_equal : RepairedAreEqual
repaired_are_equal = record {
  objects =
      λ servers cell volume source names some part lasts installs failing gs may has f below. equal servers cell
      volume source names some part lasts installs failing gs may has f below;
  others =
      λ cell volume source names some lasts installs failing server none. ap (replica_objects server volume)
      (none_stays volume lasts server installs failing cell none);
}
