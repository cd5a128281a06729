-- A resolution, installed at one replica after the other.
use Rattle.std.proofs.Common.{◌≡◌, ◌≢◌, ℕ, ◌≤◌, true, List, [], ◌∷◌, Option, Some, None, is_some, map, refl, sym, ap}
use Rattle.std.proofs.Common.{◌∙◌, subst, inl, inr, ◌⊎◌}
use Rattle.std.specs.FinMap as finmap
use Rattle.std.proofs.lemmas.Bool.{cases_eq}
use Rattle.coda_fid.specs.Fid.{root_of}
use Rattle.coda_fid.specs.declared.fid.Fid.{Fid}
use Rattle.coda_tree.specs.Volume.{IsVolume}
use Rattle.coda_reslog.specs.declared.change.Held.{Held}
use Rattle.coda_resolve.specs.declared.fate.Fate.{Fate}
use Rattle.coda_resolve.specs.declared.fate.Fate.TheVariants.{Same, Marked, Gone}
use Rattle.coda_resolve.specs.Copies.{first_some}
use Rattle.coda_resolve.specs.Settling.{settled_copy}
use Rattle.coda_resolve.specs.Resolution.{Replicas, copies_at, fate_at, IsTakenUp, has_in}
use Rattle.coda_resolve.specs.Placement.{IsIn, AreTreesOfOneKind}
use Rattle.coda_resolve.specs.Trees.{IsInstalled, KeepsOwn, marked_there, further}
use Rattle.coda_resolve.proofs.There.{taken_up_is_there}
use Rattle.coda_lineage.specs.Lineage.{Group, IsResolved, AreAmong}
use Rattle.coda_plain.specs.Objects.{Objects, nodes_in}
use Rattle.coda_plain.specs.Decisions.{Last}
use Rattle.coda_plain.specs.Cell.{PlainCell, Joins, found_in}
use Rattle.coda_plain.proofs.Soundness.{none_joins, found_up}
use Rattle.coda_group.specs.Holdings.{replica_objects}
use Rattle.coda_group.specs.Groups.{holdings, IsOneGroup}
use Rattle.coda_group.specs.Steps.{history_at, objects_at, views_at, last_at, Install, IsResolution, MayResolve}
use Rattle.coda_group.specs.Sound.{IsGroupSound}
use Rattle.coda_group.proofs.Deciding.{put_at, put_here, put_else}
use Rattle.coda_group.proofs.Volumes.{standing_volume, group_trees, resolved_group}
use Rattle.coda_group.proofs.OneGroup.{resolved_stands, group_of, stands}
use Rattle.coda_group.proofs.Installing.{IsBehind, IsDone, at_start, install_all}

-- ---- what a resolution leaves stood somewhere

-- some replica has it
held_some : (views : ℕ → Objects) (some : List ℕ) (f : Fid) → first_some (copies_at (map views some) f) ≢ None
    → (t : ℕ) × (IsIn t some × ((own : Held) × (finmap.get (views t) f ≡ Some own)))
held_some views [] f there = absurd (there refl)
held_some views (t ∷ some) f there = go (finmap.get (views t) f) refl there (held_some views some f)
  where
    go : (o : Option Held) → finmap.get (views t) f ≡ o → first_some (o ∷ copies_at (map views some) f) ≢ None
        → (first_some (copies_at (map views some) f) ≢ None → (s : ℕ)
        × (IsIn s some × ((own : Held) × (finmap.get (views s) f ≡ Some own))))
        → (s : ℕ) × (IsIn s (t ∷ some) × ((own : Held) × (finmap.get (views s) f ≡ Some own)))
    go (Some own) e there rest = (t, (inl refl, (own, e)))
    go None e there rest = let more = rest there in (more.0, (inr more.1.0, more.1.1))

-- what a replica had that is taken up it has
settled_some : (fate : Fate) (lowest : Option Held) (own : Held) → is_some (settled_copy fate lowest (Some own)) ≡ true
settled_some (Same held) lowest own = refl
settled_some (Marked why) lowest own = refl
settled_some Gone lowest own = refl

-- what a replica keeps below a marked directory stays, whatever is left there
own_kept : (views : Replicas) (root : Fid) (view : Objects) (f : Fid) → KeepsOwn views root view f → IsTakenUp views root f ⊎ ((new : Objects) → IsInstalled views root view new → finmap.get new f ≡ finmap.get view f)
own_kept views root view f (marked_there d why is_taken fate) = inl is_taken
own_kept views root view f (further d n g keeps child) = inr (λ new is. is.kept d n g keeps child)

pub views_map : (cell : PlainCell) (volume : ℕ) (list : List ℕ)
    → views_at cell volume list ≡ map (objects_at cell volume) list
views_map cell volume [] = refl
views_map cell volume (s ∷ list) = ap (λ l. objects_at cell volume s ∷ l) (views_map cell volume list)

module _ (servers : ℕ → List ℕ) (start : PlainCell) (gs : IsGroupSound servers start) (volume : ℕ) (some : List ℕ) (lasts : ℕ → Last) (installs : List Install) (failing : Option Install)
    (may : MayResolve servers start volume some lasts installs failing) where
  abbrev views : Replicas
  views = views_at start volume some

  abbrev now : IsOneGroup (found_in start none_joins) (servers volume) volume
  now = (gs.stand none_joins).groups volume

  some_one : some ≢ []
  some_one e = let from = may.joined.from 0 in subst (IsIn from.0) e from.1.0

  pub trees : AreTreesOfOneKind views (root_of volume)
  trees =
      subst (λ vs. AreTreesOfOneKind vs (root_of volume)) (sym (views_map start volume some))
      (group_trees (servers volume) (found_in start none_joins) volume now some may.among some_one)

  -- what is left at a replica is a volume
  pub left_volume : (s : ℕ) (o : Objects) → IsIn s some → IsResolution start volume some s o
      → IsVolume (root_of volume) (nodes_in o)
  left_volume s o i left =
      let before : Group = group_of (found_in start none_joins) (servers volume) volume in
      let after : Group = record { holds = put_at (objects_at start volume) s o; made = before.made } in
      let here : after.holds s ≡ o = put_here (objects_at start volume) s o in
      let step : IsResolved (root_of volume) some before after = record {
        each = λ t. elim (cases_eq t s) [
          | inl same ↦ inr (
            subst (λ n. IsIn n some) (sym same) i,
            subst (λ n. IsInstalled (map (objects_at start volume) some) (root_of volume) (objects_at start volume n)
                (after.holds n)) (sym same)
                (subst (λ vs. IsInstalled vs (root_of volume) (objects_at start volume s) (after.holds s))
                (views_map start volume some) (subst (IsInstalled views (root_of volume) (objects_at start volume s))
                (sym here) left)),
          )
          | inr ne ↦ inl (put_else (objects_at start volume) s o t ne)
        ];
        made = refl;
      } in
      subst (λ x. IsVolume (root_of volume) (nodes_in x)) here
      (standing_volume (servers volume) volume after
      (resolved_stands (root_of volume) (servers volume) before
      (stands (found_in start none_joins) (servers volume) volume now) some may.among after step) s (may.among s i))

  pub left_last : (s client : ℕ) → IsIn s some → (last_at start volume s client).number ≤ (lasts client).number
  left_last s client i = may.joined.greatest client s i

  pub left_from : (s client : ℕ) → IsIn s some
      → (t : ℕ) × (IsIn t some × ((lasts client ≡ last_at start volume t client) × (lasts client ≡ lasts client)))
  left_from s client i = let from = may.joined.from client in (from.0, (from.1.0, (from.1.1, refl)))

  abbrev IsHeldStill : Fid → Type 0
  IsHeldStill f =
      (t : ℕ) × (IsIn t some × ((has_in (objects_at start volume t) f ≡ true)
      × ((p : Objects) → IsResolution start volume some t p → has_in p f ≡ true)))

  taken_held : (f : Fid) → IsTakenUp views (root_of volume) f → IsHeldStill f
  taken_held f is_taken =
      let lowest = first_some (copies_at views f) in
      let from = held_some (objects_at start volume) some f (subst (λ vs. first_some (copies_at vs f) ≢ None) (views_map start volume some) (taken_up_is_there views (root_of volume) trees.trees f is_taken)) in (
        from.0,
        (
          from.1.0,
          (
            ap is_some from.1.1.1,
            λ p left. ap is_some (left.taken f is_taken ∙ ap (settled_copy (fate_at views f) lowest) from.1.1.1)
                ∙ settled_some (fate_at views f) lowest from.1.1.0,
          ),
        ),
      )

  pub left_held : (s : ℕ) (o : Objects) (f : Fid) → IsIn s some → IsResolution start volume some s o
      → has_in o f ≡ true → IsHeldStill f
  left_held s o f i left e = elim (left.only f e) [
    | inl is_taken ↦ taken_held f is_taken
    | inr keeps ↦ elim (own_kept views (root_of volume) (objects_at start volume s) f keeps) [
      | inl is_taken ↦ taken_held f is_taken
      | inr same ↦ (
          let had : has_in (objects_at start volume s) f ≡ true = ap is_some (sym (same o left)) ∙ e in
          (s, (i, (had, λ p other. ap is_some (same p other) ∙ had))))
    ]
  ]

  abbrev pub IsResolutionBehind : PlainCell → Type 0
  IsResolutionBehind cell =
      IsBehind start gs.sound volume some (λ s. lasts) (IsResolution start volume some) may.up left_volume left_last
      left_from left_held cell

  abbrev pub IsResolutionDone : Type 0
  IsResolutionDone =
      IsDone start gs.sound volume some (λ s. lasts) (IsResolution start volume some) may.up left_volume left_last
      left_from left_held start installs failing

  pub resolution_done : IsResolutionDone
  resolution_done =
      install_all start gs.sound volume some (λ s. lasts) (IsResolution start volume some) may.up left_volume
      left_last left_from left_held installs failing start
      (at_start start gs.sound volume some (λ s. lasts) (IsResolution start volume some) may.up left_volume left_last
      left_from left_held) gs.sound may.up may.installed

  -- ---- the replicas are one group behind it

  start_found : (joins : Joins) (s : ℕ) → IsIn s some
      → (found_in start joins).replicas s volume ≡ history_at start volume s
  start_found joins s i =
      found_up (joins.replicas s volume) (start.replicas s volume) (gs.sound.replicas_up s volume (may.up s i))

  views_found : (joins : Joins) (list : List ℕ) → AreAmong list some
      → views_at start volume list ≡ map (holdings (found_in start joins) volume) list
  views_found joins [] sub = refl
  views_found joins (s ∷ list) sub =
      let at : objects_at start volume s ≡ holdings (found_in start joins) volume s = ap (replica_objects s volume) (sym (start_found joins s (sub s (inl refl)))) in
      λ i. at i ∷ views_found joins list (λ t j. sub t (inr j)) i

  pub group_behind : (cell : PlainCell) → IsResolutionBehind cell → (joins : Joins)
      → IsOneGroup (found_in cell joins) (servers volume) volume
  group_behind cell b joins =
      resolved_group (servers volume) (found_in start joins) (found_in cell joins) volume some
      ((gs.stand joins).groups volume) may.among
      (λ s. elim (b.each joins s) [
        | inl same ↦ inl same
        | inr put ↦ inr (record {
          objects = put.objects;
          lasts = lasts;
          among = put.there;
          grown = put.more;
          left =
              subst (λ vs. IsInstalled vs (root_of volume) (holdings (found_in start joins) volume s) put.objects)
              (views_found joins some (λ t j. j))
              (subst (λ es. IsInstalled views (root_of volume) (replica_objects s volume es) put.objects)
              (sym (start_found joins s put.there)) put.left);
        })
      ])
