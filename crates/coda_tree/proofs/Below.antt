-- What stands below what, and how deep.
use Rattle.std.proofs.Common.{◌≡◌, ℕ, zero, suc, ◌+◌, ◌<◌, ◌≤◌, true, false, ◌||◌, cond, List, [], ◌∷◌, Some, None, IsSome, length, add-one, refl, sym, ap, ◌∙◌, subst, arith}
use Rattle.std.specs.List.{list_any, AllByRecursion, IsDistinct}
use Rattle.std.specs.Map.{lookup}
use Rattle.std.specs.Cmp.{eq_by_cmp_equiv}
use Rattle.std.specs.Option.{option_map_or}
use Rattle.std.specs.Ordering.{eq_by_cmp}
use Rattle.std.specs.FinMap as map
use Rattle.std.specs.FinMap.{find}
use Rattle.std.proofs.lemmas.Map.Steps.{length-le_from_keys}
use Rattle.coda_fid.specs.Fid.{fid_cmp, same_fid}
use Rattle.coda_fid.specs.declared.fid.Fid.{Fid}
use Rattle.coda_fid.proofs.Fids.{fids_total, same_fid_is, same_fid_refl}
use Rattle.coda_tree.specs.declared.node.Node.{Node}
use Rattle.coda_tree.specs.Bindings.{Name}
use Rattle.coda_tree.specs.Tree.{Child, IsBelow, itself, under, AtDepth, at_top, one_deeper}
use Rattle.coda_tree.specs.Volume.{Nodes, bindings, child, child_of, has, IsVolume, parent_of, below_within, is_below}
use Rattle.coda_tree.proofs.Booleans.{or_true, has_some}
use Rattle.coda_tree.proofs.Parents.{tied_fid, parent_sound, parent_is}

lt_le : (a b : ℕ) → a < b → a ≤ b
lt_le a b lt = omega (arith, lt)

-- ---- what the way up says
below_sound : (m : Nodes) (steps : ℕ) (f g : Fid) → below_within m steps f g ≡ true → IsBelow (child m) g f
below_sound m zero f g h = itself f (same_fid_is f g h)
below_sound m (suc steps) f g h =
    elim (same_fid f g) as (λ b. same_fid f g ≡ b → (b || option_map_or (λ p. below_within m steps p g) (parent_of m f) false) ≡ true → IsBelow (child m) g f) [
      | true ↦ λ e _. itself f (same_fid_is f g e)
      | false ↦ λ _ rest. elim (parent_of m f) as (λ o. parent_of m f ≡ o → option_map_or (λ p. below_within m steps p g) o false ≡ true → IsBelow (child m) g f) [
        | None ↦ λ _ no. cc
        | Some p ↦ λ e is. let bound = parent_sound m f p e in under p bound.0 f bound.1 (below_sound m steps p g is)
      ] refl rest
    ] refl h

pub is_below_sound : (m : Nodes) (f g : Fid) → is_below m f g ≡ true → IsBelow (child m) g f
unfolding is_below
is_below_sound m f g h = below_sound m (map.len m) f g h

-- how many bindings lead down
abbrev height : {c : Child} {g f : Fid} → IsBelow c g f → ℕ
height (itself f same) = 0
height (under d n f h up) = suc (height up)

found_within : {root : Fid} (m : Nodes) → IsVolume root m → (f g : Fid) (r : IsBelow (child m) root f) → IsBelow (child m) g f → (steps : ℕ) → height r ≤ steps → below_within m steps f g ≡ true
found_within m v f g r (itself f' same) zero le = ap (λ x. same_fid f x) (sym same) ∙ same_fid_refl f
found_within m v f g r (itself f' same) (suc steps) le = ap (λ b. b || option_map_or (λ p. below_within m steps p g) (parent_of m f) false) (ap (λ x. same_fid f x) (sym same) ∙ same_fid_refl f)
found_within m v f g (itself f' same) (under d n f'' h up) steps le = absurd (v.tree.unbound d n (h ∙ ap Some same))
found_within m v f g (under d n f' h up) (under e k f'' i up') zero le = absurd (omega arith)
found_within m v f g (under d n f' h up) (under e k f'' i up') (suc steps) le =
    let same : e ≡ d = (v.tree.once e k d n f i h).0 in
    let rest = found_within m v d g up (subst (IsBelow (child m) g) same up') steps (omega arith) in
    ap (λ o. same_fid f g || option_map_or (λ p. below_within m steps p g) o false) (parent_is m v d n f h)
    ∙ ap (λ b. same_fid f g || b) rest ∙ or_true (same_fid f g)

-- the fids on the way up
abbrev chain : {c : Child} {g f : Fid} → IsBelow c g f → List Fid
chain (itself f same) = f ∷ []
chain (under d n f h up) = f ∷ chain up

-- ---- a path up is no longer than the volume
module _ {root : Fid} (m : Nodes) (v : IsVolume root m) where
  same_height : (f e : Fid) (r : IsBelow (child m) root f) (s : IsBelow (child m) root e) → f ≡ e → height r ≡ height s
  same_height f e (itself f' a) (itself e' b) same = refl
  same_height f e (itself f' a) (under d n e' h up) same = absurd (v.tree.unbound d n (h ∙ ap Some (sym same ∙ a)))
  same_height f e (under d n f' h up) (itself e' b) same = absurd (v.tree.unbound d n (h ∙ ap Some (same ∙ b)))
  same_height f e (under d n f' h up) (under k j e' i up') same = ap suc (same_height d k up up' (v.tree.once d n k j e (h ∙ ap Some same) i).0)

  length_chain : (f : Fid) (r : IsBelow (child m) root f) → length (chain r) ≡ height r + 1
  length_chain f (itself f' same) = refl
  length_chain f (under d n f' h up) = let rest = length_chain d up in omega (arith, rest)

  differ : (f d : Fid) (r : IsBelow (child m) root f) (s : IsBelow (child m) root d) → height s < height r → eq_by_cmp fid_cmp f d ≡ false
  differ f d r s lt = elim (eq_by_cmp fid_cmp f d) as (λ b. eq_by_cmp fid_cmp f d ≡ b → b ≡ false) [
    | true ↦ λ e. let same = same_height f d r s (tied_fid f d e) in absurd (omega (arith, same))
    | false ↦ λ _. refl
  ] refl

  away : (f : Fid) (r : IsBelow (child m) root f) (d : Fid) (up : IsBelow (child m) root d) → height up < height r → AllByRecursion (λ y. eq_by_cmp fid_cmp f y ≡ false) (chain up)
  away f r d (itself d' same) lt = (differ f d r (itself d same) lt, tt)
  away f r d (under e n d' h up) lt = (differ f d r (under e n d h up) lt, away f r e up (omega arith))

  distinct : (f : Fid) (r : IsBelow (child m) root f) → IsDistinct (eq_by_cmp fid_cmp) (chain r)
  unfolding IsDistinct
  distinct f (itself f' same) = (tt, tt)
  distinct f (under d n f' h up) = (away f (under d n f h up) d up (omega arith), distinct d up)

  all_there : (f : Fid) (r : IsBelow (child m) root f) (q : Fid) → list_any (eq_by_cmp fid_cmp q) (chain r) ≡ true → has m q ≡ true
  all_there f (itself f' same) q h = elim (eq_by_cmp fid_cmp q f) as (λ b. eq_by_cmp fid_cmp q f ≡ b → (b || false) ≡ true → has m q ≡ true) [
    | true ↦ λ e _. ap (has m) (tied_fid q f e ∙ same) ∙ v.tree.rooted
    | false ↦ λ _ no. cc
  ] refl h
  all_there f (under d n f' i up) q h = elim (eq_by_cmp fid_cmp q f) as (λ b. eq_by_cmp fid_cmp q f ≡ b → (b || list_any (eq_by_cmp fid_cmp q) (chain up)) ≡ true → has m q ≡ true) [
    | true ↦ λ e _. ap (has m) (tied_fid q f e) ∙ v.tree.there d n f i
    | false ↦ λ _ rest. all_there d up q rest
  ] refl h

  find_lookup : (es : List (Fid × Node)) (q : Fid) → find fid_cmp q es ≡ lookup (eq_by_cmp fid_cmp q) es
  find_lookup [] q = refl
  find_lookup (e ∷ es) q = ap (cond (eq_by_cmp fid_cmp q e.0) (Some e.1)) (find_lookup es q)

  -- the way up from a fid, with itself, has no more fids than the volume
  pub height_lt : (f : Fid) (r : IsBelow (child m) root f) → height r < map.len m
  height_lt f r =
      let few = length-le_from_keys (eq_by_cmp_equiv fids_total) (chain r) (map.entries m) (distinct f r) (λ q h.
      subst IsSome (map.get-entries m q ∙ find_lookup (map.entries m) q) (has_some (map.get m q) (all_there f r q h))) in
      omega (arith, few, length_chain f r, map.len-entries m)

  -- what is below a fid that is there is found below it
  pub is_below_complete : (f g : Fid) → has m f ≡ true → IsBelow (child m) g f → is_below m f g ≡ true
  unfolding is_below
  is_below_complete f g there b = found_within m v f g (v.tree.reached f there) b (map.len m) (lt_le _ _ (height_lt f (v.tree.reached f there)))

-- one step of the climb
pub below_step : (m : Nodes) (k j : ℕ) (f g p : Fid) → same_fid f g ≡ false → parent_of m f ≡ Some p → k ≡ suc j → below_within m k f g ≡ below_within m j p g
below_step m k j f g p differs up is =
    ap (λ n. below_within m n f g) is ∙ ap (λ b. b || option_map_or (λ q. below_within m j q g) (parent_of m f) false) differs
    ∙ ap (λ o. option_map_or (λ q. below_within m j q g) o false) up

-- ---- depth

-- what is reached by so many bindings is below, by as many
below_at : {c : Child} {g : Fid} (depth : ℕ) (f : Fid) → AtDepth c g depth f → (b : IsBelow c g f) × (height b ≡ depth)
below_at depth f (at_top depth' f' none same) = (itself f same, sym none)
below_at depth f (one_deeper above depth' d n f' more is up) =
    let rest = below_at above d up in
    (under d n f is rest.0, ap suc rest.1 ∙ sym (add-one above) ∙ sym more)

-- what is below is reached by some number of bindings
pub depth_of : {c : Child} {g : Fid} (f : Fid) → IsBelow c g f → (depth : ℕ) × AtDepth c g depth f
depth_of f (itself f' same) = (0, at_top 0 f refl same)
depth_of f (under d n f' h up) =
    let above = depth_of d up in
    (above.0 + 1, one_deeper above.0 (above.0 + 1) d n f refl h above.1)

-- a fid of a volume is reached from the root by fewer bindings than there are nodes
pub depth_lt : {root : Fid} (m : Nodes) → IsVolume root m → (depth : ℕ) (f : Fid) → AtDepth (child m) root depth f → depth < map.len m
depth_lt m v depth f at =
    let b = below_at depth f at in
    subst (λ k. k < map.len m) b.1 (height_lt m v f b.0)

-- the root is reached by no binding
pub depth_top : (m : Nodes) (root : Fid) → AtDepth (child m) root 0 root
depth_top m root = at_top 0 root refl refl

-- and what a directory binds by one more than the directory
pub depth_bound : {root : Fid} (m : Nodes) (depth : ℕ) (d : Fid) (node : Node) (n : Name) (f : Fid) → AtDepth (child m) root depth d → map.get m d ≡ Some node → map.get (bindings node.kind) n ≡ Some f → AtDepth (child m) root (depth + 1) f
depth_bound m depth d node n f at is bound = one_deeper depth (depth + 1) d n f refl (ap (λ o. child_of o n) is ∙ bound) at
