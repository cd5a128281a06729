-- The change of a replica, from what is put, what comes in place of what loses, and what goes.
use Rattle.std.proofs.Common.{◌≡◌, ◌≢◌, ℕ, ◌<◌, ◌≤◌, Bool, true, false, not, cond, ◌&&◌, Option, Some, None, is_some, refl, sym, ap, ◌∙◌, subst, ◌↔◌, arith}
use Rattle.std.specs.Option.{option_map}
use Rattle.std.specs.FinMap as finmap
use Rattle.std.specs.FinMap.{is_sorted}
use Rattle.std.specs.List.{filter}
use Rattle.std.proofs.lemmas.Bool.{true≢false}
use Rattle.coda_fid.specs.Fid.{fid_cmp}
use Rattle.coda_fid.specs.declared.fid.Fid.{Fid}
use Rattle.coda_tree.specs.Tree.{IsBelow, itself}
use Rattle.coda_tree.specs.declared.node.NodeKind.{NodeKind}
use Rattle.coda_tree.specs.declared.node.NodeKind.TheVariants.{File, Link, Dir}
use Rattle.coda_vv.specs.Vector.{count}
use Rattle.coda_reslog.specs.declared.change.Held.{Held}
use Rattle.coda_reslog.specs.declared.change.Change.{Change}
use Rattle.coda_resolve.specs.Copies.{Copies}
use Rattle.coda_resolve.specs.Resolution.{Objects, has_in, child_in}
use Rattle.coda_resolve.specs.Placement.{IsIn}
use Rattle.coda_resolve.specs.Changes.{is_among, changed}
use Rattle.coda_resolve.specs.Views.{objects_in}
use Rattle.coda_resolve.proofs.Lists.{some_none}
use Rattle.coda_lineage.specs.Repairs.{repaired, others_of, spared_by, spared, IsRepairedAt}
use Rattle.coda_repair.specs.Making.{put_at, IsWide, kind_loses, loser, spare_of, spare_at, or_else}
use Rattle.coda_repair.specs.Repaired.{IsReplicaRepair}
use Rattle.coda_repair.proofs.Changed.{among_filter, in_among, filter_alike_in, keys_has, get_changed}
use Rattle.coda_repair.proofs.Vectors.{has_more}
use Rattle.coda_repair.proofs.Sparing.{loser_differs}

module _ (subtree below : Fid → Bool) (top : Fid) (source : ℕ) (copies : Fid → Copies) (right view : Objects) (change : Change)
    (one : 1 ≤ source) (eight : source ≤ 8)
    (sorted : is_sorted fid_cmp change.held ≡ true)
    (held_is : (f : Fid) → finmap.get (objects_in change.held) f ≡ or_else (spare_at subtree below top view (finmap.keys view) f) (cond (subtree f) (put_at source copies right f) None))
    (gone_is : change.gone ≡ filter (λ f. below f && not (subtree f)) (finmap.keys view))
    (is_below : (f : Fid) → (below f ≡ true) ↔ ((g : Fid) × ((subtree g ≡ true) × IsBelow (child_in view) g f)))
    (wide : (f : Fid) (was : Held) → subtree f ≡ true → finmap.get right f ≡ Some was → IsWide (copies f))
    (own : (f : Fid) (held : Held) → finmap.get view f ≡ Some held → IsIn (Some held) (copies f)) where
  -- ---- by what stands at a fid

  abbrev held_val : Bool → Bool → Option Held → Option Held → Option Held
  held_val b s mine new = or_else (cond (is_some mine && not b) (spare_of subtree top mine) None) (cond s new None)

  abbrev after_val : Bool → Bool → Option Held → Option Held → Option Held
  after_val b s mine new = or_else (held_val b s mine new) (cond (not ((b && not s) && is_some mine)) mine None)

  abbrev new_at : Fid → Option Held
  new_at f = put_at source copies right f

  held_at : (f : Fid) → finmap.get (objects_in change.held) f ≡ held_val (below f) (subtree f) (finmap.get view f) (new_at f)
  held_at f = held_is f ∙ ap (λ b. or_else (cond (b && not (below f)) (spare_of subtree top (finmap.get view f)) None) (cond (subtree f) (new_at f) None)) (keys_has view f)

  gone_at : (f : Fid) → is_among change.gone f ≡ ((below f && not (subtree f)) && is_some (finmap.get view f))
  gone_at f = ap (λ fids. is_among fids f) gone_is ∙ among_filter (λ g. below g && not (subtree g)) (finmap.keys view) f ∙ ap (λ b. (below f && not (subtree f)) && b) (keys_has view f)

  after_at : (f : Fid) → finmap.get (changed view change) f ≡ after_val (below f) (subtree f) (finmap.get view f) (new_at f)
  after_at f = get_changed view change f sorted ∙ (λ i. or_else (held_at f i) (cond (not (gone_at f i)) (finmap.get view f) None))

  held_by : (f : Fid) (b s : Bool) (mine new : Option Held) → below f ≡ b → subtree f ≡ s → finmap.get view f ≡ mine → new_at f ≡ new → finmap.get (objects_in change.held) f ≡ held_val b s mine new
  held_by f b s mine new eb es em en = held_at f ∙ (λ i. held_val (eb i) (es i) (em i) (en i))

  after_by : (f : Fid) (b s : Bool) (mine new : Option Held) → below f ≡ b → subtree f ≡ s → finmap.get view f ≡ mine → new_at f ≡ new → finmap.get (changed view change) f ≡ after_val b s mine new
  after_by f b s mine new eb es em en = after_at f ∙ (λ i. after_val (eb i) (es i) (em i) (en i))

  -- ---- what the replica is left with

  within : (f : Fid) → subtree f ≡ true → below f ≡ true
  within f s = (is_below f).1 (f, (s, itself f refl))

  outside : (f : Fid) → below f ≡ false → subtree f ≡ false
  outside f b = by (subtree f) refl
    where
      by : (s : Bool) → subtree f ≡ s → subtree f ≡ false
      by true e = absurd (true≢false (sym (within f e) ∙ b))
      by false e = e

  put_there : (f : Fid) (held : Held) → subtree f ≡ true → finmap.get right f ≡ Some held → finmap.get (changed view change) f ≡ Some (repaired source (copies f) held)
  put_there f held s r = by (finmap.get view f) refl
    where
      new : new_at f ≡ Some (repaired source (copies f) held)
      new = ap (option_map (repaired source (copies f))) r

      by : (mine : Option Held) → finmap.get view f ≡ mine → finmap.get (changed view change) f ≡ Some (repaired source (copies f) held)
      by None e = after_by f true true None (Some (repaired source (copies f) held)) (within f s) s e new
      by (Some old) e = after_by f true true (Some old) (Some (repaired source (copies f) held)) (within f s) s e new

  goes_there : (f : Fid) → subtree f ≡ false → below f ≡ true → finmap.get (changed view change) f ≡ None
  goes_there f s b = by (finmap.get view f) refl
    where
      by : (mine : Option Held) → finmap.get view f ≡ mine → finmap.get (changed view change) f ≡ None
      by None e = after_by f true false None (new_at f) b s e refl
      by (Some old) e = after_by f true false (Some old) (new_at f) b s e refl

  spared_one : (held : Held) (k : NodeKind) (b : Bool) → kind_loses subtree top k ≡ b → or_else (or_else (cond b (Some (spared_by subtree top held k)) None) None) (Some held) ≡ Some (spared_by subtree top held k)
  spared_one held k true e = refl
  spared_one held (File content) false e = refl
  spared_one held (Link target) false e = refl
  spared_one held (Dir entries) false e = ap (λ b. Some (cond b (record held { node = record held.node { kind = Dir (others_of subtree top entries); marked = true } }) held)) (sym e)

  stays_there : (f : Fid) → below f ≡ false → finmap.get (changed view change) f ≡ spared subtree top (finmap.get view f)
  stays_there f b = by (finmap.get view f) refl
    where
      by : (mine : Option Held) → finmap.get view f ≡ mine → finmap.get (changed view change) f ≡ spared subtree top mine
      by None e = after_by f false false None (new_at f) b (outside f b) e refl
      by (Some old) e = after_by f false false (Some old) (new_at f) b (outside f b) e refl ∙ spared_one old old.node.kind (kind_loses subtree top old.node.kind) refl

  left : IsRepairedAt subtree top source copies right view (changed view change)
  left = record { put = put_there; below = below; is_below = is_below; goes = goes_there; stays = λ f b. stays_there f b }

  -- ---- and nothing besides

  new_differs : (f : Fid) (held : Held) (o : Option Held) → subtree f ≡ true → finmap.get right f ≡ o → option_map (repaired source (copies f)) o ≡ Some held → finmap.get view f ≡ Some held → ⊥
  new_differs f held None s r is mine = some_none held (sym is)
  new_differs f held (Some was) s r is mine =
      let less : count held.vector.0 source < count held.vector.0 source = subst (λ (x : Option Held). count held.vector.0 source < counted x) is (has_more (copies f) held source one eight (wide f was s r) (own f held mine)) in
      omega (arith, less)
    where
      counted : Option Held → ℕ
      counted None = 0
      counted (Some h) = count h.vector.0 source

  -- what the change has isn't what the replica held
  told : (f : Fid) (held : Held) → finmap.get (objects_in change.held) f ≡ Some held → finmap.get view f ≡ Some held → ⊥
  told f held h mine = by (below f) (subtree f) refl refl
    where
      spare : (b s : Bool) → below f ≡ b → subtree f ≡ s → finmap.get (objects_in change.held) f ≡ held_val b s (Some held) (new_at f)
      spare b s eb es = held_by f b s (Some held) (new_at f) eb es mine refl

      flat : (o : Option Held) → or_else o None ≡ o
      flat None = refl
      flat (Some x) = refl

      by : (b s : Bool) → below f ≡ b → subtree f ≡ s → ⊥
      by true true eb es = new_differs f held (finmap.get right f) es refl (sym (spare true true eb es) ∙ h) mine
      by true false eb es = some_none held (sym (sym (spare true false eb es) ∙ h))
      by false true eb es = true≢false (sym (within f es) ∙ eb)
      by false false eb es = loser_differs subtree top held held.node.kind (kind_loses subtree top held.node.kind) refl refl (sym (flat (loser subtree top held)) ∙ sym (spare false false eb es) ∙ h)

  differs : (f : Fid) (held : Held) → (finmap.get (objects_in change.held) f ≡ Some held) ↔ ((finmap.get (changed view change) f ≡ Some held) × (finmap.get view f ≢ Some held))
  differs f held = (
    λ h. (get_changed view change f sorted ∙ ap (λ o. or_else o (cond (not (is_among change.gone f)) (finmap.get view f) None)) h, told f held h),
    λ p. back (finmap.get (objects_in change.held) f) refl (sym (get_changed view change f sorted) ∙ p.0) p.1,
  )
    where
      kept : (b : Bool) → cond b (finmap.get view f) None ≡ Some held → finmap.get view f ≡ Some held
      kept true e = e
      kept false e = absurd (some_none held (sym e))

      back : (o : Option Held) → finmap.get (objects_in change.held) f ≡ o → or_else (finmap.get (objects_in change.held) f) (cond (not (is_among change.gone f)) (finmap.get view f) None) ≡ Some held → finmap.get view f ≢ Some held → finmap.get (objects_in change.held) f ≡ Some held
      back None e is other = absurd (other (kept (not (is_among change.gone f)) (ap (λ o. or_else o (cond (not (is_among change.gone f)) (finmap.get view f) None)) (sym e) ∙ is)))
      back (Some x) e is other = e ∙ ap (λ o. or_else o (cond (not (is_among change.gone f)) (finmap.get view f) None)) (sym e) ∙ is

  kept_or_gone : (f : Fid) → IsIn f (finmap.keys view) → (below f && not (subtree f)) ≡ not (has_in (changed view change) f)
  kept_or_gone f there = by (below f) (subtree f) (finmap.get view f) refl refl refl (sym (keys_has view f) ∙ in_among (finmap.keys view) f there)
    where
      inside : (mine new : Option Held) → finmap.get view f ≡ mine → new_at f ≡ new → subtree f ≡ true → below f ≡ true → is_some mine ≡ true → has_in (changed view change) f ≡ true
      inside None new em en es eb h = absurd (true≢false (sym h))
      inside (Some old) None em en es eb h = ap is_some (after_by f true true (Some old) None eb es em en)
      inside (Some old) (Some x) em en es eb h = ap is_some (after_by f true true (Some old) (Some x) eb es em en)

      by : (b s : Bool) (mine : Option Held) → below f ≡ b → subtree f ≡ s → finmap.get view f ≡ mine → is_some mine ≡ true → (b && not s) ≡ not (has_in (changed view change) f)
      by true false mine eb es em h = ap (λ o. not (is_some o)) (sym (goes_there f es eb))
      by true true mine eb es em h = ap not (sym (inside mine (new_at f) em refl es eb h))
      by false s None eb es em h = absurd (true≢false (sym h))
      by false s (Some old) eb es em h = ap (λ o. not (is_some o)) (sym (stays_there f eb ∙ ap (spared subtree top) em))

  pub part_is : IsReplicaRepair subtree top source copies right view change
  part_is = record {
    repaired = left;
    exact = record {
      in_order = sorted;
      differs = differs;
      goes = gone_is ∙ filter_alike_in (λ f. below f && not (subtree f)) (λ f. not (has_in (changed view change) f)) (finmap.keys view) kept_or_gone;
    };
  }
