-- The parents under which nodes are cached, after a node is put and after an operation.
use Rattle.std.proofs.Common.{◌≡◌, ℕ, true, Option, Some, None, refl, sym, ap, ◌∙◌, inl, inr}
use Rattle.std.specs.FinMap as map
use Rattle.coda_fid.specs.declared.fid.Fid.{Fid}
use Rattle.coda_fid.specs.declared.op.Record.{Record}
use Rattle.coda_fid.specs.Op.{fids_of}
use Rattle.coda_fid.proofs.Fids.{fids_total, exact_fids}
use Rattle.coda_tree.specs.declared.node.Node.{Node}
use Rattle.coda_tree.proofs.Order.{fid_cases, get_here, get_else}
use Rattle.coda_cache.specs.declared.hold.Hold.{Hold}
use Rattle.coda_cache.specs.State.{CacheState, parent_held}
use Rattle.coda_cache.specs.Steps.{put_in, kept_parent, new_node, taken_out, moved_node, taken_below, taken_from, moved_in, new_hold, mutated}
use Rattle.coda_cache.specs.Parents.{Parents, parents_of}
use Rattle.coda_cache.proofs.Operated.{mutated_made, mutated_changed}
use Rattle.coda_cache.proofs.Parents.{same_parents, parents_put, parents_put_top, parents_moved, parents_all_dirty, parents_taken}

-- ---- a node is put

-- one that wasn't held, under a directory
pub parents_begun : (c : CacheState) (f dir : Fid) (node : Node) (from : Option ℕ) → map.get c.holds f ≡ None → parents_of (put_in c f (Some dir) node from).holds ≡ map.insert (parents_of c.holds) f dir
parents_begun c f dir node from free = parents_put c.holds f dir _ (ap (λ o. kept_parent o (Some dir)) free)

-- one that wasn't held, under none
pub parents_begun_top : (c : CacheState) (f : Fid) (node : Node) (from : Option ℕ) → map.get c.holds f ≡ None → parents_of (put_in c f None node from).holds ≡ parents_of c.holds
parents_begun_top c f node from free = parents_put_top c.holds f _ free (ap (λ o. kept_parent o None) free)

-- one that was held
pub parents_again : (c : CacheState) (f : Fid) (parent : Option Fid) (node : Node) (from : Option ℕ) (hold : Hold) → map.get c.holds f ≡ Some hold → parents_of (put_in c f parent node from).holds ≡ parents_of c.holds
parents_again c f parent node from hold is = same_parents c.holds (put_in c f parent node from).holds (λ q. elim (fid_cases q f) [
  | inl at ↦ ap parent_held (ap (map.get (put_in c f parent node from).holds) at ∙ get_here fids_total c.holds f _) ∙ ap (λ o. kept_parent o parent) is ∙ sym (ap parent_held (ap (map.get c.holds) at ∙ is))
  | inr apart ↦ ap parent_held (get_else fids_total exact_fids c.holds f _ q apart)
])

-- ---- an operation

-- one that makes a node
pub parents_made : (c : CacheState) (client : ℕ) (rec : Record) (dir fid : Fid) → new_node rec.op ≡ Some (dir, fid) → parents_of (mutated c client rec).holds ≡ map.insert (parents_of c.holds) fid dir
parents_made c client rec dir fid makes =
    ap (λ (n : CacheState). parents_of n.holds) (mutated_made c client rec dir fid makes) ∙ parents_all_dirty (map.insert c.holds fid (new_hold dir)) (fids_of rec.op)
    ∙ parents_put c.holds fid dir (new_hold dir) refl

-- one that makes none
parents_changed : (c : CacheState) (client : ℕ) (rec : Record) → new_node rec.op ≡ None → parents_of (mutated c client rec).holds ≡ parents_of (moved_in (moved_node rec.op) (taken_from c.holds (taken_below c (taken_out rec.op))))
parents_changed c client rec makes =
    ap (λ (n : CacheState). parents_of n.holds) (mutated_changed c client rec makes)
    ∙ parents_all_dirty (moved_in (moved_node rec.op) (taken_from c.holds (taken_below c (taken_out rec.op)))) (fids_of rec.op)

-- and moves none
pub parents_left : (c : CacheState) (client : ℕ) (rec : Record) → new_node rec.op ≡ None → moved_node rec.op ≡ None → parents_of (mutated c client rec).holds ≡ taken_from (parents_of c.holds) (taken_below c (taken_out rec.op))
parents_left c client rec makes stay =
    parents_changed c client rec makes ∙ ap (λ (o : Option (Fid × Fid)). parents_of (moved_in o (taken_from c.holds (taken_below c (taken_out rec.op))))) stay
    ∙ parents_taken c.holds (taken_below c (taken_out rec.op))

-- or moves one that stays
pub parents_moved_to : (c : CacheState) (client : ℕ) (rec : Record) (fid dir : Fid) → new_node rec.op ≡ None → moved_node rec.op ≡ Some (fid, dir) →
    map.contains_key (taken_from c.holds (taken_below c (taken_out rec.op))) fid ≡ true → parents_of (mutated c client rec).holds ≡ map.insert (taken_from (parents_of c.holds) (taken_below c (taken_out rec.op))) fid dir
parents_moved_to c client rec fid dir makes moves there =
    parents_changed c client rec makes ∙ ap (λ (o : Option (Fid × Fid)). parents_of (moved_in o (taken_from c.holds (taken_below c (taken_out rec.op))))) moves
    ∙ parents_moved (taken_from c.holds (taken_below c (taken_out rec.op))) fid dir there
    ∙ ap (λ (p : Parents). map.insert p fid dir) (parents_taken c.holds (taken_below c (taken_out rec.op)))
