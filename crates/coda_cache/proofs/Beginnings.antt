-- That what begins an operation is what its rest, and undoing it, start from.
use Rattle.std.proofs.Common.{◌≡◌, ℕ, Bool, true, false, cond, ◌||◌, List, [], ◌∷◌, Option, Some, None, option_map, is_some, refl, sym, ap, ◌∙◌, subst, inl, inr}
use Rattle.std.specs.Prelude.{IfOk, OnOk, Result, Ok, Err, ◌<◌, ◌^◌, ◌&&◌}
use Rattle.std.specs.FinMap as map
use Rattle.std.specs.Ordering.{is_eq}
use Rattle.std.proofs.lemmas.Bool.{both_ways}
use Rattle.std.proofs.lemmas.Cmp.{nat_list_cmp_total, tied_itself}
use Rattle.std.proofs.lemmas.Map.Lookups.{exact_bytes}
use Rattle.coda_fid.specs.Name.{name_cmp}
use Rattle.coda_fid.specs.declared.fid.Fid.{Fid}
use Rattle.coda_fid.specs.declared.fid.Sid.{Sid}
use Rattle.coda_fid.specs.declared.op.Attrs.{Attrs}
use Rattle.coda_fid.specs.declared.op.Over.{Over}
use Rattle.coda_fid.specs.declared.op.Op.{Op}
use Rattle.coda_fid.specs.declared.op.Record.{Record}
use Rattle.coda_fid.specs.declared.op.Op.TheVariants.{Create, Mkdir, Symlink, Store, Setattr, Remove, Rmdir, Rename}
use Rattle.coda_fid.specs.Fid.{same_fid}
use Rattle.coda_fid.specs.Op.{fids_of}
use Rattle.coda_fid.proofs.Fids.{fids_total, exact_fids, same_fid_is, same_fid_refl}
use Rattle.coda_tree.specs.declared.node.Node.{Node}
use Rattle.coda_tree.specs.declared.node.NodeKind.TheVariants.{File}
use Rattle.coda_tree.specs.Bindings.{Name}
use Rattle.coda_tree.specs.Blocks.{blocks_of}
use Rattle.coda_tree.specs.Volume.{Nodes, has, bindings, child, child_of, IsDirNode, IsDirAt, bind_in, unbind_in, bound, unbound, edited_all, added, moved, replaced}
use Rattle.coda_tree.proofs.Booleans.{eq_true}
use Rattle.coda_tree.proofs.Order.{fid_cases, get_here, get_else}
use Rattle.coda_tree.proofs.Changes.{at_changed, off_changed, has_changed, bind_undone, dir_node, dir_changed, get_dir_put, added_put_first}
use Rattle.coda_tree.proofs.Moved.{moved_is, moved_apart, moved_same, replaced_last}
use Rattle.coda_certify.specs.Replay.{MayCreate, MayRename, effects, applied, sid_of, empty_file, empty_dir, new_link}
use Rattle.coda_walk.specs.Going.{is_listed}
use Rattle.coda_cache.specs.declared.hold.Hold.{Hold}
use Rattle.coda_cache.specs.State.{CacheState, is_cached}
use Rattle.coda_cache.specs.Ways.{at_or_below}
use Rattle.coda_cache.specs.Keeping.{Agree}
use Rattle.coda_cache.specs.Steps.{new_node, taken_out, moved_node, taken_below, taken_from, except_all, removed, dropped, without, put_in, dirtied, all_dirty, moved_in, moved_under, new_hold, kept_parent, mutated}
use Rattle.coda_cache.specs.Operating.{with_nodes, is_same_place, left_behind, created, HasBegun}
use Rattle.coda_cache.specs.declared.begun.Begun.{Begun}
use Rattle.coda_cache.specs.declared.begun.Begun.TheVariants.{Made, Content, Attributes, Leaving, Moving, Replacing}
use Rattle.coda_cache.proofs.Changed.{below_nodes, out_first, has_moved}
use Rattle.coda_cache.proofs.Foreseen.{dirty_at, noted}
use Rattle.coda_cache.proofs.Operated.{mutated_made, mutated_changed, self_below}
use Rattle.coda_cache.proofs.Walked.{put_undone}

-- ---- bindings

-- a free name bound and unbound again
pub bind_back : (m : Nodes) (d : Fid) (name : Name) (f : Fid) → IsDirAt m d → child m d name ≡ None → unbound (bound m d name f) d name ≡ m
bind_back m d name f is free =
    let there = dir_node m d is in
    let none : map.get (bindings there.0.kind) name ≡ None = ap (λ o. child_of o name) (sym there.1) ∙ free in
    map.same_map fids_total exact_fids _ _ (λ q. elim (fid_cases q d) [
      | inl at ↦
          ap (map.get (unbound (bound m d name f) d name)) at ∙ at_changed (bound m d name f) d (λ node. unbind_in node name) ∙ ap (option_map (λ node. unbind_in node name)) (at_changed m d (λ node. bind_in node name f))
          ∙ ap (λ o. option_map (λ node. unbind_in node name) (option_map (λ node. bind_in node name f) o)) there.1 ∙ ap Some (bind_undone there.0 name f there.2 none) ∙ sym (ap (map.get m) at ∙ there.1)
      | inr off ↦ off_changed (bound m d name f) d (λ node. unbind_in node name) q off ∙ off_changed m d (λ node. bind_in node name f) q off
    ])

pub dir_bound : (m : Nodes) (d : Fid) (name : Name) (f q : Fid) → IsDirAt m q → IsDirAt (bound m d name f) q
dir_bound m d name f q is = dir_changed m d (λ node. bind_in node name f) (λ node h. tt) q is

-- what a directory binds stays when a node is put at a free fid
pub dir_put : (m : Nodes) (dir fid : Fid) (node : Node) → IsDirAt m dir → map.get m fid ≡ None → IsDirAt (map.insert m fid node) dir
dir_put m dir fid node is free = subst IsDirNode (sym (get_dir_put m dir fid node is free)) is

pub child_put : (m : Nodes) (dir : Fid) (name : Name) (fid : Fid) (node : Node) → IsDirAt m dir → map.get m fid ≡ None → child (map.insert m fid node) dir name ≡ child m dir name
child_put m dir name fid node is free = ap (λ o. child_of o name) (get_dir_put m dir fid node is free)

-- the old name of a node that is bound at the new one is all that is left to be unbound
left_is : (m : Nodes) (from : Fid) (name : Name) (to : Fid) (new : Name) (f : Fid) → left_behind (bound m to new f) from name to new ≡ bound (unbound m from name) to new f
left_is m from name to new f = go (same_fid from to) (is_eq (name_cmp name new)) refl refl ∙ moved_is m from name to new f
  where
    self_tied : (n : Name) → is_eq (name_cmp n n) ≡ true
    self_tied n = ap is_eq (tied_itself nat_list_cmp_total n)

    go : (d n : Bool) → same_fid from to ≡ d → is_eq (name_cmp name new) ≡ n → cond (is_same_place from name to new) (bound m to new f) (unbound (bound m to new f) from name) ≡ moved m from name to new f
    go true true d n = (λ i. cond (d i && n i) (bound m to new f) (unbound (bound m to new f) from name)) ∙ sym (moved_same m from name to new f (same_fid_is from to d, exact_bytes name new (eq_true _ n)))
    go false n d e = (λ i. cond (d i && e i) (bound m to new f) (unbound (bound m to new f) from name))
        ∙ sym (moved_apart m from name to new f (λ same. both_ways _ d (ap (same_fid from) (sym same.0) ∙ same_fid_refl from)))
    go true false d e = (λ i. cond (d i && e i) (bound m to new f) (unbound (bound m to new f) from name))
        ∙ sym (moved_apart m from name to new f (λ same. both_ways _ e (ap (λ x. is_eq (name_cmp name x)) (sym same.1) ∙ self_tied name)))

-- ---- what an operation makes of the cache that makes no node

-- what is made of it by its edits and what it takes out, moves and mentions
abbrev made_by : CacheState → ℕ → Sid → Op → CacheState
made_by c time sid op = record {
  size = c.size;
  nodes = taken_from (edited_all c.nodes (effects time sid op)) (taken_below c (taken_out op));
  holds = all_dirty (moved_in (moved_node op) (taken_from c.holds (taken_below c (taken_out op)))) (fids_of op);
  recency = except_all c.recency (taken_below c (taken_out op));
  priorities = c.priorities;
}

made_is : (c : CacheState) (client : ℕ) (rec : Record) (op : Op) → rec.op ≡ op → new_node op ≡ None → made_by c rec.time (sid_of client rec) op ≡ mutated c client rec
unfolding applied
made_is c client rec op is none = ap (made_by c rec.time (sid_of client rec)) (sym is) ∙ sym (mutated_changed c client rec (ap new_node is ∙ none))

-- the cache without a node whose copy was taken out before
gone_is : (c : CacheState) (m : Nodes) (f : Fid) → Agree c.nodes c.holds c.recency → has m f ≡ has c.nodes f →
    removed (with_nodes c m) f ≡ record { size = c.size; nodes = taken_from (map.remove m f) (at_or_below c f); holds = taken_from c.holds (at_or_below c f); recency = except_all c.recency (at_or_below c f); priorities = c.priorities }
gone_is c m f a same =
    ap (dropped (with_nodes c m)) (below_nodes c m f)
    ∙ (λ i. record { size = c.size; nodes = sym (out_first m f (at_or_below c f) (λ is. self_below c f a (sym same ∙ is))) i; holds = taken_from c.holds (at_or_below c f); recency = except_all c.recency (at_or_below c f); priorities = c.priorities })

-- ---- what has begun

-- what is answered, and what it is then
pub begun_ok : {E : Type 0} (r : Result Begun E) (b : Begun) (P : Begun → Type 0) → IfOk r (λ x. x ≡ b) → P b → IfOk r P
begun_ok (Ok x) b P was begun = subst P (sym was) begun
begun_ok (Err e) b P was begun = tt

-- the same, of what stands where there is an answer
pub begun_with : {E : Type 0} (r : Result Begun E) (b : Begun) (N : Type 0) (P : Begun → Type 0) → IfOk r (λ x. x ≡ b) → OnOk r N → (N → P b) → IfOk r P
begun_with (Ok x) b N P was n begun = subst P (sym was) (begun n)
begun_with (Err e) b N P was n begun = tt

-- a node is made
module _ (old : CacheState) (client : ℕ) (rec : Record) (dir : Fid) (name : Name) (fid : Fid) (node : Node) (a : Agree old.nodes old.holds old.recency) (may : MayCreate old.nodes dir name fid) where
  unheld : (o : Option Hold) → is_some o ≡ false → o ≡ None
  unheld None h = refl
  unheld (Some hold) h = absurd (both_ways _ h refl)

  not_held : map.get old.holds fid ≡ None
  not_held = unheld (map.get old.holds fid) (a.held fid ∙ ap (λ (o : Option Node). is_some o) may.fid_free)

  not_cached : is_cached old fid ≡ false
  not_cached = ap (λ (o : Option Node). is_some o) may.fid_free

  put_first : bound (map.insert old.nodes fid node) dir name fid ≡ added old.nodes dir name fid node
  put_first = let there = dir_node old.nodes dir may.dir_there in added_put_first old.nodes dir name fid node there.0 there.1 may.fid_free

  abbrev put_hold : Hold
  put_hold = record { parent = kept_parent (map.get old.holds fid) (Some dir); from = None; dirty = false }

  same_dirty : all_dirty (map.insert old.holds fid put_hold) (dir ∷ fid ∷ []) ≡ all_dirty (map.insert old.holds fid (new_hold dir)) (dir ∷ fid ∷ [])
  same_dirty = map.same_map fids_total exact_fids _ _ (λ q. dirty_at (map.insert old.holds fid put_hold) (dir ∷ fid ∷ []) q ∙ elim (fid_cases q fid) [
    | inl at ↦ ap (λ x. option_map (noted (dir ∷ fid ∷ []) x) (map.get (map.insert old.holds fid put_hold) x)) at ∙ ap (option_map (noted (dir ∷ fid ∷ []) fid)) (get_here fids_total old.holds fid put_hold)
        ∙ here ∙ sym (ap (option_map (noted (dir ∷ fid ∷ []) fid)) (get_here fids_total old.holds fid (new_hold dir))) ∙ ap (λ x. option_map (noted (dir ∷ fid ∷ []) x) (map.get (map.insert old.holds fid (new_hold dir)) x)) (sym at)
    | inr off ↦ ap (option_map (noted (dir ∷ fid ∷ []) q)) (get_else fids_total exact_fids old.holds fid put_hold q off ∙ sym (get_else fids_total exact_fids old.holds fid (new_hold dir) q off))
  ] ∙ sym (dirty_at (map.insert old.holds fid (new_hold dir)) (dir ∷ fid ∷ []) q))
    where
      or_true : (b : Bool) → (b || true) ≡ true
      or_true true = refl
      or_true false = refl

      listed : is_listed (dir ∷ fid ∷ []) fid ≡ true
      listed = ap (λ b. same_fid dir fid || (b || false)) (same_fid_refl fid) ∙ or_true (same_fid dir fid)

      here : Some (noted (dir ∷ fid ∷ []) fid put_hold) ≡ Some (noted (dir ∷ fid ∷ []) fid (new_hold dir))
      here = λ i. Some (let hold : Hold = record { parent = kept_parent (not_held i) (Some dir); from = None; dirty = listed i } in hold)

  pub begun_made : new_node rec.op ≡ Some (dir, fid) → fids_of rec.op ≡ dir ∷ fid ∷ [] → applied old.nodes client rec ≡ added old.nodes dir name fid node → HasBegun old (created old dir name fid node) client rec (Made dir name fid)
  begun_made makes listed is = record {
    may = dir_bound (map.insert old.nodes fid node) dir name fid dir (dir_put old.nodes dir fid node may.dir_there may.fid_free);
    finishes =
        (λ i. let c : CacheState = record { size = old.size; nodes = (put_first ∙ sym is) i; holds = (same_dirty ∙ ap (all_dirty (map.insert old.holds fid (new_hold dir))) (sym listed)) i; recency = (created old dir name fid node).recency; priorities = old.priorities } in c)
        ∙ sym (mutated_made old client rec dir fid makes);
    undoes =
        (λ i. without (with_nodes (put_in old fid (Some dir) node None) (bind_back (map.insert old.nodes fid node) dir name fid (dir_put old.nodes dir fid node may.dir_there may.fid_free) (child_put old.nodes dir name fid node may.dir_there may.fid_free ∙ may.name_free) i)) fid)
        ∙ put_undone old fid (Some dir) node None a not_cached;
  }

module _ (old : CacheState) (client : ℕ) (rec : Record) (dir : Fid) (name : Name) (fid : Fid) (a : Agree old.nodes old.holds old.recency) (may : MayCreate old.nodes dir name fid) where
  pub begun_create : (mode owner : ℕ) → rec.op ≡ Create dir name fid mode owner → HasBegun old (created old dir name fid (empty_file mode owner rec.time (sid_of client rec))) client rec (Made dir name fid)
  unfolding applied added
  begun_create mode owner op = begun_made old client rec dir name fid (empty_file mode owner rec.time (sid_of client rec)) a may (ap new_node op) (ap fids_of op) (ap (λ (o : Op). edited_all old.nodes (effects rec.time (sid_of client rec) o)) op)

  pub begun_mkdir : (mode owner : ℕ) → rec.op ≡ Mkdir dir name fid mode owner → HasBegun old (created old dir name fid (empty_dir mode owner rec.time (sid_of client rec))) client rec (Made dir name fid)
  unfolding applied added
  begun_mkdir mode owner op = begun_made old client rec dir name fid (empty_dir mode owner rec.time (sid_of client rec)) a may (ap new_node op) (ap fids_of op) (ap (λ (o : Op). edited_all old.nodes (effects rec.time (sid_of client rec) o)) op)

  pub begun_symlink : (target : List ℕ) (mode owner : ℕ) → rec.op ≡ Symlink dir name fid target mode owner → HasBegun old (created old dir name fid (new_link target mode owner rec.time (sid_of client rec))) client rec (Made dir name fid)
  unfolding applied added
  begun_symlink target mode owner op = begun_made old client rec dir name fid (new_link target mode owner rec.time (sid_of client rec)) a may (ap new_node op) (ap fids_of op) (ap (λ (o : Op). edited_all old.nodes (effects rec.time (sid_of client rec) o)) op)

-- nothing is changed yet
module _ (c : CacheState) (client : ℕ) (rec : Record) where
  pub begun_store : (fid : Fid) (pre : Sid) (content : List ℕ) → rec.op ≡ Store fid pre content → blocks_of (File content) < 2 ^ 32 → HasBegun c c client rec (Content fid content rec.time (sid_of client rec))
  begun_store fid pre content op few = record { may = few; finishes = made_is c client rec (Store fid pre content) op refl; undoes = refl }

  pub begun_setattr : (fid : Fid) (pre : Sid) (attrs : Attrs) → rec.op ≡ Setattr fid pre attrs → HasBegun c c client rec (Attributes fid attrs (sid_of client rec))
  begun_setattr fid pre attrs op = record { may = tt; finishes = made_is c client rec (Setattr fid pre attrs) op refl; undoes = refl }

  unbound_has : (dir : Fid) (name : Name) (q : Fid) → has (unbound c.nodes dir name) q ≡ has c.nodes q
  unbound_has dir name q = has_changed c.nodes dir (λ node. unbind_in node name) q

  pub begun_remove : (dir : Fid) (name : Name) (fid : Fid) (pre : Sid) → Agree c.nodes c.holds c.recency → rec.op ≡ Remove dir name fid pre → IsDirAt c.nodes dir → HasBegun c c client rec (Leaving dir name fid)
  begun_remove dir name fid pre a op may = record {
    may = may;
    finishes = ap (λ s. dirtied s (dir ∷ fid ∷ [])) (gone_is c (unbound c.nodes dir name) fid a (unbound_has dir name fid)) ∙ made_is c client rec (Remove dir name fid pre) op refl;
    undoes = refl;
  }

  pub begun_rmdir : (dir : Fid) (name : Name) (fid : Fid) (pre : Sid) → Agree c.nodes c.holds c.recency → rec.op ≡ Rmdir dir name fid pre → IsDirAt c.nodes dir → HasBegun c c client rec (Leaving dir name fid)
  begun_rmdir dir name fid pre a op may = record {
    may = may;
    finishes = ap (λ s. dirtied s (dir ∷ fid ∷ [])) (gone_is c (unbound c.nodes dir name) fid a (unbound_has dir name fid)) ∙ made_is c client rec (Rmdir dir name fid pre) op refl;
    undoes = refl;
  }

-- the edits of a move over another node
replaced_is : (m : Nodes) (over from_dir : Fid) (from : Name) (to_dir : Fid) (to : Name) (fid : Fid) → replaced m over from_dir from to_dir to fid ≡ bound (unbound (map.remove m over) from_dir from) to_dir to fid
unfolding replaced
replaced_is m over from_dir from to_dir to fid = refl

-- a rename
module _ (c : CacheState) (client : ℕ) (rec : Record) (from_dir : Fid) (from : Name) (to_dir : Fid) (to : Name) (fid : Fid) where
  pub begun_move : rec.op ≡ Rename from_dir from to_dir to fid None → MayRename c.nodes from_dir to_dir to None → HasBegun c (with_nodes c (bound c.nodes to_dir to fid)) client rec (Moving from_dir from to_dir to fid)
  begun_move op may = record {
    may = (dir_bound c.nodes to_dir to fid from_dir may.from_there, dir_bound c.nodes to_dir to fid to_dir may.to_there);
    finishes = ap (λ m. dirtied (moved_under (Some (fid, to_dir)) (with_nodes c m)) (from_dir ∷ to_dir ∷ fid ∷ [])) (left_is c.nodes from_dir from to_dir to fid)
        ∙ made_is c client rec (Rename from_dir from to_dir to fid None) op refl;
    undoes = ap (with_nodes c) (bind_back c.nodes to_dir to fid may.to_there may.bound);
  }

  pub begun_replacing : (over : Over) → Agree c.nodes c.holds c.recency → rec.op ≡ Rename from_dir from to_dir to fid (Some over) → MayRename c.nodes from_dir to_dir to (Some over) → HasBegun c c client rec (Replacing over.fid from_dir from to_dir to fid)
  begun_replacing over a op may = record {
    may = (may.from_there, may.to_there, may.bound);
    finishes =
        ap (λ s. dirtied (moved_under (Some (fid, to_dir)) s) (from_dir ∷ to_dir ∷ fid ∷ over.fid ∷ [])) (gone_is c (moved c.nodes from_dir from to_dir to fid) over.fid a (has_moved c.nodes from_dir from to_dir to fid over.fid)
        ∙ (λ i. let s : CacheState = record {
          size = c.size;
          nodes = taken_from ((replaced_last c.nodes over.fid from_dir from to_dir to fid ∙ replaced_is c.nodes over.fid from_dir from to_dir to fid) i) (at_or_below c over.fid);
          holds = taken_from c.holds (at_or_below c over.fid);
          recency = except_all c.recency (at_or_below c over.fid);
          priorities = c.priorities;
        } in s))
        ∙ made_is c client rec (Rename from_dir from to_dir to fid (Some over)) op refl;
    undoes = refl;
  }
