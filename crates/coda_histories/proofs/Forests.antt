-- What is held stays a forest, with a directory as the parent of each object that has one.
use Rattle.std.proofs.Common.{◌≡◌, ◌≢◌, ℕ, suc, ◌+◌, ◌<◌, Bool, true, false, cond, Option, Some, None, is_some, refl, sym, ap, ◌∙◌, subst, inl, inr, arith}
use Rattle.std.specs.Prelude.{not}
use Rattle.std.specs.FinMap as map
use Rattle.std.proofs.lemmas.Bool.{false≢true}
use Rattle.std.proofs.lemmas.Option.{none-some}
use Rattle.coda_fid.specs.Fid.{fid_cmp, same_fid}
use Rattle.coda_fid.specs.declared.fid.Fid.{Fid}
use Rattle.coda_fid.specs.declared.op.Over.{Over}
use Rattle.coda_fid.specs.declared.op.Op.{Op}
use Rattle.coda_fid.specs.declared.op.Op.TheVariants.{Create, Mkdir, Symlink, Store, Setattr, Remove, Rmdir, Rename}
use Rattle.coda_fid.specs.declared.op.Record.{Record}
use Rattle.coda_fid.proofs.Fids.{fids_total, exact_fids, same_fid_is}
use Rattle.coda_tree.specs.declared.node.Node.{Node}
use Rattle.coda_tree.specs.declared.node.NodeKind.{NodeKind}
use Rattle.coda_tree.specs.declared.node.NodeKind.TheVariants.{File, Link, Dir}
use Rattle.coda_tree.specs.Bindings.{Name}
use Rattle.coda_tree.specs.Volume.{Nodes, child, child_of, has, IsDir, IsDirNode, IsDirAt, written, content_patch, attrs_patch, bind_in, unbind_in, bound, unbound, additions, removals, moves, edited_all}
use Rattle.coda_tree.proofs.Order.{fid_cases, get_here, get_else, gone_here, gone_else}
use Rattle.coda_tree.proofs.Changes.{has_changed, binder_is_dir}
use Rattle.coda_tree.proofs.Parents.{parent_sound}
use Rattle.coda_cancel.proofs.Keys.{fid_same, fid_other}
use Rattle.coda_certify.specs.Replay.{empty_file, empty_dir, new_link, rename_effects, sid_of, applied}
use Rattle.coda_venus.specs.Held.{Parents, Held, nothing_held, is_below, stays, held_without, held_after_operation, held_after_fetch}
use Rattle.coda_venus.specs.Accepting.{Sight, is_dir_kind, is_dir_at}
use Rattle.coda_venus.proofs.Accepted.{MayMove, Relies}
use Rattle.coda_venus.specs.Held.{held_after_drop}
use Rattle.coda_venus.specs.History.{IsParent, MayBeParent}
use Rattle.coda_histories.specs.Forests.{IsForest, ParentsAreDirs}
use Rattle.coda_histories.proofs.Apart.{IsApart}
use Rattle.coda_histories.proofs.Ways.{some_fid, left_was, left_there, below_itself, below_alone, stays_apart, below_by}

-- ---- what is held

-- an object that binds something is there
pub binds_there : (m : Nodes) (dir fid : Fid) (name : Name) → child m dir name ≡ Some fid → has m dir ≡ true
binds_there m dir fid name bound = by (map.get m dir) bound
  where
    by : (o : Option Node) → child_of o name ≡ Some fid → is_some o ≡ true
    by None e = absurd (none-some fid e)
    by (Some node) e = refl

dir_has : (o : Option Node) → IsDirNode o → is_some o ≡ true
dir_has None is = absurd is
dir_has (Some node) is = refl

absent : (m : Nodes) (fid : Fid) → map.get m fid ≡ None → has m fid ≡ true → ⊥
absent m fid none there = false≢true (sym (ap is_some none) ∙ there)

-- nothing is a forest
pub forest_none : IsForest nothing_held
forest_none = record {
  kids = λ f p is. absurd (none-some p (sym (map.get-empty fid_cmp f) ∙ is));
  parents = λ f p is. absurd (none-some p (sym (map.get-empty fid_cmp f) ∙ is));
  depth = λ f. 0;
  deeper = λ f p is. absurd (none-some p (sym (map.get-empty fid_cmp f) ∙ is));
}

-- all that was held is held still, and each parent was so before
forest_alike : (h : Held) (nodes : Nodes) (parents : Parents) → ((f : Fid) → has h.nodes f ≡ true → has nodes f ≡ true) → ((f p : Fid) → map.get parents f ≡ Some p → map.get h.parents f ≡ Some p) → IsForest h
    → IsForest (record { nodes = nodes; parents = parents })
forest_alike h nodes parents stay was forest = record {
  kids = λ f p is. stay f (forest.kids f p (was f p is));
  parents = λ f p is. stay p (forest.parents f p (was f p is));
  depth = forest.depth;
  deeper = λ f p is. forest.deeper f p (was f p is);
}

-- all that was held is held still, and its parents are as they were
pub forest_same : (h : Held) (nodes : Nodes) → ((f : Fid) → has h.nodes f ≡ true → has nodes f ≡ true) → IsForest h → IsForest (record { nodes = nodes; parents = h.parents })
forest_same h nodes stay forest = forest_alike h nodes h.parents stay (λ f p is. is) forest

-- an object gets the parent that it has
put_again : (parents : Parents) (fid dir f p : Fid) → map.get parents fid ≡ Some dir → map.get (map.insert parents fid dir) f ≡ Some p → map.get parents f ≡ Some p
put_again parents fid dir f p own is = elim (fid_cases f fid) [
  | inl same ↦ ap (map.get parents) same ∙ own ∙ sym (ap (map.get (map.insert parents fid dir)) same ∙ get_here fids_total parents fid dir) ∙ is
  | inr other ↦ sym (get_else fids_total exact_fids parents fid dir f other) ∙ is
]

-- an object that wasn't held is held now, below a directory that was
forest_put : (h : Held) (nodes : Nodes) (fid dir : Fid) → ((f : Fid) → has h.nodes f ≡ true → has nodes f ≡ true) → has nodes fid ≡ true → map.get h.nodes fid ≡ None → has h.nodes dir ≡ true → IsForest h
    → IsForest (record { nodes = nodes; parents = map.insert h.parents fid dir })
forest_put h nodes fid dir stay here new above forest = record {
  kids = λ f p is. elim (fid_cases f fid) [
    | inl same ↦ subst (λ q. has nodes q ≡ true) (sym same) here
    | inr other ↦ stay f (forest.kids f p (before f p other is))
  ];
  parents = λ f p is. elim (fid_cases f fid) [
    | inl same ↦ stay p (subst (λ q. has h.nodes q ≡ true) (at f p same is) above)
    | inr other ↦ stay p (forest.parents f p (before f p other is))
  ];
  depth = depth;
  deeper = λ f p is. elim (fid_cases f fid) [
    | inl same ↦ (
        let own : depth f ≡ suc (forest.depth dir) = ap depth same ∙ ap (λ b. cond b (suc (forest.depth dir)) (forest.depth fid)) (fid_same fid fid refl) in
        let up : depth p ≡ forest.depth dir = ap depth (sym (at f p same is)) ∙ ap (λ b. cond b (suc (forest.depth dir)) (forest.depth dir)) (fid_other dir fid apart) in
        omega (arith, own, up))
    | inr other ↦ (
        let was = before f p other is in
        let less = forest.deeper f p was in
        let own : depth f ≡ forest.depth f = ap (λ b. cond b (suc (forest.depth dir)) (forest.depth f)) (fid_other f fid other) in
        let up : depth p ≡ forest.depth p =
        ap (λ b. cond b (suc (forest.depth dir)) (forest.depth p)) (fid_other p fid (λ same. absent h.nodes fid new (subst (λ q. has h.nodes q ≡ true) same (forest.parents f p was)))) in
        omega (arith, less, own, up))
  ];
}
  where
    depth : Fid → ℕ
    depth f = cond (same_fid f fid) (suc (forest.depth dir)) (forest.depth f)

    before : (f p : Fid) → f ≢ fid → map.get (map.insert h.parents fid dir) f ≡ Some p → map.get h.parents f ≡ Some p
    before f p other is = sym (get_else fids_total exact_fids h.parents fid dir f other) ∙ is

    at : (f p : Fid) → f ≡ fid → map.get (map.insert h.parents fid dir) f ≡ Some p → dir ≡ p
    at f p same is = some_fid dir p (sym (ap (map.get (map.insert h.parents fid dir)) same ∙ get_here fids_total h.parents fid dir) ∙ is)

    apart : dir ≢ fid
    apart same = absent h.nodes fid new (subst (λ q. has h.nodes q ≡ true) same above)

-- a forest stays one where with each object that stays its parent does
forest_left : (h : Held) (nodes : Nodes) (test : Fid → Bool) → ((f : Fid) → test f ≡ true → has h.nodes f ≡ true → has nodes f ≡ true) → ((f p : Fid) → map.get h.parents f ≡ Some p → test f ≡ true → test p ≡ true) → IsForest h
    → IsForest (record { nodes = map.retain_keys nodes test; parents = map.retain_keys h.parents test })
forest_left h nodes test stay up forest = record {
  kids = λ f p is. (let was = left_was h.parents test f p is in there f was.0 (forest.kids f p was.1));
  parents = λ f p is. (let was = left_was h.parents test f p is in there p (up f p was.1 was.0) (forest.parents f p was.1));
  depth = forest.depth;
  deeper = λ f p is. forest.deeper f p (left_was h.parents test f p is).1;
}
  where
    there : (f : Fid) → test f ≡ true → has h.nodes f ≡ true → has (map.retain_keys nodes test) f ≡ true
    there f passes held = left_there nodes test f passes ∙ stay f passes held

-- the parent of who stays where an object goes stays, since who is below what goes goes too
pub stays_above : (h : Held) (gone f p : Fid) → IsForest h → map.get h.parents f ≡ Some p → stays h.parents gone f ≡ true → stays h.parents gone p ≡ true
stays_above h gone f p forest is here = (elim (is_below h.parents p gone) as (λ b. is_below h.parents p gone ≡ b → not b ≡ true) [
  | true ↦ λ up. absurd (false≢true (sym (ap not ((below_by h.parents forest.depth forest.deeper f p gone is).1 up)) ∙ here))
  | false ↦ λ _. refl
]) refl

-- an object goes, with all that is held below it
forest_gone : (h : Held) (nodes : Nodes) (gone : Fid) → ((f : Fid) → f ≢ gone → has h.nodes f ≡ true → has nodes f ≡ true) → IsForest h → IsForest (held_without (Some gone) h.parents (record { nodes = nodes; parents = h.parents }))
forest_gone h nodes gone stay forest = forest_left h nodes (stays h.parents gone) (λ f here. stay f (stays_apart h.parents gone f here)) (λ f p is. stays_above h gone f p forest is) forest

-- an object moves below a directory that isn't the object, nor below it: all below it stands deeper than the directory then
forest_moved : (h : Held) (nodes : Nodes) (fid dir : Fid) → ((f : Fid) → has h.nodes f ≡ true → has nodes f ≡ true) → has h.nodes fid ≡ true → has h.nodes dir ≡ true → is_below h.parents dir fid ≡ false → IsForest h
    → IsForest (record { nodes = nodes; parents = map.insert h.parents fid dir })
unfolding is_below
forest_moved h nodes fid dir stay here above apart forest = record {
  kids = λ f p is. elim (fid_cases f fid) [
    | inl same ↦ stay f (subst (λ q. has h.nodes q ≡ true) (sym same) here)
    | inr other ↦ stay f (forest.kids f p (before f p other is))
  ];
  parents = λ f p is. elim (fid_cases f fid) [
    | inl same ↦ stay p (subst (λ q. has h.nodes q ≡ true) (at f p same is) above)
    | inr other ↦ stay p (forest.parents f p (before f p other is))
  ];
  depth = depth;
  deeper = λ f p is. elim (fid_cases f fid) [
    | inl same ↦ (
        let up : depth p ≡ forest.depth dir = ap depth (sym (at f p same is)) ∙ ap (λ b. cond b (forest.depth dir + suc (forest.depth dir)) (forest.depth dir)) apart in
        let own : depth f ≡ forest.depth fid + suc (forest.depth dir) = ap depth same ∙ ap (λ b. cond b (forest.depth fid + suc (forest.depth dir)) (forest.depth fid)) (below_itself h.parents fid) in
        omega (arith, up, own))
    | inr other ↦ (
        let was = before f p other is in
        let less = forest.deeper f p was in
        let same : is_below h.parents f fid ≡ is_below h.parents p fid = alike f p other was in
        let own : depth f ≡ cond (is_below h.parents p fid) (forest.depth f + suc (forest.depth dir)) (forest.depth f) = ap (λ b. cond b (forest.depth f + suc (forest.depth dir)) (forest.depth f)) same in
        shifted (is_below h.parents p fid) f p own less)
  ];
}
  where
    depth : Fid → ℕ
    depth f = cond (is_below h.parents f fid) (forest.depth f + suc (forest.depth dir)) (forest.depth f)

    before : (f p : Fid) → f ≢ fid → map.get (map.insert h.parents fid dir) f ≡ Some p → map.get h.parents f ≡ Some p
    before f p other is = sym (get_else fids_total exact_fids h.parents fid dir f other) ∙ is

    at : (f p : Fid) → f ≡ fid → map.get (map.insert h.parents fid dir) f ≡ Some p → dir ≡ p
    at f p same is = some_fid dir p (sym (ap (map.get (map.insert h.parents fid dir)) same ∙ get_here fids_total h.parents fid dir) ∙ is)

    alike : (f p : Fid) → f ≢ fid → map.get h.parents f ≡ Some p → is_below h.parents f fid ≡ is_below h.parents p fid
    alike f p other is =
        let by = below_by h.parents forest.depth forest.deeper f p fid is in
        both_ways_so (is_below h.parents f fid) (is_below h.parents p fid)
        (λ below. elim (by.0 below) [ inl same ↦ absurd (other (same_fid_is f fid same)) | inr up ↦ up ]) by.1
      where
        both_ways_so : (a b : Bool) → (a ≡ true → b ≡ true) → (b ≡ true → a ≡ true) → a ≡ b
        both_ways_so true b to from = sym (to refl)
        both_ways_so false true to from = from refl
        both_ways_so false false to from = refl

    shifted : (b : Bool) (f p : Fid) → depth f ≡ cond b (forest.depth f + suc (forest.depth dir)) (forest.depth f) → forest.depth p < forest.depth f
        → cond b (forest.depth p + suc (forest.depth dir)) (forest.depth p) < depth f
    shifted true f p own less = omega (arith, own, less)
    shifted false f p own less = omega (arith, own, less)

-- ---- after a fetch, and after a drop

-- what a parent that may be given to an object is
pub may_be_dir : (m : Nodes) (fid dir : Fid) → MayBeParent m fid dir → IsDirAt m dir
may_be_dir m fid dir may = elim may [
  | inl at ↦ at.1
  | inr first ↦ (let bound = parent_sound m fid dir first in binder_is_dir m dir bound.0 fid bound.1)
]

-- an object is held, for the first time or again
pub forest_fetched : (h : Held) (fid : Fid) (parent : Option Fid) (node : Node) → IsParent h fid parent → IsForest h → IsForest (held_after_fetch h fid parent node)
forest_fetched h fid parent node is forest = by parent is
  where
    stay : (f : Fid) → has h.nodes f ≡ true → has (map.insert h.nodes fid node) f ≡ true
    stay f there = elim (fid_cases f fid) [
      | inl same ↦ ap is_some (ap (map.get (map.insert h.nodes fid node)) same ∙ get_here fids_total h.nodes fid node)
      | inr other ↦ ap is_some (get_else fids_total exact_fids h.nodes fid node f other) ∙ there
    ]

    by : (o : Option Fid) → IsParent h fid o → IsForest (held_after_fetch h fid o node)
    by None of = forest_same h (map.insert h.nodes fid node) stay forest
    by (Some dir) of = elim of [
      | inl own ↦ forest_alike h (map.insert h.nodes fid node) (map.insert h.parents fid dir) stay (λ f p at. put_again h.parents fid dir f p own at) forest
      | inr anew ↦ forest_put h (map.insert h.nodes fid node) fid dir stay (ap is_some (get_here fids_total h.nodes fid node)) anew.0 (dir_has (map.get h.nodes dir) (may_be_dir h.nodes fid dir anew.1)) forest
    ]

-- what is left where one object goes was there, and is another
pub without_was : (parents : Parents) (fid f p : Fid) → map.get (map.remove parents fid) f ≡ Some p → (f ≢ fid) × (map.get parents f ≡ Some p)
without_was parents fid f p is = elim (fid_cases f fid) [
  | inl same ↦ absurd (none-some p (sym (ap (map.get (map.remove parents fid)) same ∙ gone_here fids_total parents fid) ∙ is))
  | inr other ↦ (other, sym (gone_else fids_total exact_fids parents fid f other) ∙ is)
]

-- an object that is nobody's parent is dropped
pub forest_dropped : (h : Held) (fid : Fid) → ((f : Fid) → map.get h.parents f ≢ Some fid) → IsForest h → IsForest (held_after_drop h fid)
forest_dropped h fid childless forest = record {
  kids = λ f p is. (let was = without_was h.parents fid f p is in there f was.0 (forest.kids f p was.1));
  parents = λ f p is. (let was = without_was h.parents fid f p is in there p (λ same. childless f (was.1 ∙ ap Some same)) (forest.parents f p was.1));
  depth = forest.depth;
  deeper = λ f p is. forest.deeper f p (without_was h.parents fid f p is).1;
}
  where
    there : (f : Fid) → f ≢ fid → has h.nodes f ≡ true → has (map.remove h.nodes fid) f ≡ true
    there f other held = ap is_some (gone_else fids_total exact_fids h.nodes fid f other) ∙ held

-- ---- after an operation

-- what is there stays, but what is taken out
stays_added : (m : Nodes) (dir : Fid) (name : Name) (fid : Fid) (new : Node) (f : Fid) → has m f ≡ true → has (edited_all m (additions dir name fid new)) f ≡ true
stays_added m dir name fid new f there = elim (fid_cases f fid) [
  | inl same ↦ ap is_some (ap (map.get (map.insert (bound m dir name fid) fid new)) same ∙ get_here fids_total (bound m dir name fid) fid new)
  | inr other ↦ ap is_some (get_else fids_total exact_fids (bound m dir name fid) fid new f other) ∙ has_changed m dir (λ n. bind_in n name fid) f ∙ there
]

there_added : (m : Nodes) (dir : Fid) (name : Name) (fid : Fid) (new : Node) → has (edited_all m (additions dir name fid new)) fid ≡ true
there_added m dir name fid new = ap is_some (get_here fids_total (bound m dir name fid) fid new)

stays_removed : (m : Nodes) (dir : Fid) (name : Name) (fid f : Fid) → f ≢ fid → has m f ≡ true → has (edited_all m (removals dir name fid)) f ≡ true
stays_removed m dir name fid f other there = ap is_some (gone_else fids_total exact_fids (unbound m dir name) fid f other) ∙ has_changed m dir (λ n. unbind_in n name) f ∙ there

stays_moved : (m : Nodes) (from_dir : Fid) (from : Name) (to_dir : Fid) (to : Name) (fid f : Fid) → has m f ≡ true → has (edited_all m (moves from_dir from to_dir to fid)) f ≡ true
stays_moved m from_dir from to_dir to fid f there = has_changed (unbound m from_dir from) to_dir (λ n. bind_in n to fid) f ∙ has_changed m from_dir (λ n. unbind_in n from) f ∙ there

-- a creation puts a new object below a directory
forest_created : (h : Held) (dir : Fid) (name : Name) (fid : Fid) (new : Node) → IsDirNode (map.get h.nodes dir) → map.get h.nodes fid ≡ None → IsForest h
    → IsForest (record { nodes = edited_all h.nodes (additions dir name fid new); parents = map.insert h.parents fid dir })
forest_created h dir name fid new dir_there free forest =
    forest_put h (edited_all h.nodes (additions dir name fid new)) fid dir (stays_added h.nodes dir name fid new) (there_added h.nodes dir name fid new) free (dir_has (map.get h.nodes dir) dir_there) forest

-- the directory into which a rename moves an object isn't held below what it replaces, so it stays
abbrev pub IsBeside : Parents → Op → Type 0
IsBeside parents (Rename from_dir from to_dir to fid (Some over)) = is_below parents to_dir over.fid ≡ false
IsBeside parents op = Unit {0}

-- what a rename replaces goes with all below it; where the moved object is one of them, it goes too
forest_replaced : (h : Held) (from_dir : Fid) (from : Name) (to_dir : Fid) (to : Name) (fid : Fid) (over : Over) → MayMove h.nodes from_dir from to_dir to fid (Some over) → is_below h.parents to_dir fid ≡ false → is_below h.parents to_dir over.fid ≡ false → IsForest h
    → IsForest (held_without (Some over.fid) h.parents (record { nodes = edited_all h.nodes (rename_effects from_dir from to_dir to fid (Some over)); parents = map.insert h.parents fid to_dir }))
forest_replaced h from_dir from to_dir to fid over may apart beside forest =
    let less = map.remove h.nodes over.fid in
    let moved = forest_moved h h.nodes fid to_dir (λ f there. there) may.there (dir_has (map.get h.nodes to_dir) may.places.to_there) apart forest in
    forest_left (record { nodes = h.nodes; parents = map.insert h.parents fid to_dir }) (edited_all less (moves from_dir from to_dir to fid)) (stays h.parents over.fid)
    (λ f here there. stays_moved less from_dir from to_dir to fid f (ap is_some (gone_else fids_total exact_fids h.nodes over.fid f (stays_apart h.parents over.fid f here)) ∙ there))
    (λ f p is here. elim (fid_cases f fid) [
      | inl same ↦ (
          let at : to_dir ≡ p = some_fid to_dir p (sym (ap (map.get (map.insert h.parents fid to_dir)) same ∙ get_here fids_total h.parents fid to_dir) ∙ is) in
          subst (λ q. stays h.parents over.fid q ≡ true) at (ap not beside))
      | inr other ↦ stays_above h over.fid f p forest (sym (get_else fids_total exact_fids h.parents fid to_dir f other) ∙ is) here
    ]) moved

-- the client's own operation, which relies on what is held
pub forest_operation : (s : Sight) (volume client : ℕ) (rec : Record) → Relies s volume rec.op → IsApart s.held.parents rec.op → IsBeside s.held.parents rec.op → IsForest s.held → IsForest (held_after_operation s.held client rec)
unfolding applied
forest_operation s volume client rec relies apart beside forest = by rec.op relies apart beside
  where
    by : (op : Op) → Relies s volume op → IsApart s.held.parents op → IsBeside s.held.parents op → IsForest (held_after_operation s.held client (record { number = rec.number; time = rec.time; op = op }))
    by (Create dir name fid mode owner) r a b = forest_created s.held dir name fid (empty_file mode owner rec.time (sid_of client rec)) r.place.dir_there r.place.fid_free forest
    by (Mkdir dir name fid mode owner) r a b = forest_created s.held dir name fid (empty_dir mode owner rec.time (sid_of client rec)) r.place.dir_there r.place.fid_free forest
    by (Symlink dir name fid target mode owner) r a b = forest_created s.held dir name fid (new_link target mode owner rec.time (sid_of client rec)) r.place.dir_there r.place.fid_free forest
    by (Store fid pre content) r a b = forest_same s.held _ (λ f there. has_changed s.held.nodes fid (written (content_patch content rec.time) (sid_of client rec)) f ∙ there) forest
    by (Setattr fid pre attrs) r a b = forest_same s.held _ (λ f there. has_changed s.held.nodes fid (written (attrs_patch attrs) (sid_of client rec)) f ∙ there) forest
    by (Remove dir name fid pre) r a b = forest_gone s.held _ fid (stays_removed s.held.nodes dir name fid) forest
    by (Rmdir dir name fid pre) r a b = forest_gone s.held _ fid (stays_removed s.held.nodes dir name fid) forest
    by (Rename from_dir from to_dir to fid None) r a b =
        forest_moved s.held (edited_all s.held.nodes (moves from_dir from to_dir to fid)) fid to_dir (stays_moved s.held.nodes from_dir from to_dir to fid) r.there (dir_has (map.get s.held.nodes to_dir) r.places.to_there) a forest
    by (Rename from_dir from to_dir to fid (Some over)) r a b = forest_replaced s.held from_dir from to_dir to fid over r a b forest

pub no_dir : (o : Option Node) → IsDirNode o → is_dir_at o ≡ false → ⊥
no_dir None is file = absurd is
no_dir (Some node) is file = by node.kind is file
  where
    by : (kind : NodeKind) → IsDir kind → is_dir_kind kind ≡ false → ⊥
    by (File content) none e = absurd none
    by (Link target) none e = absurd none
    by (Dir entries) all e = false≢true (sym e)

-- then what a rename replaces is nobody's parent, since it is no directory
pub beside_dirs : (s : Sight) (volume : ℕ) (op : Op) → Relies s volume op → ParentsAreDirs s.held → IsBeside s.held.parents op
beside_dirs s volume (Create dir name fid mode owner) r dirs = tt
beside_dirs s volume (Mkdir dir name fid mode owner) r dirs = tt
beside_dirs s volume (Symlink dir name fid target mode owner) r dirs = tt
beside_dirs s volume (Store fid pre content) r dirs = tt
beside_dirs s volume (Setattr fid pre attrs) r dirs = tt
beside_dirs s volume (Remove dir name fid pre) r dirs = tt
beside_dirs s volume (Rmdir dir name fid pre) r dirs = tt
beside_dirs s volume (Rename from_dir from to_dir to fid None) r dirs = tt
beside_dirs s volume (Rename from_dir from to_dir to fid (Some over)) r dirs =
    let other : to_dir ≢ over.fid = λ same. none-some over.fid (sym (r.replaced.2 to) ∙ ap (λ d. child s.held.nodes d to) (sym same) ∙ r.places.bound) in
    below_alone s.held.parents over.fid (λ f is. no_dir (map.get s.held.nodes over.fid) (dirs f over.fid is) r.replaced.3) to_dir ∙ fid_other to_dir over.fid other
