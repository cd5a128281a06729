-- What goes with an operation: an object, and all that is held below it. Where each object is bound by its parent, it goes alone.
use Rattle.std.proofs.Common.{◌≡◌, ℕ, Bool, true, false, cond, Option, Some, None, is_some, refl, sym, ap, ◌∙◌, subst, inl, inr}
use Rattle.std.specs.Prelude.{not}
use Rattle.std.specs.FinMap as map
use Rattle.std.specs.FinMap.{FinMap}
use Rattle.std.proofs.lemmas.Bool.{false≢true}
use Rattle.std.proofs.lemmas.Option.{none-some}
use Rattle.coda_fid.specs.Fid.{fid_cmp}
use Rattle.coda_fid.specs.declared.fid.Fid.{Fid}
use Rattle.coda_fid.specs.declared.fid.Sid.{Sid}
use Rattle.coda_fid.specs.declared.op.Op.{Op}
use Rattle.coda_fid.specs.declared.op.Op.TheVariants.{Create, Mkdir, Symlink, Store, Setattr, Remove, Rmdir, Rename}
use Rattle.coda_fid.specs.declared.op.Record.{Record}
use Rattle.coda_fid.proofs.Fids.{fids_total, exact_fids}
use Rattle.coda_tree.specs.declared.node.Node.{Node}
use Rattle.coda_tree.specs.Bindings.{Name}
use Rattle.coda_tree.specs.Volume.{Nodes, child, child_of, has, bind_in, unbind_in, unbound, moves, edited_all}
use Rattle.coda_tree.proofs.Order.{fid_cases, gone_here, gone_else}
use Rattle.coda_tree.proofs.Changes.{has_changed}
use Rattle.coda_cancel.proofs.Keys.{fid_same, fid_other}
use Rattle.coda_certify.specs.Replay.{effects, sid_of, applied}
use Rattle.coda_venus.specs.Held.{Parents, Held, AreBound, taken_out, stays, held_without, parents_after, held_after_operation}
use Rattle.coda_venus.specs.Accepting.{Sight}
use Rattle.coda_venus.proofs.Accepted.{Relies}
use Rattle.coda_histories.proofs.Ways.{some_fid, get_left, below_alone}

-- ---- what is left

left_had : (m : Nodes) (test : Fid → Bool) (f : Fid) → has (map.retain_keys m test) f ≡ true → has m f ≡ true
left_had m test f is = (elim (test f) as (λ b. is_some (cond b (map.get m f) None) ≡ true → has m f ≡ true) [
  | true ↦ λ at. at
  | false ↦ λ at. absurd (false≢true at)
]) (sym (ap is_some (get_left m test f)) ∙ is)

left_bound : (m : Nodes) (test : Fid → Bool) (dir f : Fid) (name : Name) → child (map.retain_keys m test) dir name ≡ Some f → child m dir name ≡ Some f
left_bound m test dir f name is = (elim (test dir) as (λ b. child_of (cond b (map.get m dir) None) name ≡ Some f → child m dir name ≡ Some f) [
  | true ↦ λ at. at
  | false ↦ λ at. absurd (none-some f at)
]) (sym (ap (λ o. child_of o name) (get_left m test dir)) ∙ is)

-- what is left of directories binds what they bound
pub left_binds : (m : Nodes) (test : Fid → Bool) (dir f : Fid) (name : Name) → test dir ≡ true → child m dir name ≡ Some f → child (map.retain_keys m test) dir name ≡ Some f
left_binds m test dir f name passes was = ap (λ o. child_of o name) (get_left m test dir ∙ ap (λ b. cond b (map.get m dir) None) passes) ∙ was

-- what is held once an object went was held
pub had_with : (gone : Option Fid) (parents : Parents) (h : Held) (f : Fid) → has (held_without gone parents h).nodes f ≡ true → has h.nodes f ≡ true
had_with None parents h f is = is
had_with (Some gone) parents h f is = left_had h.nodes (stays parents gone) f is

-- and what is bound then was bound
pub bound_with : (gone : Option Fid) (parents : Parents) (h : Held) (dir f : Fid) (name : Name) → child (held_without gone parents h).nodes dir name ≡ Some f → child h.nodes dir name ≡ Some f
bound_with None parents h dir f name is = is
bound_with (Some gone) parents h dir f name is = left_bound h.nodes (stays parents gone) dir f name is

-- ---- what goes alone

-- an object that binds nothing is nobody's parent, where each is bound by its parent
no_parent : (h : Held) (fid : Fid) → AreBound h → ((name : Name) → child h.nodes fid name ≡ None) → (f : Fid) → map.get h.parents f ≡ Some fid → ⊥
no_parent h fid bound leaf f is = (let at = bound f fid is in none-some f (sym (leaf at.0) ∙ at.1))

-- what is left where an object that is nobody's parent goes is all but the object
left_alone : {X : Type 0} (parents : Parents) (gone : Fid) (m : FinMap fid_cmp X) → ((f : Fid) → map.get parents f ≡ Some gone → ⊥) → map.retain_keys m (stays parents gone) ≡ map.remove m gone
left_alone parents gone m childless = map.same_map fids_total exact_fids _ _ (λ q.
    get_left m (stays parents gone) q ∙ ap (λ b. cond (not b) (map.get m q) None) (below_alone parents gone childless q) ∙ elim (fid_cases q gone) [
      | inl same ↦ ap (λ b. cond (not b) (map.get m q) None) (fid_same q gone same) ∙ sym (ap (map.get (map.remove m gone)) same ∙ gone_here fids_total m gone)
      | inr other ↦ ap (λ b. cond (not b) (map.get m q) None) (fid_other q gone other) ∙ sym (gone_else fids_total exact_fids m gone q other)
    ])

-- what isn't there is gone
remove_none : {X : Type 0} (m : FinMap fid_cmp X) (gone : Fid) → map.get m gone ≡ None → map.remove m gone ≡ m
remove_none m gone none = map.same_map fids_total exact_fids _ _ (λ q. elim (fid_cases q gone) [
  | inl same ↦ ap (map.get (map.remove m gone)) same ∙ gone_here fids_total m gone ∙ sym (ap (map.get m) same ∙ none)
  | inr other ↦ gone_else fids_total exact_fids m gone q other
])

-- ---- what an operation takes out

none_of : (o : Option Node) → is_some o ≡ false → o ≡ None
none_of None e = refl
none_of (Some node) e = absurd (false≢true (sym e))

moved_none : (m : Nodes) (from_dir : Fid) (from : Name) (to_dir : Fid) (to : Name) (fid f : Fid) → map.get m f ≡ None → map.get (edited_all m (moves from_dir from to_dir to fid)) f ≡ None
moved_none m from_dir from to_dir to fid f none =
    none_of (map.get (edited_all m (moves from_dir from to_dir to fid)) f)
    (has_changed (unbound m from_dir from) to_dir (λ n. bind_in n to fid) f ∙ has_changed m from_dir (λ n. unbind_in n from) f ∙ ap is_some none)

taken_by : (m : Nodes) (time : ℕ) (sid : Sid) (op : Op) (gone : Fid) → taken_out op ≡ Some gone → map.get (edited_all m (effects time sid op)) gone ≡ None
taken_by m time sid (Create dir name fid mode owner) gone is = absurd (none-some gone is)
taken_by m time sid (Mkdir dir name fid mode owner) gone is = absurd (none-some gone is)
taken_by m time sid (Symlink dir name fid target mode owner) gone is = absurd (none-some gone is)
taken_by m time sid (Store fid pre content) gone is = absurd (none-some gone is)
taken_by m time sid (Setattr fid pre attrs) gone is = absurd (none-some gone is)
taken_by m time sid (Remove dir name fid pre) gone is = subst (λ f. map.get (map.remove (unbound m dir name) fid) f ≡ None) (some_fid fid gone is) (gone_here fids_total (unbound m dir name) fid)
taken_by m time sid (Rmdir dir name fid pre) gone is = subst (λ f. map.get (map.remove (unbound m dir name) fid) f ≡ None) (some_fid fid gone is) (gone_here fids_total (unbound m dir name) fid)
taken_by m time sid (Rename from_dir from to_dir to fid None) gone is = absurd (none-some gone is)
taken_by m time sid (Rename from_dir from to_dir to fid (Some over)) gone is =
    subst (λ f. map.get (edited_all (map.remove m over.fid) (moves from_dir from to_dir to fid)) f ≡ None) (some_fid over.fid gone is)
    (moved_none (map.remove m over.fid) from_dir from to_dir to fid over.fid (gone_here fids_total m over.fid))

-- an object that an operation takes out isn't there after it
pub taken_none : (m : Nodes) (client : ℕ) (rec : Record) (gone : Fid) → taken_out rec.op ≡ Some gone → map.get (applied m client rec) gone ≡ None
unfolding applied
taken_none m client rec gone is = taken_by m rec.time (sid_of client rec) rec.op gone is

-- and bound nothing before
taken_leaf : (s : Sight) (volume : ℕ) (op : Op) (gone : Fid) → taken_out op ≡ Some gone → Relies s volume op → (name : Name) → child s.held.nodes gone name ≡ None
taken_leaf s volume (Create dir name fid mode owner) gone is r = absurd (none-some gone is)
taken_leaf s volume (Mkdir dir name fid mode owner) gone is r = absurd (none-some gone is)
taken_leaf s volume (Symlink dir name fid target mode owner) gone is r = absurd (none-some gone is)
taken_leaf s volume (Store fid pre content) gone is r = absurd (none-some gone is)
taken_leaf s volume (Setattr fid pre attrs) gone is r = absurd (none-some gone is)
taken_leaf s volume (Remove dir name fid pre) gone is r = subst (λ f. (n : Name) → child s.held.nodes f n ≡ None) (some_fid fid gone is) r.0.leaf
taken_leaf s volume (Rmdir dir name fid pre) gone is r = subst (λ f. (n : Name) → child s.held.nodes f n ≡ None) (some_fid fid gone is) r.0.leaf
taken_leaf s volume (Rename from_dir from to_dir to fid None) gone is r = absurd (none-some gone is)
taken_leaf s volume (Rename from_dir from to_dir to fid (Some over)) gone is r = subst (λ f. (n : Name) → child s.held.nodes f n ≡ None) (some_fid over.fid gone is) r.replaced.2

-- ---- what goes alone

-- the parents without that of an object
abbrev pub without : Option Fid → Parents → Parents
without None parents = parents
without (Some gone) parents = map.remove parents gone

-- Where each object is bound by its parent, what an accepted operation takes out is nobody's parent, so it goes alone.
pub goes_alone : (s : Sight) (volume client : ℕ) (rec : Record) → Relies s volume rec.op → AreBound s.held
    → held_after_operation s.held client rec ≡ (let h : Held = record { nodes = applied s.held.nodes client rec; parents = without (taken_out rec.op) (parents_after s.held.parents rec.op) } in h)
goes_alone s volume client rec relies bound = by (taken_out rec.op) refl
  where
    by : (o : Option Fid) → taken_out rec.op ≡ o → held_without o s.held.parents (record { nodes = applied s.held.nodes client rec; parents = parents_after s.held.parents rec.op })
        ≡ (let h : Held = record { nodes = applied s.held.nodes client rec; parents = without o (parents_after s.held.parents rec.op) } in h)
    by None is = refl
    by (Some gone) is =
        let none = no_parent s.held gone bound (taken_leaf s volume rec.op gone is relies) in
        let nodes = left_alone s.held.parents gone (applied s.held.nodes client rec) none ∙ remove_none (applied s.held.nodes client rec) gone (taken_none s.held.nodes client rec gone is) in
        let parents = left_alone s.held.parents gone (parents_after s.held.parents rec.op) none in
        λ i. let h : Held = record { nodes = nodes i; parents = parents i } in h

-- so the nodes are those that the operation leaves
pub nodes_alone : (s : Sight) (volume client : ℕ) (rec : Record) → Relies s volume rec.op → AreBound s.held → (held_after_operation s.held client rec).nodes ≡ applied s.held.nodes client rec
nodes_alone s volume client rec relies bound = ap (λ (h : Held). h.nodes) (goes_alone s volume client rec relies bound)
