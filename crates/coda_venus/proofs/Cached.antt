-- What a client holds changes with its cache as its entries say.
use Rattle.std.proofs.Common.{◌≡◌, ◌≢◌, ℕ, zero, suc, Bool, true, false, cond, not, ◌&&◌, ◌||◌, List, [], ◌∷◌, Option, Some, None, option_map, is_some, refl, sym, ap, ◌∙◌, inl, inr, ◌⊎◌}
use Rattle.std.specs.FinMap as map
use Rattle.std.specs.FinMap.{FinMap}
use Rattle.std.specs.Option.{option_map_or}
use Rattle.std.proofs.lemmas.Bool.{both_ways}
use Rattle.coda_fid.specs.Fid.{fid_cmp, same_fid}
use Rattle.coda_fid.specs.Op.{fids_of}
use Rattle.coda_fid.specs.declared.fid.Fid.{Fid}
use Rattle.coda_fid.specs.declared.op.Op.{Op}
use Rattle.coda_fid.specs.declared.op.Op.TheVariants.{Create, Mkdir, Symlink, Store, Setattr, Remove, Rmdir, Rename}
use Rattle.coda_fid.specs.declared.op.Record.{Record}
use Rattle.coda_fid.proofs.Fids.{fids_total, exact_fids}
use Rattle.coda_tree.specs.declared.node.Node.{Node}
use Rattle.coda_tree.specs.Slots.{altered, altered_at}
use Rattle.coda_tree.specs.Volume.{Nodes, has}
use Rattle.coda_tree.proofs.Order.{fid_cases, get_here, get_else, gone_here, gone_else}
use Rattle.coda_cancel.proofs.Keys.{fid_true, fid_same}
use Rattle.coda_certify.specs.Replay.{applied}
use Rattle.coda_walk.specs.Going.{is_listed}
use Rattle.coda_cache.specs.declared.hold.Hold.{Hold}
use Rattle.coda_cache.specs.Keeping.{Agree}
use Rattle.coda_cache.specs.State.{CacheState, Holds, empty_cache, parent_held}
use Rattle.coda_cache.specs.Steps.{made_dirty, set_dirty, marked, not_valid, invalidated, under, kept_parent, put_in, without, taken_from, dropped, new_node, taken_out as out_of, taken_below, held_new, new_hold, all_dirty, mutated}
use Rattle.coda_cache.specs.Ways.{at_or_below, is_below as is_below_in}
use Rattle.coda_cache.proofs.Kept.{listed_where}
use Rattle.coda_cache.proofs.Taken.{taken_at}
use Rattle.coda_venus.specs.Code.{held_in}
use Rattle.coda_venus.specs.Held.{Held, Parents, nothing_held, is_below, stays, with_parent, held_after_operation, held_after_fetch, held_after_drop}
use Rattle.coda_venus.specs.History.{IsParent}
use Rattle.coda_venus.specs.Operating.{MayBegin, IsThere}
use Rattle.coda_cache.specs.Parents.{parents_of, below_within}
use Rattle.coda_cache.proofs.Parents.{parent_there, below_alike}

-- parents that are alike at each object
pub same_parents : (p q : Parents) → ((f : Fid) → map.get p f ≡ map.get q f) → p ≡ q
same_parents p q alike = map.same_map fids_total exact_fids p q alike

pub held_is : (nodes one : Nodes) (parents other : Parents) → nodes ≡ one → parents ≡ other → (let h : Held = record { nodes = nodes; parents = parents } in h) ≡ (let h : Held = record { nodes = one; parents = other } in h)
held_is nodes one parents other n p = λ i. let h : Held = record { nodes = n i; parents = p i } in h

-- ---- what an object's parent is once its hold changed

apart : (a b : Fid) → a ≢ b → same_fid a b ≡ false
apart a b other = by (same_fid a b) refl
  where
    by : (t : Bool) → same_fid a b ≡ t → t ≡ false
    by true e = absurd (other (fid_true a b e))
    by false e = refl

at_or : {X : Type 0} (fid q : Fid) (x y : X) → (q ≡ fid) ⊎ (q ≢ fid) → (z : X) → (q ≡ fid → z ≡ x) → (q ≢ fid → z ≡ y) → z ≡ cond (same_fid fid q) x y
at_or fid q x y (inl same) z here else = here same ∙ sym (ap (λ b. cond b x y) (fid_same fid q (sym same)))
at_or fid q x y (inr other) z here else = else other ∙ sym (ap (λ b. cond b x y) (apart fid q (λ e. other (sym e))))

-- it is held so
parents_put : (holds : Holds) (fid : Fid) (hold : Hold) (q : Fid) → map.get (parents_of (map.insert holds fid hold)) q ≡ cond (same_fid fid q) hold.parent (map.get (parents_of holds) q)
parents_put holds fid hold q = at_or fid q hold.parent (map.get (parents_of holds) q) (fid_cases q fid) (map.get (parents_of (map.insert holds fid hold)) q)
    (λ same. parent_there (map.insert holds fid hold) q ∙ ap parent_held (ap (map.get (map.insert holds fid hold)) same ∙ get_here fids_total holds fid hold))
    (λ other. parent_there (map.insert holds fid hold) q ∙ ap parent_held (get_else fids_total exact_fids holds fid hold q other) ∙ sym (parent_there holds q))

-- the same of a finite map of parents
put_at : (parents : Parents) (fid dir q : Fid) → map.get (map.insert parents fid dir) q ≡ cond (same_fid fid q) (Some dir) (map.get parents q)
put_at parents fid dir q = at_or fid q (Some dir) (map.get parents q) (fid_cases q fid) (map.get (map.insert parents fid dir) q)
    (λ same. ap (map.get (map.insert parents fid dir)) same ∙ get_here fids_total parents fid dir) (λ other. get_else fids_total exact_fids parents fid dir q other)

-- its hold changed in something else
altered_parents : (holds : Holds) (fid : Fid) (change : Hold → Hold) → ((hold : Hold) → (change hold).parent ≡ hold.parent) → (q : Fid) → map.get (parents_of (altered holds fid change)) q ≡ map.get (parents_of holds) q
altered_parents holds fid change keeps q = elim (map.get holds fid) as (λ o. map.get holds fid ≡ o → map.get (parents_of (altered_at o holds fid change)) q ≡ map.get (parents_of holds) q) [
  | None ↦ λ _. refl
  | Some hold ↦ λ is. parents_put holds fid (change hold) q ∙ elim (fid_cases q fid) [
    | inl same ↦
        ap (λ b. cond b (change hold).parent (map.get (parents_of holds) q)) (fid_same fid q (sym same)) ∙ keeps hold ∙ sym (ap parent_held is) ∙ sym (parent_there holds fid) ∙ sym (ap (map.get (parents_of holds)) same)
    | inr other ↦ ap (λ b. cond b (change hold).parent (map.get (parents_of holds) q)) (apart fid q (λ e. other (sym e)))
  ]
] refl

-- objects were mentioned
dirty_parents : (holds : Holds) (fids : List Fid) (q : Fid) → map.get (parents_of (all_dirty holds fids)) q ≡ map.get (parents_of holds) q
dirty_parents holds [] q = refl
dirty_parents holds (f ∷ fids) q = dirty_parents (altered holds f made_dirty) fids q ∙ altered_parents holds f made_dirty (λ hold. refl) q

-- it moved below another directory
moved_parents : (holds : Holds) (fid dir q : Fid) → map.get (parents_of (altered holds fid (under dir))) q ≡ cond (same_fid fid q) (option_map (λ (hold : Hold). dir) (map.get holds fid)) (map.get (parents_of holds) q)
moved_parents holds fid dir q = elim (map.get holds fid) as (λ o. map.get holds fid ≡ o → map.get (parents_of (altered_at o holds fid (under dir))) q ≡ cond (same_fid fid q) (option_map (λ (hold : Hold). dir) o) (map.get (parents_of holds) q)) [
  | None ↦ λ none. at_or fid q None (map.get (parents_of holds) q) (fid_cases q fid) (map.get (parents_of holds) q) (λ same. ap (map.get (parents_of holds)) same ∙ parent_there holds fid ∙ ap parent_held none) (λ _. refl)
  | Some hold ↦ λ _. parents_put holds fid (under dir hold) q
] refl

-- objects went
taken_parents : (holds : Holds) (fids : List Fid) (q : Fid) → map.get (parents_of (taken_from holds fids)) q ≡ cond (is_listed fids q) None (map.get (parents_of holds) q)
taken_parents holds fids q = parent_there (taken_from holds fids) q ∙ ap parent_held (taken_at holds fids q) ∙ by (is_listed fids q) ∙ sym (ap (cond (is_listed fids q) None) (parent_there holds q))
  where
    by : (b : Bool) → parent_held (cond b None (map.get holds q)) ≡ cond b None (parent_held (map.get holds q))
    by true = refl
    by false = refl

-- what stays of a finite map
retained_at : {X : Type 0} (m : FinMap fid_cmp X) (passes : Fid → Bool) (q : Fid) → map.get (map.retain_keys m passes) q ≡ cond (passes q) (map.get m q) None
retained_at m passes q = map.get-retain_keys m passes q (λ x e. ap passes (sym (exact_fids q x e)))

turned : {X : Type 0} (b : Bool) (o : Option X) → cond b None o ≡ cond (not b) o None
turned true o = refl
turned false o = refl

-- ---- a new cache

pub empty_held : (size : ℕ) → held_in (empty_cache size) ≡ nothing_held
empty_held size = held_is map.empty map.empty (parents_of map.empty) map.empty refl (same_parents (parents_of map.empty) map.empty (λ q. parent_there map.empty q ∙ ap parent_held (map.get-empty fid_cmp q) ∙ sym (map.get-empty fid_cmp q)))

-- ---- a fetch and a drop

pub fetch_held : (c : CacheState) (fid : Fid) (parent : Option Fid) (node : Node) (from : Option ℕ) → Agree c.nodes c.holds c.recency → IsParent (held_in c) fid parent → held_in (put_in c fid parent node from) ≡ held_after_fetch (held_in c) fid parent node
fetch_held c fid parent node from agree is =
    held_is _ _ (parents_of (map.insert c.holds fid (record { parent = kept_parent (map.get c.holds fid) parent; from = from; dirty = false }))) (with_parent (parents_of c.holds) fid parent) refl
    (same_parents _ _ (λ q. parents_put c.holds fid (record { parent = kept_parent (map.get c.holds fid) parent; from = from; dirty = false }) q ∙ by parent is q))
  where
    own : (o : Option Hold) → kept_parent o None ≡ parent_held o
    own None = refl
    own (Some hold) = refl

    given : (dir : Fid) (o : Option Hold) → map.get c.holds fid ≡ o → IsParent (held_in c) fid (Some dir) → kept_parent o (Some dir) ≡ Some dir
    given dir None at may = refl
    given dir (Some hold) at may = elim may [
      | inl there ↦ sym (ap parent_held at) ∙ sym (parent_there c.holds fid) ∙ there
      | inr new ↦ absurd (both_ways (has c.nodes fid) (ap is_some new.0) (sym (agree.held fid) ∙ ap is_some at))
    ]

    by : (o : Option Fid) → IsParent (held_in c) fid o → (q : Fid) → cond (same_fid fid q) (kept_parent (map.get c.holds fid) o) (map.get (parents_of c.holds) q) ≡ map.get (with_parent (parents_of c.holds) fid o) q
    by None may q = sym (at_or fid q (kept_parent (map.get c.holds fid) None) (map.get (parents_of c.holds) q) (fid_cases q fid) (map.get (parents_of c.holds) q)
        (λ same. ap (map.get (parents_of c.holds)) same ∙ parent_there c.holds fid ∙ sym (own (map.get c.holds fid))) (λ _. refl))
    by (Some dir) may q = ap (λ x. cond (same_fid fid q) x (map.get (parents_of c.holds) q)) (given dir (map.get c.holds fid) refl may) ∙ sym (put_at (parents_of c.holds) fid dir q)

pub drop_held : (c : CacheState) (fid : Fid) → held_in (without c fid) ≡ held_after_drop (held_in c) fid
drop_held c fid = held_is _ _ (parents_of (map.remove c.holds fid)) (map.remove (parents_of c.holds) fid) refl (same_parents _ _ (λ q. elim (fid_cases q fid) [
  | inl same ↦
      parent_there (map.remove c.holds fid) q ∙ ap parent_held (ap (map.get (map.remove c.holds fid)) same ∙ gone_here fids_total c.holds fid)
      ∙ sym (ap (map.get (map.remove (parents_of c.holds) fid)) same ∙ gone_here fids_total (parents_of c.holds) fid)
  | inr other ↦
      parent_there (map.remove c.holds fid) q ∙ ap parent_held (gone_else fids_total exact_fids c.holds fid q other) ∙ sym (parent_there c.holds q) ∙ sym (gone_else fids_total exact_fids (parents_of c.holds) fid q other)
]))

-- ---- what is kept beside what is held

pub marked_held : (c : CacheState) (fid : Fid) (dirty : Bool) → held_in (marked c fid dirty) ≡ held_in c
marked_held c fid dirty = held_is _ _ (parents_of (altered c.holds fid (set_dirty dirty))) (parents_of c.holds) refl (same_parents _ _ (altered_parents c.holds fid (set_dirty dirty) (λ hold. refl)))

pub invalidated_held : (c : CacheState) (fid : Fid) → held_in (invalidated c fid) ≡ held_in c
invalidated_held c fid = held_is _ _ (parents_of (altered c.holds fid not_valid)) (parents_of c.holds) refl (same_parents _ _ (altered_parents c.holds fid not_valid (λ hold. refl)))

-- ---- an operation

pub mutated_size : (c : CacheState) (client : ℕ) (rec : Record) → (mutated c client rec).size ≡ c.size
unfolding mutated
mutated_size c client rec = by (new_node rec.op)
  where
    by : (new : Option (Fid × Fid)) → (held_new new (dropped (record c { nodes = applied c.nodes client rec }) (taken_below c (out_of rec.op)))).size ≡ c.size
    by None = refl
    by (Some p) = refl

-- from an object that has no parent one doesn't go up
below_none : (parents : Parents) (steps : ℕ) (f g : Fid) → map.get parents f ≡ None → same_fid f g ≡ false → below_within parents steps f g ≡ false
below_none parents zero f g none other = other
below_none parents (suc steps) f g none other = ap (λ o. same_fid f g || option_map_or (λ p. below_within parents steps p g) o false) none ∙ ap (λ b. b || false) other

-- what goes with an object that is held is what is held below it
listed_below : (c : CacheState) (gone : Fid) → Agree c.nodes c.holds c.recency → has c.nodes gone ≡ true → (q : Fid) → is_listed (at_or_below c gone) q ≡ is_below (parents_of c.holds) q gone
unfolding is_below
listed_below c gone agree there q =
    listed_where (λ g. is_below_in c g gone) c.recency q ∙ ap (λ b. is_below_in c q gone && b) (agree.used q) ∙ ap (λ b. b && has c.nodes q) (below_alike c q gone (agree.held gone ∙ there)) ∙ by (has c.nodes q) refl
  where
    below : Bool
    below = below_within (parents_of c.holds) (map.len (parents_of c.holds)) q gone

    no_hold : (o : Option Hold) → is_some o ≡ false → parent_held o ≡ None
    no_hold None e = refl
    no_hold (Some hold) e = absurd (both_ways _ e refl)

    by : (b : Bool) → has c.nodes q ≡ b → (below_within (parents_of c.holds) (map.len (parents_of c.holds)) q gone && b) ≡ below_within (parents_of c.holds) (map.len (parents_of c.holds)) q gone
    by true e = and_true_is (below_within (parents_of c.holds) (map.len (parents_of c.holds)) q gone)
      where
        and_true_is : (b : Bool) → (b && true) ≡ b
        and_true_is true = refl
        and_true_is false = refl
    by false e = and_false_is (below_within (parents_of c.holds) (map.len (parents_of c.holds)) q gone) ∙ sym (below_none (parents_of c.holds) (map.len (parents_of c.holds)) q gone (parent_there c.holds q ∙ no_hold (map.get c.holds q) (agree.held q ∙ e))
        (apart q gone (λ same. both_ways (has c.nodes q) e (ap (has c.nodes) same ∙ there))))
      where
        and_false_is : (b : Bool) → (b && false) ≡ false
        and_false_is true = refl
        and_false_is false = refl

module _ (c : CacheState) (agree : Agree c.nodes c.holds c.recency) where
  -- the nodes without those that go
  nodes_left : (m : Nodes) (gone : Fid) → has c.nodes gone ≡ true → taken_from m (at_or_below c gone) ≡ map.retain_keys m (stays (parents_of c.holds) gone)
  nodes_left m gone there = map.same_map fids_total exact_fids _ _ (λ q.
      taken_at m (at_or_below c gone) q ∙ ap (λ b. cond b None (map.get m q)) (listed_below c gone agree there q) ∙ turned (is_below (parents_of c.holds) q gone) (map.get m q) ∙ sym (retained_at m (stays (parents_of c.holds) gone) q))

  -- and their parents
  parents_left : (fids : List Fid) (gone : Fid) → has c.nodes gone ≡ true → parents_of (all_dirty (taken_from c.holds (at_or_below c gone)) fids) ≡ map.retain_keys (parents_of c.holds) (stays (parents_of c.holds) gone)
  parents_left fids gone there = same_parents _ _ (λ q.
      dirty_parents (taken_from c.holds (at_or_below c gone)) fids q ∙ taken_parents c.holds (at_or_below c gone) q ∙ ap (λ b. cond b None (map.get (parents_of c.holds) q)) (listed_below c gone agree there q)
      ∙ turned (is_below (parents_of c.holds) q gone) (map.get (parents_of c.holds) q) ∙ sym (retained_at (parents_of c.holds) (stays (parents_of c.holds) gone) q))

  parents_made : (fids : List Fid) (dir fid : Fid) → parents_of (all_dirty (map.insert c.holds fid (new_hold dir)) fids) ≡ map.insert (parents_of c.holds) fid dir
  parents_made fids dir fid = same_parents _ _ (λ q. dirty_parents (map.insert c.holds fid (new_hold dir)) fids q ∙ parents_put c.holds fid (new_hold dir) q ∙ sym (put_at (parents_of c.holds) fid dir q))

  held_here : (o : Option Hold) (dir : Fid) → is_some o ≡ true → option_map (λ (hold : Hold). dir) o ≡ Some dir
  held_here None dir e = absurd (both_ways _ refl e)
  held_here (Some hold) dir e = refl

  parents_moved : (fids : List Fid) (fid dir : Fid) → has c.nodes fid ≡ true → parents_of (all_dirty (altered c.holds fid (under dir)) fids) ≡ map.insert (parents_of c.holds) fid dir
  parents_moved fids fid dir there = same_parents _ _ (λ q.
      dirty_parents (altered c.holds fid (under dir)) fids q ∙ moved_parents c.holds fid dir q ∙ ap (λ o. cond (same_fid fid q) o (map.get (parents_of c.holds) q)) (held_here (map.get c.holds fid) dir (agree.held fid ∙ there)) ∙ sym (put_at (parents_of c.holds) fid dir q))

  parents_over : (fids : List Fid) (fid dir over : Fid) → has c.nodes fid ≡ true → has c.nodes over ≡ true
      → parents_of (all_dirty (altered (taken_from c.holds (at_or_below c over)) fid (under dir)) fids) ≡ map.retain_keys (map.insert (parents_of c.holds) fid dir) (stays (parents_of c.holds) over)
  parents_over fids fid dir over there gone = same_parents _ _ (λ q.
      dirty_parents (altered left fid (under dir)) fids q ∙ moved_parents left fid dir q ∙ ap (λ o. cond (same_fid fid q) (option_map (λ (hold : Hold). dir) (map.get left fid)) o) (taken_parents c.holds below q)
      ∙ ap (λ o. cond (same_fid fid q) o (cond (is_listed below q) None (map.get (parents_of c.holds) q))) (moved_here q)
      ∙ either (same_fid fid q) (is_listed below q) (is_listed below fid) (Some dir) (map.get (parents_of c.holds) q) (λ e. ap (is_listed below) (fid_true fid q e))
      ∙ ap (λ b. cond b None (cond (same_fid fid q) (Some dir) (map.get (parents_of c.holds) q))) (listed_below c over agree gone q) ∙ turned (is_below (parents_of c.holds) q over) (cond (same_fid fid q) (Some dir) (map.get (parents_of c.holds) q))
      ∙ ap (λ o. cond (not (is_below (parents_of c.holds) q over)) o None) (sym (put_at (parents_of c.holds) fid dir q)) ∙ sym (retained_at (map.insert (parents_of c.holds) fid dir) (stays (parents_of c.holds) over) q))
    where
      below : List Fid
      below = at_or_below c over

      left : Holds
      left = taken_from c.holds below

      moved_here : (q : Fid) → option_map (λ (hold : Hold). dir) (map.get left fid) ≡ cond (is_listed below fid) None (Some dir)
      moved_here q = ap (option_map (λ (hold : Hold). dir)) (taken_at c.holds below fid) ∙ by (is_listed below fid)
        where
          by : (b : Bool) → option_map (λ (hold : Hold). dir) (cond b None (map.get c.holds fid)) ≡ cond b None (Some dir)
          by true = refl
          by false = held_here (map.get c.holds fid) dir (agree.held fid ∙ there)

      either : (same listed own : Bool) (x y : Option Fid) → (same ≡ true → own ≡ listed) → cond same (cond own None x) (cond listed None y) ≡ cond listed None (cond same x y)
      either true listed own x y is = ap (λ b. cond b None x) (is refl)
      either false listed own x y is = refl

pub mutated_held : (c : CacheState) (client : ℕ) (rec : Record) → Agree c.nodes c.holds c.recency → MayBegin c.nodes rec.op → held_in (mutated c client rec) ≡ held_after_operation (held_in c) client rec
unfolding mutated
mutated_held c client rec agree may = by rec.op may.there
  where
    by : (op : Op) → IsThere c.nodes op → held_in (mutated c client (record { number = rec.number; time = rec.time; op = op })) ≡ held_after_operation (held_in c) client (record { number = rec.number; time = rec.time; op = op })
    by (Create dir name fid mode owner) there = held_is _ _ _ _ refl (parents_made c agree (fids_of (Create dir name fid mode owner)) dir fid)
    by (Mkdir dir name fid mode owner) there = held_is _ _ _ _ refl (parents_made c agree (fids_of (Mkdir dir name fid mode owner)) dir fid)
    by (Symlink dir name fid target mode owner) there = held_is _ _ _ _ refl (parents_made c agree (fids_of (Symlink dir name fid target mode owner)) dir fid)
    by (Store fid pre content) there = held_is _ _ _ _ refl (same_parents _ _ (dirty_parents c.holds (fids_of (Store fid pre content))))
    by (Setattr fid pre attrs) there = held_is _ _ _ _ refl (same_parents _ _ (dirty_parents c.holds (fids_of (Setattr fid pre attrs))))
    by (Remove dir name fid pre) there = held_is _ _ _ _ (nodes_left c agree _ fid there) (parents_left c agree (fids_of (Remove dir name fid pre)) fid there)
    by (Rmdir dir name fid pre) there = held_is _ _ _ _ (nodes_left c agree _ fid there) (parents_left c agree (fids_of (Rmdir dir name fid pre)) fid there)
    by (Rename from_dir from to_dir to fid None) there = held_is _ _ _ _ refl (parents_moved c agree (fids_of (Rename from_dir from to_dir to fid None)) fid to_dir there.0)
    by (Rename from_dir from to_dir to fid (Some over)) there = held_is _ _ _ _ (nodes_left c agree _ over.fid there.1) (parents_over c agree (fids_of (Rename from_dir from to_dir to fid (Some over))) fid to_dir over.fid there.0 there.1)
