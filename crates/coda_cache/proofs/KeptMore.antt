-- A put and an operation leave a cache.
use Rattle.std.proofs.Common.{◌≡◌, ◌≢◌, ℕ, suc, ◌+◌, ◌<◌, Bool, true, false, cond, ◌||◌, ◌&&◌, List, [], ◌∷◌, Option, Some, None, is_some, option_map, refl, sym, ap, ◌∙◌, subst, inl, inr, arith}
use Rattle.std.specs.List.{IsDistinct}
use Rattle.std.specs.FinMap as map
use Rattle.std.proofs.lemmas.Bool.{both_ways}
use Rattle.std.proofs.lemmas.Option.{none-some, same_Some}
use Rattle.coda_fid.specs.declared.fid.Fid.{Fid}
use Rattle.coda_fid.specs.declared.op.Op.{Op}
use Rattle.coda_fid.specs.declared.op.Record.{Record}
use Rattle.coda_fid.specs.declared.op.Op.TheVariants.{Create, Mkdir, Symlink, Store, Setattr, Remove, Rmdir, Rename}
use Rattle.coda_fid.specs.Fid.{same_fid}
use Rattle.coda_fid.specs.Op.{fids_of}
use Rattle.coda_fid.proofs.Fids.{fids_total, exact_fids, same_fid_refl}
use Rattle.coda_tree.specs.declared.node.Node.{Node}
use Rattle.coda_tree.specs.Slots.{altered}
use Rattle.coda_tree.specs.Volume.{Nodes, has, IsDirAt}
use Rattle.coda_tree.proofs.Changes.{dir_node}
use Rattle.coda_tree.proofs.Order.{fid_cases, get_here, get_else}
use Rattle.coda_tree.proofs.Keyed.{at_altered, off_altered, not_same}
use Rattle.coda_certify.specs.Replay.{applied, MayApply}
use Rattle.coda_walk.specs.Going.{is_listed}
use Rattle.coda_cache.specs.declared.hold.Hold.{Hold}
use Rattle.coda_cache.specs.Uses.{latest}
use Rattle.coda_cache.specs.State.{CacheState, Holds, is_cached, parent_of, parent_held}
use Rattle.coda_cache.specs.Ways.{is_below}
use Rattle.coda_cache.specs.Keeping.{Agree}
use Rattle.coda_cache.specs.Steps.{put_in, put_all, walked, kept_parent, new_node, taken_out, moved_node, taken_below, taken_from, except_all, dropped, moved_in, under, made_dirty, all_dirty, new_hold, mutated}
use Rattle.coda_cache.specs.Laws.{IsCache, MayHold, MayHoldAll, MayGo, MayMutate}
use Rattle.coda_cache.proofs.Agreeing.{agree_put}
use Rattle.coda_cache.proofs.Climbs.{below_by, child_cached}
use Rattle.coda_cache.proofs.Operated.{agree_made, agree_changed, applied_made, mutated_made, mutated_changed, stays_there, self_on_way}
use Rattle.coda_cache.proofs.Taken.{taken_at}
use Rattle.coda_cache.proofs.Kept.{agree_of, distinct_latest, dropped_kept, below_may_go, same_parents, parent_altered, listed_where}

-- ---- a node that wasn't cached

abbrev above : (Fid → ℕ) → Option Fid → ℕ
above depth None = 0
above depth (Some p) = suc (depth p)

module _ (c n : CacheState) (k : IsCache c) (f : Fid) (parent : Option Fid) (free : is_cached c f ≡ false) (a : Agree n.nodes n.holds n.recency) (d : IsDistinct same_fid n.recency)
    (here : is_cached n f ≡ true) (others : (q : Fid) → q ≢ f → is_cached n q ≡ is_cached c q) (under_it : parent_of n f ≡ parent) (same : (q : Fid) → q ≢ f → parent_of n q ≡ parent_of c q)
    (may : MayHold c f parent) where
  abbrev depth : Fid → ℕ
  depth q = cond (same_fid f q) (above k.depth parent) (k.depth q)

  depth_else : (q : Fid) → q ≢ f → depth q ≡ k.depth q
  depth_else q apart = ap (λ b. cond b (above k.depth parent) (k.depth q)) (not_same f q (λ e. apart (sym e)))

  depth_here : depth f ≡ above k.depth parent
  depth_here = ap (λ b. cond b (above k.depth parent) (k.depth f)) (same_fid_refl f)

  not_new : (p : Fid) → is_cached c p ≡ true → p ≢ f
  not_new p there same = both_ways _ free (ap (is_cached c) (sym same) ∙ there)

  still : (p : Fid) → is_cached c p ≡ true → is_cached n p ≡ true
  still p there = others p (not_new p there) ∙ there

  parent_there : (p : Fid) → parent_of n f ≡ Some p → is_cached c p ≡ true
  parent_there p is = may p free (sym under_it ∙ is)

  pub begun_kept : IsCache n
  begun_kept = record {
    held = a.held;
    used = a.used;
    once = d;
    depth = depth;
    parents = λ q p is. elim (fid_cases q f) [
      | inl at ↦ still p (parent_there p (ap (parent_of n) (sym at) ∙ is))
      | inr apart ↦ still p (k.parents q p (sym (same q apart) ∙ is))
    ];
    deeper = λ q p is. elim (fid_cases q f) [
      | inl at ↦
          let there = parent_there p (ap (parent_of n) (sym at) ∙ is) in
          let low = depth_else p (not_new p there) in
          let high : depth q ≡ suc (k.depth p) = ap depth at ∙ depth_here ∙ ap (above k.depth) (sym under_it ∙ ap (parent_of n) (sym at) ∙ is) in
          omega (arith, low, high)
      | inr apart ↦
          let was = sym (same q apart) ∙ is in
          let low = depth_else p (not_new p (k.parents q p was)) in
          let high = depth_else q apart in
          let less = k.deeper q p was in
          omega (arith, low, high, less)
    ];
  }

-- ---- a put

kept_there : (o : Option Hold) (parent : Option Fid) → is_some o ≡ true → kept_parent o parent ≡ parent_held o
kept_there None parent h = absurd (both_ways _ refl h)
kept_there (Some hold) parent h = refl

kept_none : (o : Option Hold) (parent : Option Fid) → is_some o ≡ false → kept_parent o parent ≡ parent
kept_none None parent h = refl
kept_none (Some hold) parent h = absurd (both_ways _ h refl)

pub put_kept : (c : CacheState) (f : Fid) (parent : Option Fid) (node : Node) (from : Option ℕ) → IsCache c → MayHold c f parent → IsCache (put_in c f parent node from)
put_kept c f parent node from k may = (elim (is_cached c f) as (λ b. is_cached c f ≡ b → IsCache n) [
  | true ↦ λ there. record {
    held = a.held;
    used = a.used;
    once = distinct_latest c.recency f k.once;
    depth = k.depth;
    parents = λ q p is. still p (k.parents q p (sym (same there q) ∙ is));
    deeper = λ q p is. k.deeper q p (sym (same there q) ∙ is);
  }
  | false ↦ λ free. begun_kept c n k f parent free a (distinct_latest c.recency f k.once) here others (under_here ∙ kept_none (map.get c.holds f) parent (k.held f ∙ free)) (λ q apart. ap parent_held (get_else fids_total exact_fids c.holds f hold q apart)) may
]) refl
  where
    hold : Hold
    hold = record { parent = kept_parent (map.get c.holds f) parent; from = from; dirty = false }

    n : CacheState
    n = put_in c f parent node from

    a : Agree n.nodes n.holds n.recency
    a = agree_put c.nodes c.holds c.recency (agree_of c k) f node hold

    here : is_cached n f ≡ true
    here = ap (λ (o : Option Node). is_some o) (get_here fids_total c.nodes f node)

    others : (q : Fid) → q ≢ f → is_cached n q ≡ is_cached c q
    others q apart = ap (λ (o : Option Node). is_some o) (get_else fids_total exact_fids c.nodes f node q apart)

    under_here : parent_of n f ≡ kept_parent (map.get c.holds f) parent
    under_here = ap parent_held (get_here fids_total c.holds f hold)

    still : (p : Fid) → is_cached c p ≡ true → is_cached n p ≡ true
    still p there = elim (fid_cases p f) [ inl at ↦ ap (is_cached n) at ∙ here | inr apart ↦ others p apart ∙ there ]

    same : is_cached c f ≡ true → (q : Fid) → parent_of n q ≡ parent_of c q
    same there q = elim (fid_cases q f) [
      | inl at ↦ ap (parent_of n) at ∙ under_here ∙ kept_there (map.get c.holds f) parent (k.held f ∙ there) ∙ ap (parent_of c) (sym at)
      | inr apart ↦ ap parent_held (get_else fids_total exact_fids c.holds f hold q apart)
    ]

-- ---- an operation

parent_dirty : (holds : Holds) (fids : List Fid) (q : Fid) → parent_held (map.get (all_dirty holds fids) q) ≡ parent_held (map.get holds q)
parent_dirty holds [] q = refl
parent_dirty holds (f ∷ fids) q = parent_dirty (altered holds f made_dirty) fids q ∙ parent_altered holds f made_dirty (λ hold. refl) q

dir_cached : (m : Nodes) (d : Fid) → IsDirAt m d → has m d ≡ true
dir_cached m d is = ap (λ (o : Option Node). is_some o) (dir_node m d is).1

-- what a creation asks for
pub creates : (m : Nodes) (op : Op) (dir fid : Fid) → new_node op ≡ Some (dir, fid) → MayApply m op → (has m dir ≡ true) × (has m fid ≡ false)
creates m (Create d name f mode owner) dir fid is may = subst (λ (p : Fid × Fid). (has m p.0 ≡ true) × (has m p.1 ≡ false)) (same_Some _ _ is) (dir_cached m d may.dir_there, ap (λ (o : Option Node). is_some o) may.fid_free)
creates m (Mkdir d name f mode owner) dir fid is may = subst (λ (p : Fid × Fid). (has m p.0 ≡ true) × (has m p.1 ≡ false)) (same_Some _ _ is) (dir_cached m d may.dir_there, ap (λ (o : Option Node). is_some o) may.fid_free)
creates m (Symlink d name f target mode owner) dir fid is may = subst (λ (p : Fid × Fid). (has m p.0 ≡ true) × (has m p.1 ≡ false)) (same_Some _ _ is) (dir_cached m d may.dir_there, ap (λ (o : Option Node). is_some o) may.fid_free)
creates m (Store f pre content) dir fid is may = absurd (none-some (dir, fid) is)
creates m (Setattr f pre attrs) dir fid is may = absurd (none-some (dir, fid) is)
creates m (Remove d name f pre) dir fid is may = absurd (none-some (dir, fid) is)
creates m (Rmdir d name f pre) dir fid is may = absurd (none-some (dir, fid) is)
creates m (Rename from_dir from to_dir to f over) dir fid is may = absurd (none-some (dir, fid) is)

-- the directory into which a node is moved is there
moves_into : (m : Nodes) (op : Op) (f dir : Fid) → moved_node op ≡ Some (f, dir) → MayApply m op → has m dir ≡ true
moves_into m (Create d name g mode owner) f dir is may = absurd (none-some (f, dir) is)
moves_into m (Mkdir d name g mode owner) f dir is may = absurd (none-some (f, dir) is)
moves_into m (Symlink d name g target mode owner) f dir is may = absurd (none-some (f, dir) is)
moves_into m (Store g pre content) f dir is may = absurd (none-some (f, dir) is)
moves_into m (Setattr g pre attrs) f dir is may = absurd (none-some (f, dir) is)
moves_into m (Remove d name g pre) f dir is may = absurd (none-some (f, dir) is)
moves_into m (Rmdir d name g pre) f dir is may = absurd (none-some (f, dir) is)
moves_into m (Rename from_dir from to_dir to g over) f dir is may = ap (λ (p : Fid × Fid). has m p.1) (sym (same_Some _ _ is)) ∙ dir_cached m to_dir may.to_there

made_kept : (c : CacheState) (client : ℕ) (rec : Record) (dir fid : Fid) → IsCache c → MayApply c.nodes rec.op → new_node rec.op ≡ Some (dir, fid) → IsCache (mutated c client rec)
made_kept c client rec dir fid k may is =
    let n : CacheState = record { size = c.size; nodes = applied c.nodes client rec; holds = all_dirty (map.insert c.holds fid (new_hold dir)) (fids_of rec.op); recency = latest c.recency fid; priorities = c.priorities } in
    let asked = creates c.nodes rec.op dir fid is may in
    let made = applied_made c.nodes client rec dir fid is in
    subst IsCache (sym (mutated_made c client rec dir fid is))
    (begun_kept c n k fid (Some dir) asked.1 (agree_made c.nodes c.holds c.recency client rec dir fid (agree_of c k) is) (distinct_latest c.recency fid k.once) made.0 made.1
    (parent_dirty (map.insert c.holds fid (new_hold dir)) (fids_of rec.op) fid ∙ ap parent_held (get_here fids_total c.holds fid (new_hold dir)))
    (λ q apart. parent_dirty (map.insert c.holds fid (new_hold dir)) (fids_of rec.op) q ∙ ap parent_held (get_else fids_total exact_fids c.holds fid (new_hold dir) q apart))
    (λ p free same. ap (has c.nodes) (sym (same_Some dir p same)) ∙ asked.0))

taken_may_go : (c : CacheState) (taken : Option Fid) → IsCache c → MayGo c (taken_below c taken)
taken_may_go c None k f p stays is = refl
taken_may_go c (Some t) k f p stays is = below_may_go c t k f p stays is

-- what isn't below the node that is taken out stays
not_taken : (c : CacheState) (taken : Option Fid) (q : Fid) → ((t : Fid) → taken ≡ Some t → is_below c q t ≡ false) → is_listed (taken_below c taken) q ≡ false
not_taken c None q h = refl
not_taken c (Some t) q h = listed_where (λ x. is_below c x t) c.recency q ∙ ap (λ b. b && is_listed c.recency q) (h t refl)

module _ (c n : CacheState) (k : IsCache c) (gone : List Fid) (left : IsCache (dropped c gone)) (a : Agree n.nodes n.holds n.recency) (d : IsDistinct same_fid n.recency)
    (same_nodes : (q : Fid) → is_cached n q ≡ is_cached (dropped c gone) q) (f dir : Fid) (moved : (q : Fid) → parent_of n q ≡ parent_held (map.get (altered (taken_from c.holds gone) f (under dir)) q))
    (there : is_cached c dir ≡ true) (stays : is_listed gone dir ≡ false) (apart : is_below c dir f ≡ false) where
  -- a node that is left has its parent, and so had before
  parent_left : (q p : Fid) → parent_of (dropped c gone) q ≡ Some p → parent_of c q ≡ Some p
  parent_left q p is = from (is_listed gone q) (map.get c.holds q) (sym (ap parent_held (taken_at c.holds gone q)) ∙ is)
    where
      from : (b : Bool) (o : Option Hold) → parent_held (cond b None o) ≡ Some p → parent_held o ≡ Some p
      from true o h = absurd (none-some p h)
      from false o h = h

  parent_else : (q : Fid) → q ≢ f → parent_of n q ≡ parent_of (dropped c gone) q
  parent_else q other = moved q ∙ ap parent_held (off_altered (taken_from c.holds gone) f (under dir) q other)

  -- the moved node, where it is cached, stands in the directory
  parent_here : (p : Fid) → parent_of n f ≡ Some p → (p ≡ dir) × (is_cached c f ≡ true)
  parent_here p is = from (is_listed gone f) (map.get c.holds f) refl (sym (moved f ∙ ap parent_held (at_altered (taken_from c.holds gone) f (under dir) ∙ ap (option_map (under dir)) (taken_at c.holds gone f))) ∙ is)
    where
      from : (b : Bool) (o : Option Hold) → map.get c.holds f ≡ o → parent_held (option_map (under dir) (cond b None o)) ≡ Some p → (p ≡ dir) × (is_cached c f ≡ true)
      from true o e h = absurd (none-some p h)
      from false None e h = absurd (none-some p h)
      from false (Some hold) e h = (sym (same_Some dir p h), sym (k.held f) ∙ ap (λ (x : Option Hold). is_some x) e)

  abbrev depth_moved : Fid → ℕ
  depth_moved q = cond (is_below c q f) (suc (k.depth q + k.depth dir)) (k.depth q)

  pub moved_kept : IsCache n
  moved_kept = record {
    held = a.held;
    used = a.used;
    once = d;
    depth = depth_moved;
    parents = λ q p is. elim (fid_cases q f) [
      | inl at ↦
          ap (is_cached n) (parent_here p (ap (parent_of n) (sym at) ∙ is)).0 ∙ same_nodes dir ∙ ap (λ (o : Option Node). is_some o) (taken_at c.nodes gone dir)
          ∙ (λ i. is_some (cond (stays i) None (map.get c.nodes dir))) ∙ there
      | inr other ↦ same_nodes p ∙ left.parents q p (sym (parent_else q other) ∙ is)
    ];
    deeper = λ q p is. elim (fid_cases q f) [
      | inl at ↦
          let here = parent_here p (ap (parent_of n) (sym at) ∙ is) in
          let low : depth_moved p ≡ k.depth dir = ap depth_moved here.0 ∙ ap (λ b. cond b (suc (k.depth dir + k.depth dir)) (k.depth dir)) apart in
          let high : depth_moved q ≡ suc (k.depth f + k.depth dir) = ap depth_moved at ∙ ap (λ b. cond b (suc (k.depth f + k.depth dir)) (k.depth f)) (self_on_way c f (k.held f ∙ here.1)) in
          omega (arith, low, high)
      | inr other ↦
          let was = parent_left q p (sym (parent_else q other) ∙ is) in
          let less = k.deeper q p was in
          let as_parent : is_below c q f ≡ is_below c p f = below_by c k q p f (child_cached c k q p was) was ∙ ap (λ b. b || is_below c p f) (not_same q f other) in
          subst (λ b. depth_moved p < cond b (suc (k.depth q + k.depth dir)) (k.depth q)) (sym as_parent)
          (elim (is_below c p f) as (λ b. cond b (suc (k.depth p + k.depth dir)) (k.depth p) < cond b (suc (k.depth q + k.depth dir)) (k.depth q)) [
            | true ↦ omega (arith, less)
            | false ↦ less
          ])
    ];
  }

changed_kept : (c : CacheState) (client : ℕ) (rec : Record) → IsCache c → MayMutate c rec.op → new_node rec.op ≡ None → IsCache (mutated c client rec)
changed_kept c client rec k may is = subst IsCache (sym (mutated_changed c client rec is)) (go (moved_node rec.op) refl)
  where
    gone : List Fid
    gone = taken_below c (taken_out rec.op)

    n : Option (Fid × Fid) → CacheState
    n moved = record { size = c.size; nodes = taken_from (applied c.nodes client rec) gone; holds = all_dirty (moved_in moved (taken_from c.holds gone)) (fids_of rec.op); recency = except_all c.recency gone; priorities = c.priorities }

    left : IsCache (dropped c gone)
    left = dropped_kept c gone k (taken_may_go c (taken_out rec.op) k)

    a : (moved : Option (Fid × Fid)) → moved_node rec.op ≡ moved → Agree (n moved).nodes (n moved).holds (n moved).recency
    a moved e = subst (λ m. Agree (n m).nodes (n m).holds (n m).recency) e (agree_changed c client rec (agree_of c k) is)

    same : (moved : Option (Fid × Fid)) (q : Fid) → is_cached (n moved) q ≡ is_cached (dropped c gone) q
    same moved q = ap (λ (o : Option Node). is_some o) (taken_at (applied c.nodes client rec) gone q)
        ∙ (elim (is_listed gone q) as (λ b. is_listed gone q ≡ b → is_some (cond b None (map.get (applied c.nodes client rec) q)) ≡ is_some (cond b None (map.get c.nodes q))) [
          | true ↦ λ _. refl
          | false ↦ λ stays. stays_there c client rec (agree_of c k) is q stays
        ]) refl ∙ sym (ap (λ (o : Option Node). is_some o) (taken_at c.nodes gone q))

    go : (moved : Option (Fid × Fid)) → moved_node rec.op ≡ moved → IsCache (n moved)
    go None e = same_parents (dropped c gone) (n None) left (a None e) left.once (same None) (λ q. parent_dirty (taken_from c.holds gone) (fids_of rec.op) q)
    go (Some p) e = moved_kept c (n (Some p)) k gone left (a (Some p) e) left.once (same (Some p)) p.0 p.1 (λ q. parent_dirty (moved_in (Some p) (taken_from c.holds gone)) (fids_of rec.op) q)
        (moves_into c.nodes rec.op p.0 p.1 e may.may) (not_taken c (taken_out rec.op) p.1 (λ t out. may.stays p.0 p.1 t e out)) (may.apart p.0 p.1 e)

pub mutated_kept : (c : CacheState) (client : ℕ) (rec : Record) → IsCache c → MayMutate c rec.op → IsCache (mutated c client rec)
mutated_kept c client rec k may = (elim (new_node rec.op) as (λ o. new_node rec.op ≡ o → IsCache (mutated c client rec)) [
  | None ↦ λ is. changed_kept c client rec k may is
  | Some p ↦ λ is. made_kept c client rec p.0 p.1 k may.may is
]) refl

-- ---- a walk

put_all_kept : (c : CacheState) (puts : List (Fid × Option Fid × Node × ℕ)) → IsCache c → MayHoldAll c puts → IsCache (put_all c puts)
put_all_kept c [] k may = k
put_all_kept c (p ∷ puts) k may = put_all_kept (put_in c p.0 p.1 p.2 (Some p.3)) puts (put_kept c p.0 p.1 p.2 (Some p.3) k may.0) may.1

pub walked_kept : (c : CacheState) (puts : List (Fid × Option Fid × Node × ℕ)) (of : List (Fid × ℕ)) → IsCache c → MayHoldAll c puts → IsCache (walked c puts of)
walked_kept c puts of k may = let all = put_all_kept c puts k may in record { held = all.held; used = all.used; once = all.once; depth = all.depth; parents = all.parents; deeper = all.deeper }
