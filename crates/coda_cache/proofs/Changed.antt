-- What the single changes leave that operations are made of: the parts of the cache agree, nodes stay small, and the index has what it had to have.
use Rattle.std.proofs.Common.{◌≡◌, ◌≢◌, ℕ, zero, suc, ◌+◌, ◌-◌, ◌≤◌, ◌<◌, ◌^◌, ◌/◌, Bool, true, false, cond, not, ◌&&◌, List, [], ◌∷◌, Option, Some, None, option_map, is_some, refl, sym, ap, ◌∙◌, subst, inl, inr, arith}
use Rattle.std.specs.Prelude as prelude
use Rattle.std.specs.Option.{option_map_or}
use Rattle.std.specs.FinMap as map
use Rattle.std.proofs.lemmas.Bool.{both_ways}
use Rattle.coda_fid.specs.declared.fid.Fid.{Fid}
use Rattle.coda_fid.specs.declared.fid.Sid.{Sid}
use Rattle.coda_fid.specs.declared.op.Attrs.{Attrs}
use Rattle.coda_fid.specs.Fid.{same_fid}
use Rattle.coda_fid.specs.Name.{name_cmp}
use Rattle.coda_fid.proofs.Fids.{fids_total, exact_fids, same_fid_refl}
use Rattle.coda_tree.specs.declared.node.Node.{Node}
use Rattle.coda_tree.specs.declared.node.NodeKind.{NodeKind}
use Rattle.coda_tree.specs.declared.node.NodeKind.TheVariants.{File, Link, Dir}
use Rattle.coda_tree.specs.Bindings.{Name, Bindings}
use Rattle.coda_tree.specs.Blocks.{blocks_of}
use Rattle.coda_tree.specs.Volume.{Nodes, has, changed, bound, unbound, bind_in, unbind_in, bindings, moved, written, content_patch, attrs_patch, with_content, child, child_of}
use Rattle.coda_tree.proofs.Order.{fid_cases, name_cases, gone_here, gone_else}
use Rattle.coda_tree.proofs.Keyed.{not_same, off_altered}
use Rattle.coda_tree.proofs.Changes.{at_changed, off_changed, has_changed}
use Rattle.coda_tree.proofs.Moved.{moved_is, moved_same, moved_apart}
use Rattle.coda_walk.specs.declared.item.Item.{Item}
use Rattle.coda_walk.specs.Going.{is_listed}
use Rattle.coda_walk.specs.Laws.{left}
use Rattle.coda_walk.specs.Queue.{with_item}
use Rattle.coda_cache.specs.declared.queued.Queued.{Queued}
use Rattle.coda_cache.specs.declared.marks.Marks.{Marks}
use Rattle.coda_cache.specs.declared.sources.Sources.{Sources}
use Rattle.coda_cache.specs.declared.children.Children.{Children}
use Rattle.coda_cache.specs.State.{CacheState, Holds, AreSmall, blocks_in, blocks_at, parent_of, parent_held, source_of, is_dirty}
use Rattle.coda_cache.specs.Ways.{way_within, way_up, at_or_below}
use Rattle.coda_cache.specs.Keeping.{Agree}
use Rattle.coda_cache.specs.Steps.{taken_from, except_all, dropped, removed, moved_under, dirtied}
use Rattle.coda_cache.specs.Steps as steps
use Rattle.coda_cache.specs.Indexed.{standing_of, standings, IsQueued, AreMarked, AreCovered, AreUnder, AreFound, renewed_items}
use Rattle.coda_cache.specs.Operating.{with_nodes}
use Rattle.coda_cache.proofs.Covered.{dirty_source, altered_source, dropped_source}
use Rattle.coda_cache.proofs.Mutated.{marks_then, off_first, off_dirty}
use Rattle.coda_cache.proofs.Removed.{filter_alike, dropped_same}
use Rattle.coda_cache.proofs.Sized.{blocks_there, blocks_set, len_with, len_without}
use Rattle.coda_cache.proofs.Sourced.{covered_same}
use Rattle.coda_cache.proofs.Standing.{marked_same, renewed_is, left_items, same_items, stands, held_dirty, dirty_or, stays_of, altered_at_all, dirty_changed}
use Rattle.coda_cache.proofs.Taken.{taken_at}
use Rattle.coda_cache.proofs.Under.{under_same, altered_parent, dirty_parent, dropped_parent}

-- ---- the parts agree

-- where a change leaves where nodes are
pub agree_there : (nodes now : Nodes) (holds : Holds) (recency : List Fid) → ((q : Fid) → has now q ≡ has nodes q) → Agree nodes holds recency → Agree now holds recency
agree_there nodes now holds recency same a = record { held = λ q. a.held q ∙ sym (same q); used = λ q. a.used q ∙ sym (same q) }

-- a moved node leaves where nodes are
pub has_moved : (m : Nodes) (from : Fid) (name : Name) (to : Fid) (new : Name) (f q : Fid) → has (moved m from name to new f) q ≡ has m q
has_moved m from name to new f q =
    ap (λ (n : Nodes). has n q) (moved_is m from name to new f) ∙ has_changed (unbound m from name) to (λ node. bind_in node new f) q ∙ has_changed m from (λ node. unbind_in node name) q

-- ---- nodes stay small

-- a change that makes no node too large
pub small_changed : (m : Nodes) (d : Fid) (change : Node → Node) → AreSmall m → ((node : Node) → map.get m d ≡ Some node → blocks_of node.kind < 2 ^ 32 → blocks_of (change node).kind < 2 ^ 32) → AreSmall (changed m d change)
small_changed m d change small few q = elim (fid_cases q d) [
  | inl at ↦ subst (λ o. blocks_there o < 2 ^ 32) (sym (ap (map.get (changed m d change)) at ∙ at_changed m d change)) (there (map.get m d) refl)
  | inr off ↦ subst (λ o. blocks_there o < 2 ^ 32) (sym (off_changed m d change q off)) (small q)
]
  where
    there : (o : Option Node) → map.get m d ≡ o → blocks_there (option_map change o) < 2 ^ 32
    there None is = omega arith
    there (Some node) is = few node is (subst (λ o. blocks_there o < 2 ^ 32) is (small d))

-- a directory where it is small enough with a name
pub small_bound : (m : Nodes) (d : Fid) (name : Name) (f : Fid) → AreSmall m → blocks_in (bound m d name f) d < 2 ^ 32 → AreSmall (bound m d name f)
small_bound m d name f small few q = elim (fid_cases q d) [
  | inl at ↦ subst (λ x. blocks_in (bound m d name f) x < 2 ^ 32) (sym at) few
  | inr off ↦ subst (λ o. blocks_there o < 2 ^ 32) (sym (off_changed m d (λ node. bind_in node name f) q off)) (small q)
]

pub small_stored : (m : Nodes) (f : Fid) (content : List ℕ) (time : ℕ) (sid : Sid) → AreSmall m → blocks_of (File content) < 2 ^ 32 → AreSmall (changed m f (written (content_patch content time) sid))
small_stored m f content time sid small few = small_changed m f (written (content_patch content time) sid) small (λ node _ h. with_new node.kind h)
  where
    with_new : (kind : NodeKind) → blocks_of kind < 2 ^ 32 → blocks_of (with_content (Some content) kind) < 2 ^ 32
    with_new (File was) h = few
    with_new (Link target) h = h
    with_new (Dir entries) h = h

pub small_set : (m : Nodes) (f : Fid) (attrs : Attrs) (sid : Sid) → AreSmall m → AreSmall (changed m f (written (attrs_patch attrs) sid))
small_set m f attrs sid small = small_changed m f (written (attrs_patch attrs) sid) small (λ node _ h. h)

len_less : (b : Bindings) (name : Name) → map.len (map.remove b name) ≤ map.len b
len_less b name = subst (λ n. n ≤ map.len b) (sym (len_without b name (is_some (map.get b name)) refl)) (less (is_some (map.get b name)))
  where
    less : (there : Bool) → cond there (map.len b - 1) (map.len b) ≤ map.len b
    less true = omega arith
    less false = omega arith

-- a node takes no fewer blocks than a directory that binds as much
kind_few : (kind : NodeKind) → 1 + map.len (bindings kind) / 32 ≤ blocks_of kind
kind_few (File content) = let none = map.len-empty name_cmp Fid in omega (arith, none)
kind_few (Link target) = let none = map.len-empty name_cmp Fid in omega (arith, none)
kind_few (Dir entries) = omega arith

few_left : (kind : NodeKind) (n : ℕ) → n ≤ map.len (bindings kind) → blocks_of kind < 2 ^ 32 → 1 + n / 32 < 2 ^ 32
few_left kind n less h = let few = kind_few kind in omega (arith, less, h, few)

pub small_unbound : (m : Nodes) (d : Fid) (name : Name) → AreSmall m → AreSmall (unbound m d name)
small_unbound m d name small = small_changed m d (λ node. unbind_in node name) small (λ node _ h. few_left node.kind (map.len (map.remove (bindings node.kind) name)) (len_less (bindings node.kind) name) h)

small_over : (m : Nodes) (d : Fid) (name : Name) (f over : Fid) → AreSmall m → child m d name ≡ Some over → AreSmall (bound m d name f)
small_over m d name f over small had = small_changed m d (λ node. bind_in node name f) small (λ node is h.
    let there : true ≡ is_some (map.get (bindings node.kind) name) = sym (ap (λ (o : Option Fid). is_some o) (ap (λ o. child_of o name) (sym is) ∙ had)) in
    let same : map.len (map.insert (bindings node.kind) name f) ≡ map.len (bindings node.kind) = len_with (bindings node.kind) name f true there in
    few_left node.kind (map.len (map.insert (bindings node.kind) name f)) (omega (arith, same)) h)

-- a node that is bound in the place of another
pub small_moved : (m : Nodes) (from : Fid) (name : Name) (to : Fid) (new : Name) (f over : Fid) → AreSmall m → child m to new ≡ Some over → AreSmall (moved m from name to new f)
small_moved m from name to new f over small had = elim (fid_cases from to) [
  | inl dir ↦ elim (name_cases name new) [
    | inl same ↦ subst AreSmall (sym (moved_same m from name to new f (dir, same))) (small_over m to new f over small had)
    | inr other ↦ apart (λ same. other same.1)
  ]
  | inr other ↦ apart (λ same. other same.0)
]
  where
    apart : (((from ≡ to) × (name ≡ new)) → ⊥) → AreSmall (moved m from name to new f)
    apart other = subst AreSmall (sym (moved_apart m from name to new f other)) (small_unbound (bound m to new f) from name (small_over m to new f over small had))

-- ---- what goes with a node that is taken out

ways_nodes : (c : CacheState) (m : Nodes) (n : ℕ) (f : Fid) → way_within (with_nodes c m) n f ≡ way_within c n f
ways_nodes c m zero f = refl
ways_nodes c m (suc n) f = elim (parent_of c f) as (λ o. (f ∷ option_map_or (λ p. way_within (with_nodes c m) n p) o []) ≡ (f ∷ option_map_or (λ p. way_within c n p) o [])) [
  | None ↦ refl
  | Some p ↦ ap (λ l. f ∷ l) (ways_nodes c m n p)
]

-- the same goes whatever the nodes hold
pub below_nodes : (c : CacheState) (m : Nodes) (f : Fid) → at_or_below (with_nodes c m) f ≡ at_or_below c f
unfolding way_up
below_nodes c m f = filter_alike (λ g. is_listed (way_up (with_nodes c m) g) f) (λ g. is_listed (way_up c g) f) c.recency (λ g. ap (λ l. is_listed l f) (ways_nodes c m (map.len c.holds) g))

-- a node that goes may be taken out before
pub out_first : (m : Nodes) (f : Fid) (gone : List Fid) → (has m f ≡ true → is_listed gone f ≡ true) → taken_from (map.remove m f) gone ≡ taken_from m gone
out_first m f gone goes = map.same_map fids_total exact_fids _ _ (λ q. taken_at (map.remove m f) gone q ∙ at q ∙ sym (taken_at m gone q))
  where
    either : (b : Bool) (x y : Option Node) → b ≡ true → cond b None x ≡ cond b None y
    either true x y h = refl
    either false x y h = absurd (both_ways _ refl h)

    here : (o : Option Node) → map.get m f ≡ o → cond (is_listed gone f) None (map.get (map.remove m f) f) ≡ cond (is_listed gone f) None (map.get m f)
    here None is = ap (cond (is_listed gone f) None) (gone_here fids_total m f ∙ sym is)
    here (Some node) is = either (is_listed gone f) (map.get (map.remove m f) f) (map.get m f) (goes (ap (λ (o : Option Node). is_some o) is))

    at : (q : Fid) → cond (is_listed gone q) None (map.get (map.remove m f) q) ≡ cond (is_listed gone q) None (map.get m q)
    at q = elim (fid_cases q f) [
      | inl same ↦ subst (λ x. cond (is_listed gone x) None (map.get (map.remove m f) x) ≡ cond (is_listed gone x) None (map.get m x)) (sym same) (here (map.get m f) refl)
      | inr off ↦ ap (cond (is_listed gone q) None) (gone_else fids_total exact_fids m f q off)
    ]

-- ---- the index

-- a node stands so where its parent and its blocks are those
stands_by : (c n : CacheState) (g : Fid) → parent_of n g ≡ parent_of c g → blocks_at n g ≡ blocks_at c g → n.priorities ≡ c.priorities → standing_of n g ≡ standing_of c g
stands_by c n g parent blocks priorities = λ i. record {
  fid = g;
  parent = parent i;
  priority = prelude.unwrap_or (map.get (priorities i) g) 0;
  blocks = blocks i;
  cached = true;
  served = false;
  pinned = false;
}

module _ (q now : Queued) (m marked : Marks) (s : Sources) (k under : Children) (c n : CacheState) (was : AreFound q m s k c) where
  -- a node is changed
  pub found_changed : (d : Fid) (i : Item) (change : Node → Node) → n ≡ with_nodes c (changed c.nodes d change) → i ≡ standing_of n d → ((items : List Item) → IsQueued q items → IsQueued now (with_item i items)) → AreFound now m s k n
  found_changed d i change is item put = record {
    indexed = record {
      queue = subst (IsQueued now) (ap (λ x. with_item x (standings c)) item ∙ items) (put (standings c) was.indexed.queue);
      marks = marked_same m (is_dirty c) (is_dirty n) (λ g. sym (ap (λ (x : CacheState). is_dirty x g) is)) was.indexed.marks;
    };
    covered = covered_same s (source_of c) (source_of n) (λ g. ap (λ (x : CacheState). source_of x g) is) was.covered;
    under = under_same k (parent_of c) (parent_of n) (λ g. ap (λ (x : CacheState). parent_of x g) is) was.under;
  }
    where
      then_same : (g : Fid) → is_listed c.recency g ≡ true → is_listed (d ∷ []) g ≡ false → standing_of c g ≡ standing_of n g
      then_same g _ free = sym (stands c n g (ap (λ (x : CacheState). parent_of x g) is) (ap (λ (x : CacheState). map.get x.nodes g) is ∙ off_changed c.nodes d change g (off_first d [] g free).0) (ap (λ (x : CacheState). x.priorities) is))

      items : with_item (standing_of n d) (standings c) ≡ standings n
      items = renewed_is (standing_of c) (standing_of n) (λ g. refl) (λ g. refl) (d ∷ []) c.recency then_same ∙ ap (prelude.map (standing_of n)) (sym (ap (λ (x : CacheState). x.recency) is))

  -- attributes of one are set
  pub found_set : (f : Fid) (attrs : Attrs) (sid : Sid) → n ≡ with_nodes c (changed c.nodes f (written (attrs_patch attrs) sid)) → AreFound q m s k n
  found_set f attrs sid is = record {
    indexed = record {
      queue = subst (IsQueued q) (sym (same_items c n (λ g. stands_by c n g (ap (λ (x : CacheState). parent_of x g) is) (ap (λ (x : CacheState). blocks_at x g) is ∙ blocks_set c.nodes f attrs sid g) (ap (λ (x : CacheState). x.priorities) is))
          (ap (λ (x : CacheState). x.recency) is))) was.indexed.queue;
      marks = marked_same m (is_dirty c) (is_dirty n) (λ g. sym (ap (λ (x : CacheState). is_dirty x g) is)) was.indexed.marks;
    };
    covered = covered_same s (source_of c) (source_of n) (λ g. ap (λ (x : CacheState). source_of x g) is) was.covered;
    under = under_same k (parent_of c) (parent_of n) (λ g. ap (λ (x : CacheState). parent_of x g) is) was.under;
  }

  -- nodes become dirty
  pub found_dirty : (fids : List Fid) → n ≡ dirtied c fids → ((passes : Fid → Bool) → AreMarked m passes → AreMarked marked (λ f. cond (is_listed fids f) (is_dirty n f) (passes f))) → AreFound q marked s k n
  found_dirty fids is set = record {
    indexed = record {
      queue = subst (IsQueued q) (sym (same_items c n (λ g. stands c n g (parents g) (ap (λ (x : CacheState). map.get x.nodes g) is) (ap (λ (x : CacheState). x.priorities) is)) (ap (λ (x : CacheState). x.recency) is))) was.indexed.queue;
      marks = marked_same marked _ (is_dirty n) (λ g. marks_then (is_listed fids g) false (is_dirty n g) (is_dirty c g) (λ free. ap (λ (x : CacheState). is_dirty x g) is ∙ ap held_dirty (off_dirty c.holds fids g free))) (set (is_dirty c) was.indexed.marks);
    };
    covered = covered_same s (source_of c) (source_of n) (λ g. ap (λ (x : CacheState). source_of x g) is ∙ dirty_source c.holds fids g) was.covered;
    under = under_same k (parent_of c) (parent_of n) parents was.under;
  }
    where
      parents : (g : Fid) → parent_of n g ≡ parent_of c g
      parents g = ap (λ (x : CacheState). parent_of x g) is ∙ dirty_parent c.holds fids g

  -- a node becomes dirty, or clean
  pub found_marked : (f : Fid) (b : Bool) → n ≡ steps.marked c f b → ((passes : Fid → Bool) → AreMarked m passes → AreMarked marked (λ g. cond (same_fid f g) (is_dirty n f) (passes g))) → AreFound q marked s k n
  found_marked f b is set = record {
    indexed = record {
      queue = subst (IsQueued q) (sym (same_items c n (λ g. stands c n g (parents g) (ap (λ (x : CacheState). map.get x.nodes g) is) (ap (λ (x : CacheState). x.priorities) is)) (ap (λ (x : CacheState). x.recency) is))) was.indexed.queue;
      marks = marked_same marked _ (is_dirty n) dirty (set (is_dirty c) was.indexed.marks);
    };
    covered = covered_same s (source_of c) (source_of n) (λ g. ap (λ (x : CacheState). source_of x g) is ∙ altered_source c.holds f (steps.set_dirty b) (λ _. refl) g) was.covered;
    under = under_same k (parent_of c) (parent_of n) parents was.under;
  }
    where
      parents : (g : Fid) → parent_of n g ≡ parent_of c g
      parents g = ap (λ (x : CacheState). parent_of x g) is ∙ altered_parent c.holds f (steps.set_dirty b) (λ _. refl) g

      dirty : (g : Fid) → cond (same_fid f g) (is_dirty n f) (is_dirty c g) ≡ is_dirty n g
      dirty g = elim (fid_cases g f) [
        | inl here ↦ ap (λ t. cond t (is_dirty n f) (is_dirty c g)) (ap (same_fid f) here ∙ same_fid_refl f) ∙ ap (is_dirty n) (sym here)
        | inr apart ↦ ap (λ t. cond t (is_dirty n f) (is_dirty c g)) (not_same f g (λ here. apart (sym here)))
            ∙ sym (ap (λ (x : CacheState). is_dirty x g) is ∙ ap held_dirty (off_altered c.holds f (steps.set_dirty b) g apart))
      ]

  -- a node comes under another directory
  pub found_under : (f dir : Fid) (i : Item) (parent : Option Fid) → n ≡ moved_under (Some (f, dir)) c → i ≡ standing_of n f → ((items : List Item) → IsQueued q items → IsQueued now (with_item i items)) →
      parent ≡ parent_of n f → AreUnder under (λ g. cond (same_fid f g) parent (parent_of c g)) → AreFound now m s under n
  found_under f dir i parent is item put at set = record {
    indexed = record {
      queue = subst (IsQueued now) (ap (λ x. with_item x (standings c)) item ∙ items) (put (standings c) was.indexed.queue);
      marks = marked_same m (is_dirty c) (is_dirty n) (λ g. sym (ap (λ (x : CacheState). is_dirty x g) is ∙ dirty g)) was.indexed.marks;
    };
    covered = covered_same s (source_of c) (source_of n) (λ g. ap (λ (x : CacheState). source_of x g) is ∙ altered_source c.holds f (steps.under dir) (λ _. refl) g) was.covered;
    under = under_same under _ (parent_of n) parents set;
  }
    where
      off : (g : Fid) → g ≢ f → parent_of n g ≡ parent_of c g
      off g apart = ap (λ (x : CacheState). parent_of x g) is ∙ ap parent_held (off_altered c.holds f (steps.under dir) g apart)

      parents : (g : Fid) → parent_of n g ≡ cond (same_fid f g) parent (parent_of c g)
      parents g = elim (fid_cases g f) [
        | inl here ↦ ap (parent_of n) here ∙ sym at ∙ sym (ap (λ b. cond b parent (parent_of c g)) (ap (same_fid f) here ∙ same_fid_refl f))
        | inr apart ↦ off g apart ∙ sym (ap (λ b. cond b parent (parent_of c g)) (not_same f g (λ here. apart (sym here))))
      ]

      dirty : (g : Fid) → is_dirty (moved_under (Some (f, dir)) c) g ≡ is_dirty c g
      dirty g = elim (altered_at_all c.holds f (steps.under dir) g) [
        | inl e ↦ ap held_dirty e
        | inr e ↦ ap held_dirty e ∙ dirty_changed (steps.under dir) (λ _. refl) (map.get c.holds g)
      ]

      then_same : (g : Fid) → is_listed c.recency g ≡ true → is_listed (f ∷ []) g ≡ false → standing_of c g ≡ standing_of n g
      then_same g _ free = sym (stands c n g (off g (off_first f [] g free).0) (ap (λ (x : CacheState). map.get x.nodes g) is) (ap (λ (x : CacheState). x.priorities) is))

      items : with_item (standing_of n f) (standings c) ≡ standings n
      items = renewed_is (standing_of c) (standing_of n) (λ g. refl) (λ g. refl) (f ∷ []) c.recency then_same ∙ ap (prelude.map (standing_of n)) (sym (ap (λ (x : CacheState). x.recency) is))

-- a node goes with what is below it, and others are changed
module _ (q now : Queued) (m marked : Marks) (s left_sources : Sources) (k left_children : Children) (c n : CacheState) (was : AreFound q m s k c) (nodes : Nodes) (over : Fid) (gone some : List Fid) where
  pub found_replaced : n ≡ removed (with_nodes c nodes) over → ((f : Fid) → is_listed gone f ≡ is_listed (at_or_below c over) f) → ((g : Fid) → is_listed some g ≡ false → map.get nodes g ≡ map.get c.nodes g) →
      ((items : List Item) → IsQueued q items → IsQueued now (renewed_items (standing_of n) some (left gone items))) → ((passes : Fid → Bool) → AreMarked m passes → AreMarked marked (λ f. not (is_listed gone f) && passes f)) →
      AreCovered left_sources (λ g. cond (is_listed gone g) None (source_of c g)) → AreUnder left_children (λ g. cond (is_listed gone g) None (parent_of c g)) → AreFound now marked left_sources left_children n
  found_replaced is goes others renew set covered under = record {
    indexed = record {
      queue = subst (IsQueued now) items (renew (standings c) was.indexed.queue);
      marks = marked_same marked _ (is_dirty n) (λ g. sym (ap held_dirty (holds g) ∙ dirty_or (is_listed gone g) (map.get c.holds g))) (set (is_dirty c) was.indexed.marks);
    };
    covered = covered_same left_sources _ (source_of n) (λ g. ap (λ (x : CacheState). source_of x g) is_s ∙ dropped_source (with_nodes c nodes) gone g) covered;
    under = under_same left_children _ (parent_of n) (λ g. ap (λ (x : CacheState). parent_of x g) is_s ∙ dropped_parent (with_nodes c nodes) gone g) under;
  }
    where
      is_s : n ≡ dropped (with_nodes c nodes) gone
      is_s = is ∙ dropped_same (with_nodes c nodes) (at_or_below (with_nodes c nodes) over) gone (λ f. ap (λ l. is_listed l f) (below_nodes c nodes over) ∙ sym (goes f))

      holds : (g : Fid) → map.get n.holds g ≡ cond (is_listed gone g) None (map.get c.holds g)
      holds g = ap (λ (x : CacheState). map.get x.holds g) is_s ∙ taken_at c.holds gone g

      then_same : (g : Fid) → is_listed (except_all c.recency gone) g ≡ true → is_listed some g ≡ false → standing_of c g ≡ standing_of n g
      then_same g there free =
          let stays = stays_of gone c.recency g there in
          sym (stands c n g (ap parent_held (holds g ∙ ap (λ b. cond b None (map.get c.holds g)) stays))
          (ap (λ (x : CacheState). map.get x.nodes g) is_s ∙ taken_at nodes gone g ∙ ap (λ b. cond b None (map.get nodes g)) stays ∙ others g free) (ap (λ (x : CacheState). x.priorities) is_s))

      items : renewed_items (standing_of n) some (left gone (standings c)) ≡ standings n
      items = ap (renewed_items (standing_of n) some) (left_items (standing_of c) (λ g. refl) gone c.recency)
          ∙ renewed_is (standing_of c) (standing_of n) (λ g. refl) (λ g. refl) some (except_all c.recency gone) then_same
          ∙ ap (prelude.map (standing_of n)) (sym (ap (λ (x : CacheState). x.recency) is_s))

-- a moved node leaves all but two directories as they were
pub off_move : (m : Nodes) (from : Fid) (name : Name) (to : Fid) (new : Name) (f g : Fid) → is_listed (from ∷ to ∷ []) g ≡ false → map.get (moved m from name to new f) g ≡ map.get m g
off_move m from name to new f g free =
    let one = off_first from (to ∷ []) g free in
    ap (λ (n : Nodes). map.get n g) (moved_is m from name to new f) ∙ off_changed (unbound m from name) to (λ node. bind_in node new f) g (off_first to [] g one.1).0 ∙ off_changed m from (λ node. unbind_in node name) g one.0
