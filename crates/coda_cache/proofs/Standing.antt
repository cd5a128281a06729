-- How cached nodes stand in the queue after each change, and which are dirty then.
use Rattle.std.specs.Prelude.{◌⊎◌}
use Rattle.std.proofs.Common.{◌≡◌, ◌==◌, ◌≢◌, ℕ, zero, suc, ◌<◌, Bool, true, false, cond, not, ◌||◌, ◌&&◌, List, [], ◌∷◌, ◌++◌, Option, Some, None, option_map, length, take, refl, sym, ap, ◌∙◌, subst, inl, inr, arith}
use Rattle.std.specs.Prelude as prelude
use Rattle.std.specs.Prelude.{slice_index_or, if◌then◌else◌}
use Rattle.std.specs.Option.{IfSome, option_map_or}
use Rattle.std.specs.BTreeSet as btree
use Rattle.std.specs.FinMap as map
use Rattle.std.proofs.lemmas.Bool.{both_ways}
use Rattle.coda_fid.specs.declared.fid.Fid.{Fid}
use Rattle.coda_fid.specs.Fid.{fid_cmp, same_fid}
use Rattle.coda_fid.proofs.Fids.{fids_total, exact_fids, same_fid_is, same_fid_refl}
use Rattle.coda_tree.specs.declared.node.Node.{Node}
use Rattle.coda_tree.specs.Blocks.{blocks_of}
use Rattle.coda_tree.specs.Slots.{altered}
use Rattle.coda_tree.proofs.Order.{fid_cases, get_here, get_else, gone_here, gone_else}
use Rattle.coda_tree.proofs.Keyed.{not_same, at_altered, off_altered}
use Rattle.coda_walk.specs.declared.item.Item.{Item}
use Rattle.coda_walk.specs.Going.{is_listed, without}
use Rattle.coda_walk.specs.Laws.{left}
use Rattle.coda_walk.specs.Queue.{with_last, with_item}
use Rattle.coda_cache.specs.declared.hold.Hold.{Hold}
use Rattle.coda_cache.specs.declared.queued.Queued.{Queued}
use Rattle.coda_cache.specs.declared.marks.Marks.{Marks}
use Rattle.coda_cache.specs.Uses.{except, latest}
use Rattle.coda_cache.specs.State.{CacheState, Holds, parent_of, parent_held, is_dirty, is_cached}
use Rattle.coda_cache.specs.Steps.{used, put_in, kept_parent, dropped, except_all, taken_from, each, invalidated, not_valid, invalidated_from, valid_but_from, dirty_where, dirty_in, pinned_to, pinned_in}
use Rattle.coda_cache.specs.Steps as steps
use Rattle.coda_cache.specs.Indexed.{standing_of, standings, IsQueued, renewed_items, AreMarked, AreIndexed}
use Rattle.coda_cache.proofs.Agreeing.{except_here}
use Rattle.coda_cache.proofs.Taken.{taken_at, except_all_at}
use Rattle.coda_cache.proofs.Written.{get_each}
use Rattle.coda_cache.proofs.Alike.{without_map}
use Rattle.coda_cache.proofs.Rightly.{alike, map_last}

-- ---- marks

pub marked_same : (m : Marks) (p q : Fid → Bool) → ((f : Fid) → p f ≡ q f) → AreMarked m p → AreMarked m q
marked_same m p q same h = (elim m.fids as (λ o. IfSome o (λ s. (f : Fid) → btree.contains fid_cmp s f ≡ p f) → IfSome o (λ s. (f : Fid) → btree.contains fid_cmp s f ≡ q f)) [
  | None ↦ λ h. h
  | Some s ↦ λ h f. h f ∙ same f
]) h

pub listed_next : (fids : List Fid) (i : ℕ) (d : Fid) → i < length fids → (f : Fid) → is_listed (take (suc i) fids) f ≡ (is_listed (take i fids) f || same_fid (slice_index_or fids i d) f)
listed_next [] i d h f = absurd (omega (arith, h))
listed_next (g ∷ fids) zero d h f = elim (same_fid g f) as (λ b. (b || false) ≡ (false || b)) [ true ↦ refl | false ↦ refl ]
listed_next (g ∷ fids) (suc i) d h f = let rest = listed_next fids i d (omega (arith, h)) f in elim (same_fid g f) as (λ b. (b || is_listed (take (suc i) fids) f) ≡ ((b || is_listed (take i fids) f) || same_fid (slice_index_or fids i d) f)) [ true ↦ refl | false ↦ rest ]

pub next_taken : (fids : List Fid) (i : ℕ) (d : Fid) → i < length fids → (f : Fid) (b : Bool) → cond (same_fid (slice_index_or fids i d) f) false (not (is_listed (take i fids) f) && b) ≡ (not (is_listed (take (suc i) fids) f) && b)
next_taken fids i d h f b = go (same_fid (slice_index_or fids i d) f) (is_listed (take i fids) f) ∙ ap (λ x. not x && b) (sym (listed_next fids i d h f))
  where
    go : (s l : Bool) → cond s false (not l && b) ≡ (not (l || s) && b)
    go true true = refl
    go true false = refl
    go false true = refl
    go false false = refl

pub next_renewed : (test : Fid → Bool) (fids : List Fid) (i : ℕ) (d : Fid) → i < length fids → (f : Fid) (b : Bool) →
    cond (same_fid (slice_index_or fids i d) f) (test (slice_index_or fids i d)) (cond (is_listed (take i fids) f) (test f) b) ≡ cond (is_listed (take (suc i) fids) f) (test f) b
next_renewed test fids i d h f b =
    (elim (same_fid (slice_index_or fids i d) f) as (λ x. same_fid (slice_index_or fids i d) f ≡ x → cond x (test (slice_index_or fids i d)) (cond (is_listed (take i fids) f) (test f) b) ≡ cond (is_listed (take i fids) f || x) (test f) b) [
      | true ↦ λ e. ap test (same_fid_is (slice_index_or fids i d) f e) ∙ sym (some (is_listed (take i fids) f))
      | false ↦ λ _. none (is_listed (take i fids) f)
    ]) refl
    ∙ ap (λ x. cond x (test f) b) (sym (listed_next fids i d h f))
  where
    some : (l : Bool) → cond (l || true) (test f) b ≡ test f
    some true = refl
    some false = refl

    none : (l : Bool) → cond l (test f) b ≡ cond (l || false) (test f) b
    none true = refl
    none false = refl

-- ---- items of fids

pub map_on : (one other : Fid → Item) (fids : List Fid) → ((g : Fid) → is_listed fids g ≡ true → one g ≡ other g) → prelude.map one fids ≡ prelude.map other fids
map_on one other [] same = refl
map_on one other (g ∷ fids) same = λ i. same g (ap (λ b. b || is_listed fids g) (same_fid_refl g)) i ∷ map_on one other fids (λ h listed. same h (later (same_fid g h) (is_listed fids h) listed)) i
  where
    later : (b x : Bool) → x ≡ true → (b || x) ≡ true
    later true x h = refl
    later false x h = h

-- the items with that of one fid anew
with_one : (item : Fid → Item) → ((g : Fid) → (item g).fid ≡ g) → (i : Item) (f : Fid) → i.fid ≡ f → (fids : List Fid) → with_item i (prelude.map item fids) ≡ prelude.map (λ g. cond (same_fid g f) i (item g)) fids
with_one item fid_is i f is [] = refl
with_one item fid_is i f is (g ∷ fids) = λ j. cond (same_fid (fid_is g j) (is j)) i (item g) ∷ with_one item fid_is i f is fids j

not_both : (b : Bool) → b ≡ true → b ≡ false → ⊥
not_both b t f = both_ways b f t

pub renewed_is : (item new : Fid → Item) → ((g : Fid) → (item g).fid ≡ g) → ((g : Fid) → (new g).fid ≡ g) → (some fids : List Fid) →
    ((g : Fid) → is_listed fids g ≡ true → is_listed some g ≡ false → item g ≡ new g) → renewed_items new some (prelude.map item fids) ≡ prelude.map new fids
renewed_is item new fid_is new_is [] fids same = map_on item new fids (λ g listed. same g listed refl)
renewed_is item new fid_is new_is (f ∷ some) fids same =
    ap (renewed_items new some) (with_one item fid_is (new f) f (new_is f) fids)
    ∙ renewed_is (λ g. cond (same_fid g f) (new f) (item g)) new one_is new_is some fids then_same
  where
    one_is : (g : Fid) → (cond (same_fid g f) (new f) (item g)).fid ≡ g
    one_is g = (elim (same_fid g f) as (λ b. same_fid g f ≡ b → (cond b (new f) (item g)).fid ≡ g) [
      | true ↦ λ e. new_is f ∙ sym (same_fid_is g f e)
      | false ↦ λ _. fid_is g
    ]) refl

    then_same : (g : Fid) → is_listed fids g ≡ true → is_listed some g ≡ false → cond (same_fid g f) (new f) (item g) ≡ new g
    then_same g listed free = elim (fid_cases g f) [
      | inl at ↦ ap (λ b. cond b (new f) (item g)) (ap (λ x. same_fid x f) at ∙ same_fid_refl f) ∙ ap new (sym at)
      | inr apart ↦ ap (λ b. cond b (new f) (item g)) (not_same g f apart) ∙ same g listed (ap (λ b. b || is_listed some g) (not_same f g (λ at. apart (sym at))) ∙ free)
    ]

-- a node is used last
pub latest_items : (c n : CacheState) (f : Fid) → ((g : Fid) → g ≢ f → standing_of n g ≡ standing_of c g) → n.recency ≡ latest c.recency f → standings n ≡ with_last (standings c) (standing_of n f)
latest_items c n f same is =
    ap (prelude.map (standing_of n)) is ∙ map_last (standing_of n) (except c.recency f) f
    ∙ ap (λ l. l ++ standing_of n f ∷ []) (alike (standing_of n) (standing_of c) (except c.recency f) f same (except_here c.recency f) ∙ sym (without_map (standing_of c) (λ g. refl) f c.recency))

-- a node is taken out
pub except_items : (c n : CacheState) (f : Fid) → ((g : Fid) → g ≢ f → standing_of n g ≡ standing_of c g) → n.recency ≡ except c.recency f → standings n ≡ without f (standings c)
except_items c n f same is =
    ap (prelude.map (standing_of n)) is ∙ alike (standing_of n) (standing_of c) (except c.recency f) f same (except_here c.recency f) ∙ sym (without_map (standing_of c) (λ g. refl) f c.recency)

pub left_items : (item : Fid → Item) → ((g : Fid) → (item g).fid ≡ g) → (gone fids : List Fid) → left gone (prelude.map item fids) ≡ prelude.map item (except_all fids gone)
left_items item fid_is [] fids = refl
left_items item fid_is (f ∷ gone) fids = ap (left gone) (without_map item fid_is f fids) ∙ left_items item fid_is gone (except fids f)

-- each node stands as it stood
pub same_items : (c n : CacheState) → ((g : Fid) → standing_of n g ≡ standing_of c g) → n.recency ≡ c.recency → standings n ≡ standings c
same_items c n same is = ap (prelude.map (standing_of n)) is ∙ map_on (standing_of n) (standing_of c) c.recency (λ g _. same g)

pub more_left : (items : List Item) (fids : List Fid) (i : ℕ) (d : Fid) → i < length fids → left (take (suc i) fids) items ≡ without (slice_index_or fids i d) (left (take i fids) items)
more_left items [] i d h = absurd (omega (arith, h))
more_left items (f ∷ fids) zero d h = refl
more_left items (f ∷ fids) (suc i) d h = more_left (without f items) fids i d (omega (arith, h))

pub more_renewed : (new : Fid → Item) (items : List Item) (fids : List Fid) (i : ℕ) (d : Fid) → i < length fids →
    renewed_items new (take (suc i) fids) items ≡ with_item (new (slice_index_or fids i d)) (renewed_items new (take i fids) items)
more_renewed new items [] i d h = absurd (omega (arith, h))
more_renewed new items (f ∷ fids) zero d h = refl
more_renewed new items (f ∷ fids) (suc i) d h = more_renewed new (with_item (new f) items) fids i d (omega (arith, h))

-- ---- what stands where after each step

abbrev pub held_dirty : Option Hold → Bool
held_dirty o = option_map_or (λ (hold : Hold). hold.dirty) o false

-- a node stands so where its hold has this parent and its node is that one
pub stands : (c n : CacheState) (g : Fid) → parent_of n g ≡ parent_of c g → map.get n.nodes g ≡ map.get c.nodes g → n.priorities ≡ c.priorities → standing_of n g ≡ standing_of c g
stands c n g parent node priorities = λ i. record {
  fid = g;
  parent = parent i;
  priority = prelude.unwrap_or (map.get (priorities i) g) 0;
  blocks = option_map_or (λ (node : Node). blocks_of node.kind) (node i) 0;
  cached = true;
  served = false;
  pinned = false;
}

pub put_stands : (c : CacheState) (f : Fid) (parent : Option Fid) (node : Node) (from : Option ℕ) (g : Fid) → g ≢ f → standing_of (put_in c f parent node from) g ≡ standing_of c g
put_stands c f parent node from g apart = stands c (put_in c f parent node from) g (ap parent_held (get_else fids_total exact_fids c.holds f _ g apart)) (get_else fids_total exact_fids c.nodes f node g apart) refl

pub put_dirty : (c : CacheState) (f : Fid) (parent : Option Fid) (node : Node) (from : Option ℕ) (g : Fid) → cond (same_fid f g) false (is_dirty c g) ≡ is_dirty (put_in c f parent node from) g
put_dirty c f parent node from g = elim (fid_cases g f) [
  | inl at ↦ ap (λ b. cond b false (is_dirty c g)) (ap (same_fid f) at ∙ same_fid_refl f) ∙ sym (ap held_dirty (ap (map.get (put_in c f parent node from).holds) at ∙ get_here fids_total c.holds f _))
  | inr apart ↦ ap (λ b. cond b false (is_dirty c g)) (not_same f g (λ at. apart (sym at))) ∙ sym (ap held_dirty (get_else fids_total exact_fids c.holds f _ g apart))
]

pub out_stands : (c : CacheState) (f g : Fid) → g ≢ f → standing_of (steps.without c f) g ≡ standing_of c g
out_stands c f g apart = stands c (steps.without c f) g (ap parent_held (gone_else fids_total exact_fids c.holds f g apart)) (gone_else fids_total exact_fids c.nodes f g apart) refl

pub out_dirty : (c : CacheState) (f g : Fid) → cond (same_fid f g) false (is_dirty c g) ≡ is_dirty (steps.without c f) g
out_dirty c f g = elim (fid_cases g f) [
  | inl at ↦ ap (λ b. cond b false (is_dirty c g)) (ap (same_fid f) at ∙ same_fid_refl f) ∙ sym (ap held_dirty (ap (map.get (map.remove c.holds f)) at ∙ gone_here fids_total c.holds f))
  | inr apart ↦ ap (λ b. cond b false (is_dirty c g)) (not_same f g (λ at. apart (sym at))) ∙ sym (ap held_dirty (gone_else fids_total exact_fids c.holds f g apart))
]

pub dirty_or : (b : Bool) (o : Option Hold) → held_dirty (cond b None o) ≡ (not b && held_dirty o)
dirty_or true o = refl
dirty_or false o = refl

pub dropped_dirty : (c : CacheState) (fids : List Fid) (g : Fid) → (not (is_listed fids g) && is_dirty c g) ≡ is_dirty (dropped c fids) g
dropped_dirty c fids g = sym (ap held_dirty (taken_at c.holds fids g) ∙ dirty_or (is_listed fids g) (map.get c.holds g))

-- a node that doesn't go stands as it stood
left_stands : (c : CacheState) (fids : List Fid) (g : Fid) → is_listed fids g ≡ false → standing_of (dropped c fids) g ≡ standing_of c g
left_stands c fids g free = stands c (dropped c fids) g (ap parent_held (taken_at c.holds fids g ∙ ap (λ b. cond b None (map.get c.holds g)) free)) (taken_at c.nodes fids g ∙ ap (λ b. cond b None (map.get c.nodes g)) free) refl

-- ---- changes of holds alone

parent_changed : (change : Hold → Hold) → ((hold : Hold) → (change hold).parent ≡ hold.parent) → (o : Option Hold) → parent_held (option_map change o) ≡ parent_held o
parent_changed change same None = refl
parent_changed change same (Some hold) = same hold

pub dirty_changed : (change : Hold → Hold) → ((hold : Hold) → (change hold).dirty ≡ hold.dirty) → (o : Option Hold) → held_dirty (option_map change o) ≡ held_dirty o
dirty_changed change same None = refl
dirty_changed change same (Some hold) = same hold

pub each_items : (c : CacheState) (change : Fid → Hold → Hold) → ((f : Fid) (hold : Hold) → (change f hold).parent ≡ hold.parent) → standings (record c { holds = each change c.holds }) ≡ standings c
each_items c change same = same_items c (record c { holds = each change c.holds }) (λ g. stands c (record c { holds = each change c.holds }) g (ap parent_held (get_each change c.holds g) ∙ parent_changed (change g) (same g) (map.get c.holds g)) refl refl) refl

pub each_dirty : (c : CacheState) (change : Fid → Hold → Hold) → ((f : Fid) (hold : Hold) → (change f hold).dirty ≡ hold.dirty) → (g : Fid) → is_dirty (record c { holds = each change c.holds }) g ≡ is_dirty c g
each_dirty c change same g = ap held_dirty (get_each change c.holds g) ∙ dirty_changed (change g) (same g) (map.get c.holds g)

pub altered_at_all : (holds : Holds) (f : Fid) (change : Hold → Hold) (g : Fid) → (map.get (altered holds f change) g ≡ map.get holds g) ⊎ (map.get (altered holds f change) g ≡ option_map change (map.get holds g))
altered_at_all holds f change g = elim (fid_cases g f) [
  | inl at ↦ inr (ap (map.get (altered holds f change)) at ∙ at_altered holds f change ∙ ap (λ x. option_map change (map.get holds x)) (sym at))
  | inr apart ↦ inl (off_altered holds f change g apart)
]

pub invalidated_items : (c : CacheState) (f : Fid) → standings (invalidated c f) ≡ standings c
invalidated_items c f = same_items c (invalidated c f) (λ g. stands c (invalidated c f) g (elim (altered_at_all c.holds f not_valid g) [
  | inl e ↦ ap parent_held e
  | inr e ↦ ap parent_held e ∙ parent_changed not_valid (λ _. refl) (map.get c.holds g)
]) refl refl) refl

pub invalidated_dirty : (c : CacheState) (f g : Fid) → is_dirty (invalidated c f) g ≡ is_dirty c g
invalidated_dirty c f g = elim (altered_at_all c.holds f not_valid g) [
  | inl e ↦ ap held_dirty e
  | inr e ↦ ap held_dirty e ∙ dirty_changed not_valid (λ _. refl) (map.get c.holds g)
]

from_parent : (volume server : ℕ) (f : Fid) (hold : Hold) → (valid_but_from volume server f hold).parent ≡ hold.parent
from_parent volume server f hold = elim ((f.volume == volume) && option_map_or (λ s. s == server) hold.from false) as (λ b. (if b then not_valid hold else hold).parent ≡ hold.parent) [ true ↦ refl | false ↦ refl ]

from_clean : (volume server : ℕ) (f : Fid) (hold : Hold) → (valid_but_from volume server f hold).dirty ≡ hold.dirty
from_clean volume server f hold = elim ((f.volume == volume) && option_map_or (λ s. s == server) hold.from false) as (λ b. (if b then not_valid hold else hold).dirty ≡ hold.dirty) [ true ↦ refl | false ↦ refl ]

pub from_items : (c : CacheState) (volume server : ℕ) → standings (invalidated_from c volume server) ≡ standings c
from_items c volume server = each_items c (valid_but_from volume server) (from_parent volume server)

pub from_dirty : (c : CacheState) (volume server : ℕ) (g : Fid) → is_dirty (invalidated_from c volume server) g ≡ is_dirty c g
from_dirty c volume server g = each_dirty c (valid_but_from volume server) (from_clean volume server) g

pub pinned_items : (c : CacheState) (fids : List Fid) → standings (pinned_to c fids) ≡ standings c
pinned_items c fids = each_items c (dirty_where fids) (λ _ _. refl)

pub pinned_in_items : (c : CacheState) (volume : ℕ) (fids : List Fid) → standings (pinned_in c volume fids) ≡ standings c
pinned_in_items c volume fids = each_items c (dirty_in volume fids) (λ f hold. elim (f.volume == volume) as (λ b. (if b then dirty_where fids f hold else hold).parent ≡ hold.parent) [ true ↦ refl | false ↦ refl ])

-- what is left doesn't go
pub stays_of : (fids recency : List Fid) (g : Fid) → is_listed (except_all recency fids) g ≡ true → is_listed fids g ≡ false
stays_of fids recency g listed = not_true (is_listed fids g) (first_true (not (is_listed fids g)) (is_listed recency g) (sym (except_all_at recency fids g) ∙ listed))
  where
    not_true : (b : Bool) → not b ≡ true → b ≡ false
    not_true true h = absurd (both_ways _ refl h)
    not_true false h = refl

    first_true : (a b : Bool) → (a && b) ≡ true → a ≡ true
    first_true true b h = refl
    first_true false b h = absurd (both_ways _ refl h)

-- ---- the index after each step

module _ (q now : Queued) (m marked : Marks) (c n : CacheState) (was : AreIndexed q m c) where
  -- the nodes stand as they stood, and the dirty ones are marked
  pub indexed_marked : standings n ≡ standings c → AreMarked marked (is_dirty n) → AreIndexed q marked n
  indexed_marked same marks = record { queue = subst (IsQueued q) (sym same) was.queue; marks = marks }

  -- and the same are dirty
  pub indexed_same : standings n ≡ standings c → ((g : Fid) → is_dirty n g ≡ is_dirty c g) → AreIndexed q m n
  indexed_same same dirty = record { queue = subst (IsQueued q) (sym same) was.queue; marks = marked_same m (is_dirty c) (is_dirty n) (λ g. sym (dirty g)) was.marks }

  indexed_last : (f : Fid) (i : Item) → ((g : Fid) → g ≢ f → standing_of n g ≡ standing_of c g) → n.recency ≡ latest c.recency f → i ≡ standing_of n f →
      ((items : List Item) → IsQueued q items → IsQueued now (with_last items i)) → AreMarked marked (is_dirty n) → AreIndexed now marked n
  indexed_last f i same is item put marks = record {
    queue = subst (IsQueued now) (ap (with_last (standings c)) item ∙ sym (latest_items c n f same is)) (put (standings c) was.queue);
    marks = marks;
  }

  -- a node is used
  pub indexed_used : (f : Fid) (i : Item) → is_cached c f ≡ true → n ≡ used c f → i ≡ standing_of n f → ((items : List Item) → IsQueued q items → IsQueued now (with_last items i)) → marked ≡ m → AreIndexed now marked n
  indexed_used f i there e item put marks =
      let s : CacheState = record c { recency = latest c.recency f } in
      let is : n ≡ s = e ∙ ap (λ b. if b then s else c) there in
      indexed_last f i (λ g _. ap (λ (x : CacheState). standing_of x g) is) (ap (λ (x : CacheState). x.recency) is) item put
      (subst (λ x. AreMarked x (is_dirty n)) (sym marks) (marked_same m (is_dirty c) (is_dirty n) (λ g. sym (ap (λ (x : CacheState). is_dirty x g) is)) was.marks))

  -- a node is put
  pub indexed_put : (f : Fid) (parent : Option Fid) (node : Node) (from : Option ℕ) (i : Item) → n ≡ put_in c f parent node from → i ≡ standing_of n f → ((items : List Item) → IsQueued q items → IsQueued now (with_last items i)) →
      ((passes : Fid → Bool) → AreMarked m passes → AreMarked marked (λ g. cond (same_fid f g) false (passes g))) → AreIndexed now marked n
  indexed_put f parent node from i e item put set =
      indexed_last f i (λ g apart. ap (λ (x : CacheState). standing_of x g) e ∙ put_stands c f parent node from g apart) (ap (λ (x : CacheState). x.recency) e) item put
      (marked_same marked _ (is_dirty n) (λ g. put_dirty c f parent node from g ∙ sym (ap (λ (x : CacheState). is_dirty x g) e)) (set (is_dirty c) was.marks))

  -- a node is taken out
  pub indexed_out : (f : Fid) → n ≡ steps.without c f → ((items : List Item) → IsQueued q items → IsQueued now (without f items)) →
      ((passes : Fid → Bool) → AreMarked m passes → AreMarked marked (λ g. cond (same_fid f g) false (passes g))) → AreIndexed now marked n
  indexed_out f e out set = record {
    queue = subst (IsQueued now) (sym (except_items c n f (λ g apart. ap (λ (x : CacheState). standing_of x g) e ∙ out_stands c f g apart) (ap (λ (x : CacheState). x.recency) e))) (out (standings c) was.queue);
    marks = marked_same marked _ (is_dirty n) (λ g. out_dirty c f g ∙ sym (ap (λ (x : CacheState). is_dirty x g) e)) (set (is_dirty c) was.marks);
  }

  -- nodes are taken out
  pub indexed_dropped : (fids : List Fid) → n ≡ dropped c fids → ((items : List Item) → IsQueued q items → IsQueued now (left fids items)) →
      ((passes : Fid → Bool) → AreMarked m passes → AreMarked marked (λ g. not (is_listed fids g) && passes g)) → AreIndexed now marked n
  indexed_dropped fids e out set = record {
    queue = subst (IsQueued now) (left_items (standing_of c) (λ g. refl) fids c.recency
        ∙ map_on (standing_of c) (standing_of n) (except_all c.recency fids) (λ g listed. sym (ap (λ (x : CacheState). standing_of x g) e ∙ left_stands c fids g (stays_of fids c.recency g listed)))
        ∙ ap (prelude.map (standing_of n)) (sym (ap (λ (x : CacheState). x.recency) e))) (out (standings c) was.queue);
    marks = marked_same marked _ (is_dirty n) (λ g. dropped_dirty c fids g ∙ sym (ap (λ (x : CacheState). is_dirty x g) e)) (set (is_dirty c) was.marks);
  }
