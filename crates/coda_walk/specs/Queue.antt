-- How a queue of items is kept, of which who goes is found without a look at all of them.
use Rattle.std.specs.Prelude.{◌≡◌, ℕ, ◌+◌, ◌<◌, Bool, false, not, cond, ◌&&◌, ◌==◌, List, [], ◌∷◌, ◌++◌, length, Option, Some, None}
use Rattle.std.specs.Prelude as prelude
use Rattle.std.specs.Option.{option_map_or, unwrap_or}
use Rattle.std.specs.List.{filter}
use Rattle.std.specs.Ordering.{nat_cmp, ordering_then, eq_by_cmp}
use Rattle.std.specs.declared.cmp.Ordering.{Ordering}
use Rattle.std.specs.HashMap as hash
use Rattle.std.specs.HashMap.{HashMap}
use Rattle.std.specs.BTreeSet as tree_set
use Rattle.std.specs.BTreeSet.{BTreeSet}
use Rattle.coda_fid.specs.declared.fid.Fid.{Fid}
use Rattle.coda_fid.specs.Fid.{fid_cmp, same_fid}
use Rattle.coda_walk.specs.declared.item.Item.{Item}
use Rattle.coda_walk.specs.declared.rank.Rank.{Rank}
use Rattle.coda_walk.specs.declared.rank.Standing.{Standing}
use Rattle.coda_walk.specs.declared.queue.Queue.{Queue}
use Rattle.coda_walk.specs.Going.{blocks_of, is_under, without}
use Rattle.coda_walk.specs.Laws.{Among}
use Rattle.coda_walk.specs.Planning.{item_at}

-- ---- ranks

-- by priority, then by use, and then by fid, the greatest first
abbrev pub rank_cmp : Rank → Rank → Ordering
rank_cmp a b = ordering_then (nat_cmp a.priority b.priority) (ordering_then (nat_cmp a.used b.used) (fid_cmp b.fid.0 a.fid.0))

-- whether two ranks are one
abbrev pub same_rank : Rank → Rank → Bool
same_rank a b = eq_by_cmp rank_cmp a b

-- the rank of an item: its use counts where it has no priority
abbrev pub rank_of : Standing → Rank
rank_of s = record { priority = s.item.priority; used = cond (s.item.priority == 0) s.used 0; fid = record { 0 = s.item.fid } }

-- whether an item with so many others under it may go, where nothing is kept
abbrev pub may_leave : ℕ → Standing → Bool
may_leave under s = not s.item.pinned && (under == 0)

-- ---- what the maps have, as functions

-- where the item of an object stands
abbrev pub place_in : {S : Type 0} → HashMap Fid Standing S → Fid → Option Standing
place_in places f = hash.get same_fid places f

-- how many items stand under an object
abbrev pub count_in : {S : Type 0} → HashMap Fid ℕ S → Fid → ℕ
count_in children f = unwrap_or (hash.get same_fid children f) 0

-- whether a rank is in a set
abbrev pub is_in : BTreeSet Rank → Rank → Bool
is_in free r = tree_set.contains rank_cmp free r

-- when an object was used, 0 where it doesn't stand there
abbrev pub used_at : (Fid → Option Standing) → Fid → ℕ
used_at places f = option_map_or (λ (s : Standing). s.used) (places f) 0

-- whether a rank is that of an item, with so many others under it, that may go where nothing is kept
abbrev pub frees_at : Option Standing → ℕ → Rank → Bool
frees_at place under r = option_map_or (λ s. same_rank (rank_of s) r && may_leave under s) place false

-- whether a rank is that of an item that may go, where nothing is kept
abbrev pub frees : (Fid → Option Standing) → (Fid → ℕ) → Rank → Bool
frees places children r = frees_at (places r.fid.0) (children r.fid.0) r

-- these are the ranks of the items that may go, where nothing is kept
abbrev pub AreFree : (Fid → Option Standing) → (Fid → ℕ) → (Rank → Bool) → Type 0
AreFree places children free = (r : Rank) → free r ≡ frees places children r

-- the same, but for an object whose rank is not there
abbrev pub AreFreeBut : (Fid → Option Standing) → (Fid → ℕ) → Fid → (Rank → Bool) → Type 0
AreFreeBut places children f free = (r : Rank) → free r ≡ (not (same_fid r.fid.0 f) && frees places children r)

-- items stand at their fids
abbrev pub AreKeyed : (Fid → Option Standing) → Type 0
AreKeyed places = (f : Fid) (s : Standing) → places f ≡ Some s → s.item.fid ≡ f

-- the counts with this one at an object
abbrev pub set_at : Fid → ℕ → (Fid → ℕ) → Fid → ℕ
set_at f count counts p = cond (same_fid p f) count (counts p)

-- ---- the queue

-- each item was used before those that stand behind it
abbrev pub Rises : (Fid → ℕ) → List Item → Type 0
Rises used [] = Unit {0}
Rises used (i ∷ items) = ((j : Item) → Among j items → used i.fid < used j.fid) × Rises used items

-- how many items stand under an object
abbrev pub under_count : Fid → List Item → ℕ
under_count p items = length (filter (is_under p) items)

-- 1 where a parent is the object, else 0
abbrev pub one_under : Option Fid → Fid → ℕ
one_under parent p = cond (option_map_or (λ q. same_fid q p) parent false) 1 0

-- The items, in the order of their use: each stands at its fid, was used before those behind it and at an earlier time than
-- the clock's; those under each object are counted; and the blocks of all are added up.
pub record AreQueued (places : Fid → Option Standing) (children : Fid → ℕ) (clock blocks : ℕ) (items : List Item) : Type 0 where
  pub placed : (f : Fid) → prelude.option_map (λ (s : Standing). s.item) (places f) ≡ item_at items f
  pub rises : Rises (used_at places) items
  pub earlier : (f : Fid) (s : Standing) → places f ≡ Some s → s.used < clock
  pub counted : (p : Fid) → children p ≡ under_count p items
  pub total : blocks ≡ blocks_of items

-- when an object was used, by a queue: 0 where it has no item
abbrev pub time_of : Queue → Fid → ℕ
time_of q f = used_at (place_in q.places) f

-- a queue has the items, in the order of their use, and the ranks of those that may go
pub record IsQueueOf (q : Queue) (items : List Item) : Type 0 where
  pub queued : AreQueued (place_in q.places) (count_in q.children) q.clock q.total items
  pub free : AreFree (place_in q.places) (count_in q.children) (is_in q.free)

-- what is used at a time comes between these
pub record FitsBetween (used : Fid → ℕ) (front back : List Item) (time : ℕ) : Type 0 where
  pub later : (j : Item) → Among j front → used j.fid < time
  pub sooner : (j : Item) → Among j back → time < used j.fid

-- ---- what is done to it

-- the items with one that is used last
abbrev pub with_last : List Item → Item → List Item
with_last items i = without i.fid items ++ i ∷ []

-- the items with another at its object, where one is there
abbrev pub with_item : Item → List Item → List Item
with_item i items = prelude.map (λ (j : Item). cond (same_fid j.fid i.fid) i j) items
