-- How those who go leave a queue, one after the other.
use Rattle.std.specs.Prelude.{◌≡◌, ℕ, Bool, true, false, not, ◌&&◌, ◌||◌, List, ◌++◌, Option, Some, None}
use Rattle.std.specs.Option.{option_map_or, unwrap_or}
use Rattle.std.specs.Ordering.{is_gt, is_lt}
use Rattle.std.specs.HashMap as hash
use Rattle.std.specs.HashMap.{HashMap}
use Rattle.std.specs.BTreeSet as tree_set
use Rattle.std.specs.BTreeSet.{BTreeSet}
use Rattle.coda_fid.specs.declared.fid.Fid.{Fid}
use Rattle.coda_fid.specs.Fid.{fid_cmp, same_fid}
use Rattle.coda_walk.specs.declared.item.Item.{Item}
use Rattle.coda_walk.specs.declared.rank.Rank.{Rank}
use Rattle.coda_walk.specs.declared.rank.Standing.{Standing}
use Rattle.coda_walk.specs.declared.queue.Queue.{Queue}
use Rattle.coda_walk.specs.declared.leaving.Leaving.{Leaving}
use Rattle.coda_walk.specs.Going.{blocks_of, is_listed, who_goes}
use Rattle.coda_walk.specs.Laws.{left}
use Rattle.coda_walk.specs.Queue.{place_in, count_in, is_in, frees, frees_at, under_count, rank_cmp, same_rank}

-- whether a rank comes after one, where there is one
abbrev pub is_after : Option Rank → Rank → Bool
is_after None q = true
is_after (Some a) q = is_lt (rank_cmp a q)

-- whether a rank is still to be looked at: it is one of the queue's after one of them, or one more
abbrev pub is_pooled : (Rank → Bool) → Option Rank → (Rank → Bool) → Rank → Bool
is_pooled free after more q = (free q && is_after after q) || more q

-- the rank is the first of these
pub record IsFirstOf (ranks : Rank → Bool) (r : Rank) : Type 0 where
  pub there : ranks r ≡ true
  pub first : (q : Rank) → ranks q ≡ true → is_gt (rank_cmp r q) ≡ false

-- the first of these ranks is taken out
pub record Takes (old new : Rank → Bool) (r : Rank) : Type 0 where
  pub first : IsFirstOf old r
  pub rest : (q : Rank) → new q ≡ (not (same_rank r q) && old q)

-- how many items are left under an object
abbrev pub remaining : {S : Type 0} → HashMap Fid ℕ S → HashMap Fid ℕ S → Fid → ℕ
remaining children fewer p = unwrap_or (hash.get same_fid fewer p) (count_in children p)

-- whether a rank is that of the parent, where its item may go
abbrev pub frees_under : (Fid → Option Standing) → Option Fid → (Fid → ℕ) → Rank → Bool
frees_under places parent rest r = option_map_or (λ p. frees_at (places p) (rest p) r) parent false

-- What is left once these went: how many items are under each object; the ranks of those that may go, but for kept ones; the
-- blocks; and nothing is under those who went.
pub record AreLeaving (places : Fid → Option Standing) (pool : Rank → Bool) (rest : Fid → ℕ) (size : ℕ) (gone : List Fid) (kept : Fid → Bool) (items : List Item) : Type 0 where
  pub counted : (p : Fid) → rest p ≡ under_count p (left gone items)
  pub pooled : (r : Rank) → kept r.fid.0 ≡ false → pool r ≡ (not (is_listed gone r.fid.0) && frees places rest r)
  pub blocks : size ≡ blocks_of (left gone items)
  pub bare : (g : Fid) → is_listed gone g ≡ true → under_count g (left gone items) ≡ 0

-- the ranks of a queue that are still to be looked at
abbrev pub pool_of : Queue → Leaving → Rank → Bool
pool_of queue l = is_pooled (is_in queue.free) l.pool.after (is_in l.pool.more)

-- these fids are kept
abbrev pub AreKept : BTreeSet Fid → List Fid → Type 0
AreKept kept fids = (f : Fid) → tree_set.contains fid_cmp kept f ≡ is_listed fids f

-- so it is with those who leave a queue, of which these ranks are still to be looked at; and they are the first of those who
-- go, and the others come after them
pub record AreInTurn (queue : Queue) (l : Leaving) (pool : Rank → Bool) (size : ℕ) (kept : List Fid) (items : List Item) : Type 0 where
  pub stand : AreLeaving (place_in queue.places) pool (remaining queue.children l.fewer) l.left l.gone.items (is_listed kept) items
  pub turn : l.gone.items ++ who_goes size kept (left l.gone.items items) ≡ who_goes size kept items

-- they are all who go
pub record HaveLeft (l : Leaving) (size : ℕ) (kept : List Fid) (items : List Item) : Type 0 where
  pub all : l.gone.items ≡ who_goes size kept items
  pub rest : l.left ≡ blocks_of (left l.gone.items items)

-- after a step they are all who go, or it goes on
abbrev pub IsTurn : Bool → Queue → Leaving → ℕ → List Fid → List Item → Type 0
IsTurn true queue l size kept items = HaveLeft l size kept items
IsTurn false queue l size kept items = AreInTurn queue l (pool_of queue l) size kept items
