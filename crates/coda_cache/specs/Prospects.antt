-- What is known of a cache as an operation on a volume will leave it, while it isn't made.
use Rattle.std.specs.Prelude.{◌≡◌, ℕ, zero, suc, ◌+◌, ◌<◌, ◌^◌, Bool, true, false, not, ◌&&◌, ◌||◌, ◌==◌, cond, List, [], ◌∷◌, ◌++◌, Option, Some, None, Result, Ok, Err}
use Rattle.std.specs.Prelude as prelude
use Rattle.std.specs.Option.{option_map_or}
use Rattle.std.specs.List.{filter}
use Rattle.std.specs.BTreeSet as btree
use Rattle.std.specs.BTreeSet.{BTreeSet}
use Rattle.std.specs.FinMap as map
use Rattle.coda_fid.specs.declared.fid.Fid.{Fid}
use Rattle.coda_fid.specs.declared.op.Record.{Record}
use Rattle.coda_fid.specs.Fid.{fid_cmp, same_fid}
use Rattle.coda_walk.specs.Going as going
use Rattle.coda_certify.specs.Replay.{applied}
use Rattle.coda_cache.specs.declared.hold.Hold.{Hold}
use Rattle.coda_cache.specs.declared.prospect.Prospect.{Prospect}
use Rattle.coda_cache.specs.Keeping.{Agree}
use Rattle.coda_cache.specs.State.{CacheState, parent_held}
use Rattle.coda_cache.specs.Steps.{new_hold, under}

-- whether a node goes with the one that the operation takes out
abbrev pub will_go : Prospect → Fid → Bool
will_go p f = btree.contains fid_cmp p.gone f

-- how a node is held, unless it goes
abbrev pub hold_left : CacheState → Prospect → Fid → Option Hold
hold_left c p f = cond (will_go p f) None (map.get c.holds f)

-- the same, where a node may be made in a directory
abbrev pub hold_made : Option (Fid × Fid) → Fid → Option Hold → Option Hold
hold_made None f hold = hold
hold_made (Some m) f hold = cond (same_fid m.1 f) (Some (new_hold m.0)) hold

-- a hold, under another directory where its node is moved
abbrev pub hold_moved : Option (Fid × Fid) → Fid → Hold → Hold
hold_moved None f hold = hold
hold_moved (Some m) f hold = cond (same_fid m.0 f) (under m.1 hold) hold

-- a hold, dirty where the log then mentions its node
abbrev pub hold_noted : Prospect → Fid → Hold → Hold
hold_noted p f hold = record hold { dirty = cond (f.volume == p.volume) (btree.contains fid_cmp p.mentioned f) (hold.dirty || btree.contains fid_cmp p.touched f) }

-- how a node will be held
abbrev pub hold_ahead : CacheState → Prospect → Fid → Option Hold
hold_ahead c p f = prelude.option_map (λ hold. hold_noted p f (hold_moved p.moved f hold)) (hold_made p.made f (hold_left c p f))

-- the directory under which a node will be cached
abbrev pub parent_ahead : CacheState → Prospect → Fid → Option Fid
parent_ahead c p f = parent_held (hold_ahead c p f)

-- whether a node will be dirty
abbrev pub is_dirty_ahead : CacheState → Prospect → Fid → Bool
is_dirty_ahead c p f = option_map_or (λ (hold : Hold). hold.dirty) (hold_ahead c p f) false

-- a node and what will be above it, within so many steps
abbrev pub way_ahead : CacheState → Prospect → ℕ → Fid → List Fid
way_ahead c p zero f = []
way_ahead c p (suc steps) f = f ∷ option_map_or (λ d. way_ahead c p steps d) (parent_ahead c p f) []

-- the way up from what may be there, within so many steps
abbrev pub way_ahead_on : CacheState → Prospect → ℕ → Option Fid → List Fid
way_ahead_on c p steps at = option_map_or (λ f. way_ahead c p steps f) at []

-- whether a node will be dirty, and below another
abbrev pub pins_ahead : CacheState → Prospect → Fid → Fid → Bool
pins_ahead c p f d = is_dirty_ahead c p d && going.is_listed (way_ahead c p p.steps d) f

-- the node that is made
abbrev pub fids_made : Option (Fid × Fid) → List Fid
fids_made None = []
fids_made (Some m) = m.1 ∷ []

-- the cached nodes in the order of their use, once the operation is made
abbrev pub recency_ahead : CacheState → Prospect → List Fid
recency_ahead c p = filter (λ f. not (will_go p f)) c.recency ++ fids_made p.made

-- So an operation of a client will leave a cache.
pub record Foresees (c : CacheState) (client : ℕ) (rec : Record) (n : CacheState) (p : Prospect) : Type 0 where
  pub size : n.size ≡ c.size
  pub priorities : n.priorities ≡ c.priorities
  pub recency : n.recency ≡ recency_ahead c p
  pub holds : (f : Fid) → hold_ahead c p f ≡ map.get n.holds f
  pub steps : p.steps ≡ map.len n.holds
  pub nodes : (f : Fid) → map.get n.nodes f ≡ cond (will_go p f) None (map.get (applied c.nodes client rec) f)
  pub agree : Agree n.nodes n.holds n.recency
  pub unused : (m : Fid × Fid) → p.made ≡ Some m → going.is_listed c.recency m.1 ≡ false
  pub moves : (m : Fid × Fid) → p.moved ≡ Some m → btree.contains fid_cmp p.touched m.0 ≡ true
  pub others : (f : Fid) → btree.contains fid_cmp p.touched f ≡ false → map.get (applied c.nodes client rec) f ≡ map.get c.nodes f

-- ---- sets of those that stay

-- whether a set has a parent, where there is one
abbrev pub holds_parent : BTreeSet Fid → Option Fid → Bool
holds_parent set parent = option_map_or (λ p. btree.contains fid_cmp set p) parent true

-- whether a set has the node that is made, where one is made
abbrev pub holds_made : BTreeSet Fid → Option (Fid × Fid) → Bool
holds_made set made = option_map_or (λ (m : Fid × Fid). btree.contains fid_cmp set m.1) made true

-- whether a set hasn't the parent of a fid
abbrev pub leaves : BTreeSet Fid → (Fid → Option Fid) → Fid → Bool
leaves set parent f = not (holds_parent set (parent f))
