-- The plan of a hoard walk: who is taken for the priorities, what is fetched for that, and who goes.
use Rattle.std.specs.Prelude.{ℕ, zero, suc, Bool, true, false, not, cond, ◌&&◌, ◌||◌, nat_le, nat_lt, List, [], ◌∷◌, ◌++◌, length, Option, Some, None}
use Rattle.std.specs.Prelude as prelude
use Rattle.std.specs.Option.{option_map_or}
use Rattle.std.specs.Ordering.{nat_cmp, ordering_then}
use Rattle.std.specs.declared.cmp.Ordering.{Ordering}
use Rattle.std.specs.List.{filter, find, filter_map}
use Rattle.std.specs.FinMap as map
use Rattle.coda_fid.specs.declared.fid.Fid.{Fid}
use Rattle.coda_fid.specs.Fid.{fid_cmp, same_fid}
use Rattle.coda_walk.specs.declared.item.Item.{Item}
use Rattle.coda_walk.specs.declared.candidate.Candidate.{Candidate}
use Rattle.coda_walk.specs.declared.candidate.Place.{Place}
use Rattle.coda_walk.specs.Going.{blocks_of, is_listed, who_goes}

-- ---- items and the ways up

-- the fids of items
abbrev pub fids_of : List Item → List Fid
fids_of items = prelude.map (λ (i : Item). i.fid) items

-- the item of an object
abbrev pub item_at : List Item → Fid → Option Item
item_at items f = find (λ (i : Item). same_fid i.fid f) items

-- the directory under which an object stands
abbrev pub parent_at : List Item → Fid → Option Fid
parent_at items f = option_map_or (λ (i : Item). i.parent) (item_at items f) None

-- f, its parent, and so on, within so many steps
abbrev pub way_within : List Item → ℕ → Fid → List Fid
way_within items zero f = []
way_within items (suc steps) f = f ∷ option_map_or (λ p. way_within items steps p) (parent_at items f) []

-- f, its parent, and so on up to what has no parent: no way is longer than there are items
abbrev pub way_up : List Item → Fid → List Fid
way_up items f = way_within items (length items) f

-- keys as entries that have nothing besides
abbrev pub marked : {K : Type 0} → List K → List (K × Unit {0})
marked [] = []
marked (k ∷ keys) = (k, tt) ∷ marked keys

-- keys in their order, each once
abbrev pub in_order : {K : Type 0} → (K → K → Ordering) → List K → List K
in_order cmp keys = map.keys (map.from_entries {R = cmp} (marked keys))

-- ---- who is taken

-- whether an item is a candidate: it has a priority
abbrev pub is_candidate : Item → Bool
is_candidate i = nat_lt 0 i.priority

-- an item as a candidate
abbrev pub candidate_of : Item → Candidate
candidate_of i = record { priority = record { 0 = i.priority }; fid = i.fid }

-- by priority, the greatest first, and then by fid, the smallest first
abbrev pub candidate_cmp : Candidate → Candidate → Ordering
candidate_cmp a b = ordering_then (nat_cmp b.priority.0 a.priority.0) (fid_cmp a.fid b.fid)

-- the candidates in their order
abbrev pub candidates : List Item → List Candidate
candidates items = in_order candidate_cmp (prelude.map candidate_of (filter is_candidate items))

-- the blocks of those items that are listed
abbrev pub blocks_kept : List Item → List Fid → ℕ
blocks_kept items kept = blocks_of (filter (λ (i : Item). is_listed kept i.fid) items)

-- what is kept and who is taken
pub record Taken : Type 0 where
  pub kept : List Fid
  pub taken : List Fid

-- what is kept and taken with one candidate more, where it and all above it fit beside what is kept
abbrev pub taken_with : ℕ → List Item → Taken → Fid → Taken
taken_with size items t f =
    cond (nat_le (blocks_kept items (t.kept ++ way_up items f)) size) (record { kept = t.kept ++ way_up items f; taken = t.taken ++ f ∷ [] }) t

-- what is kept and taken of candidates in turn
abbrev pub taken_of : ℕ → List Item → Taken → List Candidate → Taken
taken_of size items t [] = t
taken_of size items t (c ∷ rest) = taken_of size items (taken_with size items t c.fid) rest

-- what is kept before any candidate is taken: the pinned objects
abbrev pub pinned_of : List Item → Taken
pinned_of items = record { kept = fids_of (filter (λ (i : Item). i.pinned) items); taken = [] }

-- what is kept: the pinned objects, and then the candidates in their order that fit, with all above them
unfoldable pub takes : ℕ → List Item → Taken
takes size items = taken_of size items (pinned_of items) (candidates items)

-- ---- the plan

-- the fids of those that are kept, fetched and dropped
pub record Planned : Type 0 where
  pub keep : List Fid
  pub fetch : List Fid
  pub drop : List Fid

-- the cached items in the order of their use, and those besides that are kept
abbrev pub at_stake : List Item → List Fid → List Fid → List Item
at_stake items recency kept = filter_map (item_at items) recency ++ filter (λ (i : Item). not i.cached && is_listed kept i.fid) items

-- who goes: of the cached objects that are not kept, as few as make the rest fit
abbrev pub drops : ℕ → List Item → List Fid → List Fid → List Fid
drops size items recency kept = who_goes size kept (at_stake items recency kept)

-- whether an item is fetched: it is taken and neither served nor pinned, or above one that is taken and not cached
abbrev pub is_fetched : Taken → Item → Bool
is_fetched t i = (is_listed t.taken i.fid && not (i.served || i.pinned)) || (is_listed t.kept i.fid && not i.cached)

-- whether an item stays as it is: it is cached, and neither fetched nor among those that go
abbrev pub is_kept : Taken → List Fid → Item → Bool
is_kept t gone i = i.cached && (not (is_fetched t i) && not (is_listed gone i.fid))

-- where an item stands: how long the way up is, and its fid
abbrev pub place_of : List Item → Item → Place
place_of items i = record { depth = length (way_up items i.fid); fid = i.fid }

-- less deep first, and then by fid
abbrev pub place_cmp : Place → Place → Ordering
place_cmp a b = ordering_then (nat_cmp a.depth b.depth) (fid_cmp a.fid b.fid)

-- items with parents before children, and else by fid
abbrev pub parents_first : List Item → List Item → List Fid
parents_first items some = prelude.map (λ (p : Place). p.fid) (in_order place_cmp (prelude.map (place_of items) some))

-- the plan by what is kept and taken
abbrev pub planned : ℕ → List Item → List Fid → Taken → Planned
planned size items recency t = record {
  keep = fids_of (filter (is_kept t (drops size items recency t.kept)) items);
  fetch = parents_first items (filter (is_fetched t) items);
  drop = drops size items recency t.kept;
}

-- The plan over objects, of which the cached ones were used in this order, for a cache of so many blocks.
unfoldable pub plan : ℕ → List Item → List Fid → Planned
plan size items recency = planned size items recency (takes size items)
