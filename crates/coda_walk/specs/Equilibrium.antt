-- That a plan leaves a cache in equilibrium.
use Rattle.std.specs.Prelude.{◌≡◌, ℕ, ◌<◌, Bool, true, false, ◌||◌, List, ◌∷◌, ◌++◌}
use Rattle.std.specs.List.{filter, list_any}
use Rattle.std.specs.List.Sorted.{IsStrictlySortedBy}
use Rattle.std.specs.Ordering.{eq_by_cmp}
use Rattle.coda_fid.specs.declared.fid.Fid.{Fid}
use Rattle.coda_walk.specs.declared.item.Item.{Item}
use Rattle.coda_walk.specs.declared.candidate.Candidate.{Candidate}
use Rattle.coda_walk.specs.Going.{is_listed}
use Rattle.coda_walk.specs.Laws.{Among}
use Rattle.coda_walk.specs.Planning.{is_candidate, candidate_of, candidate_cmp, candidates, blocks_kept, way_up, taken_of, pinned_of, Planned}

-- what is kept once these candidates had their turns: the pinned objects, and those of the candidates that fitted, with all above them
abbrev pub kept_after : ℕ → List Item → List Candidate → List Fid
kept_after size items turns = (taken_of size items (pinned_of items) turns).kept

-- whether an object is cached once the plan is carried out
abbrev pub is_cached_after : Planned → Fid → Bool
is_cached_after p f = is_listed p.keep f || is_listed p.fetch f

-- these are the objects with a priority, each once, by priority and then by fid
pub record AreInOrder (items : List Item) (cs : List Candidate) : Type 0 where
  pub rising : IsStrictlySortedBy candidate_cmp cs
  pub exact : (c : Candidate) → list_any (eq_by_cmp candidate_cmp c) cs ≡ list_any (λ (i : Item). eq_by_cmp candidate_cmp c (candidate_of i)) (filter is_candidate items)

-- A candidate that isn't cached after the plan doesn't fit, with all above it, beside the pinned objects and the candidates
-- before it that were taken. So no uncached candidate has a higher priority than a cached one that isn't pinned, unless it
-- doesn't fit there.
pub record IsInEquilibrium (size : ℕ) (items : List Item) (p : Planned) : Type 0 where
  pub order : AreInOrder items (candidates items)
  pub balance : (i : Item) → Among i items → is_candidate i ≡ true → is_cached_after p i.fid ≡ false →
      (before after : List Candidate) → candidates items ≡ before ++ candidate_of i ∷ after → size < blocks_kept items (kept_after size items before ++ way_up items i.fid)
