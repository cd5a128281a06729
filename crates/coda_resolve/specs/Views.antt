-- What the reachable replicas hold, as lists in order of fids.
use Rattle.std.specs.Prelude.{◌≡◌, ℕ, ◌<◌, ◌≤◌, true, List, [], ◌∷◌, length, map, slice_index_or}
use Rattle.std.specs.List.{AllByRecursion}
use Rattle.std.specs.FinMap as finmap
use Rattle.std.specs.FinMap.{is_sorted}
use Rattle.std.specs.declared.cmp.Ordering.TheVariants.{Less, Equal, Greater}
use Rattle.coda_fid.specs.Fid.{fid_cmp}
use Rattle.coda_fid.specs.declared.fid.Fid.{Fid}
use Rattle.coda_reslog.specs.declared.change.Held.{Held}
use Rattle.coda_record.specs.declared.view.View.{View}
use Rattle.coda_resolve.specs.Resolution.{Objects, Replicas}

-- objects with what a replica holds of each
abbrev pub HeldPairs : Type 0
HeldPairs = List (Fid × Held)

-- the object at place i has the fid
pub record IsIndexOf (pairs : HeldPairs) (fid : Fid) (i : ℕ) : Type 0 where
  pub in_range : i < length pairs
  pub has_fid : (d : Fid × Held) → fid_cmp (slice_index_or pairs i d).0 fid ≡ Equal

-- the fid is missing, and would go at place i
pub record IsGapFor (pairs : HeldPairs) (fid : Fid) (i : ℕ) : Type 0 where
  pub in_range : i ≤ length pairs
  pub smaller_before : (j : ℕ) (d : Fid × Held) → j < i → fid_cmp (slice_index_or pairs j d).0 fid ≡ Less
  pub greater_after : (j : ℕ) (d : Fid × Held) → i ≤ j → j < length pairs → fid_cmp (slice_index_or pairs j d).0 fid ≡ Greater

-- the fid is from the one place up to the other, or nowhere
pub record IsBetween (pairs : HeldPairs) (fid : Fid) (low high : ℕ) : Type 0 where
  pub ordered : low ≤ high
  pub in_range : high ≤ length pairs
  pub smaller : (j : ℕ) (d : Fid × Held) → j < low → fid_cmp (slice_index_or pairs j d).0 fid ≡ Less
  pub greater : (j : ℕ) (d : Fid × Held) → high ≤ j → j < length pairs → fid_cmp (slice_index_or pairs j d).0 fid ≡ Greater

-- the objects of a list in order, by fid
abbrev pub objects_in : HeldPairs → Objects
objects_in pairs = finmap.from_sorted pairs

-- what the replica holds, by fid
abbrev pub objects_of : View → Objects
objects_of view = objects_in view.held

-- what the replicas hold
abbrev pub replicas_of : List View → Replicas
replicas_of views = map objects_of views

-- each view has its objects in order of fids
abbrev pub AreInOrder : List View → Type 0
AreInOrder views = AllByRecursion (λ view. is_sorted fid_cmp view.held ≡ true) views

-- the volume of the views: that of the first
abbrev pub volume_of : List View → ℕ
volume_of [] = 0
volume_of (view ∷ views) = view.volume
