-- The bindings of a directory, as a list in order and as a finite map.
use Rattle.std.specs.Prelude.{◌≡◌, ℕ, ◌<◌, ◌≤◌, List, length, slice_index_or}
use Rattle.std.specs.declared.cmp.Ordering.TheVariants.{Less, Equal, Greater}
use Rattle.std.specs.Coded.{Coded, coded_list, coded_ℕ}
use Rattle.std.specs.FinMap.{FinMap, code}
use Rattle.coda_fid.specs.Fid.{coded_fid}
use Rattle.coda_fid.specs.Name.{name_cmp}
use Rattle.coda_fid.specs.declared.fid.Fid.{Fid}

-- a name, as its bytes
abbrev pub Name : Type 0
Name = List ℕ

-- names with what each is bound to
abbrev pub Pairs : Type 0
Pairs = List (Name × Fid)

-- what a directory binds
abbrev pub Bindings : Type 0
Bindings = FinMap name_cmp Fid

-- the code of what a directory binds
abbrev pub coded_bindings : Coded Bindings
coded_bindings = code (coded_list coded_ℕ) coded_fid

-- the pair at place i has the name
pub record IsIndexOf (pairs : Pairs) (name : Name) (i : ℕ) : Type 0 where
  pub in_range : i < length pairs
  pub has_name : (d : Name × Fid) → name_cmp (slice_index_or pairs i d).0 name ≡ Equal

-- the name is missing, and would go at place i
pub record IsGapFor (pairs : Pairs) (name : Name) (i : ℕ) : Type 0 where
  pub in_range : i ≤ length pairs
  pub smaller_before : (j : ℕ) (d : Name × Fid) → j < i → name_cmp (slice_index_or pairs j d).0 name ≡ Less
  pub greater_after : (j : ℕ) (d : Name × Fid) → i ≤ j → j < length pairs → name_cmp (slice_index_or pairs j d).0 name ≡ Greater
