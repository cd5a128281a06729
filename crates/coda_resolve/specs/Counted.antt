-- Sets of fids, and how often fids stand in a list.
use Rattle.std.specs.Prelude.{◌≡◌, Bool, true, false, ◌||◌, nat_le, List}
use Rattle.std.specs.List.{list_any}
use Rattle.std.specs.FinMap as finmap
use Rattle.std.specs.BTreeSet.{BTreeSet, contains}
use Rattle.std.specs.HashSet as hash
use Rattle.std.specs.HashSet.{HashSet}
use Rattle.coda_fid.specs.Fid.{fid_cmp, same_fid}
use Rattle.coda_fid.specs.declared.fid.Fid.{Fid}
use Rattle.coda_tree.specs.Bindings.{Bindings}
use Rattle.coda_resolve.specs.Causes.{times}

-- whether the fid is in the set
abbrev pub has_fid : BTreeSet Fid → Fid → Bool
has_fid fids f = contains fid_cmp fids f

-- whether the fid is in the set, which finds it by its hash
abbrev pub has_hashed : {S : Type 0} → HashSet Fid S → Fid → Bool
has_hashed fids f = hash.contains same_fid fids f

-- of these fids some are left, and all others are bound
pub record AreLeftOf (entries : Bindings) (fids left : List Fid) : Type 0 where
  pub among : (f : Fid) → list_any (same_fid f) left ≡ true → list_any (same_fid f) fids ≡ true
  pub bound : (f : Fid) → list_any (same_fid f) fids ≡ true → list_any (same_fid f) left ≡ false → list_any (same_fid f) (finmap.values entries) ≡ true

-- whether the fid is in one of the sets
abbrev pub is_in_one : BTreeSet Fid → BTreeSet Fid → BTreeSet Fid → Fid → Bool
is_in_one twice lost elsewhere f = has_fid twice f || (has_fid lost f || has_fid elsewhere f)

-- the set has these fids, and no others
abbrev pub AreFids : BTreeSet Fid → List Fid → Type 0
AreFids set fids = (f : Fid) → has_fid set f ≡ list_any (same_fid f) fids

-- the first set has the fids that stand in the list, and the second those that stand there more than once
pub record AreTwice (once twice : BTreeSet Fid) (fids : List Fid) : Type 0 where
  pub one : (f : Fid) → has_fid once f ≡ nat_le 1 (times f fids)
  pub two : (f : Fid) → has_fid twice f ≡ nat_le 2 (times f fids)
