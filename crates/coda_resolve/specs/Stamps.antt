-- Updates by their servers and numbers.
use Rattle.std.specs.Prelude.{◌≡◌, ℕ, ◌+◌, ◌-◌, Bool, not, ◌&&◌, ◌==◌, List, Option}
use Rattle.std.specs.List.{list_any, find, flat_map, range_with_len}
use Rattle.std.specs.Ordering.{nat_cmp, ordering_then}
use Rattle.std.specs.declared.cmp.Ordering.{Ordering}
use Rattle.std.specs.BTreeSet.{BTreeSet, contains}
use Rattle.coda_reslog.specs.declared.entry.ResEntry.{ResEntry}
use Rattle.coda_reslog.specs.Rings.{last_entries}
use Rattle.coda_resolve.specs.declared.stamps.Stamp.{Stamp}
use Rattle.coda_resolve.specs.Copies.{Copies}
use Rattle.coda_resolve.specs.Missing.{fewest, most, gaps_of}

-- by server, then by number
abbrev pub stamp_cmp : Stamp → Stamp → Ordering
stamp_cmp a b = ordering_then (nat_cmp a.origin b.origin) (nat_cmp a.seq b.seq)

-- whether the update is that of the server and number
abbrev pub is_stamped : ℕ → ℕ → ResEntry → Bool
is_stamped origin seq u = (u.origin == origin) && (u.seq == seq)

-- whether the update of the server and number is in the set
abbrev pub has_stamp : BTreeSet Stamp → ℕ → ℕ → Bool
has_stamp stamps origin seq = contains stamp_cmp stamps (record { origin = origin; seq = seq })

-- the set has these updates, and no others
abbrev pub AreStamps : BTreeSet Stamp → List ResEntry → Type 0
AreStamps stamps updates = (origin seq : ℕ) → has_stamp stamps origin seq ≡ list_any (is_stamped origin seq) updates

-- the least number of the server's missing updates that isn't in the set
abbrev pub first_absent : BTreeSet Stamp → Copies → ℕ → Option ℕ
first_absent stamps copies origin = find (λ seq. not (has_stamp stamps origin seq)) (range_with_len (fewest origin copies + 1) (most origin copies - fewest origin copies))

-- the least missing update of so many servers, from one on, that isn't in the set
unfoldable pub absent_from : BTreeSet Stamp → Copies → ℕ → ℕ → Option (ℕ × ℕ)
absent_from stamps copies from many = find (λ (gap : ℕ × ℕ). not (has_stamp stamps gap.0 gap.1)) (flat_map (gaps_of copies) (range_with_len from many))

-- the set has the updates, and the ring the last of them
pub record HasLog (stamps : BTreeSet Stamp) (ring updates : List ResEntry) : Type 0 where
  pub stamped : AreStamps stamps updates
  pub last : ring ≡ last_entries updates
