-- The updates of a directory that one replica has and another lacks.
use Rattle.std.specs.Prelude.{ℕ, ◌+◌, ◌-◌, Bool, not, ◌&&◌, ◌||◌, ◌==◌, nat_le, max, min, List, [], ◌∷◌, map, Option}
use Rattle.std.specs.List.{filter, list_any, list_all, find, flat_map, range_with_len}
use Rattle.coda_vv.specs.Vector.{count}
use Rattle.coda_reslog.specs.declared.entry.ResEntry.{ResEntry}
use Rattle.coda_reslog.specs.declared.change.Held.{Held}
use Rattle.coda_resolve.specs.Copies.{Copies, vector_of, log_of}

-- whether the server's update of that number is in the copy
abbrev pub knows : Option Held → ℕ → ℕ → Bool
knows copy origin seq = nat_le seq (count (vector_of copy) origin)

-- whether the update is in the copy
abbrev pub has_update : ResEntry → Option Held → Bool
has_update u copy = knows copy u.origin u.seq

-- whether the update is in one copy and not in another
abbrev pub is_missing : Copies → ResEntry → Bool
is_missing copies u = list_any (has_update u) copies && list_any (λ copy. not (has_update u copy)) copies

-- the missing updates that stand in some log
abbrev pub missing : Copies → List ResEntry
missing copies = filter (is_missing copies) (flat_map log_of copies)

-- how many of the server's updates are in every copy
abbrev pub fewest : ℕ → Copies → ℕ
fewest origin [] = 0
fewest origin (copy ∷ []) = count (vector_of copy) origin
fewest origin (copy ∷ other ∷ copies) = min (count (vector_of copy) origin) (fewest origin (other ∷ copies))

-- how many are in the copy that has most of them
abbrev pub most : ℕ → Copies → ℕ
most origin [] = 0
most origin (copy ∷ copies) = max (count (vector_of copy) origin) (most origin copies)

-- the servers
abbrev pub servers : List ℕ
servers = range_with_len 1 8

-- the server's missing updates, by server and number, in order
abbrev pub gaps_of : Copies → ℕ → List (ℕ × ℕ)
gaps_of copies origin = map (λ seq. (origin, seq)) (range_with_len (fewest origin copies + 1) (most origin copies - fewest origin copies))

-- the missing updates, by server and number, in order
abbrev pub gaps : Copies → List (ℕ × ℕ)
gaps copies = flat_map (gaps_of copies) servers

-- whether the update of that server and number stands in some log
abbrev pub is_logged : Copies → ℕ × ℕ → Bool
is_logged copies gap = list_any (λ u. (u.origin == gap.0) && (u.seq == gap.1)) (flat_map log_of copies)

-- the least missing update that stands in no log
abbrev pub wrapped : Copies → Option (ℕ × ℕ)
wrapped copies = find (λ gap. not (is_logged copies gap)) (gaps copies)

-- of the missing updates of this kind, the copy has all that the other has
abbrev pub has_all_of : (ResEntry → Bool) → Copies → Option Held → Option Held → Bool
has_all_of kind copies other copy = list_all (λ u. not (kind u) || (not (has_update u other) || has_update u copy)) (missing copies)

-- the copy's missing updates of this kind contain every other's
abbrev pub leads : (ResEntry → Bool) → Copies → Option Held → Bool
leads kind copies copy = list_all (λ other. has_all_of kind copies other copy) copies

-- the lowest copy whose missing updates of this kind contain every other's
abbrev pub leader : (ResEntry → Bool) → Copies → Option (Option Held)
leader kind copies = find (leads kind copies) copies
