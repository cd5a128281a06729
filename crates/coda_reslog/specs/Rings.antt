-- What a ring keeps of the updates of a directory.
use Rattle.std.specs.Prelude.{◌≡◌, ◌≤◌, ◌-◌, nat_lt, List, ◌++◌, length, drop, slice_get, Option, None, if◌then◌else◌}
use Rattle.coda_reslog.specs.declared.entry.ResEntry.{ResEntry}

-- the last 256 of a list, or all where there are fewer
abbrev pub last_entries : List ResEntry → List ResEntry
last_entries entries = drop (length entries - 256) entries

-- what a further entry puts out: the oldest of 256
abbrev pub overwritten : List ResEntry → Option ResEntry
overwritten entries = if nat_lt (length entries) 256 then None else slice_get entries 0

-- The last entries are the end of the list. Of up to 256 they are all, and of more they are 256.
pub record RingsKeepTheLatest : Type 0 where
  pub end : (entries : List ResEntry) → (before : List ResEntry) × (entries ≡ before ++ last_entries entries)
  pub all : (entries : List ResEntry) → length entries ≤ 256 → last_entries entries ≡ entries
  pub full : (entries : List ResEntry) → 256 ≤ length entries → length (last_entries entries) ≡ 256
