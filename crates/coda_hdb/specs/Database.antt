-- A hoard database as the list of its entries, in their order.
use Rattle.std.specs.Prelude.{◌≡◌, ℕ, Bool, false, not, ◌&&◌, ◌==◌, nat_eq, nat_lt, List, [], ◌∷◌, ◌++◌, map, length, Option, Some, None, if◌then◌else◌}
use Rattle.std.specs.List.{filter, list_any}
use Rattle.std.specs.Cmp.Lexicographic.{pointwise}
use Rattle.coda_fid.specs.Path.{path_text}
use Rattle.coda_hdb.specs.declared.entry.HdbEntry.{HdbEntry}
use Rattle.coda_hdb.specs.declared.fault.HdbFault.{HdbFault}
use Rattle.coda_hdb.specs.declared.fault.HdbFault.TheVariants.{NoEntry, HdbFull}

-- whether two paths have one text
abbrev pub same_path : List (List ℕ) → List (List ℕ) → Bool
same_path a b = pointwise nat_eq (path_text a) (path_text b)

-- whether an entry is that of the path in the volume
abbrev pub is_at : ℕ → List (List ℕ) → HdbEntry → Bool
is_at volume path e = (volume == e.volume) && same_path path e.path

-- whether the path in the volume has an entry
abbrev pub has_place : List HdbEntry → ℕ → List (List ℕ) → Bool
has_place entries volume path = list_any (is_at volume path) entries

-- no two entries are of one path in one volume
abbrev pub AreDistinct : List HdbEntry → Type 0
AreDistinct [] = Unit {0}
AreDistinct (e ∷ es) = (has_place es e.volume e.path ≡ false) × AreDistinct es

-- with an entry: that of its path, where there is one, in its place, and else the last
abbrev pub put : List HdbEntry → HdbEntry → List HdbEntry
put entries entry = if has_place entries entry.volume entry.path then map (λ e. if is_at entry.volume entry.path e then entry else e) entries else entries ++ entry ∷ []

-- without the entry of the path in the volume
abbrev pub without : List HdbEntry → ℕ → List (List ℕ) → List HdbEntry
without entries volume path = filter (λ e. not (is_at volume path e)) entries

-- why an entry isn't added: its path is new, and there are 1,024 entries
abbrev pub add_refusal : List HdbEntry → HdbEntry → Option HdbFault
add_refusal entries entry = if has_place entries entry.volume entry.path then None else (if nat_lt (length entries) 1024 then None else Some HdbFull)

-- why an entry isn't removed: there is none
abbrev pub remove_refusal : List HdbEntry → ℕ → List (List ℕ) → Option HdbFault
remove_refusal entries volume path = if has_place entries volume path then None else Some NoEntry
