-- What holds of hoard databases.
use Rattle.std.specs.Prelude.{◌≡◌, ◌↔◌, ℕ, true, false, List, length, slice_get, Some}
use Rattle.coda_fid.specs.Path.{ArePathNames}
use Rattle.coda_hdb.specs.declared.entry.HdbEntry.{HdbEntry}
use Rattle.coda_hdb.specs.Database.{same_path, is_at, has_place, AreDistinct, put, without}

-- An added entry takes the place of that of its path, or a new place behind all others; every other entry stays where it
-- was. Its path has an entry from then on, one that is removed has none, and no path has two.
pub record DatabasesKeepTheirOrder : Type 0 where
  pub others_stay : (entries : List HdbEntry) (entry e : HdbEntry) (index : ℕ) → slice_get entries index ≡ Some e → is_at entry.volume entry.path e ≡ false → slice_get (put entries entry) index ≡ Some e
  pub takes_its_place : (entries : List HdbEntry) (entry e : HdbEntry) (index : ℕ) → slice_get entries index ≡ Some e → is_at entry.volume entry.path e ≡ true → slice_get (put entries entry) index ≡ Some entry
  pub stays : (entries : List HdbEntry) (entry : HdbEntry) → has_place entries entry.volume entry.path ≡ true → length (put entries entry) ≡ length entries
  pub goes_last : (entries : List HdbEntry) (entry : HdbEntry) → has_place entries entry.volume entry.path ≡ false → slice_get (put entries entry) (length entries) ≡ Some entry
  pub added : (entries : List HdbEntry) (entry : HdbEntry) → has_place (put entries entry) entry.volume entry.path ≡ true
  pub gone : (entries : List HdbEntry) (volume : ℕ) (path : List (List ℕ)) → has_place (without entries volume path) volume path ≡ false
  pub others_are_left : (entries : List HdbEntry) (volume : ℕ) (path : List (List ℕ)) (e : HdbEntry) → is_at volume path e ≡ false → has_place (without entries volume path) e.volume e.path ≡ has_place entries e.volume e.path
  pub distinct_put : (entries : List HdbEntry) (entry : HdbEntry) → AreDistinct entries → AreDistinct (put entries entry)

-- two paths have one text just where they are one
abbrev pub OnePlaceHasOnePath : Type 0
OnePlaceHasOnePath = (a b : List (List ℕ)) → ArePathNames a → ArePathNames b → (same_path a b ≡ true) ↔ (a ≡ b)
