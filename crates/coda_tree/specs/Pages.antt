-- Pairs in pages, one after the other.
use Rattle.std.specs.Prelude.{◌≡◌, ◌≢◌, ℕ, Bool, zero, suc, ◌+◌, ◌<◌, List, [], ◌∷◌, ◌++◌, length, IsTrue, not}
use Rattle.std.specs.declared.cmp.Ordering.{Ordering}
use Rattle.std.specs.declared.cmp.Ordering.TheVariants.{Less, Greater}
use Rattle.std.specs.Global.{Vec}
use Rattle.std.specs.List.{flat_map, list_any, AllByRecursion}
use Rattle.std.specs.FinMap.Entries.{is_sorted, where_key}
use Rattle.std.specs.Ordering.{eq_by_cmp}
use Rattle.coda_fid.specs.Fid.{same_fid}
use Rattle.coda_fid.specs.Name.{name_cmp}
use Rattle.coda_fid.specs.declared.fid.Fid.{Fid}
use Rattle.coda_tree.specs.Bindings.{Name, Pairs}

-- the pages of a directory
abbrev pub Pages : Type 0
Pages = List (Vec (Name × Fid))

-- all pairs, page by page
abbrev pub all_pairs : Pages → Pairs
all_pairs pages = flat_map (λ page. page.items) pages

-- each page has a pair
abbrev pub AreFilled : Pages → Type 0
AreFilled pages = AllByRecursion (λ (page : Vec (Name × Fid)). 0 < length page.items) pages

-- the pairs of one page
abbrev pub pairs_at : Pages → ℕ → Pairs
pairs_at [] i = []
pairs_at (page ∷ pages) zero = page.items
pairs_at (page ∷ pages) (suc i) = pairs_at pages i

-- all pairs, with others in one of the pages
abbrev pub with_pairs : Pages → ℕ → Pairs → Pairs
with_pairs [] i pairs = []
with_pairs (page ∷ pages) zero pairs = pairs ++ all_pairs pages
with_pairs (page ∷ pages) (suc i) pairs = page.items ++ with_pairs pages i pairs

-- whether pairs bind a fid, at whatever name
abbrev pub any_binds : Fid → Pairs → Bool
any_binds fid pairs = list_any (λ pair. same_fid pair.1 fid) pairs

-- the first of the names against a name
abbrev pub first_cmp : Pairs → Name → Ordering
first_cmp [] name = Less
first_cmp (pair ∷ pairs) name = name_cmp pair.0 name

-- a page that has the name if any has it: it begins at or before the name, unless it is the first, and the next one after it
pub record IsPageFor (pages : Pages) (name : Name) (i : ℕ) : Type 0 where
  pub in_range : i < length pages
  pub from : 0 < i → first_cmp (pairs_at pages i) name ≢ Greater
  pub to : i + 1 < length pages → first_cmp (pairs_at pages (i + 1)) name ≡ Greater

-- the pairs without that of a name
abbrev pub without : Name → Pairs → Pairs
without name pairs = where_key name_cmp (λ other. not (eq_by_cmp name_cmp name other)) pairs

-- all pairs of the new pages are those of the old ones with others in one page, and where these are some, each page has a pair
pub record ChangesPage (old new : Pages) (i : ℕ) (pairs : Pairs) : Type 0 where
  pub changed : all_pairs new ≡ with_pairs old i pairs
  pub filled : AreFilled old → 0 < length pairs → AreFilled new

-- what always holds of a directory: names rise, each page has a pair, and it knows how many there are
pub record IsPaged (pages : Pages) (count : ℕ) : Type 0 where
  pub sorted : IsTrue (is_sorted name_cmp (all_pairs pages))
  pub filled : AreFilled pages
  pub counted : count ≡ length (all_pairs pages)
