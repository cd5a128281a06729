-- What a path is, and its text.
use Rattle.std.specs.Prelude.{◌≡◌, ℕ, ◌≤◌, Bool, false, ◌&&◌, ◌==◌, nat_le, List, [], ◌∷◌, ◌++◌, length}
use Rattle.std.specs.List.{list_all, slice_split}
use Rattle.coda_fid.specs.Name.{AreNames, is_name}

-- each name behind a `/`
abbrev pub behind_slashes : List (List ℕ) → List ℕ
behind_slashes [] = []
behind_slashes (n ∷ ns) = 47 ∷ (n ++ behind_slashes ns)

-- the text of a path: `/` alone for the root, else each name behind a `/`
abbrev pub path_text : List (List ℕ) → List ℕ
path_text [] = 47 ∷ []
path_text (n ∷ ns) = behind_slashes (n ∷ ns)

-- names whose text has at most 1,024 bytes
pub record ArePathNames (ns : List (List ℕ)) : Type 0 where
  pub names : AreNames ns
  pub short : length (path_text ns) ≤ 1024

-- the text of some path
abbrev pub IsPath : List ℕ → Type 0
IsPath bytes = (names : List (List ℕ)) × (ArePathNames names × (path_text names ≡ bytes))

-- what the `/` of a text stand between
abbrev pub parts : List ℕ → List (List ℕ)
parts bytes = slice_split (λ b. b == 47) bytes

-- the names of the bytes behind a first `/`
abbrev pub names_behind : List ℕ → List (List ℕ)
names_behind [] = []
names_behind (b ∷ rest) = parts (b ∷ rest)

-- the names that a text leads through
abbrev pub names_in : List ℕ → List (List ℕ)
names_in [] = []
names_in (b ∷ rest) = names_behind rest

-- whether the text begins with a `/`
abbrev pub begins_at_root : List ℕ → Bool
begins_at_root [] = false
begins_at_root (b ∷ rest) = b == 47

-- whether a text is that of a path
abbrev pub is_path : List ℕ → Bool
is_path bytes = nat_le (length bytes) 1024 && (begins_at_root bytes && list_all is_name (names_in bytes))
