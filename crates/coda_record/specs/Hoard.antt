-- The formats of hoard databases and their changes, version 1, each under its line of the table.
use Rattle.std.specs.Prelude.{ℕ, List, [], ◌∷◌}
use Rattle.std.specs.List.{list_all}
use Rattle.coda_fid.specs.Name.{is_name}
use Rattle.coda_fid.specs.Path.{is_path, names_in, path_text}
use Rattle.coda_hdb.specs.declared.entry.Expand.{Expand}
use Rattle.coda_hdb.specs.declared.entry.Expand.TheVariants.{Alone, Children, Descendants}
use Rattle.coda_hdb.specs.declared.entry.HdbEntry.{HdbEntry}
use Rattle.coda_hdb.specs.declared.entry.HoardChange.{HoardChange}
use Rattle.coda_hdb.specs.declared.entry.HoardChange.TheVariants as changes
use Rattle.coda_values.specs.Form.{Piece, together, limited, Size, Form, gives, Format, ◌>>=◌}
use Rattle.coda_values.specs.Parts.{number_of, u8, u16, where_holds, between, counted, one_of}
use Rattle.coda_values.specs.Table.{volume}

-- ---- path: its text of 1 to 1,024 bytes behind a length

-- the text of a path
abbrev pub text_of_path : Size → Format (List ℕ)
text_of_path size = where_holds is_path (counted (between 1 1024 (number_of size)))

-- the names that a path leads through, as its text
unfoldable pub path : Size → Format (List (List ℕ))
path size = record {
  form = text_of_path size >>= λ text. gives (names_in text);
  piece = λ names. limited (list_all is_name names) ((text_of_path size).piece (path_text names));
}

-- ---- hoard entry: u32 volume, path, u16 priority, u8 expansion

-- how much an entry is wanted: 1 to 1,000
abbrev pub priority : Format ℕ
priority = between 1 1000 u16

-- how an expansion is written
abbrev pub expansion_piece : Expand → Piece
expansion_piece Alone = together (u8.piece 0 ∷ [])
expansion_piece Children = together (u8.piece 1 ∷ [])
expansion_piece Descendants = together (u8.piece 2 ∷ [])

-- what each byte of an expansion says
abbrev pub expansion_forms : List (ℕ × Form Expand)
expansion_forms =
    ((0, gives Alone)
    ∷ (1, gives Children)
    ∷ (2, gives Descendants)
    ∷ [])

-- what a hoard entry wants beside the object at its path
unfoldable pub expansion : Format Expand
expansion = record {
  form = one_of expansion_forms;
  piece = expansion_piece;
}

-- a path that a client wants to have in its cache
unfoldable pub hoard_entry : Size → Format HdbEntry
hoard_entry size = record {
  form = do
    v ← volume
    p ← path size
    wanted ← priority
    e ← expansion
    gives (record { volume = v; path = p; priority = wanted; expand = e });
  piece = λ h. together (volume.piece h.volume ∷ (path size).piece h.path ∷ priority.piece h.priority ∷ expansion.piece h.expand ∷ []);
}

-- ---- hoard change: u8 tag, then the fields

-- how a change is written
abbrev pub hoard_change_piece : Size → HoardChange → Piece
hoard_change_piece size (changes.Add e) = together (u8.piece 1 ∷ (hoard_entry size).piece e ∷ [])
hoard_change_piece size (changes.Remove v p) = together (u8.piece 2 ∷ volume.piece v ∷ (path size).piece p ∷ [])
hoard_change_piece size changes.Clear = together (u8.piece 3 ∷ [])

-- what stands behind each tag of a change
abbrev pub hoard_change_forms : Size → List (ℕ × Form HoardChange)
hoard_change_forms size =
    ((1, hoard_entry size >>= λ e. gives (changes.Add e))
    ∷ (2, volume >>= λ v. path size >>= λ p. gives (changes.Remove v p))
    ∷ (3, gives changes.Clear)
    ∷ [])

-- a change of a hoard database
unfoldable pub hoard_change : Size → Format HoardChange
hoard_change size = record {
  form = one_of (hoard_change_forms size);
  piece = hoard_change_piece size;
}
