-- Runs of operations that a client performs on a volume as it sees it.
use Rattle.std.specs.Prelude.{◌≡◌, Bool, true, false, ◌&&◌, ◌||◌, Option, Some, None, List, [], ◌∷◌, ◌++◌}
use Rattle.coda_fid.specs.declared.fid.Fid.{Fid}
use Rattle.coda_fid.specs.declared.op.Over.{Over}
use Rattle.coda_fid.specs.declared.op.Op.{Op}
use Rattle.coda_fid.specs.declared.op.Op.TheVariants.{Create, Mkdir, Symlink, Store, Setattr, Remove, Rmdir, Rename}
use Rattle.coda_fid.specs.declared.op.Record.{Record}
use Rattle.coda_fid.specs.Fid.{same_fid}
use Rattle.coda_cancel.specs.Dropping.{mentioning, creates}
use Rattle.coda_cancel.specs.Cancel.{add}

-- whether the operation of some record passes the test
abbrev pub any_record : (Op → Bool) → List Record → Bool
any_record test [] = false
any_record test (rec ∷ recs) = test rec.op || any_record test recs

-- whether an operation is a Remove, a Rmdir or a Rename
abbrev pub is_move : Op → Bool
is_move (Create dir name fid mode owner) = false
is_move (Mkdir dir name fid mode owner) = false
is_move (Symlink dir name fid target mode owner) = false
is_move (Store fid pre content) = false
is_move (Setattr fid pre attrs) = false
is_move (Remove dir name fid pre) = true
is_move (Rmdir dir name fid pre) = true
is_move (Rename from_dir from to_dir to fid over) = true

-- whether an operation is a Remove, a Rmdir or a Rename that mentions the object
abbrev pub moves : Fid → Op → Bool
moves fid op = is_move op && mentioning fid op

-- whether an operation creates a child in a directory
abbrev pub makes_in : Fid → Fid → Op → Bool
makes_in dir child (Create home name it mode owner) = same_fid home dir && same_fid it child
makes_in dir child (Mkdir home name it mode owner) = same_fid home dir && same_fid it child
makes_in dir child (Symlink home name it target mode owner) = same_fid home dir && same_fid it child
makes_in dir child (Store it pre content) = false
makes_in dir child (Setattr it pre attrs) = false
makes_in dir child (Remove home name it pre) = false
makes_in dir child (Rmdir home name it pre) = false
makes_in dir child (Rename from_dir from to_dir to it over) = false

-- an object may be removed after these records: where they create it, and none of their Removes, Rmdirs and Renames mentions it, one of those mentions each object that they create in it
abbrev pub IsSafe : Fid → List Record → Type 0
IsSafe fid recs = any_record (creates fid) recs ≡ true → any_record (moves fid) recs ≡ false → (child : Fid) → any_record (makes_in fid child) recs ≡ true → any_record (moves child) recs ≡ true

-- the operation may come after these records: where it removes an object, that may be removed
abbrev pub SafeStep : Op → List Record → Type 0
SafeStep (Remove dir name fid pre) recs = IsSafe fid recs
SafeStep (Rmdir dir name fid pre) recs = IsSafe fid recs
SafeStep _ recs = Unit {0}

-- an object is created that no operation before mentions
abbrev pub IsFresh : Op → List Record → Type 0
IsFresh op before = (fid : Fid) → creates fid op ≡ true → any_record (mentioning fid) before ≡ false

-- the run goes on steadily after the operations before it, which left these records
abbrev pub GoesOn : List Record → List Record → List Record → Type 0
GoesOn before recs [] = Unit {0}
GoesOn before recs (rec ∷ run) = IsFresh rec.op before × SafeStep rec.op recs × GoesOn (before ++ rec ∷ []) (add recs rec) run

-- a steady run: each created object is new to it, and each removed one may be removed after what the operations before leave
abbrev pub IsSteady : List Record → Type 0
IsSteady run = GoesOn [] [] run

-- ---- which operations keep a run steady

-- whether the replaced object is this one
abbrev pub is_over : Fid → Option Over → Bool
is_over fid None = false
is_over fid (Some over) = same_fid over.fid fid

-- whether an operation takes the object from where it is bound: it removes, renames or replaces it
abbrev pub unbinds : Fid → Op → Bool
unbinds fid (Create dir name it mode owner) = false
unbinds fid (Mkdir dir name it mode owner) = false
unbinds fid (Symlink dir name it target mode owner) = false
unbinds fid (Store it pre content) = false
unbinds fid (Setattr it pre attrs) = false
unbinds fid (Remove dir name it pre) = same_fid it fid
unbinds fid (Rmdir dir name it pre) = same_fid it fid
unbinds fid (Rename from_dir from to_dir to it over) = same_fid it fid || is_over fid over

-- each object that the run creates in the directory is taken from where it is bound
abbrev pub ChildrenLeft : Fid → List Record → Type 0
ChildrenLeft dir run = (child : Fid) → any_record (makes_in dir child) run ≡ true → any_record (unbinds child) run ≡ true

-- where the operation removes an object, nothing that the run created in it is left there
abbrev pub RemovesEmpty : Op → List Record → Type 0
RemovesEmpty (Remove dir name fid pre) run = ChildrenLeft fid run
RemovesEmpty (Rmdir dir name fid pre) run = ChildrenLeft fid run
RemovesEmpty _ run = Unit {0}
