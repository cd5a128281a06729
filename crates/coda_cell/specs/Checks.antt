-- Acceptance as checks: what is asked for each kind of ask, in its order, and the first refusal.
use Rattle.std.specs.Prelude.{◌≡◌, ℕ, Bool, true, false, ◌==◌, ◌||◌, not, nat_le, is_some, List, [], ◌∷◌, ◌++◌, Option, Some, None}
use Rattle.std.specs.Option.{option_or, option_and_then}
use Rattle.std.specs.Result.{result_err}
use Rattle.std.specs.FinMap as map
use Rattle.coda_fid.specs.Fid.{same_fid, root_of}
use Rattle.coda_fid.specs.declared.fid.Fid.{Fid}
use Rattle.coda_tree.specs.declared.node.Node.{Node}
use Rattle.coda_tree.specs.declared.node.NodeKind.{NodeKind}
use Rattle.coda_tree.specs.declared.node.NodeKind.TheVariants.{File, Link, Dir}
use Rattle.coda_tree.specs.Bindings.{Name}
use Rattle.coda_tree.specs.Volume.{Nodes, child}
use Rattle.coda_certify.specs.Checks.{is_dir, is_no_dir, is_no_file}
use Rattle.coda_venus.specs.Ask.{Asked, Create, Mkdir, Symlink, Store, Setattr, Remove, Rmdir, Rename, Ending, ending}
use Rattle.coda_venus.specs.Held.{Parents, is_below, some_below}
use Rattle.coda_venus.specs.Accepting.{Sight, next_fid, accept}
use Rattle.coda_venus.specs.declared.refused.Refused.{Refused}
use Rattle.coda_venus.specs.declared.refused.Refused.TheVariants.{NotFound, NotDir, Exists, IsDir, NotEmpty, Loop, NotFile, Need, JournalFull}

-- what is asked of what a client holds before it accepts what it is asked to do
pub data AskCheck : Type 0 where
  -- the object at the path, if there is one, is held
  PresentAt : (path : List Name) → AskCheck
  -- it is a directory
  DirAt : (path : List Name) → AskCheck
  -- it is no directory
  NoDirAt : (path : List Name) → AskCheck
  -- it is a file
  FileAt : (path : List Name) → AskCheck
  -- the path's last name is bound
  BoundAt : (path : List Name) → AskCheck
  -- it isn't, and the path isn't the root's
  FreeAt : (path : List Name) → AskCheck
  -- the path isn't the root's, of which the ask is refused so
  BelowRoot : (path : List Name) (why : Refused) → AskCheck
  -- the object at the path binds nothing
  EmptyAt : (path : List Name) → AskCheck
  -- nothing is held below it that a record of the log mentions
  CleanBelow : (path : List Name) → AskCheck
  -- the client may create one object more in the volume
  NumberLeft : AskCheck
  -- the fid of that object isn't in use
  NextFree : AskCheck
  -- the moved object is neither the directory of the new name nor held above it
  NotAbove : (from to : List Name) → AskCheck
  -- the new name isn't bound to the moved object
  OtherAt : (from to : List Name) → AskCheck
  -- where the new name is bound, neither that object nor the moved one is a directory
  NoDirsAt : (from to : List Name) → AskCheck

-- ---- which checks, and in which order

-- The checks along names, behind those that lead to where they begin: each object on the way is held, and is a
-- directory that binds the next name; the last one is held.
abbrev pub way_checks : List Name → List Name → List AskCheck
way_checks before [] = PresentAt before ∷ []
way_checks before (name ∷ names) =
    PresentAt before ∷ DirAt before ∷ BoundAt (before ++ name ∷ []) ∷ way_checks (before ++ name ∷ []) names

-- the checks of the object at a path
abbrev pub object_checks : List Name → List AskCheck
object_checks path = way_checks [] path

-- The checks of the directory of a path's last name. The root's path has none: there the root itself has to be held.
abbrev pub parent_checks : Ending → List AskCheck
parent_checks None = PresentAt [] ∷ []
parent_checks (Some e) = object_checks e.0 ++ DirAt e.0 ∷ []

-- the checks of a creation, in their order
abbrev pub new_checks : List Name → List AskCheck
new_checks path = parent_checks (ending path) ++ FreeAt path ∷ NumberLeft ∷ NextFree ∷ []

-- the checks of an ask, in their order
abbrev pub ask_checks : Asked → List AskCheck
ask_checks (Create path mode owner) = new_checks path
ask_checks (Mkdir path mode owner) = new_checks path
ask_checks (Symlink path target) = new_checks path
ask_checks (Store path content) = object_checks path ++ NoDirAt path ∷ FileAt path ∷ []
ask_checks (Setattr path attrs) = object_checks path
ask_checks (Remove path) = object_checks path ++ BelowRoot path IsDir ∷ NoDirAt path ∷ []
ask_checks (Rmdir path) = object_checks path ++ BelowRoot path Loop ∷ DirAt path ∷ EmptyAt path ∷ CleanBelow path ∷ []
ask_checks (Rename from to) =
    object_checks from ++ parent_checks (ending to) ++ PresentAt to
    ∷ BelowRoot from Loop ∷ NotAbove from to
    ∷ BelowRoot to Exists ∷ OtherAt from to ∷ NoDirsAt from to ∷ []

-- ---- what each check finds

-- a refusal where a test passes
abbrev pub refused_where : Bool → Refused → Option Refused
refused_where true why = Some why
refused_where false why = None

-- the object to which names lead from another one, by what directories bind; it needn't be held
abbrev pub object_along : Nodes → Fid → List Name → Option Fid
object_along m at [] = Some at
object_along m at (name ∷ names) = option_and_then (λ next. object_along m next names) (child m at name)

-- what an object is held as, where there is one
abbrev pub node_behind : Nodes → Option Fid → Option Node
node_behind m None = None
node_behind m (Some fid) = map.get m fid

-- an object is missed where nothing is held of it
abbrev pub miss_of : Option Node → Fid → Option Refused
miss_of None fid = Some (Need fid)
miss_of (Some node) fid = None

abbrev pub unheld_of : Nodes → Option Fid → Option Refused
unheld_of m None = None
unheld_of m (Some fid) = miss_of (map.get m fid) fid

-- what is held is of a wrong kind
abbrev pub kind_refused : (NodeKind → Bool) → Refused → Option Node → Option Refused
kind_refused wrong why None = None
kind_refused wrong why (Some node) = refused_where (wrong node.kind) why

-- no object is there
abbrev pub not_found_of : Option Fid → Option Refused
not_found_of None = Some NotFound
not_found_of (Some fid) = None

-- an object is there
abbrev pub exists_of : Option Fid → Option Refused
exists_of None = None
exists_of (Some fid) = Some Exists

-- the path is the root's
abbrev pub top_refused : List Name → Refused → Option Refused
top_refused [] why = Some why
top_refused (name ∷ names) why = None

-- whether a node of this kind binds something
abbrev pub binds_some : NodeKind → Bool
binds_some (File content) = false
binds_some (Link target) = false
binds_some (Dir entries) = not (map.len entries == 0)

-- something is held below the object that a record of the log mentions
abbrev pub mentioned_below : Sight → Option Fid → Option Refused
mentioned_below s None = None
mentioned_below s (Some fid) = refused_where (some_below s.held s.is_dirty fid) NotEmpty

-- the directory is the object or is held below it
abbrev pub above_of : Parents → Option Fid → Option Fid → Option Refused
above_of parents None fid = None
above_of parents (Some dir) None = None
above_of parents (Some dir) (Some fid) = refused_where (is_below parents dir fid) Loop

-- both are one object
abbrev pub itself_of : Option Fid → Option Fid → Option Refused
itself_of None bound = None
itself_of (Some fid) None = None
itself_of (Some fid) (Some bound) = refused_where (same_fid bound fid) Exists

-- whether a directory is held there
abbrev pub is_held_dir : Option Node → Bool
is_held_dir None = false
is_held_dir (Some node) = is_dir node.kind

-- an object is bound, and it or the other one is a directory
abbrev pub dirs_of : Nodes → Option Fid → Option Fid → Option Refused
dirs_of m moved None = None
dirs_of m moved (Some bound) = refused_where (is_held_dir (node_behind m moved) || is_held_dir (map.get m bound)) Exists

-- the object at a path, and what is held of it
abbrev pub led_to : Sight → ℕ → List Name → Option Fid
led_to s volume path = object_along s.held.nodes (root_of volume) path

abbrev pub node_led_to : Sight → ℕ → List Name → Option Node
node_led_to s volume path = node_behind s.held.nodes (led_to s volume path)

-- the directory of a path's last name
abbrev pub dir_above : Sight → ℕ → Ending → Option Fid
dir_above s volume None = None
dir_above s volume (Some e) = led_to s volume e.0

-- why a check refuses, if it does; each looks at what is held by itself, and where others refuse it may say anything
abbrev pub refusal_by : Sight → ℕ → AskCheck → Option Refused
refusal_by s volume (PresentAt path) = unheld_of s.held.nodes (led_to s volume path)
refusal_by s volume (DirAt path) = kind_refused is_no_dir NotDir (node_led_to s volume path)
refusal_by s volume (NoDirAt path) = kind_refused is_dir IsDir (node_led_to s volume path)
refusal_by s volume (FileAt path) = kind_refused is_no_file NotFile (node_led_to s volume path)
refusal_by s volume (BoundAt path) = not_found_of (led_to s volume path)
refusal_by s volume (FreeAt path) = exists_of (led_to s volume path)
refusal_by s volume (BelowRoot path why) = top_refused path why
refusal_by s volume (EmptyAt path) = kind_refused binds_some NotEmpty (node_led_to s volume path)
refusal_by s volume (CleanBelow path) = mentioned_below s (led_to s volume path)
refusal_by s volume NumberLeft = refused_where (nat_le 4294967295 s.creations) JournalFull
refusal_by s volume NextFree = refused_where (is_some (map.get s.held.nodes (next_fid s volume))) Exists
refusal_by s volume (NotAbove from to) = above_of s.held.parents (dir_above s volume (ending to)) (led_to s volume from)
refusal_by s volume (OtherAt from to) = itself_of (led_to s volume from) (led_to s volume to)
refusal_by s volume (NoDirsAt from to) = dirs_of s.held.nodes (led_to s volume from) (led_to s volume to)

-- ---- the first refusal

-- the first refusal that the checks find in turn
abbrev pub first_refusal : Sight → ℕ → List AskCheck → Option Refused
first_refusal s volume [] = None
first_refusal s volume (c ∷ cs) = option_or (refusal_by s volume c) (first_refusal s volume cs)

-- Acceptance refuses for the first check that refuses, for the reason that this check has; where none refuses it accepts.
abbrev pub AcceptanceGoesByChecks : Type 0
AcceptanceGoesByChecks =
    (s : Sight) (volume : ℕ) (ask : Asked) → result_err (accept s volume ask) ≡ first_refusal s volume (ask_checks ask)
