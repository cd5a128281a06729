-- What a client answers to what it is asked, and what its history gains: look-ups first, and then the answer over what it holds.
use Rattle.std.specs.Prelude.{ℕ, ◌+◌, Bool, nat_le, if◌then◌else◌, List, [], ◌∷◌, ◌++◌, Option, Some, None, Result, Ok, Err}
use Rattle.std.specs.FinMap as map
use Rattle.coda_fid.specs.Fid.{root_of}
use Rattle.coda_fid.specs.declared.fid.Fid.{Fid}
use Rattle.coda_fid.specs.declared.op.Op.{Op}
use Rattle.coda_fid.specs.declared.op.Record.{Record}
use Rattle.coda_tree.specs.declared.node.Node.{Node}
use Rattle.coda_tree.specs.declared.node.NodeKind.{NodeKind}
use Rattle.coda_tree.specs.declared.node.NodeKind.TheVariants.{File, Link, Dir}
use Rattle.coda_tree.specs.Bindings.{Name}
use Rattle.coda_tree.specs.Volume.{Nodes}
use Rattle.coda_cancel.specs.Cancel.{fold}
use Rattle.coda_cancel.specs.Weights.{fits}
use Rattle.coda_script.specs.declared.reply.Readable.TheVariants.{File as FileOf, Link as LinkTo}
use Rattle.coda_script.specs.declared.reply.Reply.{Reply}
use Rattle.coda_script.specs.declared.reply.Reply.TheVariants.{Read, Listed, Done}
use Rattle.coda_plain.specs.Deeds.{Operated}
use Rattle.coda_plain.specs.Cell.{ClientEntry, Did}
use Rattle.coda_venus.specs.Ask.{Asked, Create, Mkdir, Symlink, Store, Setattr, Remove, Rmdir, Rename, ending, front_of, too_big, object_of}
use Rattle.coda_cell.specs.Held.{Fetch, held_after_fetches}
use Rattle.coda_venus.specs.Held.{Held}
use Rattle.coda_cell.specs.Looking.{look_on, look_along, is_fetched, entries_of}
use Rattle.coda_venus.specs.Looking.{resolve}
use Rattle.coda_cell.specs.State.{ClientVolume, ClientState}
use Rattle.coda_cell.specs.Accepting.{sight_of}
use Rattle.coda_venus.specs.Accepting.{Accepted, accept}
use Rattle.coda_venus.specs.declared.refused.Refused.{Refused as ClientRefused}
use Rattle.coda_cell.specs.Refusing.{client_refused_as}
use Rattle.coda_cell.specs.Refused.{Refused}
use Rattle.coda_cell.specs.Refused.{NotDir, IsDir, Miss, TooBig, LogFull, JournalFull}

-- a reply, or why there is none
abbrev pub Said : Type 0
Said = Result Reply Refused

-- what a client answers, and the entries that it adds
pub record Answer : Type 0 where
  pub entries : List ClientEntry
  pub said : Said

abbrev pub answers : List ClientEntry → Said → Answer
answers entries said = record { entries = entries; said = said }

-- ---- operations

-- the look-ups of a rename: along the old path, and where that leads to an object along the new one
abbrev pub rename_look_ups : Option Nodes → Held → ℕ → List Name → List Name → List Fetch
rename_look_ups offers h volume from to =
    look_along offers h (root_of volume) from
    ++ look_on (resolve (held_after_fetches h (look_along offers h (root_of volume) from)).nodes (root_of volume) from)
    (λ fid. look_along offers (held_after_fetches h (look_along offers h (root_of volume) from)) (root_of volume) to)

-- the look-ups of an ask: of a creation those up to the parent, else those up to the object
abbrev pub look_ups : Option Nodes → Held → ℕ → Asked → List Fetch
look_ups offers h volume (Create path mode owner) = look_along offers h (root_of volume) (front_of (ending path))
look_ups offers h volume (Mkdir path mode owner) = look_along offers h (root_of volume) (front_of (ending path))
look_ups offers h volume (Symlink path target) = look_along offers h (root_of volume) (front_of (ending path))
look_ups offers h volume (Store path content) = look_along offers h (root_of volume) path
look_ups offers h volume (Setattr path attrs) = look_along offers h (root_of volume) path
look_ups offers h volume (Remove path) = look_along offers h (root_of volume) path
look_ups offers h volume (Rmdir path) = look_along offers h (root_of volume) path
look_ups offers h volume (Rename from to) = rename_look_ups offers h volume from to

-- a client that fetched
abbrev pub behind_fetches : ClientState → List Fetch → ClientState
behind_fetches c fetches = record c { held = held_after_fetches c.held fetches }

-- the record of the next operation of a client on a volume, at a time
abbrev pub next_record : ClientVolume → ℕ → Op → Record
next_record v time op = record { number = v.operations + 1; time = time; op = op }

-- whether the log would keep within its limits with one operation more: 4,096 records, and 16 MiB
abbrev pub has_room : ClientVolume → Record → Bool
has_room v rec = fits 4096 16777216 (fold v.front ++ fold (v.back ++ rec ∷ []))

-- a client accepts at most 2^32 - 1 operations on a volume
abbrev pub is_full : ClientVolume → Bool
is_full v = nat_le 4294967295 v.operations

-- an operation that is accepted becomes a record, unless the log or the journal is full
abbrev pub entered : List ClientEntry → ClientVolume → ℕ → Op → Record → Answer
entered entries v volume op rec =
    if has_room v rec
    then (if is_full v then answers entries (Err JournalFull) else answers (entries ++ Did volume (Operated rec) ∷ []) (Ok (Done (v.operations + 1) (object_of op))))
    else answers entries (Err LogFull)

-- the answer where an operation is accepted or refused after look-ups
abbrev pub answer_to : List ClientEntry → ClientVolume → ℕ → ℕ → Accepted → Answer
answer_to entries v time volume (Err why) = answers entries (Err (client_refused_as why))
answer_to entries v time volume (Ok op) = entered entries v volume op (next_record v time op)

-- the same, unless content is too long, which is seen before anything is looked up
abbrev pub operate_unless : Option ℕ → Option Nodes → ClientState → ℕ → ℕ → Asked → Answer
operate_unless (Some length) offers c time volume ask = answers [] (Err (TooBig length))
operate_unless None offers c time volume ask =
    answer_to (entries_of (look_ups offers c.held volume ask)) (c.volumes volume) time volume
    (accept (sight_of (behind_fetches c (look_ups offers c.held volume ask)) volume) volume ask)

-- what a client that is asked for an operation at a time answers
unfoldable pub operate : Option Nodes → ClientState → ℕ → ℕ → Asked → Answer
operate offers c time volume ask = operate_unless (too_big ask) offers c time volume ask

-- ---- reading and listing

-- what a file or link is answered as
abbrev pub read_in : Bool → NodeKind → Said
read_in fetched (File content) = Ok (Read fetched (FileOf content))
read_in fetched (Link target) = Ok (Read fetched (LinkTo target))
read_in fetched (Dir entries) = Err IsDir

-- what a directory is answered as
abbrev pub list_in : Bool → NodeKind → Said
list_in fetched (File content) = Err NotDir
list_in fetched (Link target) = Err NotDir
list_in fetched (Dir entries) = Ok (Listed fetched entries)

-- the answer by the object that is held
abbrev pub shown_as : (Bool → NodeKind → Said) → Bool → Option Node → Fid → Said
shown_as show fetched None fid = Err (Miss fid)
shown_as show fetched (Some node) fid = show fetched node.kind

-- the answer by where a path leads after look-ups
abbrev pub shown_at : (Bool → NodeKind → Said) → List Fetch → Nodes → Result Fid ClientRefused → Said
shown_at show fetches m (Err why) = Err (client_refused_as why)
shown_at show fetches m (Ok fid) = shown_as show (is_fetched fetches fid) (map.get m fid) fid

-- what a client that is asked to show an object answers
abbrev pub show_object : (Bool → NodeKind → Said) → Option Nodes → Held → ℕ → List Name → Answer
show_object show offers h volume path =
    answers (entries_of (look_along offers h (root_of volume) path))
    (shown_at show (look_along offers h (root_of volume) path) (held_after_fetches h (look_along offers h (root_of volume) path)).nodes
    (resolve (held_after_fetches h (look_along offers h (root_of volume) path)).nodes (root_of volume) path))

-- what a client that is asked to read or to list an object answers
abbrev pub read : Option Nodes → ClientState → ℕ → List Name → Answer
read offers c volume path = show_object read_in offers c.held volume path

abbrev pub list : Option Nodes → ClientState → ℕ → List Name → Answer
list offers c volume path = show_object list_in offers c.held volume path
