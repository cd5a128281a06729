-- That a reply tells whether what it shows was held.
use Rattle.std.specs.Prelude.{◌≡◌, ℕ, Bool, not, List, Option, Some, None, Ok}
use Rattle.coda_fid.specs.Fid.{root_of}
use Rattle.coda_fid.specs.declared.fid.Fid.{Fid}
use Rattle.coda_tree.specs.Bindings.{Name}
use Rattle.coda_tree.specs.Volume.{Nodes, has}
use Rattle.coda_script.specs.declared.reply.Reply.TheVariants.{Read, Listed}
use Rattle.coda_cell.specs.State.{ClientState, client_after_all}
use Rattle.coda_venus.specs.Looking.{resolve}
use Rattle.coda_cell.specs.Asking.{Said, Answer, read, list}

-- whether a reply says `fetched` of what it shows, or `cached`, where it shows something
abbrev pub says_fetched : Said → Option Bool
says_fetched (Ok (Read fetched what)) = Some fetched
says_fetched (Ok (Listed fetched entries)) = Some fetched
says_fetched _ = None

-- the client that gave an answer, behind it
abbrev pub behind : ClientState → Answer → ClientState
behind c answer = client_after_all c answer.entries

-- What is shown stands at the path's end, and the reply says `fetched` exactly where the client didn't hold it before.
abbrev pub SaysWhatWasHeld : (Option Nodes → ClientState → ℕ → List Name → Answer) → Type 0
SaysWhatWasHeld ask =
    (offers : Option Nodes) (c : ClientState) (volume : ℕ) (path : List Name) (fetched : Bool) → says_fetched (ask offers c volume path).said ≡ Some fetched
    → (fid : Fid) × (resolve (behind c (ask offers c volume path)).held.nodes (root_of volume) path ≡ Ok fid) × (fetched ≡ not (has c.held.nodes fid))

-- `cached` stands exactly where the object itself was held when the line began
abbrev pub CachedIsHeld : Type 0
CachedIsHeld = SaysWhatWasHeld read × SaysWhatWasHeld list
