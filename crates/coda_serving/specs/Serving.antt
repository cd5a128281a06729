-- A client of a cell that stands on a disk: what it is asked, what it answers, and what it is offered.
use Rattle.std.specs.Prelude.{◌≡◌, ℕ, Bool, true, List, Option, Some}
use Rattle.coda_fid.specs.declared.fid.Fid.{Fid}
use Rattle.coda_script.specs.declared.reply.Readable.TheVariants.{File as FileOf, Link as LinkTo}
use Rattle.coda_script.specs.declared.reply.Reply.{Reply}
use Rattle.coda_script.specs.declared.reply.Reply.TheVariants as reply
use Rattle.coda_tree.specs.Bindings.{Name}
use Rattle.coda_tree.specs.Volume.{Nodes}
use Rattle.coda_tree.specs.declared.node.Node.{Node}
use Rattle.coda_tree.specs.declared.node.NodeKind.{NodeKind}
use Rattle.coda_tree.specs.declared.node.NodeKind.TheVariants.{File, Link, Dir}
use Rattle.coda_venus.specs.declared.done.Done.{Done}
use Rattle.coda_venus.specs.declared.seen.Seen.{Seen}
use Rattle.coda_serving.specs.Fetching.{offered}
use Rattle.coda_serving.specs.Spelling.{can_be_spelled}
use Rattle.coda_serving.specs.declared.asking.Showing.{Showing}
use Rattle.coda_serving.specs.declared.asking.Showing.TheVariants.{Content, Names}
use Rattle.coda_cell.specs.Asking.{Answer, read, list}
use Rattle.coda_cell.specs.State.{ClientState}

-- ---- what is shown

-- what a client of a cell answers that is to show an object so
abbrev pub show_answer : Showing → Option Nodes → ClientState → ℕ → List Name → Answer
show_answer Content = read
show_answer Names = list

-- ---- what is answered

-- the reply names the operation that was performed, and its object
abbrev pub IsDone : Reply → Done → Type 0
IsDone answer done = answer ≡ reply.Done done.number done.fid

-- what is replied of an object of this kind that is shown
abbrev pub reply_of : Bool → NodeKind → Reply
reply_of fetched (File content) = reply.Read fetched (FileOf content)
reply_of fetched (Link target) = reply.Read fetched (LinkTo target)
reply_of fetched (Dir entries) = reply.Listed fetched entries

-- the reply shows the object, and says whether it was fetched
abbrev pub IsShown : Reply → (Seen × Bool) → Type 0
IsShown answer shown = answer ≡ reply_of shown.1 shown.0.node.kind

-- ---- what is offered

-- each object that is offered can be spelled, so that a journal can keep it
abbrev pub AreSpelledOffers : Option Nodes → Type 0
AreSpelledOffers offers = (fid : Fid) (node : Node) → offered offers fid ≡ Some node → can_be_spelled node ≡ true
