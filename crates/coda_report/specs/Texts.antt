-- The texts of replies. Each line of a reply ends with a newline.
use Rattle.std.specs.Prelude.{ℕ, Bool, true, false, List, [], ◌∷◌, ◌++◌, length, codes}
use Rattle.std.specs.List.{flat_map}
use Rattle.std.specs.Fmt.{decimal}
use Rattle.std.specs.FinMap as map
use Rattle.coda_fid.specs.Fid.{fid_text}
use Rattle.coda_fid.specs.Path.{path_text}
use Rattle.coda_fid.specs.declared.fid.Fid.{Fid}
use Rattle.coda_fid.specs.declared.op.Record.{Record}
use Rattle.coda_tree.specs.Bindings.{Name, Bindings}
use Rattle.coda_certify.specs.declared.verdict.Verdict.{Verdict}
use Rattle.coda_certify.specs.declared.verdict.Verdict.TheVariants.{Applied, Conflict}
use Rattle.coda_certify.specs.Texts.{reason_text}
use Rattle.coda_text.specs.Texts.{printed}
use Rattle.coda_script.specs.Refusals.{number_of_refusal, refusal_name}
use Rattle.coda_script.specs.declared.refusal.Refusal.{Refusal}
use Rattle.coda_script.specs.declared.line.Expansion.{Expansion}
use Rattle.coda_script.specs.declared.line.Expansion.TheVariants.{Alone, Children, Descendants}
use Rattle.coda_script.specs.declared.reply.Answer.{Answer}
use Rattle.coda_script.specs.declared.reply.Answer.TheVariants.{Decided, Behind, Old}
use Rattle.coda_script.specs.declared.reply.Arg.{Arg}
use Rattle.coda_script.specs.declared.reply.Arg.TheVariants.{Number, Object}
use Rattle.coda_script.specs.declared.reply.ClientState.{ClientState}
use Rattle.coda_script.specs.declared.reply.ClientState.TheVariants.{Hoarding, Emulating, WriteDisconnected}
use Rattle.coda_script.specs.declared.reply.HoardEntry.{HoardEntry}
use Rattle.coda_script.specs.declared.reply.Mark.{Mark}
use Rattle.coda_script.specs.declared.reply.Readable.{Readable}
use Rattle.coda_script.specs.declared.reply.Readable.TheVariants.{File, Link}
use Rattle.coda_script.specs.declared.reply.Why.{Why}
use Rattle.coda_script.specs.declared.reply.Why.TheVariants.{Wrapped, CrossRename, NameName, DoubleName, RemoveUpdate, AttrAttr, FileFile, Kept}
use Rattle.coda_script.specs.declared.reply.Undecided.{Undecided}
use Rattle.coda_script.specs.declared.reply.Undecided.TheVariants.{Behind as BehindOf, Old as OldOf}
use Rattle.coda_script.specs.declared.reply.Reply.{Reply}
use Rattle.coda_script.specs.declared.reply.Reply.TheVariants.{Opened, Accepted, Done, Read, Listed, Hoarded, Walked, Sent, Drained, Delivered, Settled, StillFrozen, Broken, Lost, Posted, GaveUp, Crashed, Recovered, Resolved, Repaired, ShowVolume, ShowLog, State, Refused}
use Rattle.coda_report.specs.Printing.{line, text_of_content}
use Rattle.coda_report.specs.Records.{record_line}

-- numbers, each behind a blank
abbrev pub numbers_text : List ℕ → List ℕ
numbers_text numbers = flat_map (λ n. 32 ∷ decimal n) numbers

-- ---- what a client reads

-- what is held and what was fetched
abbrev pub source_text : Bool → List ℕ
source_text true = codes "fetched "
source_text false = codes "cached "

-- a file's length and the first of its content, or a link's target
abbrev pub readable_text : Readable → List ℕ
readable_text (File content) = decimal (length content) ++ 32 ∷ text_of_content content
readable_text (Link target) = codes "link " ++ text_of_content target

-- the line of a name and what it is bound to
abbrev pub entry_line : Name × Fid → List ℕ
entry_line e = line (printed e.0 ++ 32 ∷ fid_text e.1)

-- what a directory binds, by the bytes of the names
abbrev pub listing_text : Bool → Bindings → List ℕ
listing_text fetched entries = line (source_text fetched ++ decimal (map.len entries)) ++ flat_map entry_line (map.entries entries)

-- ---- what a client hoards

-- what a hoard entry takes beside its object
abbrev pub expansion_text : Expansion → List ℕ
expansion_text Alone = codes "none"
expansion_text Children = codes "children"
expansion_text Descendants = codes "descendants"

-- the line of a hoard entry
abbrev pub hoard_line : HoardEntry → List ℕ
hoard_line e = line (decimal e.volume ++ 32 ∷ printed (path_text e.path) ++ 32 ∷ decimal e.priority ++ 32 ∷ expansion_text e.expansion)

-- how many hoard entries there are, and each on a line
abbrev pub hoarded_text : List HoardEntry → List ℕ
hoarded_text entries = line (codes "entries " ++ decimal (length entries)) ++ flat_map hoard_line entries

-- how many objects a hoard walk kept, fetched and dropped
abbrev pub planned_text : ℕ → ℕ → ℕ → List ℕ
planned_text keep fetch drop = codes "walk keep " ++ decimal keep ++ codes " fetch " ++ decimal fetch ++ codes " drop " ++ decimal drop

-- how many blocks of the cache are used then
abbrev pub blocks_text : ℕ → ℕ → List ℕ
blocks_text used size = codes " used " ++ decimal used ++ codes " of " ++ decimal size

-- what a hoard walk did
abbrev pub walked_text : ℕ → ℕ → ℕ → ℕ → ℕ → List ℕ
walked_text keep fetch drop used size = line (planned_text keep fetch drop ++ blocks_text used size)

-- ---- what became of a chunk

-- a verdict
abbrev pub verdict_text : Verdict → List ℕ
verdict_text Applied = codes "applied"
verdict_text (Conflict number why) = codes "conflict " ++ decimal number ++ 32 ∷ reason_text why

-- an answer
abbrev pub answer_text : Answer → List ℕ
answer_text (Decided verdict) = verdict_text verdict
answer_text (Behind last) = codes "behind " ++ decimal last
answer_text (Old last) = codes "old " ++ decimal last

-- why a chunk was not decided
abbrev pub undecided_text : Undecided → List ℕ
undecided_text (BehindOf last) = codes "behind " ++ decimal last
undecided_text (OldOf last) = codes "old " ++ decimal last

-- a chunk of a number and its answer
abbrev pub chunk_text : ℕ → Answer → List ℕ
chunk_text chunk answer = codes "chunk " ++ decimal chunk ++ 32 ∷ answer_text answer

-- how many records a client gave up, and each on a line
abbrev pub given_up_text : List Record → List ℕ
given_up_text records = line (codes "gave-up " ++ decimal (length records)) ++ flat_map record_line records

-- ---- what resolution did

-- why an object is marked
abbrev pub why_text : Why → List ℕ
why_text (Wrapped origin number) = codes "wrapped " ++ decimal origin ++ 32 ∷ decimal number
why_text CrossRename = codes "cross-rename"
why_text (NameName name) = codes "name-name " ++ printed name
why_text (DoubleName fid) = codes "double-name " ++ fid_text fid
why_text (RemoveUpdate fid) = codes "remove-update " ++ fid_text fid
why_text AttrAttr = codes "attr-attr"
why_text FileFile = codes "file-file"
why_text Kept = codes "kept"

-- the line of a mark
abbrev pub mark_line : Mark → List ℕ
mark_line mark = line (fid_text mark.fid ++ 32 ∷ why_text mark.why)

-- how many objects differ, and each new mark on a line
abbrev pub resolved_text : ℕ → List Mark → List ℕ
resolved_text touched marks = line (codes "resolved " ++ decimal touched ++ codes " marked " ++ decimal (length marks)) ++ flat_map mark_line marks

-- ---- how a client works, and refusals

-- the state of a client
abbrev pub state_text : ClientState → List ℕ
state_text Hoarding = codes "hoarding"
state_text Emulating = codes "emulating"
state_text WriteDisconnected = codes "write-disconnected"

-- what a refusal names
abbrev pub arg_text : Arg → List ℕ
arg_text (Number number) = 32 ∷ decimal number
arg_text (Object fid) = 32 ∷ fid_text fid

-- the number and the name of a refusal, and what it names
abbrev pub refused_text : Refusal → List Arg → List ℕ
refused_text why args = codes "refused " ++ decimal (number_of_refusal why) ++ 32 ∷ refusal_name why ++ flat_map arg_text args

-- ---- replies

-- a reply that has all that its text shows; a volume or a log that is to be shown is named alone
abbrev pub IsWhole : Reply → Type 0
IsWhole (ShowVolume server volume) = ⊥
IsWhole (ShowLog client volume) = ⊥
IsWhole _ = Unit {0}

-- the text of a reply
abbrev pub reply_text : Reply → List ℕ
reply_text (Opened entries) = line (codes "opened" ++ numbers_text entries)
reply_text Accepted = line (codes "ok")
reply_text (Done number fid) = line (codes "done " ++ decimal number ++ 32 ∷ fid_text fid)
reply_text (Read fetched what) = line (source_text fetched ++ readable_text what)
reply_text (Listed fetched entries) = listing_text fetched entries
reply_text (Hoarded entries) = hoarded_text entries
reply_text (Walked keep fetch drop used size) = walked_text keep fetch drop used size
reply_text (Sent message chunk) = line (codes "message " ++ decimal message ++ codes " chunk " ++ decimal chunk)
reply_text (Drained chunk answer) = line (chunk_text chunk answer)
reply_text (Delivered chunk answer message) = line (chunk_text chunk answer ++ codes " message " ++ decimal message)
reply_text (Settled chunk verdict) = line (codes "settled " ++ decimal chunk ++ 32 ∷ verdict_text verdict)
reply_text (StillFrozen chunk why) = line (codes "frozen " ++ decimal chunk ++ 32 ∷ undecided_text why)
reply_text (Broken copies) = line (codes "broken " ++ decimal copies)
reply_text (Lost message) = line (codes "lost " ++ decimal message)
reply_text (Posted messages) = line (codes "posted" ++ numbers_text messages)
reply_text (GaveUp records) = given_up_text records
reply_text Crashed = line (codes "crashed")
reply_text (Recovered entries) = line (codes "recovered " ++ decimal entries)
reply_text (Resolved touched marks) = resolved_text touched marks
reply_text (Repaired fid) = line (codes "repaired " ++ fid_text fid)
reply_text (State state) = line (state_text state)
reply_text (Refused why args) = line (refused_text why args)
-- these name what is shown, and have no text of their own
reply_text (ShowVolume server volume) = []
reply_text (ShowLog client volume) = []
