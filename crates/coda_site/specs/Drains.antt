-- What a drain, a chunk that is sent and a letter that came leave of a site.
use Rattle.std.specs.Prelude.{◌≡◌, ℕ, Bool, List, []}
use Rattle.std.specs.BTreeMap.{BTreeMap}
use Rattle.coda_disk.specs.Told.{Told}
use Rattle.coda_journal.specs.declared.header.Header.{Header}
use Rattle.coda_plain.specs.Cell.{ClientEntry}
use Rattle.coda_actors.specs.declared.slot.Slot.{Slot}
use Rattle.coda_actors.specs.declared.slot.Slot.TheVariants.{Started}
use Rattle.coda_crew.specs.Crews.{slot_at}
use Rattle.coda_net.specs.Pool.{Pool}
use Rattle.coda_letters.specs.Calls.{IsSent}
use Rattle.coda_letters.specs.Sent.{Sent, ChunkSent, AnswerSent, BreakSent, Waiting, AreLetters}
use Rattle.coda_script.specs.declared.line.Line.{Line}
use Rattle.coda_script.specs.declared.reply.Reply.{Reply}
use Rattle.coda_venus.specs.Standing.{IsUp}
use Rattle.coda_venus.specs.declared.venus.Venus.{Venus}
use Rattle.coda_cell.specs.State.{Event}
use Rattle.coda_cell.specs.Steps.{Doing, Comes}
use Rattle.coda_matching.specs.Clients.{journal_by, IsClientHistory}
use Rattle.coda_shelves.specs.Cells.{Cell, state_of}
use Rattle.coda_shelves.specs.Lines.{client_down, replica_down, a_holder, is_down_for, EndsBy, Acts, Becoming, UnlessDown}
use Rattle.coda_site.specs.Chunks.{volume_by}
use Rattle.coda_site.specs.Sites.{IsSite}
use Rattle.coda_site.specs.declared.site.Site.{Site}

-- A line whose actors are up has this reply, and the site stands for the cell that it leaves.
abbrev pub Acted : {D : Type 0} → (D → Told) → (ℕ → Bool) → (ℕ → Told) → Cell → Line → Reply → Site D → Type 0
Acted told out has cell said reply site = (left : Cell) × Acts cell said reply left × IsSite told out has left site

-- It does this, up to an entry for which a disk has no room or at which one fails.
pub record ActsBy (doing : Doing) (old : Cell) (reply : Reply) (new : Cell) : Type 0 where
  pub own : Reply
  pub events : List Event
  pub does : doing own events
  pub ends : EndsBy old events own reply new

-- The same of a letter that came to an actor that is up.
abbrev pub Came : {D : Type 0} → (D → Told) → (ℕ → Bool) → (ℕ → Told) → Cell → Sent → Reply → Site D → Type 0
Came told out has cell sent reply site = (left : Cell) × ActsBy (Comes (state_of cell) sent) cell reply left × IsSite told out has left site

-- whom a letter goes to, over a link that is up, is down
abbrev pub taker_down : Cell → Sent → Bool
taker_down cell (ChunkSent client server volume number span) = is_down_for (a_holder cell client volume server (replica_down cell server volume))
taker_down cell (AnswerSent server client volume number answer) = is_down_for (a_holder cell client volume server (client_down cell client))
taker_down cell (BreakSent server client volume fids) = is_down_for (a_holder cell client volume server (client_down cell client))

-- a letter comes to whom it was sent, unless that one is down
abbrev pub CameTo : Cell → Sent → Becoming
CameTo cell sent = UnlessDown (taker_down cell sent) cell (λ reply outside new. (outside ≡ []) × ActsBy (Comes (state_of cell) sent) cell reply new)

-- The chunk of a client that is up went in a letter of this number.
abbrev pub PostsChunk : {D : Type 0} → (D → Told) → ℕ → ℕ → ℕ → ℕ → BTreeMap ℕ (Slot (Venus D) D) → Pool → Pool → ℕ → Type 0
PostsChunk {D = D} told client volume server chunk clients old new message =
    (header : Header) (venus : Venus D) (history : List ClientEntry) (waiting : Waiting) → slot_at clients client ≡ Started header venus → IsUp told header venus (journal_by history) → IsClientHistory header history → AreLetters waiting old
    → IsSent waiting (ChunkSent client server volume chunk (volume_by header history volume).front) old message new
