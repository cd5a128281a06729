-- What holds of letters in words of what they say.
use Rattle.std.specs.Prelude.{◌≡◌, ℕ, ◌≤◌, ◌+◌, ◌*◌, not, List, [], ◌∷◌, ◌++◌, length, if◌then◌else◌}
use Rattle.std.specs.List.{filter}
use Rattle.coda_fid.specs.declared.op.Record.{Record}
use Rattle.coda_cancel.specs.Weights.{total_weight}
use Rattle.coda_wire.specs.declared.message.Message.TheVariants.{Chunk}
use Rattle.coda_wire.specs.Table.{message}
use Rattle.coda_fid.specs.declared.fid.Fid.{Fid}
use Rattle.coda_letters.specs.Sent.{Sent, BreakSent, message_of, CanBeSent, is_lossy, bytes_of, Waiting, with_sent}

-- What can be said is told by its bytes: two letters with the same bytes say the same message.
abbrev pub BytesTellMessages : Type 0
BytesTellMessages = (one other : Sent) → CanBeSent one → CanBeSent other → bytes_of one ≡ bytes_of other → message_of one ≡ message_of other

-- A chunk has at most twice as many bytes as its records weigh, and 20 more.
abbrev pub ChunksAreLight : Type 0
ChunksAreLight = (client server volume number : ℕ) (recs : List Record) → length (message.piece (Chunk client server volume number recs)).bytes ≤ 20 + 2 * total_weight recs

-- A break waits until it is lost by its number: whatever is sent, each break that waits does so still, in the order in which they were; and
-- a break puts no letter out.
pub record BreaksWait : Type 0 where
  pub breaks_stay : (number : ℕ) (sent : Sent) (waiting : Waiting)
      → filter (λ l. not (is_lossy l.1)) (with_sent number sent waiting) ≡ filter (λ l. not (is_lossy l.1)) waiting ++ (if is_lossy sent then [] else (number, sent) ∷ [])
  pub puts_none_out : (number server client volume : ℕ) (fids : List Fid) (waiting : Waiting)
      → with_sent number (BreakSent server client volume fids) waiting ≡ waiting ++ (number, BreakSent server client volume fids) ∷ []
