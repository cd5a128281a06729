-- The formats of decisions and answers, version 1, each under its line of the table, beside those of the values that they are
-- made of. Numbers have their most significant byte first. A form says what is read, and a piece what is written.
use Rattle.std.specs.Prelude.{ℕ, ◌&&◌, nat_lt, nat_le, Bool, List, [], ◌∷◌}
use Rattle.coda_record.specs.declared.last.Last.{Last}
use Rattle.coda_record.specs.declared.answer.Answer.{Answer}
use Rattle.coda_record.specs.declared.answer.Answer.TheVariants as answers
use Rattle.coda_values.specs.Form.{Piece, together, Form, gives, Format, ◌>>=◌}
use Rattle.coda_values.specs.Parts.{u8, where_holds, one_of, list}
pub use Rattle.coda_values.specs.Table.{client, server, volume, count, ordinal, name, target, content, bit, where_set, attrs_piece, may_follow}
unfoldable pub use Rattle.coda_values.specs.Table.{fid, sid, over, attrs, op, record_above, records, reason, verdict}

-- ---- last: u8 client, u64 number, verdict

-- whether a client may stand behind another
abbrev pub client_follows : ℕ → ℕ → Bool
client_follows before c = nat_lt before c && nat_le c 255

-- the last chunk of a client that was decided, where the client stands behind another
unfoldable pub last_above : ℕ → Format Last
last_above before = record {
  form = do
    c ← where_holds (client_follows before) u8
    number ← ordinal
    v ← verdict
    gives (record { client = c; number = number; verdict = v });
  piece = λ l. together ((where_holds (client_follows before) u8).piece l.client ∷ ordinal.piece l.number ∷ verdict.piece l.verdict ∷ []);
}

-- the last decisions of clients, in increasing order of these
unfoldable pub lasts : Format (List Last)
lasts = list last_above (λ l. l.client) 0

-- ---- answer: u8 0; 1, u64, reason; 2, u64; 3, u64

-- how an answer is written
abbrev pub answer_piece : Answer → Piece
answer_piece answers.Applied = together (u8.piece 0 ∷ [])
answer_piece (answers.Conflict n r) = together (u8.piece 1 ∷ ordinal.piece n ∷ reason.piece r ∷ [])
answer_piece (answers.Behind n) = together (u8.piece 2 ∷ count.piece n ∷ [])
answer_piece (answers.Old n) = together (u8.piece 3 ∷ count.piece n ∷ [])

-- what stands behind each tag of an answer
abbrev pub answer_forms : List (ℕ × Form Answer)
answer_forms =
    ((0, gives answers.Applied)
    ∷ (1, ordinal >>= λ n. reason >>= λ r. gives (answers.Conflict n r))
    ∷ (2, count >>= λ n. gives (answers.Behind n))
    ∷ (3, count >>= λ n. gives (answers.Old n))
    ∷ [])

-- what a replica answers to a chunk
unfoldable pub answer : Format Answer
answer = record {
  form = one_of answer_forms;
  piece = answer_piece;
}
