-- How many bytes each value has where it is written.
use Rattle.std.proofs.Common.{◌≡◌, ℕ, ◌+◌, List, [], ◌∷◌, length, refl, ◌∙◌, arith}
use Rattle.coda_record.specs.declared.answer.Answer.{Answer}
use Rattle.coda_record.specs.declared.answer.Answer.TheVariants as answers
use Rattle.coda_values.specs.Form.{one, eight}
use Rattle.coda_values.specs.Parts.{u8, u64}
use Rattle.coda_record.specs.Table.{reason, answer}
pub use Rattle.coda_values.proofs.Spans.{number_span, together_span, tag_span, tag_u64_span, name_span, create_span, mkdir_span, symlink_span, store_span}
pub use Rattle.coda_values.proofs.Spans.{setattr_span, attrs_span, remove_span, rmdir_span, rename_span, no_over_span, some_over_span}
pub use Rattle.coda_values.proofs.Spans.{some_u16_span, some_u32_span, some_u64_span, record_span, records_span, no_fid_span, some_fid_span}
pub use Rattle.coda_values.proofs.Spans.{reason_span, reason_bytes}

abbrev pub answer_span : Answer → ℕ
answer_span answers.Applied = 1
answer_span (answers.Conflict n r) = 9 + length (reason.piece r).bytes
answer_span (answers.Behind n) = 9
answer_span (answers.Old n) = 9

pub answer_bytes : (a : Answer) → length (answer.piece a).bytes ≡ answer_span a
unfolding answer
answer_bytes answers.Applied = tag_span 0
answer_bytes (answers.Conflict n r) = together_span (u8.piece 1 ∷ u64.piece n ∷ reason.piece r ∷ []) ∙ rw (number_span one 1, number_span eight n) (omega arith)
answer_bytes (answers.Behind n) = tag_u64_span 2 n
answer_bytes (answers.Old n) = tag_u64_span 3 n
