-- The two sides of the formats of decisions and answers agree.
use Rattle.std.proofs.Common.{◌≡◌, ℕ, refl}
use Rattle.std.specs.Prelude.{IsTrue}
use Rattle.coda_record.specs.declared.answer.Answer.{Answer}
use Rattle.coda_record.specs.declared.answer.Answer.TheVariants as answers
use Rattle.coda_values.specs.Form.{one}
use Rattle.coda_values.specs.Parts.{u8, where_holds}
use Rattle.coda_values.specs.Walks.{Says, Agrees}
use Rattle.coda_values.proofs.PartsAgree.{no_number, tags_placed, where_agrees, behind_tags, list_agrees}
use Rattle.coda_values.proofs.Tabled.{u8_agrees, count_agrees, ordinal_agrees, reason_agrees, verdict_agrees}
use Rattle.coda_record.specs.Table.{client_follows, last_above, lasts, answer, answer_forms}

client_follows_agrees : (before : ℕ) → Agrees (where_holds (client_follows before) u8)
client_follows_agrees before = where_agrees (client_follows before) u8 u8_agrees (no_number one)

pub last_agrees : (before : ℕ) → Agrees (last_above before)
unfolding last_above
last_agrees before = record {
  written = ((client_follows_agrees before).written, λ c k. (ordinal_agrees.written, λ n k. (verdict_agrees.written, λ v k. refl)));
  said = λ l fits. (l.client, _, refl, (client_follows_agrees before).said l.client, (l.number, _, refl, ordinal_agrees.said l.number, (l.verdict, _, refl, verdict_agrees.said l.verdict, (refl, refl))));
  placed = ((client_follows_agrees before).placed, λ c. (ordinal_agrees.placed, λ n. (verdict_agrees.placed, λ v. tt)));
}

pub lasts_agree : Agrees lasts
unfolding lasts
lasts_agree = list_agrees last_above (λ l. l.client) 0 last_agrees

answer_said : (x : Answer) → IsTrue (answer.piece x).fits → Says answer.form (answer.piece x) x
unfolding answer
answer_said answers.Applied fits = (0, _, refl, (refl, refl))
answer_said (answers.Conflict n r) fits = (1, _, refl, (n, _, refl, ordinal_agrees.said n, (r, _, refl, reason_agrees.said r, (refl, refl))))
answer_said (answers.Behind n) fits = (2, _, refl, (n, _, refl, count_agrees.said n, (refl, refl)))
answer_said (answers.Old n) fits = (3, _, refl, (n, _, refl, count_agrees.said n, (refl, refl)))

pub answer_agrees : Agrees answer
unfolding answer
answer_agrees = record {
  written = behind_tags answer_forms (λ p x. p ≡ answer.piece x) (
    refl,
    (
      (ordinal_agrees.written, λ n k. (reason_agrees.written, λ r k. refl)),
      (
        (count_agrees.written, λ n k. refl),
        (
          (count_agrees.written, λ n k. refl),
          tt,
        ),
      ),
    ),
  );
  said = answer_said;
  placed = tags_placed answer_forms (
    tt,
    (
      (ordinal_agrees.placed, λ n. (reason_agrees.placed, λ r. tt)),
      (
        (count_agrees.placed, λ n. tt),
        (
          (count_agrees.placed, λ n. tt),
          tt,
        ),
      ),
    ),
  );
}
