-- Who has a promise and who has word after each step.
use Rattle.std.proofs.Common.{not, ◌&&◌, ◌||◌, ◌==◌, refl, ap, ◌∙◌}
use Rattle.std.specs.FinSet as set
use Rattle.coda_callback.specs.Callbacks.{interest, is_promised, is_waiting, names}
use Rattle.coda_callback.specs.Laws.{CallbacksMove}
use Rattle.coda_callback.proofs.Interests.{interests_total, alike, same_parts}

pub callbacks_move : CallbacksMove
callbacks_move = record {
  promised_by_a_fetch = λ s c f d g. set.contains-insert interests_total s.promises (interest c f) (interest d g) ∙ ap (λ b. b || is_promised s d g) (same_parts (interest d g) (interest c f));
  waiting_after_a_fetch = λ s c f d g. set.contains-remove interests_total s.outboxes (interest c f) (interest d g) ∙ ap (λ b. not b && is_waiting s d g) (same_parts (interest d g) (interest c f));
  promised_after_changes = λ s fids d g. set.contains-retain s.promises (λ i. not (names fids i.fid)) (interest d g) (alike (λ i. not (names fids i.fid)) (interest d g));
  waiting_after_changes = λ s fids d g. set.contains-union interests_total s.outboxes (set.retain s.promises (λ i. names fids i.fid)) (interest d g)
      ∙ ap (λ b. is_waiting s d g || b) (set.contains-retain s.promises (λ i. names fids i.fid) (interest d g) (alike (λ i. names fids i.fid) (interest d g)));
  promised_after_collecting = λ s c d g. refl;
  waiting_after_collecting = λ s c d g. set.contains-retain s.outboxes (λ i. not (i.client == c)) (interest d g) (alike (λ i. not (i.client == c)) (interest d g));
  promised_after_dropping = λ s c d g. set.contains-retain s.promises (λ i. not (i.client == c)) (interest d g) (alike (λ i. not (i.client == c)) (interest d g));
  waiting_after_dropping = λ s c d g. set.contains-retain s.outboxes (λ i. not (i.client == c)) (interest d g) (alike (λ i. not (i.client == c)) (interest d g));
}
