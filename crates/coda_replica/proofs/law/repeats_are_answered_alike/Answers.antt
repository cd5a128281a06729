use Rattle.std.proofs.Common.{◌≢◌, ◌+◌, subst, sym, ◌∙◌}
use Rattle.coda_plain.specs.Decisions.{Last}
use Rattle.coda_replica.specs.Comes.{history_of, history_after}
use Rattle.coda_replica.proofs.Repeats.{last_next, last_stays_all, again_is}
use Rattle.coda_replica.proofs.law.repeats_are_answered_alike.Goals as goal

pub returns : goal.returns
returns c = λ volume past chunk again between next client number others.
    let at = last_next volume past chunk next in
    let stays = last_stays_all volume (history_after volume past chunk) chunk.client between (λ other i same. subst (λ (l : Last). other.number ≢ l.number + 1) (sym at) (others other i same)) in
    again_is volume past (history_of volume (history_after volume past chunk) between) chunk again next client number (stays ∙ at)
