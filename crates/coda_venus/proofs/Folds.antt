-- While what is pending is a steady run, a log is what cancellation leaves of it.
use Rattle.std.proofs.Common.{◌≡◌, ℕ, List, [], ◌++◌, Option, Some, None, refl, sym, ap, ◌∙◌, subst}
use Rattle.coda_fid.specs.declared.op.Record.{Record}
use Rattle.coda_cancel.specs.Cancel.{fold}
use Rattle.coda_certify.specs.declared.verdict.Verdict.TheVariants.{Applied, Conflict}
use Rattle.coda_cml.specs.Chunks.{chunk_length, freeze_refusal}
use Rattle.coda_cml.specs.Fronts.{chunk_end}
use Rattle.coda_cml.specs.Partition.{AreInTurn}
use Rattle.coda_cml.specs.Segments.{segments_of, records_upto, records_above}
use Rattle.coda_cml.specs.State.{LogState, IsLogOf}
use Rattle.coda_cml.specs.Steady.{IsSteady}
use Rattle.coda_cml.specs.Steps.{frozen_at, frozen_to, given_up}
use Rattle.coda_cml.specs.declared.frozen.Frozen.{Frozen}
use Rattle.coda_cml.specs.declared.segment.Segment.{Segment}
use Rattle.coda_cml.proofs.segments.Fronts.{cut_of_run}
use Rattle.coda_cml.proofs.segments.FrozenFronts.{may_go}
use Rattle.coda_cml.proofs.segments.LogSteps.{appended_log, applied_log}
use Rattle.coda_cml.proofs.segments.PartedRecords.{segments_part}
use Rattle.coda_cml.proofs.segments.ThawedLog.{thawed_log}
use Rattle.coda_plain.specs.Deeds.{Operated, Froze, Settled, Gaveup}
use Rattle.coda_venus.specs.History.{last_to_go, MayFreeze}
use Rattle.coda_venus.specs.Laws.{LogsAreFolds}
use Rattle.coda_venus.specs.State.{ended_by}
use Rattle.coda_venus.proofs.Ends.{parted_turn, ended_front, chunk_within}

-- where nothing stands against a freeze, nothing is frozen
not_frozen : (o : Option Frozen) (now window : ℕ) (ss : List Segment) → freeze_refusal o now window ss ≡ None → o ≡ None
not_frozen None now window ss e = refl
not_frozen (Some chunk) now window ss e = cc

given_up_log : (log : LogState) (front back : List Record) → IsLogOf log front back → log.frozen ≡ None → IsLogOf (given_up log) [] []
given_up_log log front back is none =
    let empty = is.thawed none in
    record {
      rising = tt;
      reached = tt;
      thawed = λ e. refl;
      sent = λ e. none;
      chunk = is.chunk ∙ ap fold empty;
      chunk_segments = is.chunk_segments ∙ ap segments_of empty;
      records = refl;
      segments = refl;
    }

frozen_log : (log : LogState) (front back : List Record) (number home last : ℕ) → IsLogOf log front back → IsSteady (front ++ back) → MayFreeze log number last
    → IsLogOf (frozen_at log (ended_by last log.segments) (record { number = number; home = home })) (records_upto last back) (records_above last back)
frozen_log log front back number home last is steady may =
    let empty = is.thawed (not_frozen log.frozen may.now may.window log.segments may.goes) in
    let run : IsLogOf log [] back = subst (λ (f : List Record). IsLogOf log f back) empty is in
    let run_steady : IsSteady back = subst (λ (f : List Record). IsSteady (f ++ back)) empty steady in
    let goes = may_go log.frozen may.now may.window 64 log.segments may.goes in
    let length = chunk_length may.now may.window 64 log.segments in
    let turn : AreInTurn log.segments = subst AreInTurn (sym run.segments) (parted_turn (segments_of back) (fold back) (segments_part back run.rising)) in
    let ended : ended_by last log.segments ≡ length = ap (λ n. ended_by n log.segments) may.ends ∙ ended_front length log.segments turn goes.0 (chunk_within may.now may.window 64 log.segments) in
    let same : frozen_at log (ended_by last log.segments) (record { number = number; home = home }) ≡ frozen_to log home length = λ i. frozen_at log (ended i) (record { number = may.next i; home = home }) in
    let at : chunk_end may.now may.window 64 back ≡ last = ap (last_to_go may.now may.window) (sym run.segments) ∙ sym may.ends in
    subst (λ (l : LogState). IsLogOf l (records_upto last back) (records_above last back)) (sym same)
    (subst (λ (n : ℕ). IsLogOf (frozen_to log home length) (records_upto n back) (records_above n back)) at (cut_of_run log back home may.now may.window 64 length run run_steady refl goes.0 goes.1))

pub folds : LogsAreFolds
folds v p (Operated rec) is steady may = appended_log v.log p.front p.back rec may is
folds v p (Froze number home last) is steady may = frozen_log v.log p.front p.back number home last is steady may
folds v p (Settled number Applied) is steady may = applied_log v.log p.front p.back is
folds v p (Settled number (Conflict n why)) is steady may = thawed_log v.log p.front p.back is steady
folds v p Gaveup is steady may = given_up_log v.log p.front p.back is may
