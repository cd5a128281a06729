-- What a report tells of a run of lines.
use Rattle.std.proofs.Common.{ℕ, Bool, List}
use Rattle.std.specs.Prelude.{Option}
use Rattle.coda_engine.specs.Machine.{Gives, Refuses}
use Rattle.coda_engine.specs.Run.{Runs, Answers, Reports, is_at_end}
use Rattle.coda_engine.specs.declared.status.Status.{Status}
use Rattle.coda_engine.specs.declared.status.Status.TheVariants.{Done, Usage, Script, SourceFault, SinkFault, TooLong, BayFault, Memory}
use Rattle.coda_engine.proofs.Standing.{runs_more}

-- lines ran from one state, and left the other
pub record HaveRun {M : Type 0} (gives : Gives M) (start new : M) : Type 0 where
  pub lines : List (List ℕ)
  pub report : List ℕ
  pub outside : List (List ℕ)
  pub runs : Runs gives start lines report outside new

module _ {M : Type 0} (gives : Gives M) (refuses : Refuses M) (start new : M) where
  answers_ran : (all : Bool) (read written : List ℕ) (outside : List (List ℕ)) (status : Status) → Answers gives refuses start new all read written outside status → HaveRun gives start new
  answers_ran all read written outside Done a = record { lines = _; report = _; outside = _; runs = a.1.runs }
  answers_ran all read written outside Usage a = absurd a
  answers_ran all read written outside (Script line column kind) a = record { lines = _; report = _; outside = _; runs = a.3.runs }
  answers_ran all read written outside TooLong a = record { lines = _; report = _; outside = _; runs = a.2.runs }
  answers_ran all read written outside SourceFault a = record { lines = _; report = _; outside = _; runs = a.2.runs }
  answers_ran all read written outside SinkFault a =
      let b = a.2 in record { lines = _; report = _; outside = _; runs = runs_more gives start b.state new b.before b.line b.report b.text b.answers b.answered b.runs b.did }
  answers_ran all read written outside BayFault a = record { lines = _; report = _; outside = _; runs = a.3.runs }
  answers_ran all read written outside Memory a = record { lines = _; report = _; outside = _; runs = a.3.runs }

  pub reports_ran : (left_old left_new held_old held_new : Option (List ℕ)) (outside : List (List ℕ)) (status : Status)
      → Reports gives refuses start new left_old left_new held_old held_new outside status → HaveRun gives start new
  reports_ran left_old left_new held_old held_new outside status r = answers_ran (is_at_end left_new) r.0 r.1 outside status r.4
