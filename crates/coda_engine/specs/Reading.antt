-- Where a reader of a script stands between two bytes.
use Rattle.std.specs.Prelude.{◌≡◌, ◌≢◌, ℕ, ◌+◌, ◌<◌, ◌≤◌, ◌⊎◌, true, false, List, [], ◌++◌, length, Option}
use Rattle.std.specs.Str.Lines.{lines}
use Rattle.std.specs.Io.KnownBytes.{Appends, Consumes}
use Rattle.coda_engine.specs.Lines.{HasNoNewline, IsWithinLimits}
use Rattle.coda_engine.specs.Machine.{Gives, Refuses}
use Rattle.coda_engine.specs.Run.{Ran, BrokeOff, Answers}
use Rattle.coda_engine.specs.declared.status.Status.{Status}
use Rattle.coda_engine.specs.declared.status.Status.TheVariants.{Done, Usage, Script, SourceFault, SinkFault, TooLong, BayFault, Memory}

-- The line with this number may end the run that was at old and is at new after the last line that ran, with this status.
abbrev pub LineStops : {M : Type 0} → Gives M → Refuses M → Option (List ℕ) → Option (List ℕ) → M → M → List ℕ → ℕ → Status → Type 0
LineStops gives refuses held_old held_new old new line number (Script at column kind) =
    Appends held_old held_new [] × (at ≡ number) × refuses old line column kind × (new ≡ old)
LineStops gives refuses held_old held_new old new line number SinkFault =
    (part : List ℕ) × (missing : List ℕ) × (answered : List (List ℕ)) × gives old line (part ++ missing) answered new × (missing ≢ [])
    × Appends held_old held_new part
LineStops gives refuses held_old held_new old new line number BayFault = Appends held_old held_new [] × (new ≡ old)
LineStops gives refuses held_old held_new old new line number Memory = Appends held_old held_new [] × (new ≡ old)
LineStops gives refuses held_old held_new old new line number Done = ⊥
LineStops gives refuses held_old held_new old new line number Usage = ⊥
LineStops gives refuses held_old held_new old new line number SourceFault = ⊥
LineStops gives refuses held_old held_new old new line number TooLong = ⊥

-- what is kept between two bytes: the state of the machine, the line under way, and how many lines and bytes came before
pub record Place (M : Type 0) : Type 0 where
  pub state : M
  pub pending : List ℕ
  pub lines : ℕ
  pub bytes : ℕ

-- after these lines and bytes, with this line under way, a byte more passes no limit
pub record HasRoom (pending : List ℕ) (lines bytes : ℕ) : Type 0 where
  pub size : bytes < 16777216
  pub count : pending ≡ [] → lines < 200000

-- after these lines and bytes, with this line under way, a byte more passes a limit
abbrev pub IsFull : List ℕ → ℕ → ℕ → Type 0
IsFull pending lines bytes = (16777216 ≤ bytes) ⊎ ((pending ≡ []) × (200000 ≤ lines))

-- All whole lines of the bytes read ran, with this report and these answers of the outside, and the rest is kept.
pub record Stands {M : Type 0} (gives : Gives M) (start : M) (read report : List ℕ) (outside : List (List ℕ)) (place : Place M) : Type 0 where
  pub front : List ℕ
  pub ran : Ran gives start false read front place.pending report outside place.state
  pub partial : HasNoNewline place.pending
  pub within : IsWithinLimits read
  pub count : place.lines ≡ length (lines front)
  pub size : place.bytes ≡ length read

-- These further bytes took the run from old to new, and the sink got what they gave.
abbrev pub Advances : {M : Type 0} → Gives M → Option (List ℕ) → Option (List ℕ) → Place M → List ℕ → Place M → Type 0
Advances {M} gives held_old held_new old bytes new =
    (text : List ℕ) × (answered : List (List ℕ)) × Appends held_old held_new text
    × ((start : M) (read report : List ℕ) (outside : List (List ℕ)) → Stands gives start read report outside old
    → Stands gives start (read ++ bytes) (report ++ text) (outside ++ answered) new)

-- The statuses that end a run among these bytes. Where the sink refused, at most so many bytes are missing of the replies to the
-- lines before the last.
abbrev pub StopsAmong : {M : Type 0} → Gives M → Refuses M → ℕ → M → M → List ℕ → List ℕ → List (List ℕ) → Status → Type 0
StopsAmong gives refuses most start new read written outside Done = ⊥
StopsAmong gives refuses most start new read written outside Usage = ⊥
StopsAmong gives refuses most start new read written outside SourceFault = ⊥
StopsAmong gives refuses most start new read written outside (Script line column kind) = Answers gives refuses start new false read written outside (Script line column kind)
StopsAmong gives refuses most start new read written outside SinkFault =
    (front : List ℕ) × (rest : List ℕ) × (broke : BrokeOff gives start false read front rest written outside new) × (length broke.report ≤ length written + most)
StopsAmong gives refuses most start new read written outside TooLong = Answers gives refuses start new false read written outside TooLong
StopsAmong gives refuses most start new read written outside BayFault = Answers gives refuses start new false read written outside BayFault
StopsAmong gives refuses most start new read written outside Memory = Answers gives refuses start new false read written outside Memory

-- The run ended among these further bytes, with the machine at new after the last line that ran. Where the sink refused, at most so many bytes are missing of
-- the replies to the lines before the last.
abbrev pub Stops : {M : Type 0} → Gives M → Refuses M → ℕ → Option (List ℕ) → Option (List ℕ) → Place M → M → List ℕ → Status → Type 0
Stops {M} gives refuses most held_old held_new old new bytes status =
    (text : List ℕ) × (answered : List (List ℕ)) × Appends held_old held_new text
    × ((start : M) (read report : List ℕ) (outside : List (List ℕ)) → Stands gives start read report outside old
    → StopsAmong gives refuses most start new (read ++ bytes) (report ++ text) (outside ++ answered) status)

-- The input ended here, and the machine was at new after the last line that ran.
abbrev pub Ends : {M : Type 0} → Gives M → Refuses M → Option (List ℕ) → Option (List ℕ) → Place M → M → Status → Type 0
Ends {M} gives refuses held_old held_new old new status =
    (text : List ℕ) × (answered : List (List ℕ)) × Appends held_old held_new text
    × ((start : M) (read report : List ℕ) (outside : List (List ℕ)) → Stands gives start read report outside old
    → Answers gives refuses start new true read (report ++ text) (outside ++ answered) status)

-- A run under way: what it took from the source is run, but for the line under way, and its report is in the sink.
abbrev pub Goes : {M : Type 0} → Gives M → M → Option (List ℕ) → Option (List ℕ) → Option (List ℕ) → Option (List ℕ) → Place M → Type 0
Goes gives start left_old left_new held_old held_new place =
    (read : List ℕ) × (report : List ℕ) × (outside : List (List ℕ)) × Consumes left_old left_new read × Appends held_old held_new report
    × Stands gives start read report outside place
