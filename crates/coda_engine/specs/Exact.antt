-- When the statuses must come.
use Rattle.std.specs.Prelude.{◌≡◌, ℕ, Bool, IsTrue, List, [], ◌++◌}
use Rattle.std.specs.Str.Lines.{lines}
use Rattle.coda_engine.specs.Lines.{IsWithinLimits}
use Rattle.coda_engine.specs.Machine.{Gives, Refuses}
use Rattle.coda_engine.specs.Run.{Runs, Answers}
use Rattle.coda_engine.specs.declared.status.Kind.{Kind}
use Rattle.coda_engine.specs.declared.status.Status.{Status}
use Rattle.coda_engine.specs.declared.status.Status.TheVariants.{Done, Usage, Script, SourceFault, SinkFault, TooLong, BayFault, Memory}

-- States that are alike refuse the same lines: a state is alike itself; states that are alike stay so by one line; a line that
-- one of them may run isn't refused in the other; and what both refuse they refuse at one column for one reason.
pub record TellsApart {M : Type 0} (Alike : M → M → Type 0) (gives : Gives M) (refuses : Refuses M) : Type 0 where
  pub itself : (a : M) → Alike a a
  pub kept : (a b a' b' : M) (line text text' : List ℕ) (outside outside' : List (List ℕ)) → Alike a b → gives a line text outside a' → gives b line text' outside' b' → Alike a' b'
  pub apart : (a b a' : M) (line text : List ℕ) (outside : List (List ℕ)) (column : ℕ) (kind : Kind) → Alike a b → gives a line text outside a' → refuses b line column kind → ⊥
  pub single : (a b : M) (line : List ℕ) (column column' : ℕ) (kind kind' : Kind) → Alike a b → refuses a line column kind → refuses b line column' kind' → (column ≡ column') × (kind ≡ kind')

-- The script is within the limits, and from start the machine may run every line of it.
abbrev pub IsClean : {M : Type 0} → Gives M → M → List ℕ → Type 0
IsClean {M} gives start script =
    IsWithinLimits script × ((report : List ℕ) × (outside : List (List ℕ)) × (state : M) × Runs gives start (lines script) report outside state)

-- the statuses that a clean script may have
abbrev pub IsDoneOrFault : Status → Type 0
IsDoneOrFault Done = Unit {0}
IsDoneOrFault SourceFault = Unit {0}
IsDoneOrFault SinkFault = Unit {0}
IsDoneOrFault BayFault = Unit {0}
IsDoneOrFault Memory = Unit {0}
IsDoneOrFault Usage = ⊥
IsDoneOrFault TooLong = ⊥
IsDoneOrFault (Script line column kind) = ⊥

-- No run from start' of a script that is clean from start, which may be read in part, ends as bad or as too long.
abbrev pub CleanScriptsRun : {M : Type 0} → Gives M → Refuses M → M → M → Type 0
CleanScriptsRun {M} gives refuses start start' =
    (script read rest written : List ℕ) (outside : List (List ℕ)) (new : M) (all : Bool) (status : Status) → script ≡ read ++ rest
    → (IsTrue all → rest ≡ []) → IsClean gives start script → Answers gives refuses start' new all read written outside status
    → IsDoneOrFault status

-- the statuses that the script alone decides
abbrev pub IsByScript : Status → Type 0
IsByScript Done = Unit {0}
IsByScript TooLong = Unit {0}
IsByScript (Script line column kind) = Unit {0}
IsByScript SourceFault = ⊥
IsByScript SinkFault = ⊥
IsByScript BayFault = ⊥
IsByScript Memory = ⊥
IsByScript Usage = ⊥

-- Two runs of one script, from start and from start', that no fault and no want of memory ended have one status, however the
-- script was cut into pieces.
abbrev pub OneStatus : {M : Type 0} → Gives M → Refuses M → M → M → Type 0
OneStatus {M} gives refuses start start' =
    (script read rest written read' rest' written' : List ℕ) (outside outside' : List (List ℕ)) (new new' : M) (all all' : Bool) (status status' : Status)
    → script ≡ read ++ rest → (IsTrue all → rest ≡ []) → Answers gives refuses start new all read written outside status → IsByScript status
    → script ≡ read' ++ rest' → (IsTrue all' → rest' ≡ []) → Answers gives refuses start' new' all' read' written' outside' status' → IsByScript status'
    → status ≡ status'

-- the first law, of a machine with a test that tells its states apart
abbrev pub CleanScriptsRunAt : {M : Type 0} → Gives M → Refuses M → Type 0
CleanScriptsRunAt {M} gives refuses =
    (alike : M → M → Bool) → TellsApart (λ a b. IsTrue (alike a b)) gives refuses → (start : M) → CleanScriptsRun gives refuses start start

-- the second law, of a machine with a test that tells its states apart
abbrev pub OneStatusAt : {M : Type 0} → Gives M → Refuses M → Type 0
OneStatusAt {M} gives refuses =
    (alike : M → M → Bool) → TellsApart (λ a b. IsTrue (alike a b)) gives refuses → (start : M) → OneStatus gives refuses start start
