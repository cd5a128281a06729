-- What a run of a script reads and writes, and how it ends.
use Rattle.std.specs.Prelude.{◌≡◌, ◌≢◌, ℕ, ◌+◌, ◌≤◌, ◌⊎◌, Bool, true, false, IsTrue, List, [], ◌∷◌, ◌++◌, length, Option, None, Some}
use Rattle.std.specs.Io.KnownBytes.{Appends, Consumes}
use Rattle.std.specs.Str.Lines.{lines, strip_carriage_return}
use Rattle.coda_engine.specs.Lines.{HasNoNewline, IsWholeLines, IsWithinLimits}
use Rattle.coda_engine.specs.Machine.{Gives, Refuses}
use Rattle.coda_engine.specs.declared.status.Status.{Status}
use Rattle.coda_engine.specs.declared.status.Status.TheVariants.{Done, Usage, Script, SourceFault, SinkFault, TooLong, BayFault, Memory}

-- From old, the machine may run these lines in order, with this report and these answers of the outside, and be new then.
abbrev pub Runs : {M : Type 0} → Gives M → M → List (List ℕ) → List ℕ → List (List ℕ) → M → Type 0
Runs gives old [] report outside new = (report ≡ []) × (outside ≡ []) × (new ≡ old)
Runs {M} gives old (line ∷ more) report outside new =
    (mid : M) × (text : List ℕ) × (rest : List ℕ) × (answered : List (List ℕ)) × (later : List (List ℕ))
    × gives old line text answered mid × Runs gives mid more rest later new × (report ≡ text ++ rest) × (outside ≡ answered ++ later)

-- Of the bytes read, those in front are whole lines within the limits, and the machine ran them with this report and
-- these answers of the outside. Where the bytes read are all there are, the last line needs no newline.
pub record Ran {M : Type 0} (gives : Gives M) (start : M) (all : Bool) (read front rest report : List ℕ) (outside : List (List ℕ)) (state : M) : Type 0 where
  pub split : read ≡ front ++ rest
  pub whole : IsWholeLines front ⊎ (IsTrue all × (rest ≡ []))
  pub within : IsWithinLimits front
  pub runs : Runs gives start (lines front) report outside state

-- Behind the front comes this line, within the limits: with its newline, or closed by the end of the input.
abbrev pub IsNext : Bool → List ℕ → List ℕ → List ℕ → Type 0
IsNext all front rest line =
    ((stands : List ℕ) × (more : List ℕ) × (rest ≡ stands ++ 10 ∷ more) × HasNoNewline stands
    × IsWithinLimits (front ++ stands ++ 10 ∷ []) × (line ≡ strip_carriage_return stands))
    ⊎ (IsTrue all × HasNoNewline rest × (rest ≢ []) × IsWithinLimits (front ++ rest) × (line ≡ rest))

-- Behind the front comes a byte that passes a limit, in the line that is under way.
abbrev pub IsPassed : List ℕ → List ℕ → Type 0
IsPassed front rest =
    (part : List ℕ) × (byte : ℕ) × (more : List ℕ) × (rest ≡ part ++ byte ∷ more) × HasNoNewline part
    × IsWithinLimits (front ++ part) × (¬ IsWithinLimits (front ++ part ++ byte ∷ []))

-- the text is a front of the whole
abbrev pub IsPrefix : List ℕ → List ℕ → Type 0
IsPrefix text whole = (rest : List ℕ) × (whole ≡ text ++ rest)

-- What was written is a prefix of the report of whole lines that were read, and the machine was in this state after them.
abbrev pub IsCutShort : {M : Type 0} → Gives M → M → M → Bool → List ℕ → List ℕ → List (List ℕ) → Type 0
IsCutShort gives start new all read written outside =
    (front : List ℕ) × (rest : List ℕ) × (report : List ℕ) × Ran gives start all read front rest report outside new × IsPrefix written report

-- Of the bytes read, those in front are whole lines within the limits, and the machine ran them. Of their report only a front was
-- written; of the replies to the lines before the last at most 64 KiB are missing, which were gathered.
pub record BrokeOff {M : Type 0} (gives : Gives M) (start : M) (all : Bool) (read front rest written : List ℕ) (outside : List (List ℕ)) (new : M) : Type 0 where
  pub split : read ≡ front ++ rest
  pub whole : IsWholeLines front ⊎ (IsTrue all × (rest ≡ []))
  pub within : IsWithinLimits front
  pub before : List (List ℕ)
  pub line : List ℕ
  pub same : lines front ≡ before ++ line ∷ []
  pub report : List ℕ
  pub answers : List (List ℕ)
  pub state : M
  pub runs : Runs gives start before report answers state
  pub text : List ℕ
  pub answered : List (List ℕ)
  pub did : gives state line text answered new
  pub missing : List ℕ
  pub some : missing ≢ []
  pub wrote : report ++ text ≡ written ++ missing
  pub late : length report ≤ length written + 65536
  pub said : outside ≡ answers ++ answered

-- A run from start that was at new after the last line that ran, read these bytes, which may be all there are, wrote these, and had
-- these answers of the outside may have this status.
abbrev pub Answers : {M : Type 0} → Gives M → Refuses M → M → M → Bool → List ℕ → List ℕ → List (List ℕ) → Status → Type 0
-- every line ran, and the whole report was written
Answers gives refuses start new all read written outside Done = IsTrue all × Ran gives start all read read [] written outside new
-- all lines before the first bad one ran
Answers gives refuses start new all read written outside (Script line column kind) =
    (front : List ℕ) × (rest : List ℕ) × (bad : List ℕ) × Ran gives start false read front rest written outside new
    × IsNext all front rest bad × refuses new bad column kind × (line ≡ length (lines front) + 1)
-- all lines that were whole before the limit was passed ran
Answers gives refuses start new all read written outside TooLong =
    (front : List ℕ) × (rest : List ℕ) × Ran gives start false read front rest written outside new × IsPassed front rest
-- all whole lines ran
Answers gives refuses start new all read written outside SourceFault =
    (front : List ℕ) × (rest : List ℕ) × Ran gives start false read front rest written outside new × HasNoNewline rest × IsWithinLimits read
-- some whole lines ran, and not all of their report was written
Answers gives refuses start new all read written outside SinkFault =
    (front : List ℕ) × (rest : List ℕ) × BrokeOff gives start all read front rest written outside new
-- all lines before the one at which the bay was at fault ran, and all of their report was written
Answers gives refuses start new all read written outside BayFault =
    (front : List ℕ) × (rest : List ℕ) × (line : List ℕ) × Ran gives start false read front rest written outside new × IsNext all front rest line
-- some whole lines ran, and a prefix of their report was written
Answers gives refuses start new all read written outside Memory = IsCutShort gives start new all read written outside
-- a run has other statuses
Answers gives refuses start new all read written outside Usage = ⊥

-- nothing is left, or it isn't told
abbrev pub is_at_end : Option (List ℕ) → Bool
is_at_end None = true
is_at_end (Some []) = true
is_at_end (Some (b ∷ bs)) = false

-- What a run from start that was at new after the last line that ran took from the source and gave to the sink, where these tell
-- it, and what the outside answered, fit its status; and it took no byte behind the first that passes the limit.
abbrev pub Reports : {M : Type 0} → Gives M → Refuses M → M → M → Option (List ℕ) → Option (List ℕ) → Option (List ℕ) → Option (List ℕ) → List (List ℕ) → Status → Type 0
Reports gives refuses start new left_old left_new held_old held_new outside status =
    (read : List ℕ) × (written : List ℕ) × Consumes left_old left_new read × Appends held_old held_new written
    × Answers gives refuses start new (is_at_end left_new) read written outside status × (length read ≤ 16777217)
