-- How a client's calls for a chunk end, in the words of its history.
use Rattle.std.specs.Prelude.{◌≡◌, ℕ, ◌==◌, if◌then◌else◌, List, [], map, Option, Some, None, Result, Ok, Err, ⊤}
use Rattle.coda_certify.specs.declared.verdict.Verdict.{Verdict}
use Rattle.coda_certify.specs.declared.verdict.Verdict.TheVariants as verdict
use Rattle.coda_cml.specs.declared.frozen.Frozen.{Frozen}
use Rattle.coda_disk.specs.Told.{Told}
use Rattle.coda_journal.specs.declared.header.Header.{Header}
use Rattle.coda_plain.specs.Cell.{ClientEntry, Did}
use Rattle.coda_plain.specs.Deeds.{Deed}
use Rattle.coda_record.specs.declared.answer.Answer.{Answer}
use Rattle.coda_record.specs.declared.answer.Answer.TheVariants as answer
use Rattle.coda_venus.specs.declared.refused.Refused.{Refused as VenusRefused}
use Rattle.coda_venus.specs.declared.refused.Refused.TheVariants as venus
use Rattle.coda_venus.specs.declared.venus.Venus.{Venus}
use Rattle.coda_cell.specs.Sending.{Freezing, Taking}
use Rattle.coda_cell.specs.Refused.{Refused}
use Rattle.coda_matching.specs.Clients.{Ends}

-- what a client does on a volume, as entries of its history
abbrev pub entries_on : ℕ → List Deed → List ClientEntry
entries_on volume deeds = map (Did volume) deeds

-- ---- a freeze

-- the number of the chunk that is frozen, for its own server
abbrev pub number_for : Frozen → ℕ → Result ℕ VenusRefused
number_for chunk server = if chunk.home == server then Ok chunk.number else Err (venus.Frozen chunk.number chunk.home)

-- what a client does for a chunk that is to go
abbrev pub deeds_for : Result Freezing Refused → List Deed
deeds_for (Ok f) = f.deeds
deeds_for (Err why) = []

-- what is said of it: its number
abbrev pub number_said : Result Freezing Refused → Result ℕ Refused
number_said (Ok f) = Ok f.number
number_said (Err why) = Err why

-- a client with this history was to freeze a chunk of a volume so, and so it ended
abbrev pub FreezingEnds : {D : Type 0} → (D → Told) → Header → List ClientEntry → ℕ → Result Freezing Refused → Venus D → Result ℕ VenusRefused → Type 0
FreezingEnds told header history volume wanted new result = Ends told header history (entries_on volume (deeds_for wanted)) (number_said wanted) (λ a b. a ≡ b) new result

-- ---- an answer

-- the verdict in an answer, if it has one
abbrev pub verdict_in : Answer → Option Verdict
verdict_in answer.Applied = Some verdict.Applied
verdict_in (answer.Conflict number why) = Some (verdict.Conflict number why)
verdict_in (answer.Behind last) = None
verdict_in (answer.Old last) = None

-- the frozen chunk must have this number
abbrev pub found_frozen : Option Frozen → ℕ → Result ⊤ VenusRefused
found_frozen None number = Err (venus.NotFrozen number)
found_frozen (Some chunk) number = if chunk.number == number then Ok tt else Err (venus.WrongNumber chunk.number number)

-- what a client does by an answer
abbrev pub deeds_by : Result Taking Refused → List Deed
deeds_by (Ok taking) = taking.deeds
deeds_by (Err why) = []

-- what is said of it: nothing, unless it is refused
abbrev pub nothing_said : Result Taking Refused → Result ⊤ Refused
nothing_said (Ok taking) = Ok tt
nothing_said (Err why) = Err why

-- a client with this history was to take an answer to a chunk of a volume so, and so it ended
abbrev pub TakingEnds : {D : Type 0} → (D → Told) → Header → List ClientEntry → ℕ → Result Taking Refused → Venus D → Result ⊤ VenusRefused → Type 0
TakingEnds told header history volume wanted new result = Ends told header history (entries_on volume (deeds_by wanted)) (nothing_said wanted) (λ a b. a ≡ b) new result
