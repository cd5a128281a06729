-- What a refusal is in a reply: its number and name, and what it names.
use Rattle.std.specs.Prelude.{◌≡◌, ◌⊎◌, Bool, true, false, List, [], ◌∷◌, Result, Err}
use Rattle.coda_cml.specs.declared.fault.FreezeFault.{FreezeFault}
use Rattle.coda_cml.specs.declared.fault.FreezeFault.TheVariants as freeze
use Rattle.coda_cml.specs.declared.fault.SettleFault.{SettleFault}
use Rattle.coda_cml.specs.declared.fault.SettleFault.TheVariants as settle
use Rattle.coda_letters.specs.declared.fault.LetterFault.{LetterFault}
use Rattle.coda_letters.specs.declared.fault.LetterFault.TheVariants as letter
use Rattle.coda_script.specs.declared.refusal.Refusal.{Refusal}
use Rattle.coda_script.specs.declared.refusal.Refusal.TheVariants as named
use Rattle.coda_script.specs.declared.reply.Arg.{Arg}
use Rattle.coda_script.specs.declared.reply.Arg.TheVariants.{Number, Object}
use Rattle.coda_script.specs.declared.reply.Reply.{Reply}
use Rattle.coda_script.specs.declared.reply.Reply.TheVariants as reply
use Rattle.coda_venus.specs.declared.refused.Refused.{Refused as ClientRefused}
use Rattle.coda_venus.specs.declared.refused.Refused.TheVariants as client
use Rattle.coda_cell.specs.Refused.{Refused}
use Rattle.coda_cell.specs.Refused as refused

-- the refusal as it is numbered and named; want of memory has no number, and no line is answered so
abbrev pub refusal_of : Refused → Refusal
refusal_of refused.NotFound = named.NotFound
refusal_of refused.NotDir = named.NotDir
refusal_of refused.LogFull = named.LogFull
refusal_of refused.Nothing = named.Nothing
refusal_of (refused.Young age window) = named.Young
refusal_of (refused.Frozen number home) = named.Frozen
refusal_of (refused.NotFrozen number) = named.NotFrozen
refusal_of (refused.WrongNumber kept number) = named.WrongNumber
refusal_of refused.JournalFull = named.JournalFull
refusal_of refused.Exists = named.Exists
refusal_of refused.IsDir = named.IsDir
refusal_of refused.NotEmpty = named.NotEmpty
refusal_of refused.Loop = named.Loop
refusal_of (refused.Miss fid) = named.Miss
refusal_of (refused.TooBig length) = named.TooBig
refusal_of refused.LinkDown = named.LinkDown
refusal_of (refused.NoSuchActor number) = named.NoSuchActor
refusal_of refused.AlreadyThere = named.AlreadyThere
refusal_of refused.CellFull = named.CellFull
refusal_of refused.NotFile = named.NotFile
refusal_of (refused.NoMessage number) = named.NoMessage
refusal_of (refused.BadMessage at) = named.BadMessage
refusal_of refused.Memory = named.CellFull

-- what the refusal names, in the order in which it is printed
abbrev pub args_of : Refused → List Arg
args_of refused.NotFound = []
args_of refused.NotDir = []
args_of refused.LogFull = []
args_of refused.Nothing = []
args_of (refused.Young age window) = Number age ∷ Number window ∷ []
args_of (refused.Frozen number home) = Number number ∷ Number home ∷ []
args_of (refused.NotFrozen number) = Number number ∷ []
args_of (refused.WrongNumber kept number) = Number kept ∷ Number number ∷ []
args_of refused.JournalFull = []
args_of refused.Exists = []
args_of refused.IsDir = []
args_of refused.NotEmpty = []
args_of refused.Loop = []
args_of (refused.Miss fid) = Object fid ∷ []
args_of (refused.TooBig length) = Number length ∷ []
args_of refused.LinkDown = []
args_of (refused.NoSuchActor number) = Number number ∷ []
args_of refused.AlreadyThere = []
args_of refused.CellFull = []
args_of refused.NotFile = []
args_of (refused.NoMessage number) = Number number ∷ []
args_of (refused.BadMessage at) = Number at ∷ []
args_of refused.Memory = []

-- the refusal as a reply
abbrev pub refusal : Refused → Reply
refusal why = reply.Refused (refusal_of why) (args_of why)

-- Why a client refuses a call, as a line is refused for it: what it needs is missing. That it is down or its disk failed no client of a
-- cell says.
abbrev pub client_refused_as : ClientRefused → Refused
client_refused_as client.Down = refused.Memory
client_refused_as (client.TooBig length) = refused.TooBig length
client_refused_as client.NotFound = refused.NotFound
client_refused_as client.NotDir = refused.NotDir
client_refused_as client.Exists = refused.Exists
client_refused_as client.IsDir = refused.IsDir
client_refused_as client.NotFile = refused.NotFile
client_refused_as client.NotEmpty = refused.NotEmpty
client_refused_as client.Loop = refused.Loop
client_refused_as (client.Need fid) = refused.Miss fid
client_refused_as client.LogFull = refused.LogFull
client_refused_as client.JournalFull = refused.JournalFull
client_refused_as client.DiskFault = refused.Memory
client_refused_as (client.Frozen number home) = refused.Frozen number home
client_refused_as client.Nothing = refused.Nothing
client_refused_as (client.Young age window) = refused.Young age window
client_refused_as (client.NotFrozen number) = refused.NotFrozen number
client_refused_as (client.WrongNumber frozen number) = refused.WrongNumber frozen number
client_refused_as client.Memory = refused.Memory

-- why a log freezes nothing, as a line is refused for it
abbrev pub refused_as : FreezeFault → Refused
refused_as (freeze.Frozen number home) = refused.Frozen number home
refused_as freeze.Nothing = refused.Nothing
refused_as (freeze.Young age window) = refused.Young age window
refused_as freeze.Memory = refused.Memory

-- why an answer isn't taken, as a line is refused for it
abbrev pub settle_refused_as : SettleFault → Refused
settle_refused_as (settle.NotFrozen number) = refused.NotFrozen number
settle_refused_as (settle.WrongNumber kept number) = refused.WrongNumber kept number
settle_refused_as settle.Memory = refused.Memory

-- whether an object is missing
abbrev pub is_miss : Refused → Bool
is_miss (refused.Miss fid) = true
is_miss _ = false

-- an answer is this one, or there was no memory for it
abbrev pub OrMemory : {A : Type 0} → Result A Refused → Result A Refused → Type 0
OrMemory answer wanted = (answer ≡ Err refused.Memory) ⊎ (answer ≡ wanted)

-- why a letter isn't delivered or lost, as a line is refused for it
abbrev pub letter_refused_as : LetterFault → Refused
letter_refused_as (letter.NoMessage number) = refused.NoMessage number
letter_refused_as letter.LinkDown = refused.LinkDown
letter_refused_as (letter.BadMessage at) = refused.BadMessage at
letter_refused_as letter.Memory = refused.Memory
