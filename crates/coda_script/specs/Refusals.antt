-- The numbers and names of refusals.
use Rattle.std.specs.Prelude.{codes, ℕ, List}
use Rattle.coda_script.specs.declared.refusal.Refusal.{Refusal}
use Rattle.coda_script.specs.declared.refusal.Refusal.TheVariants as refusals

-- the number of a refusal
abbrev pub number_of_refusal : Refusal → ℕ
number_of_refusal refusals.BadName = 1
number_of_refusal refusals.BadWord = 2
number_of_refusal refusals.NotFound = 3
number_of_refusal refusals.NotDir = 4
number_of_refusal refusals.LogFull = 5
number_of_refusal refusals.Nothing = 6
number_of_refusal refusals.Young = 7
number_of_refusal refusals.Frozen = 8
number_of_refusal refusals.NotFrozen = 9
number_of_refusal refusals.WrongNumber = 10
number_of_refusal refusals.BadRecord = 11
number_of_refusal refusals.BadMessage = 12
number_of_refusal refusals.JournalFull = 13
number_of_refusal refusals.Foreign = 14
number_of_refusal refusals.CacheFull = 15
number_of_refusal refusals.NoEntry = 16
number_of_refusal refusals.HdbFull = 17
number_of_refusal refusals.Exists = 18
number_of_refusal refusals.IsDir = 19
number_of_refusal refusals.NotEmpty = 20
number_of_refusal refusals.Loop = 21
number_of_refusal refusals.Miss = 22
number_of_refusal refusals.Down = 23
number_of_refusal refusals.InConflict = 24
number_of_refusal refusals.TooBig = 25
number_of_refusal refusals.Behind = 26
number_of_refusal refusals.Old = 27
number_of_refusal refusals.NotMarked = 28
number_of_refusal refusals.Unreachable = 29
number_of_refusal refusals.NoMessage = 30
number_of_refusal refusals.LinkDown = 31
number_of_refusal refusals.NoSuchActor = 32
number_of_refusal refusals.AlreadyThere = 33
number_of_refusal refusals.BadLine = 34
number_of_refusal refusals.TooMany = 35
number_of_refusal refusals.Busy = 36
number_of_refusal refusals.CellFull = 40
number_of_refusal refusals.DiskFault = 41
number_of_refusal refusals.Again = 42
number_of_refusal refusals.Need = 43
number_of_refusal refusals.NotFile = 44

-- the name of a refusal: in lower case, with dashes
abbrev pub refusal_name : Refusal → List ℕ
refusal_name refusals.BadName = codes "bad-name"
refusal_name refusals.BadWord = codes "bad-word"
refusal_name refusals.NotFound = codes "not-found"
refusal_name refusals.NotDir = codes "not-dir"
refusal_name refusals.LogFull = codes "log-full"
refusal_name refusals.Nothing = codes "nothing"
refusal_name refusals.Young = codes "young"
refusal_name refusals.Frozen = codes "frozen"
refusal_name refusals.NotFrozen = codes "not-frozen"
refusal_name refusals.WrongNumber = codes "wrong-number"
refusal_name refusals.BadRecord = codes "bad-record"
refusal_name refusals.BadMessage = codes "bad-message"
refusal_name refusals.JournalFull = codes "journal-full"
refusal_name refusals.Foreign = codes "foreign"
refusal_name refusals.CacheFull = codes "cache-full"
refusal_name refusals.NoEntry = codes "no-entry"
refusal_name refusals.HdbFull = codes "hdb-full"
refusal_name refusals.Exists = codes "exists"
refusal_name refusals.IsDir = codes "is-dir"
refusal_name refusals.NotEmpty = codes "not-empty"
refusal_name refusals.Loop = codes "loop"
refusal_name refusals.Miss = codes "miss"
refusal_name refusals.Down = codes "down"
refusal_name refusals.InConflict = codes "in-conflict"
refusal_name refusals.TooBig = codes "too-big"
refusal_name refusals.Behind = codes "behind"
refusal_name refusals.Old = codes "old"
refusal_name refusals.NotMarked = codes "not-marked"
refusal_name refusals.Unreachable = codes "unreachable"
refusal_name refusals.NoMessage = codes "no-message"
refusal_name refusals.LinkDown = codes "link-down"
refusal_name refusals.NoSuchActor = codes "no-such-actor"
refusal_name refusals.AlreadyThere = codes "already-there"
refusal_name refusals.BadLine = codes "bad-line"
refusal_name refusals.TooMany = codes "too-many"
refusal_name refusals.Busy = codes "busy"
refusal_name refusals.CellFull = codes "cell-full"
refusal_name refusals.DiskFault = codes "disk-fault"
refusal_name refusals.Again = codes "again"
refusal_name refusals.Need = codes "need"
refusal_name refusals.NotFile = codes "not-file"
