-- The ranges of what lines name.
use Rattle.std.specs.Prelude.{◌≡◌, ℕ, ◌+◌, ◌≤◌, List, [], ◌∷◌, length, IfSome, is_some, true, ◌||◌}
use Rattle.coda_fid.specs.Name.{is_name}
use Rattle.coda_fid.specs.Path.{path_text, ArePathNames}
use Rattle.coda_text.specs.Printed.{AreBytes}
use Rattle.coda_script.specs.declared.line.Content.{Content}
use Rattle.coda_script.specs.declared.line.Content.TheVariants.{Text, Fill}
use Rattle.coda_script.specs.declared.line.Task.{Task as ATask}
use Rattle.coda_script.specs.declared.line.Task.TheVariants as tasks
use Rattle.coda_script.specs.declared.line.Line.{Line}
use Rattle.coda_script.specs.declared.line.Line.TheVariants as lines

-- ---- numbers

abbrev pub IsBetween : ℕ → ℕ → ℕ → Type 0
IsBetween low high n = (low ≤ n) × (n ≤ high)

abbrev pub IsClient : ℕ → Type 0
IsClient = IsBetween 1 255

abbrev pub IsVolume : ℕ → Type 0
IsVolume = IsBetween 1 4294967295

abbrev pub IsServer : ℕ → Type 0
IsServer = IsBetween 1 8

-- any number below 2^64
abbrev pub IsNumber : ℕ → Type 0
IsNumber = IsBetween 0 18446744073709551615

-- an owner: any number below 2^32
abbrev pub IsOwner : ℕ → Type 0
IsOwner = IsBetween 0 4294967295

-- a mode: at most 7777 in octal
abbrev pub IsMode : ℕ → Type 0
IsMode mode = mode ≤ 4095

-- servers up to 8, each above the one before it, the first above that one
abbrev pub AreServersAbove : ℕ → List ℕ → Type 0
AreServersAbove last [] = Unit {0}
AreServersAbove last (s ∷ ss) = IsBetween (last + 1) 8 s × AreServersAbove s ss

-- increasing servers, one at least
abbrev pub AreServers : List ℕ → Type 0
AreServers [] = ⊥
AreServers (s ∷ ss) = IsServer s × AreServersAbove s ss

-- increasing servers, two at least
abbrev pub AreTwoServers : List ℕ → Type 0
AreTwoServers [] = ⊥
AreTwoServers (s ∷ []) = ⊥
AreTwoServers (s ∷ t ∷ ss) = IsServer s × IsBetween (s + 1) 8 t × AreServersAbove t ss

-- ---- lines

-- content that fills: at most 2,000,000 times a byte
abbrev pub ContentInRange : Content → Type 0
ContentInRange (Text bytes) = Unit {0}
ContentInRange (Fill times byte) = IsBetween 0 2000000 times × IsBetween 0 255 byte

-- what a client does names things in their ranges
abbrev pub TaskInRange : ATask → Type 0
TaskInRange (tasks.Create c v p mode owner) = IsClient c × IsVolume v × ArePathNames p × IfSome mode IsMode × IfSome owner IsOwner
TaskInRange (tasks.Mkdir c v p mode owner) = IsClient c × IsVolume v × ArePathNames p × IfSome mode IsMode × IfSome owner IsOwner
TaskInRange (tasks.Symlink c v p target) = IsClient c × IsVolume v × ArePathNames p × IsBetween 1 1024 (length target)
TaskInRange (tasks.Store c v p content) = IsClient c × IsVolume v × ArePathNames p × ContentInRange content
TaskInRange (tasks.Setattr c v p attrs) =
    IsClient c × IsVolume v × ArePathNames p × IfSome attrs.mode IsMode × IfSome attrs.owner IsOwner × IfSome attrs.mtime IsNumber
    × ((is_some attrs.mode || (is_some attrs.owner || is_some attrs.mtime)) ≡ true)
TaskInRange (tasks.Remove c v p) = IsClient c × IsVolume v × ArePathNames p
TaskInRange (tasks.Rmdir c v p) = IsClient c × IsVolume v × ArePathNames p
TaskInRange (tasks.Rename c v p q) = IsClient c × IsVolume v × ArePathNames p × ArePathNames q
TaskInRange (tasks.Hardlink c v p q) = IsClient c × IsVolume v × ArePathNames p × ArePathNames q
TaskInRange (tasks.Read c v p) = IsClient c × IsVolume v × ArePathNames p
TaskInRange (tasks.List c v p) = IsClient c × IsVolume v × ArePathNames p
TaskInRange (tasks.Drain c v s window) = IsClient c × IsVolume v × IsServer s × IfSome window IsNumber
TaskInRange (tasks.Refresh c v s) = IsClient c × IsVolume v × IsServer s
TaskInRange (tasks.Giveup c v) = IsClient c × IsVolume v

-- a line names things in their ranges
abbrev pub InRange : Line → Type 0
InRange (lines.Volume v ss area) = IsVolume v × AreServers ss × IfSome area (IsBetween 1 64)
InRange (lines.Client c blocks area) = IsClient c × IsBetween 1 32768 blocks × IfSome area (IsBetween 1 64)
InRange (lines.Link c s strength) = IsClient c × IsServer s
InRange (lines.Tick seconds) = IsBetween 0 1000000000 seconds
InRange (lines.Task task) = TaskInRange task
InRange (lines.At thread task) = IsBetween 1 8 thread × TaskInRange task
InRange (lines.HoardAdd c v p priority expansion) = IsClient c × IsVolume v × ArePathNames p × IsBetween 1 1000 priority
InRange (lines.HoardRemove c v p) = IsClient c × IsVolume v × ArePathNames p
InRange (lines.HoardClear c) = IsClient c
InRange (lines.HoardList c) = IsClient c
InRange (lines.Walk c v) = IsClient c × IsVolume v
InRange (lines.Send c v s window) = IsClient c × IsVolume v × IsServer s × IfSome window IsNumber
InRange (lines.Deliver m) = IsNumber m
InRange (lines.Lose m) = IsNumber m
InRange (lines.Breaks s v) = IsServer s × IsVolume v
InRange (lines.CrashClient c n) = IsClient c × IsNumber n
InRange (lines.CrashReplica s v n) = IsServer s × IsVolume v × IsNumber n
InRange (lines.RecoverClient c) = IsClient c
InRange (lines.RecoverReplica s v) = IsServer s × IsVolume v
InRange (lines.ArmClient c k) = IsClient c × IsNumber k
InRange (lines.ArmReplica s v k) = IsServer s × IsVolume v × IsNumber k
InRange (lines.Resolve v ss) = IsVolume v × AreTwoServers ss
InRange (lines.Repair v s p) = IsVolume v × IsServer s × ArePathNames p
InRange (lines.Trim m n) = IsNumber m × IsNumber n
InRange (lines.Acl s v p who plus minus) = IsServer s × IsVolume v × ArePathNames p × IsBetween 0 255 who
InRange (lines.Clone s v) = IsServer s × IsVolume v
InRange (lines.Peek s v n p) = IsServer s × IsVolume v × IsNumber n × ArePathNames p
InRange (lines.Unclone s v n) = IsServer s × IsVolume v × IsNumber n
InRange (lines.Asr v suffix rule) = IsVolume v × (is_name suffix ≡ true)
InRange (lines.Heal v p) = IsVolume v × ArePathNames p
InRange (lines.ShowVolume s v) = IsServer s × IsVolume v
InRange (lines.ShowLog c v) = IsClient c × IsVolume v
InRange (lines.ShowState c v) = IsClient c × IsVolume v

-- ---- bytes

-- content is made of bytes
abbrev pub ContentOfBytes : Content → Type 0
ContentOfBytes (Text bytes) = AreBytes bytes
ContentOfBytes (Fill times byte) = Unit {0}

-- the paths and texts of what a client does are made of bytes
abbrev pub TaskOfBytes : ATask → Type 0
TaskOfBytes (tasks.Create c v p mode owner) = AreBytes (path_text p)
TaskOfBytes (tasks.Mkdir c v p mode owner) = AreBytes (path_text p)
TaskOfBytes (tasks.Symlink c v p target) = AreBytes (path_text p) × AreBytes target
TaskOfBytes (tasks.Store c v p content) = AreBytes (path_text p) × ContentOfBytes content
TaskOfBytes (tasks.Setattr c v p attrs) = AreBytes (path_text p)
TaskOfBytes (tasks.Remove c v p) = AreBytes (path_text p)
TaskOfBytes (tasks.Rmdir c v p) = AreBytes (path_text p)
TaskOfBytes (tasks.Rename c v p q) = AreBytes (path_text p) × AreBytes (path_text q)
TaskOfBytes (tasks.Hardlink c v p q) = AreBytes (path_text p) × AreBytes (path_text q)
TaskOfBytes (tasks.Read c v p) = AreBytes (path_text p)
TaskOfBytes (tasks.List c v p) = AreBytes (path_text p)
TaskOfBytes (tasks.Drain c v s window) = Unit {0}
TaskOfBytes (tasks.Refresh c v s) = Unit {0}
TaskOfBytes (tasks.Giveup c v) = Unit {0}

-- the paths and texts of a line are made of bytes
abbrev pub OfBytes : Line → Type 0
OfBytes (lines.Task task) = TaskOfBytes task
OfBytes (lines.At thread task) = TaskOfBytes task
OfBytes (lines.HoardAdd c v p priority expansion) = AreBytes (path_text p)
OfBytes (lines.HoardRemove c v p) = AreBytes (path_text p)
OfBytes (lines.Repair v s p) = AreBytes (path_text p)
OfBytes (lines.Acl s v p who plus minus) = AreBytes (path_text p)
OfBytes (lines.Peek s v n p) = AreBytes (path_text p)
OfBytes (lines.Asr v suffix rule) = AreBytes suffix
OfBytes (lines.Heal v p) = AreBytes (path_text p)
OfBytes line = Unit {0}
