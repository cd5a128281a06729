-- The letters between clients and servers, each with its number, and the links.
use Rattle.std.specs.Prelude.{◌≡◌, ◌≤◌, ◌<◌, ℕ, zero, suc, ◌+◌, Bool, true, false, ◌&&◌, ◌==◌, nat_le, nat_lt, nat_eq, List, [], ◌∷◌, ◌++◌, length, take, Option, Some, None, unwrap_or, if◌then◌else◌}
use Rattle.std.specs.Cmp.Lexicographic.{pointwise}
use Rattle.std.specs.Map.{lookup, remove_entry, values_of}
use Rattle.coda_state.specs.declared.state.Link.{Link}
use Rattle.coda_state.specs.declared.state.Link.TheVariants.{Strong, Weak, Down}
use Rattle.coda_net.specs.declared.letter.Letter.{Letter}
use Rattle.coda_net.specs.declared.fault.NetFault.{NetFault}
use Rattle.coda_net.specs.declared.fault.NetFault.TheVariants.{LinkDown, NoMessage, NotShorter}

-- the letters that wait, in the order of their numbers
abbrev pub Letters : Type 0
Letters = List (ℕ × Letter)

-- A network: the letters that wait, how many were posted, and the links that were set, by their ends.
pub record Pool : Type 0 where
  pub letters : Letters
  pub posted : ℕ
  pub links : List ((ℕ × ℕ) × Link)

abbrev pub is_down : Link → Bool
is_down Down = true
is_down Weak = false
is_down Strong = false

-- whether two ends are this client and this server
abbrev pub ends_are : ℕ → ℕ → ℕ × ℕ → Bool
ends_are client server ends = (client == ends.0) && (server == ends.1)

-- the link of a client and a server: down where none was set
abbrev pub link_of : Pool → ℕ → ℕ → Link
link_of pool client server = unwrap_or (lookup (ends_are client server) pool.links) Down

-- the letter of a number
abbrev pub letter_at : Letters → ℕ → Option Letter
letter_at letters number = lookup (nat_eq number) letters

-- the letters but that of a number
abbrev pub without : Letters → ℕ → Letters
without letters number = remove_entry (nat_eq number) letters

-- ---- the limits

-- how many letters count for the limits
abbrev pub lossy_count : List Letter → ℕ
lossy_count [] = 0
lossy_count (l ∷ ls) = (if l.lossy then 1 else 0) + lossy_count ls

-- how many bytes they have
abbrev pub lossy_bytes : List Letter → ℕ
lossy_bytes [] = 0
lossy_bytes (l ∷ ls) = (if l.lossy then length l.bytes else 0) + lossy_bytes ls

-- whether so many letters of so many bytes are within the limits: 1,024 letters, and 64 MiB
abbrev pub are_within : ℕ → ℕ → Bool
are_within count bytes = nat_le count 1024 && nat_le bytes 67108864

-- how many of the oldest letters that may be lost have to go, so that the rest is within the limits with so many letters
-- of so many bytes beside it
abbrev pub must_go : ℕ → ℕ → List Letter → ℕ
must_go count bytes [] = 0
must_go count bytes (l ∷ ls) =
    if are_within (count + lossy_count (l ∷ ls)) (bytes + lossy_bytes (l ∷ ls)) then 0
    else ((if l.lossy then 1 else 0) + must_go count bytes ls)

-- where the oldest letter is that may be lost; how many letters there are, where none may
abbrev pub oldest_place : List Letter → ℕ
oldest_place [] = 0
oldest_place (l ∷ ls) = if l.lossy then 0 else suc (oldest_place ls)

-- without the oldest letter that may be lost
abbrev pub without_oldest : Letters → Letters
without_oldest [] = []
without_oldest (l ∷ ls) = if l.1.lossy then ls else l ∷ without_oldest ls

-- without so many of the oldest that may be lost
abbrev pub without_oldest_of : ℕ → Letters → Letters
without_oldest_of zero letters = letters
without_oldest_of (suc count) letters = without_oldest_of count (without_oldest letters)

-- how many letters have to go for a new one: none for one that isn't lost for the limits
abbrev pub lost_for : Letter → Letters → ℕ
lost_for letter letters = if letter.lossy then must_go 1 (length letter.bytes) (values_of letters) else 0

-- ---- the calls

-- a letter is posted: as many of the oldest go as have to, and it waits behind all others
abbrev pub posted_to : Letters → ℕ → Letter → Letters
posted_to letters number letter = without_oldest_of (lost_for letter letters) letters ++ (number, letter) ∷ []

-- whether a letter goes from the client to the server with these bytes
abbrev pub is_sent : ℕ → ℕ → List ℕ → Letter → Bool
is_sent client server bytes letter = letter.to_server && ((client == letter.client) && ((server == letter.server) && pointwise nat_eq letter.bytes bytes))

-- the number of the first letter from the client to the server with these bytes
abbrev pub found : Letters → ℕ → ℕ → List ℕ → Option ℕ
found [] client server bytes = None
found (l ∷ ls) client server bytes = if is_sent client server bytes l.1 then Some l.0 else found ls client server bytes

-- why a letter isn't delivered
abbrev pub not_delivered : Pool → ℕ → Option Letter → Option NetFault
not_delivered pool number None = Some (NoMessage number)
not_delivered pool number (Some l) = if is_down (link_of pool l.client l.server) then Some LinkDown else None

abbrev pub deliver_refusal : Pool → ℕ → Option NetFault
deliver_refusal pool number = not_delivered pool number (letter_at pool.letters number)

-- a letter of its first bytes alone
abbrev pub cut_to : ℕ → Letter → Letter
cut_to most letter = record { client = letter.client; server = letter.server; to_server = letter.to_server; lossy = letter.lossy; bytes = take most letter.bytes }

-- the letters, once that of a number has its first bytes alone
abbrev pub trimmed : Letters → ℕ → ℕ → Letters
trimmed [] number most = []
trimmed (l ∷ ls) number most = if nat_eq number l.0 then (l.0, cut_to most l.1) ∷ ls else l ∷ trimmed ls number most

-- why a letter isn't trimmed to so many bytes
abbrev pub not_trimmed : ℕ → ℕ → Option Letter → Option NetFault
not_trimmed number most None = Some (NoMessage number)
not_trimmed number most (Some l) = if nat_lt most (length l.bytes) then None else Some (NotShorter (length l.bytes))

abbrev pub trim_refusal : Pool → ℕ → ℕ → Option NetFault
trim_refusal pool number most = not_trimmed number most (letter_at pool.letters number)

-- ---- what always holds

-- the numbers rise, from above one on
abbrev pub AreRising : ℕ → Letters → Type 0
AreRising before [] = Unit {0}
AreRising before (l ∷ ls) = (before < l.0) × AreRising l.0 ls

-- each number was given out
abbrev pub AreUpTo : ℕ → Letters → Type 0
AreUpTo posted [] = Unit {0}
AreUpTo posted (l ∷ ls) = (l.0 ≤ posted) × AreUpTo posted ls

-- the numbers begin at 1, rise, and were given out; and the letters are within the limits
pub record AreKept (letters : Letters) (posted : ℕ) : Type 0 where
  pub rising : AreRising 0 letters
  pub given : AreUpTo posted letters
  pub within : are_within (lossy_count (values_of letters)) (lossy_bytes (values_of letters)) ≡ true
