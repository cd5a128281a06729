-- The last decisions of clients, joined.
use Rattle.std.specs.Prelude.{◌≡◌, ℕ, Bool, true, not, cond, ◌==◌, nat_le, List, Option, Some, None}
use Rattle.std.specs.List.{filter, filter_map, fold, range_with_len}
use Rattle.std.specs.Ordering.{nat_cmp}
use Rattle.std.specs.BTreeMap.{BTreeMap, get}
use Rattle.coda_record.specs.declared.last.Last.{Last}

-- whether the decision has a greater number than the one that is known
abbrev pub is_later : Option Last → Last → Bool
is_later None last = true
is_later (Some known) last = not (nat_le last.number known.number)

-- the later of both, and of two with one number the known one
abbrev pub later : Option Last → Last → Option Last
later known last = cond (is_later known last) (Some last) known

-- whether it is the client's
abbrev pub is_of : ℕ → Last → Bool
is_of client last = last.client == client

-- of these the client's decision of the greatest number, and the first where several have it
abbrev pub latest : List Last → ℕ → Option Last
latest lasts client = fold later None (filter (is_of client) lasts)

-- the clients' numbers, which are bytes
unfoldable pub clients : List ℕ
clients = range_with_len 0 256

-- the last decision of each client that has one of these, in order of clients
abbrev pub joined_lasts : List Last → List Last
joined_lasts lasts = filter_map (latest lasts) clients

-- the table has of each client the last of these
abbrev pub AreLatest : BTreeMap ℕ Last → List Last → Type 0
AreLatest table lasts = (client : ℕ) → get nat_cmp table client ≡ latest lasts client
