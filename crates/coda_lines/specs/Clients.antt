-- A client of a cell as one that serves of its cache, and what it can fetch.
use Rattle.std.specs.Prelude.{ℕ, Bool, true, false, Option, Some, None, Result, Ok, Err}
use Rattle.coda_fid.specs.declared.fid.Fid.{Fid}
use Rattle.coda_tree.specs.declared.node.Node.{Node}
use Rattle.coda_script.specs.declared.line.Strength.{Strength}
use Rattle.coda_script.specs.declared.reply.ClientState.{ClientState as StateName}
use Rattle.coda_script.specs.declared.reply.ClientState.TheVariants.{Hoarding, Emulating, WriteDisconnected}
use Rattle.coda_venus.specs.State.{ClientVolume as ServingVolume, ClientState as Client}
use Rattle.coda_venus.specs.Serving.{ServingClient}
use Rattle.coda_venus.specs.Rounds.{Sources}
use Rattle.coda_venus.specs.declared.refused.Refused.{Refused}
use Rattle.coda_venus.specs.declared.refused.Refused.TheVariants.{Need}
use Rattle.coda_cell.specs.Looking.{offered}
use Rattle.coda_cell.specs.State.{ClientVolume, ClientState, ReplicaState, CellState, log_of}
use Rattle.coda_cell.specs.States.{state_over}
use Rattle.coda_cell.specs.Steps.{reached}

-- ---- what a client has

-- what a client has of a volume, with its log in place of the operations that are pending
abbrev pub as_volume : ClientVolume → ServingVolume
as_volume v = record { log = log_of v; creations = v.creations }

-- a client of a cell, with logs in place of what is pending
abbrev pub as_client : ClientState → Client
as_client c =
    record { number = c.number; blocks = c.blocks; held = c.held; volumes = λ volume. as_volume (c.volumes volume) }

-- a client of a cell as it serves: with its valid copies, and the objects in the order of their use
abbrev pub serving_client : CellState → ℕ → ClientState → ServingClient
serving_client s number c =
    record { client = as_client c; beside = record { copies = s.copies number; uses = s.uses number } }

-- ---- what a client can fetch

-- the node that a server gives, or that it has none
abbrev pub given_by : ℕ → Fid → Option Node → Result (Node × ℕ) Refused
given_by server fid (Some node) = Ok (node, server)
given_by server fid None = Err (Need fid)

-- what can be fetched of an object by the replica of its volume, where the link to the replica's server is up
abbrev pub source_at : (ℕ → Strength) → Fid → Option ReplicaState → Result (Node × ℕ) Refused
source_at links fid (Some r) = given_by r.server fid (offered (reached (links r.server) r) fid)
source_at links fid None = Err (Need fid)

-- What a client can fetch: of each object the node that the replica of its volume has, where the link to the
-- replica's server is up; of any other the client says that it needs it.
abbrev pub sources_of : CellState → ℕ → Sources
sources_of s number fid = source_at (s.links number) fid (s.replicas fid.volume)

-- ---- what a client emulates

abbrev pub is_emulating : StateName → Bool
is_emulating Hoarding = false
is_emulating Emulating = true
is_emulating WriteDisconnected = false

-- by the link to the server of the volume's replica
abbrev pub emulates_at : (ℕ → Strength) → ClientVolume → Option ReplicaState → Bool
emulates_at links v (Some r) = is_emulating (state_over (links r.server) (log_of v))
emulates_at links v None = false

-- whether a client emulates the server of a volume: that is its state there, by the link and by its log
abbrev pub emulates : CellState → ℕ → ClientState → ℕ → Bool
emulates s number c volume = emulates_at (s.links number) (c.volumes volume) (s.replicas volume)
