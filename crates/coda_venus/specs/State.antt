-- What a client is at a moment, and what an entry of its history makes of it.
use Rattle.std.specs.Prelude.{ℕ, ◌+◌, ◌==◌, nat_le, if◌then◌else◌, List, [], ◌∷◌}
use Rattle.coda_cml.specs.State.{LogState, empty_log}
use Rattle.coda_cml.specs.Steps.{appended_to, frozen_at, settled, given_up}
use Rattle.coda_cml.specs.declared.segment.Segment.{Segment}
use Rattle.coda_plain.specs.Deeds.{Deed, Operated, Froze, Settled, Gaveup, created_by}
use Rattle.coda_record.specs.declared.entry.ClientEntry.{ClientEntry}
use Rattle.coda_record.specs.declared.entry.ClientEntry.TheVariants as entry
use Rattle.coda_venus.specs.Held.{Held, nothing_held, held_after_operation, held_after_fetch, held_after_drop}

-- the same for each key, but this at one of them
abbrev pub put : {A : Type 0} → (ℕ → A) → ℕ → A → ℕ → A
put f k x q = if q == k then x else f q

-- ---- a client

-- What a client has of a volume: the log of the operations that no server has applied yet, as far as later ones leave them, and how many
-- objects it created there.
pub record ClientVolume : Type 0 where
  pub log : LogState
  pub creations : ℕ

-- a volume on which a client did nothing
abbrev pub new_volume : ClientVolume
new_volume = record { log = empty_log; creations = 0 }

-- how many segments in front end by this number
abbrev pub ended_by : ℕ → List Segment → ℕ
ended_by number [] = 0
ended_by number (segment ∷ rest) = if nat_le segment.last number then 1 + ended_by number rest else 0

-- a freeze takes the segments in front that end by the chunk's last operation
abbrev pub volume_after : ClientVolume → Deed → ClientVolume
volume_after v (Operated rec) = record v { log = appended_to v.log rec; creations = v.creations + created_by rec.op }
volume_after v (Froze number home last) = record v { log = frozen_at v.log (ended_by last v.log.segments) (record { number = number; home = home }) }
volume_after v (Settled number verdict) = record v { log = settled verdict v.log }
volume_after v Gaveup = record v { log = given_up v.log }

-- what a client has: the blocks of its cache, what it holds, and what it has of each volume
pub record ClientState : Type 0 where
  pub number : ℕ
  pub blocks : ℕ
  pub held : Held
  pub volumes : ℕ → ClientVolume

-- a client that was just made
abbrev pub new_client : ℕ → ℕ → ClientState
new_client number blocks = record { number = number; blocks = blocks; held = nothing_held; volumes = λ volume. new_volume }

-- a client with what a deed leaves of a volume
abbrev pub after_deed : ClientState → ℕ → Deed → ClientState
after_deed c volume deed = record c { volumes = put c.volumes volume (volume_after (c.volumes volume) deed) }

-- a client after an entry
abbrev pub client_after : ClientState → ClientEntry → ClientState
client_after c (entry.Op volume rec) = record (after_deed c volume (Operated rec)) { held = held_after_operation c.held c.number rec }
client_after c (entry.Freeze volume number home last) = after_deed c volume (Froze number home last)
client_after c (entry.Settled volume number verdict) = after_deed c volume (Settled number verdict)
client_after c (entry.Giveup volume) = after_deed c volume Gaveup
client_after c (entry.Fetched fid parent node) = record c { held = held_after_fetch c.held fid parent node }
client_after c (entry.Dropped fid) = record c { held = held_after_drop c.held fid }
client_after c (entry.Hoard change) = c
client_after c (entry.Snapshot snapshot) = c

-- a client after entries in order
abbrev pub client_after_all : ClientState → List ClientEntry → ClientState
client_after_all c [] = c
client_after_all c (e ∷ entries) = client_after_all (client_after c e) entries
