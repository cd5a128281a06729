-- What the parts of the code stand for.
use Rattle.std.specs.Prelude.{◌≡◌, ◌<◌, ◌+◌, ℕ, Bool, true, nat_le, ◌++◌, Option, Some, None, ◌⊎◌}
use Rattle.std.specs.BTreeMap as tree
use Rattle.std.specs.Ordering.{nat_cmp}
use Rattle.coda_fid.specs.declared.op.Op.{Op}
use Rattle.coda_fid.specs.declared.op.Record.{Record}
use Rattle.coda_cancel.specs.Cancel.{add}
use Rattle.coda_cancel.specs.Weights.{fits}
use Rattle.coda_cache.specs.State.{CacheState}
use Rattle.coda_cache.specs.Parents.{parents_of}
use Rattle.coda_cml.specs.State.{LogState}
use Rattle.coda_plain.specs.Deeds.{created_by}
use Rattle.coda_venus.specs.Held.{Held}
use Rattle.coda_venus.specs.State.{ClientVolume, new_volume, ClientState}
use Rattle.coda_venus.specs.Accepting.{Sight, is_mentioned}
use Rattle.coda_venus.specs.declared.client.Client.{Client}
use Rattle.coda_venus.specs.declared.volume_log.VolumeLog.{VolumeLog}

-- whether the log would keep within its limits with one operation more: 4,096 records, and 16 MiB
abbrev pub has_room : ClientVolume → Record → Bool
has_room v rec = fits 4096 16777216 (v.log.chunk ++ add v.log.records rec)

-- a client accepts at most 2^32 - 1 operations on a volume
abbrev pub is_full : ClientVolume → Bool
is_full v = nat_le 4294967295 v.log.last

-- how many objects a client created in a volume, where it did something there
abbrev pub creations_in : Option VolumeLog → ℕ
creations_in None = 0
creations_in (Some code) = code.creations

-- a log with its count of creations is that of what a client has of a volume
pub record IsVolumeLog (v : ClientVolume) (code : VolumeLog) : Type 0 where
  pub log : code.log ≡ v.log
  pub creations : code.creations ≡ v.creations

-- the same where a client did something on the volume; else there is none
abbrev pub IsLogAt : ClientVolume → Option VolumeLog → Type 0
IsLogAt v None = v ≡ new_volume
IsLogAt v (Some code) = IsVolumeLog v code

-- an operation may go behind the log: it is the next, there is room for it, and for what it creates
pub record MayPush (code : VolumeLog) (rec : Record) : Type 0 where
  pub next : rec.number ≡ code.log.last + 1
  pub few : code.log.last < 4294967295
  pub room : fits 4096 16777216 (code.log.chunk ++ add code.log.records rec) ≡ true
  pub creations : (code.creations < 4294967295) ⊎ (created_by rec.op ≡ 0)

-- what is held by a cache
abbrev pub held_in : CacheState → Held
held_in c = record { nodes = c.nodes; parents = parents_of c.holds }

-- what a client holds
abbrev pub held_of : Client → Held
held_of code = held_in code.cache

-- what a client has of a volume, by its log where it did something there
abbrev pub volume_in : Option VolumeLog → ClientVolume
volume_in None = new_volume
volume_in (Some code) = record { log = code.log; creations = code.creations }

-- what a client sees of a volume
abbrev pub sight : Client → ℕ → Sight
sight code volume = record {
  number = code.number;
  held = held_of code;
  creations = creations_in (tree.get nat_cmp code.logs volume);
  is_dirty = is_mentioned (volume_in (tree.get nat_cmp code.logs volume));
}

-- the record of an operation is the next of a log, which has room for it
pub record IsNextOf (log : LogState) (time : ℕ) (op : Op) (rec : Record) : Type 0 where
  pub what : rec.op ≡ op
  pub when : rec.time ≡ time
  pub next : rec.number ≡ log.last + 1
  pub few : log.last < 4294967295
  pub room : fits 4096 16777216 (log.chunk ++ add log.records rec) ≡ true

-- an operation may be performed on a volume: it is the next, there is room for it, and for what it creates
pub record MayPerform (v : ClientVolume) (rec : Record) : Type 0 where
  pub next : rec.number ≡ v.log.last + 1
  pub few : v.log.last < 4294967295
  pub room : fits 4096 16777216 (v.log.chunk ++ add v.log.records rec) ≡ true
  pub creations : (v.creations < 4294967295) ⊎ (created_by rec.op ≡ 0)

-- the code is the client
pub record IsClient (c : ClientState) (code : Client) : Type 0 where
  pub number : c.number ≡ code.number
  pub blocks : c.blocks ≡ code.cache.size
  pub held : c.held ≡ held_of code
  pub logs : (volume : ℕ) → IsLogAt (c.volumes volume) (tree.get nat_cmp code.logs volume)
