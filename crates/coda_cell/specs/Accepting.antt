-- What acceptance sees of a client of a cell.
use Rattle.std.specs.Prelude.{ℕ, Bool, ◌||◌}
use Rattle.coda_fid.specs.declared.fid.Fid.{Fid}
use Rattle.coda_cancel.specs.Dropping.{mentioning}
use Rattle.coda_cml.specs.Steady.{any_record}
use Rattle.coda_venus.specs.Accepting.{Sight}
use Rattle.coda_cell.specs.State.{ClientVolume, log_of, ClientState}

-- whether a record of a log mentions the object
abbrev pub is_mentioned : ClientVolume → Fid → Bool
is_mentioned v fid = any_record (mentioning fid) (log_of v).chunk || any_record (mentioning fid) (log_of v).records

-- what a client sees of a volume
abbrev pub sight_of : ClientState → ℕ → Sight
sight_of c volume = record { number = c.number; held = c.held; creations = (c.volumes volume).creations; is_dirty = is_mentioned (c.volumes volume) }
