-- The room that records leave within limits.
use Rattle.std.specs.Prelude.{ℕ, Bool, false, Option, Some, None, List}
use Rattle.coda_fid.specs.declared.op.Record.{Record}
use Rattle.coda_cancel.specs.Weights.{fits}

-- whether records fit into the room, if there is any
abbrev pub room_fits : Option (ℕ × ℕ) → List Record → Bool
room_fits None recs = false
room_fits (Some room) recs = fits room.0 room.1 recs
