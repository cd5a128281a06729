-- What holds of a client's logs.
use Rattle.std.specs.Prelude.{◌≡◌, ◌<◌, None, List, [], ◌∷◌, ◌++◌}
use Rattle.coda_fid.specs.declared.op.Record.{Record}
use Rattle.coda_cml.specs.Segments.{records_upto, records_above}
use Rattle.coda_cml.specs.State.{IsLogOf}
use Rattle.coda_cml.specs.Steady.{IsSteady}
use Rattle.coda_cml.specs.Steps.{pending_after}
use Rattle.coda_plain.specs.Deeds.{Deed, Operated, Froze, Settled, Gaveup}
use Rattle.coda_venus.specs.History.{MayFreeze}
use Rattle.coda_venus.specs.State.{ClientVolume, volume_after}

-- the operations that no server has applied yet, none left out: those that are frozen, and those behind them
pub record Pending : Type 0 where
  pub front : List Record
  pub back : List Record

abbrev pub pending_then : Pending → Deed → Pending
pending_then p (Operated rec) = record p { back = p.back ++ rec ∷ [] }
pending_then p (Froze number home last) = record { front = records_upto last p.back; back = records_above last p.back }
pending_then p (Settled number verdict) = record { front = []; back = pending_after verdict p.front p.back }
pending_then p Gaveup = record { front = []; back = [] }

-- which deeds the law speaks of: the next operation, a freeze of what may go, a settlement, and giving up where none is frozen
abbrev pub MayCome : ClientVolume → Deed → Type 0
MayCome v (Operated rec) = v.log.last < rec.number
MayCome v (Froze number home last) = MayFreeze v.log number last
MayCome v (Settled number verdict) = Unit {0}
MayCome v Gaveup = v.log.frozen ≡ None

-- while the pending operations are a steady run, the log is theirs
abbrev pub LogsAreFolds : Type 0
LogsAreFolds =
    (v : ClientVolume) (p : Pending) (deed : Deed) → IsLogOf v.log p.front p.back → IsSteady (p.front ++ p.back) → MayCome v deed
    → IsLogOf (volume_after v deed).log (pending_then p deed).front (pending_then p deed).back
