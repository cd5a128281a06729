-- What the code keeps of a log.
use Rattle.std.specs.Prelude.{◌≡◌, None, [], ◌++◌}
use Rattle.coda_cancel.specs.Numbers.{AreUpTo, IsRising}
use Rattle.coda_cml.specs.declared.log.Log.TheInside.{Inside}
use Rattle.coda_cml.specs.Partition.{ArePartsOf}
use Rattle.coda_cml.specs.State.{LogState}

-- what contracts see of it
abbrev pub state_of : Inside → LogState
state_of log = record {
  frozen = log.frozen;
  chunk = log.chunk;
  chunk_segments = log.chunk_segments.items;
  records = log.tail;
  segments = log.segments.items;
  last = log.last;
  chunks = log.chunks;
}

-- numbers rise, up to that of the last operation; the segments of each part have its records; and there is no chunk where none is frozen
pub record IsKept (log : Inside) : Type 0 where
  pub rising : IsRising (log.chunk ++ log.tail)
  pub reached : AreUpTo log.last (log.chunk ++ log.tail)
  pub parted : ArePartsOf log.last log.chunk_segments.items log.chunk log.segments.items log.tail
  pub thawed : log.frozen ≡ None → (log.chunk ≡ []) × (log.chunk_segments.items ≡ [])
