-- What a client's own operation relies on, over what it holds.
use Rattle.std.specs.Prelude.{◌≡◌, true, Option, Some, None}
use Rattle.coda_fid.specs.declared.op.Op.{Op}
use Rattle.coda_fid.specs.declared.op.Op.TheVariants.{Create, Mkdir, Symlink, Store, Setattr, Remove, Rmdir, Rename}
use Rattle.coda_fid.specs.declared.op.Over.{Over}
use Rattle.coda_tree.specs.Volume.{Nodes, has}
use Rattle.coda_certify.specs.Replay.{MayApply}

-- what is replaced is held
abbrev pub IsOverHeld : Nodes → Option Over → Type 0
IsOverHeld m None = Unit {0}
IsOverHeld m (Some over) = has m over.fid ≡ true

-- what an operation moves or takes out is held
abbrev pub IsThere : Nodes → Op → Type 0
IsThere m (Create dir name fid mode owner) = Unit {0}
IsThere m (Mkdir dir name fid mode owner) = Unit {0}
IsThere m (Symlink dir name fid target mode owner) = Unit {0}
IsThere m (Store fid pre content) = Unit {0}
IsThere m (Setattr fid pre attrs) = Unit {0}
IsThere m (Remove dir name fid pre) = has m fid ≡ true
IsThere m (Rmdir dir name fid pre) = has m fid ≡ true
IsThere m (Rename from_dir from to_dir to fid over) = (has m fid ≡ true) × IsOverHeld m over

-- an operation may begin: it may be applied to what is held, and what it moves or takes out is there
pub record MayBegin (m : Nodes) (op : Op) : Type 0 where
  pub apply : MayApply m op
  pub there : IsThere m op
