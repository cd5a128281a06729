-- What an operation makes.
use Rattle.std.specs.Prelude.{Bool, not, ◌||◌, ◌==◌}
use Rattle.coda_fid.specs.declared.op.Op.{Op}
use Rattle.coda_tree.specs.Volume.{Nodes, has}
use Rattle.coda_plain.specs.Deeds.{created_by}
use Rattle.coda_venus.specs.Ask.{object_of}

-- whether an operation makes nothing that is held already
abbrev pub makes_new : Nodes → Op → Bool
makes_new m op = (created_by op == 0) || not (has m (object_of op))
