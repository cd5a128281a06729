use Rattle.std.proofs.Common.{take}
use Rattle.coda_cancel.specs.Mentions.{has, with_number, Loses}
use Rattle.coda_cancel.proofs.mentions.take_all.Given as goal

abbrev pub invariant-loop-fid : goal.invariant-loop-fid
invariant-loop-fid l = Loses (has l.fn.index) (has l.index) (with_number l.number (take l.fid-index l.fids))
