use Rattle.std.proofs.Common.{take}
use Rattle.coda_cancel.specs.Mentions.{has, with_number, Gains}
use Rattle.coda_cancel.proofs.mentions.put_all.Given as goal

abbrev pub invariant-loop-fid : goal.invariant-loop-fid
invariant-loop-fid l = Gains (has l.fn.index) (has l.index) (with_number l.number (take l.fid-index l.fids))
