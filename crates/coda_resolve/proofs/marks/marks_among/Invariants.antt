use Rattle.std.proofs.Common.{◌≡◌, take}
use Rattle.coda_resolve.specs.Survey.{marks_among}
use Rattle.coda_resolve.specs.Views.{replicas_of}
use Rattle.coda_resolve.proofs.marks.marks_among.Given as goal

-- the marks of the objects so far
abbrev pub invariant-loop-taken : goal.invariant-loop-taken
invariant-loop-taken l = l.marks.items ≡ marks_among (replicas_of l.views) (take l.taken-index l.objects)
