use Rattle.std.proofs.Common.{List, ◌++◌, take}
use Rattle.coda_fid.specs.declared.fid.Fid.{Fid}
use Rattle.coda_resolve.specs.Renewals.{AreRenewed}
use Rattle.coda_resolve.specs.Taken.{fids_of}
use Rattle.coda_resolve.specs.Views.{objects_of, replicas_of}
use Rattle.coda_resolve.proofs.part.renewed.Given as goal

abbrev pub invariant-loop-object : goal.invariant-loop-object
invariant-loop-object l = (before : List Fid) → AreRenewed (replicas_of l.views) (objects_of l.view) before l.fn.own.held l.fn.own.touched.items → AreRenewed (replicas_of l.views) (objects_of l.view) (before ++ fids_of (take l.object-index l.objects)) l.held l.touched.items
