use Rattle.std.proofs.Common.{List, ap, arith}
use Rattle.std.specs.BTreeSet as btree
use Rattle.coda_fid.specs.declared.fid.Fid.{Fid}
use Rattle.coda_fid.specs.Fid.{fid_cmp}
use Rattle.coda_cache.specs.Indexed.{blocks_beside}
use Rattle.coda_cache.proofs.contents.Contents.blocks_beside_ahead.Goals as goal

pub loop-fid-preserved : goal.loop-fid-preserved
loop-fid-preserved c = (
  λ client n is.
      let was = c.loop-fid.invariant.0 client n is in
      let more = c.in_ok-blocks.ensures client n is in
      let step = ap (λ (l : List Fid). blocks_beside n (btree.contains fid_cmp c.args.but.now) l) c.in-Some.ensures.steps in
      omega (arith, was, more, step),
  c.loop-fid.invariant.1,
)

pub returns-clause-sum : goal.returns-clause-sum
returns-clause-sum c = λ client n is.
    let was = c.loop-fid.invariant.0 client n is in
    let step = ap (λ (l : List Fid). blocks_beside n (btree.contains fid_cmp c.args.but.now) l) c.in-None.ensures.steps.0 in
    omega (arith, was, step)
