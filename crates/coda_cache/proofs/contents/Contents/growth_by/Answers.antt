use Rattle.std.proofs.Common.{List, ap, arith}
use Rattle.coda_fid.specs.declared.fid.Fid.{Fid}
use Rattle.coda_cache.specs.Growing.{growth_by_on}
use Rattle.coda_cache.proofs.contents.Contents.growth_by.Goals as goal

pub loop-fid-preserved : goal.loop-fid-preserved
loop-fid-preserved c = λ client.
    let was = c.loop-fid.invariant client in
    let more = c.in_ok-blocks.ensures client in
    let step = ap (λ (l : List Fid). growth_by_on c.args.self.now client c.args.rec.now l) c.in-Some.ensures.steps in
    omega (arith, was, more, step)

pub returns : goal.returns
returns c = λ client.
    let was = c.loop-fid.invariant client in
    let step = ap (λ (l : List Fid). growth_by_on c.args.self.now client c.args.rec.now l) c.in-None.ensures.steps.0 in
    omega (arith, was, step)
