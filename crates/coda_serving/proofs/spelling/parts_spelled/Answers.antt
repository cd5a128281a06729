use Rattle.std.proofs.Common.{arith}
use Rattle.coda_spelling.proofs.SpelledParts.{fid_spelled}
use Rattle.coda_serving.proofs.spelling.parts_spelled.Goals as goal

pub returns : goal.returns
returns c = λ f volume vnode uniq.
    let a = c.ranges.volume.fits in
    let b = c.ranges.vnode.fits in
    let d = c.ranges.uniq.fits in
    fid_spelled f (omega (arith, volume, a)) (omega (arith, vnode, b)) (omega (arith, uniq, d))
