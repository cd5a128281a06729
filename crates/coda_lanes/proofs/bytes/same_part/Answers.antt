use Rattle.std.proofs.Common.{◌≡◌, ◌↔◌, IsTrue, length, eqb, not, nat_eq, arith, w8, subst, sym}
use Rattle.std.proofs.lemmas.Simd.{length-chunk}
use Rattle.coda_lanes.specs.Lanes.{part}
use Rattle.coda_lanes.proofs.Comparing.{compared, clear_where_same}
use Rattle.coda_lanes.proofs.bytes.same_part.Goals as goal

pub returns : goal.returns
returns c =
    let xs = part c.args.at 32 c.args.a.now in
    let ys = part c.args.at 32 c.args.b.now in
    let long = length-chunk c.args.at 32 c.args.a.now c.requires.first in
    let wide = length-chunk c.args.at 32 c.args.b.now c.requires.second in
    let same : length xs ≡ length ys = omega arith in
    let mask = compared w8 (λ x y. not (eqb x y)) xs ys same (omega arith) in
    subst (λ n. IsTrue (nat_eq n 0) ↔ (xs ≡ ys)) (sym mask) (clear_where_same xs ys same)
