use Rattle.std.proofs.Common.{◌≡◌, ◌∙◌, ◌<◌, ◌^◌, nat_lt, length, arith, w64, subst, sym}
use Rattle.coda_lanes.specs.Lanes.{each, mask_of}
use Rattle.coda_lanes.proofs.Comparing.{compared, mask_below, length-each}
use Rattle.coda_lanes.proofs.counts.less_mask.Goals as goal

pub eight_bits-requires : goal.eight_bits-requires
eight_bits-requires c =
    let bits = each nat_lt c.args.a.now c.args.b.now in
    let few = length-each nat_lt c.args.a.now c.args.b.now (omega arith) in
    let eight : length bits ≡ 8 = omega arith in
    let below = subst (λ n. mask_of bits < 2 ^ n) eight (mask_below bits) in
    subst (λ n. n < 256) (sym (compared w64 nat_lt c.args.a.now c.args.b.now (omega arith) (omega arith))) below

pub returns : goal.returns
returns c = c.eight_bits.ensures ∙ compared w64 nat_lt c.args.a.now c.args.b.now (omega arith) (omega arith)
