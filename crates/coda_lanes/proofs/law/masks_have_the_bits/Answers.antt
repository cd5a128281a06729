use Rattle.coda_lanes.proofs.Comparing.{bits_of_masks}
use Rattle.coda_lanes.proofs.law.masks_have_the_bits.Goals as goal

pub returns : goal.returns
returns c = bits_of_masks
