use Rattle.std.proofs.Common.{◌∙◌, sym}
use Rattle.coda_text.proofs.Decoding.{open_goes}
use Rattle.coda_text.proofs.printing.all_open.Goals as goal

pub loop-byte-preserved : goal.loop-byte-preserved
loop-byte-preserved c = c.loop-byte.invariant ∙ open_goes c.args.bytes.now c.loop-byte.byte-index c.loop-byte-test.true (sym c.is_open_byte.ensures ∙ c.if-not-is_open_byte.false)
