use Rattle.std.proofs.Common.{◌∙◌, sym}
use Rattle.coda_text.proofs.Decoding.{decodes, decoding_ends}
use Rattle.coda_text.proofs.texts.decode.Goals as goal

pub loop-byte-preserved : goal.loop-byte-preserved
loop-byte-preserved c = c.loop-byte.invariant ∙ decodes c.loop-byte.out.items c.put_given.new.out.items c.args.word.now c.loop-byte.byte-index c.loop-byte.state c.after-state.result c.gives.result c.loop-byte-test.true c.gives.ensures c.after-state.ensures c.in_ok-put_given.ensures

pub returns : goal.returns
returns c = sym (c.loop-byte.invariant ∙ decoding_ends c.loop-byte.out.items c.args.word.now c.loop-byte.byte-index c.loop-byte.state c.loop-byte-test.false)
