use Rattle.std.proofs.Common.{sym, ◌∙◌}
use Rattle.coda_script.proofs.LineBytes.{first_goes, first_stops, first_ends}
use Rattle.coda_script.proofs.reading.first_byte.Goals as goal

pub loop-byte-preserved : goal.loop-byte-preserved
loop-byte-preserved c = c.loop-byte.invariant ∙ first_goes c.args.line.now c.loop-byte.byte-index c.loop-byte-test.true (sym c.is_separator.ensures ∙ c.if-not-is_separator.false)

pub returns-then-not-is_separator : goal.returns-then-not-is_separator
returns-then-not-is_separator c = sym (c.loop-byte.invariant ∙ first_stops c.args.line.now c.loop-byte.byte-index c.loop-byte-test.true (sym c.is_separator.ensures ∙ c.if-not-is_separator.true))

pub returns : goal.returns
returns c = sym (c.loop-byte.invariant ∙ first_ends c.args.line.now c.loop-byte.byte-index c.loop-byte-test.false)
