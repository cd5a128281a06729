use Rattle.std.proofs.Common.{◌≡◌, ◌++◌, drop}
use Rattle.coda_text.specs.Texts.{decoded}
use Rattle.coda_text.specs.declared.texts.Escape.TheVariants.{Plain}
use Rattle.coda_text.proofs.texts.decode.Given as goal

abbrev pub invariant-loop-byte : goal.invariant-loop-byte
invariant-loop-byte l = decoded Plain l.word ≡ l.out.items ++ decoded l.state (drop l.byte-index l.word)
