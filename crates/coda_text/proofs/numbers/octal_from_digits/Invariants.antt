use Rattle.std.proofs.Common.{◌≡◌, drop}
use Rattle.coda_text.specs.Numbers.{octal_from}
use Rattle.coda_text.proofs.numbers.octal_from_digits.Given as goal

abbrev pub invariant-loop-digit : goal.invariant-loop-digit
invariant-loop-digit l = octal_from 0 l.word ≡ octal_from l.number (drop l.digit-index l.word)
