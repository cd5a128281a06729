use Rattle.std.proofs.Common.{◌≡◌, drop}
use Rattle.coda_text.specs.Numbers.{number_from}
use Rattle.coda_text.proofs.numbers.number_from_digits.Given as goal

abbrev pub invariant-loop-digit : goal.invariant-loop-digit
invariant-loop-digit l = number_from 0 l.word ≡ number_from l.number (drop l.digit-index l.word)
