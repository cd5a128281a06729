use Rattle.coda_text.specs.Words.{gap}
use Rattle.coda_text.proofs.LaidOut.{laid}
use Rattle.coda_text.proofs.laws.words_are_spelled.Goals as goal

pub returns : goal.returns
returns c = λ line. (laid gap 0 line).3
