use Rattle.std.proofs.Common.{◌≡◌, ◌+◌, length, ◌∙◌, arith}
use Rattle.coda_text.specs.Words.{gap}
use Rattle.coda_text.proofs.LaidOut.{laid}
use Rattle.coda_text.proofs.laws.lines_are_their_words.Goals as goal

pub returns : goal.returns
returns c = λ line.
    let l = laid gap 0 line in
    let size : 0 + length line ≡ length line = omega arith in
    (l.0, l.1, (l.2.0, l.2.1, l.2.2, l.2.3, l.2.4 ∙ size, l.2.5))
