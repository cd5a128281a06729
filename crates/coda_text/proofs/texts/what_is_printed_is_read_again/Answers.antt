use Rattle.coda_text.proofs.OneWord.{printed_word}
use Rattle.coda_text.proofs.texts.what_is_printed_is_read_again.Goals as goal

pub returns : goal.returns
returns c = λ bs fits. printed_word bs fits
