use Rattle.std.proofs.Common.{◌≡◌, ℕ, List}
use Rattle.std.proofs.lemmas.Result.{IfOk-weaker}
use Rattle.coda_text.specs.Texts.{printed, value_of}
use Rattle.coda_text.specs.Printed.{AreBytes}
use Rattle.coda_text.proofs.ReadAgain.{printed_is_read}
use Rattle.coda_text.proofs.texts.unquote.Goals as goal

pub returns-clause-printed : goal.returns-clause-printed
returns-clause-printed c =
    IfOk-weaker c.read_word.result (λ v. v ≡ value_of c.args.word.now) (λ v. (was : List ℕ) → AreBytes was → printed was ≡ c.args.word.now → v ≡ was)
    (λ v is was fits e. printed_is_read c.args.word.now v was is fits e) c.read_word.ensures
