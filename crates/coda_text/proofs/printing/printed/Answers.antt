use Rattle.std.proofs.Common.{◌≡◌, arith}
use Rattle.std.proofs.lemmas.Result.{IfOk-weaker}
use Rattle.coda_text.specs.Texts.{printed}
use Rattle.coda_text.specs.Printed.{IsWordFor}
use Rattle.coda_text.proofs.ReadAgain.{are_bytes, printed_is_word}
use Rattle.coda_text.proofs.printing.printed.Goals as goal

pub returns-clause-word : goal.returns-clause-word
returns-clause-word c =
    IfOk-weaker c.print.result (λ t. t ≡ printed c.args.bytes.now) (λ t. IsWordFor t c.args.bytes.now)
    (λ t is. printed_is_word c.args.bytes.now t (are_bytes c.args.bytes.now (λ i. omega (arith, c.type_inv.bytes i))) is) c.print.ensures
