use Rattle.coda_text.proofs.ReadAgain.{one_token}
use Rattle.coda_text.proofs.splitting.tokens.Goals as goal

pub returns-clause-printed : goal.returns-clause-printed
returns-clause-printed c = one_token c.args.line.now c.split.result c.split.ensures
