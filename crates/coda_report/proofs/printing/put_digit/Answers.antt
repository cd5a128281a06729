use Rattle.std.proofs.lemmas.Fmt.{decimal_digit}
use Rattle.coda_report.proofs.printing.put_digit.Goals as goal

pub returns : goal.returns
returns c = rw (decimal_digit c.args.number c.requires) c.put_byte.ensures
