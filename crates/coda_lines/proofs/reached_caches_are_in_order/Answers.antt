use Rattle.coda_lines.proofs.Lines.{reached_caches_are_in_order as law}
use Rattle.coda_lines.proofs.reached_caches_are_in_order.Goals as goal

pub returns : goal.returns
returns c = law
