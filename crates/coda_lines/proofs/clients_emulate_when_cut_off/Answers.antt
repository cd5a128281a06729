use Rattle.coda_lines.proofs.Emulating.{clients_emulate_when_cut_off as law}
use Rattle.coda_lines.proofs.clients_emulate_when_cut_off.Goals as goal

pub returns : goal.returns
returns c = law
