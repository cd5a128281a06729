use Rattle.coda_report.proofs.InOrder.{volumes_in_path_order}
use Rattle.coda_report.proofs.laws.volumes_are_shown_in_path_order.Goals as goal

pub returns : goal.returns
returns c = volumes_in_path_order
