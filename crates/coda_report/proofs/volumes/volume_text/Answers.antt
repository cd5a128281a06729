use Rattle.std.proofs.Common.{◌≡◌, rules}
use Rattle.coda_fid.specs.Fid.{root_of}
use Rattle.coda_report.specs.Volumes.{path_order, volume_text}
use Rattle.coda_report.proofs.InOrder.{volumes_in_path_order}
use Rattle.coda_report.proofs.volumes.volume_text.Goals as goal

pub returns-clause-order : goal.returns-clause-order
returns-clause-order c =
    let root = root_of c.args.volume.now.number in
    let nodes = c.args.volume.now.nodes in
    let text : c.from_vec.result ≡ volume_text c.args.server c.args.volume.now = search rules in
    (path_order root nodes, volumes_in_path_order root nodes c.number.ensures.volume, text)
