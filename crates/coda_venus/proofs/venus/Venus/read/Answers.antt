use Rattle.coda_venus.specs.Keeping.{readable}
use Rattle.coda_venus.proofs.Served.{seen_alike}
use Rattle.coda_venus.proofs.venus.Venus.read.Goals as goal

pub returns-clause-seen : goal.returns-clause-seen
returns-clause-seen g c =
    λ up. seen_alike c.args.self.now.client readable c.args.volume c.args.path.now c.read.result c.read.ensures
