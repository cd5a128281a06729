use Rattle.coda_venus.specs.Keeping.{listable}
use Rattle.coda_venus.proofs.Served.{seen_alike}
use Rattle.coda_venus.proofs.venus.Venus.list.Goals as goal

pub returns-clause-seen : goal.returns-clause-seen
returns-clause-seen g c =
    λ up. seen_alike c.args.self.now.client listable c.args.volume c.args.path.now c.list.result c.list.ensures
