use Rattle.coda_venus.specs.Ask.{asked}
use Rattle.coda_serving.specs.Answering.{operating}
use Rattle.coda_serving.specs.Fetching.{nodes_offered}
use Rattle.coda_cell.specs.Asking.{operate}
use Rattle.coda_serving.specs.Serving.{IsDone}
use Rattle.coda_serving.proofs.Operated.{operates}
use Rattle.coda_serving.proofs.Whole.{whole}
use Rattle.coda_serving.proofs.operating.operate.Goals as goal

pub returns-clause-ends : goal.returns-clause-ends
returns-clause-ends g c = λ header history up lawful spelled.
    let offers = nodes_offered c.args.offers in
    let ask = asked c.args.ask.now in
    whole g.D.Disk.told header offers (operating c.args.now c.args.volume ask) IsDone (λ before client. operate offers client c.args.now c.args.volume (ask)) (operates offers spelled c.args.now c.args.volume ask) history
    c.operate.new.venus c.operate.result lawful (c.operate.ensures.answered header _ up)
