use Rattle.std.proofs.Common.{sym, subst}
use Rattle.coda_serving.specs.Answering.{showing}
use Rattle.coda_serving.specs.Fetching.{nodes_offered}
use Rattle.coda_cell.specs.Asking.{Answer}
use Rattle.coda_cell.specs.Made.{client_of}
use Rattle.coda_matching.specs.Clients.{Ends}
use Rattle.coda_serving.specs.Serving.{IsShown}
use Rattle.coda_serving.proofs.Shown.{show_from, shows_all, shows}
use Rattle.coda_serving.proofs.Whole.{whole}
use Rattle.coda_serving.proofs.showing.show.Goals as goal

pub returns-clause-ends : goal.returns-clause-ends
returns-clause-ends g c = λ header history up lawful spelled.
    let offers = nodes_offered c.args.offers in
    let what = c.args.what in
    let volume = c.args.volume in
    let path = c.args.path.now in
    subst (λ (a : Answer). Ends g.D.Disk.told header history a.entries a.said IsShown c.show.new.venus c.show.result) (sym (shows_all offers what volume path (client_of header.number history header.cache)))
    (whole g.D.Disk.told header offers (showing what volume path) IsShown (show_from offers what volume path) (shows offers what volume path spelled) history c.show.new.venus c.show.result lawful (c.show.ensures.answered header _ up))
