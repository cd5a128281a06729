use Rattle.std.proofs.Common.{◌≡◌, Some, None, sym, ap, ◌∙◌, subst}
use Rattle.coda_walk.specs.Going.{without}
use Rattle.coda_walk.specs.Queue.{place_in, count_in, IsQueueOf}
use Rattle.coda_walk.proofs.Queued.{keyed, among_found}
use Rattle.coda_walk.proofs.Puts.{none_at}
use Rattle.coda_walk.proofs.queue.Queue.take_out.Goals as goal

pub returns-in_ok-take-in-Some : goal.returns-in_ok-take-in-Some
returns-in_ok-take-in-Some c items q =
    let self = c.args.self.now in
    let at : place_in self.places c.args.fid ≡ Some c.in-Some.standing = sym c.get.ensures.value ∙ sym c.copied.ensures ∙ c.in-Some.is in
    let own : c.in-Some.standing.item.fid ≡ c.args.fid = keyed (place_in self.places) (count_in self.children) self.clock self.total items q.queued c.args.fid c.in-Some.standing at in
    subst (λ f. IsQueueOf c.take.new.self (without f items)) own (c.in_ok-take-in-Some.ensures.items items q (ap (place_in self.places) own ∙ at))

pub returns-in-None : goal.returns-in-None
returns-in-None c items q =
    let at : place_in c.args.self.now.places c.args.fid ≡ None = sym c.get.ensures.value ∙ sym c.copied.ensures ∙ c.in-None.is in
    subst (IsQueueOf c.args.self.now) (sym (among_found items c.args.fid (none_at c.args.self.now items c.args.fid q at))) q
