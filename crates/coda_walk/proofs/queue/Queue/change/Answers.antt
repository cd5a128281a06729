use Rattle.std.proofs.Common.{◌≡◌, Some, None, sym, ap, ◌∙◌, subst}
use Rattle.coda_walk.specs.Queue.{place_in, count_in, IsQueueOf}
use Rattle.coda_walk.proofs.Queued.{keyed}
use Rattle.coda_walk.proofs.Puts.{room, none_at, none_changed}
use Rattle.coda_walk.proofs.queue.Queue.change.Goals as goal

pub returns-in_ok-add-in-Some : goal.returns-in_ok-add-in-Some
returns-in_ok-add-in-Some c items q =
    let self = c.args.self.now in
    let s = c.in-Some.standing in
    let at : place_in self.places c.args.item.fid ≡ Some s = sym c.get.ensures.value ∙ sym c.copied.ensures ∙ c.in-Some.is in
    let own : s.item.fid ≡ c.args.item.fid = keyed (place_in self.places) (count_in self.children) self.clock self.total items q.queued c.args.item.fid s at in
    let took = c.in_ok-take-in-Some.ensures.items items q (ap (place_in self.places) own ∙ at) in
    let r = room c.take.new.self self items c.args.item s q at own took c.in_ok-take-in-Some.ensures.others c.in_ok-take-in-Some.ensures.clock in
    let none : place_in c.take.new.self.places c.args.item.fid ≡ None = ap (place_in c.take.new.self.places) (sym own) ∙ c.in_ok-take-in-Some.ensures.gone in
    subst (IsQueueOf c.add.new.self) r.all (c.in_ok-add-in-Some.ensures r.front r.back r.stands r.fits none r.early)

pub returns-in-None : goal.returns-in-None
returns-in-None c items q =
    let at : place_in c.args.self.now.places c.args.item.fid ≡ None = sym c.get.ensures.value ∙ sym c.copied.ensures ∙ c.in-None.is in
    subst (IsQueueOf c.args.self.now) (sym (none_changed items c.args.item (none_at c.args.self.now items c.args.item.fid q at))) q
