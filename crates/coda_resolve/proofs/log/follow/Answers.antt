use Rattle.std.proofs.lemmas.Result.{on_ok_weaker}
use Rattle.coda_resolve.proofs.Followed.{followed_stamped}
use Rattle.coda_resolve.proofs.log.follow.Goals as goal

pub returns : goal.returns
returns c = on_ok_weaker c.add_log.result
    (λ added updates has. record {
      stamped = followed_stamped c.add_log.new.stamps updates c.args.log.now (added updates has.stamped);
      last = c.in_ok-push_all_new.ensures updates updates has.stamped has.last;
    })
    c.add_log.ensures
