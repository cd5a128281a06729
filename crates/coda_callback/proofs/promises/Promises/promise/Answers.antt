use Rattle.std.proofs.Common.{◌∙◌}
use Rattle.coda_callback.specs.Callbacks.{Callbacks, promised}
use Rattle.coda_callback.proofs.Views.{set_of, put_in, took_out, same_keys, kept_promise}
use Rattle.coda_callback.proofs.Loops.{at_error}
use Rattle.coda_callback.proofs.promises.Promises.promise.Goals as goal

pub returns-in_err-watch_one-clause-err : goal.returns-in_err-watch_one-clause-err
returns-in_err-watch_one-clause-err c =
    at_error c.from_residual.result
    ((λ i. let s : Callbacks = record { promises = same_keys c.self.inside.promised c.watch_one.new.promised c.in_err-watch_one.ensures.err i; outboxes = set_of c.self.inside.waiting.keys } in s)
    ∙ c.self.view_is)

pub invariant_of-self-2 : goal.invariant_of-self-2
invariant_of-self-2 c =
    kept_promise c.self.inside.promised c.self.inside.watched c.self.inside.waiting c.self.invariant c.watch_one.new.promised c.watch_one.new.watched c.remove.new.self c.of-interest.result
    c.of-interest.ensures.bounded c.in_ok-watch_one.ensures.ok c.watch_one.ensures.mirrored c.remove.ensures.updates.0

pub returns-clause-ok : goal.returns-clause-ok
returns-clause-ok c =
    let key = c.of-interest.result in
    (λ i. let s : Callbacks = record {
      promises = put_in c.self.inside.promised c.watch_one.new.promised key c.in_ok-watch_one.ensures.ok i;
      outboxes = took_out c.self.inside.waiting c.remove.new.self key c.remove.ensures.updates.0 i;
    } in s)
    ∙ (λ i. promised (c.self.view_is i) (c.of-interest.ensures.is i).client (c.of-interest.ensures.is i).fid)
