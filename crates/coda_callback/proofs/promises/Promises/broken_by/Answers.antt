use Rattle.std.proofs.Common.{subst, ap, ◌∙◌}
use Rattle.coda_callback.specs.Callbacks.{Callbacks, broken_by}
use Rattle.coda_callback.specs.Kept.{has, Gains, Loses}
use Rattle.coda_callback.proofs.Views.{set_of, promised_on, broken_promises, broken_outboxes, same_keys}
use Rattle.coda_callback.proofs.Loops.{at_error}
use Rattle.coda_callback.proofs.promises.Promises.broken_by.Goals as goal

pub returns-in_err-announce-clause-err : goal.returns-in_err-announce-clause-err
returns-in_err-announce-clause-err c =
    at_error c.from_residual-in_err-announce.result
    ((λ i. let s : Callbacks = record { promises = set_of c.self.inside.promised.keys; outboxes = same_keys c.self.inside.waiting c.announce.new.kept c.in_err-announce.ensures.err i } in s)
    ∙ c.self.view_is)

pub returns-clause-ok : goal.returns-clause-ok
returns-clause-ok c =
    let p = c.self.inside.promised in
    let w = c.self.inside.waiting in
    let moved = c.in_ok-moved.moved.items in
    let those = promised_on p c.self.inside.watched w c.self.invariant c.args.fids.now moved c.in_ok-moved.ensures in
    (λ i. let s : Callbacks = record {
      promises = broken_promises p w c.forget.new.kept c.announce.new.kept c.args.fids.now moved those (subst (Loses (has p) (has c.forget.new.kept)) c.deref-2.ensures.value c.forget.ensures) i;
      outboxes = broken_outboxes p w c.forget.new.kept c.announce.new.kept c.args.fids.now moved those (subst (Gains (has w) (has c.announce.new.kept)) c.deref.ensures.value c.in_ok-announce.ensures.ok) i;
    } in s)
    ∙ ap (λ (s : Callbacks). broken_by s c.args.fids.now) c.self.view_is
