use Rattle.std.proofs.Common.{ap, subst, ◌∙◌}
use Rattle.coda_callback.specs.Callbacks.{Callbacks, collected, IsOutbox}
use Rattle.coda_callback.proofs.Views.{set_of, forgot, outbox_kept}
use Rattle.coda_callback.proofs.promises.Promises.collect.Goals as goal

pub returns-clause-fids : goal.returns-clause-fids
returns-clause-fids c =
    subst (λ (s : Callbacks). IsOutbox s c.args.client c.in_ok-fids.fids.items) c.self.view_is
    (outbox_kept (set_of c.self.inside.promised.keys) c.self.inside.waiting.keys c.args.client c.in_ok-fids.fids.items c.in_ok-fids.ensures.ordered c.in_ok-fids.ensures.fids)

pub returns-clause-ok : goal.returns-clause-ok
returns-clause-ok c =
    (λ i. let s : Callbacks = record { promises = set_of c.self.inside.promised.keys; outboxes = forgot c.self.inside.waiting c.forget_client.new.kept c.args.client c.forget_client.ensures i } in s)
    ∙ ap (λ (s : Callbacks). collected s c.args.client) c.self.view_is
