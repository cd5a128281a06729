use Rattle.std.proofs.Common.{ap, ◌∙◌}
use Rattle.coda_callback.specs.Callbacks.{Callbacks, dropped}
use Rattle.coda_callback.proofs.Views.{forgot}
use Rattle.coda_callback.proofs.promises.Promises.drop_client.Goals as goal

pub returns : goal.returns
returns c =
    (λ i. let s : Callbacks = record {
      promises = forgot c.self.inside.promised c.forget_watching.new.promised c.args.client c.forget_watching.ensures.promised i;
      outboxes = forgot c.self.inside.waiting c.forget_client.new.kept c.args.client c.forget_client.ensures i;
    } in s)
    ∙ ap (λ (s : Callbacks). dropped s c.args.client) c.self.view_is
