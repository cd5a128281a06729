use Rattle.std.proofs.Common.{subst, IsTrue, ◌↔◌}
use Rattle.coda_fid.specs.declared.fid.Fid.{Fid}
use Rattle.coda_callback.specs.Callbacks.{Callbacks, is_waiting}
use Rattle.coda_callback.proofs.Views.{tells}
use Rattle.coda_callback.proofs.promises.Promises.waiting.Goals as goal

pub returns : goal.returns
returns c =
    subst (λ (s : Callbacks). IsTrue c.is_some.result ↔ ((fid : Fid) × IsTrue (is_waiting s c.args.client fid))) c.self.view_is
    (tells c.self.inside.waiting c.args.client c.first_of.result c.is_some.result c.is_some.ensures c.first_of.ensures.some c.first_of.ensures.none)
