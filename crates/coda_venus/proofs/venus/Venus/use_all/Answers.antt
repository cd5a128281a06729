use Rattle.std.proofs.Common.{◌<◌, sym, ap, subst, ◌∙◌}
use Rattle.coda_venus.specs.History.{state_of}
use Rattle.coda_venus.specs.Logs.{AreSendable}
use Rattle.coda_cache.specs.State.{CacheState}
use Rattle.coda_spelling.specs.Spelled.{AreSpelled}
use Rattle.coda_venus.proofs.Used.{used_nodes}
use Rattle.coda_venus.proofs.venus.Venus.use_all.Goals as goal

pub returns-clause-up : goal.returns-clause-up
returns-clause-up g c = λ header history up.
    record {
      up = up.up;
      journal = up.journal;
      lawful = up.lawful;
      state =
          c.use_all.ensures.client (state_of header history) up.state;
    }

pub invariant_of-self : goal.invariant_of-self
invariant_of-self g c =
    let old = c.args.self.now in
    record {
      numbered = subst (λ n. n < 256) (sym c.use_all.ensures.same.0) old.numbered;
      spelled =
          subst AreSpelled (sym (ap (λ (k : CacheState). k.nodes) c.use_all.ensures.cache
          ∙ used_nodes old.client.cache c.args.fids.now)) old.spelled;
      sendable = subst (λ logs. ∥ AreSendable logs ∥₁) (sym c.use_all.ensures.same.1) old.sendable;
    }
