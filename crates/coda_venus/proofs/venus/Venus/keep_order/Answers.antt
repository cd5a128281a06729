use Rattle.std.proofs.Common.{sym, ap, subst, ◌∙◌}
use Rattle.coda_spelling.specs.Spelled.{AreSpelled}
use Rattle.coda_cache.specs.State.{CacheState}
use Rattle.coda_venus.specs.Code.{held_in}
use Rattle.coda_venus.specs.History.{state_of}
use Rattle.coda_venus.proofs.Entered.{with_cache}
use Rattle.coda_venus.proofs.venus.Venus.keep_order.Goals as goal

pub invariant_of-self : goal.invariant_of-self
invariant_of-self g c =
    let old = c.args.self.now in
    record { numbered = old.numbered; spelled = subst (λ (k : CacheState). AreSpelled k.nodes) (sym c.index.ensures) old.spelled; sendable = old.sendable }

pub returns-clause-up : goal.returns-clause-up
returns-clause-up g c = λ header history up.
    let old = c.args.self.now in
    let state = state_of header history in
    record {
      up = up.up;
      journal = up.journal;
      lawful = up.lawful;
      state = with_cache state old.client c.index.new.self state.held up.state (ap (λ (k : CacheState). k.size) c.index.ensures) (up.state.held ∙ sym (ap held_in c.index.ensures));
    }
