use Rattle.std.proofs.Common.{sym, ap, subst, ◌∙◌}
use Rattle.coda_spelling.specs.Spelled.{AreSpelled}
use Rattle.coda_cache.specs.State.{CacheState}
use Rattle.coda_venus.specs.Code.{held_in}
use Rattle.coda_venus.specs.Held.{Held}
use Rattle.coda_venus.specs.History.{state_of}
use Rattle.coda_venus.proofs.Entered.{with_cache}
use Rattle.coda_venus.proofs.Marked.{all_invalidated_held, invalidated_size}
use Rattle.coda_venus.proofs.venus.Venus.invalidate.Goals as goal

pub invariant_of-self : goal.invariant_of-self
invariant_of-self g c =
    let old = c.args.self.now in
    let held = ap held_in c.invalidate_all.ensures.left ∙ all_invalidated_held old.client.cache c.args.fids.now in
    record { numbered = old.numbered; spelled = subst AreSpelled (sym (ap (λ (h : Held). h.nodes) held)) old.spelled; sendable = old.sendable }

pub returns-clause-up : goal.returns-clause-up
returns-clause-up g c = λ header history up.
    let old = c.args.self.now in
    let state = state_of header history in
    let held = ap held_in c.invalidate_all.ensures.left ∙ all_invalidated_held old.client.cache c.args.fids.now in
    record {
      up = up.up;
      journal = up.journal;
      lawful = up.lawful;
      state = with_cache state old.client c.invalidate_all.new.cache state.held up.state (ap (λ (k : CacheState). k.size) c.invalidate_all.ensures.left ∙ invalidated_size old.client.cache c.args.fids.now) (up.state.held ∙ sym held);
    }
