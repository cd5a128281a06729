use Rattle.std.proofs.Common.{sym, ap, ◌∙◌}
use Rattle.coda_cache.specs.State.{CacheState}
use Rattle.coda_venus.specs.Code.{held_in}
use Rattle.coda_venus.specs.Held.{held_after_drop}
use Rattle.coda_venus.proofs.Cached.{drop_held}
use Rattle.coda_venus.proofs.Entered.{with_cache}
use Rattle.coda_venus.proofs.client.Client.enter_dropped.Goals as goal

pub returns-clause-leaves : goal.returns-clause-leaves
returns-clause-leaves c = λ s is.
    let old = c.args.self.now in
    with_cache s old c.take_out.new.self (held_after_drop s.held c.args.fid) is (ap (λ (k : CacheState). k.size) c.take_out.ensures)
    ((λ i. held_after_drop (is.held i) c.args.fid) ∙ sym (drop_held old.cache c.args.fid) ∙ ap held_in (sym c.take_out.ensures))
