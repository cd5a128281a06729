use Rattle.std.proofs.Common.{true, sym, ap, ◌∙◌}
use Rattle.std.specs.Prelude.{unwrap_or}
use Rattle.std.specs.FinMap as map
use Rattle.coda_cache.specs.State.{Priorities}
use Rattle.coda_cache.proofs.Foreseen.{parent_so, served_so}
use Rattle.coda_cache.proofs.contents.Contents.item_ahead.Goals as goal

pub returns : goal.returns
returns c = λ client n is are.
    let self = c.args.self.now in
    let p = c.args.prospect.now in
    λ i. record {
      fid = c.args.fid;
      parent = (c.parent_ahead.ensures ∙ parent_so self client c.args.rec.now n p is c.args.fid) i;
      priority = (c.priority.ensures ∙ ap (λ (m : Priorities). unwrap_or (map.get m c.args.fid) 0) (sym is.priorities)) i;
      blocks = c.in_ok-blocks.ensures client n is i;
      cached = true;
      served = (c.is_served_ahead.ensures ∙ served_so self client c.args.rec.now n p is c.args.fid) i;
      pinned = (c.contains.ensures ∙ are c.args.fid) i;
    }
