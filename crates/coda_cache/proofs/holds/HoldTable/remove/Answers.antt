use Rattle.std.proofs.Common.{ap, ◌∙◌}
use Rattle.coda_cache.specs.State.{Holds}
use Rattle.coda_cache.specs.Held.{holds_of, below_in, below_of}
use Rattle.coda_cache.specs.Steps.{taken_from, except_all}
use Rattle.coda_cache.proofs.Removed.{below_same, taken_same, except_same}
use Rattle.coda_cache.proofs.holds.HoldTable.remove.Goals as goal

pub returns-clause-nodes : goal.returns-clause-nodes
returns-clause-nodes c =
    let holds = c.self.inside.holds in
    c.take_below.ensures.nodes
    ∙ taken_same c.args.nodes.now (below_in holds c.args.fid) (below_of (holds_of holds.entries) c.args.fid) (below_same holds c.args.fid c.len-count.ensures.unique)
    ∙ ap (λ (m : Holds). taken_from c.args.nodes.now (below_of m c.args.fid)) c.self.view_is

pub returns-clause-recency : goal.returns-clause-recency
returns-clause-recency c =
    let holds = c.self.inside.holds in
    c.take_below.ensures.recency
    ∙ except_same c.args.recency.now (below_in holds c.args.fid) (below_of (holds_of holds.entries) c.args.fid) (below_same holds c.args.fid c.len-count.ensures.unique)
    ∙ ap (λ (m : Holds). except_all c.args.recency.now (below_of m c.args.fid)) c.self.view_is
