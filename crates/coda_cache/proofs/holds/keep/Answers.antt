use Rattle.std.proofs.Common.{rules}
use Rattle.coda_tree.specs.Volume.{has}
use Rattle.coda_cache.proofs.Removed.{kept_where, keyed_where}
use Rattle.coda_cache.proofs.holds.keep.Goals as goal

pub returns : goal.returns
returns c = keyed_where (has c.args.nodes.now) _ _ (kept_where _ (has c.args.nodes.now) _ (λ k v b w f' t. search rules) _ _ c.retain.ensures.filtered)
