use Rattle.std.proofs.Common.{ap, map, option_copied}
use Rattle.coda_resolve.proofs.Collected.{split_first}
use Rattle.coda_resolve.proofs.Led.{shared_first}
use Rattle.coda_resolve.proofs.claims.shared.Goals as goal

pub returns-in-len1-up : goal.returns-in-len1-up
returns-in-len1-up c =
    let split = ap (map option_copied) (split_first c.args.copies.now c.first-item.result c.in-len1-up.len_at_least c.first-item.is) in
    shared_first c.args.name.now _ _ _ c.bound-to.result c.all_bind.result c.where_alike.result split c.bound-to.ensures c.all_bind.ensures c.where_alike.ensures
