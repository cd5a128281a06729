use Rattle.std.proofs.Common.{◌<◌, length, arith}
use Rattle.std.specs.declared.cmp.Ordering.TheVariants.{Less, Greater}
use Rattle.coda_resolve.proofs.Sorted.{compared, between_all, from_above, up_to}
use Rattle.coda_resolve.proofs.view.search_near.Goals as goal

pub search_after-requires-clause-between : goal.search_after-requires-clause-between
search_after-requires-clause-between c =
    let items = c.args.items.now in
    let within : c.args.near < length items = let h = c.if-near-items.false in omega arith in
    from_above items c.args.fid c.requires 0 (length items) c.args.near (between_all items c.args.fid) within
    (compared items c.args.fid c.args.near c.index-items-near.result Less within c.in-Less.ensures)

pub search_before-requires-in-Greater-clause-between : goal.search_before-requires-in-Greater-clause-between
search_before-requires-in-Greater-clause-between c =
    let items = c.args.items.now in
    let within : c.args.near < length items = let h = c.if-near-items.false in omega arith in
    up_to items c.args.fid c.requires 0 (length items) c.args.near (between_all items c.args.fid) (omega arith) within
    (compared items c.args.fid c.args.near c.index-items-near.result Greater within c.in-Greater.ensures)
