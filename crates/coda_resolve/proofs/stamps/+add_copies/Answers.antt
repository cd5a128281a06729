use Rattle.std.proofs.Common.{ap, map, option_copied}
use Rattle.std.proofs.lemmas.Result.{on_ok_weaker}
use Rattle.coda_resolve.proofs.Collected.{split_first}
use Rattle.coda_resolve.proofs.Stamped.{copies_stamped}
use Rattle.coda_resolve.proofs.stamps.+add_copies.Goals as goal

pub returns-in_ok-add_copy-in-len1-up : goal.returns-in_ok-add_copy-in-len1-up
returns-in_ok-add_copy-in-len1-up t c =
    let split = ap (map option_copied) (split_first c.args.copies.now c.first-item.result c.in-len1-up.len_at_least c.first-item.is) in
    on_ok_weaker c.add_copies.result (λ more. copies_stamped c.args.stamps.now c.add_copy.new.stamps c.add_copies.new.stamps _ _ _ split c.in_ok-add_copy-in-len1-up.ensures more) c.add_copies.ensures
