use Rattle.std.proofs.Common.{[], ◌∙◌, map, option_copied}
use Rattle.coda_resolve.proofs.Followed.{starts_empty, whole_log}
use Rattle.coda_resolve.proofs.log.merged_log.Goals as goal

pub returns : goal.returns
returns c =
    (c.in_ok-follow_copies.ensures [] (starts_empty c.new-stamps.result c.in_ok-ring.ring c.new-stamps.ensures.empty c.in_ok-ring.ensures)).last
    ∙ whole_log (map option_copied c.args.copies.now)
