use Rattle.std.proofs.Common.{◌&&◌, cond, sym, ap, ◌∙◌}
use Rattle.coda_fid.specs.Fid.{same_fid}
use Rattle.coda_cache.specs.Indexed.{is_kept_under}
use Rattle.coda_cache.proofs.Under.{first_kept}
use Rattle.coda_cache.proofs.children.begin.Goals as goal

pub returns-in_ok-insert : goal.returns-in_ok-insert
returns-in_ok-insert c = λ p f.
    first_kept c.args.parents.now c.insert.new.self c.args.parent c.args.fid c.in_ok-fids.fids c.in_ok-insert.ensures.updates.0 c.in_ok-fids.ensures c.requires p f
    ∙ ap (λ b. cond (same_fid c.args.parent p && same_fid c.args.fid f) b (is_kept_under c.args.parents.now p f)) (sym c.if-there.true)
