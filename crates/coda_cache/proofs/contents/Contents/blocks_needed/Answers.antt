use Rattle.std.proofs.Common.{◌+◌, sym, ap, ◌∙◌}
use Rattle.std.specs.BTreeSet as btree
use Rattle.coda_fid.specs.Fid.{fid_cmp}
use Rattle.coda_cache.proofs.Hashed.{keys_listed}
use Rattle.coda_cache.proofs.Summed.{fresh_sorted}
use Rattle.coda_cache.proofs.Chosen.{fresh_queue, needed_sum}
use Rattle.coda_cache.proofs.contents.Contents.blocks_needed.Goals as goal

pub returns : goal.returns
returns c fids are =
    c.in_ok-blocks.ensures.sum
    ∙ ap (λ n. c.args.more + n) (needed_sum c.args.self.now c.agree.ensures (fresh_queue c.args.queue.now c.args.self.now c.requires.queue) (btree.contains fid_cmp c.args.but.now) c.args.kept.now.keys (fresh_sorted c.args.kept.now.keys c.in_ok-blocks.ensures.rise)
    c.args.fid fids c.requires.but (λ g. sym (keys_listed c.args.kept.now.keys g) ∙ are g))
