use Rattle.std.proofs.Common.{List, sym, ap, ◌∙◌, arith}
use Rattle.std.specs.List.{list_any}
use Rattle.std.specs.Ordering.{eq_by_cmp}
use Rattle.std.specs.BTreeSet as btree
use Rattle.coda_fid.specs.declared.fid.Fid.{Fid}
use Rattle.coda_fid.specs.Fid.{fid_cmp}
use Rattle.coda_cache.proofs.Hashed.{keys_listed}
use Rattle.coda_cache.proofs.Summed.{fresh_sorted}
use Rattle.coda_cache.proofs.Chosen.{fresh_queue, pinned_sum}
use Rattle.coda_cache.proofs.contents.Contents.blocks_pinned.Goals as goal

pub returns : goal.returns
returns c =
    let sum = pinned_sum c.args.self.now c.agree.ensures (fresh_queue c.args.queue.now c.args.self.now c.requires.queue) (btree.contains fid_cmp c.new-none.result) c.args.pinned.now.keys (fresh_sorted c.args.pinned.now.keys c.in_ok-blocks.ensures.rise)
    (λ g. ap (λ (l : List Fid). list_any (eq_by_cmp fid_cmp g) l) c.new-none.ensures.empty) (λ g. sym (keys_listed c.args.pinned.now.keys g) ∙ c.requires.pinned g) in
    let all = c.in_ok-blocks.ensures.sum in
    omega (arith, sum, all)
