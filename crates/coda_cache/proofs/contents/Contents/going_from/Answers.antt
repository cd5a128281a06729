use Rattle.std.proofs.Common.{sym, ap, ◌∙◌, arith}
use Rattle.coda_cache.specs.State.{CacheState}
use Rattle.coda_cache.specs.Indexed.{standings}
use Rattle.coda_cache.proofs.Hashed.{keys_listed}
use Rattle.coda_cache.proofs.Chosen.{fresh_queue, goes_for}
use Rattle.coda_cache.proofs.contents.Contents.going_from.Goals as goal

pub returns : goal.returns
returns c parent keep are =
    let size = ap (λ (x : CacheState). x.size) c.self.view_is in
    let old = c.blocks-2.ensures in
    let room = c.requires.room in
    c.in_ok-gone.ensures.fids c.args.stay.now.keys (standings c.args.self.now) c.requires.queue (keys_listed c.args.stay.now.keys)
    ∙ goes_for c.args.self.now c.agree.ensures (fresh_queue c.args.queue.now c.args.self.now c.requires.queue) c.args.fid parent c.args.blocks keep c.args.stay.now.keys (λ g. sym (keys_listed c.args.stay.now.keys g) ∙ are g) _
    (omega (arith, size, old, room))
