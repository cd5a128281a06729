use Rattle.std.proofs.Common.{◌≡◌, sym, ap, ◌∙◌}
use Rattle.coda_cache.specs.State.{CacheState}
use Rattle.coda_cache.specs.Steps.{put_in}
use Rattle.std.specs.Prelude.{None}
use Rattle.coda_record.specs.declared.entry.ClientEntry.TheVariants.{Fetched}
use Rattle.coda_venus.specs.Code.{IsClient, held_in}
use Rattle.coda_venus.specs.Held.{held_after_fetch}
use Rattle.coda_venus.specs.State.{client_after}
use Rattle.coda_venus.proofs.Cached.{fetch_held}
use Rattle.coda_venus.proofs.Entered.{kept_ok, with_cache}
use Rattle.coda_venus.proofs.client.Client.hold.Goals as goal

pub returns-clause-entered : goal.returns-clause-entered
returns-clause-entered c = λ s is.
    let old = c.args.self.now in
    let put = put_in old.cache c.args.fid c.args.parent c.args.node None in
    kept_ok c.put.result (c.put.new.self ≡ put) (IsClient (client_after s (Fetched c.args.fid c.args.parent c.args.node)) (record old { cache = c.put.new.self })) c.put.ensures.ok
    (λ same. with_cache s old c.put.new.self (held_after_fetch s.held c.args.fid c.args.parent c.args.node) is (ap (λ (k : CacheState). k.size) same)
    ((λ i. held_after_fetch (is.held i) c.args.fid c.args.parent c.args.node) ∙ sym (fetch_held old.cache c.args.fid c.args.parent c.args.node None c.agree.ensures c.requires) ∙ ap held_in (sym same)))
