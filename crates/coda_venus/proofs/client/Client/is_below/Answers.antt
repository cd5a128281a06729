use Rattle.std.proofs.Common.{◌≡◌, ◌≤◌, ◌-◌, cond, Option, Some, None, is_some, ap, ◌∙◌, arith}
use Rattle.std.specs.FinMap as map
use Rattle.coda_fid.specs.declared.fid.Fid.{Fid}
use Rattle.coda_fid.proofs.Fids.{fids_total}
use Rattle.coda_cache.specs.Parents.{Parents, parents_of, below_within}
use Rattle.coda_cache.proofs.Parents.{few_parents}
use Rattle.coda_cache.proofs.ParentsHeld.{as_many}
use Rattle.coda_cache.proofs.ParentsWays.{within_alike}
use Rattle.coda_venus.specs.Held.{is_below}
use Rattle.coda_venus.proofs.client.Client.is_below.Goals as goal

-- without a parent there are no more
fewer : (parents : Parents) (g : Fid) → map.len (map.remove parents g) ≤ map.len parents
fewer parents g = by (map.get parents g) (map.len-remove fids_total parents g)
  where
    by : (o : Option Fid) → map.len (map.remove parents g) ≡ cond (is_some o) (map.len parents - 1) (map.len parents) → map.len (map.remove parents g) ≤ map.len parents
    by None e = omega (arith, e)
    by (Some p) e = omega (arith, e)

pub returns : goal.returns
unfolding is_below
returns c =
    let k = c.args.self.now.cache in
    let parents = parents_of k.holds in
    let few = few_parents k.holds in
    let less = fewer parents c.args.fid in
    let many = as_many k.holds k.nodes c.agree.ensures.held in
    c.below_within.ensures ∙ ap (λ n. below_within parents n c.args.from c.args.fid) c.len.ensures
    ∙ within_alike parents c.args.fid (map.len k.nodes) (map.len parents) c.args.from (omega (arith, few, less, many)) less
