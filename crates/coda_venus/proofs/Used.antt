-- What stays as it was in a cache, and in its client, where objects are used.
use Rattle.std.proofs.Common.{◌≡◌, Bool, true, false, cond, List, [], ◌∷◌, refl, sym, ap, ◌∙◌}
use Rattle.coda_fid.specs.declared.fid.Fid.{Fid}
use Rattle.coda_cache.specs.State.{CacheState, is_cached}
use Rattle.coda_cache.specs.Steps.{used}
use Rattle.coda_cache.specs.Uses.{latest}
use Rattle.coda_venus.specs.Caching.{used_in}
use Rattle.coda_venus.specs.Code.{IsClient, held_in}
use Rattle.coda_venus.specs.State.{ClientState}
use Rattle.coda_venus.specs.declared.client.Client.{Client}
use Rattle.coda_venus.proofs.Entered.{with_cache}

-- all but the order of use
pub used_as : {A : Type 0} (part : CacheState → A)
    → ((c : CacheState) (fids : List Fid) → part (record c { recency = fids }) ≡ part c)
    → (c : CacheState) (fids : List Fid) → part (used_in c fids) ≡ part c
used_as part same c [] = refl
used_as part same c (fid ∷ fids) = used_as part same (used c fid) fids ∙ by (is_cached c fid)
  where
    by : (there : Bool) → part (cond there (record c { recency = latest c.recency fid }) c) ≡ part c
    by true = same c (latest c.recency fid)
    by false = refl

pub used_nodes : (c : CacheState) (fids : List Fid) → (used_in c fids).nodes ≡ c.nodes
used_nodes c fids = used_as (λ (k : CacheState). k.nodes) (λ k more. refl) c fids

-- so the client is the same
pub used_client : (s : ClientState) (code : Client) (cache : CacheState) (fids : List Fid) → IsClient s code
    → cache ≡ used_in code.cache fids → IsClient s (record code { cache = cache })
used_client s code cache fids is e =
    with_cache s code cache s.held is
    (ap (λ (k : CacheState). k.size) e ∙ used_as (λ (k : CacheState). k.size) (λ k more. refl) code.cache fids)
    (is.held ∙ sym (ap held_in e ∙ used_as held_in (λ k more. refl) code.cache fids))
