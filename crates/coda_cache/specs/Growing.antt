-- By how many blocks nodes grow.
use Rattle.std.specs.Prelude.{ℕ, ◌+◌, ◌-◌, List, [], ◌∷◌}
use Rattle.coda_fid.specs.declared.fid.Fid.{Fid}
use Rattle.coda_fid.specs.declared.op.Record.{Record}
use Rattle.coda_certify.specs.Replay.{applied}
use Rattle.coda_cache.specs.State.{CacheState, blocks_in, blocks_at}

-- the blocks that a node takes in one cache more than in another
abbrev pub growth_of : CacheState → CacheState → Fid → ℕ
growth_of before after f = blocks_at after f - blocks_at before f

-- and those of nodes together
abbrev pub growth_on : CacheState → CacheState → List Fid → ℕ
growth_on before after [] = 0
growth_on before after (f ∷ fids) = growth_of before after f + growth_on before after fids

-- by how many blocks a node grows as an operation of a client is applied to the cached ones
abbrev pub growth_by : CacheState → ℕ → Record → Fid → ℕ
growth_by c client rec f = blocks_in (applied c.nodes client rec) f - blocks_at c f

-- and nodes together
abbrev pub growth_by_on : CacheState → ℕ → Record → List Fid → ℕ
growth_by_on c client rec [] = 0
growth_by_on c client rec (f ∷ fids) = growth_by c client rec f + growth_by_on c client rec fids
