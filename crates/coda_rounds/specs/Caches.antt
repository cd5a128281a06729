-- The cache that the code of a client keeps is that of the client that serves, behind each of its calls.
use Rattle.std.specs.Prelude.{◌≡◌, ℕ, Bool, true, List, Some, None}
use Rattle.coda_fid.specs.Op.{fids_of}
use Rattle.coda_fid.specs.declared.fid.Fid.{Fid}
use Rattle.coda_fid.specs.declared.op.Op.{Op}
use Rattle.coda_fid.specs.declared.op.Record.{Record}
use Rattle.coda_tree.specs.declared.node.Node.{Node}
use Rattle.coda_plain.specs.Deeds.{Operated}
use Rattle.coda_walk.specs.Going.{is_listed}
use Rattle.coda_cache.specs.Room.{evicted_after}
use Rattle.coda_cache.specs.State.{empty_cache}
use Rattle.coda_cache.specs.Steps.{new_node}
use Rattle.coda_venus.specs.Accepting.{is_mentioned}
use Rattle.coda_venus.specs.Caching.{used_in, installed_in, performed_in, AreMentioned}
use Rattle.coda_venus.specs.History.{MayEnterAll}
use Rattle.coda_venus.specs.Operating.{MayBegin}
use Rattle.coda_venus.specs.Rounds.{Looked, Installed, Performed, parent_of_fetched, entries_of_step, serving_after}
use Rattle.coda_venus.specs.Serving.{ServingClient, cache_of, goes_for}
use Rattle.coda_venus.specs.State.{ClientState, volume_after}
use Rattle.coda_rounds.specs.Entering.{IsOrderly, StandWhereMade, IsInOrder, new_serving_client}

-- whether a record of the log of its volume mentions an object
abbrev pub mentioned_there : ClientState → Fid → Bool
mentioned_there c f = is_mentioned (c.volumes f.volume) f

-- of what an operation makes there is no valid copy
abbrev pub IsUncopied : ServingClient → Op → Type 0
IsUncopied s op = (dir f : Fid) → new_node op ≡ Some (dir, f) → s.beside.copies f ≡ None

-- What calls make of a cache is the cache of the client behind them: of one that was just made; behind look-ups; behind a
-- fetch, where nothing but a cached node has a parent; and behind an operation, with who goes for it, where the cache is in
-- order and what the log creates stands where it was made.
pub record CachesFollowClients : Type 0 where
  pub first : (number blocks : ℕ) → cache_of (new_serving_client number blocks) ≡ empty_cache blocks
  pub looked : (s : ServingClient) (fids : List Fid)
      → cache_of (serving_after s (Looked fids)) ≡ used_in (cache_of s) fids
  pub fetched : (s : ServingClient) (gone : List Fid) (fid : Fid) (node : Node) (server : ℕ) → IsOrderly s
      → cache_of (serving_after s (Installed gone fid (parent_of_fetched s.client.held fid) node server))
      ≡ installed_in (mentioned_there s.client) (cache_of s) gone fid (parent_of_fetched s.client.held fid) node server
  pub operated : (s : ServingClient) (gone : List Fid) (volume : ℕ) (rec : Record) → IsInOrder s
      → StandWhereMade s volume → MayBegin s.client.held.nodes rec.op
      → MayEnterAll s.client (entries_of_step (Performed gone volume rec)) → IsUncopied s rec.op
      → cache_of (serving_after s (Performed gone volume rec))
      ≡ performed_in (mentioned_there (serving_after s (Performed gone volume rec)).client) (cache_of s) gone s.client.number rec
  -- and who goes for an operation on a volume, all of whose objects are of the volume, is who goes as the cache tells it, by
  -- what the log mentions once the operation is performed
  pub room : (s : ServingClient) (volume : ℕ) (rec : Record) (looked mentioned : List Fid) → IsInOrder s
      → StandWhereMade s volume → MayBegin s.client.held.nodes rec.op → IsUncopied s rec.op
      → ((f : Fid) → is_listed (fids_of rec.op) f ≡ true → f.volume ≡ volume)
      → AreMentioned (volume_after (s.client.volumes volume) (Operated rec)) volume mentioned
      → goes_for s volume rec looked ≡ evicted_after (cache_of s) s.client.number volume rec mentioned looked
