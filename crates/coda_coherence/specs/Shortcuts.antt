-- Two shortcuts that the callback fact doesn't bear: from cells that are reached, each leaves one in which the fact
-- is false.
use Rattle.std.specs.Prelude.{ℕ, Bool, not, ◌||◌, ◌&&◌, ◌==◌, ◌++◌, List, [], ◌∷◌, None}
use Rattle.std.specs.FinSet as set
use Rattle.coda_fid.specs.declared.fid.Fid.{Fid}
use Rattle.coda_callback.specs.Callbacks.{Callbacks}
use Rattle.coda_plain.specs.Decisions.{ReplicaEntry}
use Rattle.coda_coherence.specs.Cell.{CachingCell, CacheEvent, empty_caching_cell, put, put_pair, IsCacheRun}
use Rattle.coda_coherence.specs.Fact.{CallbackFact}
use Rattle.coda_coherence.specs.Changes.{changes}

-- a Break is lost, and the link between its ends stays up, as where it is pushed out of the pool
abbrev pub lost_with_link_up : CachingCell → ℕ → CachingCell
lost_with_link_up cell number = record cell { breaks = put cell.breaks number None }

-- promises of the objects that changed are broken, but for those of one client
abbrev pub broken_sparing : Callbacks → ℕ → (Fid → Bool) → Callbacks
broken_sparing s client changed = record {
  promises = set.retain s.promises (λ i. not (changed i.fid) || (i.client == client));
  outboxes = set.union s.outboxes (set.retain s.promises (λ i. changed i.fid && not (i.client == client)));
}

-- a replica's history has one entry more, and the promises of one client stay
abbrev pub decided_sparing : CachingCell → ℕ → ℕ → ℕ → ReplicaEntry → CachingCell
decided_sparing cell client server volume entry = record cell {
  histories = put_pair cell.histories server volume (cell.histories server volume ++ entry ∷ []);
  callbacks =
      put_pair cell.callbacks server volume
      (broken_sparing (cell.callbacks server volume) client (changes (cell.histories server volume) entry));
}

-- a cell that events reach from an empty one
pub record IsReachedCell (cell : CachingCell) : Type 0 where
  pub events : List CacheEvent
  pub runs : IsCacheRun changes (empty_caching_cell (λ client. 100)) events cell

-- each of the two leaves a cell, from one that is reached, in which the callback fact is false
pub record ShortcutsFail : Type 0 where
  pub lossy : (cell : CachingCell) × (number : ℕ) × IsReachedCell cell
      × (CallbackFact (lost_with_link_up cell number) → ⊥)
  pub sparing : (cell : CachingCell) × (client : ℕ) × (server : ℕ) × (volume : ℕ) × (entry : ReplicaEntry)
      × IsReachedCell cell × (CallbackFact (decided_sparing cell client server volume entry) → ⊥)
