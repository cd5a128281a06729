-- A client of a cell, and the one on a disk that is the same.
use Rattle.std.proofs.Common.{◌≡◌, ℕ, ◌||◌, Option, None, sym, ap}
use Rattle.std.specs.FinMap as map
use Rattle.coda_fid.specs.declared.fid.Fid.{Fid}
use Rattle.coda_tree.specs.Volume.{parent_of}
use Rattle.coda_tree.specs.declared.node.Node.{Node}
use Rattle.coda_cancel.specs.Dropping.{mentioning}
use Rattle.coda_cml.specs.Steady.{any_record}
use Rattle.coda_plain.specs.Cell.{Fetched}
use Rattle.coda_venus.specs.Accepting as venus
use Rattle.coda_venus.specs.Held.{Held, held_after_fetch}
use Rattle.coda_venus.specs.Keeping.{parent_for_of, parent_for}
use Rattle.coda_venus.specs.State as venus_state
use Rattle.coda_cell.specs.Accepting as cell
use Rattle.coda_cell.specs.State.{ClientState, client_after}
use Rattle.coda_matching.specs.Clients.{IsOneClient, payload_by}
use Rattle.coda_serving.proofs.Orphans.{HasNoOrphans, fetch_fits}

-- both are one client, which holds each object that has a parent
pub record IsPair (c : ClientState) (d : venus_state.ClientState) : Type 0 where
  pub one : IsOneClient c d
  pub orphans : HasNoOrphans d.held

-- ---- what both see

-- both hold the same nodes
pub nodes_are : (c : ClientState) (d : venus_state.ClientState) → IsPair c d → d.held.nodes ≡ c.held.nodes
nodes_are c d pair = λ i. (pair.one.held i).nodes

-- both see the same of a volume
pub sight_is : (c : ClientState) (d : venus_state.ClientState) (volume : ℕ) → IsOneClient c d → cell.sight_of c volume ≡ venus.sight_of d volume
sight_is c d volume one = λ i. record {
  number = sym one.number i;
  held = sym one.held i;
  creations = sym (one.volumes volume).creations i;
  is_dirty = λ fid. dirty fid i;
}
  where
    dirty : (fid : Fid) → cell.is_mentioned (c.volumes volume) fid ≡ venus.is_mentioned (d.volumes volume) fid
    dirty fid = λ i. any_record (mentioning fid) (sym (one.volumes volume).log i).chunk || any_record (mentioning fid) (sym (one.volumes volume).log i).records

-- ---- a fetch

-- what isn't held gets the first directory that binds it
pub parent_is : (h : Held) (fid : Fid) → HasNoOrphans h → map.get h.nodes fid ≡ None → parent_for h fid ≡ parent_of h.nodes fid
parent_is h fid orphans absent = ap (λ o. parent_for_of o h.nodes fid) (orphans fid absent)

-- both are one client behind a fetch
pub pair_fetched : (c : ClientState) (d : venus_state.ClientState) (fid : Fid) (parent : Option Fid) (node : Node) → IsPair c d
    → IsPair (client_after c (Fetched fid parent node)) (venus_state.client_after_all d (payload_by (Fetched fid parent node)))
pair_fetched c d fid parent node pair = record {
  one = record {
    number = pair.one.number;
    blocks = pair.one.blocks;
    held = λ i. held_after_fetch (pair.one.held i) fid parent node;
    volumes = pair.one.volumes;
  };
  orphans = fetch_fits d.held fid parent node pair.orphans;
}
