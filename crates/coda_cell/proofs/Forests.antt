-- What a client holds stays a forest behind look-ups.
use Rattle.std.proofs.Common.{◌≡◌, true, Option, Some, None, is_some, refl, sym, ap, ◌∙◌, inl, inr}
use Rattle.std.specs.FinMap as map
use Rattle.coda_fid.specs.declared.fid.Fid.{Fid}
use Rattle.coda_fid.proofs.Fids.{fids_total, exact_fids}
use Rattle.coda_tree.specs.declared.node.Node.{Node}
use Rattle.coda_tree.specs.Volume.{Nodes, has, parent_of}
use Rattle.coda_tree.proofs.Order.{fid_cases, get_here, get_else}
use Rattle.coda_venus.specs.Held.{Held, held_after_fetch}
use Rattle.coda_histories.specs.Forests.{IsForest}
use Rattle.coda_histories.proofs.Forests.{forest_same, forest_fetched}
use Rattle.coda_cell.specs.Held.{held_after_fetches}
use Rattle.coda_cell.specs.Looking.{offered, fetch_of, looked}

-- an object that wasn't held is held below the first directory that binds it, if any
forest_fetch : (h : Held) (fid : Fid) (parent : Option Fid) (node : Node) → map.get h.nodes fid ≡ None → parent ≡ parent_of h.nodes fid → IsForest h → IsForest (held_after_fetch h fid parent node)
forest_fetch h fid None node new from forest = forest_same h (map.insert h.nodes fid node) stay forest
  where
    stay : (f : Fid) → has h.nodes f ≡ true → has (map.insert h.nodes fid node) f ≡ true
    stay f there = elim (fid_cases f fid) [
      | inl same ↦ ap is_some (ap (map.get (map.insert h.nodes fid node)) same ∙ get_here fids_total h.nodes fid node)
      | inr other ↦ ap is_some (get_else fids_total exact_fids h.nodes fid node f other) ∙ there
    ]
forest_fetch h fid (Some dir) node new from forest = forest_fetched h fid (Some dir) node (inr (new, inr (sym from))) forest

-- a look-up fetches what isn't held
pub forest_look : (offers : Option Nodes) (h : Held) (fid : Fid) → IsForest h → IsForest (looked offers h fid)
forest_look offers h fid forest = by (map.get h.nodes fid) (offered offers fid) refl
  where
    by : (o offer : Option Node) → map.get h.nodes fid ≡ o → IsForest (held_after_fetches h (fetch_of o offer (parent_of h.nodes fid) fid))
    by (Some node) offer e = forest
    by None (Some node) e = forest_fetch h fid (parent_of h.nodes fid) node e refl forest
    by None None e = forest
