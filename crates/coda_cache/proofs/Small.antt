-- Nodes stay small enough to be counted.
use Rattle.std.proofs.Common.{◌≡◌, ℕ, ◌<◌, ◌^◌, Bool, true, false, cond, List, Option, None, sym, ap, ◌∙◌, subst, inl, inr, arith}
use Rattle.std.specs.Option.{option_map_or}
use Rattle.std.specs.FinMap as map
use Rattle.coda_fid.specs.declared.fid.Fid.{Fid}
use Rattle.coda_fid.specs.Fid.{fid_cmp}
use Rattle.coda_fid.proofs.Fids.{fids_total, exact_fids}
use Rattle.coda_tree.specs.declared.node.Node.{Node}
use Rattle.coda_tree.specs.Blocks.{blocks_of}
use Rattle.coda_tree.specs.Volume.{Nodes}
use Rattle.coda_tree.proofs.Order.{fid_cases, get_here, get_else}
use Rattle.coda_walk.specs.Going.{is_listed}
use Rattle.coda_cache.specs.State.{AreSmall}
use Rattle.coda_cache.specs.Steps.{taken_from}
use Rattle.coda_cache.proofs.Taken.{taken_at}

-- the blocks of a node, 0 of none
abbrev blocks_held : Option Node → ℕ
blocks_held o = option_map_or (λ (node : Node). blocks_of node.kind) o 0

pub small_none : AreSmall map.empty
small_none f = subst (λ o. blocks_held o < 2 ^ 32) (sym (map.get-empty fid_cmp f)) (omega arith)

pub small_put : (nodes : Nodes) (f : Fid) (node : Node) → AreSmall nodes → blocks_of node.kind < 2 ^ 32 → AreSmall (map.insert nodes f node)
small_put nodes f node small few q = elim (fid_cases q f) [
  | inl same ↦ subst (λ o. blocks_held o < 2 ^ 32) (sym (ap (map.get (map.insert nodes f node)) same ∙ get_here fids_total nodes f node)) few
  | inr apart ↦ subst (λ o. blocks_held o < 2 ^ 32) (sym (get_else fids_total exact_fids nodes f node q apart)) (small q)
]

less : (b : Bool) (o : Option Node) → blocks_held o < 2 ^ 32 → blocks_held (cond b None o) < 2 ^ 32
less true o h = omega arith
less false o h = h

pub small_taken : (nodes : Nodes) (fids : List Fid) → AreSmall nodes → AreSmall (taken_from nodes fids)
small_taken nodes fids small q = subst (λ o. blocks_held o < 2 ^ 32) (sym (taken_at nodes fids q)) (less (is_listed fids q) (map.get nodes q) (small q))

pub small_same : (nodes now : Nodes) → now ≡ nodes → AreSmall nodes → AreSmall now
small_same nodes now same small = subst AreSmall (sym same) small
