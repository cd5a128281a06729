-- A cache stays in order behind each step.
use Rattle.std.proofs.Common.{◌≡◌, ℕ, true, List, [], ◌∷◌, Option, Some, None, IsSome, is_some}
use Rattle.std.proofs.Common.{sym, ap, ◌∙◌, subst, inl, inr}
use Rattle.std.specs.List.{IsDistinct}
use Rattle.std.specs.FinMap as map
use Rattle.coda_fid.specs.Fid.{same_fid}
use Rattle.coda_fid.specs.declared.fid.Fid.{Fid}
use Rattle.coda_fid.specs.declared.op.Record.{Record}
use Rattle.coda_fid.proofs.Fids.{fids_total, exact_fids}
use Rattle.coda_tree.specs.declared.node.Node.{Node}
use Rattle.coda_tree.proofs.Order.{fid_cases, get_else}
use Rattle.coda_cache.specs.Steps.{new_node}
use Rattle.coda_cache.specs.Uses.{latest}
use Rattle.coda_cache.proofs.Agreeing.{latest_here}
use Rattle.coda_cache.proofs.Kept.{distinct_latest}
use Rattle.coda_walk.specs.Going.{is_listed}
use Rattle.coda_histories.specs.Forests.{IsForest}
use Rattle.coda_histories.proofs.Entries.{entered_all}
use Rattle.coda_record.specs.declared.entry.ClientEntry.TheVariants as entry
use Rattle.coda_venus.specs.State.{ClientState, client_after}
use Rattle.coda_venus.specs.Serving.{ServingClient, used_new}
use Rattle.coda_venus.specs.Rounds.{RoundStep, Looked, Installed, Turned, Performed, entries_of_step, serving_after}
use Rattle.coda_rounds.specs.Entering.{IsInOrder}
use Rattle.coda_rounds.specs.Orders.{StepsLeaveOrder}
use Rattle.coda_rounds.specs.Orders.{AllStepsLeaveOrder}
use Rattle.coda_rounds.proofs.Fetching.{was_cached}
use Rattle.coda_rounds.proofs.HeldBehind.{held_before}
use Rattle.coda_rounds.proofs.InOrder.{order_looked, used_latest}
use Rattle.coda_rounds.proofs.Replies.{left_of, drops_first}

-- the cached nodes are a forest
pub forest_of : (s : ServingClient) → IsInOrder s → IsForest s.client.held
forest_of s k = record { kids = k.orderly.cached; parents = k.parents; depth = k.depth; deeper = k.deeper }

-- each cached node was used, where each is one that was cached before and was used, or is the last that was
abbrev AreUsed : ClientState → List Fid → Type 0
AreUsed c uses = (f : Fid) → IsSome (map.get c.held.nodes f) → is_listed uses f ≡ true

order_of : (s : ServingClient) → IsForest s.client.held → AreUsed s.client s.beside.uses
    → IsDistinct same_fid s.beside.uses → IsInOrder s
order_of s forest used once = record {
  orderly = record { used = used; cached = forest.kids };
  once = once;
  depth = forest.depth;
  parents = forest.parents;
  deeper = forest.deeper;
}

-- ---- what is cached behind a step was used

used_fetched : (c : ClientState) (gone uses : List Fid) (fid : Fid) (parent : Option Fid) (node : Node) → AreUsed c uses
    → AreUsed (client_after (left_of c gone) (entry.Fetched fid parent node)) (latest uses fid)
used_fetched c gone uses fid parent node used f there = elim (fid_cases f fid) [
  | inl same ↦ ap (is_listed (latest uses fid)) same ∙ latest_here uses fid
  | inr off ↦ used_latest uses fid f (used f (was_cached c gone f
      (ap is_some (sym (get_else fids_total exact_fids (left_of c gone).held.nodes fid node f off)) ∙ there)))
]

listed_new : (uses : List Fid) (o : Option (Fid × Fid)) (f : Fid) → is_listed uses f ≡ true
    → is_listed (used_new uses o) f ≡ true
listed_new uses None f on = on
listed_new uses (Some made) f on = used_latest uses made.1 f on

listed_made : (uses : List Fid) (o : Option (Fid × Fid)) (dir f : Fid) → o ≡ Some (dir, f)
    → is_listed (used_new uses o) f ≡ true
listed_made uses o dir f e =
    ap (λ (m : Option (Fid × Fid)). is_listed (used_new uses m) f) e ∙ latest_here uses f

used_operated : (c : ClientState) (gone uses : List Fid) (volume : ℕ) (rec : Record) → AreUsed c uses
    → AreUsed (client_after (left_of c gone) (entry.Op volume rec)) (used_new uses (new_node rec.op))
used_operated c gone uses volume rec used f there =
    elim (held_before (left_of c gone).held (left_of c gone).number rec f there).1 [
      | inl was ↦ listed_new uses (new_node rec.op) f (used f (was_cached c gone f was))
      | inr made ↦ listed_made uses (new_node rec.op) made.0 f made.1
    ]

distinct_new : (uses : List Fid) (o : Option (Fid × Fid)) → IsDistinct same_fid uses
    → IsDistinct same_fid (used_new uses o)
distinct_new uses None d = d
distinct_new uses (Some made) d = distinct_latest uses made.1 d

-- ---- a step

pub steps_leave_order : StepsLeaveOrder
steps_leave_order s (Looked fids) order may keeps = (order_looked s fids order.0, order.1)
steps_leave_order s (Turned fid server) order may keeps = (order.0, order.1)
steps_leave_order s (Installed gone fid parent node server) order may keeps =
    let step : RoundStep = Installed gone fid parent node server in
    let grown = entered_all s.client (entries_of_step step) may keeps (forest_of s order.0, order.1) in (
      order_of (serving_after s step) grown.0
          (subst (λ (c : ClientState). AreUsed c (latest s.beside.uses fid)) (sym (drops_first s.client gone (entry.Fetched fid parent node ∷ [])))
          (used_fetched s.client gone s.beside.uses fid parent node order.0.orderly.used))
          (distinct_latest s.beside.uses fid order.0.once),
      grown.1,
    )
steps_leave_order s (Performed gone volume rec) order may keeps =
    let step : RoundStep = Performed gone volume rec in
    let grown = entered_all s.client (entries_of_step step) may keeps (forest_of s order.0, order.1) in (
      order_of (serving_after s step) grown.0
          (subst (λ (c : ClientState). AreUsed c (used_new s.beside.uses (new_node rec.op))) (sym (drops_first s.client gone (entry.Op volume rec ∷ [])))
          (used_operated s.client gone s.beside.uses volume rec order.0.orderly.used))
          (distinct_new s.beside.uses (new_node rec.op) order.0.once),
      grown.1,
    )

pub all_steps_leave_order : AllStepsLeaveOrder
all_steps_leave_order s [] order may keeps = order
all_steps_leave_order s (step ∷ steps) order may keeps =
    all_steps_leave_order (serving_after s step) steps (steps_leave_order s step order may.0 keeps.0) may.1 keeps.1
