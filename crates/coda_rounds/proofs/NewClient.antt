-- A client that was just made is ready.
use Rattle.std.proofs.Common.{◌≡◌, ℕ, Some, Option, IsSome, is_some, sym, ap, ◌∙◌}
use Rattle.std.proofs.lemmas.Bool.{false≢true}
use Rattle.std.proofs.lemmas.Option.{none-some}
use Rattle.std.specs.List.{IsDistinct}
use Rattle.std.specs.FinMap as map
use Rattle.coda_fid.specs.Fid.{fid_cmp}
use Rattle.coda_fid.specs.declared.fid.Fid.{Fid}
use Rattle.coda_tree.specs.declared.node.Node.{Node}
use Rattle.coda_tree.specs.Volume.{Nodes}
use Rattle.coda_venus.specs.Held.{Parents}
use Rattle.coda_rounds.specs.Entering.{IsInOrder, new_serving_client, NewClientsAreReady}

nothing_there : (f : Fid) → (let m : Nodes = map.empty in IsSome (map.get m f)) → ⊥
nothing_there f there = false≢true (ap (λ (o : Option Node). is_some o) (sym (map.get-empty fid_cmp f)) ∙ there)

pub no_parent : (f p : Fid) → (let m : Parents = map.empty in map.get m f ≡ Some p) → ⊥
no_parent f p at = none-some p (sym (map.get-empty fid_cmp f) ∙ at)

pub in_order : (number blocks : ℕ) → IsInOrder (new_serving_client number blocks)
unfolding IsDistinct
in_order number blocks = record {
  orderly = record {
    used = λ f there. absurd (nothing_there f there);
    cached = λ f p at. absurd (no_parent f p at);
  };
  once = tt;
  depth = λ f. 0;
  parents = λ f p at. absurd (no_parent f p at);
  deeper = λ f p at. absurd (no_parent f p at);
}

pub new_clients_are_ready : NewClientsAreReady
new_clients_are_ready sources number blocks volume nowhere = record {
  order = in_order number blocks;
  stand = λ dir f undone makes. absurd (false≢true undone);
  within = λ f mentioned. absurd (false≢true mentioned);
  free = map.get-empty fid_cmp _;
  nowhere = nowhere;
}
