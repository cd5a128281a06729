-- A draft of a volume.
use Rattle.std.specs.Prelude.{ℕ, refl}
use Rattle.std.specs.Coded.{Coded, code_by, coded×, coded_ℕ}
use Rattle.coda_tree.specs.declared.node.Node.{Node}
use Rattle.coda_tree.specs.Volume.{Nodes, Tree, coded_nodes}

-- the volume's number, its nodes before the edits of the draft, and the nodes after them
pub record Drafted : Type 0 where
  pub number : ℕ
  pub start : Nodes
  pub nodes : Nodes

-- the code of a draft, from that of a node
abbrev pub coded_drafted : Coded Node → Coded Drafted
coded_drafted node =
    code_by (ℕ × (Nodes × Nodes)) (coded× coded_ℕ (coded× (coded_nodes node) (coded_nodes node))) (λ d. (d.number, (d.start, d.nodes))) (λ p. record { number = p.0; start = p.1.0; nodes = p.1.1 }) (λ _. refl)

-- a draft without edits
abbrev pub fresh_draft : Tree → Drafted
fresh_draft t = record { number = t.number; start = t.nodes; nodes = t.nodes }

-- the volume that the edits make
abbrev pub committed : Drafted → Tree
committed d = record { number = d.number; nodes = d.nodes }

-- the volume before them
abbrev pub rolled_back : Drafted → Tree
rolled_back d = record { number = d.number; nodes = d.start }

-- the draft with other nodes now
abbrev pub with_nodes : Drafted → Nodes → Drafted
with_nodes d n = record { number = d.number; start = d.start; nodes = n }
