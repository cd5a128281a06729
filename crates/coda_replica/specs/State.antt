-- One server's copy of a volume at a moment, and what a decision makes of it.
use Rattle.std.specs.Prelude.{ℕ, List, Option, Some, None, refl}
use Rattle.std.specs.Coded.{Coded, code_by, coded×, coded_ℕ}
use Rattle.std.specs.FinMap as map
use Rattle.std.specs.Ordering.{nat_cmp}
use Rattle.coda_fid.specs.declared.op.Record.{Record}
use Rattle.coda_tree.specs.declared.node.Node.{Node}
use Rattle.coda_tree.specs.Volume.{Tree, coded_tree, fresh}
use Rattle.coda_certify.specs.declared.verdict.Verdict.TheVariants.{Applied}
use Rattle.coda_certify.specs.Replay.{replay}
use Rattle.coda_certify.specs.Verdicts.{verdict_of, nodes_left}
use Rattle.coda_plain.specs.Decisions as plain
use Rattle.coda_record.specs.declared.last.Last.{Last}

-- the last decision for each client that has one, by client
abbrev pub Lasts : Type 0
Lasts = map.FinMap nat_cmp Last

-- A replica: the server that has it, the volume as this server has it, and for each client the number of the last chunk that was
-- decided, with its verdict.
pub record ReplicaState : Type 0 where
  pub server : ℕ
  pub tree : Tree
  pub lasts : Lasts

-- a replica as its three fields, and back
abbrev pub coded_replica : Coded Node → Coded Last → Coded ReplicaState
coded_replica node last =
    code_by (ℕ × (Tree × Lasts)) (coded× coded_ℕ (coded× (coded_tree node) (map.code coded_ℕ last))) (λ r. (r.server, (r.tree, r.lasts))) (λ p. record { server = p.0; tree = p.1.0; lasts = p.1.1 }) (λ _. refl)

-- a replica that was just made: of a fresh volume, on which nothing was decided
abbrev pub new_replica : ℕ → ℕ → ReplicaState
new_replica volume server = record { server = server; tree = fresh volume; lasts = map.empty }

-- a last decision as histories have it: of number 0 where there is none
abbrev pub number_and_verdict : Option Last → plain.Last
number_and_verdict None = record { number = 0; verdict = Applied }
number_and_verdict (Some last) = record { number = last.number; verdict = last.verdict }

-- the number of a client's last chunk that was decided, and its verdict
abbrev pub last_for : ReplicaState → ℕ → plain.Last
last_for r client = number_and_verdict (map.get r.lasts client)

-- the last decisions, with what stood there before for one client
abbrev pub put_back : Lasts → ℕ → Option Last → Lasts
put_back lasts client None = map.remove lasts client
put_back lasts client (Some last) = map.insert lasts client last

-- a replica that has decided a client's chunk of these records: all of them are applied, or none, and the verdict is kept
abbrev pub decided : ReplicaState → ℕ → ℕ → List Record → ReplicaState
decided r client number recs = record r {
  tree = record r.tree { nodes = nodes_left r.tree.nodes (replay r.tree.nodes client recs) };
  lasts = map.insert r.lasts client (record { client = client; number = number; verdict = verdict_of (replay r.tree.nodes client recs) });
}

-- a replica with another last decision of a client, or with none
abbrev pub with_last : ReplicaState → ℕ → Option Last → ReplicaState
with_last r client was = record r { lasts = put_back r.lasts client was }
