-- What a client can fetch in a cell that is kept: what was made, and nothing that the client would create later.
use Rattle.std.proofs.Common.{◌≡◌, ◌≢◌, ℕ, Option, Some, None, is_some, Result, Ok, refl, sym, ap, ◌∙◌, inl, inr, arith}
use Rattle.std.specs.FinMap as map
use Rattle.coda_fid.specs.declared.fid.Fid.{Fid}
use Rattle.coda_tree.specs.declared.node.Node.{Node}
use Rattle.coda_script.specs.declared.line.Strength.{Strength}
use Rattle.coda_script.specs.declared.line.Strength.TheVariants.{Strong, Weak, Down}
use Rattle.coda_plain.specs.Deeds.{IsMade, created_in, full_of}
use Rattle.coda_plain.specs.Decisions.{nodes_of}
use Rattle.coda_plain.specs.Moves.{done_on}
use Rattle.coda_plain.proofs.Soundness.{none_joins}
use Rattle.coda_venus.specs.declared.refused.Refused.{Refused}
use Rattle.coda_cell.specs.Looking.{offered}
use Rattle.coda_cell.specs.Made.{MadeCell, state_of}
use Rattle.coda_cell.specs.Runs.{IsKept}
use Rattle.coda_cell.specs.State.{ClientVolume, ReplicaState, CellState, new_client}
use Rattle.coda_cell.specs.Steps.{reached}
use Rattle.coda_cell.proofs.Histories.{nodes_are, number_stays, shown, volumes_are}
use Rattle.coda_cell.proofs.KeptCells.{lawful}
use Rattle.coda_cell.proofs.KeptLines.{replica_there}
use Rattle.coda_rounds.specs.Later.{IsLater}
use Rattle.coda_lines.specs.Clients.{as_client, given_by, source_at, sources_of}
use Rattle.coda_lines.specs.Working.{client_in}

-- a replica has the node that is given, and its server gives it
pub record IsGivenBy (s : CellState) (number : ℕ) (fid : Fid) (node : Node) (server : ℕ) : Type 0 where
  pub replica : ReplicaState
  pub there : s.replicas fid.volume ≡ Some replica
  pub has_it : map.get replica.tree.nodes fid ≡ Some node
  pub is : replica.server ≡ server
  pub linked : s.links number replica.server ≢ Down

given_is : (server at : ℕ) (fid : Fid) (o : Option Node) (node : Node)
    → given_by server fid o ≡ Ok (node, at) → (o ≡ Some node) × (server ≡ at)
given_is server at fid None node e = cc
given_is server at fid (Some given) node e =
    (let same : (given, server) ≡ (node, at) = ok_is (given, server) (node, at) e in
    (ap (λ (p : Node × ℕ). Some p.0) same, ap (λ (p : Node × ℕ). p.1) same))
  where
    ok_is : (x y : Node × ℕ) → (let r : Result (Node × ℕ) Refused = Ok x in r ≡ Ok y) → x ≡ y
    ok_is x y e = cc

reached_at : (strength : Strength) (r : ReplicaState) (fid : Fid) (node : Node)
    → offered (reached strength r) fid ≡ Some node → map.get r.tree.nodes fid ≡ Some node
reached_at Strong r fid node e = e
reached_at Weak r fid node e = e
reached_at Down r fid node e = cc

linked_by : (strength : Strength) (r : ReplicaState) (fid : Fid) (node : Node)
    → offered (reached strength r) fid ≡ Some node → strength ≢ Down
linked_by Strong r fid node e = λ same. cc
linked_by Weak r fid node e = λ same. cc
linked_by Down r fid node e = cc

pub source_is : (s : CellState) (number : ℕ) (fid : Fid) (node : Node) (server : ℕ)
    → sources_of s number fid ≡ Ok (node, server) → IsGivenBy s number fid node server
source_is s number fid node server e = by (s.replicas fid.volume) refl e
  where
    by : (o : Option ReplicaState) → s.replicas fid.volume ≡ o → source_at (s.links number) fid o ≡ Ok (node, server)
        → IsGivenBy s number fid node server
    by None there e = cc
    by (Some r) there e =
        let given = given_is r.server server fid (offered (reached (s.links number r.server) r) fid) node e in
        record {
          replica = r;
          there = there;
          has_it = reached_at (s.links number r.server) r fid node given.0;
          is = given.1;
          linked = linked_by (s.links number r.server) r fid node given.0;
        }

module _ (cell : MadeCell) (kept : IsKept cell) where
  -- a server that has the node, by what its history leaves
  pub record IsOfHistory (fid : Fid) (node : Node) : Type 0 where
    pub server : ℕ
    pub there : map.get (nodes_of fid.volume (cell.acted.replicas server fid.volume).history) fid ≡ Some node

  pub of_history : (number : ℕ) (fid : Fid) (node : Node) (server : ℕ)
      → sources_of (state_of cell) number fid ≡ Ok (node, server) → IsOfHistory fid node
  of_history number fid node server e =
      let g = source_is (state_of cell) number fid node server e in
      let r = replica_there cell kept fid.volume g.replica g.there in record {
        server = r.0;
        there =
            ap (λ m. map.get m fid)
            (sym (nodes_are r.0 fid.volume (cell.acted.replicas r.0 fid.volume).history)
            ∙ ap (λ (x : ReplicaState). x.tree.nodes) r.2) ∙ g.has_it;
      }

  -- what is given was made
  pub given_made : (number : ℕ) (fid : Fid) (node : Node) (server : ℕ)
      → sources_of (state_of cell) number fid ≡ Ok (node, server)
      → IsMade fid.volume (done_on cell.acted fid.vnode fid.volume) fid
  given_made number fid node server e =
      let h = of_history number fid node server e in
      (kept.sound.agree none_joins).held h.server fid.volume fid (ap is_some h.there)

  -- what was made isn't what a client would create later
  pub made_before : (number blocks volume : ℕ) (fid : Fid) → cell.sizes number ≡ Some blocks
      → IsLater (as_client (client_in cell number blocks)) volume fid
      → IsMade fid.volume (done_on cell.acted fid.vnode fid.volume) fid → ⊥
  made_before number blocks volume fid there later made =
      let history = (cell.acted.clients number).history in
      let own : fid.vnode ≡ number = later.1 ∙ number_stays (new_client number blocks) history in
      let counted : ((client_in cell number blocks).volumes volume).creations ≡ created_in (full_of (done_on cell.acted number volume)) =
      ap (λ (v : ClientVolume). v.creations) (volumes_are number blocks history volume)
      ∙ (shown (done_on cell.acted number volume) (lawful cell kept number volume)).creations in
      elim made.1 [
        | inl none ↦ kept.made.numbered number blocks there (sym own ∙ none)
        | inr few ↦ (let same : created_in (full_of (done_on cell.acted fid.vnode fid.volume)) ≡ created_in (full_of (done_on cell.acted number volume)) =
            (λ i. created_in (full_of (done_on cell.acted (own i) (later.0 i)))) in
            let less = later.2 in
            omega (arith, counted, few, same, less))
      ]
