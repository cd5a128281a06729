-- What a client fetches is what the volume's server holds.
use Rattle.std.proofs.Common.{◌≡◌, ℕ, Bool, true, false, List, [], ◌∷◌, Option, Some, None, refl, sym, ap, ◌∙◌, inl, inr, ◌⊎◌, ◌≢◌, cond}
use Rattle.std.specs.FinMap as map
use Rattle.std.specs.Option.{option_and_then, option_map_or}
use Rattle.std.proofs.lemmas.Bool.{false≢true, ne_eqb}
use Rattle.std.proofs.lemmas.Option.{none-some}
use Rattle.coda_fid.specs.declared.fid.Fid.{Fid}
use Rattle.coda_fid.proofs.Fids.{fids_total, exact_fids}
use Rattle.coda_tree.specs.declared.node.Node.{Node}
use Rattle.coda_tree.specs.Volume.{Nodes, parent_of}
use Rattle.coda_tree.proofs.Order.{fid_cases, get_here, get_else}
use Rattle.coda_plain.specs.Histories.{In}
use Rattle.coda_script.specs.declared.line.Line.TheVariants as line
use Rattle.coda_script.specs.declared.line.Task.{Task}
use Rattle.coda_script.specs.declared.line.Strength.{Strength}
use Rattle.coda_script.specs.declared.line.Strength.TheVariants.{Strong, Weak, Down}
use Rattle.coda_cell.specs.Held.{held_after_fetches, Fetch}
use Rattle.coda_venus.specs.Held.{Held, held_after_fetch}
use Rattle.coda_cell.specs.Looking.{offered, fetch_of, looked}
use Rattle.coda_cell.specs.State.{put, ReplicaState, CellState}
use Rattle.coda_cell.specs.Steps.{reached, offers_of}
use Rattle.coda_shelves.specs.Cells.{Cell, state_of}
use Rattle.coda_shelves.specs.Lines.{is_cut, task_on, links_to, replica_down}
use Rattle.coda_runs.proofs.Meeting.{IsMet}
use Rattle.coda_runs.specs.Performed.{CanReach, HasFetched}

-- what a family has at another number
pub put_off : {A : Type 0} (f : ℕ → A) (k q : ℕ) (x : A) → q ≢ k → put f k x q ≡ f q
put_off f k q x ne = ap (λ b. cond b x (f q)) (ne_eqb q k ne)

-- ---- what was held stays

abbrev pub Keeps : Nodes → Held → Type 0
Keeps old h = (fid : Fid) (node : Node) → map.get old fid ≡ Some node → map.get h.nodes fid ≡ Some node

pub keeps_look : (old : Nodes) (offers : Option Nodes) (h : Held) (fid : Fid) → Keeps old h → Keeps old (looked offers h fid)
keeps_look old offers h fid keeps = by (map.get h.nodes fid) (offered offers fid) refl
  where
    by : (o offer : Option Node) → map.get h.nodes fid ≡ o → Keeps old (held_after_fetches h (fetch_of o offer (parent_of h.nodes fid) fid))
    by (Some node) offer e = keeps
    by None (Some new) e = λ f node is. elim (fid_cases f fid) [
      | inl same ↦ absurd (none-some node (sym e ∙ sym (ap (map.get h.nodes) same) ∙ keeps f node is))
      | inr other ↦ get_else fids_total exact_fids h.nodes fid new f other ∙ keeps f node is
    ]
    by None None e = keeps

-- ---- what is held now was held or fetched

abbrev IsFetch : List Fetch → Fid → Node → Type 0
IsFetch fetches fid node = (fetch : Fetch) × In fetch fetches × (fetch.fid ≡ fid) × (fetch.node ≡ node)

some_node : (x y : Node) → Some x ≡ Some y → x ≡ y
some_node x y e = cc

pub held_or_fetched : (h : Held) (fetches : List Fetch) (fid : Fid) (node : Node) → map.get (held_after_fetches h fetches).nodes fid ≡ Some node → (map.get h.nodes fid ≡ Some node) ⊎ IsFetch fetches fid node
held_or_fetched h [] fid node is = inl is
held_or_fetched h (fetch ∷ fetches) fid node is = elim (held_or_fetched (held_after_fetch h fetch.fid fetch.parent fetch.node) fetches fid node is) [
  | inl was ↦ elim (fid_cases fid fetch.fid) [
    | inl same ↦ (
        let both : Some fetch.node ≡ Some node = sym (ap (map.get (map.insert h.nodes fetch.fid fetch.node)) same ∙ get_here fids_total h.nodes fetch.fid fetch.node) ∙ was in
        inr (fetch, inl refl, sym same, some_node fetch.node node both))
    | inr other ↦ inl (sym (get_else fids_total exact_fids h.nodes fetch.fid fetch.node fid other) ∙ was)
  ]
  | inr later ↦ inr (later.0, inr later.1, later.2, later.3)
]

-- ---- of a server

nodes_of_server : (strengths : ℕ → Strength) (o : Option ReplicaState) (nodes : Nodes) → option_and_then (λ (r : ReplicaState). reached (strengths r.server) r) o ≡ Some nodes → (r : ReplicaState) × (o ≡ Some r) × (nodes ≡ r.tree.nodes) × (is_cut (strengths r.server) ≡ false)
nodes_of_server strengths None nodes e = cc
nodes_of_server strengths (Some r) nodes e = (let found = by (strengths r.server) e in (r, refl, found.0, found.1))
  where
    by : (strength : Strength) → reached strength r ≡ Some nodes → (nodes ≡ r.tree.nodes) × (is_cut strength ≡ false)
    by Strong h = ((let same : r.tree.nodes ≡ nodes = cc in sym same), refl)
    by Weak h = ((let same : r.tree.nodes ≡ nodes = cc in sym same), refl)
    by Down h = cc

-- what look-ups fetch that are offered what the server holds
pub has_fetched : (s : CellState) (client volume : ℕ) (Reached : ℕ → Type 0) → ((server : ℕ) → is_cut (s.links client server) ≡ false → Reached server) → (h : Held) (fetches : List Fetch) → Keeps h.nodes (held_after_fetches h fetches)
    → ((fetch : Fetch) → In fetch fetches → (nodes : Nodes) × (offers_of s client volume ≡ Some nodes) × (map.get nodes fetch.fid ≡ Some fetch.node))
    → HasFetched Reached s.replicas volume h.nodes (held_after_fetches h fetches).nodes
has_fetched s client volume Reached reach h fetches keeps offers = record {
  keeps = keeps;
  served = λ fid node is. elim (held_or_fetched h fetches fid node is) [
    | inl was ↦ inl was
    | inr f ↦ (
        let from = offers f.0 f.1 in
        let at = nodes_of_server (s.links client) (s.replicas volume) from.0 from.1 in
        inr (at.0, at.1, reach at.0.server at.3, ap (map.get at.0.tree.nodes) (sym f.2) ∙ ap (λ (ns : Nodes). map.get ns f.0.fid) (sym at.2) ∙ from.2 ∙ ap Some f.3))
  ];
}

-- ---- who is reached

-- a link to a replica that is down carries nothing
pub can_reach : (cell : Cell) (client volume server : ℕ) → is_cut (links_to cell volume client server) ≡ false → CanReach cell client volume server
can_reach cell client volume server up = by (replica_down cell server volume) refl up
  where
    by : (b : Bool) → replica_down cell server volume ≡ b → is_cut (cond b Down (cell.links client server)) ≡ false → CanReach cell client volume server
    by true down e = absurd (false≢true (sym e))
    by false down e = (e, down)

-- the links over which a task acts that is of a client and a volume
pub reaches : (cell : Cell) (t : Task) (at : IsMet cell (line.Task t)) (client volume server : ℕ) → task_on t ≡ Some (client, volume) → is_cut (at.links client server) ≡ false → CanReach cell client volume server
reaches cell t at client volume server on up =
    let here : links_to cell volume ≡ at.links =
    ap (λ (q : CellState). q.links) (sym (ap (λ (o : Option (ℕ × ℕ)). option_map_or (λ (p : ℕ × ℕ). record (state_of cell) { links = links_to cell p.1 }) o (state_of cell)) on) ∙ at.is) in
    can_reach cell client volume server (ap (λ (l : ℕ → ℕ → Strength). is_cut (l client server)) here ∙ up)
