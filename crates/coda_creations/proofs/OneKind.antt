-- In a cell to which lines lead, an object is of one kind, whoever has it.
use Rattle.std.proofs.Common.{◌≡◌, ℕ, true, List, [], ◌∷◌, Some, refl, sym, ap, ◌∙◌, subst, inl}
use Rattle.std.specs.FinMap as map
use Rattle.std.proofs.lemmas.Option.{none-some}
use Rattle.coda_fid.specs.Fid.{fid_cmp, root_of}
use Rattle.coda_fid.specs.declared.fid.Fid.{Fid}
use Rattle.coda_tree.specs.declared.node.Node.{Node}
use Rattle.coda_tree.specs.declared.node.NodeKind.{NodeKind}
use Rattle.coda_tree.specs.declared.node.NodeKind.TheVariants.{File, Link, Dir}
use Rattle.coda_tree.specs.Bindings.{Name}
use Rattle.coda_tree.specs.Volume.{bindings, child, child_of, has, IsDir}
use Rattle.coda_tree.proofs.Changes.{dir_node}
use Rattle.coda_script.specs.declared.line.Line.{Line}
use Rattle.coda_plain.specs.Deeds.{IsMade, full_of}
use Rattle.coda_plain.specs.Cell.{ClientEntry, deed_on}
use Rattle.coda_plain.specs.Decisions.{nodes_of}
use Rattle.coda_plain.specs.Moves.{done_on}
use Rattle.coda_plain.proofs.Soundness.{none_joins}
use Rattle.coda_plain.proofs.Volumes.{volumes}
use Rattle.coda_cell.specs.Laws.{MayReplace}
use Rattle.coda_cell.specs.Made.{MadeCell, nothing_made, grown_all, grown, client_of}
use Rattle.coda_cell.specs.Runs.{IsKept, IsLeft}
use Rattle.coda_cell.specs.State.{ClientState, ReplicaState, at_client}
use Rattle.coda_cell.proofs.Histories.{nodes_are}
use Rattle.coda_cell.proofs.KeptCells.{client_there, first_kept}
use Rattle.coda_cell.proofs.KeptLines.{replica_there, lines_keep_cells}
use Rattle.coda_creations.specs.Kinds.{Kind, ADirectory, kind_of, kind_in, kind_at, AreAsMade, HaveBoth}
use Rattle.coda_creations.specs.Kinds.{LinesLead, LinesKeepKinds, ObjectsKeepTheirKind}
use Rattle.coda_creations.proofs.KindsKept.{fresh_kind}
use Rattle.coda_creations.proofs.KindsMade.{kept_once, event_as_made}
use Rattle.coda_creations.proofs.KindsHeld.{held_kind, no_operation}
use Rattle.coda_creations.proofs.KindsOnLines.{fronts_as_made, lines_as_made}

-- where nothing was made each replica is fresh, and no client holds anything
first_as_made : AreAsMade nothing_made.acted
first_as_made = record {
  replicas = λ server volume f kind is. (let root = fresh_kind volume f kind is in
      inl (root.0 ∙ ap root_of (sym (ap (λ (g : Fid). g.volume) root.0)), root.1));
  clients = λ client blocks f kind is. absurd (none-some kind (sym (ap kind_in (map.get-empty fid_cmp f)) ∙ is));
}

-- what lines lead to
led : (lines : List Line) (old new : MadeCell) → IsKept old → AreAsMade old.acted → LinesLead old lines new
    → IsKept new × AreAsMade new.acted
led [] old new kept as_made lead =
    (subst IsKept (sym lead) kept, subst (λ (cell : MadeCell). AreAsMade cell.acted) (sym lead) as_made)
led (said ∷ lines) old new kept as_made lead =
    led lines (grown_all old lead.1) new (lines_keep_cells old said lead.0 lead.1 kept lead.2 lead.3).kept
    (lines_as_made old said lead.0 lead.1 kept lead.2 lead.3 as_made) lead.4

dir_is : (kind : NodeKind) → ADirectory ≡ kind_of kind → IsDir kind
dir_is (File content) e = cc
dir_is (Link target) e = cc
dir_is (Dir entries) e = tt

is_dir_kind : (kind : NodeKind) → IsDir kind → kind_of kind ≡ ADirectory
is_dir_kind (File content) is = absurd is
is_dir_kind (Link target) is = absurd is
is_dir_kind (Dir entries) is = refl

module _ (cell : MadeCell) (fid : Fid) (number : ℕ) (c : ClientState) (r : ReplicaState) (kept : IsKept cell)
    (have : HaveBoth cell fid number c r) where
  -- what the replica has is what its history leaves
  has_by : (server : ℕ) × (nodes_of fid.volume (cell.acted.replicas server fid.volume).history ≡ r.tree.nodes)
  has_by =
      let there = replica_there cell kept fid.volume r have.replica in (
        there.0,
        sym (nodes_are there.0 fid.volume (cell.acted.replicas there.0 fid.volume).history) ∙ ap
            (λ (x : ReplicaState). x.tree.nodes) there.2,
      )

  agree : AreAsMade cell.acted → (one other : Kind) → kind_at c.held.nodes fid ≡ Some one
      → kind_at r.tree.nodes fid ≡ Some other → one ≡ other
  agree as_made one other holds has =
      let there = client_there cell kept number c have.client in
      let by = has_by in
      kept_once cell kept fid one other
      (as_made.clients number there.0 fid one (ap (λ (x : ClientState). kind_at x.held.nodes fid) there.2 ∙ holds))
      (as_made.replicas by.0 fid.volume fid other (ap (λ m. kind_at m fid) by.1 ∙ has))

  module _ (as_made : AreAsMade cell.acted) (node : Node) (is : map.get r.tree.nodes fid ≡ Some node) where
    -- what the replica's node binds was made, in its volume
    kid_made : (name : Name) (kid : Fid) → map.get (bindings node.kind) name ≡ Some kid
        → IsMade fid.volume (done_on cell.acted kid.vnode fid.volume) kid
    kid_made name kid bound =
        let by = has_by in
        let agree = kept.sound.agree none_joins in
        let history = (cell.acted.replicas by.0 fid.volume).history in
        let binds : child (nodes_of fid.volume history) fid name ≡ Some kid =
        ap (λ m. child m fid name) by.1 ∙ ap (λ o. child_of o name) is ∙ bound in
        let there : has (nodes_of fid.volume history) kid ≡ true =
        (volumes fid.volume history (agree.ruled by.0 fid.volume)).0.tree.there fid name kid binds in
        agree.held by.0 fid.volume kid there

    may_replace : MayReplace cell.acted c fid node
    may_replace = record {
      kind = λ dir. (let at = dir_node c.held.nodes fid dir in
          dir_is node.kind (agree as_made ADirectory (kind_of node.kind)
          (ap kind_in at.1 ∙ ap Some (is_dir_kind at.0.kind at.2)) (ap kind_in is)));
      within = λ name kid bound. (kid_made name kid bound).0;
      made = λ name kid bound. (let made = kid_made name kid bound in
          subst (λ v. IsMade v (done_on cell.acted kid.vnode v) kid) (sym made.0) made);
    }

-- an entry that is no operation
entered_as_made : (old : MadeCell) (client : ℕ) (entry : ClientEntry)
    → ((volume : ℕ) → full_of (deed_on volume entry) ≡ []) → IsLeft old (at_client client entry ∷ [])
    → AreAsMade old.acted → AreAsMade (grown old (at_client client entry)).acted
entered_as_made old client entry none left as_made =
    event_as_made old (at_client client entry) left.kept.sound left.moved
    (λ blocks f kind is. (let c = client_of client (old.acted.clients client).history blocks in
    held_kind c.held c.number entry f kind (no_operation c.held entry none) is)) as_made

pub lines_keep : LinesKeepKinds
lines_keep = record {
  lines = lines_as_made;
  fronts = fronts_as_made;
  entered = entered_as_made;
  reached = λ lines cell lead. led lines nothing_made cell first_kept first_as_made lead;
  once = λ cell fid one other kept a b. kept_once cell kept fid one other a b;
  replaced = λ cell fid node number c r kept as_made have is. may_replace cell fid number c r kept have as_made node is;
}

pub kinds_kept : ObjectsKeepTheirKind
kinds_kept lines cell fid number c r one other lead have holds has =
    let by = led lines nothing_made cell first_kept first_as_made lead in
    agree cell fid number c r by.0 have by.1 one other holds has
