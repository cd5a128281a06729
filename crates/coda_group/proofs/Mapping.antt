-- What a replica holds after records, and its nodes.
use Rattle.std.proofs.Common.{◌≡◌, ℕ, List, [], ◌∷◌, ◌++◌, Option, Some, None, Ok, Err, option_map, refl, sym, ap}
use Rattle.std.proofs.Common.{◌∙◌, subst, inl, inr}
use Rattle.std.specs.FinMap as finmap
use Rattle.coda_fid.specs.Fid.{fid_cmp, root_of}
use Rattle.coda_fid.specs.declared.fid.Fid.{Fid}
use Rattle.coda_fid.specs.declared.fid.Sid.{Sid}
use Rattle.coda_fid.specs.declared.op.Record.{Record}
use Rattle.coda_fid.proofs.Fids.{exact_fids, fids_total}
use Rattle.coda_tree.specs.declared.node.Node.{Node}
use Rattle.coda_tree.specs.declared.node.NodeKind.{NodeKind}
use Rattle.coda_tree.specs.declared.node.NodeKind.TheVariants.{File, Link, Dir}
use Rattle.coda_tree.specs.Volume.{Nodes, IsVolume, fresh, fresh_root}
use Rattle.coda_tree.proofs.Order.{fid_cases, get_here, get_else}
use Rattle.coda_reslog.specs.declared.change.Held.{Held}
use Rattle.coda_certify.specs.Checks.{certify}
use Rattle.coda_certify.specs.Replay.{Replayed, sid_of, applied}
use Rattle.coda_certify.specs.Verdicts.{nodes_left}
use Rattle.coda_cml.proofs.volumes.Applying.{Applies, applies_from_replay}
use Rattle.coda_resolve.specs.Changes.{node_of}
use Rattle.coda_lineage.specs.Deeds.{Deed, deed_at, first_by, held_by_node, version_by, IsDecision}
use Rattle.coda_lineage.specs.Lineage.{new_root}
use Rattle.coda_plain.specs.Histories.{left_by}
use Rattle.coda_plain.specs.Objects.{Objects, nodes_in}
use Rattle.coda_plain.specs.Decisions.{ReplicaEntry, Decided, Resolved, sent_of, decision, Kept, kept_after, kept_of}
use Rattle.coda_plain.specs.Decisions.{nodes_of, MayDecide, AreDecisions}
use Rattle.coda_plain.proofs.Lists.{left_push, follow_push, along}
use Rattle.coda_plain.proofs.Objects.{get_mapped, get_nodes}
use Rattle.coda_plain.proofs.AtReplicas.{kept_push}
use Rattle.coda_plain.proofs.Volumes.{volumes, sent_decides}
use Rattle.coda_group.specs.Holdings.{held_by, objects_left, objects_after, new_objects, replica_objects}

-- ---- a record

pub get_held : (server client : ℕ) (objects : Objects) (rec : Record) (f : Fid)
    → finmap.get (held_by server client objects rec) f
    ≡ option_map (λ node. held_by_node server (sid_of client rec) node (finmap.get objects f)
    (deed_at objects rec.op f)) (finmap.get (applied (nodes_in objects) client rec) f)
unfolding held_by
get_held server client objects rec f =
    get_mapped (λ f node. held_by_node server (sid_of client rec) node (finmap.get objects f)
    (deed_at objects rec.op f)) (applied (nodes_in objects) client rec) f

first_node : (server : ℕ) (node : Node) (kind : NodeKind) → (first_by server node kind).node ≡ node
first_node server node (File content) = refl
first_node server node (Link target) = refl
first_node server node (Dir entries) = refl

by_node : (server : ℕ) (sid : Sid) (node : Node) (old : Option Held) (deed : Option Deed)
    → (held_by_node server sid node old deed).node ≡ node
by_node server sid node None deed = first_node server node node.kind
by_node server sid node (Some old) None = refl
by_node server sid node (Some old) (Some deed) = refl

node_back : (server : ℕ) (sid : Sid) (o : Option Node) (old : Option Held) (deed : Option Deed)
    → node_of (option_map (λ node. held_by_node server sid node old deed) o) ≡ o
node_back server sid None old deed = refl
node_back server sid (Some node) old deed = ap Some (by_node server sid node old deed)

-- the nodes are those that the operation leaves
pub nodes_held_by : (server client : ℕ) (objects : Objects) (rec : Record)
    → nodes_in (held_by server client objects rec) ≡ applied (nodes_in objects) client rec
nodes_held_by server client objects rec = finmap.same_map fids_total exact_fids _ _ (λ q.
    get_nodes (held_by server client objects rec) q ∙ ap node_of (get_held server client objects rec q)
    ∙ node_back server (sid_of client rec) (finmap.get (applied (nodes_in objects) client rec) q)
    (finmap.get objects q) (deed_at objects rec.op q))

version : (o : Option Node) (server client : ℕ) (rec : Record) (before : Objects) (f : Fid)
    → option_map (λ node. held_by_node server (sid_of client rec) node (finmap.get before f)
    (deed_at before rec.op f)) o ≡ version_by server (sid_of client rec) o (finmap.get before f)
    (deed_at before rec.op f)
version None server client rec before f = refl
version (Some node) server client rec before f = refl

-- where certification finds nothing against it, it is a decision of that record
pub is_decision : (server client : ℕ) (objects : Objects) (rec : Record) → certify (nodes_in objects) rec.op ≡ None
    → IsDecision server client rec objects (held_by server client objects rec)
is_decision server client objects rec certified = record {
  nodes = nodes_in objects;
  those = get_nodes objects;
  certified = certified;
  left =
      λ f. get_held server client objects rec f ∙ version (finmap.get (applied (nodes_in objects) client rec) f)
      server client rec objects f;
}

-- ---- records in turn

pub nodes_left_by : (server client : ℕ) (recs : List Record) (objects : Objects) (m : Nodes)
    → Applies client (nodes_in objects) recs m → nodes_in (left_by (held_by server client) objects recs) ≡ m
nodes_left_by server client [] objects m a = a
nodes_left_by server client (rec ∷ recs) objects m a =
    nodes_left_by server client recs (held_by server client objects rec) m
    (subst (λ n. Applies client n recs m) (sym (nodes_held_by server client objects rec)) a.1)

-- ---- a history

new_nodes : (volume : ℕ) → nodes_in (new_objects volume) ≡ (fresh volume).nodes
new_nodes volume = finmap.same_map fids_total exact_fids _ _ (λ q. get_nodes (new_objects volume) q ∙ at q)
  where
    at : (q : Fid) → node_of (finmap.get (new_objects volume) q) ≡ finmap.get (fresh volume).nodes q
    at q = elim (fid_cases q (root_of volume)) [
      | inl here ↦
          ap (λ f. node_of (finmap.get (new_objects volume) f)) here ∙ ap node_of
          (get_here fids_total finmap.empty (root_of volume) new_root)
          ∙ sym (ap (λ f. finmap.get (fresh volume).nodes f) here ∙ get_here fids_total finmap.empty (root_of volume)
          fresh_root)
      | inr off ↦
          ap node_of (get_else fids_total exact_fids finmap.empty (root_of volume) new_root q off ∙ finmap.get-empty
          fid_cmp q)
          ∙ sym (get_else fids_total exact_fids finmap.empty (root_of volume) fresh_root q off ∙ finmap.get-empty
          fid_cmp q)
    ]

-- what a decision leaves
pub decided_nodes : (server client : ℕ) (span : List Record) (objects : Objects) (volume : ℕ)
    → IsVolume (root_of volume) (nodes_in objects)
    → nodes_left (nodes_in objects) (decision (nodes_in objects) client span) ≡ nodes_in
    (objects_left server client (sent_of span) objects (decision (nodes_in objects) client span))
decided_nodes server client span objects volume v = go (decision (nodes_in objects) client span) refl
  where
    go : (r : Replayed) → decision (nodes_in objects) client span ≡ r
        → nodes_left (nodes_in objects) r ≡ nodes_in (objects_left server client (sent_of span) objects r)
    go (Ok m) e =
        sym (nodes_left_by server client (sent_of span) objects m
        (applies_from_replay client (nodes_in objects) m (sent_of span)
        (sym (sent_decides (root_of volume) (nodes_in objects) client span v) ∙ e)))
    go (Err why) e = refl

pub objects_push : (server volume : ℕ) (es : List ReplicaEntry) (e : ReplicaEntry)
    → replica_objects server volume (es ++ e ∷ []) ≡ objects_after server (replica_objects server volume es) e
objects_push server volume es e = left_push (objects_after server) (new_objects volume) es e

abbrev IsHolding : ℕ → ℕ → List ReplicaEntry → Type 0
IsHolding server volume es = AreDecisions volume es × (nodes_of volume es ≡ nodes_in (replica_objects server volume es))

after_entry : (server volume : ℕ) (es : List ReplicaEntry) (e : ReplicaEntry)
    → nodes_of volume es ≡ nodes_in (replica_objects server volume es)
    → IsVolume (root_of volume) (nodes_of volume es)
    → (kept_after (kept_of volume es) e).nodes ≡ nodes_in (objects_after server (replica_objects server volume es) e)
after_entry server volume es (Decided client number span) h v =
    ap (λ n. nodes_left n (decision n client span)) h ∙ decided_nodes server client span
    (replica_objects server volume es) volume (subst (IsVolume (root_of volume)) h v)
after_entry server volume es (Resolved objects lasts) h v = refl

holding_push : (server volume : ℕ) (es : List ReplicaEntry) (e : ReplicaEntry) → IsHolding server volume es
    → MayDecide volume es e → IsHolding server volume (es ++ e ∷ [])
holding_push server volume es e h may = (
  follow_push (MayDecide volume) es e h.0 may,
  ap (λ (k : Kept). k.nodes) (kept_push volume es e) ∙ after_entry server volume es e h.1 (volumes volume es h.0).0
      ∙ ap nodes_in (sym (objects_push server volume es e)),
)

-- the nodes that a replica's decisions met and left are those of what it holds
pub holding : (server volume : ℕ) (history : List ReplicaEntry) → AreDecisions volume history
    → nodes_of volume history ≡ nodes_in (replica_objects server volume history)
holding server volume history law =
    (along (MayDecide volume) (IsHolding server volume) (holding_push server volume) history
    (tt, sym (new_nodes volume)) law).1
