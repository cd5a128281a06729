-- What a decision leaves: a tree, in which each object that was there is of the kind that it was of.
use Rattle.std.proofs.Common.{◌≡◌, ℕ, true, Option, Some, None, is_some, refl, sym, ap, ◌∙◌, subst, ⊎_elim}
use Rattle.std.specs.FinMap as finmap
use Rattle.std.proofs.lemmas.Bool.{true≢false}
use Rattle.coda_fid.specs.Name.{name_cmp}
use Rattle.coda_fid.specs.declared.fid.Fid.{Fid}
use Rattle.coda_fid.specs.declared.fid.Sid.{Sid}
use Rattle.coda_fid.specs.declared.op.Record.{Record}
use Rattle.coda_tree.specs.declared.node.Node.{Node}
use Rattle.coda_tree.specs.declared.node.NodeKind.{NodeKind}
use Rattle.coda_tree.specs.declared.node.NodeKind.TheVariants.{File, Link, Dir}
use Rattle.coda_tree.specs.Bindings.{Name}
use Rattle.coda_tree.specs.Volume.{Nodes, child, child_of, has, IsDir, IsDirNode, IsDirAt, IsVolume}
use Rattle.coda_tree.proofs.Trees.{tree_same}
use Rattle.coda_reslog.specs.declared.change.Held.{Held}
use Rattle.coda_certify.specs.Replay.{sid_of, applied}
use Rattle.coda_resolve.specs.Copies.{bindings_of}
use Rattle.coda_resolve.specs.Settled.{HasKind, is_dir}
use Rattle.coda_resolve.specs.Resolution.{Objects, IsTreeView, has_in, child_in}
use Rattle.coda_resolve.specs.Changes.{node_of}
use Rattle.coda_resolve.proofs.Lists.{some_none}
use Rattle.coda_lineage.specs.Deeds.{Deed, deed_at, makes, first_by, later_by, version_by, IsDecision}
use Rattle.coda_lineage.proofs.Booleans.{the_some}
use Rattle.coda_lineage.proofs.Operations.{applied_volume, applied_keeps}

-- ---- what is held of a node

pub first_node : (x : ℕ) (node : Node) (k : NodeKind) → (first_by x node k).node ≡ node
first_node x node (File content) = refl
first_node x node (Link target) = refl
first_node x node (Dir entries) = refl

pub later_node : (x : ℕ) (sid : Sid) (node : Node) (old : Held) (deed : Option Deed)
    → (later_by x sid node old deed).node ≡ node
later_node x sid node old None = refl
later_node x sid node old (Some deed) = refl

version_node : (x : ℕ) (sid : Sid) (o : Option Node) (old : Option Held) (deed : Option Deed)
    → node_of (version_by x sid o old deed) ≡ o
version_node x sid None old deed = refl
version_node x sid (Some node) None deed = ap Some (first_node x node node.kind)
version_node x sid (Some node) (Some old) deed = ap Some (later_node x sid node old deed)

node_binds : (o : Option Held) (n : Name) → child_of (node_of o) n ≡ finmap.get (bindings_of o) n
node_binds None n = sym (finmap.get-empty name_cmp n)
node_binds (Some held) n = refl

node_there : (o : Option Held) → is_some (node_of o) ≡ is_some o
node_there None = refl
node_there (Some held) = refl

-- ---- what was decided of an object

-- it isn't there, or it is what the record makes, or it was there and is of the kind that it was of
pub data DecidedAt (view after : Objects) (new : Option Fid) (f : Fid) : Type 0 where
  absent : finmap.get after f ≡ None → DecidedAt view after new f
  came : new ≡ Some f → DecidedAt view after new f
  stayed : (old held : Held) → finmap.get view f ≡ Some old → finmap.get after f ≡ Some held
      → is_dir held.node.kind ≡ is_dir old.node.kind → DecidedAt view after new f

module _ (root : Fid) (server client : ℕ) (rec : Record) (view after : Objects) (decided : IsDecision server client rec view after) (own : IsTreeView root view) (dir : HasKind true (finmap.get view root)) where
  abbrev m : Nodes
  m = decided.nodes

  abbrev left : Nodes
  left = applied m client rec

  abbrev sid : Sid
  sid = sid_of client rec

  abbrev deed : Fid → Option Deed
  deed = deed_at view rec.op

  child_is : (d : Fid) (n : Name) → child m d n ≡ child_in view d n
  child_is d n = ap (λ o. child_of o n) (decided.those d) ∙ node_binds (finmap.get view d) n

  has_is : (f : Fid) → has m f ≡ has_in view f
  has_is f = ap is_some (decided.those f) ∙ node_there (finmap.get view f)

  left_is : (f : Fid) → node_of (finmap.get after f) ≡ finmap.get left f
  left_is f = ap node_of (decided.left f) ∙ version_node server sid (finmap.get left f) (finmap.get view f) (deed f)

  child_left : (d : Fid) (n : Name) → child_in after d n ≡ child left d n
  child_left d n = sym (node_binds (finmap.get after d) n) ∙ ap (λ o. child_of o n) (left_is d)

  has_left : (f : Fid) → has_in after f ≡ has left f
  has_left f = sym (node_there (finmap.get after f)) ∙ ap is_some (left_is f)

  volume : IsVolume root m
  volume = record { tree = tree_same has_is child_is own; top = top }
    where
      dir_kind : (k : NodeKind) → is_dir k ≡ true → IsDir k
      dir_kind (File content) e = absurd (true≢false (sym e))
      dir_kind (Link target) e = absurd (true≢false (sym e))
      dir_kind (Dir entries) e = tt

      by : (o : Option Held) → is_some o ≡ true → HasKind true o → IsDirNode (node_of o)
      by None e k = absurd (true≢false (sym e))
      by (Some held) e k = dir_kind held.node.kind k

      top : IsDirAt m root
      top = subst IsDirNode (sym (decided.those root)) (by (finmap.get view root) own.rooted dir)

  pub decided_tree : IsTreeView root after
  decided_tree = let v = applied_volume m volume client rec decided.certified in tree_same has_left child_left v.tree

  pub decided_at : (f : Fid) → DecidedAt view after (makes rec.op) f
  decided_at f = by (finmap.get after f) refl
    where
      was_there : (held : Held) → finmap.get after f ≡ Some held → (was : Node) → finmap.get m f ≡ Some was
          → is_dir held.node.kind ≡ is_dir was.kind → (o : Option Held) → finmap.get view f ≡ o
          → DecidedAt view after (makes rec.op) f
      was_there held h was at same None e = absurd (some_none was (sym at ∙ decided.those f ∙ ap node_of e))
      was_there held h was at same (Some old) e =
          let node : was ≡ old.node = the_some was old.node (sym at ∙ decided.those f ∙ ap node_of e) in
          stayed old held e h (same ∙ ap (λ (n : Node). is_dir n.kind) node)

      by : (p : Option Held) → finmap.get after f ≡ p → DecidedAt view after (makes rec.op) f
      by None h = absent h
      by (Some held) h = ⊎_elim came
          (λ (x : (was : Node) × ((finmap.get m f ≡ Some was) × (is_dir held.node.kind ≡ is_dir was.kind))). was_there
          held h x.0 x.1.0 x.1.1 (finmap.get view f) refl)
          (applied_keeps m volume client rec decided.certified f held.node (sym (left_is f) ∙ ap node_of h))
