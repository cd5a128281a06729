-- What an edit does to the node at a fid, and to the count of the nodes.
use Rattle.std.proofs.Common.{◌≡◌, ℕ, ◌+◌, ◌-◌, Bool, true, false, cond, Option, Some, None, option_map, is_some, refl, sym, ap, ◌∙◌}
use Rattle.std.specs.FinMap as map
use Rattle.coda_fid.specs.Fid.{same_fid}
use Rattle.coda_fid.specs.declared.fid.Fid.{Fid}
use Rattle.coda_fid.proofs.Fids.{fids_total, exact_fids}
use Rattle.coda_tree.specs.declared.node.Node.{Node}
use Rattle.coda_tree.specs.Volume.{Nodes, changed, changed_at, bind_in, unbind_in, written, Edit, Put, Bind, TakeOut, Unbind, Write, edited}
use Rattle.coda_tree.proofs.Order.{get_here, get_else, gone_here, gone_else}
use Rattle.coda_tree.proofs.Changes.{at_changed, off_changed}
use Rattle.coda_cancel.proofs.Keys.{fid_true, fid_false}

-- the fid at which an edit is made
abbrev pub place : Edit → Fid
place (Put f node) = f
place (Bind d name f) = d
place (TakeOut f) = f
place (Unbind d name) = d
place (Write f patch sid) = f

-- what an edit makes of the node there
abbrev pub act : Edit → Option Node → Option Node
act (Put f node) o = Some node
act (Bind d name f) o = option_map (λ node. bind_in node name f) o
act (TakeOut f) o = None
act (Unbind d name) o = option_map (λ node. unbind_in node name) o
act (Write f patch sid) o = option_map (written patch sid) o

-- what a change at k leaves at q
abbrev pub point : Fid → Fid → (Option Node → Option Node) → Option Node → Option Node
point q k change o = cond (same_fid q k) (change o) o

-- nodes that are the same at each fid
pub same_nodes : (m n : Nodes) → ((q : Fid) → map.get m q ≡ map.get n q) → m ≡ n
same_nodes m n h = map.same_map fids_total exact_fids m n h

get-put : (m : Nodes) (f : Fid) (node : Node) (q : Fid) → map.get (map.insert m f node) q ≡ cond (same_fid q f) (Some node) (map.get m q)
get-put m f node q = go (same_fid q f) refl
  where
    go : (b : Bool) → same_fid q f ≡ b → map.get (map.insert m f node) q ≡ cond b (Some node) (map.get m q)
    go true e = ap (map.get (map.insert m f node)) (fid_true q f e) ∙ get_here fids_total m f node
    go false e = get_else fids_total exact_fids m f node q (fid_false q f e)

get-taken : (m : Nodes) (f q : Fid) → map.get (map.remove m f) q ≡ cond (same_fid q f) None (map.get m q)
get-taken m f q = go (same_fid q f) refl
  where
    go : (b : Bool) → same_fid q f ≡ b → map.get (map.remove m f) q ≡ cond b None (map.get m q)
    go true e = ap (map.get (map.remove m f)) (fid_true q f e) ∙ gone_here fids_total m f
    go false e = gone_else fids_total exact_fids m f q (fid_false q f e)

get-changed : (m : Nodes) (d : Fid) (change : Node → Node) (q : Fid) → map.get (changed m d change) q ≡ point q d (option_map change) (map.get m q)
get-changed m d change q = go (same_fid q d) refl
  where
    go : (b : Bool) → same_fid q d ≡ b → map.get (changed m d change) q ≡ cond b (option_map change (map.get m q)) (map.get m q)
    go true e = ap (map.get (changed m d change)) (fid_true q d e) ∙ at_changed m d change ∙ ap (λ f. option_map change (map.get m f)) (sym (fid_true q d e))
    go false e = off_changed m d change q (fid_false q d e)

-- what an edit leaves at a fid
pub get-edited : (m : Nodes) (e : Edit) (q : Fid) → map.get (edited m e) q ≡ point q (place e) (act e) (map.get m q)
get-edited m (Put f node) q = get-put m f node q
get-edited m (Bind d name f) q = get-changed m d (λ node. bind_in node name f) q
get-edited m (TakeOut f) q = get-taken m f q
get-edited m (Unbind d name) q = get-changed m d (λ node. unbind_in node name) q
get-edited m (Write f patch sid) q = get-changed m f (written patch sid) q

-- and two edits
pub get-edited_twice : (m : Nodes) (e k : Edit) (q : Fid) → map.get (edited (edited m e) k) q ≡ point q (place k) (act k) (point q (place e) (act e) (map.get m q))
get-edited_twice m e k q = get-edited (edited m e) k q ∙ ap (point q (place k) (act k)) (get-edited m e q)

-- so many nodes are left, by whether one was there and whether one is
abbrev pub count_after : Bool → Bool → ℕ → ℕ
count_after is was count = cond is (cond was count (count + 1)) (cond was (count - 1) count)

len-changed : (m : Nodes) (d : Fid) (change : Node → Node) → map.len (changed m d change) ≡ count_after (is_some (option_map change (map.get m d))) (is_some (map.get m d)) (map.len m)
len-changed m d change = elim (map.get m d) as (λ o. map.get m d ≡ o → map.len (changed_at o m d change) ≡ count_after (is_some (option_map change o)) (is_some o) (map.len m)) [
  | None ↦ λ _. refl
  | Some node ↦ λ is. map.len-insert fids_total m d (change node) ∙ ap (λ (o : Option Node). cond (is_some o) (map.len m) (map.len m + 1)) is
] refl

-- how many nodes an edit leaves
pub len-edited : (m : Nodes) (e : Edit) → map.len (edited m e) ≡ count_after (is_some (act e (map.get m (place e)))) (is_some (map.get m (place e))) (map.len m)
len-edited m (Put f node) = map.len-insert fids_total m f node
len-edited m (Bind d name f) = len-changed m d (λ node. bind_in node name f)
len-edited m (TakeOut f) = map.len-remove fids_total m f
len-edited m (Unbind d name) = len-changed m d (λ node. unbind_in node name)
len-edited m (Write f patch sid) = len-changed m f (written patch sid)
