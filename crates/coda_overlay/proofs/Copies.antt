-- One object of many nodes, and names in a directory.
use Rattle.std.proofs.Common.{◌≡◌, ℕ, Bool, true, cond, List, [], ◌∷◌, ◌++◌, Option, Some, None, refl, sym, ap, ◌∙◌}
use Rattle.std.proofs.Common.{subst}
use Rattle.std.specs.FinMap as map
use Rattle.std.specs.Ordering.{eq_by_cmp}
use Rattle.std.specs.Cmp.{Equal-is}
use Rattle.std.proofs.lemmas.Cmp.{nat_list_cmp_total}
use Rattle.std.proofs.lemmas.Map.Lookups.{exact_bytes}
use Rattle.coda_fid.specs.Name.{name_cmp}
use Rattle.coda_fid.specs.declared.fid.Fid.{Fid}
use Rattle.coda_fid.specs.declared.fid.Sid.{Sid}
use Rattle.coda_fid.specs.declared.op.Op.{Op}
use Rattle.coda_fid.specs.declared.op.Op.TheVariants.{Create, Mkdir, Symlink, Store, Setattr, Remove, Rmdir, Rename}
use Rattle.coda_fid.specs.declared.op.Record.{Record}
use Rattle.coda_tree.specs.declared.node.Node.{Node}
use Rattle.coda_tree.specs.Bindings.{Name}
use Rattle.coda_tree.specs.Volume.{Nodes, child_of, bindings, bind_in, IsDirNode, Edit, Put, Bind, TakeOut, Unbind}
use Rattle.coda_tree.specs.Volume.{Write, edited, edited_all}
use Rattle.coda_certify.specs.Replay.{effects, sid_of, applied}
use Rattle.coda_cancel.specs.Handing.{with_pre}
use Rattle.coda_cml.proofs.volumes.Places.{place, act, point, get-edited}
use Rattle.coda_overlay.specs.Objects.{edited_at, all_edited_at, operated_at}
use Rattle.coda_overlay.specs.Overlaying.{FindsFreeName, FindsItsNames, Overlays}

-- ---- one object of many

pub edit_is : (f : Fid) (e : Edit) (o : Option Node) → edited_at f e o ≡ point f (place e) (act e) o
edit_is f (Put fid node) o = refl
edit_is f (Bind dir name fid) o = refl
edit_is f (TakeOut fid) o = refl
edit_is f (Unbind dir name) o = refl
edit_is f (Write fid patch sid) o = refl

pub get-edits : (f : Fid) (es : List Edit) (m : Nodes) → map.get (edited_all m es) f ≡ all_edited_at f es (map.get m f)
get-edits f [] m = refl
get-edits f (e ∷ es) m =
    get-edits f es (edited m e) ∙ ap (all_edited_at f es) (get-edited m e f ∙ sym (edit_is f e (map.get m f)))

pub get-applied : (f : Fid) (client : ℕ) (rec : Record) (m : Nodes)
    → map.get (applied m client rec) f ≡ operated_at f client rec (map.get m f)
unfolding applied
get-applied f client rec m = get-edits f (effects rec.time (sid_of client rec) rec.op) m

-- ---- names

-- whether two names are one
abbrev pub same_name : Name → Name → Bool
same_name a b = eq_by_cmp name_cmp a b

pub name_true : (a b : Name) → same_name a b ≡ true → a ≡ b
name_true a b e = exact_bytes a b ((Equal-is (name_cmp a b)).0 e)

-- what a node binds that binds one name more
pub child_bound : (node : Node) (n : Name) (g : Fid) (m : Name)
    → child_of (Some (bind_in node n g)) m ≡ cond (same_name m n) (Some g) (child_of (Some node) m)
child_bound node n g m = map.get-insert nat_list_cmp_total (bindings node.kind) n g m

-- ---- what finds its names goes on finding them

finds_free : (f : Fid) (a b : Option Node) (dir : Fid) (name : Name) → (child_of a name ≡ None → child_of b name ≡ None)
    → (IsDirNode a → IsDirNode b) → FindsFreeName f a dir name → FindsFreeName f b dir name
finds_free f a b dir name same dirs h = record { dir_there = λ e. dirs (h.dir_there e); free = λ e. same (h.free e) }

-- where a node binds what another does, and is a directory where that is one
pub finds_same : (f : Fid) (a b : Option Node) → ((n : Name) → child_of a n ≡ child_of b n)
    → (IsDirNode a → IsDirNode b) → (op : Op) → FindsItsNames f a op → FindsItsNames f b op
finds_same f a b same dirs (Create d n g mode owner) h = finds_free f a b d n (λ e. sym (same n) ∙ e) dirs h
finds_same f a b same dirs (Mkdir d n g mode owner) h = finds_free f a b d n (λ e. sym (same n) ∙ e) dirs h
finds_same f a b same dirs (Symlink d n g target mode owner) h = finds_free f a b d n (λ e. sym (same n) ∙ e) dirs h
finds_same f a b same dirs (Store g pre content) h = tt
finds_same f a b same dirs (Setattr g pre attrs) h = tt
finds_same f a b same dirs (Remove d n g pre) h = λ e. sym (same n) ∙ h e
finds_same f a b same dirs (Rmdir d n g pre) h = λ e. sym (same n) ∙ h e
finds_same f a b same dirs (Rename d n e m g over) h = (λ x. sym (same n) ∙ h.0 x, λ x. sym (same m) ∙ h.1 x)

pub finds_with_pre : (f : Fid) (a : Option Node) (h : Fid → Sid → Sid) (op : Op) → FindsItsNames f a op
    → FindsItsNames f a (with_pre h op)
finds_with_pre f a h (Rename d n e m g None) x = x
finds_with_pre f a h (Rename d n e m g (Some v)) x = x
finds_with_pre f a h _ x = x

-- ---- lists of records

pub overlays_joined : (f : Fid) (client : ℕ) (o mid left : Option Node) (recs more : List Record)
    → Overlays f client o recs mid → Overlays f client mid more left → Overlays f client o (recs ++ more) left
overlays_joined f client o mid left [] more a b = subst (λ y. Overlays f client y more left) (sym a) b
overlays_joined f client o mid left (rec ∷ recs) more a b =
    (a.0, overlays_joined f client (operated_at f client rec o) mid left recs more a.1 b)

pub overlays_split : (f : Fid) (client : ℕ) (o left : Option Node) (recs more : List Record)
    → Overlays f client o (recs ++ more) left
    → (mid : Option Node) × Overlays f client o recs mid × Overlays f client mid more left
overlays_split f client o left [] more a = (o, refl, a)
overlays_split f client o left (rec ∷ recs) more a = let s = overlays_split f client (operated_at f client rec o) left recs more a.1 in (s.0, (a.0, s.1), s.2)
