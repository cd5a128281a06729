-- What an operation leaves as it is.
use Rattle.std.proofs.Common.{◌≡◌, ◌≢◌, ℕ, Bool, true, false, cond, ◌||◌, List, [], ◌∷◌, Some, None, refl, sym, ap, ◌∙◌}
use Rattle.std.specs.FinMap as map
use Rattle.std.proofs.lemmas.Bool.{both_ways}
use Rattle.coda_fid.specs.declared.fid.Fid.{Fid}
use Rattle.coda_fid.specs.declared.op.Op.{Op}
use Rattle.coda_fid.specs.declared.op.Record.{Record}
use Rattle.coda_fid.specs.declared.op.Op.TheVariants.{Create, Mkdir, Symlink, Store, Setattr, Remove, Rmdir, Rename}
use Rattle.coda_fid.specs.Fid.{same_fid}
use Rattle.coda_fid.specs.Op.{fids_of}
use Rattle.coda_fid.proofs.Fids.{fids_total, exact_fids, same_fid_refl}
use Rattle.coda_tree.specs.declared.node.Node.{Node}
use Rattle.coda_tree.specs.Bindings.{Name}
use Rattle.coda_tree.specs.Slots.{altered}
use Rattle.coda_tree.specs.Volume.{Nodes, edited_all, bound, unbound, bind_in, unbind_in, written, content_patch, attrs_patch}
use Rattle.coda_tree.proofs.Order.{get_else, gone_else}
use Rattle.coda_tree.proofs.Keyed.{off_altered}
use Rattle.coda_tree.proofs.Changes.{off_changed}
use Rattle.coda_certify.specs.Replay.{effects, applied}
use Rattle.coda_walk.specs.Going.{is_listed}
use Rattle.coda_cache.specs.State.{Holds}
use Rattle.coda_cache.specs.Steps.{all_dirty, made_dirty}

pub off_first : (f : Fid) (fids : List Fid) (g : Fid) → is_listed (f ∷ fids) g ≡ false → (g ≢ f) × (is_listed fids g ≡ false)
off_first f fids g free = (elim (same_fid f g) as (λ b. same_fid f g ≡ b → (b || is_listed fids g) ≡ false → (g ≢ f) × (is_listed fids g ≡ false)) [
  | true ↦ λ _ h. absurd (both_ways _ h refl)
  | false ↦ λ e h. (λ same. both_ways _ e (ap (same_fid f) same ∙ same_fid_refl f), h)
]) refl free

off_bound : (m : Nodes) (d : Fid) (name : Name) (f g : Fid) → g ≢ d → map.get (bound m d name f) g ≡ map.get m g
off_bound m d name f g apart = off_changed m d (λ node. bind_in node name f) g apart

off_unbound : (m : Nodes) (d : Fid) (name : Name) (g : Fid) → g ≢ d → map.get (unbound m d name) g ≡ map.get m g
off_unbound m d name g apart = off_changed m d (λ node. unbind_in node name) g apart

off_added : (m : Nodes) (dir : Fid) (name : Name) (f : Fid) (node : Node) (g : Fid) → is_listed (dir ∷ f ∷ []) g ≡ false → map.get (map.insert (bound m dir name f) f node) g ≡ map.get m g
off_added m dir name f node g free =
    let one = off_first dir (f ∷ []) g free in
    get_else fids_total exact_fids (bound m dir name f) f node g (off_first f [] g one.1).0 ∙ off_bound m dir name f g one.0

off_removed : (m : Nodes) (dir : Fid) (name : Name) (f g : Fid) → is_listed (dir ∷ f ∷ []) g ≡ false → map.get (map.remove (unbound m dir name) f) g ≡ map.get m g
off_removed m dir name f g free =
    let one = off_first dir (f ∷ []) g free in
    gone_else fids_total exact_fids (unbound m dir name) f g (off_first f [] g one.1).0 ∙ off_unbound m dir name g one.0

off_at : (m : Nodes) (time : ℕ) (client : ℕ) (number : ℕ) (op : Op) (g : Fid) → is_listed (fids_of op) g ≡ false → map.get (edited_all m (effects time (record { client = client; number = number }) op)) g ≡ map.get m g
off_at m time client number (Create dir name fid mode owner) g free = off_added m dir name fid _ g free
off_at m time client number (Mkdir dir name fid mode owner) g free = off_added m dir name fid _ g free
off_at m time client number (Symlink dir name fid target mode owner) g free = off_added m dir name fid _ g free
off_at m time client number (Store fid pre content) g free = off_changed m fid (written (content_patch content time) (record { client = client; number = number })) g (off_first fid [] g free).0
off_at m time client number (Setattr fid pre attrs) g free = off_changed m fid (written (attrs_patch attrs) (record { client = client; number = number })) g (off_first fid [] g free).0
off_at m time client number (Remove dir name fid pre) g free = off_removed m dir name fid g free
off_at m time client number (Rmdir dir name fid pre) g free = off_removed m dir name fid g free
off_at m time client number (Rename from_dir from to_dir to fid None) g free =
    let one = off_first from_dir (to_dir ∷ fid ∷ []) g free in
    off_bound (unbound m from_dir from) to_dir to fid g (off_first to_dir (fid ∷ []) g one.1).0 ∙ off_unbound m from_dir from g one.0
off_at m time client number (Rename from_dir from to_dir to fid (Some over)) g free =
    let one = off_first from_dir (to_dir ∷ fid ∷ over.fid ∷ []) g free in
    let two = off_first to_dir (fid ∷ over.fid ∷ []) g one.1 in
    let three = off_first fid (over.fid ∷ []) g two.1 in
    off_bound (unbound (map.remove m over.fid) from_dir from) to_dir to fid g two.0 ∙ off_unbound (map.remove m over.fid) from_dir from g one.0 ∙ gone_else fids_total exact_fids m over.fid g (off_first over.fid [] g three.1).0

pub off_applied : (m : Nodes) (client : ℕ) (rec : Record) (g : Fid) → is_listed (fids_of rec.op) g ≡ false → map.get (applied m client rec) g ≡ map.get m g
unfolding applied
off_applied m client rec g free = off_at m rec.time client rec.number rec.op g free

pub off_dirty : (holds : Holds) (fids : List Fid) (g : Fid) → is_listed fids g ≡ false → map.get (all_dirty holds fids) g ≡ map.get holds g
off_dirty holds [] g free = refl
off_dirty holds (f ∷ fids) g free = let one = off_first f fids g free in off_dirty (altered holds f made_dirty) fids g one.1 ∙ off_altered holds f made_dirty g one.0

-- what is marked anew, and what is marked still
pub marks_then : (b l : Bool) (n : Bool) (o : Bool) → (b ≡ false → n ≡ o) → cond b n o ≡ n
marks_then true l n o same = refl
marks_then false l n o same = sym (same refl)
