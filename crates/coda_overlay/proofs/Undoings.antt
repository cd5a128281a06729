-- A creation that a removal undoes is left out: what is left makes of one object what the removal does.
use Rattle.std.proofs.Common.{◌≡◌, ◌≢◌, ℕ, Bool, true, false, cond, ◌||◌, not, List, [], ◌∷◌, Option, Some, None}
use Rattle.std.proofs.Common.{option_map, refl, sym, ap, ◌∙◌, subst, ⊎_elim, inl, inr, ◌⊎◌}
use Rattle.std.proofs.lemmas.Bool.{cond_both, and_parts, or_parts, false≢true}
use Rattle.coda_fid.specs.Fid.{same_fid}
use Rattle.coda_fid.specs.declared.fid.Fid.{Fid}
use Rattle.coda_fid.specs.declared.fid.Sid.{Sid}
use Rattle.coda_fid.specs.declared.op.Over.{Over}
use Rattle.coda_fid.specs.declared.op.Op.{Op}
use Rattle.coda_fid.specs.declared.op.Op.TheVariants.{Create, Mkdir, Symlink, Store, Setattr, Remove, Rmdir, Rename}
use Rattle.coda_fid.specs.declared.op.Record.{Record}
use Rattle.coda_tree.specs.declared.node.Node.{Node}
use Rattle.coda_tree.specs.declared.node.NodeKind.{NodeKind}
use Rattle.coda_tree.specs.declared.node.NodeKind.TheVariants.{File, Link, Dir}
use Rattle.coda_tree.specs.Bindings.{Name}
use Rattle.coda_tree.specs.Volume.{child_of, IsDirNode, with_kind, bind_in, unbind_in, Patch, content_patch}
use Rattle.coda_tree.specs.Volume.{attrs_patch, written, Edit, removals}
use Rattle.coda_certify.specs.Replay.{empty_file, empty_dir, new_link, effects, sid_of}
use Rattle.coda_cancel.specs.Dropping.{mentioning, creates, writes}
use Rattle.coda_cancel.specs.Cancel.{is_undone, without}
use Rattle.coda_cancel.proofs.Keys.{fid_true, fid_false, fid_other}
use Rattle.coda_cml.proofs.runs.UndoneCreations.{all_records, only_made, undone_parts}
use Rattle.coda_cml.proofs.volumes.Places.{place, act}
use Rattle.coda_cml.proofs.volumes.Erasing.{erase, erased_value, erase-none, child-erase, erase-bound, erase-one}
use Rattle.coda_cml.proofs.volumes.Erasing.{IsAside, AreAside}
use Rattle.coda_cml.proofs.volumes.Omitting.{all_aside}
use Rattle.coda_overlay.specs.Objects.{edited_at, all_edited_at, operated_at}
use Rattle.coda_overlay.specs.Overlaying.{FindsFreeName, FindsItsNames, Overlays, IsCreatedAt, AreCreatedAt}
use Rattle.coda_overlay.proofs.Copies.{edit_is, same_name, name_true, child_bound}

either_left : (b : Bool) → (b || false) ≡ true → b ≡ true
either_left true e = refl
either_left false e = e

not_one : (g x : Fid) → (same_fid g x || false) ≡ false → g ≢ x
not_one g x h = fid_false g x (or_parts _ _ h).0

module _ (x q : Fid) (ne : q ≢ x) where
  -- ---- edits that have nothing to do with x

  edit_aside : (e : Edit) → IsAside x e → (o : Option Node) → edited_at q e (erase x o) ≡ erase x (edited_at q e o)
  edit_aside e a o = edit_is q e (erase x o) ∙ go (same_fid q (place e)) ∙ sym (ap (erase x) (edit_is q e o))
    where
      go : (b : Bool) → cond b (act e (erase x o)) (erase x o) ≡ erase x (cond b (act e o) o)
      go true = a.erases o
      go false = refl

  edits_aside : (es : List Edit) → AreAside x es → (o : Option Node)
      → all_edited_at q es (erase x o) ≡ erase x (all_edited_at q es o)
  edits_aside [] a o = refl
  edits_aside (e ∷ es) a o = ap (all_edited_at q es) (edit_aside e a.0 o) ∙ edits_aside es a.1 (edited_at q e o)

  edit_binds : (e : Edit) → IsAside x e → (o : Option Node) (n : Name) → child_of (edited_at q e o) n ≡ Some x
      → child_of o n ≡ Some x
  edit_binds e a o n h = go (same_fid q (place e)) (subst (λ y. child_of y n ≡ Some x) (edit_is q e o) h)
    where
      go : (b : Bool) → child_of (cond b (act e o) o) n ≡ Some x → child_of o n ≡ Some x
      go true h = a.binds o n h
      go false h = h

  edits_bind : (es : List Edit) → AreAside x es → (o : Option Node) (n : Name)
      → child_of (all_edited_at q es o) n ≡ Some x → child_of o n ≡ Some x
  edits_bind [] a o n h = h
  edits_bind (e ∷ es) a o n h = edit_binds e a.0 o n (edits_bind es a.1 (edited_at q e o) n h)

  -- ---- creations and writes of x

  -- what a creation leaves at q
  abbrev made_at : Fid → Name → Fid → Node → Option Node → Option Node
  made_at d n g node o = cond (same_fid q g) (Some node) (cond (same_fid q d) (option_map (λ y. bind_in y n g) o) o)

  not_there : (g : Fid) → g ≡ x → same_fid q g ≡ false
  not_there g e = fid_other q g (λ h. ne (h ∙ e))

  creation_erased : (d : Fid) (n : Name) (g : Fid) (node : Node) (o : Option Node) → g ≡ x → FindsFreeName q o d n
      → erase x (made_at d n g node o) ≡ erase x o
  creation_erased d n g node o e free =
      ap (λ b. erase x (cond b (Some node) (cond (same_fid q d) (option_map (λ y. bind_in y n g) o) o)))
      (not_there g e) ∙ go (same_fid q d) refl
    where
      go : (b : Bool) → same_fid q d ≡ b → erase x (cond b (option_map (λ y. bind_in y n g) o) o) ≡ erase x o
      go true h = let same : q ≡ d = fid_true q d h in
          subst (λ z. erase x (option_map (λ y. bind_in y n z) o) ≡ erase x o) (sym e)
          (erase-bound x o n (free.dir_there same) (free.free same))
      go false h = refl

  creation_binds : (d : Fid) (n : Name) (g : Fid) (node : Node) (o : Option Node) → g ≡ x → (m : Name)
      → child_of (made_at d n g node o) m ≡ Some x → ((q ≡ d) × (m ≡ n)) ⊎ (child_of o m ≡ Some x)
  creation_binds d n g node o e m h =
      go (same_fid q d) refl o
      (subst (λ b. child_of (cond b (Some node) (cond (same_fid q d) (option_map (λ y. bind_in y n g) o) o)) m ≡ Some
      x) (not_there g e) h)
    where
      name : (y : Node) (c : Bool) → same_name m n ≡ c → cond c (Some g) (child_of (Some y) m) ≡ Some x → q ≡ d
          → ((q ≡ d) × (m ≡ n)) ⊎ (child_of (Some y) m ≡ Some x)
      name y true c h same = inl (same, name_true m n c)
      name y false c h same = inr h

      go : (b : Bool) → same_fid q d ≡ b → (o : Option Node)
          → child_of (cond b (option_map (λ y. bind_in y n g) o) o) m ≡ Some x
          → ((q ≡ d) × (m ≡ n)) ⊎ (child_of o m ≡ Some x)
      go true s None h = inr h
      go true s (Some y) h = name y (same_name m n) refl (sym (child_bound y n g m) ∙ h) (fid_true q d s)
      go false s o h = inr h

  write_nowhere : (g : Fid) (p : Patch) (s : Sid) (o : Option Node) → g ≡ x
      → cond (same_fid q g) (option_map (written p s) o) o ≡ o
  write_nowhere g p s o e = ap (λ b. cond b (option_map (written p s) o) o) (not_there g e)

  -- a record that creates or writes x does nothing at q but bind x
  made_erased : (t : ℕ) (s : Sid) (op : Op) (o : Option Node) → (creates x op || writes x op) ≡ true
      → FindsItsNames q o op → erase x (all_edited_at q (effects t s op) o) ≡ erase x o
  made_erased t s (Create d n g mode owner) o m c =
      creation_erased d n g (empty_file mode owner t s) o (fid_true g x (either_left _ m)) c
  made_erased t s (Mkdir d n g mode owner) o m c =
      creation_erased d n g (empty_dir mode owner t s) o (fid_true g x (either_left _ m)) c
  made_erased t s (Symlink d n g target mode owner) o m c =
      creation_erased d n g (new_link target mode owner t s) o (fid_true g x (either_left _ m)) c
  made_erased t s (Store g pre content) o m c =
      ap (erase x) (write_nowhere g (content_patch content t) s o (fid_true g x m))
  made_erased t s (Setattr g pre a) o m c = ap (erase x) (write_nowhere g (attrs_patch a) s o (fid_true g x m))
  made_erased t s (Remove d n g pre) o m c = absurd (false≢true m)
  made_erased t s (Rmdir d n g pre) o m c = absurd (false≢true m)
  made_erased t s (Rename d n e y g over) o m c = absurd (false≢true m)

  -- and binds it where it creates it
  made_binds : (dir : Fid) (name : Name) (t : ℕ) (s : Sid) (op : Op) (o : Option Node)
      → (creates x op || writes x op) ≡ true → (creates x op ≡ true → IsCreatedAt dir name op) → (m : Name)
      → child_of (all_edited_at q (effects t s op) o) m ≡ Some x → ((q ≡ dir) × (m ≡ name)) ⊎ (child_of o m ≡ Some x)
  made_binds dir name t s (Create d n g mode owner) o k at m h = let c = either_left _ k in moved dir name d n (at c) m (creation_binds d n g (empty_file mode owner t s) o (fid_true g x c) m h)
    where
      moved : (dir : Fid) (name : Name) (d : Fid) (n : Name) → (d ≡ dir) × (n ≡ name) → (m : Name)
          → ((q ≡ d) × (m ≡ n)) ⊎ (child_of o m ≡ Some x) → ((q ≡ dir) × (m ≡ name)) ⊎ (child_of o m ≡ Some x)
      moved dir name d n at m (inl h) = inl (h.0 ∙ at.0, h.1 ∙ at.1)
      moved dir name d n at m (inr h) = inr h
  made_binds dir name t s (Mkdir d n g mode owner) o k at m h = let c = either_left _ k in moved dir name d n (at c) m (creation_binds d n g (empty_dir mode owner t s) o (fid_true g x c) m h)
    where
      moved : (dir : Fid) (name : Name) (d : Fid) (n : Name) → (d ≡ dir) × (n ≡ name) → (m : Name)
          → ((q ≡ d) × (m ≡ n)) ⊎ (child_of o m ≡ Some x) → ((q ≡ dir) × (m ≡ name)) ⊎ (child_of o m ≡ Some x)
      moved dir name d n at m (inl h) = inl (h.0 ∙ at.0, h.1 ∙ at.1)
      moved dir name d n at m (inr h) = inr h
  made_binds dir name t s (Symlink d n g target mode owner) o k at m h = let c = either_left _ k in moved dir name d n (at c) m (creation_binds d n g (new_link target mode owner t s) o (fid_true g x c) m h)
    where
      moved : (dir : Fid) (name : Name) (d : Fid) (n : Name) → (d ≡ dir) × (n ≡ name) → (m : Name)
          → ((q ≡ d) × (m ≡ n)) ⊎ (child_of o m ≡ Some x) → ((q ≡ dir) × (m ≡ name)) ⊎ (child_of o m ≡ Some x)
      moved dir name d n at m (inl h) = inl (h.0 ∙ at.0, h.1 ∙ at.1)
      moved dir name d n at m (inr h) = inr h
  made_binds dir name t s (Store g pre content) o k at m h =
      inr (subst (λ y. child_of y m ≡ Some x) (write_nowhere g (content_patch content t) s o (fid_true g x k)) h)
  made_binds dir name t s (Setattr g pre a) o k at m h =
      inr (subst (λ y. child_of y m ≡ Some x) (write_nowhere g (attrs_patch a) s o (fid_true g x k)) h)
  made_binds dir name t s (Remove d n g pre) o k at m h = absurd (false≢true k)
  made_binds dir name t s (Rmdir d n g pre) o k at m h = absurd (false≢true k)
  made_binds dir name t s (Rename d n e y g over) o k at m h = absurd (false≢true k)

  -- ---- records that don't mention x find their names where it is erased

  dir_erased : (o : Option Node) → IsDirNode o → IsDirNode (erase x o)
  dir_erased None h = h
  dir_erased (Some node) h = go node.kind h
    where
      go : (kind : NodeKind) → IsDirNode (Some (with_kind node kind)) → IsDirNode (erase x (Some (with_kind node kind)))
      go (File content) h = h
      go (Link target) h = h
      go (Dir entries) h = h

  none_erased : (o : Option Node) (n : Name) → child_of o n ≡ None → child_of (erase x o) n ≡ None
  none_erased o n h = child-erase x o n ∙ ap (erased_value x) h

  some_erased : (o : Option Node) (n : Name) (g : Fid) → g ≢ x → child_of o n ≡ Some g → child_of (erase x o) n ≡ Some g
  some_erased o n g other h =
      child-erase x o n ∙ (ap (erased_value x) h ∙ ap (λ b. cond b None (Some g)) (fid_other g x other))

  free_erased : (o : Option Node) (d : Fid) (n : Name) → FindsFreeName q o d n → FindsFreeName q (erase x o) d n
  free_erased o d n h = record { dir_there = λ e. dir_erased o (h.dir_there e); free = λ e. none_erased o n (h.free e) }

  over_erased : (o : Option Node) (n : Name) (over : Option Over) → ((v : Over) → over ≡ Some v → v.fid ≢ x)
      → child_of o n ≡ option_map (λ (v : Over). v.fid) over
      → child_of (erase x o) n ≡ option_map (λ (v : Over). v.fid) over
  over_erased o n None other h = none_erased o n h
  over_erased o n (Some v) other h = some_erased o n v.fid (other v refl) h

  finds_erased : (op : Op) (o : Option Node) → mentioning x op ≡ false → FindsItsNames q o op
      → FindsItsNames q (erase x o) op
  finds_erased (Create d n g mode owner) o m h = free_erased o d n h
  finds_erased (Mkdir d n g mode owner) o m h = free_erased o d n h
  finds_erased (Symlink d n g target mode owner) o m h = free_erased o d n h
  finds_erased (Store g pre content) o m h = tt
  finds_erased (Setattr g pre a) o m h = tt
  finds_erased (Remove d n g pre) o m h = let k = or_parts _ _ m in λ e. some_erased o n g (not_one g x k.1) (h e)
  finds_erased (Rmdir d n g pre) o m h = let k = or_parts _ _ m in λ e. some_erased o n g (not_one g x k.1) (h e)
  finds_erased (Rename d n e y g None) o m h =
      let k = or_parts _ _ m in let l = or_parts _ _ k.1 in
      (λ s. some_erased o n g (not_one g x l.1) (h.0 s), λ s. none_erased o y (h.1 s))
  finds_erased (Rename d n e y g (Some v)) o m h =
      let k = or_parts _ _ m in let l = or_parts _ _ k.1 in let i = or_parts _ _ l.1 in
      (λ s. some_erased o n g (fid_false g x i.0) (h.0 s), λ s. some_erased o y v.fid (not_one v.fid x i.1) (h.1 s))

  -- ---- the two lists beside each other

  made_of : (r : Record) → mentioning x r.op ≡ true → only_made x r.op ≡ true → (creates x r.op || writes x r.op) ≡ true
  made_of r m h = ap (λ b. not b || (creates x r.op || writes x r.op)) (sym m) ∙ h

  erased_leads : (client : ℕ) (rs : List Record) (o left : Option Node) → all_records (only_made x) rs ≡ true
      → Overlays q client o rs left → Overlays q client (erase x o) (without x rs) (erase x left)
  erased_leads client [] o left b h = ap (erase x) h
  erased_leads client (r ∷ rs) o left b h =
      cond_both (mentioning x r.op) _ _ (λ l. Overlays q client (erase x o) l (erase x left))
      (λ m. subst (λ y. Overlays q client y (without x rs) (erase x left))
      (made_erased r.time (sid_of client r) r.op o (made_of r m (and_parts _ _ b).0) h.0)
      (erased_leads client rs (operated_at q client r o) left (and_parts _ _ b).1 h.1))
      (λ m. (
        finds_erased r.op o m h.0,
        subst (λ y. Overlays q client y (without x rs) (erase x left))
            (sym (edits_aside (effects r.time (sid_of client r) r.op) (all_aside x r.time (sid_of client r) r.op m) o))
            (erased_leads client rs (operated_at q client r o) left (and_parts _ _ b).1 h.1),
      ))

  -- x is bound at most where the records create it
  bound_there : (client : ℕ) (dir : Fid) (name : Name) (rs : List Record) (o left : Option Node)
      → all_records (only_made x) rs ≡ true → AreCreatedAt dir name x rs → Overlays q client o rs left → (m : Name)
      → child_of left m ≡ Some x → ((q ≡ dir) × (m ≡ name)) ⊎ (child_of o m ≡ Some x)
  bound_there client dir name [] o left b p h m is = inr (subst (λ y. child_of y m ≡ Some x) (sym h) is)
  bound_there client dir name (r ∷ rs) o left b p h m is = ⊎_elim
      (λ (here : (q ≡ dir) × (m ≡ name)). inl here)
      (λ (was : child_of (operated_at q client r o) m ≡ Some x). back (mentioning x r.op) refl was)
      (bound_there client dir name rs (operated_at q client r o) left (and_parts _ _ b).1 p.1 h.1 m is)
    where
      back : (c : Bool) → mentioning x r.op ≡ c → child_of (operated_at q client r o) m ≡ Some x
          → ((q ≡ dir) × (m ≡ name)) ⊎ (child_of o m ≡ Some x)
      back true c was = made_binds dir name r.time (sid_of client r) r.op o (made_of r c (and_parts _ _ b).0) p.0 m was
      back false c was =
          inr (edits_bind (effects r.time (sid_of client r) r.op) (all_aside x r.time (sid_of client r) r.op c) o m
          was)

  -- the removal at its place, of a node that binds x there alone, or not at all
  removal_erases : (dir : Fid) (name : Name) (o : Option Node)
      → ((m : Name) → child_of o m ≡ Some x → (q ≡ dir) × (m ≡ name)) → (q ≡ dir → child_of o name ≡ Some x)
      → erase x o ≡ all_edited_at q (removals dir name x) o
  removal_erases dir name o once here =
      go (same_fid q dir) refl ∙ sym
      (ap (λ b. cond b None (cond (same_fid q dir) (option_map (λ y. unbind_in y name) o) o)) (not_there x refl))
    where
      go : (b : Bool) → same_fid q dir ≡ b → erase x o ≡ cond b (option_map (λ y. unbind_in y name) o) o
      go true e = erase-one x o name (here (fid_true q dir e)) (λ m is. (once m is).1)
      go false e = erase-none x o (λ m is. fid_false q dir e (once m is).0)

  -- what mentions an object that is undone is left out
  pub undone_leads : (client : ℕ) (dir : Fid) (name : Name) (rs : List Record) (given now : Option Node)
      → is_undone x rs ≡ true → AreCreatedAt dir name x rs → ((m : Name) → child_of given m ≡ Some x → ⊥)
      → Overlays q client given rs now → (q ≡ dir → child_of now name ≡ Some x) →
      Overlays q client given (without x rs) (all_edited_at q (removals dir name x) now)
  undone_leads client dir name rs given now u p unbound h here =
      let parts = undone_parts x rs u in
      let end : erase x now ≡ all_edited_at q (removals dir name x) now = removal_erases dir name now (λ m is. ⊎_elim (λ (at : (q ≡ dir) × (m ≡ name)). at) (λ (was : child_of given m ≡ Some x). absurd (unbound m was)) (bound_there client dir name rs given now parts.1 p h m is)) here in
      subst (λ y. Overlays q client given (without x rs) y) end
      (subst (λ y. Overlays q client y (without x rs) (erase x now)) (erase-none x given unbound)
      (erased_leads client rs given now parts.1 h))
