-- A creation that a removal undoes is left out, with all that mentions its object: what is left leaves what the removal leaves.
use Rattle.std.proofs.Common.{◌≡◌, ℕ, ◌+◌, ◌≤◌, Bool, true, false, cond, ◌||◌, not, List, [], ◌∷◌, Option, Some, None, option_map, is_some, refl, sym, ap, ◌∙◌, subst, ⊎_elim, arith}
use Rattle.std.specs.FinMap as map
use Rattle.std.proofs.lemmas.Bool.{cases_Bool, cond_both, and_parts, false≢true, true≢false}
use Rattle.coda_fid.specs.Fid.{same_fid}
use Rattle.coda_fid.specs.declared.fid.Fid.{Fid}
use Rattle.coda_fid.specs.declared.fid.Sid.{Sid}
use Rattle.coda_fid.specs.declared.op.Op.{Op}
use Rattle.coda_fid.specs.declared.op.Op.TheVariants.{Create, Mkdir, Symlink, Store, Setattr, Remove, Rmdir, Rename}
use Rattle.coda_fid.specs.declared.op.Record.{Record}
use Rattle.coda_tree.specs.declared.node.Node.{Node}
use Rattle.coda_tree.specs.Bindings.{Name}
use Rattle.coda_tree.specs.Volume.{Nodes, child, has, IsVolume, IsDirAt, Patch, content_patch, attrs_patch, written, Put, Bind, TakeOut, Unbind, Write, additions, removals, edited, edited_all}
use Rattle.coda_tree.proofs.Changes.{added_is, dir_node, len_added}
use Rattle.coda_certify.specs.Checks.{certify}
use Rattle.coda_certify.specs.Replay.{MayCreate, empty_file, empty_dir, new_link, effects, sid_of, applied}
use Rattle.coda_certify.proofs.Passed.{may_edit}
use Rattle.coda_cancel.specs.Dropping.{mentioning, creates, writes}
use Rattle.coda_cancel.specs.Cancel.{is_undone, without}
use Rattle.coda_cancel.proofs.Keys.{fid_true, fid_false}
use Rattle.coda_cml.specs.Steady.{any_record}
use Rattle.coda_cml.proofs.runs.UndoneCreations.{all_records, only_made, undone_parts}
use Rattle.coda_cml.proofs.volumes.Places.{act, point, same_nodes, get-edited, get-edited_twice}
use Rattle.coda_cml.proofs.volumes.Overwritten.{len-written}
use Rattle.coda_cml.proofs.volumes.KeptVolumes.{volume_applied}
use Rattle.coda_cml.proofs.volumes.Certifying.{fid_was_free}
use Rattle.coda_cml.proofs.volumes.Applying.{Applies}
use Rattle.coda_cml.proofs.volumes.Erasing.{erase, erase-none, erase-bound, erase-one, bare, IsWithout, edits_without, get-aside}
use Rattle.coda_cml.proofs.volumes.Omitting.{certified_without, all_aside}

either_left : (b : Bool) → (b || false) ≡ true → b ≡ true
either_left true e = refl
either_left false e = e

module _ (f : Fid) where
  -- ---- the records that are left out

  -- a creation of f
  module _ (d : Fid) (n : Name) (node : Node) (v : Nodes) (may : MayCreate v d n f) where
    get-made : (q : Fid) → map.get (edited_all v (additions d n f node)) q ≡ point q f (λ _. Some node) (point q d (act (Bind d n f)) (map.get v q))
    get-made q = get-edited_twice v (Bind d n f) (Put f node) q

    longer : map.len v ≤ map.len (edited_all v (additions d n f node))
    longer =
        let there = dir_node v d may.dir_there in
        let more : map.len (edited_all v (additions d n f node)) ≡ map.len v + 1 = ap (λ (m : Nodes). map.len m) (sym (added_is v d n f node)) ∙ len_added v d n f node there.0 there.1 may.fid_free in
        omega arith

    without_creation : (u : Nodes) → IsWithout f v u → IsWithout f (edited_all v (additions d n f node)) u
    without_creation u g = record {
      points = λ q. g.points q ∙ sym (ap (bare f q) (get-made q) ∙ split q (same_fid q f) (same_fid q d) refl);
      fewer = let k = longer in let h = g.fewer in omega arith;
    }
      where
        split : (q : Fid) (b c : Bool) → same_fid q d ≡ c → cond b None (erase f (cond b (Some node) (cond c (act (Bind d n f) (map.get v q)) (map.get v q)))) ≡ cond b None (erase f (map.get v q))
        split q true c e = refl
        split q false true e =
            let same : q ≡ d = fid_true q d e in
            erase-bound f (map.get v q) n (subst (λ x. IsDirAt v x) (sym same) may.dir_there) (ap (λ x. child v x n) same ∙ may.name_free)
        split q false false e = refl

  creation_step : (d : Fid) (n : Name) (g : Fid) (node : Node) (v u : Nodes) → g ≡ f → MayCreate v d n g → IsWithout f v u → IsWithout f (edited_all v (additions d n g node)) u
  creation_step d n g node v u e may h = subst (λ y. IsWithout f (edited_all v (additions d n y node)) u) (sym e) (without_creation d n node v (subst (λ y. MayCreate v d n y) e may) u h)

  -- a write of f
  without_write : (p : Patch) (s : Sid) (v u : Nodes) → IsWithout f v u → IsWithout f (edited v (Write f p s)) u
  without_write p s v u g = record {
    points = λ q. g.points q ∙ sym (ap (bare f q) (get-edited v (Write f p s) q) ∙ split (same_fid q f) (map.get v q));
    fewer = subst (λ k. map.len u ≤ k) (sym (len-written f p s v)) g.fewer;
  }
    where
      split : (b : Bool) (o : Option Node) → cond b None (erase f (cond b (option_map (written p s) o) o)) ≡ cond b None (erase f o)
      split true o = refl
      split false o = refl

  write_step : (g : Fid) (p : Patch) (s : Sid) (v u : Nodes) → g ≡ f → IsWithout f v u → IsWithout f (edited v (Write g p s)) u
  write_step g p s v u e h = subst (λ y. IsWithout f (edited v (Write y p s)) u) (sym e) (without_write p s v u h)

  -- a record that creates or writes f is no loss where f isn't
  left_out : (t : ℕ) (s : Sid) (op : Op) (v u : Nodes) → (creates f op || writes f op) ≡ true → certify v op ≡ None → IsWithout f v u → IsWithout f (edited_all v (effects t s op)) u
  left_out t s (Create d n g mode owner) v u m c h = creation_step d n g (empty_file mode owner t s) v u (fid_true g f (either_left _ m)) (may_edit v (Create d n g mode owner) c) h
  left_out t s (Mkdir d n g mode owner) v u m c h = creation_step d n g (empty_dir mode owner t s) v u (fid_true g f (either_left _ m)) (may_edit v (Mkdir d n g mode owner) c) h
  left_out t s (Symlink d n g x mode owner) v u m c h = creation_step d n g (new_link x mode owner t s) v u (fid_true g f (either_left _ m)) (may_edit v (Symlink d n g x mode owner) c) h
  left_out t s (Store g pre content) v u m c h = write_step g (content_patch content t) s v u (fid_true g f m) h
  left_out t s (Setattr g pre a) v u m c h = write_step g (attrs_patch a) s v u (fid_true g f m) h
  left_out t s (Remove d n g pre) v u m c h = absurd (false≢true m)
  left_out t s (Rmdir d n g pre) v u m c h = absurd (false≢true m)
  left_out t s (Rename d n e x g over) v u m c h = absurd (false≢true m)

  left_out_record : (client : ℕ) (r : Record) (v u : Nodes) → (creates f r.op || writes f r.op) ≡ true → certify v r.op ≡ None → IsWithout f v u → IsWithout f (applied v client r) u
  unfolding applied
  left_out_record client r v u m c h = left_out r.time (sid_of client r) r.op v u m c h

  kept_record : (client : ℕ) (r : Record) (v u : Nodes) → mentioning f r.op ≡ false → IsWithout f v u → IsWithout f (applied v client r) (applied u client r)
  unfolding applied
  kept_record client r v u m h = edits_without f (effects r.time (sid_of client r) r.op) (all_aside f r.time (sid_of client r) r.op m) v u h

  -- ---- before the creation nothing stands at f

  unwritten : (g : Fid) (p : Patch) (s : Sid) (v : Nodes) → map.get (edited v (Write g p s)) f ≡ None → map.get v f ≡ None
  unwritten g p s v e = go (same_fid f g) (map.get v f) (sym (get-edited v (Write g p s) f) ∙ e)
    where
      go : (b : Bool) (o : Option Node) → cond b (option_map (written p s) o) o ≡ None → o ≡ None
      go b None e = refl
      go true (Some node) e = cc
      go false (Some node) e = e

  free_before : (client : ℕ) (r : Record) (v : Nodes) → only_made f r.op ≡ true → creates f r.op ≡ false → map.get (applied v client r) f ≡ None → map.get v f ≡ None
  unfolding applied
  free_before client r v made k e = back (mentioning f r.op) refl
    where
      kinds : (t : ℕ) (s : Sid) (op : Op) → writes f op ≡ true → map.get (edited_all v (effects t s op)) f ≡ None → map.get v f ≡ None
      kinds t s (Store g pre x) m e = unwritten g (content_patch x t) s v e
      kinds t s (Setattr g pre a) m e = unwritten g (attrs_patch a) s v e
      kinds t s _ m e = absurd (false≢true m)

      back : (b : Bool) → mentioning f r.op ≡ b → map.get v f ≡ None
      back true m = kinds r.time (sid_of client r) r.op (ap (λ x. x || writes f r.op) (sym k) ∙ (ap (λ x. not x || (creates f r.op || writes f r.op)) (sym m) ∙ made)) e
      back false m = sym (get-aside f (effects r.time (sid_of client r) r.op) (all_aside f r.time (sid_of client r) r.op m) v) ∙ e

  absent : (client : ℕ) (rs : List Record) (v w : Nodes) → any_record (creates f) rs ≡ true → all_records (only_made f) rs ≡ true → Applies client v rs w → map.get v f ≡ None
  absent client [] v w a b h = absurd (false≢true a)
  absent client (r ∷ rs) v w a b h = ⊎_elim
      (λ (k : creates f r.op ≡ true). fid_was_free v f r.op k h.0)
      (λ (k : creates f r.op ≡ false). free_before client r v (and_parts _ _ b).0 k (absent client rs (applied v client r) w (ap (λ x. x || any_record (creates f) rs) (sym k) ∙ a) (and_parts _ _ b).1 h.1))
      (cases_Bool (creates f r.op))

  -- ---- the two lists beside each other

  -- without what mentions f, the list applies, and leaves the volume without f
  sim : {root : Fid} (client : ℕ) (rs : List Record) (v u w : Nodes) → all_records (only_made f) rs ≡ true → IsVolume root v → IsWithout f v u → Applies client v rs w → (x : Nodes) × Applies client u (without f rs) x × IsWithout f w x × IsVolume root w
  sim {root} client [] v u w b volume h a = (u, refl, subst (λ y. IsWithout f y u) a h, subst (IsVolume root) a volume)
  sim {root} client (r ∷ rs) v u w b volume h a = cond_both (mentioning f r.op) _ _ (λ l. (x : Nodes) × Applies client u l x × IsWithout f w x × IsVolume root w)
      (λ m. sim client rs (applied v client r) u w (and_parts _ _ b).1 (volume_applied v volume client r a.0) (left_out_record client r v u (ap (λ x. not x || (creates f r.op || writes f r.op)) (sym m) ∙ (and_parts _ _ b).0) a.0 h) a.1)
      (λ m.
      let next : (x : Nodes) × Applies client (applied u client r) (without f rs) x × IsWithout f w x × IsVolume root w = sim client rs (applied v client r) (applied u client r) w (and_parts _ _ b).1 (volume_applied v volume client r a.0) (kept_record client r v u m h) a.1 in
      (next.0, (certified_without f v u volume h r.op m a.0, next.1), next.2, next.3))

  -- a volume in which nothing stands at f is itself without f
  begins : {root : Fid} (v : Nodes) → IsVolume root v → map.get v f ≡ None → IsWithout f v v
  begins v volume free = record { points = λ q. sym (go q (same_fid q f) refl); fewer = omega arith }
    where
      unbound : (q : Fid) (n : Name) → child v q n ≡ Some f → ⊥
      unbound q n is = let gone : has v f ≡ false = ap is_some free in true≢false (sym (volume.tree.there q n f is) ∙ gone)

      go : (q : Fid) (b : Bool) → same_fid q f ≡ b → cond b None (erase f (map.get v q)) ≡ map.get v q
      go q true e = sym (ap (map.get v) (fid_true q f e) ∙ free)
      go q false e = erase-none f (map.get v q) (unbound q)

  -- what is left is what the removal leaves
  ends : {root : Fid} (w u : Nodes) (d : Fid) (n : Name) → IsVolume root w → IsWithout f w u → child w d n ≡ Some f → u ≡ edited_all w (removals d n f)
  ends w u d n volume h here = same_nodes _ _ (λ q. h.points q ∙ (go q (same_fid q f) (same_fid q d) refl ∙ sym (get-edited_twice w (Unbind d n) (TakeOut f) q)))
    where
      go : (q : Fid) (b c : Bool) → same_fid q d ≡ c → cond b None (erase f (map.get w q)) ≡ cond b None (cond c (act (Unbind d n) (map.get w q)) (map.get w q))
      go q true c e = refl
      go q false true e =
          let same : q ≡ d = fid_true q d e in
          erase-one f (map.get w q) n (ap (λ x. child w x n) same ∙ here) (λ m is. (volume.tree.once q m d n f is here).1)
      go q false false e = erase-none f (map.get w q) (λ m is. fid_false q d e (volume.tree.once q m d n f is here).0)

  -- what mentions an object that is undone may be left out
  pub undone_applies : {root : Fid} (client : ℕ) (rs : List Record) (v w : Nodes) (d : Fid) (n : Name) → IsVolume root v → is_undone f rs ≡ true → Applies client v rs w → child w d n ≡ Some f →
      Applies client v (without f rs) (edited_all w (removals d n f))
  undone_applies {root} client rs v w d n volume u a here =
      let parts = undone_parts f rs u in
      let run : (x : Nodes) × Applies client v (without f rs) x × IsWithout f w x × IsVolume root w = sim client rs v v w parts.1 volume (begins v volume (absent client rs v w parts.0 parts.1 a)) a in
      subst (Applies client v (without f rs)) (ends w run.0 d n run.3 run.2 here) run.1
