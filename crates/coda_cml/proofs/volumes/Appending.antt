-- A list that drops what an operation makes needless, and hands on what that carried, leaves the volume that the whole list leaves.
use Rattle.std.proofs.Common.{◌≡◌, ℕ, Bool, true, false, cond, List, [], ◌∷◌, ◌++◌, Option, Some, None, refl, sym, ap, ◌∙◌, subst}
use Rattle.std.proofs.lemmas.Bool.{and_parts, false≢true}
use Rattle.coda_fid.specs.Fid.{same_fid}
use Rattle.coda_fid.specs.Op.{carried}
use Rattle.coda_fid.specs.declared.fid.Fid.{Fid}
use Rattle.coda_fid.specs.declared.fid.Sid.{Sid}
use Rattle.coda_fid.specs.declared.op.Attrs.{Attrs}
use Rattle.coda_fid.specs.declared.op.Over.{Over}
use Rattle.coda_fid.specs.declared.op.Op.{Op}
use Rattle.coda_fid.specs.declared.op.Op.TheVariants.{Create, Mkdir, Symlink, Store, Setattr, Remove, Rmdir, Rename}
use Rattle.coda_fid.specs.declared.op.Record.{Record}
use Rattle.coda_tree.specs.Volume.{Nodes, IsVolume, Patch, set_or, content_patch, attrs_patch, Bind, TakeOut, Unbind, Write, edited, edited_all}
use Rattle.coda_certify.specs.Checks.{certify}
use Rattle.coda_certify.specs.Replay.{effects, sid_of, applied}
use Rattle.coda_cancel.specs.Handing.{Debt, nothing, owe, paid, hand, sid_or}
use Rattle.coda_cancel.specs.Dropping.{part_covers, writes, stores, is_covered, drops}
use Rattle.coda_cancel.specs.Cancel.{kept, debt, appended}
use Rattle.coda_cancel.proofs.Keys.{fid_true, carries}
use Rattle.coda_cml.proofs.volumes.Overwritten.{IsCovered, everything, no_version, content_over, covered_everything, veiled, written_anew, taken_out, unbound_taken_out}
use Rattle.coda_cml.proofs.volumes.KeptVolumes.{volume_applied}
use Rattle.coda_cml.proofs.volumes.Certifying.{version_at, certified_checks, version_from_check}
use Rattle.coda_cml.proofs.volumes.Versions.{effects-with_pre}
use Rattle.coda_cml.proofs.volumes.HandingOn.{AlikeBut, IsCoveredWrite, certified_handed, kept_step, dropped_step}
use Rattle.coda_cml.proofs.volumes.Applying.{Applies}

-- what an operation sets of the object that it carries, or all where the object goes
abbrev pub reach : ℕ → Op → Patch
reach t (Store f pre content) = content_patch content t
reach t (Setattr f pre attrs) = attrs_patch attrs
reach t _ = everything

part_over : (p q : Option ℕ) → part_covers p q ≡ true → (x : ℕ) → set_or p (set_or q x) ≡ set_or p x
part_over (Some a) q c x = refl
part_over None None c x = refl
part_over None (Some b) c x = absurd (false≢true c)

carried_is : (f g : Fid) (pre : Sid) → same_fid g f ≡ true → ◌≡◌ {A = Option Over} (Some (record { fid = g; pre = pre })) (Some (record { fid = f; pre = pre }))
carried_is f g pre e i = Some (record { fid = fid_true g f e i; pre = pre })

-- ---- what is dropped

store_covered : (f : Fid) (p : Patch) (s : Sid) (g : Fid) (pre : Sid) (c : List ℕ) → same_fid g f ≡ true → ((t : ℕ) → IsCovered p (content_patch c t)) → IsCoveredWrite f p s (Store g pre c)
store_covered f p s g pre c e over = record {
  pre = pre;
  is = carried_is f g pre e;
  effect = λ t x. (content_patch c t, (λ i. Write (fid_true g f e i) (content_patch c t) x ∷ []), over t);
  was = λ v d. let checks = certified_checks v (Store g pre c) d in subst (λ y. version_at v y ≡ Some pre) (fid_true g f e) (version_from_check v g pre checks.1.0 checks.1.1.1.0);
}

setattr_covered : (f : Fid) (p : Patch) (s : Sid) (g : Fid) (pre : Sid) (a : Attrs) → same_fid g f ≡ true → IsCovered p (attrs_patch a) → IsCoveredWrite f p s (Setattr g pre a)
setattr_covered f p s g pre a e over = record {
  pre = pre;
  is = carried_is f g pre e;
  effect = λ t x. (attrs_patch a, (λ i. Write (fid_true g f e i) (attrs_patch a) x ∷ []), over);
  was = λ v d. let checks = certified_checks v (Setattr g pre a) d in subst (λ y. version_at v y ≡ Some pre) (fid_true g f e) (version_from_check v g pre checks.1.0 checks.1.1.0);
}

writes_covered : (f : Fid) (s : Sid) (r : Op) → writes f r ≡ true → IsCoveredWrite f everything s r
writes_covered f s (Create d n g mode owner) w = absurd (false≢true w)
writes_covered f s (Mkdir d n g mode owner) w = absurd (false≢true w)
writes_covered f s (Symlink d n g t mode owner) w = absurd (false≢true w)
writes_covered f s (Store g pre c) w = store_covered f everything s g pre c w (λ t. covered_everything _)
writes_covered f s (Setattr g pre a) w = setattr_covered f everything s g pre a w (covered_everything _)
writes_covered f s (Remove d n g pre) w = absurd (false≢true w)
writes_covered f s (Rmdir d n g pre) w = absurd (false≢true w)
writes_covered f s (Rename d n e m g over) w = absurd (false≢true w)

stores_covered : (f : Fid) (t : ℕ) (c : List ℕ) (s : Sid) (r : Op) → stores f r ≡ true → IsCoveredWrite f (content_patch c t) s r
stores_covered f t c s (Store g pre d) w = store_covered f _ s g pre d w (λ u. record { content = content_over c (Some d); mode = λ x. refl; owner = λ x. refl; mtime = λ x. refl })
stores_covered f t c s _ w = absurd (false≢true w)

attrs_covered : (f : Fid) (a : Attrs) (s : Sid) (r : Op) → is_covered f a r ≡ true → IsCoveredWrite f (attrs_patch a) s r
attrs_covered f a s (Setattr g pre b) w =
    let h = and_parts _ _ w in let k = and_parts _ _ h.1 in let m = and_parts _ _ k.1 in
    setattr_covered f _ s g pre b h.0 (record { content = λ x. refl; mode = part_over a.mode b.mode k.0; owner = part_over a.owner b.owner m.0; mtime = part_over a.mtime b.mtime m.1 })
attrs_covered f a s _ w = absurd (false≢true w)

-- what an operation drops writes the object that it carries, and sets no more
pub dropped_covered : (f : Fid) (t : ℕ) (s : Sid) (op r : Op) → carries f op ≡ true → drops op r ≡ true → IsCoveredWrite f (reach t op) s r
dropped_covered f t s (Create d n g mode owner) r k w = absurd (false≢true k)
dropped_covered f t s (Mkdir d n g mode owner) r k w = absurd (false≢true k)
dropped_covered f t s (Symlink d n g x mode owner) r k w = absurd (false≢true k)
dropped_covered f t s (Store g pre c) r k w = stores_covered f t c s r (subst (λ y. stores y r ≡ true) (fid_true g f k) w)
dropped_covered f t s (Setattr g pre a) r k w = attrs_covered f a s r (subst (λ y. is_covered y a r ≡ true) (fid_true g f k) w)
dropped_covered f t s (Remove d n g pre) r k w = writes_covered f s r (subst (λ y. writes y r ≡ true) (fid_true g f k) w)
dropped_covered f t s (Rmdir d n g pre) r k w = writes_covered f s r (subst (λ y. writes y r ≡ true) (fid_true g f k) w)
dropped_covered f t s (Rename d n e m g None) r k w = absurd (false≢true k)
dropped_covered f t s (Rename d n e m g (Some v)) r k w = writes_covered f s r (subst (λ y. writes y r ≡ true) (fid_true v.fid f k) w)

-- ---- the operation that drops

-- the operation itself does not see the veil
pub unseen : (f : Fid) (t : ℕ) (s x : Sid) (op : Op) → carries f op ≡ true → (v : Nodes) → edited_all (veiled f (reach t op) s v) (effects t x op) ≡ edited_all v (effects t x op)
unseen f t s x (Create d n g mode owner) k v = absurd (false≢true k)
unseen f t s x (Mkdir d n g mode owner) k v = absurd (false≢true k)
unseen f t s x (Symlink d n g y mode owner) k v = absurd (false≢true k)
unseen f t s x (Store g pre c) k v = subst (λ y. edited (veiled f (content_patch c t) s v) (Write y (content_patch c t) x) ≡ edited v (Write y (content_patch c t) x)) (sym (fid_true g f k)) (written_anew f (content_patch c t) s x v)
unseen f t s x (Setattr g pre a) k v = subst (λ y. edited (veiled f (attrs_patch a) s v) (Write y (attrs_patch a) x) ≡ edited v (Write y (attrs_patch a) x)) (sym (fid_true g f k)) (written_anew f (attrs_patch a) s x v)
unseen f t s x (Remove d n g pre) k v = subst (λ y. edited (edited (veiled f everything s v) (Unbind d n)) (TakeOut y) ≡ edited (edited v (Unbind d n)) (TakeOut y)) (sym (fid_true g f k)) (unbound_taken_out f everything s d n v)
unseen f t s x (Rmdir d n g pre) k v = subst (λ y. edited (edited (veiled f everything s v) (Unbind d n)) (TakeOut y) ≡ edited (edited v (Unbind d n)) (TakeOut y)) (sym (fid_true g f k)) (unbound_taken_out f everything s d n v)
unseen f t s x (Rename d n e m g None) k v = absurd (false≢true k)
unseen f t s x (Rename d n e m g (Some w)) k v = ap (λ y. edited_all y (Unbind d n ∷ Bind e m g ∷ [])) (subst (λ y. edited (veiled f everything s v) (TakeOut y) ≡ edited v (TakeOut y)) (sym (fid_true w.fid f k)) (taken_out f everything s v))

module _ (client : ℕ) (f : Fid) (o : Record) (k : carries f o.op ≡ true) where
  abbrev Beside : Debt → Nodes → Nodes → Type 0
  Beside owed v u = AlikeBut f (reach o.time o.op) no_version owed v u

  last : {root : Fid} (owed : Debt) (v u : Nodes) → IsVolume root v → Beside owed v u → certify v o.op ≡ None → Applies client u (hand owed o ∷ []) (applied v client o)
  unfolding applied
  last owed v u volume a c = (
    certified_handed f _ _ owed v u volume a o.op c,
    ap (λ es. edited_all u es) (effects-with_pre (λ g p. sid_or (owed g) p) o.time (sid_of client o) o.op) ∙ (sym (unseen f o.time no_version (sid_of client o) o.op k u) ∙ (ap (λ y. edited_all y (effects o.time (sid_of client o) o.op)) (sym a.same) ∙ unseen f o.time no_version (sid_of client o) o.op k v)),
  )

  after_drop : (owed : Debt) (v u : Nodes) → Beside owed v u → (r : Record) → drops o.op r.op ≡ true → certify v r.op ≡ None → Beside (owe owed (carried r.op)) (applied v client r) u
  unfolding applied
  after_drop owed v u a r d c = dropped_step f _ _ owed v u a r.time (sid_of client r) r.op (dropped_covered f o.time no_version o.op r.op k d) c

  after_kept : (owed : Debt) (v u : Nodes) → Beside owed v u → (r : Record) → certify v r.op ≡ None → Beside (paid owed (carried r.op)) (applied v client r) (applied u client (hand owed r))
  unfolding applied
  after_kept owed v u a r c = kept_step f _ _ owed v u a r.time (sid_of client r) r.op c

  sim : {root : Fid} (rs : List Record) (owed : Debt) (v u w : Nodes) → IsVolume root v → Beside owed v u → Applies client v rs w → certify w o.op ≡ None → Applies client u (kept (drops o.op) owed rs ++ hand (debt (drops o.op) owed rs) o ∷ []) (applied w client o)
  sim [] owed v u w volume a h c = subst (λ x. Applies client u (hand owed o ∷ []) (applied x client o)) h (last owed v u volume a (subst (λ x. certify x o.op ≡ None) (sym h) c))
  sim (r ∷ rs) owed v u w volume a h c = go (drops o.op r.op) refl
      (λ d. sim rs (owe owed (carried r.op)) (applied v client r) u w (volume_applied v volume client r h.0) (after_drop owed v u a r d h.0) h.1 c)
      (certified_handed f _ _ owed v u volume a r.op h.0, sim rs (paid owed (carried r.op)) (applied v client r) (applied u client (hand owed r)) w (volume_applied v volume client r h.0) (after_kept owed v u a r h.0) h.1 c)
    where
      go : (b : Bool) → drops o.op r.op ≡ b →
          (drops o.op r.op ≡ true → Applies client u (kept (drops o.op) (owe owed (carried r.op)) rs ++ hand (debt (drops o.op) (owe owed (carried r.op)) rs) o ∷ []) (applied w client o)) →
          Applies client u ((hand owed r ∷ kept (drops o.op) (paid owed (carried r.op)) rs) ++ hand (debt (drops o.op) (paid owed (carried r.op)) rs) o ∷ []) (applied w client o) →
          Applies client u (cond b (kept (drops o.op) (owe owed (carried r.op)) rs) (hand owed r ∷ kept (drops o.op) (paid owed (carried r.op)) rs) ++ hand (cond b (debt (drops o.op) (owe owed (carried r.op)) rs) (debt (drops o.op) (paid owed (carried r.op)) rs)) o ∷ []) (applied w client o)
      go true e dropped stays = dropped e
      go false e dropped stays = stays

  -- the operation stays, and what it makes needless goes
  pub appended_applies : {root : Fid} (rs : List Record) (v w : Nodes) → IsVolume root v → Applies client v rs w → certify w o.op ≡ None → Applies client v (appended rs o) (applied w client o)
  appended_applies rs v w volume h c = sim rs nothing v v w volume (record { same = refl; owes = λ g. refl }) h c
