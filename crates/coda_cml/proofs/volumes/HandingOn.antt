-- Two volumes beside each other, where the shorter list has dropped Stores and Setattrs of one object and handed on what they carried.
use Rattle.std.proofs.Common.{◌≡◌, ◌≢◌, ℕ, Bool, true, false, cond, List, [], ◌∷◌, Option, Some, None, option_map, is_some, refl, sym, ap, ◌∙◌, subst}
use Rattle.std.specs.FinMap as map
use Rattle.std.proofs.lemmas.Bool.{false_from_ne_true, false≢true}
use Rattle.coda_fid.specs.Fid.{same_fid}
use Rattle.coda_fid.specs.Op.{carried}
use Rattle.coda_fid.specs.declared.fid.Fid.{Fid}
use Rattle.coda_fid.specs.declared.fid.Sid.{Sid}
use Rattle.coda_fid.specs.declared.op.Over.{Over}
use Rattle.coda_fid.specs.declared.op.Op.{Op}
use Rattle.coda_tree.specs.declared.node.Node.{Node}
use Rattle.coda_tree.specs.Volume.{Nodes, IsVolume, Patch, Edit, Write, edited, edited_all}
use Rattle.coda_certify.specs.Checks.{certify}
use Rattle.coda_certify.specs.Replay.{effects}
use Rattle.coda_cancel.specs.Handing.{Debt, earlier, owe, paid, sid_or, with_pre}
use Rattle.coda_cancel.specs.Dropping.{creates}
use Rattle.coda_cancel.proofs.Keys.{fid_true, fid_false, fid_other, over_is, carries}
use Rattle.coda_cml.proofs.volumes.Overwritten.{IsCovered, veiled, veiled_over, edits_alike, look_alike, len_alike}
use Rattle.coda_cml.proofs.volumes.Certifying.{version_at, fid_was_free}
use Rattle.coda_cml.proofs.volumes.Versions.{turned, version_after, version-edits, settled, kept_version, effects-with_pre, some_alike, certified_with_pre}

-- the shorter list leaves the object with the version that is owed, and with the same as the whole where none is
abbrev pub OwesAt : Fid → Option Sid → Nodes → Nodes → Type 0
OwesAt f None v u = version_at v f ≡ version_at u f
OwesAt f (Some owed) v u = version_at u f ≡ Some owed

present : {A : Type 0} (o : Option A) → is_some o ≡ true → (x : A) × (o ≡ Some x)
present (Some x) e = (x, refl)
present None e = absurd (false≢true e)

some_version : (m : Nodes) (f : Fid) → is_some (version_at m f) ≡ is_some (map.get m f)
unfolding version_at
some_version m f = go (map.get m f)
  where
    go : (o : Option Node) → is_some (option_map (λ (node : Node). node.sid) o) ≡ is_some o
    go (Some node) = refl
    go None = refl

module _ (f : Fid) (p : Patch) (s : Sid) where
  -- v is what the whole list leaves, u what the shorter one does: they differ in the dropped writes of f, and in what is owed
  pub record AlikeBut (owed : Debt) (v u : Nodes) : Type 0 where
    pub same : veiled f p s v ≡ veiled f p s u
    pub owes : (g : Fid) → OwesAt g (owed g) v u

  versions : (owed : Debt) (v u : Nodes) → AlikeBut owed v u → (g : Fid) (q : Sid) → version_at v g ≡ Some q → version_at u g ≡ Some (sid_or (owed g) q)
  versions owed v u a g q e = go (owed g) (a.owes g)
    where
      go : (o : Option Sid) → OwesAt g o v u → version_at u g ≡ Some (sid_or o q)
      go None h = sym h ∙ e
      go (Some r) h = h

  -- what is certified after the whole list is, with what it is owed, after the shorter one
  pub certified_handed : {root : Fid} (owed : Debt) (v u : Nodes) → IsVolume root v → AlikeBut owed v u → (op : Op) → certify v op ≡ None → certify u (with_pre (λ g q. sid_or (owed g) q) op) ≡ None
  certified_handed owed v u volume a op c = certified_with_pre v u (look_alike f p s v u a.same) volume (len_alike f p s v u a.same) (λ g q. sid_or (owed g) q) (versions owed v u a) op c

  -- an object is in the one where it is in the other
  there : (v u : Nodes) (g : Fid) (q : Sid) → veiled f p s v ≡ veiled f p s u → version_at u g ≡ Some q → is_some (map.get v g) ≡ true
  there v u g q e h = some_alike v u (look_alike f p s v u e) g ∙ (sym (some_version u g) ∙ ap (λ o. is_some o) h)

  after_none : (g : Fid) (v u : Nodes) (es : List Edit) → version_at v g ≡ version_at u g → version_at (edited_all v es) g ≡ version_at (edited_all u es) g
  after_none g v u es e = version-edits g es v ∙ (ap (version_after g es) e ∙ sym (version-edits g es u))

  module _ (g : Fid) (v u : Nodes) (same : veiled f p s v ≡ veiled f p s u) (t : ℕ) (x : Sid) (op : Op) (c : certify v op ≡ None) where
    after_some : (q : Sid) → version_at u g ≡ Some q → (b : Bool) → carries g op ≡ b → OwesAt g (cond b None (Some q)) (edited_all v (effects t x op)) (edited_all u (effects t x op))
    after_some q h true k =
        let known : (y : Sid) × (version_at v g ≡ Some y) = present (version_at v g) (some_version v g ∙ there v u g q same h) in
        version-edits g (effects t x op) v ∙ (ap (version_after g (effects t x op)) known.1 ∙ (settled g t x op k known.0 q ∙ sym (version-edits g (effects t x op) u ∙ ap (version_after g (effects t x op)) h)))
    after_some q h false k = version-edits g (effects t x op) u ∙ (ap (version_after g (effects t x op)) h ∙ kept_version g t x op k (false_from_ne_true _ not_new) q)
      where
        not_new : creates g op ≡ true → ⊥
        not_new k = let e : is_some (map.get v g) ≡ false = ap (λ o. is_some o) (fid_was_free v g op k c) in false≢true (sym e ∙ there v u g q same h)

    after : (q : Option Sid) → OwesAt g q v u → OwesAt g (cond (carries g op) None q) (edited_all v (effects t x op)) (edited_all u (effects t x op))
    after None h = go (carries g op)
      where
        go : (b : Bool) → OwesAt g (cond b None None) (edited_all v (effects t x op)) (edited_all u (effects t x op))
        go true = after_none g v u (effects t x op) h
        go false = after_none g v u (effects t x op) h
    after (Some q) h = after_some q h (carries g op) refl

  paid_is : (owed : Debt) (w : Option Over) (g : Fid) → cond (over_is g w) None (owed g) ≡ paid owed w g
  paid_is owed None g = refl
  paid_is owed (Some w) g = ap (λ b. cond b None (owed g)) (turned w.fid g)

  -- a record that both lists have, the shorter one with what it is owed
  pub kept_step : (owed : Debt) (v u : Nodes) → AlikeBut owed v u → (t : ℕ) (x : Sid) (op : Op) → certify v op ≡ None →
      AlikeBut (paid owed (carried op)) (edited_all v (effects t x op)) (edited_all u (effects t x (with_pre (λ g q. sid_or (owed g) q) op)))
  kept_step owed v u a t x op c =
      subst (λ es. AlikeBut (paid owed (carried op)) (edited_all v (effects t x op)) (edited_all u es)) (sym (effects-with_pre (λ g q. sid_or (owed g) q) t x op))
      (record {
        same = edits_alike f p s (effects t x op) v u a.same;
        owes = λ g. subst (λ q. OwesAt g q (edited_all v (effects t x op)) (edited_all u (effects t x op))) (paid_is owed (carried op) g) (after g v u a.same t x op c (owed g) (a.owes g));
      })

  -- an operation that is one write of f, which the veil covers
  pub record IsCoveredWrite (op : Op) : Type 0 where
    pub pre : Sid
    pub is : carried op ≡ Some (record { fid = f; pre = pre })
    pub effect : (t : ℕ) (x : Sid) → (q : Patch) × (effects t x op ≡ Write f q x ∷ []) × IsCovered p q
    pub was : (v : Nodes) → certify v op ≡ None → version_at v f ≡ Some pre

  -- a record that the shorter list has dropped
  pub dropped_step : (owed : Debt) (v u : Nodes) → AlikeBut owed v u → (t : ℕ) (x : Sid) (op : Op) → IsCoveredWrite op → certify v op ≡ None →
      AlikeBut (owe owed (carried op)) (edited_all v (effects t x op)) u
  dropped_step owed v u a t x op h c =
      let e = h.effect t x in
      subst (λ es. AlikeBut (owe owed (carried op)) (edited_all v es) u) (sym e.1)
      (record { same = veiled_over f p s e.0 x e.2 v ∙ a.same; owes = λ g. subst (λ (o : Option Over). OwesAt g (owe owed o g) (edited v (Write f e.0 x)) u) (sym h.is) (at g (same_fid g f) refl) })
    where
      here : (o : Option Sid) → OwesAt f o v u → OwesAt f (earlier o h.pre) (edited v (Write f (h.effect t x).0 x)) u
      here None o = sym o ∙ h.was v c
      here (Some q) o = o

      elsewhere : (g : Fid) → g ≢ f → (o : Option Sid) → OwesAt g o v u → OwesAt g o (edited v (Write f (h.effect t x).0 x)) u
      elsewhere g ne None o = version-edits g (Write f (h.effect t x).0 x ∷ []) v ∙ (ap (λ b. cond b (option_map (λ (y : Sid). x) (version_at v g)) (version_at v g)) (fid_other g f ne) ∙ o)
      elsewhere g ne (Some q) o = o

      at : (g : Fid) (b : Bool) → same_fid g f ≡ b → OwesAt g (cond b (earlier (owed g) h.pre) (owed g)) (edited v (Write f (h.effect t x).0 x)) u
      at g true e = subst (λ y. OwesAt y (earlier (owed y) h.pre) (edited v (Write f (h.effect t x).0 x)) u) (sym (fid_true g f e)) (here (owed f) (a.owes f))
      at g false e = elsewhere g (fid_false g f e) (owed g) (a.owes g)
