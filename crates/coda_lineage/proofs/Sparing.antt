-- Paths to an object that is repaired, and what a repair spares.
use Rattle.std.proofs.Common.{◌≡◌, Bool, true, false, cond, not, List, [], ◌∷◌, Some, None, is_some, refl, sym, ap}
use Rattle.std.proofs.Common.{◌∙◌, subst, ◌⊎◌, inl, inr}
use Rattle.std.specs.FinMap as finmap
use Rattle.std.specs.Ordering.{eq_by_cmp}
use Rattle.std.specs.Cmp.{Equal-is}
use Rattle.std.proofs.lemmas.Map.Lookups.{exact_bytes}
use Rattle.coda_fid.specs.Name.{name_cmp}
use Rattle.coda_fid.specs.declared.fid.Fid.{Fid}
use Rattle.coda_tree.specs.declared.node.NodeKind.{NodeKind}
use Rattle.coda_tree.specs.declared.node.NodeKind.TheVariants.{File, Link, Dir}
use Rattle.coda_tree.specs.Bindings.{Name, Bindings}
use Rattle.coda_tree.specs.Tree.{Child, IsTree, IsBelow, itself, under}
use Rattle.coda_tree.specs.Volume.{bindings}
use Rattle.coda_tree.proofs.Trees.{below_below}
use Rattle.coda_reslog.specs.declared.change.Held.{Held}
use Rattle.coda_resolve.specs.Settled.{is_dir}
use Rattle.coda_resolve.specs.Resolution.{Objects, child_in}
use Rattle.coda_resolve.specs.Placement.{IsIn}
use Rattle.coda_resolve.proofs.Lists.{some_none}
use Rattle.coda_resolve.proofs.Logged.{any_in}
use Rattle.coda_lineage.specs.Repairs.{LeadsAlike, is_taken, others_of, binds_one, spared_by}
use Rattle.coda_lineage.proofs.Booleans.{any_none}

-- ---- paths

pub leads_end : (a b : Objects) (d : Fid) (names : List Name) (f : Fid) → LeadsAlike a b d names f
    → (f ≡ d) ⊎ ((e : Fid) × ((n : Name) × ((child_in a e n ≡ Some f) × (child_in b e n ≡ Some f))))
leads_end a b d [] f way = inl way
leads_end a b d (n ∷ names) f way = go (leads_end a b way.0 names f way.1.1.1)
  where
    go : (f ≡ way.0) ⊎ ((e : Fid) × ((k : Name) × ((child_in a e k ≡ Some f) × (child_in b e k ≡ Some f))))
        → (f ≡ d) ⊎ ((e : Fid) × ((k : Name) × ((child_in a e k ≡ Some f) × (child_in b e k ≡ Some f))))
    go (inl e) = inr (d, (n, (way.1.0 ∙ ap Some (sym e), way.1.1.0 ∙ ap Some (sym e))))
    go (inr x) = inr x

-- in a tree nothing is bound below itself
pub no_cycle : {root : Fid} {has : Fid → Bool} {c : Child} → IsTree root has c → (g : Fid) (x : Fid)
    → IsBelow c root x → IsBelow c g x → (e : Fid) (n : Name) → IsBelow c x e → c e n ≡ Some g → ⊥
no_cycle {c = c} t g x (itself y is) (itself z same) e n down bound = t.unbound e n (bound ∙ ap Some (sym same ∙ is))
no_cycle {c = c} t g x (itself y is) (under d k z b up) e n down bound = t.unbound d k (b ∙ ap Some is)
no_cycle {c = c} t g x (under p k y b up) (itself z same) e n down bound =
    let one = t.once p k e n g (b ∙ ap Some same) bound in
    no_cycle t g p up (subst (λ q. IsBelow c g q) (sym one.0) (subst (λ q. IsBelow c q e) same down)) p k
    (itself p refl) (b ∙ ap Some same)
no_cycle {c = c} t g x (under p k y b up) (under d j z b2 up2) e n down bound =
    let one = t.once d j p k x b2 b in
    no_cycle t g p up (subst (IsBelow c g) one.0 up2) e n (below_below e (under p k x b (itself p refl)) down) bound

-- ---- what is spared

module _ (subtree : Fid → Bool) (top : Fid) where
  pub spared_kind : (held : Held) (k : NodeKind) → held.node.kind ≡ k
      → is_dir (spared_by subtree top held k).node.kind ≡ is_dir held.node.kind
  spared_kind held (File content) e = refl
  spared_kind held (Link target) e = refl
  spared_kind held (Dir entries) e = go (binds_one subtree top entries)
    where
      go : (b : Bool) → is_dir (cond b (record held { node = record held.node { kind = Dir (others_of subtree top entries); marked = true } }) held).node.kind ≡ is_dir held.node.kind
      go true = sym (ap is_dir e)
      go false = refl

  pub keyed : (es : Bindings) (n : Name) (f : Fid) → finmap.get es n ≡ Some f → IsIn n (finmap.keys es)
  keyed es n f e =
      let k = any_in (eq_by_cmp name_cmp n) (finmap.keys es) (sym (finmap.contains_key-keys es n) ∙ ap is_some e) in
      subst (λ x. IsIn x (finmap.keys es)) (sym (exact_bytes n k.0 ((Equal-is (name_cmp n k.0)).0 k.1.1))) k.1.0

  -- it binds nothing that is taken
  pub spared_binds : (held : Held) (k : NodeKind) (n : Name) (f : Fid) → held.node.kind ≡ k
      → finmap.get (bindings (spared_by subtree top held k).node.kind) n ≡ Some f
      → (finmap.get (bindings held.node.kind) n ≡ Some f) × (is_taken subtree top (Some f) ≡ false)
  spared_binds held (File content) n f e h =
      absurd (some_none f (sym h ∙ ap (λ x. finmap.get (bindings x) n) e ∙ finmap.get-empty name_cmp n))
  spared_binds held (Link target) n f e h =
      absurd (some_none f (sym h ∙ ap (λ x. finmap.get (bindings x) n) e ∙ finmap.get-empty name_cmp n))
  spared_binds held (Dir entries) n f e h = go (binds_one subtree top entries) refl h
    where
      go : (b : Bool) → binds_one subtree top entries ≡ b → finmap.get (bindings (cond b (record held { node = record held.node { kind = Dir (others_of subtree top entries); marked = true } }) held).node.kind) n ≡ Some f → (finmap.get (bindings held.node.kind) n ≡ Some f) × (is_taken subtree top (Some f) ≡ false)
      go true b h =
          kept (is_taken subtree top (finmap.get entries n)) refl
          (sym (finmap.get-retain_keys entries (λ m. not (is_taken subtree top (finmap.get entries m))) n
          (λ m t. ap (λ x. not (is_taken subtree top (finmap.get entries x))) (sym (exact_bytes n m t)))) ∙ h)
        where
          kept : (t : Bool) → is_taken subtree top (finmap.get entries n) ≡ t
              → cond (not (is_taken subtree top (finmap.get entries n))) (finmap.get entries n) None ≡ Some f
              → (finmap.get (bindings held.node.kind) n ≡ Some f) × (is_taken subtree top (Some f) ≡ false)
          kept true is g = absurd (some_none f (sym g ∙ ap (λ t. cond (not t) (finmap.get entries n) None) is))
          kept false is g =
              let at : finmap.get entries n ≡ Some f = sym (ap (λ t. cond (not t) (finmap.get entries n) None) is) ∙ g in
              (ap (λ x. finmap.get (bindings x) n) e ∙ at, ap (is_taken subtree top) (sym at) ∙ is)
      go false b h =
          let at : finmap.get entries n ≡ Some f = ap (λ x. finmap.get (bindings x) n) (sym e) ∙ h in (
            h,
            ap (is_taken subtree top) (sym at) ∙ any_none (λ m. is_taken subtree top (finmap.get entries m))
                (finmap.keys entries) n b (keyed entries n f at),
          )

  -- and all that isn't taken
  pub spared_keeps : (held : Held) (k : NodeKind) (n : Name) (f : Fid) → held.node.kind ≡ k
      → finmap.get (bindings held.node.kind) n ≡ Some f → is_taken subtree top (Some f) ≡ false
      → finmap.get (bindings (spared_by subtree top held k).node.kind) n ≡ Some f
  spared_keeps held (File content) n f e h free = h
  spared_keeps held (Link target) n f e h free = h
  spared_keeps held (Dir entries) n f e h free = go (binds_one subtree top entries)
    where
      at : finmap.get entries n ≡ Some f
      at = ap (λ x. finmap.get (bindings x) n) (sym e) ∙ h

      go : (b : Bool) → finmap.get (bindings (cond b (record held { node = record held.node { kind = Dir (others_of subtree top entries); marked = true } }) held).node.kind) n ≡ Some f
      go true =
          finmap.get-retain_keys entries (λ m. not (is_taken subtree top (finmap.get entries m))) n
          (λ m t. ap (λ x. not (is_taken subtree top (finmap.get entries x))) (sym (exact_bytes n m t)))
          ∙ ap (λ t. cond (not t) (finmap.get entries n) None) (ap (is_taken subtree top) at ∙ free) ∙ at
      go false = h
