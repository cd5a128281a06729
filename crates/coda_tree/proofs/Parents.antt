-- The directory that binds a fid, by a search through all nodes.
use Rattle.std.proofs.Common.{◌≡◌, ◌≢◌, Bool, true, false, ◌||◌, cond, List, [], ◌∷◌, Option, Some, None, is_some, Ordering, refl, sym, ap, ◌∙◌, subst}
use Rattle.std.specs.List.{list_any, find}
use Rattle.std.specs.FinMap as map
use Rattle.std.specs.FinMap.{FinMap}
use Rattle.std.specs.Ordering.{eq_by_cmp}
use Rattle.std.proofs.lemmas.Map.Lookups.{exact_bytes}
use Rattle.std.proofs.lemmas.Option.{none-some}
use Rattle.coda_fid.specs.Fid.{fid_cmp}
use Rattle.coda_fid.specs.Name.{name_cmp}
use Rattle.coda_fid.specs.declared.fid.Fid.{Fid}
use Rattle.coda_fid.proofs.Fids.{exact_fids, same_fid_is, same_fid_refl}
use Rattle.coda_tree.specs.declared.node.Node.{Node}
use Rattle.coda_tree.specs.Bindings.{Name}
use Rattle.coda_tree.specs.Volume.{Nodes, bindings, child, child_of, IsVolume, is_at_fid, binds_fid, parent_of}
use Rattle.coda_tree.proofs.Booleans.{eq_true}

-- ---- a test that finds
find_passes : {A : Type 0} (p : A → Bool) (xs : List A) (x : A) → find p xs ≡ Some x → p x ≡ true
find_passes p [] x h = absurd (none-some x h)
find_passes p (y ∷ ys) x h =
    elim (p y) as (λ b. p y ≡ b → cond b (Some y) (find p ys) ≡ Some x → p x ≡ true) [
      | true ↦ λ e is. let same : y ≡ x = cc in subst (λ z. p z ≡ true) same e
      | false ↦ λ e is. find_passes p ys x is
    ] refl h

-- a test that some member passes finds one
find_some : {A : Type 0} (p t : A → Bool) (xs : List A) → ((x : A) → t x ≡ true → p x ≡ true) → list_any t xs ≡ true → (x : A) × (find p xs ≡ Some x)
find_some p t [] imp h = cc
find_some p t (y ∷ ys) imp h =
    elim (p y) as (λ b. p y ≡ b → (t y || list_any t ys) ≡ true → (x : _) × (cond b (Some y) (find p ys) ≡ Some x)) [
      | true ↦ λ e is. (y, refl)
      | false ↦ λ e is. find_some p t ys imp (elim (t y) as (λ b. t y ≡ b → (b || list_any t ys) ≡ true → list_any t ys ≡ true) [
        | true ↦ λ passes _. let both : p y ≡ true = imp y passes in cc
        | false ↦ λ _ rest. rest
      ] refl is)
    ] refl h

any_passes : {A : Type 0} (p : A → Bool) (xs : List A) → list_any p xs ≡ true → (x : A) × (p x ≡ true)
any_passes p [] h = cc
any_passes p (y ∷ ys) h =
    elim (p y) as (λ b. p y ≡ b → (b || list_any p ys) ≡ true → (x : _) × (p x ≡ true)) [
      | true ↦ λ e _. (y, e)
      | false ↦ λ _ rest. any_passes p ys rest
    ] refl h

any_more : {A : Type 0} (t p : A → Bool) (xs : List A) → ((x : A) → t x ≡ true → p x ≡ true) → list_any t xs ≡ true → list_any p xs ≡ true
any_more t p [] imp h = h
any_more t p (y ∷ ys) imp h =
    elim (t y) as (λ b. t y ≡ b → (b || list_any t ys) ≡ true → (p y || list_any p ys) ≡ true) [
      | true ↦ λ e _. ap (λ b. b || list_any p ys) (imp y e)
      | false ↦ λ _ rest. elim (p y) as (λ b. (b || list_any p ys) ≡ true) [ true ↦ refl | false ↦ any_more t p ys imp rest ]
    ] refl h

-- a key that a map has is among its keys
pub key_among : {K X : Type 0} {R : K → K → Ordering} (m : FinMap R X) (q : K) (x : X) → map.get m q ≡ Some x → list_any (eq_by_cmp R q) (map.keys m) ≡ true
key_among m q x is = sym (map.contains_key-keys m q) ∙ ap is_some is

pub tied_fid : (a b : Fid) → eq_by_cmp fid_cmp a b ≡ true → a ≡ b
tied_fid a b h = exact_fids a b (eq_true _ h)

tied_name : (a b : Name) → eq_by_cmp name_cmp a b ≡ true → a ≡ b
tied_name a b h = exact_bytes a b (eq_true _ h)

-- ---- the directory that binds a fid

pub at_fid : (o : Option Fid) (f : Fid) → is_at_fid o f ≡ true → o ≡ Some f
at_fid None f h = cc
at_fid (Some g) f h = ap Some (same_fid_is g f h)

pub binds_sound : (o : Option Node) (f : Fid) → binds_fid o f ≡ true → (n : Name) × (child_of o n ≡ Some f)
binds_sound None f h = cc
binds_sound (Some node) f h =
    let found = any_passes (λ n. is_at_fid (map.get (bindings node.kind) n) f) (map.keys (bindings node.kind)) h in
    (found.0, at_fid _ f found.1)

pub binds_complete : (o : Option Node) (f : Fid) (n : Name) → child_of o n ≡ Some f → binds_fid o f ≡ true
binds_complete None f n h = cc
binds_complete (Some node) f n h =
    any_more (eq_by_cmp name_cmp n) (λ k. is_at_fid (map.get (bindings node.kind) k) f) (map.keys (bindings node.kind))
    (λ k tied. ap (λ j. is_at_fid (map.get (bindings node.kind) j) f) (sym (tied_name n k tied)) ∙ ap (λ o. is_at_fid o f) h ∙ same_fid_refl f)
    (key_among (bindings node.kind) n f h)

-- a test that finds a name bound to f, or says that there is none
pub binds_test : (o : Option Node) (f : Fid) (b : Bool) → (b ≡ true → (n : Name) × (child_of o n ≡ Some f)) → (b ≡ false → (n : Name) → child_of o n ≢ Some f) → b ≡ binds_fid o f
binds_test o f true some none = let found = some refl in sym (binds_complete o f found.0 found.1)
binds_test o f false some none = elim (binds_fid o f) as (λ b. binds_fid o f ≡ b → false ≡ b) [
  | true ↦ λ binds. let found = binds_sound o f binds in absurd (none refl found.0 found.1)
  | false ↦ λ _. refl
] refl

-- the parent binds f
pub parent_sound : (m : Nodes) (f d : Fid) → parent_of m f ≡ Some d → (n : Name) × (child m d n ≡ Some f)
unfolding parent_of
parent_sound m f d h = binds_sound (map.get m d) f (find_passes (λ e. binds_fid (map.get m e) f) (map.keys m) d h)

pub there_node : (o : Option Node) (f : Fid) (n : Name) → child_of o n ≡ Some f → (node : Node) × (o ≡ Some node)
there_node None f n h = absurd (none-some f h)
there_node (Some node) f n h = (node, refl)

-- what is bound has a parent
pub parent_complete : (m : Nodes) (d : Fid) (n : Name) (f : Fid) → child m d n ≡ Some f → (e : Fid) × (parent_of m f ≡ Some e)
unfolding parent_of
parent_complete m d n f h =
    find_some (λ e. binds_fid (map.get m e) f) (eq_by_cmp fid_cmp d) (map.keys m)
    (λ e tied. ap (λ x. binds_fid (map.get m x) f) (sym (tied_fid d e tied)) ∙ binds_complete (map.get m d) f n h)
    (let there = there_node (map.get m d) f n h in key_among m d there.0 there.1)

-- in a volume, the directory that binds f is its parent
pub parent_is : {root : Fid} (m : Nodes) → IsVolume root m → (d : Fid) (n : Name) (f : Fid) → child m d n ≡ Some f → parent_of m f ≡ Some d
parent_is m v d n f h =
    let found = parent_complete m d n f h in
    let bound = parent_sound m f found.0 found.1 in
    found.1 ∙ ap Some (v.tree.once found.0 bound.0 d n f bound.1 h).0
