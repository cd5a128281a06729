-- Nodes from which one object is erased, with the names bound to it.
use Rattle.std.proofs.Common.{◌≡◌, ◌≢◌, ℕ, ◌≤◌, Bool, true, false, cond, not, List, [], ◌∷◌, Option, Some, None, option_map, is_some, refl, sym, ap, ◌∙◌, subst, arith}
use Rattle.std.specs.FinMap as map
use Rattle.std.specs.Ordering.{eq_by_cmp}
use Rattle.std.specs.Cmp.{eq_by_cmp_equiv, Equal-is}
use Rattle.std.proofs.lemmas.Bool.{true≢false}
use Rattle.std.proofs.lemmas.Cmp.{nat_list_cmp_total}
use Rattle.std.proofs.lemmas.Map.Lookups.{exact_bytes}
use Rattle.std.proofs.lemmas.Option.{none-some}
use Rattle.coda_fid.specs.Fid.{same_fid}
use Rattle.coda_fid.specs.Name.{name_cmp}
use Rattle.coda_fid.specs.declared.fid.Fid.{Fid}
use Rattle.coda_fid.specs.declared.fid.Sid.{Sid}
use Rattle.coda_tree.specs.declared.node.Node.{Node}
use Rattle.coda_tree.specs.declared.node.NodeKind.{NodeKind}
use Rattle.coda_tree.specs.declared.node.NodeKind.TheVariants.{File, Link, Dir}
use Rattle.coda_tree.specs.Bindings.{Name, Bindings}
use Rattle.coda_tree.specs.Volume.{Nodes, bindings, child_of, is_at_fid, IsDirNode, with_kind, bind_in, unbind_in, Patch, with_content, written, Edit, Put, Bind, TakeOut, Unbind, Write, edited, edited_all}
use Rattle.coda_cancel.proofs.Keys.{fid_true, fid_same, fid_other}
use Rattle.coda_cml.proofs.volumes.Overwritten.{bindings-content}
use Rattle.coda_cml.proofs.volumes.Places.{place, act, point, get-edited, count_after, len-edited}

-- ---- names

-- whether two names are one
unfoldable pub same_name : Name → Name → Bool
same_name a b = eq_by_cmp name_cmp a b

name_true : (a b : Name) → same_name a b ≡ true → a ≡ b
unfolding same_name
name_true a b e = exact_bytes a b ((Equal-is (name_cmp a b)).0 e)

name_false : (a b : Name) → same_name a b ≡ false → a ≢ b
unfolding same_name
name_false a b e h = true≢false (sym (subst (λ x. eq_by_cmp name_cmp a x ≡ true) h ((eq_by_cmp_equiv nat_list_cmp_total).refl a)) ∙ e)

get-bound : (es : Bindings) (n : Name) (g : Fid) (q : Name) → map.get (map.insert es n g) q ≡ cond (same_name q n) (Some g) (map.get es q)
unfolding same_name
get-bound es n g q = map.get-insert nat_list_cmp_total es n g q

get-unbound : (es : Bindings) (n q : Name) → map.get (map.remove es n) q ≡ cond (same_name q n) None (map.get es q)
unfolding same_name
get-unbound es n q = map.get-remove nat_list_cmp_total es n q

same_bindings : (a b : Bindings) → ((q : Name) → map.get a q ≡ map.get b q) → a ≡ b
same_bindings a b h = map.same_map nat_list_cmp_total exact_bytes a b h

-- ---- what a directory binds, without one object

-- the bindings that don't lead to f
pub erased : Fid → Bindings → Bindings
erased f es = map.retain_keys es (λ n. not (is_at_fid (map.get es n) f))

-- what is bound, unless it is f
abbrev pub erased_value : Fid → Option Fid → Option Fid
erased_value f o = cond (is_at_fid o f) None o

turn : {A : Type 0} (b : Bool) (x y : A) → cond (not b) x y ≡ cond b y x
turn true x y = refl
turn false x y = refl

get-erased : (f : Fid) (es : Bindings) (n : Name) → map.get (erased f es) n ≡ erased_value f (map.get es n)
unfolding erased
get-erased f es n = map.get-retain_keys es (λ x. not (is_at_fid (map.get es x) f)) n (λ x e. ap (λ y. not (is_at_fid (map.get es y) f)) (sym (exact_bytes n x e))) ∙ turn (is_at_fid (map.get es n) f) _ _

-- after another object is bound
erased-insert : (f : Fid) (es : Bindings) (n : Name) (g : Fid) → g ≢ f → map.insert (erased f es) n g ≡ erased f (map.insert es n g)
erased-insert f es n g ne = same_bindings _ _ (λ q. get-bound (erased f es) n g q ∙ ap (cond (same_name q n) (Some g)) (get-erased f es q) ∙ split q (same_name q n) ∙ sym (get-erased f (map.insert es n g) q ∙ ap (erased_value f) (get-bound es n g q)))
  where
    split : (q : Name) (b : Bool) → cond b (Some g) (erased_value f (map.get es q)) ≡ erased_value f (cond b (Some g) (map.get es q))
    split q true = sym (ap (λ b. cond b None (Some g)) (fid_other g f ne))
    split q false = refl

erased-remove : (f : Fid) (es : Bindings) (n : Name) → map.remove (erased f es) n ≡ erased f (map.remove es n)
erased-remove f es n = same_bindings _ _ (λ q. get-unbound (erased f es) n q ∙ ap (cond (same_name q n) None) (get-erased f es q) ∙ split q (same_name q n) ∙ sym (get-erased f (map.remove es n) q ∙ ap (erased_value f) (get-unbound es n q)))
  where
    split : (q : Name) (b : Bool) → ◌≡◌ {A = Option Fid} (cond b None (erased_value f (map.get es q))) (erased_value f (cond b None (map.get es q)))
    split q true = refl
    split q false = refl

-- after f is bound at a free name
erased-bound : (f : Fid) (es : Bindings) (n : Name) → map.get es n ≡ None → erased f (map.insert es n f) ≡ erased f es
erased-bound f es n free = same_bindings _ _ (λ q. get-erased f (map.insert es n f) q ∙ ap (erased_value f) (get-bound es n f q) ∙ split q (same_name q n) refl ∙ sym (get-erased f es q))
  where
    split : (q : Name) (b : Bool) → same_name q n ≡ b → erased_value f (cond b (Some f) (map.get es q)) ≡ erased_value f (map.get es q)
    split q true e = ap (λ b. cond b None (Some f)) (fid_same f f refl) ∙ sym (ap (erased_value f) (ap (map.get es) (name_true q n e) ∙ free))
    split q false e = refl

not_at : (f : Fid) (o : Option Fid) → (o ≡ Some f → ⊥) → is_at_fid o f ≡ false
not_at f None h = refl
not_at f (Some g) h = fid_other g f (λ e. h (ap Some e))

-- where f isn't bound
erased-none : (f : Fid) (es : Bindings) → ((n : Name) → map.get es n ≡ Some f → ⊥) → erased f es ≡ es
erased-none f es none = same_bindings _ _ (λ q. get-erased f es q ∙ ap (λ b. cond b None (map.get es q)) (not_at f (map.get es q) (none q)))

-- where it is bound at one name
erased-one : (f : Fid) (es : Bindings) (n : Name) → map.get es n ≡ Some f → ((m : Name) → map.get es m ≡ Some f → m ≡ n) → erased f es ≡ map.remove es n
erased-one f es n here once = same_bindings _ _ (λ q. get-erased f es q ∙ split q (same_name q n) refl ∙ sym (get-unbound es n q))
  where
    split : (q : Name) (b : Bool) → same_name q n ≡ b → erased_value f (map.get es q) ≡ cond b None (map.get es q)
    split q true e = ap (erased_value f) (ap (map.get es) (name_true q n e) ∙ here) ∙ ap (λ b. cond b None (Some f)) (fid_same f f refl)
    split q false e = ap (λ b. cond b None (map.get es q)) (not_at f (map.get es q) (λ h. name_false q n e (once q h)))

no_entry : (f : Fid) (n : Name) → map.get (map.empty {X = Fid} {R = name_cmp}) n ≡ Some f → ⊥
no_entry f n e = none-some f (sym (map.get-empty name_cmp n) ∙ e)

-- ---- the same for nodes

-- a kind of node that binds no name to f
abbrev pub erased_kind : Fid → NodeKind → NodeKind
erased_kind f (File content) = File content
erased_kind f (Link target) = Link target
erased_kind f (Dir entries) = Dir (erased f entries)

bindings-erased : (f : Fid) (kind : NodeKind) → bindings (erased_kind f kind) ≡ erased f (bindings kind)
bindings-erased f (File content) = sym (erased-none f map.empty (no_entry f))
bindings-erased f (Link target) = sym (erased-none f map.empty (no_entry f))
bindings-erased f (Dir entries) = refl

kind_unbound : (f : Fid) (kind : NodeKind) → ((n : Name) → map.get (bindings kind) n ≡ Some f → ⊥) → erased_kind f kind ≡ kind
kind_unbound f (File content) never = refl
kind_unbound f (Link target) never = refl
kind_unbound f (Dir entries) never = ap Dir (erased-none f entries never)

-- a node that binds no name to f
abbrev pub erase : Fid → Option Node → Option Node
erase f o = option_map (λ (node : Node). with_kind node (erased_kind f node.kind)) o

-- nothing is erased where f isn't bound
pub erase-none : (f : Fid) (o : Option Node) → ((n : Name) → child_of o n ≡ Some f → ⊥) → erase f o ≡ o
erase-none f None never = refl
erase-none f (Some node) never = ap (λ kind. Some (with_kind node kind)) (kind_unbound f node.kind never)

-- what was bound, unless it was f
pub child-erase : (f : Fid) (o : Option Node) (n : Name) → child_of (erase f o) n ≡ erased_value f (child_of o n)
child-erase f None n = refl
child-erase f (Some node) n = ap (λ (b : Bindings). map.get b n) (bindings-erased f node.kind) ∙ get-erased f (bindings node.kind) n

pub some-erase : (f : Fid) (o : Option Node) → is_some (erase f o) ≡ is_some o
some-erase f None = refl
some-erase f (Some node) = refl

-- a directory in which f was bound at a free name
pub erase-bound : (f : Fid) (o : Option Node) (n : Name) → IsDirNode o → child_of o n ≡ None → erase f (option_map (λ node. bind_in node n f) o) ≡ erase f o
erase-bound f None n is free = refl
erase-bound f (Some node) n is free = go node.kind is free
  where
    go : (kind : NodeKind) → IsDirNode (Some (with_kind node kind)) → map.get (bindings kind) n ≡ None → ◌≡◌ {A = Option Node} (Some (with_kind node (Dir (erased f (map.insert (bindings kind) n f))))) (Some (with_kind node (erased_kind f kind)))
    go (File content) is free = absurd is
    go (Link target) is free = absurd is
    go (Dir entries) is free = ap (λ (b : Bindings). Some (with_kind node (Dir b))) (erased-bound f entries n free)

-- a node that binds f at one name
pub erase-one : (f : Fid) (o : Option Node) (n : Name) → child_of o n ≡ Some f → ((m : Name) → child_of o m ≡ Some f → m ≡ n) → erase f o ≡ option_map (λ node. unbind_in node n) o
erase-one f None n here once = refl
erase-one f (Some node) n here once = go node.kind here once
  where
    go : (kind : NodeKind) → map.get (bindings kind) n ≡ Some f → ((m : Name) → map.get (bindings kind) m ≡ Some f → m ≡ n) → ◌≡◌ {A = Option Node} (Some (with_kind node (erased_kind f kind))) (Some (with_kind node (Dir (map.remove (bindings kind) n))))
    go (File content) here once = absurd (no_entry f n here)
    go (Link target) here once = absurd (no_entry f n here)
    go (Dir entries) here once = ap (λ (b : Bindings). Some (with_kind node (Dir b))) (erased-one f entries n here once)

-- ---- nodes without one object

-- the count after an edit keeps its order
pub count_order : (is was : Bool) (m n : ℕ) → m ≤ n → count_after is was m ≤ count_after is was n
count_order true true m n h = h
count_order true false m n h = omega arith
count_order false true m n h = omega arith
count_order false false m n h = h

module _ (f : Fid) where
  -- what stands at a fid, without f
  abbrev pub bare : Fid → Option Node → Option Node
  bare q o = cond (same_fid q f) None (erase f o)

  -- u is v without f and the names bound to it
  pub record IsWithout (v u : Nodes) : Type 0 where
    pub points : (q : Fid) → map.get u q ≡ bare q (map.get v q)
    pub fewer : map.len u ≤ map.len v

  -- an edit that has nothing to do with f
  pub record IsAside (e : Edit) : Type 0 where
    pub elsewhere : place e ≢ f
    pub erases : (o : Option Node) → act e (erase f o) ≡ erase f (act e o)
    pub binds : (o : Option Node) (n : Name) → child_of (act e o) n ≡ Some f → child_of o n ≡ Some f
    pub somes : (o : Option Node) → is_some (act e (erase f o)) ≡ is_some (act e o)

  edit_points : (e : Edit) → IsAside e → (v u : Nodes) → IsWithout v u → (q : Fid) → map.get (edited u e) q ≡ bare q (map.get (edited v e) q)
  edit_points e a v u g q = get-edited u e q ∙ ap (point q (place e) (act e)) (g.points q) ∙ split (same_fid q f) (same_fid q (place e)) refl refl (map.get v q) ∙ sym (ap (bare q) (get-edited v e q))
    where
      split : (b c : Bool) → same_fid q f ≡ b → same_fid q (place e) ≡ c → (o : Option Node) → cond c (act e (cond b None (erase f o))) (cond b None (erase f o)) ≡ cond b None (erase f (cond c (act e o) o))
      split true true x y o = absurd (a.elsewhere (sym (fid_true q (place e) y) ∙ fid_true q f x))
      split true false x y o = refl
      split false true x y o = a.erases o
      split false false x y o = refl

  pub there : (v u : Nodes) → IsWithout v u → (q : Fid) → q ≢ f → map.get u q ≡ erase f (map.get v q)
  there v u g q ne = g.points q ∙ ap (λ b. cond b None (erase f (map.get v q))) (fid_other q f ne)

  edit_fewer : (e : Edit) → IsAside e → (v u : Nodes) → IsWithout v u → map.len (edited u e) ≤ map.len (edited v e)
  edit_fewer e a v u g = rw (len-edited u e, len-edited v e, there v u g (place e) a.elsewhere, a.somes (map.get v (place e)), some-erase f (map.get v (place e)))
      (count_order (is_some (act e (map.get v (place e)))) (is_some (map.get v (place e))) (map.len u) (map.len v) g.fewer)

  abbrev pub AreAside : List Edit → Type 0
  AreAside [] = Unit {0}
  AreAside (e ∷ es) = IsAside e × AreAside es

  pub edits_without : (es : List Edit) → AreAside es → (v u : Nodes) → IsWithout v u → IsWithout (edited_all v es) (edited_all u es)
  edits_without [] a v u g = g
  edits_without (e ∷ es) a v u g = edits_without es a.1 (edited v e) (edited u e) (record { points = edit_points e a.0 v u g; fewer = edit_fewer e a.0 v u g })

  -- what stands at f stays
  pub get-aside : (es : List Edit) → AreAside es → (v : Nodes) → map.get (edited_all v es) f ≡ map.get v f
  get-aside [] a v = refl
  get-aside (e ∷ es) a v = get-aside es a.1 (edited v e) ∙ (get-edited v e f ∙ ap (λ b. cond b (act e (map.get v f)) (map.get v f)) (fid_other f (place e) (λ h. a.0.elsewhere (sym h))))

  -- ---- the edits that have nothing to do with f

  pub aside_taken_out : (g : Fid) → g ≢ f → IsAside (TakeOut g)
  aside_taken_out g ne = record { elsewhere = ne; erases = λ o. refl; binds = λ o n e. absurd (none-some f e); somes = λ o. refl }

  pub aside_unbound : (d : Fid) (m : Name) → d ≢ f → IsAside (Unbind d m)
  aside_unbound d m ne = record { elsewhere = ne; erases = erases; binds = binds; somes = somes }
    where
      erases : (o : Option Node) → act (Unbind d m) (erase f o) ≡ erase f (act (Unbind d m) o)
      erases None = refl
      erases (Some node) = ap (λ (b : Bindings). Some (with_kind node (Dir b))) (ap (λ (b : Bindings). map.remove b m) (bindings-erased f node.kind) ∙ erased-remove f (bindings node.kind) m)

      binds : (o : Option Node) (n : Name) → child_of (act (Unbind d m) o) n ≡ Some f → child_of o n ≡ Some f
      binds None n e = e
      binds (Some node) n e = cut (same_name n m) (sym (get-unbound (bindings node.kind) m n) ∙ e)
        where
          cut : (b : Bool) → cond b None (map.get (bindings node.kind) n) ≡ Some f → map.get (bindings node.kind) n ≡ Some f
          cut true e = absurd (none-some f e)
          cut false e = e

      somes : (o : Option Node) → is_some (act (Unbind d m) (erase f o)) ≡ is_some (act (Unbind d m) o)
      somes None = refl
      somes (Some node) = refl

  pub aside_bound : (d : Fid) (m : Name) (g : Fid) → d ≢ f → g ≢ f → IsAside (Bind d m g)
  aside_bound d m g ne other = record { elsewhere = ne; erases = erases; binds = binds; somes = somes }
    where
      erases : (o : Option Node) → act (Bind d m g) (erase f o) ≡ erase f (act (Bind d m g) o)
      erases None = refl
      erases (Some node) = ap (λ (b : Bindings). Some (with_kind node (Dir b))) (ap (λ (b : Bindings). map.insert b m g) (bindings-erased f node.kind) ∙ erased-insert f (bindings node.kind) m g other)

      binds : (o : Option Node) (n : Name) → child_of (act (Bind d m g) o) n ≡ Some f → child_of o n ≡ Some f
      binds None n e = e
      binds (Some node) n e = cut (same_name n m) (sym (get-bound (bindings node.kind) m g n) ∙ e)
        where
          cut : (b : Bool) → cond b (Some g) (map.get (bindings node.kind) n) ≡ Some f → map.get (bindings node.kind) n ≡ Some f
          cut true e = absurd (other (cc))
          cut false e = e

      somes : (o : Option Node) → is_some (act (Bind d m g) (erase f o)) ≡ is_some (act (Bind d m g) o)
      somes None = refl
      somes (Some node) = refl

  kind_written : (p : Option (List ℕ)) (kind : NodeKind) → with_content p (erased_kind f kind) ≡ erased_kind f (with_content p kind)
  kind_written None kind = refl
  kind_written (Some c) (File d) = refl
  kind_written (Some c) (Link d) = refl
  kind_written (Some c) (Dir d) = refl

  pub aside_written : (g : Fid) (p : Patch) (s : Sid) → g ≢ f → IsAside (Write g p s)
  aside_written g p s ne = record { elsewhere = ne; erases = erases; binds = binds; somes = somes }
    where
      erases : (o : Option Node) → act (Write g p s) (erase f o) ≡ erase f (act (Write g p s) o)
      erases None = refl
      erases (Some node) = ap (λ kind. Some (with_kind (written p s node) kind)) (kind_written p.content node.kind)

      binds : (o : Option Node) (n : Name) → child_of (act (Write g p s) o) n ≡ Some f → child_of o n ≡ Some f
      binds None n e = e
      binds (Some node) n e = sym (ap (λ (b : Bindings). map.get b n) (bindings-content p.content node.kind)) ∙ e

      somes : (o : Option Node) → is_some (act (Write g p s) (erase f o)) ≡ is_some (act (Write g p s) o)
      somes None = refl
      somes (Some node) = refl

  pub aside_put : (g : Fid) (node : Node) → g ≢ f → ((n : Name) → child_of (Some node) n ≡ Some f → ⊥) → IsAside (Put g node)
  aside_put g node ne never = record { elsewhere = ne; erases = λ o. sym (erase-none f (Some node) never); binds = λ o n e. absurd (never n e); somes = λ o. refl }

  -- nothing is bound in an empty directory
  pub none_bound : (n : Name) → map.get (map.empty {X = Fid} {R = name_cmp}) n ≡ Some f → ⊥
  none_bound n e = no_entry f n e
