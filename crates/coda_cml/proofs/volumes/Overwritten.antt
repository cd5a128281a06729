-- Nodes that one write makes equal: later edits keep them so, and certification sees no difference but in versions.
use Rattle.std.proofs.Common.{◌≡◌, ℕ, Bool, true, false, cond, List, [], ◌∷◌, Option, Some, None, option_map, is_some, refl, sym, ap, ◌∙◌}
use Rattle.std.specs.FinMap as map
use Rattle.coda_fid.specs.Fid.{same_fid}
use Rattle.coda_fid.specs.declared.fid.Fid.{Fid}
use Rattle.coda_fid.specs.declared.fid.Sid.{Sid}
use Rattle.coda_tree.specs.declared.node.Node.{Node}
use Rattle.coda_tree.specs.declared.node.NodeKind.{NodeKind}
use Rattle.coda_tree.specs.declared.node.NodeKind.TheVariants.{File, Link, Dir}
use Rattle.coda_tree.specs.Bindings.{Name, Bindings}
use Rattle.coda_tree.specs.Volume.{Nodes, bindings, child_of, bind_in, unbind_in, set_or, Patch, with_content, written, Edit, Put, Bind, TakeOut, Unbind, Write, edited, edited_all}
use Rattle.coda_cml.proofs.volumes.Places.{place, act, point, same_nodes, get-edited, get-edited_twice, count_after, len-edited}

-- ---- patches

-- what the second patch sets, the first sets again
pub record IsCovered (over under : Patch) : Type 0 where
  pub content : (kind : NodeKind) → with_content over.content (with_content under.content kind) ≡ with_content over.content kind
  pub mode : (x : ℕ) → set_or over.mode (set_or under.mode x) ≡ set_or over.mode x
  pub owner : (x : ℕ) → set_or over.owner (set_or under.owner x) ≡ set_or over.owner x
  pub mtime : (x : ℕ) → set_or over.mtime (set_or under.mtime x) ≡ set_or over.mtime x

set_between : {A : Type 0} (p q : Option A) (x : A) → set_or p (set_or q (set_or p x)) ≡ set_or p (set_or q x)
set_between (Some a) q x = refl
set_between None q x = refl

set_twice : {A : Type 0} (p : Option A) (x : A) → set_or p (set_or p x) ≡ set_or p x
set_twice (Some a) x = refl
set_twice None x = refl

content_between : (p q : Option (List ℕ)) (kind : NodeKind) → with_content p (with_content q (with_content p kind)) ≡ with_content p (with_content q kind)
content_between None q kind = refl
content_between (Some c) None (File d) = refl
content_between (Some c) None (Link d) = refl
content_between (Some c) None (Dir d) = refl
content_between (Some c) (Some e) (File d) = refl
content_between (Some c) (Some e) (Link d) = refl
content_between (Some c) (Some e) (Dir d) = refl

content_twice : (p : Option (List ℕ)) (kind : NodeKind) → with_content p (with_content p kind) ≡ with_content p kind
content_twice None kind = refl
content_twice (Some c) (File d) = refl
content_twice (Some c) (Link d) = refl
content_twice (Some c) (Dir d) = refl

pub content_over : (c : List ℕ) (q : Option (List ℕ)) (kind : NodeKind) → with_content (Some c) (with_content q kind) ≡ with_content (Some c) kind
content_over c None kind = refl
content_over c (Some d) (File e) = refl
content_over c (Some d) (Link e) = refl
content_over c (Some d) (Dir e) = refl

-- what a node binds is not written
pub bindings-content : (p : Option (List ℕ)) (kind : NodeKind) → bindings (with_content p kind) ≡ bindings kind
bindings-content None kind = refl
bindings-content (Some c) (File d) = refl
bindings-content (Some c) (Link d) = refl
bindings-content (Some c) (Dir d) = refl

pub covered_itself : (p : Patch) → IsCovered p p
covered_itself p = record { content = content_twice p.content; mode = set_twice p.mode; owner = set_twice p.owner; mtime = set_twice p.mtime }

-- all parts are set
abbrev pub everything : Patch
everything = record { content = Some []; mode = Some 0; owner = Some 0; mtime = Some 0 }

pub covered_everything : (q : Patch) → IsCovered everything q
covered_everything q = record { content = content_over [] q.content; mode = λ x. refl; owner = λ x. refl; mtime = λ x. refl }

written_over : (p q : Patch) (s t : Sid) → IsCovered p q → (n : Node) → written p s (written q t n) ≡ written p s n
written_over p q s t c n i = record { kind = c.content n.kind i; mode = c.mode n.mode i; owner = c.owner n.owner i; mtime = c.mtime n.mtime i; sid = s; marked = n.marked }

written_between : (p q : Patch) (s t : Sid) (n : Node) → written p s (written q t (written p s n)) ≡ written p s (written q t n)
written_between p q s t n i = record { kind = content_between p.content q.content n.kind i; mode = set_between p.mode q.mode n.mode i; owner = set_between p.owner q.owner n.owner i; mtime = set_between p.mtime q.mtime n.mtime i; sid = s; marked = n.marked }

bind_between : (p : Patch) (s : Sid) (name : Name) (f : Fid) (n : Node) → written p s (bind_in (written p s n) name f) ≡ written p s (bind_in n name f)
bind_between p s name f n i = record { kind = with_content p.content (Dir (map.insert (bindings-content p.content n.kind i) name f)); mode = set_twice p.mode n.mode i; owner = set_twice p.owner n.owner i; mtime = set_twice p.mtime n.mtime i; sid = s; marked = n.marked }

unbind_between : (p : Patch) (s : Sid) (name : Name) (n : Node) → written p s (unbind_in (written p s n) name) ≡ written p s (unbind_in n name)
unbind_between p s name n i = record { kind = with_content p.content (Dir (map.remove (bindings-content p.content n.kind i) name)); mode = set_twice p.mode n.mode i; owner = set_twice p.owner n.owner i; mtime = set_twice p.mtime n.mtime i; sid = s; marked = n.marked }

pub over_twice : (p q : Patch) (s t : Sid) → IsCovered p q → (o : Option Node) → option_map (written p s) (option_map (written q t) o) ≡ option_map (written p s) o
over_twice p q s t c (Some n) = ap Some (written_over p q s t c n)
over_twice p q s t c None = refl

some_written : (p : Patch) (s : Sid) (o : Option Node) → is_some (option_map (written p s) o) ≡ is_some o
some_written p s (Some n) = refl
some_written p s None = refl

-- ---- what is seen of a node besides its version

-- the version of no operation
abbrev pub no_version : Sid
no_version = record { client = 0; number = 0 }

-- a node with all that can be written set to one value
abbrev pub plain : Option Node → Option Node
plain o = option_map (written everything no_version) o

pub plain-written : (p : Patch) (s : Sid) (o : Option Node) → plain (option_map (written p s) o) ≡ plain o
plain-written p s o = over_twice everything p no_version s (covered_everything p) o

pub child-written : (p : Patch) (s : Sid) (o : Option Node) (n : Name) → child_of (option_map (written p s) o) n ≡ child_of o n
child-written p s (Some node) n = ap (λ (b : Bindings). map.get b n) (bindings-content p.content node.kind)
child-written p s None n = refl

-- nodes that differ in nothing but what can be written
abbrev pub LookAlike : Nodes → Nodes → Type 0
LookAlike v u = (q : Fid) → plain (map.get v q) ≡ plain (map.get u q)

-- ---- a write as a veil

still_count : (b : Bool) (n : ℕ) → count_after b b n ≡ n
still_count true n = refl
still_count false n = refl

module _ (f : Fid) (p : Patch) (s : Sid) where
  -- the nodes with the one of f written
  unfoldable pub veiled : Nodes → Nodes
  veiled m = edited m (Write f p s)

  abbrev write : Option Node → Option Node
  write o = option_map (written p s) o

  twice : (o : Option Node) → write (write o) ≡ write o
  twice o = over_twice p p s s (covered_itself p) o

  get-veiled : (m : Nodes) (q : Fid) → map.get (veiled m) q ≡ point q f write (map.get m q)
  unfolding veiled
  get-veiled m q = get-edited m (Write f p s) q

  act_absorbs : (e : Edit) (o : Option Node) → write (act e (write o)) ≡ write (act e o)
  act_absorbs (Put g n) o = refl
  act_absorbs (TakeOut g) o = refl
  act_absorbs (Bind d n g) (Some x) = ap Some (bind_between p s n g x)
  act_absorbs (Bind d n g) None = refl
  act_absorbs (Unbind d n) (Some x) = ap Some (unbind_between p s n x)
  act_absorbs (Unbind d n) None = refl
  act_absorbs (Write g q t) (Some x) = ap Some (written_between p q s t x)
  act_absorbs (Write g q t) None = refl

  edit_absorbs : (e : Edit) (m : Nodes) → veiled (edited (veiled m) e) ≡ veiled (edited m e)
  edit_absorbs e m = same_nodes _ _ (λ q.
      get-veiled (edited (veiled m) e) q ∙ ap (point q f write) (get-edited (veiled m) e q ∙ ap (point q (place e) (act e)) (get-veiled m q))
      ∙ split q (same_fid q f) (same_fid q (place e)) (map.get m q) ∙ sym (get-veiled (edited m e) q ∙ ap (point q f write) (get-edited m e q)))
    where
      split : (q : Fid) (a b : Bool) (o : Option Node) → cond a (write (cond b (act e (cond a (write o) o)) (cond a (write o) o))) (cond b (act e (cond a (write o) o)) (cond a (write o) o)) ≡ cond a (write (cond b (act e o) o)) (cond b (act e o) o)
      split q true true o = act_absorbs e o
      split q true false o = twice o
      split q false true o = refl
      split q false false o = refl

  veiled_twice : (m : Nodes) → veiled (veiled m) ≡ veiled m
  veiled_twice m = same_nodes _ _ (λ q. get-veiled (veiled m) q ∙ ap (point q f write) (get-veiled m q) ∙ split (same_fid q f) (map.get m q) ∙ sym (get-veiled m q))
    where
      split : (b : Bool) (o : Option Node) → cond b (write (cond b (write o) o)) (cond b (write o) o) ≡ cond b (write o) o
      split true o = twice o
      split false o = refl

  -- edits, seen through the veil, do not see an earlier one
  pub edits_absorb : (es : List Edit) (m : Nodes) → veiled (edited_all (veiled m) es) ≡ veiled (edited_all m es)
  edits_absorb [] m = veiled_twice m
  edits_absorb (e ∷ es) m = sym (edits_absorb es (edited (veiled m) e)) ∙ ap (λ u. veiled (edited_all u es)) (edit_absorbs e m) ∙ edits_absorb es (edited m e)

  pub edits_alike : (es : List Edit) (v u : Nodes) → veiled v ≡ veiled u → veiled (edited_all v es) ≡ veiled (edited_all u es)
  edits_alike es v u e = sym (edits_absorb es v) ∙ ap (λ x. veiled (edited_all x es)) e ∙ edits_absorb es u

  -- a write that the veil covers is not seen through it
  pub veiled_over : (q : Patch) (t : Sid) → IsCovered p q → (m : Nodes) → veiled (edited m (Write f q t)) ≡ veiled m
  veiled_over q t c m = same_nodes _ _ (λ x. get-veiled (edited m (Write f q t)) x ∙ ap (point x f write) (get-edited m (Write f q t) x) ∙ split (same_fid x f) (map.get m x) ∙ sym (get-veiled m x))
    where
      split : (b : Bool) (o : Option Node) → cond b (write (cond b (option_map (written q t) o) o)) (cond b (option_map (written q t) o) o) ≡ cond b (write o) o
      split true o = over_twice p q s t c o
      split false o = refl

  -- nor does the write itself see it
  pub written_anew : (x : Sid) (m : Nodes) → edited (veiled m) (Write f p x) ≡ edited m (Write f p x)
  written_anew x m = same_nodes _ _ (λ q. get-edited (veiled m) (Write f p x) q ∙ ap (point q f (option_map (written p x))) (get-veiled m q) ∙ split (same_fid q f) (map.get m q) ∙ sym (get-edited m (Write f p x) q))
    where
      split : (b : Bool) (o : Option Node) → cond b (option_map (written p x) (cond b (write o) o)) (cond b (write o) o) ≡ cond b (option_map (written p x) o) o
      split true o = over_twice p p x s (covered_itself p) o
      split false o = refl

  -- taking the node out hides it
  pub taken_out : (m : Nodes) → edited (veiled m) (TakeOut f) ≡ edited m (TakeOut f)
  taken_out m = same_nodes _ _ (λ q. get-edited (veiled m) (TakeOut f) q ∙ ap (point q f (λ _. None)) (get-veiled m q) ∙ split (same_fid q f) (map.get m q) ∙ sym (get-edited m (TakeOut f) q))
    where
      split : (b : Bool) (o : Option Node) → cond b None (cond b (write o) o) ≡ cond b None o
      split true o = refl
      split false o = refl

  -- also after a name was unbound
  pub unbound_taken_out : (d : Fid) (name : Name) (m : Nodes) → edited (edited (veiled m) (Unbind d name)) (TakeOut f) ≡ edited (edited m (Unbind d name)) (TakeOut f)
  unbound_taken_out d name m = same_nodes _ _ (λ q. get-edited_twice (veiled m) (Unbind d name) (TakeOut f) q ∙ ap (λ o. point q f (λ _. None) (point q d (act (Unbind d name)) o)) (get-veiled m q) ∙ split (same_fid q f) (same_fid q d) (map.get m q) ∙ sym (get-edited_twice m (Unbind d name) (TakeOut f) q))
    where
      split : (b c : Bool) (o : Option Node) → cond b None (cond c (act (Unbind d name) (cond b (write o) o)) (cond b (write o) o)) ≡ cond b None (cond c (act (Unbind d name) o) o)
      split true c o = refl
      split false c o = refl

  plain-veiled : (m : Nodes) (q : Fid) → plain (map.get (veiled m) q) ≡ plain (map.get m q)
  plain-veiled m q = ap plain (get-veiled m q) ∙ split (same_fid q f) (map.get m q)
    where
      split : (b : Bool) (o : Option Node) → plain (cond b (write o) o) ≡ plain o
      split true o = plain-written p s o
      split false o = refl

  len-veiled : (m : Nodes) → map.len (veiled m) ≡ map.len m
  unfolding veiled
  len-veiled m = len-edited m (Write f p s) ∙ ap (λ b. count_after b (is_some (map.get m f)) (map.len m)) (some_written p s (map.get m f)) ∙ still_count (is_some (map.get m f)) (map.len m)

  -- a write of f is seen by no look
  pub look-written : (m : Nodes) → LookAlike (edited m (Write f p s)) m
  unfolding veiled
  look-written m q = plain-veiled m q

  pub len-written : (m : Nodes) → map.len (edited m (Write f p s)) ≡ map.len m
  unfolding veiled
  len-written m = len-veiled m

  -- nodes that the write makes equal
  module _ (v u : Nodes) (e : veiled v ≡ veiled u) where
    pub look_alike : LookAlike v u
    look_alike q = sym (plain-veiled v q) ∙ ap (λ m. plain (map.get m q)) e ∙ plain-veiled u q

    pub len_alike : map.len v ≡ map.len u
    len_alike = sym (len-veiled v) ∙ ap (λ (m : Nodes). map.len m) e ∙ len-veiled u
