-- Two nodes are the same exactly where the test says so.
use Rattle.std.proofs.Common.{◌≡◌, ◌≢◌, ℕ, Bool, true, false, not, ◌||◌, ◌==◌, List, [], ◌∷◌, ◌++◌, Option, Some}
use Rattle.std.proofs.Common.{None, is_some, refl, sym, ap, ◌∙◌, subst, ⊎_elim}
use Rattle.std.specs.FinMap as map
use Rattle.std.specs.List.{list_any}
use Rattle.std.specs.Ordering.{eq_by_cmp}
use Rattle.std.specs.Cmp.{Equal-is, eq_by_cmp_equiv}
use Rattle.std.proofs.lemmas.Bool.{and_parts, and_from, or_left, or_right, or_cases, eqb-true, eq-eqb, false≢true}
use Rattle.std.proofs.lemmas.Bool.{true≢false}
use Rattle.std.proofs.lemmas.Cmp.{nat_list_cmp_total}
use Rattle.std.proofs.lemmas.Map.Lookups.{exact_bytes}
use Rattle.coda_fid.specs.Fid.{same_sid}
use Rattle.coda_fid.specs.Name.{name_cmp}
use Rattle.coda_fid.specs.declared.fid.Fid.{Fid}
use Rattle.coda_fid.specs.declared.fid.Sid.{Sid}
use Rattle.coda_fid.proofs.Fids.{same_fid_is, same_fid_refl}
use Rattle.coda_tree.specs.Bindings.{Name, Bindings}
use Rattle.coda_tree.specs.declared.node.Node.{Node}
use Rattle.coda_tree.specs.declared.node.NodeKind.{NodeKind}
use Rattle.coda_tree.specs.declared.node.NodeKind.TheVariants.{File, Link, Dir}
use Rattle.coda_plain.specs.Decisions.{ReplicaEntry}
use Rattle.coda_coherence.specs.Cell.{node_at}
use Rattle.coda_coherence.specs.Changes.{same_bound, differ_at, same_bindings, same_kind, same_flag, same_node}
use Rattle.coda_coherence.specs.Changes.{same_there, changes, ChangesTell}

same_list : (a b : List ℕ) → eq_by_cmp name_cmp a b ≡ true → a ≡ b
same_list a b e = exact_bytes a b ((Equal-is (name_cmp a b)).0 e)

list_itself : (a : List ℕ) → eq_by_cmp name_cmp a a ≡ true
list_itself a = (eq_by_cmp_equiv nat_list_cmp_total).refl a

bound_is : (a b : Option Fid) → same_bound a b ≡ true → a ≡ b
bound_is None None e = refl
bound_is (Some a) (Some b) e = ap Some (same_fid_is a b e)
bound_is None (Some b) e = absurd (false≢true e)
bound_is (Some a) None e = absurd (false≢true e)

bound_itself : (a : Option Fid) → same_bound a a ≡ true
bound_itself None = refl
bound_itself (Some a) = same_fid_refl a

not_true : (b : Bool) → not b ≡ true → b ≡ false
not_true true e = absurd (false≢true e)
not_true false e = refl

not_false : (b : Bool) → not b ≡ false → b ≡ true
not_false true e = refl
not_false false e = absurd (true≢false e)

found_name : (test : Name → Bool) (names : List Name) (n : Name) → list_any (eq_by_cmp name_cmp n) names ≡ true
    → test n ≡ true → list_any test names ≡ true
found_name test [] n among passes = absurd (false≢true among)
found_name test (x ∷ names) n among passes = ⊎_elim
    (λ (is : eq_by_cmp name_cmp n x ≡ true). or_left (test x) (list_any test names)
    (ap test (sym (same_list n x is)) ∙ passes))
    (λ (is : list_any (eq_by_cmp name_cmp n) names ≡ true). or_right (test x) (list_any test names)
    (found_name test names n is passes))
    (or_cases (eq_by_cmp name_cmp n x) (list_any (eq_by_cmp name_cmp n) names) among)

-- at a name that one of the two binds they bind the same
same_at : (a b m : Bindings) (n : Name) → differ_at a b (map.keys m) ≡ false → is_some (map.get m n) ≡ true
    → map.get a n ≡ map.get b n
same_at a b m n none there = bound_is (map.get a n) (map.get b n) (go (same_bound (map.get a n) (map.get b n)) refl)
  where
    go : (t : Bool) → same_bound (map.get a n) (map.get b n) ≡ t → same_bound (map.get a n) (map.get b n) ≡ true
    go true e = e
    go false e =
        absurd (false≢true (sym none ∙ found_name (λ x. not (same_bound (map.get a x) (map.get b x))) (map.keys m) n
        (sym (map.contains_key-keys m n) ∙ there) (ap not e)))

bindings_are : (a b : Bindings) → same_bindings a b ≡ true → a ≡ b
bindings_are a b e = map.same_map nat_list_cmp_total exact_bytes a b (λ n. at n (map.get a n) (map.get b n) refl refl)
  where
    parts : (differ_at a b (map.keys a) ≡ false) × (differ_at a b (map.keys b) ≡ false)
    parts = let p = and_parts _ _ e in (not_true _ p.0, not_true _ p.1)

    at : (n : Name) (x y : Option Fid) → map.get a n ≡ x → map.get b n ≡ y → map.get a n ≡ map.get b n
    at n None None e f = e ∙ sym f
    at n (Some x) y e f = same_at a b a n parts.0 (ap is_some e)
    at n None (Some y) e f = same_at a b b n parts.1 (ap is_some f)

none_differ : (a : Bindings) (names : List Name) → differ_at a a names ≡ false
none_differ a [] = refl
none_differ a (n ∷ names) = (λ i. not (bound_itself (map.get a n) i) || none_differ a names i)

kind_is : (a b : NodeKind) → same_kind a b ≡ true → a ≡ b
kind_is (File a) (File b) e = ap File (same_list a b e)
kind_is (Link a) (Link b) e = ap Link (same_list a b e)
kind_is (Dir a) (Dir b) e = ap Dir (bindings_are a b e)
kind_is (File a) (Link b) e = absurd (false≢true e)
kind_is (File a) (Dir b) e = absurd (false≢true e)
kind_is (Link a) (File b) e = absurd (false≢true e)
kind_is (Link a) (Dir b) e = absurd (false≢true e)
kind_is (Dir a) (File b) e = absurd (false≢true e)
kind_is (Dir a) (Link b) e = absurd (false≢true e)

kind_itself : (a : NodeKind) → same_kind a a ≡ true
kind_itself (File a) = list_itself a
kind_itself (Link a) = list_itself a
kind_itself (Dir a) = and_from _ _ (ap not (none_differ a (map.keys a))) (ap not (none_differ a (map.keys a)))

flag_is : (a b : Bool) → same_flag a b ≡ true → a ≡ b
flag_is true true e = refl
flag_is false false e = refl
flag_is true false e = absurd (false≢true e)
flag_is false true e = absurd (false≢true e)

flag_itself : (a : Bool) → same_flag a a ≡ true
flag_itself true = refl
flag_itself false = refl

sid_is : (a b : Sid) → same_sid a b ≡ true → a ≡ b
sid_is a b h = let p = and_parts (a.client == b.client) (a.number == b.number) h in λ i. record { client = eqb-true a.client b.client p.0 i; number = eqb-true a.number b.number p.1 i }

node_is : (a b : Node) → same_node a b ≡ true → a ≡ b
node_is a b h =
    let k = and_parts _ _ h in let m = and_parts _ _ k.1 in let o = and_parts _ _ m.1 in let t = and_parts _ _ o.1 in let s = and_parts _ _ t.1 in
    λ i. record {
      kind = kind_is a.kind b.kind k.0 i;
      mode = eqb-true a.mode b.mode m.0 i;
      owner = eqb-true a.owner b.owner o.0 i;
      mtime = eqb-true a.mtime b.mtime t.0 i;
      sid = sid_is a.sid b.sid s.0 i;
      marked = flag_is a.marked b.marked s.1 i;
    }

node_itself : (a : Node) → same_node a a ≡ true
node_itself a =
    and_from _ _ (kind_itself a.kind) (and_from _ _ (eq-eqb a.mode a.mode refl)
    (and_from _ _ (eq-eqb a.owner a.owner refl) (and_from _ _ (eq-eqb a.mtime a.mtime refl)
    (and_from _ _ (and_from _ _ (eq-eqb a.sid.client a.sid.client refl) (eq-eqb a.sid.number a.sid.number refl))
    (flag_itself a.marked)))))

there_is : (a b : Option Node) → same_there a b ≡ true → a ≡ b
there_is None None e = refl
there_is (Some a) (Some b) e = ap Some (node_is a b e)
there_is None (Some b) e = absurd (false≢true e)
there_is (Some a) None e = absurd (false≢true e)

there_itself : (a : Option Node) → same_there a a ≡ true
there_itself None = refl
there_itself (Some a) = node_itself a

if_changed : (history : List ReplicaEntry) (e : ReplicaEntry) (fid : Fid) → changes history e fid ≡ true
    → node_at (history ++ e ∷ []) fid ≢ node_at history fid
unfolding changes
if_changed history e fid changed same =
    false≢true (ap not (sym (subst (λ o. same_there (node_at (history ++ e ∷ []) fid) o ≡ true) same
    (there_itself (node_at (history ++ e ∷ []) fid)))) ∙ changed)

if_same : (history : List ReplicaEntry) (e : ReplicaEntry) (fid : Fid) → changes history e fid ≡ false
    → node_at (history ++ e ∷ []) fid ≡ node_at history fid
unfolding changes
if_same history e fid quiet = there_is (node_at (history ++ e ∷ []) fid) (node_at history fid) (not_false _ quiet)

pub changes_tell : ChangesTell
changes_tell = record { if_changed = if_changed; if_same = if_same }
