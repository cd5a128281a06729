-- What a merged directory binds, when all copies are the same.
use Rattle.std.proofs.Common.{◌≡◌, Bool, true, false, cond, List, [], ◌∷◌, ◌++◌, Option, Some, None, is_some, refl, sym, ap, ◌∙◌, ◌||◌}
use Rattle.std.specs.FinMap as finmap
use Rattle.std.specs.FinSet as set
use Rattle.std.specs.Ordering.{eq_by_cmp}
use Rattle.std.specs.Cmp.{Equal-is}
use Rattle.std.specs.List.{list_any, flat_map, filter_map, cons_option}
use Rattle.std.proofs.lemmas.Bool.{true≢false}
use Rattle.std.proofs.lemmas.Cmp.{nat_list_cmp_total}
use Rattle.std.proofs.lemmas.Map.Lookups.{exact_bytes}
use Rattle.coda_fid.specs.Name.{name_cmp}
use Rattle.coda_fid.specs.declared.fid.Fid.{Fid}
use Rattle.coda_tree.specs.Bindings.{Name, Bindings}
use Rattle.coda_reslog.specs.declared.change.Held.{Held}
use Rattle.coda_resolve.specs.Copies.{Copies, bindings_of}
use Rattle.coda_resolve.specs.Merged.{binding, agreed, is_on, names, bound_at, flat, merged_bindings}
use Rattle.coda_resolve.proofs.Alike.{alike, leader_alike}

-- whether two names are one
unfoldable pub same_name : Name → Name → Bool
same_name a b = eq_by_cmp name_cmp a b

pub name_true : (a b : Name) → same_name a b ≡ true → a ≡ b
unfolding same_name
name_true a b e = exact_bytes a b ((Equal-is (name_cmp a b)).0 e)

-- whether the name is among these
abbrev pub among : Name → List Name → Bool
among n ns = list_any (same_name n) ns

get_put : (es : Bindings) (m : Name) (f : Fid) (n : Name) → finmap.get (finmap.insert es m f) n ≡ cond (same_name n m) (Some f) (finmap.get es n)
unfolding same_name
get_put es m f n = finmap.get-insert nat_list_cmp_total es m f n

same_both : {A : Type 0} (b : Bool) (x : A) → cond b x x ≡ x
same_both true x = refl
same_both false x = refl

-- the bindings made of a list of names
abbrev pub made_of : (Name → Option (Option Fid)) → List Name → Bindings
made_of g ns = finmap.from_entries (filter_map (λ m. bound_at m (g m)) ns)

pub get_made : (g : Name → Option (Option Fid)) (ns : List Name) (n : Name) → finmap.get (made_of g ns) n ≡ cond (among n ns) (flat (g n)) None
get_made g [] n = finmap.get-empty name_cmp n
get_made g (m ∷ ns) n = by_binding (g m) refl (same_name n m) refl (get_made g ns n)
  where
    none_here : flat (g m) ≡ None → (b : Bool) → same_name n m ≡ b → finmap.get (made_of g ns) n ≡ cond (among n ns) (flat (g n)) None → finmap.get (made_of g ns) n ≡ cond (b || among n ns) (flat (g n)) None
    none_here e true s h =
        let here : flat (g n) ≡ None = ap (λ k. flat (g k)) (name_true n m s) ∙ e in
        h ∙ ap (λ o. cond (among n ns) o None) here ∙ same_both (among n ns) None ∙ sym here
    none_here e false s h = h

    by_binding : (o : Option (Option Fid)) → g m ≡ o → (b : Bool) → same_name n m ≡ b → finmap.get (made_of g ns) n ≡ cond (among n ns) (flat (g n)) None → finmap.get (finmap.from_entries {R = name_cmp} (cons_option (bound_at m o) (filter_map (λ k. bound_at k (g k)) ns))) n ≡ cond (same_name n m || among n ns) (flat (g n)) None
    by_binding None e b s h = none_here (ap flat e) b s h ∙ ap (λ c. cond (c || among n ns) (flat (g n)) None) (sym s)
    by_binding (Some None) e b s h = none_here (ap flat e) b s h ∙ ap (λ c. cond (c || among n ns) (flat (g n)) None) (sym s)
    by_binding (Some (Some f)) e true s h = get_put (made_of g ns) m f n ∙ ap (λ c. cond c (Some f) (finmap.get (made_of g ns) n)) s ∙ sym (ap flat (ap g (name_true n m s) ∙ e)) ∙ ap (λ c. cond (c || among n ns) (flat (g n)) None) (sym s)
    by_binding (Some (Some f)) e false s h = get_put (made_of g ns) m f n ∙ ap (λ c. cond c (Some f) (finmap.get (made_of g ns) n)) s ∙ h ∙ ap (λ c. cond (c || among n ns) (flat (g n)) None) (sym s)

pub any_append : {X : Type 0} (t : X → Bool) (xs ys : List X) → list_any t (xs ++ ys) ≡ (list_any t xs || list_any t ys)
any_append t [] ys = refl
any_append t (x ∷ xs) ys = go (t x) (any_append t xs ys)
  where
    go : (b : Bool) → list_any t (xs ++ ys) ≡ (list_any t xs || list_any t ys) → (b || list_any t (xs ++ ys)) ≡ ((b || list_any t xs) || list_any t ys)
    go true e = refl
    go false e = e

-- a name that is not among those of the copies is bound by none of them
pub unbound : (n : Name) (copy : Option Held) (copies : Copies) (others : List Name) → among n (set.items (set.from_list {R = name_cmp} (flat_map (λ c. finmap.keys (bindings_of c)) (copy ∷ copies) ++ others))) ≡ false → finmap.get (bindings_of copy) n ≡ None
unfolding same_name
unbound n copy copies others e = nothing (finmap.get (bindings_of copy) n) (finmap.contains_key-keys (bindings_of copy) n ∙ first_none (list_any (eq_by_cmp name_cmp n) (finmap.keys (bindings_of copy))) (list_any (eq_by_cmp name_cmp n) rest) (sym (any_append (eq_by_cmp name_cmp n) (finmap.keys (bindings_of copy)) rest) ∙ ap (list_any (eq_by_cmp name_cmp n)) (sym (assoc (finmap.keys (bindings_of copy)) (flat_map (λ c. finmap.keys (bindings_of c)) copies) others)) ∙ sym (set.contains-from_list nat_list_cmp_total all n) ∙ set.contains-items (set.from_list {R = name_cmp} all) n ∙ e))
  where
    rest : List Name
    rest = flat_map (λ c. finmap.keys (bindings_of c)) copies ++ others

    all : List Name
    all = flat_map (λ c. finmap.keys (bindings_of c)) (copy ∷ copies) ++ others

    assoc : (xs ys zs : List Name) → (xs ++ ys) ++ zs ≡ xs ++ (ys ++ zs)
    assoc [] ys zs = refl
    assoc (x ∷ xs) ys zs = λ i. x ∷ assoc xs ys zs i

    first_none : (a b : Bool) → (a || b) ≡ false → a ≡ false
    first_none true b e = e
    first_none false b e = refl

    nothing : (o : Option Fid) → is_some o ≡ false → o ≡ None
    nothing None e = refl
    nothing (Some f) e = absurd (true≢false e)

pub binding_alike : (held : Held) (copy : Option Held) (copies : Copies) (n : Name) → binding (alike held (copy ∷ copies)) n ≡ Some (finmap.get (bindings_of (Some held)) n)
binding_alike held copy copies n = ap (agreed n (alike held (copy ∷ copies))) (leader_alike held (is_on n) copy copies)

-- copies of one directory merge to what it binds
pub merged_alike : (held : Held) (copy : Option Held) (copies : Copies) → merged_bindings (alike held (copy ∷ copies)) ≡ bindings_of (Some held)
merged_alike held copy copies = finmap.same_map nat_list_cmp_total exact_bytes _ _ (λ n. get_made (binding (alike held (copy ∷ copies))) (names (alike held (copy ∷ copies))) n ∙ by_name n (among n (names (alike held (copy ∷ copies)))) refl)
  where
    by_name : (n : Name) (b : Bool) → among n (names (alike held (copy ∷ copies))) ≡ b → cond b (flat (binding (alike held (copy ∷ copies)) n)) None ≡ finmap.get (bindings_of (Some held)) n
    by_name n true e = ap flat (binding_alike held copy copies n)
    by_name n false e = sym (unbound n (Some held) (alike held copies) _ e)
