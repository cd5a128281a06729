-- What the merged directory binds, from what the first copy binds and the names of the missing updates.
use Rattle.std.proofs.Common.{◌≡◌, Bool, true, false, cond, not, List, [], ◌∷◌, ◌++◌, Option, Some, None, refl, sym, ap, ◌∙◌, ◌&&◌, ◌||◌}
use Rattle.std.specs.FinMap as finmap
use Rattle.std.specs.FinSet as set
use Rattle.std.specs.Ordering.{eq_by_cmp}
use Rattle.std.specs.Cmp.{Equal-is}
use Rattle.std.specs.List.{find, list_any, list_all, flat_map}
use Rattle.std.proofs.lemmas.Bool.{true≢false}
use Rattle.std.proofs.lemmas.Cmp.{nat_list_cmp_total}
use Rattle.std.proofs.lemmas.Map.Lookups.{exact_bytes}
use Rattle.coda_fid.specs.Name.{name_cmp}
use Rattle.coda_fid.specs.declared.fid.Fid.{Fid}
use Rattle.coda_tree.specs.Bindings.{Name, Bindings}
use Rattle.coda_reslog.specs.declared.change.Held.{Held}
use Rattle.coda_reslog.specs.declared.entry.ResEntry.{ResEntry}
use Rattle.coda_resolve.specs.Copies.{Copies, bindings_of}
use Rattle.coda_resolve.specs.Missing.{has_update, missing, leads}
use Rattle.coda_resolve.specs.Merged.{is_name_of, is_on, agreed, binding, names_in, names_of, names, flat, first_bindings, IsSettled, merged_bindings}
use Rattle.coda_resolve.proofs.Leaders.{leads_all}
use Rattle.coda_resolve.proofs.MergedNames.{same_name, among, get_made, any_append, unbound}

-- ---- one name

pub unbound_now : (old new : Bindings) (name : Name) → new ≡ finmap.remove old name → (n : Name) → finmap.get new n ≡ cond (eq_by_cmp name_cmp n name) None (finmap.get old n)
unbound_now old new name is n = ap (λ m. finmap.get m n) is ∙ finmap.get-remove nat_list_cmp_total old name n

pub bound_now : (old new : Bindings) (copy name : Name) (f : Fid) → new ≡ finmap.insert old copy f → copy ≡ name → (n : Name) → finmap.get new n ≡ cond (eq_by_cmp name_cmp n name) (Some f) (finmap.get old n)
bound_now old new copy name f is same n = ap (λ m. finmap.get m n) is ∙ finmap.get-insert nat_list_cmp_total old copy f n ∙ ap (λ k. cond (eq_by_cmp name_cmp n k) (Some f) (finmap.get old n)) same

pub settles_name : (copies : Copies) (old new : Bindings) (name : Name) (to : Option Fid) → to ≡ flat (binding copies name) → ((n : Name) → finmap.get new n ≡ cond (eq_by_cmp name_cmp n name) to (finmap.get old n)) → IsSettled copies (λ n. is_name_of n (Some name)) old new
settles_name copies old new name to is bound n = bound n ∙ by (eq_by_cmp name_cmp n name) refl
  where
    by : (b : Bool) → eq_by_cmp name_cmp n name ≡ b → cond b to (finmap.get old n) ≡ cond b (flat (binding copies n)) (finmap.get old n)
    by true e = is ∙ ap (λ k. flat (binding copies k)) (sym (exact_bytes n name ((Equal-is (name_cmp n name)).0 e)))
    by false e = refl

-- ---- one after the other

pub settled_then : (copies : Copies) (t u : Name → Bool) (old mid new : Bindings) → IsSettled copies t old mid → IsSettled copies u mid new → IsSettled copies (λ n. t n || u n) old new
settled_then copies t u old mid new first then n = then n ∙ ap (cond (u n) (flat (binding copies n))) (first n) ∙ by (t n) (u n)
  where
    by : (a b : Bool) → cond b (flat (binding copies n)) (cond a (flat (binding copies n)) (finmap.get old n)) ≡ cond (a || b) (flat (binding copies n)) (finmap.get old n)
    by true true = refl
    by true false = refl
    by false b = refl

-- one update more
pub settled_more : (copies : Copies) (before all : List ResEntry) (u : ResEntry) (old mid new : Bindings) → all ≡ before ++ u ∷ [] → IsSettled copies (λ n. list_any (is_on n) before) old mid → IsSettled copies (λ n. is_on n u) mid new → IsSettled copies (λ n. list_any (is_on n) all) old new
settled_more copies before all u old mid new is first then n =
    settled_then copies (λ k. list_any (is_on k) before) (λ k. is_on k u) old mid new first then n
    ∙ ap (λ b. cond b (flat (binding copies n)) (finmap.get old n)) (ap (λ b. list_any (is_on n) before || b) (sym (or_false (is_on n u))) ∙ sym (any_append (is_on n) before (u ∷ [])) ∙ ap (list_any (is_on n)) (sym is))
  where
    or_false : (b : Bool) → (b || false) ≡ b
    or_false true = refl
    or_false false = refl

-- ---- all names

-- no update is on the name, so the first copy leads
module _ (copy : Option Held) (others : Copies) (n : Name) (untouched : list_any (is_on n) (missing (copy ∷ others)) ≡ false) where
  none_on : (us : List ResEntry) → list_any (is_on n) us ≡ false → list_all (λ u. not (is_on n u) || has_update u copy) us ≡ true
  none_on [] e = refl
  none_on (u ∷ us) e = by (is_on n u) e (none_on us)
    where
      by : (b : Bool) → (b || list_any (is_on n) us) ≡ false → (list_any (is_on n) us ≡ false → list_all (λ v. not (is_on n v) || has_update v copy) us ≡ true) → ((not b || has_update u copy) && list_all (λ v. not (is_on n v) || has_update v copy) us) ≡ true
      by true e more = absurd (true≢false e)
      by false e more = more e

  first_leads : leads (is_on n) (copy ∷ others) copy ≡ true
  first_leads = leads_all (is_on n) (copy ∷ others) copy ∙ none_on (missing (copy ∷ others)) untouched

  pub first_binds : flat (binding (copy ∷ others) n) ≡ finmap.get (bindings_of copy) n
  first_binds = ap (λ b. flat (agreed n (copy ∷ others) (cond b (Some copy) (find (leads (is_on n) (copy ∷ others)) others)))) first_leads

-- a name of an update is among the names
on_named : (n : Name) (u : ResEntry) → is_on n u ≡ list_any (eq_by_cmp name_cmp n) (names_of u)
on_named n u = both u.name u.other
  where
    one : (o : Option Name) → is_name_of n o ≡ list_any (eq_by_cmp name_cmp n) (names_in o)
    one None = refl
    one (Some m) = sym (or_false (eq_by_cmp name_cmp n m))
      where
        or_false : (b : Bool) → (b || false) ≡ b
        or_false true = refl
        or_false false = refl

    both : (a b : Option Name) → (is_name_of n a || is_name_of n b) ≡ list_any (eq_by_cmp name_cmp n) (names_in a ++ names_in b)
    both a b = (λ i. one a i || one b i) ∙ sym (any_append (eq_by_cmp name_cmp n) (names_in a) (names_in b))

any_named : (n : Name) (us : List ResEntry) → list_any (is_on n) us ≡ list_any (eq_by_cmp name_cmp n) (flat_map names_of us)
any_named n [] = refl
any_named n (u ∷ us) = (λ i. on_named n u i || any_named n us i) ∙ sym (any_append (eq_by_cmp name_cmp n) (names_of u) (flat_map names_of us))

touched_among : (copies : Copies) (n : Name) → list_any (is_on n) (missing copies) ≡ true → among n (names copies) ≡ true
unfolding same_name
touched_among copies n e =
    sym (set.contains-items (set.from_list {R = name_cmp} all) n)
    ∙ set.contains-from_list nat_list_cmp_total all n
    ∙ any_append (eq_by_cmp name_cmp n) (flat_map (λ copy. finmap.keys (bindings_of copy)) copies) (flat_map names_of (missing copies))
    ∙ ap (λ b. list_any (eq_by_cmp name_cmp n) (flat_map (λ copy. finmap.keys (bindings_of copy)) copies) || b) (sym (any_named n (missing copies)) ∙ e)
    ∙ or_true (list_any (eq_by_cmp name_cmp n) (flat_map (λ copy. finmap.keys (bindings_of copy)) copies))
  where
    all : List Name
    all = flat_map (λ copy. finmap.keys (bindings_of copy)) copies ++ flat_map names_of (missing copies)

    or_true : (b : Bool) → (b || true) ≡ true
    or_true true = refl
    or_true false = refl

same_both : {A : Type 0} (b : Bool) (x : A) → x ≡ cond b x x
same_both true x = refl
same_both false x = refl

module _ (copies : Copies) (entries : Bindings) (settled : IsSettled copies (λ n. list_any (is_on n) (missing copies)) (first_bindings copies) entries) where
  at_first : (cs : Copies) (n : Name) → list_any (is_on n) (missing cs) ≡ false → finmap.get (first_bindings cs) n ≡ cond (among n (names cs)) (flat (binding cs n)) None
  at_first [] n e = finmap.get-empty name_cmp n ∙ same_both (among n (names [])) None
  at_first (copy ∷ others) n e = by (among n (names (copy ∷ others))) refl
    where
      by : (b : Bool) → among n (names (copy ∷ others)) ≡ b → finmap.get (bindings_of copy) n ≡ cond b (flat (binding (copy ∷ others) n)) None
      by true is = sym (first_binds copy others n e)
      by false is = unbound n copy others _ is

  at : (n : Name) (b : Bool) → list_any (is_on n) (missing copies) ≡ b → cond b (flat (binding copies n)) (finmap.get (first_bindings copies) n) ≡ cond (among n (names copies)) (flat (binding copies n)) None
  at n true e = ap (λ b. cond b (flat (binding copies n)) None) (sym (touched_among copies n e))
  at n false e = at_first copies n e

  -- so the bindings are those of the merged directory
  pub settled_merged : entries ≡ merged_bindings copies
  settled_merged = finmap.same_map nat_list_cmp_total exact_bytes _ _ (λ n. settled n ∙ at n (list_any (is_on n) (missing copies)) refl ∙ sym (get_made (binding copies) (names copies) n))
