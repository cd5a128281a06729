-- Names and attributes that no copy leads on.
use Rattle.std.proofs.Common.{◌≡◌, ◌≢◌, Bool, true, false, cond, not, [], ◌∷◌, Option, Some, None, is_some, refl, sym, ap, ◌∙◌, subst, ◌||◌, ◌⊎◌, inl, inr}
use Rattle.std.specs.List.{list_all, flat_map}
use Rattle.std.specs.FinMap as finmap
use Rattle.std.specs.Cmp.{eq_by_cmp_equiv}
use Rattle.std.proofs.lemmas.Bool.{true≢false, or_left, or_right}
use Rattle.std.proofs.lemmas.Cmp.{nat_list_cmp_total}
use Rattle.coda_fid.specs.declared.fid.Fid.{Fid}
use Rattle.coda_fid.proofs.Fids.{same_fid_is, same_fid_refl}
use Rattle.coda_tree.specs.Bindings.{Name}
use Rattle.coda_reslog.specs.declared.entry.ResEntry.{ResEntry}
use Rattle.coda_reslog.specs.declared.entry.ResKind.{ResKind}
use Rattle.coda_reslog.specs.declared.entry.ResKind.TheVariants.{Add, Drop, Rename, Cross, Attr}
use Rattle.coda_reslog.specs.declared.change.Held.{Held}
use Rattle.coda_resolve.specs.Copies.{Copies, bindings_of, log_of}
use Rattle.coda_resolve.specs.Missing.{has_update, missing, leads, leader}
use Rattle.coda_resolve.specs.Merged.{is_name_of, is_on, same_binding, shared, agreed, binding, names_in, names_of, is_attr_kind, is_attr, leading, first_or, first_of_copies, attributes_of}
use Rattle.coda_resolve.specs.Causes.{conflicts_of}
use Rattle.coda_resolve.specs.Placement.{IsIn}
use Rattle.coda_resolve.specs.FirstCause.{IsMissing, IsOf, IsContested, AreAttributesContested}
use Rattle.coda_resolve.proofs.Leaders.{all_at, filtered}
use Rattle.coda_resolve.proofs.Lists.{some_none}
use Rattle.coda_resolve.proofs.Logged.{in_flat, in_filter, find_passes, some_append_left, some_append_right}
use Rattle.coda_resolve.proofs.MergedNames.{same_name, name_true}
use Rattle.coda_resolve.proofs.Reasons.{some_is, some_in, not_all, found_in, missing_is, is_missing_in, unled, unled_by}
use Rattle.coda_resolve.proofs.Single.{in_flat_from, in_append}

-- ---- which names an update names

is_of_option : (n : Name) (o : Option Name) → is_name_of n o ≡ true → o ≡ Some n
unfolding same_name
is_of_option n None e = absurd (true≢false (sym e))
is_of_option n (Some m) e = ap Some (sym (name_true n m e))

option_of : (n : Name) (o : Option Name) → o ≡ Some n → is_name_of n o ≡ true
option_of n o e = ap (is_name_of n) e ∙ (eq_by_cmp_equiv nat_list_cmp_total).refl n

on_is : (n : Name) (u : ResEntry) → is_on n u ≡ true → IsOf n u
on_is n u e = by (is_name_of n u.name) refl e
  where
    by : (b : Bool) → is_name_of n u.name ≡ b → (b || is_name_of n u.other) ≡ true → IsOf n u
    by true is f = inl (is_of_option n u.name is)
    by false is f = inr (is_of_option n u.other f)

is_on_of : (n : Name) (u : ResEntry) → IsOf n u → is_on n u ≡ true
is_on_of n u (inl e) = or_left (is_name_of n u.name) (is_name_of n u.other) (option_of n u.name e)
is_on_of n u (inr e) = or_right (is_name_of n u.name) (is_name_of n u.other) (option_of n u.other e)

in_option : (n : Name) (o : Option Name) → o ≡ Some n → IsIn n (names_in o)
in_option n o e = subst (λ p. IsIn n (names_in p)) (sym e) (inl refl)

option_in : (n : Name) (o : Option Name) → IsIn n (names_in o) → o ≡ Some n
option_in n None s = absurd s
option_in n (Some m) (inl is) = ap Some is
option_in n (Some m) (inr s) = absurd s

named : (n : Name) (u : ResEntry) → IsOf n u → IsIn n (names_of u)
named n u (inl e) = some_append_left (λ m. m ≡ n) (names_in u.name) (names_in u.other) (in_option n u.name e)
named n u (inr e) = some_append_right (λ m. m ≡ n) (names_in u.name) (names_in u.other) (in_option n u.other e)

names : (n : Name) (u : ResEntry) → IsIn n (names_of u) → IsOf n u
names n u s = by (in_append (names_in u.name) (names_in u.other) n s)
  where
    by : IsIn n (names_in u.name) ⊎ IsIn n (names_in u.other) → IsOf n u
    by (inl i) = inl (option_in n u.name i)
    by (inr i) = inr (option_in n u.other i)

-- ---- what copies bind alike

same_is : (a b : Option Fid) → same_binding a b ≡ true → a ≡ b
same_is None None e = refl
same_is None (Some g) e = absurd (true≢false (sym e))
same_is (Some f) None e = absurd (true≢false (sym e))
same_is (Some f) (Some g) e = ap Some (same_fid_is f g e)

same_itself : (a : Option Fid) → same_binding a a ≡ true
same_itself None = refl
same_itself (Some f) = same_fid_refl f

not_same : (a b : Option Fid) → same_binding a b ≡ false → a ≢ b
not_same a b e is = true≢false (sym (same_itself a) ∙ ap (same_binding a) is ∙ e)

-- what the copy binds at the name
abbrev at : Name → Option Held → Option Fid
at n copy = finmap.get (bindings_of copy) n

first_alike : (n : Name) (c : Option Held) (cs : Copies) (copy : Option Held) → list_all (λ other. same_binding (at n c) (at n other)) cs ≡ true → IsIn copy (c ∷ cs) → at n c ≡ at n copy
first_alike n c cs copy e (inl is) = ap (at n) is
first_alike n c cs copy e (inr s) = same_is (at n c) (at n copy) (all_at (λ other. same_binding (at n c) (at n other)) cs copy e s)

-- where two bind otherwise, not all bind alike
unshared : (n : Name) (copies : Copies) (one other : Option Held) → IsIn one copies → IsIn other copies → at n one ≢ at n other → shared n copies ≡ None
unshared n [] one other s t apart = absurd s
unshared n (c ∷ cs) one other s t apart = by (list_all (λ o. same_binding (at n c) (at n o)) cs) refl
  where
    by : (b : Bool) → list_all (λ o. same_binding (at n c) (at n o)) cs ≡ b → cond b (Some (at n c)) None ≡ None
    by true e = absurd (apart (sym (first_alike n c cs one e s) ∙ first_alike n c cs other e t))
    by false e = refl

-- two copies that bind otherwise
abbrev AreApart : Name → Copies → Type 0
AreApart n copies = (one : Option Held) × ((other : Option Held) × (IsIn one copies × (IsIn other copies × (at n one ≢ at n other))))

two_apart : (n : Name) (copies : Copies) (copy : Option Held) → IsIn copy copies → shared n copies ≡ None → AreApart n copies
two_apart n [] copy s e = absurd s
two_apart n (c ∷ cs) copy s e = by (list_all (λ o. same_binding (at n c) (at n o)) cs) refl e
  where
    by : (b : Bool) → list_all (λ o. same_binding (at n c) (at n o)) cs ≡ b → cond b (Some (at n c)) None ≡ None → AreApart n (c ∷ cs)
    by true all f = absurd (some_none (at n c) f)
    by false all f = let m = not_all (λ o. same_binding (at n c) (at n o)) cs all in (c, (m.0, (inl refl, (inr m.1.0, not_same (at n c) (at n m.0) m.1.1))))

-- ---- names

module _ (copies : Copies) where
  -- where there is no binding, no copy leads and not all bind alike
  unbound : (n : Name) → binding copies n ≡ None → (leader (is_on n) copies ≡ None) × (shared n copies ≡ None)
  unbound n e = by (leader (is_on n) copies) e
    where
      by : (o : Option (Option Held)) → agreed n copies o ≡ None → (o ≡ None) × (shared n copies ≡ None)
      by None f = (refl, f)
      by (Some copy) f = absurd (some_none (at n copy) f)

  contested_unbound : (n : Name) → IsContested copies n → binding copies n ≡ None
  contested_unbound n c = by (leader (is_on n) copies) refl
    where
      by : (o : Option (Option Held)) → leader (is_on n) copies ≡ o → agreed n copies o ≡ None
      by None e = unshared n copies c.one c.other c.here c.there c.apart
      by (Some copy) e =
          let found = found_in (leads (is_on n) copies) copies copy e in
          let u = c.unled copy found.0 in
          absurd (true≢false (sym found.1 ∙ unled_by copies (is_on n) copy u.0 u.1.0 (is_on_of n u.0 u.1.1.0) u.1.1.1))

  pub contested_in : (n : Name) → IsContested copies n → IsIn n (flat_map (conflicts_of copies) (missing copies))
  contested_in n c =
      let u = c.unled c.one c.here in
      in_flat (conflicts_of copies) (missing copies) u.0 n (is_missing_in copies u.0 u.1.0)
      (in_filter (λ m. not (is_some (binding copies m))) (names_of u.0) n (named n u.0 u.1.1.0) (ap (λ o. not (is_some o)) (contested_unbound n c)))

  pub in_contested : (n : Name) → IsIn n (flat_map (conflicts_of copies) (missing copies)) → IsContested copies n
  in_contested n s =
      let at_update = in_flat_from (conflicts_of copies) (missing copies) n s in
      let un = unbound n (nothing (binding copies n) (filtered (λ m. not (is_some (binding copies m))) (names_of at_update.0) n at_update.1.1)) in
      let some = some_in (λ copy. IsIn at_update.0 (log_of copy)) copies (missing_is copies at_update.0 at_update.1.0).logged in
      let two = two_apart n copies some.0 some.1.0 un.1 in
      record {
        unled = λ copy i. no_lead copy i un.0;
        one = two.0;
        other = two.1.0;
        here = two.1.1.0;
        there = two.1.1.1.0;
        apart = two.1.1.1.1;
      }
    where
      nothing : (o : Option (Option Fid)) → not (is_some o) ≡ true → o ≡ None
      nothing None e = refl
      nothing (Some x) e = absurd (true≢false (sym e))

      no_lead : (copy : Option Held) → IsIn copy copies → leader (is_on n) copies ≡ None → (u : ResEntry) × (IsMissing copies u × (IsOf n u × (has_update u copy ≡ false)))
      no_lead copy i e = let u = unled copies (is_on n) copy (find_passes (leads (is_on n) copies) copies copy e i) in (u.0, (u.1.0, (on_is n u.0 u.1.1.0, u.1.1.1)))

-- ---- attributes

attr_is : (k : ResKind) → is_attr_kind k ≡ true → k ≡ Attr
attr_is Add e = absurd (true≢false (sym e))
attr_is Drop e = absurd (true≢false (sym e))
attr_is Rename e = absurd (true≢false (sym e))
attr_is Cross e = absurd (true≢false (sym e))
attr_is Attr e = refl

module _ (copies : Copies) where
  none_leads : (some : Copies) (held : Held) → first_of_copies (leading copies) some ≡ None → IsIn (Some held) some → leads is_attr copies (Some held) ≡ false
  none_leads [] held e s = absurd s
  none_leads (c ∷ cs) held e s = by (leading copies c) refl e s (none_leads cs held)
    where
      here : (b : Bool) → leads is_attr copies (Some held) ≡ b → cond b (Some held) None ≡ None → b ≡ false
      here true is f = absurd (some_none held f)
      here false is f = refl

      by : (o : Option Held) → leading copies c ≡ o → first_or o (first_of_copies (leading copies) cs) ≡ None → IsIn (Some held) (c ∷ cs) → (first_of_copies (leading copies) cs ≡ None → IsIn (Some held) cs → leads is_attr copies (Some held) ≡ false) → leads is_attr copies (Some held) ≡ false
      by (Some x) is f t more = absurd (some_none x f)
      by None is f (inl same) more = here (leads is_attr copies (Some held)) refl (sym (ap (leading copies) same) ∙ is)
      by None is f (inr t) more = more f t

  pub attributes_none : attributes_of copies ≡ None → AreAttributesContested copies
  attributes_none e held s = let u = unled copies is_attr (Some held) (none_leads copies held e s) in (u.0, (u.1.0, (attr_is u.0.kind u.1.1.0, u.1.1.1)))

  one_leads : (some : Copies) (held : Held) → first_of_copies (leading copies) some ≡ Some held → IsIn (Some held) some × (leads is_attr copies (Some held) ≡ true)
  one_leads [] held e = absurd (some_none held (sym e))
  one_leads (c ∷ cs) held e = by c refl (one_leads cs held)
    where
      there : (o : Option Held) → o ≡ None → first_or o (first_of_copies (leading copies) cs) ≡ Some held → (first_of_copies (leading copies) cs ≡ Some held → IsIn (Some held) cs × (leads is_attr copies (Some held) ≡ true)) → IsIn (Some held) (c ∷ cs) × (leads is_attr copies (Some held) ≡ true)
      there o is f more = let m = more (ap (λ p. first_or p (first_of_copies (leading copies) cs)) (sym is) ∙ f) in (inr m.0, m.1)

      own : (x : Held) (b : Bool) → c ≡ Some x → leads is_attr copies (Some x) ≡ b → first_or (cond b (Some x) None) (first_of_copies (leading copies) cs) ≡ Some held → (first_of_copies (leading copies) cs ≡ Some held → IsIn (Some held) cs × (leads is_attr copies (Some held) ≡ true)) → IsIn (Some held) (c ∷ cs) × (leads is_attr copies (Some held) ≡ true)
      own x true is l f more = let same = some_is x held f in (inl (is ∙ ap Some same), subst (λ h. leads is_attr copies (Some h) ≡ true) same l)
      own x false is l f more = there None refl f more

      by : (o : Option Held) → c ≡ o → (first_of_copies (leading copies) cs ≡ Some held → IsIn (Some held) cs × (leads is_attr copies (Some held) ≡ true)) → IsIn (Some held) (c ∷ cs) × (leads is_attr copies (Some held) ≡ true)
      by None is more = there (leading copies c) (ap (leading copies) is) e more
      by (Some x) is more = own x (leads is_attr copies (Some x)) is refl (ap (λ o. first_or (leading copies o) (first_of_copies (leading copies) cs)) (sym is) ∙ e) more

  pub attributes_some : (held : Held) → attributes_of copies ≡ Some held → AreAttributesContested copies → ⊥
  attributes_some held e c =
      let m = one_leads copies held e in
      let u = c held m.0 in
      true≢false (sym m.1 ∙ unled_by copies is_attr (Some held) u.0 u.1.0 (ap is_attr_kind u.1.1.0) u.1.1.1)
