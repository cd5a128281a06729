-- What a directory keeps that binds repaired objects.
use Rattle.std.proofs.Common.{◌≡◌, ℕ, zero, suc, ◌+◌, ◌≤◌, Bool, true, false, not, cond, ◌&&◌, ◌||◌, List, [], ◌∷◌, Option, Some, None, slice_get, take, length, map, refl, sym, ap, ◌∙◌, arith, inl, inr}
use Rattle.std.specs.FinMap as finmap
use Rattle.std.specs.List.{list_any}
use Rattle.std.specs.Ordering.{eq_by_cmp}
use Rattle.std.specs.Cmp.{Equal-is}
use Rattle.std.proofs.lemmas.Bool.{true≢false}
use Rattle.std.proofs.lemmas.List.{take_all, length-map}
use Rattle.std.proofs.lemmas.Cmp.{nat_list_cmp_total, eq_by_cmp_equiv}
use Rattle.std.proofs.lemmas.Map.Lookups.{exact_bytes}
use Rattle.coda_fid.specs.Name.{name_cmp}
use Rattle.coda_fid.specs.declared.fid.Fid.{Fid}
use Rattle.coda_tree.specs.declared.node.NodeKind.{NodeKind}
use Rattle.coda_tree.specs.declared.node.NodeKind.TheVariants.{File, Link, Dir}
use Rattle.coda_tree.specs.Bindings.{Name, Bindings}
use Rattle.coda_tree.specs.Volume.{bindings}
use Rattle.coda_tree.proofs.MapEntries.{get_entry}
use Rattle.coda_reslog.specs.declared.change.Held.{Held}
use Rattle.coda_resolve.specs.Copies.{bindings_of}
use Rattle.coda_resolve.specs.Placement.{IsIn}
use Rattle.coda_resolve.proofs.Collected.{one_more}
use Rattle.coda_resolve.proofs.Lists.{some_none, both_ways}
use Rattle.coda_resolve.proofs.Logged.{any_in, in_any}
use Rattle.coda_resolve.proofs.MergedNames.{any_append}
use Rattle.coda_resolve.proofs.Once.{entry_in}
use Rattle.coda_lineage.specs.Repairs.{is_taken, others_of, binds_one, spared_by}
use Rattle.coda_repair.specs.Making.{kind_loses}

module _ (subtree : Fid → Bool) (top : Fid) where
  pub get_others : (m : Bindings) (n : Name) → finmap.get (others_of subtree top m) n ≡ cond (not (is_taken subtree top (finmap.get m n))) (finmap.get m n) None
  get_others m n = finmap.get-retain_keys m (λ k. not (is_taken subtree top (finmap.get m k))) n (λ k t. ap (λ x. not (is_taken subtree top (finmap.get m x))) (sym (exact_bytes n k t)))

  -- ---- what loses is another

  binds_other : (m : Bindings) → binds_one subtree top m ≡ true → others_of subtree top m ≡ m → ⊥
  binds_other m one same =
      let k = any_in (λ n. is_taken subtree top (finmap.get m n)) (finmap.keys m) one in
      by k.0 (finmap.get m k.0) refl k.1.1 (get_others m k.0)
    where
      by : (n : Name) (o : Option Fid) → finmap.get m n ≡ o → is_taken subtree top (finmap.get m n) ≡ true → finmap.get (others_of subtree top m) n ≡ cond (not (is_taken subtree top (finmap.get m n))) (finmap.get m n) None → ⊥
      by n None e taken is = true≢false (sym taken ∙ ap (is_taken subtree top) e)
      by n (Some f) e taken is = some_none f (sym e ∙ ap (λ x. finmap.get x n) (sym same) ∙ is ∙ ap (λ b. cond (not b) (finmap.get m n) None) taken)

  pub loser_differs : (held : Held) (k : NodeKind) (b : Bool) → held.node.kind ≡ k → kind_loses subtree top k ≡ b → cond b (Some (spared_by subtree top held k)) None ≡ Some held → ⊥
  loser_differs held k false e is h = some_none held (sym h)
  loser_differs held (File content) true e is h = true≢false (sym is)
  loser_differs held (Link target) true e is h = true≢false (sym is)
  loser_differs held (Dir entries) true e is h = binds_other entries is (ap (λ b. bindings_of (Some (cond b (record held { node = record held.node { kind = Dir (others_of subtree top entries); marked = true } }) held))) (sym is) ∙ ap bindings_of h ∙ ap bindings e)

  -- ---- whether it loses

  taken_at : (m : Bindings) (i : ℕ) (n : Name) (f : Fid) → Some (n, f) ≡ slice_get (finmap.entries m) i → finmap.get m n ≡ Some f
  taken_at m i n f at = get_entry nat_list_cmp_total m i (n, f) (sym at)

  key_at : (es : List (Name × Fid)) (i : ℕ) (n : Name) (f : Fid) → Some (n, f) ≡ slice_get es i → Some n ≡ slice_get (map (λ e. e.0) es) i
  key_at [] i n f e = absurd cc
  key_at (x ∷ es) zero n f e = let same : (n, f) ≡ x = cc in ap (λ (p : Name × Fid). Some p.0) same
  key_at (x ∷ es) (suc i) n f e = key_at es i n f e

  in_at : {X : Type 0} (xs : List X) (i : ℕ) (x : X) → Some x ≡ slice_get xs i → IsIn x xs
  in_at [] i x e = absurd cc
  in_at (y ∷ xs) zero x e = let same : y ≡ x = cc in inl same
  in_at (y ∷ xs) (suc i) x e = inr (in_at xs i x e)

  pub binds_here : (m : Bindings) (i : ℕ) (n : Name) (f : Fid) → Some (n, f) ≡ slice_get (finmap.entries m) i → is_taken subtree top (Some f) ≡ true → binds_one subtree top m ≡ true
  binds_here m i n f at taken = in_any (λ k. is_taken subtree top (finmap.get m k)) (finmap.keys m) n (in_at (finmap.keys m) i n (key_at (finmap.entries m) i n f at)) (ap (is_taken subtree top) (taken_at m i n f at) ∙ taken)

  pub none_more : (m : Bindings) (i : ℕ) (n : Name) (f : Fid) → Some (n, f) ≡ slice_get (finmap.entries m) i → is_taken subtree top (Some f) ≡ false → list_any (λ k. is_taken subtree top (finmap.get m k)) (take i (finmap.keys m)) ≡ false → list_any (λ k. is_taken subtree top (finmap.get m k)) (take (i + 1) (finmap.keys m)) ≡ false
  none_more m i n f at free sofar =
      ap (list_any (λ k. is_taken subtree top (finmap.get m k))) (one_more (finmap.keys m) i n (key_at (finmap.entries m) i n f at))
      ∙ any_append (λ k. is_taken subtree top (finmap.get m k)) (take i (finmap.keys m)) (n ∷ [])
      ∙ (λ j. sofar j || ((ap (is_taken subtree top) (taken_at m i n f at) ∙ free) j || false))

  pub none_all : (m : Bindings) (i : ℕ) → finmap.len m ≤ i → list_any (λ k. is_taken subtree top (finmap.get m k)) (take i (finmap.keys m)) ≡ false → false ≡ binds_one subtree top m
  none_all m i le e =
      let count : length (finmap.keys m) ≡ finmap.len m = length-map (finmap.entries m) _ ∙ sym (finmap.len-entries m) in
      sym (ap (list_any (λ k. is_taken subtree top (finmap.get m k))) (sym (take_all i (finmap.keys m) (omega arith))) ∙ e)

  -- ---- what it keeps

  -- whether one of the pairs has the name, and binds one that is taken
  abbrev pub out_by : List (Name × Fid) → Name → Bool
  out_by es n = list_any (λ (e : Name × Fid). eq_by_cmp name_cmp n e.0 && is_taken subtree top (Some e.1)) es

  -- the names of the pairs that bind what is taken are out
  abbrev pub AreOut : Bindings → List (Name × Fid) → Bindings → Type 0
  AreOut m es others = (n : Name) → finmap.get others n ≡ cond (out_by es n) None (finmap.get m n)

  one_out : (m : Bindings) (i : ℕ) (n : Name) (f : Fid) (k : Name) → Some (n, f) ≡ slice_get (finmap.entries m) i → out_by (take (i + 1) (finmap.entries m)) k ≡ (out_by (take i (finmap.entries m)) k || ((eq_by_cmp name_cmp k n && is_taken subtree top (Some f)) || false))
  one_out m i n f k at = ap (λ es. out_by es k) (one_more (finmap.entries m) i (n, f) at) ∙ any_append (λ (e : Name × Fid). eq_by_cmp name_cmp k e.0 && is_taken subtree top (Some e.1)) (take i (finmap.entries m)) ((n, f) ∷ [])

  pub out_more : (m : Bindings) (i : ℕ) (n : Name) (f : Fid) (others new : Bindings) → Some (n, f) ≡ slice_get (finmap.entries m) i → new ≡ cond (is_taken subtree top (Some f)) (finmap.remove others n) others → AreOut m (take i (finmap.entries m)) others → AreOut m (take (i + 1) (finmap.entries m)) new
  out_more m i n f others new at is out k =
      ap (λ x. finmap.get x k) is
      ∙ by (is_taken subtree top (Some f))
      ∙ ap (λ b. cond b None (finmap.get m k)) (sym (one_out m i n f k at))
    where
      took : (e o : Bool) → cond e None (cond o None (finmap.get m k)) ≡ cond (o || ((e && true) || false)) None (finmap.get m k)
      took true true = refl
      took true false = refl
      took false true = refl
      took false false = refl

      kept : (e o : Bool) → cond o None (finmap.get m k) ≡ cond (o || ((e && false) || false)) None (finmap.get m k)
      kept true true = refl
      kept true false = refl
      kept false true = refl
      kept false false = refl

      by : (t : Bool) → finmap.get (cond t (finmap.remove others n) others) k ≡ cond (out_by (take i (finmap.entries m)) k || ((eq_by_cmp name_cmp k n && t) || false)) None (finmap.get m k)
      by true = finmap.get-remove nat_list_cmp_total others n k ∙ ap (λ o. cond (eq_by_cmp name_cmp k n) None o) (out k) ∙ took (eq_by_cmp name_cmp k n) (out_by (take i (finmap.entries m)) k)
      by false = out k ∙ kept (eq_by_cmp name_cmp k n) (out_by (take i (finmap.entries m)) k)

  pub out_none : (m others : Bindings) → others ≡ m → AreOut m (take 0 (finmap.entries m)) others
  out_none m others is k = ap (λ x. finmap.get x k) is

  -- a name is out just where what it binds is taken
  out_is : (m : Bindings) (n : Name) → out_by (finmap.entries m) n ≡ is_taken subtree top (finmap.get m n)
  out_is m n = both_ways (out_by (finmap.entries m) n) (is_taken subtree top (finmap.get m n)) there (λ t. back (finmap.get m n) refl t)
    where
      test : Name × Fid → Bool
      test e = eq_by_cmp name_cmp n e.0 && is_taken subtree top (Some e.1)

      parts : (a b : Bool) → (a && b) ≡ true → (a ≡ true) × (b ≡ true)
      parts true b e = (refl, e)
      parts false b e = absurd (true≢false (sym e))

      index_of : (es : List (Name × Fid)) (e : Name × Fid) → IsIn e es → (i : ℕ) × (slice_get es i ≡ Some e)
      index_of [] e s = absurd s
      index_of (x ∷ es) e (inl is) = (0, ap Some is)
      index_of (x ∷ es) e (inr s) = let k = index_of es e s in (suc k.0, k.1)

      there : out_by (finmap.entries m) n ≡ true → is_taken subtree top (finmap.get m n) ≡ true
      there e =
          let k = any_in (λ (e : Name × Fid). eq_by_cmp name_cmp n e.0 && is_taken subtree top (Some e.1)) (finmap.entries m) e in
          let p = parts (eq_by_cmp name_cmp n k.0.0) (is_taken subtree top (Some k.0.1)) k.1.1 in
          let at = index_of (finmap.entries m) k.0 k.1.0 in
          let same : n ≡ k.0.0 = exact_bytes n k.0.0 ((Equal-is (name_cmp n k.0.0)).0 p.0) in
          ap (is_taken subtree top) (ap (finmap.get m) same ∙ get_entry nat_list_cmp_total m at.0 k.0 at.1) ∙ p.1

      back : (o : Option Fid) → finmap.get m n ≡ o → is_taken subtree top (finmap.get m n) ≡ true → out_by (finmap.entries m) n ≡ true
      back None e t = absurd (true≢false (sym t ∙ ap (is_taken subtree top) e))
      back (Some f) e t =
          in_any (λ (e : Name × Fid). eq_by_cmp name_cmp n e.0 && is_taken subtree top (Some e.1)) (finmap.entries m) (n, f) (entry_in m n f e)
          (ap (λ b. b && is_taken subtree top (Some f)) ((eq_by_cmp_equiv nat_list_cmp_total).refl n) ∙ ap (is_taken subtree top) (sym e) ∙ t)

  pub out_all : (m : Bindings) (i : ℕ) (others : Bindings) → finmap.len m ≤ i → AreOut m (take i (finmap.entries m)) others → others ≡ others_of subtree top m
  out_all m i others le out = finmap.same_map nat_list_cmp_total exact_bytes others (others_of subtree top m) (λ n.
      out n
      ∙ ap (λ es. cond (out_by es n) None (finmap.get m n)) (take_all i (finmap.entries m) (let count = finmap.len-entries m in omega (arith, le, count)))
      ∙ ap (λ b. cond b None (finmap.get m n)) (out_is m n)
      ∙ by (is_taken subtree top (finmap.get m n)) (finmap.get m n)
      ∙ sym (get_others m n))
    where
      by : (b : Bool) (o : Option Fid) → cond b None o ≡ cond (not b) o None
      by true o = refl
      by false o = refl
