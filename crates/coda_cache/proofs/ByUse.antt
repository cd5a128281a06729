-- Cached nodes in the order of their use, by the times at which they were used.
use Rattle.std.proofs.Common.{◌≡◌, ℕ, zero, suc, ◌<◌, Bool, true, false, cond, ◌||◌, ◌&&◌, List, [], ◌∷◌, length, take, refl, sym, ap, ◌∙◌, subst, inl, inr, arith}
use Rattle.std.specs.Prelude as prelude
use Rattle.std.specs.Prelude.{slice_index_or}
use Rattle.std.specs.List.{list_any, filter, AllByRecursion}
use Rattle.std.specs.List.Sorted.{IsStrictlySortedBy}
use Rattle.std.specs.Ordering.{nat_cmp, eq_by_cmp, ordering_then, is_eq}
use Rattle.std.specs.declared.cmp.Ordering.{Ordering}
use Rattle.std.specs.declared.cmp.Ordering.TheVariants.{Less, Equal, Greater}
use Rattle.std.specs.Cmp.{IsTotalOrder, nat_cmp_is}
use Rattle.std.proofs.lemmas.Bool.{both_ways}
use Rattle.std.proofs.lemmas.Cmp.{then_total, on_total, nat_cmp_total, tied_itself}
use Rattle.std.proofs.lemmas.Map.Lookups.{exact_pairs, exact_unsigned}
use Rattle.coda_fid.specs.declared.fid.Fid.{Fid}
use Rattle.coda_fid.specs.Fid.{fid_cmp, same_fid}
use Rattle.coda_fid.proofs.Fids.{fids_total, exact_fids, same_fid_is, same_fid_refl}
use Rattle.coda_walk.specs.declared.item.Item.{Item}
use Rattle.coda_walk.specs.Going.{is_listed}
use Rattle.coda_walk.specs.Laws.{Among}
use Rattle.coda_walk.specs.Queue.{Rises}
use Rattle.coda_walk.proofs.Orders.{keys_are}
use Rattle.coda_cache.specs.declared.by_use.Use.{Use}
use Rattle.coda_cache.specs.Indexed.{use_cmp, use_of}
use Rattle.coda_cache.proofs.Kept.{listed_where}

uses_total : IsTotalOrder use_cmp
uses_total = then_total (on_total (λ (u : Use). u.used) nat_cmp_total) (on_total (λ (u : Use). u.fid) fids_total)

exact_uses : (a b : Use) → use_cmp a b ≡ Equal → a ≡ b
exact_uses a b h = ap (λ (p : ℕ × Fid). let u : Use = record { used = p.0; fid = p.1 } in u) (exact_pairs nat_cmp fid_cmp exact_unsigned exact_fids (a.used, a.fid) (b.used, b.fid) h)

is_equal : (r : Ordering) → is_eq r ≡ true → r ≡ Equal
is_equal Less h = absurd (both_ways _ refl h)
is_equal Equal h = refl
is_equal Greater h = absurd (both_ways _ refl h)

-- one more of a list is among them
pub use_more : (time : Fid → ℕ) (u : Use) (fids : List Fid) (i : ℕ) (d : Fid) → i < length fids →
    list_any (λ k. eq_by_cmp use_cmp k u) (prelude.map (use_of time) (take (suc i) fids))
    ≡ (list_any (λ k. eq_by_cmp use_cmp k u) (prelude.map (use_of time) (take i fids)) || eq_by_cmp use_cmp (use_of time (slice_index_or fids i d)) u)
use_more time u [] i d h = absurd (omega (arith, h))
use_more time u (g ∷ fids) zero d h = elim (eq_by_cmp use_cmp (use_of time g) u) as (λ b. (b || false) ≡ (false || b)) [ true ↦ refl | false ↦ refl ]
use_more time u (g ∷ fids) (suc i) d h = let rest = use_more time u fids i d (omega (arith, h)) in
    (elim (eq_by_cmp use_cmp (use_of time g) u) as (λ b.
    (b || list_any (λ k. eq_by_cmp use_cmp k u) (prelude.map (use_of time) (take (suc i) fids))) ≡ ((b || list_any (λ k. eq_by_cmp use_cmp k u) (prelude.map (use_of time) (take i fids))) || eq_by_cmp use_cmp (use_of time (slice_index_or fids i d)) u)) [
      | true ↦ refl
      | false ↦ rest
    ])

-- whether one is among those of a list is told by its fid
use_split : (time : Fid → ℕ) (f : Fid) (u : Use) → eq_by_cmp use_cmp (use_of time f) u ≡ (same_fid f u.fid && eq_by_cmp use_cmp (use_of time u.fid) u)
use_split time f u = (elim (same_fid f u.fid) as (λ b. same_fid f u.fid ≡ b → eq_by_cmp use_cmp (use_of time f) u ≡ (b && eq_by_cmp use_cmp (use_of time u.fid) u)) [
  | true ↦ λ e. ap (λ x. eq_by_cmp use_cmp (use_of time x) u) (same_fid_is f u.fid e)
  | false ↦ λ e. (elim (eq_by_cmp use_cmp (use_of time f) u) as (λ b. eq_by_cmp use_cmp (use_of time f) u ≡ b → b ≡ false) [
    | true ↦ λ t. absurd (both_ways _ e (ap (λ (x : Use). same_fid f x.fid) (sym (exact_uses (use_of time f) u (is_equal _ t))) ∙ same_fid_refl f))
    | false ↦ λ _. refl
  ]) refl
]) refl

among_uses : (time : Fid → ℕ) (u : Use) (fids : List Fid) → list_any (λ k. eq_by_cmp use_cmp k u) (prelude.map (use_of time) fids) ≡ (is_listed fids u.fid && eq_by_cmp use_cmp (use_of time u.fid) u)
among_uses time u [] = refl
among_uses time u (f ∷ fids) = (λ i. use_split time f u i || among_uses time u fids i) ∙ both (same_fid f u.fid) (is_listed fids u.fid) (eq_by_cmp use_cmp (use_of time u.fid) u)
  where
    both : (x y z : Bool) → ((x && z) || (y && z)) ≡ ((x || y) && z)
    both true true true = refl
    both true true false = refl
    both true false true = refl
    both true false false = refl
    both false y z = refl

module _ (time : Fid → ℕ) (item : Fid → Item) (item_is : (g : Fid) → (item g).fid ≡ g) (test : Fid → Bool) where
  later : (f : Fid) (rest : List Fid) → ((j : Item) → Among j (prelude.map item rest) → time (item f).fid < time j.fid) → AllByRecursion (λ y. use_cmp (use_of time f) y ≡ Less) (prelude.map (use_of time) (filter test rest))
  later f [] less = tt
  later f (g ∷ rest) less =
      let sooner : time f < time g = subst (λ n. n < time g) (ap time (item_is f)) (subst (λ n. time (item f).fid < n) (ap time (item_is g)) (less (item g) (inl refl))) in
      let here : use_cmp (use_of time f) (use_of time g) ≡ Less = ap (λ r. ordering_then r (fid_cmp f g)) (sym (nat_cmp_is (time f) (time g) Less sooner)) in
      let others = later f rest (λ j a. less j (inr a)) in
      elim (test g) as (λ b. AllByRecursion (λ y. use_cmp (use_of time f) y ≡ Less) (prelude.map (use_of time) (cond b (g ∷ filter test rest) (filter test rest)))) [
        | true ↦ (here, others)
        | false ↦ others
      ]

  rising : (fids : List Fid) → Rises time (prelude.map item fids) → IsStrictlySortedBy use_cmp (prelude.map (use_of time) (filter test fids))
  unfolding IsStrictlySortedBy
  rising [] r = tt
  rising (f ∷ fids) r = elim (test f) as (λ b. IsStrictlySortedBy use_cmp (prelude.map (use_of time) (cond b (f ∷ filter test fids) (filter test fids)))) [
    | true ↦ (later f fids r.0, rising fids r.1)
    | false ↦ rising fids r.1
  ]

fids_back : (time : Fid → ℕ) (fids : List Fid) → prelude.map (λ (u : Use). u.fid) (prelude.map (use_of time) fids) ≡ fids
fids_back time [] = refl
fids_back time (f ∷ fids) = ap (λ l. f ∷ l) (fids_back time fids)

-- the fids of those that stand in the order of their use are those of the cached nodes among them in that order
pub by_use : (time : Fid → ℕ) (item : Fid → Item) → ((g : Fid) → (item g).fid ≡ g) → (recency fids : List Fid) → Rises time (prelude.map item recency) → ((f : Fid) → is_listed fids f ≡ true → is_listed recency f ≡ true) →
    (keys : List Use) → IsStrictlySortedBy use_cmp keys → ((u : Use) → list_any (eq_by_cmp use_cmp u) keys ≡ list_any (λ k. eq_by_cmp use_cmp k u) (prelude.map (use_of time) fids)) →
    prelude.map (λ (u : Use). u.fid) keys ≡ filter (is_listed fids) recency
by_use time item item_is recency fids rises cached keys rise same =
    let all = prelude.map (use_of time) (filter (is_listed fids) recency) in
    let alike : (u : Use) → list_any (λ k. eq_by_cmp use_cmp k u) (prelude.map (use_of time) fids) ≡ list_any (λ k. eq_by_cmp use_cmp k u) all = λ u.
    among_uses time u fids ∙ ap (λ b. b && eq_by_cmp use_cmp (use_of time u.fid) u) (within (is_listed fids u.fid) (is_listed recency u.fid) (cached u.fid) ∙ sym (listed_where (is_listed fids) recency u.fid))
    ∙ sym (among_uses time u (filter (is_listed fids) recency)) in
    let one = keys_are uses_total exact_uses keys all rise (λ u. same u ∙ alike u) in
    let other = keys_are uses_total exact_uses all all (rising time item item_is (is_listed fids) recency rises) (any_turned_uses all) in
    ap (prelude.map (λ (u : Use). u.fid)) (one ∙ sym other) ∙ fids_back time (filter (is_listed fids) recency)
  where
    within : (a b : Bool) → (a ≡ true → b ≡ true) → a ≡ (a && b)
    within true b h = sym (h refl)
    within false b h = refl

    any_turned_uses : (ks : List Use) (u : Use) → list_any (eq_by_cmp use_cmp u) ks ≡ list_any (λ k. eq_by_cmp use_cmp k u) ks
    any_turned_uses [] u = refl
    any_turned_uses (k ∷ ks) u = (λ i. turned u k i || any_turned_uses ks u i)
      where
        turned : (a b : Use) → eq_by_cmp use_cmp a b ≡ eq_by_cmp use_cmp b a
        turned a b = go (eq_by_cmp use_cmp a b) (eq_by_cmp use_cmp b a) refl refl
          where
            back : (a b : Use) → eq_by_cmp use_cmp a b ≡ true → eq_by_cmp use_cmp b a ≡ true
            back a b t = let at = exact_uses a b (is_equal _ t) in subst (λ x. eq_by_cmp use_cmp x a ≡ true) at (ap is_eq (tied_itself uses_total a))

            go : (x y : Bool) → eq_by_cmp use_cmp a b ≡ x → eq_by_cmp use_cmp b a ≡ y → x ≡ y
            go true true e h = refl
            go true false e h = sym (sym h ∙ back a b e)
            go false true e h = sym e ∙ back b a h
            go false false e h = refl
