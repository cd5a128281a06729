-- An update that stands in no log any more, and the least of these.
use Rattle.std.proofs.Common.{◌≡◌, ◌<◌, ◌≤◌, ◌+◌, ◌-◌, ℕ, zero, suc, arith, Bool, true, false, cond, not, List, [], ◌∷◌, ◌++◌, Option, Some, None, refl, sym, ap, ◌∙◌, subst, map, ◌&&◌, ◌⊎◌, inl, inr}
use Rattle.std.specs.Prelude.{nat_le}
use Rattle.std.specs.List.{find, flat_map, range_with_len}
use Rattle.std.proofs.Math.Dec.{eqb}
use Rattle.std.proofs.lemmas.Bool.{true≢false, and_parts, and_from, leb-false, leb-true, eqb-true, eq-eqb}
use Rattle.coda_vv.specs.Vector.{count}
use Rattle.coda_reslog.specs.declared.entry.ResEntry.{ResEntry}
use Rattle.coda_reslog.specs.declared.change.Held.{Held}
use Rattle.coda_resolve.specs.Copies.{Copies, vector_of, log_of}
use Rattle.coda_resolve.specs.Missing.{knows, fewest, most, gaps_of, gaps, is_logged, wrapped}
use Rattle.coda_resolve.specs.Placement.{SomeOf, IsIn}
use Rattle.coda_resolve.specs.FirstCause.{IsLacked, IsLogged, IsForgotten}
use Rattle.coda_resolve.proofs.Logged.{any_in, in_any, in_flat, is_gap, find_passes}
use Rattle.coda_resolve.proofs.Reasons.{not_true, some_is, some_in, in_some, found_in, IsOrderedBy}
use Rattle.coda_resolve.proofs.Single.{in_flat_from, in_append}

-- ---- lists in order

module _ {X : Type 0} (R : X → X → Type 0) where
  ordered_both : (xs ys : List X) → IsOrderedBy R xs → IsOrderedBy R ys → ((x y : X) → IsIn x xs → IsIn y ys → R x y) → IsOrderedBy R (xs ++ ys)
  ordered_both [] ys a b h = b
  ordered_both (x ∷ xs) ys a b h = (λ y s. by y (in_append xs ys y s), ordered_both xs ys a.1 b (λ z y s t. h z y (inr s) t))
    where
      by : (y : X) → IsIn y xs ⊎ IsIn y ys → R x y
      by y (inl s) = a.0 y s
      by y (inr s) = h x y (inl refl) s

  -- what a search finds stands before all else that passes
  found_first : (t : X → Bool) (xs : List X) (x y : X) → IsOrderedBy R xs → find t xs ≡ Some x → IsIn y xs → t y ≡ true → (x ≡ y) ⊎ R x y
  found_first t [] x y a e s is = absurd s
  found_first t (z ∷ zs) x y a e s is = by (t z) refl e s (found_first t zs x y a.1)
    where
      by : (b : Bool) → t z ≡ b → cond b (Some z) (find t zs) ≡ Some x → IsIn y (z ∷ zs) → (find t zs ≡ Some x → IsIn y zs → t y ≡ true → (x ≡ y) ⊎ R x y) → (x ≡ y) ⊎ R x y
      by true p f (inl same) more = inl (sym (some_is z x f) ∙ same)
      by true p f (inr s) more = inr (subst (λ w. R w y) (some_is z x f) (a.0 y s))
      by false p f (inl same) more = absurd (true≢false (sym is ∙ sym (ap t same) ∙ p))
      by false p f (inr s) more = more f s is

in_range_from : (n a s : ℕ) → IsIn s (range_with_len a n) → (a ≤ s) × (s < a + n)
in_range_from zero a s i = absurd i
in_range_from (suc n) a s (inl is) = (omega (arith, is), omega (arith, is))
in_range_from (suc n) a s (inr i) = let m = in_range_from n (a + 1) s i in let low = m.0 in let high = m.1 in (omega (arith, low), omega (arith, high))

in_map_from : {A B : Type 0} (h : A → B) (xs : List A) (y : B) → IsIn y (map h xs) → (x : A) × (IsIn x xs × (h x ≡ y))
in_map_from h [] y s = absurd s
in_map_from h (x ∷ xs) y (inl is) = (x, (inl refl, is))
in_map_from h (x ∷ xs) y (inr s) = let m = in_map_from h xs y s in (m.0, (inr m.1.0, m.1.1))

-- ---- updates by server and number

abbrev pair : ℕ → ℕ → ℕ × ℕ
pair a b = (a, b)

-- of a lower server, or of the same and not of a higher number
abbrev pub IsUpTo : ℕ × ℕ → ℕ × ℕ → Type 0
IsUpTo g h = (g.0 < h.0) ⊎ ((g.0 ≡ h.0) × (g.1 ≤ h.1))

numbers_ordered : (n a origin : ℕ) → IsOrderedBy IsUpTo (map (λ seq. pair origin seq) (range_with_len a n))
numbers_ordered zero a origin = tt
numbers_ordered (suc n) a origin = (above, numbers_ordered n (a + 1) origin)
  where
    above : (y : ℕ × ℕ) → IsIn y (map (λ seq. pair origin seq) (range_with_len (a + 1) n)) → IsUpTo (origin, a) y
    above y s =
        let m = in_map_from (λ seq. pair origin seq) (range_with_len (a + 1) n) y s in
        let low : a + 1 ≤ m.0 = (in_range_from n (a + 1) m.0 m.1.0).0 in
        let from : a ≤ m.0 = omega (arith, low) in
        subst (λ z. IsUpTo (origin, a) z) m.1.1 (inr (refl, from))

module _ (copies : Copies) where
  of_server : (origin : ℕ) (g : ℕ × ℕ) → IsIn g (gaps_of copies origin) → (g.0 ≡ origin) × ((fewest origin copies < g.1) × (g.1 ≤ most origin copies))
  of_server origin g s =
      let m = in_map_from (λ seq. pair origin seq) (range_with_len (fewest origin copies + 1) (most origin copies - fewest origin copies)) g s in
      let r = in_range_from (most origin copies - fewest origin copies) (fewest origin copies + 1) m.0 m.1.0 in
      let low = r.0 in
      let high = r.1 in
      let less : fewest origin copies < m.0 = omega (arith, low) in
      let upto : m.0 ≤ most origin copies = omega (arith, low, high) in
      (ap (λ (p : ℕ × ℕ). p.0) (sym m.1.1), (subst (λ (p : ℕ × ℕ). fewest origin copies < p.1) m.1.1 less, subst (λ (p : ℕ × ℕ). p.1 ≤ most origin copies) m.1.1 upto))

  of_servers : (n a : ℕ) (g : ℕ × ℕ) → IsIn g (flat_map (gaps_of copies) (range_with_len a n)) → (a ≤ g.0) × ((g.0 < a + n) × IsIn g (gaps_of copies g.0))
  of_servers n a g s =
      let m = in_flat_from (gaps_of copies) (range_with_len a n) g s in
      let r = in_range_from n a m.0 m.1.0 in
      let is = (of_server m.0 g m.1.1).0 in
      (subst (λ o. a ≤ o) (sym is) r.0, (subst (λ o. o < a + n) (sym is) r.1, subst (λ o. IsIn g (gaps_of copies o)) (sym is) m.1.1))

  servers_ordered : (n a : ℕ) → IsOrderedBy IsUpTo (flat_map (gaps_of copies) (range_with_len a n))
  servers_ordered zero a = tt
  servers_ordered (suc n) a =
      ordered_both IsUpTo (gaps_of copies a) (flat_map (gaps_of copies) (range_with_len (a + 1) n))
      (numbers_ordered (most a copies - fewest a copies) (fewest a copies + 1) a) (servers_ordered n (a + 1))
      (λ g h s t. apart g h (of_server a g s).0 (of_servers n (a + 1) h t).0)
    where
      apart : (g h : ℕ × ℕ) → g.0 ≡ a → a + 1 ≤ h.0 → IsUpTo g h
      apart g h is le = let less : g.0 < h.0 = omega (arith, is, le) in inl less

-- ---- who has it, and who lacks it

copy_with : (origin seq : ℕ) (cs : Copies) → 1 ≤ seq → seq ≤ most origin cs → SomeOf (λ copy. knows copy origin seq ≡ true) cs
copy_with origin seq [] one le = absurd (omega (arith, one, le))
copy_with origin seq (c ∷ cs) one le = by (nat_le seq (count (vector_of c) origin)) refl (copy_with origin seq cs one)
  where
    by : (b : Bool) → nat_le seq (count (vector_of c) origin) ≡ b → (seq ≤ most origin cs → SomeOf (λ copy. knows copy origin seq ≡ true) cs) → SomeOf (λ copy. knows copy origin seq ≡ true) (c ∷ cs)
    by true e more = inl e
    by false e more = let less = leb-false seq (count (vector_of c) origin) e in inr (more (omega (arith, less, le)))

copy_without : (origin seq : ℕ) (c : Option Held) (cs : Copies) → fewest origin (c ∷ cs) < seq → SomeOf (λ copy. knows copy origin seq ≡ false) (c ∷ cs)
copy_without origin seq c [] less = by (nat_le seq (count (vector_of c) origin)) refl
  where
    by : (b : Bool) → nat_le seq (count (vector_of c) origin) ≡ b → SomeOf (λ copy. knows copy origin seq ≡ false) (c ∷ [])
    by true e = let le = leb-true seq (count (vector_of c) origin) e in absurd (omega (arith, less, le))
    by false e = inl e
copy_without origin seq c (d ∷ cs) less = by (nat_le seq (count (vector_of c) origin)) refl (copy_without origin seq d cs)
  where
    by : (b : Bool) → nat_le seq (count (vector_of c) origin) ≡ b → (fewest origin (d ∷ cs) < seq → SomeOf (λ copy. knows copy origin seq ≡ false) (d ∷ cs)) → SomeOf (λ copy. knows copy origin seq ≡ false) (c ∷ d ∷ cs)
    by true e more = let le = leb-true seq (count (vector_of c) origin) e in inr (more (omega (arith, less, le)))
    by false e more = inl e

lacked_by : (copies : Copies) (origin seq : ℕ) → fewest origin copies < seq → seq ≤ most origin copies → IsLacked copies origin seq
lacked_by [] origin seq less le = absurd (omega (arith, less, le))
lacked_by (c ∷ cs) origin seq less le = record { here = copy_with origin seq (c ∷ cs) (omega (arith, less)) le; lacked = copy_without origin seq c cs less }

-- ---- updates that nobody knows

module _ (copies : Copies) where
  abbrev unlogged : ℕ × ℕ → Bool
  unlogged gap = not (is_logged copies gap)

  pub forgotten_is : (g : ℕ × ℕ) → wrapped copies ≡ Some g → IsForgotten copies g.0 g.1
  forgotten_is g e =
      let at = found_in unlogged (gaps copies) g e in
      let r = of_servers copies 8 1 g at.0 in
      let low = r.0 in
      let high = r.1.0 in
      let m = of_server copies g.0 g r.1.1 in
      record {
        from_one = low;
        to_eight = omega (arith, high);
        lacked = lacked_by copies g.0 g.1 m.1.0 m.1.1;
        unlogged = λ u logged o s. absurd (true≢false (sym (stands u logged o s) ∙ not_true (is_logged copies g) at.1));
      }
    where
      stands : (u : ResEntry) → IsLogged copies u → u.origin ≡ g.0 → u.seq ≡ g.1 → is_logged copies g ≡ true
      stands u logged o s =
          let at = some_in (λ copy. IsIn u (log_of copy)) copies logged in
          in_any (λ (v : ResEntry). eqb v.origin g.0 && eqb v.seq g.1) (flat_map log_of copies) u (in_flat log_of copies at.0 u at.1.0 at.1.1) (and_from _ _ (eq-eqb u.origin g.0 o) (eq-eqb u.seq g.1 s))

  gap_of : (origin seq : ℕ) → IsForgotten copies origin seq → IsIn (origin, seq) (gaps copies) × (unlogged (origin, seq) ≡ true)
  gap_of origin seq f =
      let a = some_in (λ copy. knows copy origin seq ≡ true) copies f.lacked.here in
      let b = some_in (λ copy. knows copy origin seq ≡ false) copies f.lacked.lacked in
      (is_gap copies a.0 b.0 origin seq a.1.0 b.1.0 f.from_one f.to_eight a.1.1 b.1.1, by (is_logged copies (origin, seq)) refl)
    where
      by : (b : Bool) → is_logged copies (origin, seq) ≡ b → not b ≡ true
      by true e =
          let m = any_in (λ (u : ResEntry). eqb u.origin origin && eqb u.seq seq) (flat_map log_of copies) e in
          let is = and_parts (eqb m.0.origin origin) (eqb m.0.seq seq) m.1.1 in
          let at = in_flat_from log_of copies m.0 m.1.0 in
          absurd (f.unlogged m.0 (in_some (λ copy. IsIn m.0 (log_of copy)) copies at.0 at.1.0 at.1.1) (eqb-true m.0.origin origin is.0) (eqb-true m.0.seq seq is.1))
      by false e = refl

  -- the one that is named is up to each other
  pub forgotten_first : (g : ℕ × ℕ) → wrapped copies ≡ Some g → (origin seq : ℕ) → IsForgotten copies origin seq → (g.0 < origin) ⊎ ((g.0 ≡ origin) × (g.1 ≤ seq))
  forgotten_first g e origin seq f =
      let at = gap_of origin seq f in
      by (found_first IsUpTo unlogged (gaps copies) g (origin, seq) (servers_ordered copies 8 1) e at.0 at.1)
    where
      by : (g ≡ (origin, seq)) ⊎ IsUpTo g (origin, seq) → (g.0 < origin) ⊎ ((g.0 ≡ origin) × (g.1 ≤ seq))
      by (inl is) =
          let server : g.0 ≡ origin = ap (λ (p : ℕ × ℕ). p.0) is in
          let number : g.1 ≡ seq = ap (λ (p : ℕ × ℕ). p.1) is in
          inr (server, omega (arith, number))
      by (inr up) = up

  pub forgotten_none : wrapped copies ≡ None → (origin seq : ℕ) → IsForgotten copies origin seq → ⊥
  forgotten_none e origin seq f = let at = gap_of origin seq f in true≢false (sym at.1 ∙ find_passes unlogged (gaps copies) (origin, seq) e at.0)
