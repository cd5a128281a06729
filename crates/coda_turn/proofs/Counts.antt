-- A pass with all parts has, in some order, what was added since the beginning, each call once.
use Rattle.std.proofs.Common.{◌≡◌, ◌≢◌, ℕ, zero, suc, ◌+◌, ◌-◌, ◌<◌, ◌≤◌, ◌==◌, cond, List, [], ◌∷◌, length, get_or, drop, Some, refl, sym, ap, ◌∙◌, subst, arith, eq-eqb, ne_eqb, length-drop}
use Rattle.std.specs.Prelude.{slice_get, IsPermutation}
use Rattle.std.specs.List.{sum_by, remove}
use Rattle.std.proofs.lemmas.List.Sums.{sum_by-cons, sum_by-remove}
use Rattle.std.proofs.lemmas.List.Sorted.{IsPermutation-refl, IsPermutation-remove, IsPermutation-cons, IsPermutation-trans}
use mathlib.Core.Logic.{dite}
use native.Mathlib.Decide.{ℕ_discrete}
use native.Mathlib.Decide.{dec_le}
use Rattle.coda_turn.specs.declared.view.View.{View}
use Rattle.coda_turn.specs.Rule.{Has, times, placed}
use Rattle.coda_turn.specs.Plays.{Closes}

abbrev here : ℕ → ℕ → ℕ
here n k = cond (n == k) 1 0

module _ {E : Type 0} where
  -- a call with the place k is somewhere
  found : (k : ℕ) (xs : List (ℕ × E)) → 0 < times k xs → (i : ℕ) × (c : ℕ × E) × (slice_get xs i ≡ Some c) × (c.0 ≡ k)
  found k [] h = absurd (omega arith)
  found k (x ∷ xs) h = dite (ℕ_discrete x.0 k)
      (λ same. (0, x, refl, same))
      (λ other. let none : here x.0 k ≡ 0 = rw (ne_eqb x.0 k other) refl in
      let all : times k (x ∷ xs) ≡ here x.0 k + times k xs = sum_by-cons (λ (c : ℕ × E). here c.0 k) x xs in
      let t = found k xs (omega arith) in (suc t.0, t.1, t.2, t.3))

  at_is : (xs : List (ℕ × E)) (i : ℕ) (c : ℕ × E) → slice_get xs i ≡ Some c → (i < length xs) × (c ≡ get_or xs i c)
  at_is [] i c e = absurd (cc)
  at_is (x ∷ xs) zero c e = (omega arith, cc)
  at_is (x ∷ xs) (suc i) c e = let t = at_is xs i c e in (omega (arith, t.0), t.1)

  removed : (xs : List (ℕ × E)) (i k : ℕ) (c : ℕ × E) → slice_get (remove xs i) k ≡ Some c → Has xs c
  removed [] zero k c e = absurd (cc)
  removed [] (suc i) k c e = absurd (cc)
  removed (x ∷ xs) zero k c e = (suc k, e)
  removed (x ∷ xs) (suc i) zero c e = (0, e)
  removed (x ∷ xs) (suc i) (suc k) c e = let t = removed xs i k c e in (suc t.0, t.1)

  counted : (xs : List (ℕ × E)) (i k : ℕ) (c : ℕ × E) → slice_get xs i ≡ Some c → c.0 ≡ k → 0 < times k xs
  counted [] i k c e p = absurd (cc)
  counted (x ∷ xs) zero k c e p =
      let same : x ≡ c = cc in
      let one : here x.0 k ≡ 1 = rw (eq-eqb x.0 k (ap (λ (y : ℕ × E). y.0) same ∙ p)) refl in
      let all : times k (x ∷ xs) ≡ here x.0 k + times k xs = sum_by-cons (λ (c : ℕ × E). here c.0 k) x xs in omega arith
  counted (x ∷ xs) (suc i) k c e p =
      let all : times k (x ∷ xs) ≡ here x.0 k + times k xs = sum_by-cons (λ (c : ℕ × E). here c.0 k) x xs in
      let more = counted xs i k c e p in omega arith

  pub permutes : (n : ℕ) (es : List E) (mine : List (ℕ × E)) → ((c : ℕ × E) → Has mine c → (n ≤ c.0) × (slice_get es (c.0 - n) ≡ Some c.1)) → ((k : ℕ) → n ≤ k → k < n + length es → times k mine ≡ 1) → IsPermutation mine (placed n es)
  permutes n [] [] there once = IsPermutation-refl []
  permutes n [] (x ∷ xs) there once = let t = (there x (0, refl)).1 in absurd (cc)
  permutes n (e ∷ es) mine there once =
      let h : 0 < times n mine = let o = once n (omega arith) (omega arith) in omega arith in
      let f = found n mine h in
      let i : ℕ = f.0 in
      let c : ℕ × E = f.1 in
      let a = at_is mine i c f.2 in
      let from_start : c.0 - n ≡ 0 = omega (arith, f.3) in
      let first : Some e ≡ Some c.1 = sym (ap (slice_get (e ∷ es)) from_start) ∙ (there c (i, f.2)).1 in
      let value : c.1 ≡ e = cc in
      let is : ◌≡◌ {A = ℕ × E} c (n, e) = λ j. (f.3 j, value j) in
      let others : List (ℕ × E) = remove mine i in
      let less : (k : ℕ) → times k others + here c.0 k ≡ times k mine = λ k. ap (λ (y : ℕ × E). times k others + here y.0 k) a.1 ∙ sum_by-remove (λ (c : ℕ × E). here c.0 k) mine i c a.0 in
      let none_left : times n others ≡ 0 =
      let one : here c.0 n ≡ 1 = rw (eq-eqb c.0 n f.3) refl in
      let o = once n (omega arith) (omega arith) in
      let l = less n in omega arith in
      let rest : IsPermutation others (placed (suc n) es) = permutes (suc n) es others
      (λ d p. let was = removed mine i p.0 d p.1 in
      let t = there d was in
      let low : n ≤ d.0 = t.0 in
      let far : d.0 ≢ n = λ (z : d.0 ≡ n). let l = counted others p.0 n d p.1 z in omega arith in
      let up : suc n ≤ d.0 = omega arith in
      let shift : d.0 - n ≡ suc (d.0 - suc n) = omega arith in
      (up, sym (ap (slice_get (e ∷ es)) shift) ∙ t.1))
      (λ k l m. let o = once k (omega arith) (omega arith) in
      let none : here c.0 k ≡ 0 = rw (ne_eqb c.0 k (λ (z : c.0 ≡ k). let s = f.3 in omega arith)) refl in
      let s = less k in omega arith) in
      IsPermutation-trans mine (c ∷ others) ((n, e) ∷ placed (suc n) es)
      (IsPermutation-remove mine i c a.0 a.1)
      (subst (λ (x : ℕ × E). IsPermutation (c ∷ others) (x ∷ placed (suc n) es)) is (IsPermutation-cons c others (placed (suc n) es) rest))

  -- a sum over what was placed
  pub sum_placed : (f : E → ℕ) (n : ℕ) (es : List E) → sum_by (λ (c : ℕ × E). f c.1) (placed n es) ≡ sum_by f es
  sum_placed f n [] = refl
  sum_placed f n (e ∷ es) = let h = sum_placed f (suc n) es in
      omega (arith, sum_by-cons (λ (c : ℕ × E). f c.1) (n, e) (placed (suc n) es), sum_by-cons f e es, h)

module _ {S O E : Type 0} (opening_of : S → O) (entries_of : S → List E) where
  get_drop : (n k : ℕ) (xs : List E) (x : E) → n ≤ k → slice_get xs k ≡ Some x → slice_get (drop n xs) (k - n) ≡ Some x
  get_drop zero k xs x l e = ap (slice_get xs) (omega arith) ∙ e
  get_drop (suc n) zero xs x l e = absurd (omega arith)
  get_drop (suc n) (suc k) [] x l e = absurd (cc)
  get_drop (suc n) (suc k) (y ∷ ys) x l e = let same : suc k - suc n ≡ k - n = omega arith in ap (slice_get (drop n ys)) same ∙ get_drop n k ys x (omega arith) e

  -- the calls of the pass are, in some order, what was added since the beginning
  pub all_mine : (v : View O E) (state : S) → Closes opening_of entries_of v state → v.start ≤ length (entries_of state) → IsPermutation v.mine (placed v.start (drop v.start (entries_of state)))
  all_mine v state c begun = permutes v.start (drop v.start (entries_of state)) v.mine
      (λ d h. let low : v.start ≤ d.0 = dite (dec_le v.start d.0) (λ l. l) (λ g. let z = c.before d.0 (omega arith) in let p = counted v.mine h.0 d.0 d h.1 refl in absurd (omega arith)) in
      (low, get_drop v.start d.0 (entries_of state) d.1 low (c.stands d h)))
      (λ k l m. c.once k l (let s = length-drop v.start (entries_of state) in omega arith))
