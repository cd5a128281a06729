-- which segments are joined: a count of the records with small numbers
use Rattle.std.proofs.Common.{◌≡◌, ℕ, ◌+◌, ◌≤◌, ◌<◌, Bool, true, false, cond, List, [], ◌∷◌, ◌++◌, refl, sym, ap, ◌∙◌, subst, leb, inl, inr, not, arith, length}
use Rattle.std.proofs.lemmas.Bool.{le-leb, lt-leb}
use Rattle.coda_fid.specs.declared.fid.Fid.{Fid}
use Rattle.coda_fid.specs.declared.op.Op.{Op}
use Rattle.coda_fid.specs.declared.op.Record.{Record}
use Rattle.coda_fid.specs.Op.{carried}
use Rattle.coda_cancel.specs.Handing.{Debt, hand, nothing, owe, paid}
use Rattle.coda_cancel.specs.Dropping.{drops, mentioning}
use Rattle.coda_cancel.specs.Cancel.{add, added, appended, cancels, debt, kept, object, without}
use Rattle.coda_cancel.specs.Numbers.{AreAbove, dropped, numbers}
use Rattle.coda_cml.specs.Segments.{records_upto}
use Rattle.coda_cml.proofs.runs.InStep.{add_goes, add_stays}
use Rattle.coda_cml.proofs.runs.JoinedNumbers.{In, IsJoined}

abbrev all_op : Op → Bool
all_op o = true

-- all numbers of a list
abbrev nums : List Record → List ℕ
nums rs = numbers all_op rs

abbrev left_out : (Op → Bool) → Op → Bool
left_out t o = not (t o)

nums-kept : (p : Op → Bool) (d : Debt) (rs : List Record) → nums (kept p d rs) ≡ numbers (left_out p) rs
nums-kept p d [] = refl
nums-kept p d (r ∷ rs) = go (p r.op) (nums-kept p (owe d (carried r.op)) rs) (nums-kept p (paid d (carried r.op)) rs)
  where
    go : (b : Bool) → nums (kept p (owe d (carried r.op)) rs) ≡ numbers (left_out p) rs → nums (kept p (paid d (carried r.op)) rs) ≡ numbers (left_out p) rs → nums (cond b (kept p (owe d (carried r.op)) rs) (hand d r ∷ kept p (paid d (carried r.op)) rs)) ≡ cond (not b) (r.number ∷ numbers (left_out p) rs) (numbers (left_out p) rs)
    go true x y = x
    go false x y = ap (λ l. r.number ∷ l) y

nums-without : (f : Fid) (rs : List Record) → nums (without f rs) ≡ numbers (left_out (mentioning f)) rs
nums-without f [] = refl
nums-without f (r ∷ rs) = go (mentioning f r.op) (nums-without f rs)
  where
    go : (b : Bool) → nums (without f rs) ≡ numbers (left_out (mentioning f)) rs → nums (cond b (without f rs) (r ∷ without f rs)) ≡ cond (not b) (r.number ∷ numbers (left_out (mentioning f)) rs) (numbers (left_out (mentioning f)) rs)
    go true x = x
    go false x = ap (λ l. r.number ∷ l) x

nums-append : (rs os : List Record) → nums (rs ++ os) ≡ nums rs ++ nums os
nums-append [] os = refl
nums-append (r ∷ rs) os = ap (λ l. r.number ∷ l) (nums-append rs os)

module _ (j : ℕ) where
  low : List ℕ → ℕ
  low [] = 0
  low (x ∷ xs) = cond (leb x j) 1 0 + low xs

  low-append : (xs ys : List ℕ) → low (xs ++ ys) ≡ low xs + low ys
  unfolding low
  low-append [] ys = omega arith
  low-append (x ∷ xs) ys = let e = low-append xs ys in omega arith

  low_in : (i : ℕ) (xs : List ℕ) → In i xs → i ≤ j → 1 ≤ low xs
  unfolding low
  low_in i [] h k = absurd h
  low_in i (x ∷ xs) (inl e) k = let c : leb x j ≡ true = le-leb x j (subst (λ y. y ≤ j) e k) in rw c (omega arith)
  low_in i (x ∷ xs) (inr h) k = let m = low_in i xs h k in omega arith

  -- those that pass and those that don't
  low_parts : (t : Op → Bool) (rs : List Record) → low (numbers (left_out t) rs) + low (numbers t rs) ≡ low (nums rs)
  unfolding low
  low_parts t [] = refl
  low_parts t (r ∷ rs) = go (t r.op) (low_parts t rs)
    where
      go : (b : Bool) → low (numbers (left_out t) rs) + low (numbers t rs) ≡ low (nums rs) → low (cond (not b) (r.number ∷ numbers (left_out t) rs) (numbers (left_out t) rs)) + low (cond b (r.number ∷ numbers t rs) (numbers t rs)) ≡ cond (leb r.number j) 1 0 + low (nums rs)
      go true e = omega arith
      go false e = omega arith

  low-one : (o : Record) → j < o.number → low (o.number ∷ []) ≡ 0
  unfolding low
  low-one o h = rw (lt-leb o.number j h)

  -- what an operation with a greater number leaves, and what it drops
  low-add : (rs : List Record) (o : Record) → j < o.number → low (nums (add rs o)) + low (dropped rs o) ≡ low (nums rs)
  low-add rs o h = go (cancels o.op rs) refl
    where
      go : (c : Bool) → cancels o.op rs ≡ c → low (nums (add rs o)) + low (dropped rs o) ≡ low (nums rs)
      go true e = (λ i. low (nums (add_goes rs o e i)) + low (cond (e i) (numbers (mentioning (object (carried o.op))) rs) (numbers (drops o.op) rs)))
          ∙ ap (λ l. low l + low (numbers (mentioning (object (carried o.op))) rs)) (nums-without (object (carried o.op)) rs) ∙ low_parts (mentioning (object (carried o.op))) rs
      go false e =
          let a : low (nums (appended rs o)) ≡ low (numbers (left_out (drops o.op)) rs) + low (o.number ∷ []) = ap low (nums-append (kept (drops o.op) nothing rs) (hand (debt (drops o.op) nothing rs) o ∷ []) ∙ ap (λ l. l ++ (o.number ∷ [])) (nums-kept (drops o.op) nothing rs)) ∙ low-append (numbers (left_out (drops o.op)) rs) (o.number ∷ []) in
          let b = low-one o h in let c = low_parts (drops o.op) rs in
          (λ i. low (nums (add_stays rs o e i)) + low (cond (e i) (numbers (mentioning (object (carried o.op))) rs) (numbers (drops o.op) rs))) ∙ omega arith

  low_falls : (rs os : List Record) → AreAbove j os → low (nums (added rs os)) ≤ low (nums rs)
  low_falls rs [] a = omega arith
  low_falls rs (o ∷ os) a = let e = low-add rs o a.0 in let m = low_falls (add rs o) os a.1 in omega arith

  low_joined : (rs os : List Record) → AreAbove j os → IsJoined j rs os → low (nums (added rs os)) < low (nums rs)
  low_joined rs [] a x = absurd x
  low_joined rs (o ∷ os) a (inl x) = let e = low-add rs o a.0 in let m = low_falls (add rs o) os a.1 in let k = low_in x.0 (dropped rs o) x.1 x.2 in omega arith
  low_joined rs (o ∷ os) a (inr x) = let e = low-add rs o a.0 in let m = low_joined (add rs o) os a.1 x in omega arith

  low-records_upto : (rs : List Record) → low (nums rs) ≡ length (records_upto j rs)
  unfolding low
  low-records_upto [] = refl
  low-records_upto (r ∷ rs) = go (leb r.number j) (low-records_upto rs)
    where
      go : (b : Bool) → low (nums rs) ≡ length (records_upto j rs) → cond b 1 0 + low (nums rs) ≡ length (cond b (r ∷ records_upto j rs) (records_upto j rs))
      go true e = omega arith
      go false e = omega arith

  -- what stays as it is was not joined
  pub not_joined : (rs os : List Record) → AreAbove j os → records_upto j (added rs os) ≡ records_upto j rs → IsJoined j rs os → ⊥
  not_joined rs os a e x = let m = low_joined rs os a x in let l : low (nums (added rs os)) ≡ low (nums rs) = low-records_upto (added rs os) ∙ ap length e ∙ sym (low-records_upto rs) in omega arith
