-- Numbers that rise.
use Rattle.std.proofs.Common.{◌≡◌, ℕ, suc, zero, ◌<◌, ◌≤◌, Bool, true, false, cond, List, [], ◌∷◌, ◌++◌, Option, Some, None, refl, sym, ap, ◌∙◌, arith, drop, take, get_or, length, subst, drop-cons}
use Rattle.std.specs.Prelude.{nat_le}
use Rattle.std.proofs.lemmas.Bool.{cond_both}
use Rattle.std.proofs.lemmas.Bool.Decides.{nat_tests}
use Rattle.coda_fid.specs.declared.fid.Fid.{Fid}
use Rattle.coda_fid.specs.declared.op.Op.{Op}
use Rattle.coda_fid.specs.declared.op.Record.{Record}
use Rattle.coda_fid.specs.Op.{carried}
use Rattle.coda_cancel.specs.Handing.{Debt, owe, paid, hand}
use Rattle.coda_cancel.specs.Dropping.{mentioning, drops}
use Rattle.coda_cancel.specs.Cancel.{kept, debt, without, cancels, object, appended, add}
use Rattle.coda_cancel.specs.Numbers.{numbers, lesser, least, AreBelow, AreUpTo, AreAbove, IsRising}

less_chosen : (n a : ℕ) → n < a → (o : Option ℕ) → lesser n o ≡ n → lesser n (Some (lesser a o)) ≡ n
less_chosen n a h None e = grind (arith, nat_tests)
less_chosen n a h (Some k) e = go (nat_le a k) (nat_le n k) refl refl e
  where
    go : (b d : Bool) → nat_le a k ≡ b → nat_le n k ≡ d → cond d n k ≡ n → cond (nat_le n (cond b a k)) n (cond b a k) ≡ n
    go true d eb ed e = grind (arith, nat_tests)
    go false true eb ed e = ap (λ x. cond x n k) ed
    go false false eb ed e = grind (arith, nat_tests)

-- a number below all numbers is the least
pub least_is_first : (n : ℕ) (t : Op → Bool) (rs : List Record) → AreAbove n rs → lesser n (least (numbers t rs)) ≡ n
least_is_first n t [] h = refl
least_is_first n t (r ∷ rs) h = go (t r.op) (least_is_first n t rs h.1)
  where
    go : (b : Bool) → lesser n (least (numbers t rs)) ≡ n → lesser n (least (cond b (r.number ∷ numbers t rs) (numbers t rs))) ≡ n
    go true rest = less_chosen n r.number h.0 (least (numbers t rs)) rest
    go false rest = rest

-- of rising records the first that passes has the least number
pub least_found : (t : Op → Bool) (r : Record) (rs : List Record) → IsRising (r ∷ rs) → t r.op ≡ true → least (numbers t (r ∷ rs)) ≡ Some r.number
least_found t r rs h e = ap (λ b. least (cond b (r.number ∷ numbers t rs) (numbers t rs))) e ∙ ap Some (least_is_first r.number t rs h.0)

pub rising_drop : (k : ℕ) (rs : List Record) → IsRising rs → IsRising (drop k rs)
rising_drop zero rs h = h
rising_drop (suc k) [] h = tt
rising_drop (suc k) (r ∷ rs) h = rising_drop k rs h.1

above_take : (n k : ℕ) (rs : List Record) → AreAbove n rs → AreAbove n (take k rs)
above_take n zero rs h = tt
above_take n (suc k) [] h = tt
above_take n (suc k) (r ∷ rs) h = (h.0, above_take n k rs h.1)

pub rising_take : (k : ℕ) (rs : List Record) → IsRising rs → IsRising (take k rs)
rising_take zero rs h = tt
rising_take (suc k) [] h = tt
rising_take (suc k) (r ∷ rs) h = (above_take r.number k rs h.0, rising_take k rs h.1)

-- ---- what is left rises

pub above_kept : (n : ℕ) (t : Op → Bool) (d : Debt) (rs : List Record) → AreAbove n rs → AreAbove n (kept t d rs)
above_kept n t d [] h = tt
above_kept n t d (r ∷ rs) h = cond_both (t r.op) (kept t (owe d (carried r.op)) rs) (hand d r ∷ kept t (paid d (carried r.op)) rs) (AreAbove n) (λ e. above_kept n t (owe d (carried r.op)) rs h.1) (λ e. (h.0, above_kept n t (paid d (carried r.op)) rs h.1))

pub below_kept : (n : ℕ) (t : Op → Bool) (d : Debt) (rs : List Record) → AreBelow n rs → AreBelow n (kept t d rs)
below_kept n t d [] h = tt
below_kept n t d (r ∷ rs) h = cond_both (t r.op) (kept t (owe d (carried r.op)) rs) (hand d r ∷ kept t (paid d (carried r.op)) rs) (AreBelow n) (λ e. below_kept n t (owe d (carried r.op)) rs h.1) (λ e. (h.0, below_kept n t (paid d (carried r.op)) rs h.1))

pub rising_kept : (t : Op → Bool) (d : Debt) (rs : List Record) → IsRising rs → IsRising (kept t d rs)
rising_kept t d [] h = tt
rising_kept t d (r ∷ rs) h = cond_both (t r.op) (kept t (owe d (carried r.op)) rs) (hand d r ∷ kept t (paid d (carried r.op)) rs) IsRising (λ e. rising_kept t (owe d (carried r.op)) rs h.1) (λ e. (above_kept r.number t (paid d (carried r.op)) rs h.0, rising_kept t (paid d (carried r.op)) rs h.1))

pub above_without : (n : ℕ) (f : Fid) (rs : List Record) → AreAbove n rs → AreAbove n (without f rs)
above_without n f [] h = tt
above_without n f (r ∷ rs) h = cond_both (mentioning f r.op) (without f rs) (r ∷ without f rs) (AreAbove n) (λ e. above_without n f rs h.1) (λ e. (h.0, above_without n f rs h.1))

pub below_without : (n : ℕ) (f : Fid) (rs : List Record) → AreBelow n rs → AreBelow n (without f rs)
below_without n f [] h = tt
below_without n f (r ∷ rs) h = cond_both (mentioning f r.op) (without f rs) (r ∷ without f rs) (AreBelow n) (λ e. below_without n f rs h.1) (λ e. (h.0, below_without n f rs h.1))

pub rising_without : (f : Fid) (rs : List Record) → IsRising rs → IsRising (without f rs)
rising_without f [] h = tt
rising_without f (r ∷ rs) h = cond_both (mentioning f r.op) (without f rs) (r ∷ without f rs) IsRising (λ e. rising_without f rs h.1) (λ e. (above_without r.number f rs h.0, rising_without f rs h.1))

above_push : (n : ℕ) (rs : List Record) (o : Record) → AreAbove n rs → n < o.number → AreAbove n (rs ++ o ∷ [])
above_push n [] o h l = (l, tt)
above_push n (r ∷ rs) o h l = (h.0, above_push n rs o h.1 l)

pub rising_push : (rs : List Record) (o : Record) → IsRising rs → AreBelow o.number rs → IsRising (rs ++ o ∷ [])
rising_push [] o h l = (tt, tt)
rising_push (r ∷ rs) o h l = (above_push r.number rs o h.0 l.0, rising_push rs o h.1 l.1)

-- after an operation of a greater number the numbers rise
pub rising_add : (rs : List Record) (o : Record) → IsRising rs → AreBelow o.number rs → IsRising (add rs o)
rising_add rs o h l = cond_both (cancels o.op rs) (without (object (carried o.op)) rs) (appended rs o) IsRising
    (λ e. rising_without (object (carried o.op)) rs h)
    (λ e. rising_push (kept (drops o.op) (λ f. None) rs) (hand (debt (drops o.op) (λ f. None) rs) o) (rising_kept (drops o.op) (λ f. None) rs h) (below_kept o.number (drops o.op) (λ f. None) rs l))

-- where a scan meets the first record that passes
pub least_at : (t : Op → Bool) (k : ℕ) (rs : List Record) (r : Record) → r ≡ get_or rs k r → k < length rs → IsRising (drop k rs) → numbers t (drop k rs) ≡ numbers t rs → t r.op ≡ true → least (numbers t rs) ≡ Some r.number
least_at t k rs r is l h same e =
    let found : drop k rs ≡ r ∷ drop (suc k) rs = drop-cons rs k r l ∙ ap (λ x. x ∷ drop (suc k) rs) (sym is) in
    ap least (sym same ∙ ap (numbers t) found) ∙ least_found t r (drop (suc k) rs) (subst IsRising found h) e

-- ---- a rising list and what comes behind it

pub rising_before : (rs : List Record) (o : Record) (os : List Record) → IsRising (rs ++ o ∷ os) → IsRising rs × AreBelow o.number rs
rising_before [] o os h = (tt, tt)
rising_before (r ∷ rs) o os h = let rest = rising_before rs o os h.1 in ((above_before r.number rs (o ∷ os) h.0, rest.0), (above_at r.number rs o os h.0, rest.1))
  where
    above_before : (n : ℕ) (rs os : List Record) → AreAbove n (rs ++ os) → AreAbove n rs
    above_before n [] os h = tt
    above_before n (r ∷ rs) os h = (h.0, above_before n rs os h.1)

    above_at : (n : ℕ) (rs : List Record) (o : Record) (os : List Record) → AreAbove n (rs ++ o ∷ os) → n < o.number
    above_at n [] o os h = h.0
    above_at n (r ∷ rs) o os h = above_at n rs o os h.1

pub rising_behind : (rs os : List Record) → IsRising (rs ++ os) → IsRising os
rising_behind [] os h = h
rising_behind (r ∷ rs) os h = rising_behind rs os h.1

pub above_more : (n m : ℕ) → n ≤ m → (rs : List Record) → AreAbove m rs → AreAbove n rs
above_more n m l [] h = tt
above_more n m l (r ∷ rs) h = (omega (arith, h.0), above_more n m l rs h.1)

pub above_both : (n : ℕ) (rs os : List Record) → AreAbove n rs → AreAbove n os → AreAbove n (rs ++ os)
above_both n [] os a b = b
above_both n (r ∷ rs) os a b = (a.0, above_both n rs os a.1 b)

-- where the one list goes up to a number, and the other is above it
pub rising_both : (n : ℕ) (rs os : List Record) → IsRising rs → AreUpTo n rs → IsRising os → AreAbove n os → IsRising (rs ++ os)
rising_both n [] os a b d e = d
rising_both n (r ∷ rs) os a b d e = (above_both r.number rs os a.0 (above_more r.number n b.0 os e), rising_both n rs os a.1 b.1 d e)

pub upto_push : (n : ℕ) (rs : List Record) (o : Record) → AreBelow n rs → o.number ≡ n → AreUpTo n (rs ++ o ∷ [])
upto_push n [] o h e = (omega arith, tt)
upto_push n (r ∷ rs) o h e = (omega (arith, h.0), upto_push n rs o h.1 e)

pub below_upto : (n : ℕ) (rs : List Record) → AreBelow n rs → AreUpTo n rs
below_upto n [] h = tt
below_upto n (r ∷ rs) h = (omega (arith, h.0), below_upto n rs h.1)

-- after an operation no number is above its own
pub upto_add : (rs : List Record) (o : Record) → AreBelow o.number rs → AreUpTo o.number (add rs o)
upto_add rs o l = cond_both (cancels o.op rs) (without (object (carried o.op)) rs) (appended rs o) (AreUpTo o.number)
    (λ e. below_upto o.number _ (below_without o.number (object (carried o.op)) rs l))
    (λ e. upto_push o.number (kept (drops o.op) (λ f. None) rs) (hand (debt (drops o.op) (λ f. None) rs) o) (below_kept o.number (drops o.op) (λ f. None) rs l) refl)

-- one more operation is added
pub rising_step : (rs : List Record) (o : Record) (os : List Record) → IsRising (rs ++ o ∷ os) → IsRising (add rs o ++ os)
rising_step rs o os h =
    let here = rising_before rs o os h in
    let later = rising_behind rs (o ∷ os) h in
    rising_both o.number (add rs o) os (rising_add rs o here.0 here.1) (upto_add rs o here.1) later.1 later.0
