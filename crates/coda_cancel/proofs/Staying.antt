-- Records in front of the first that goes stay as they are.
use Rattle.std.proofs.Common.{◌≡◌, ℕ, ◌<◌, Bool, true, false, cond, List, [], ◌∷◌, Option, Some, None, refl, sym, ap, ◌∙◌, subst, arith, inl, inr, ◌⊎◌}
use Rattle.std.specs.Option.{IfSome, is_some}
use Rattle.std.specs.Prelude.{nat_le}
use Rattle.std.proofs.lemmas.Bool.{true≢false, lt-leb, leb-true, leb-false}
use Rattle.coda_fid.specs.declared.fid.Fid.{Fid}
use Rattle.coda_fid.specs.declared.op.Op.{Op}
use Rattle.coda_fid.specs.declared.op.Record.{Record}
use Rattle.coda_fid.specs.Op.{carried}
use Rattle.coda_cancel.specs.Cancel.{kept, debt}
use Rattle.coda_cancel.specs.Handing.{nothing, owe, paid, hand}
use Rattle.coda_cancel.specs.Mentions.{is_upto, NoneBeyond}
use Rattle.coda_cancel.specs.Numbers.{numbers, lesser, least, IsRising}
use Rattle.coda_cancel.proofs.Debts.{hand-nothing, paid-nothing}
use Rattle.coda_cancel.proofs.Walks.{upto, beyond, none_passed, IsQuiet, end_quiet}

-- none of the records goes
abbrev pub AllStay : (Op → Bool) → List Record → Type 0
AllStay t [] = Unit {0}
AllStay t (r ∷ rs) = (t r.op ≡ false) × AllStay t rs

pub kept_stay : (t : Op → Bool) (rs : List Record) → AllStay t rs → kept t nothing rs ≡ rs
kept_stay t [] h = refl
kept_stay t (r ∷ rs) h = ap (λ b. cond b (kept t (owe nothing (carried r.op)) rs) (hand nothing r ∷ kept t (paid nothing (carried r.op)) rs)) h.0
    ∙ (λ i. hand-nothing r i ∷ kept t (paid-nothing (carried r.op) i) rs) ∙ ap (λ l. r ∷ l) (kept_stay t rs h.1)

pub debt_stay : (t : Op → Bool) (rs : List Record) → AllStay t rs → debt t nothing rs ≡ nothing
debt_stay t [] h = refl
debt_stay t (r ∷ rs) h = ap (λ b. cond b (debt t (owe nothing (carried r.op)) rs) (debt t (paid nothing (carried r.op)) rs)) h.0
    ∙ ap (λ d. debt t d rs) (paid-nothing (carried r.op)) ∙ debt_stay t rs h.1

-- ---- by the least number that goes

pub none_go : (t : Op → Bool) (rs : List Record) → least (numbers t rs) ≡ None → AllStay t rs
none_go t [] h = tt
none_go t (r ∷ rs) h = go (t r.op) refl h (λ e. none_go t rs e)
  where
    go : (b : Bool) → t r.op ≡ b → least (cond b (r.number ∷ numbers t rs) (numbers t rs)) ≡ None → (least (numbers t rs) ≡ None → AllStay t rs) → (t r.op ≡ false) × AllStay t rs
    go true e h more = absurd (true≢false (ap is_some h))
    go false e h more = (e, more h)

abbrev AreNumbersAbove : ℕ → List ℕ → Type 0
AreNumbersAbove k [] = Unit {0}
AreNumbersAbove k (n ∷ ns) = (k < n) × AreNumbersAbove k ns

least_above : (k : ℕ) (ns : List ℕ) → IfSome (least ns) (λ n. k < n) → AreNumbersAbove k ns
least_above k [] h = tt
least_above k (n ∷ ns) h = go (least ns) h (λ h. least_above k ns h)
  where
    pick : (m : ℕ) (b : Bool) → nat_le n m ≡ b → k < cond b n m → (k < n) × (k < m)
    pick m true e l = (l, omega (arith, l, leb-true n m e))
    pick m false e l = (omega (arith, l, leb-false n m e), l)

    go : (o : Option ℕ) → k < lesser n o → (IfSome o (λ n. k < n) → AreNumbersAbove k ns) → (k < n) × AreNumbersAbove k ns
    go None l more = (l, more tt)
    go (Some m) l more = let both = pick m (nat_le n m) refl l in (both.0, more both.1)

above_stay : (t : Op → Bool) (k : ℕ) (rs : List Record) → AreNumbersAbove k (numbers t rs) → AllStay t (upto (Some k) rs)
above_stay t k [] h = tt
above_stay t k (r ∷ rs) h = go (t r.op) refl h (λ h. above_stay t k rs h)
  where
    pick : (c : Bool) → t r.op ≡ false → AllStay t (upto (Some k) rs) → AllStay t (cond c (r ∷ upto (Some k) rs) [])
    pick true e rest = (e, rest)
    pick false e rest = tt

    go : (b : Bool) → t r.op ≡ b → AreNumbersAbove k (cond b (r.number ∷ numbers t rs) (numbers t rs)) → (AreNumbersAbove k (numbers t rs) → AllStay t (upto (Some k) rs)) → AllStay t (cond (nat_le r.number k) (r ∷ upto (Some k) rs) [])
    go true e h more = subst (λ c. AllStay t (cond c (r ∷ upto (Some k) rs) [])) (sym (lt-leb r.number k h.0)) tt
    go false e h more = pick (nat_le r.number k) e (more h)

-- what is in front of the least that goes stays
pub front_stays : (t : Op → Bool) (rs : List Record) (n : ℕ) (a : Option ℕ) → least (numbers t rs) ≡ Some n → IfSome a (λ k. k < n) → AllStay t (upto a rs)
front_stays t rs n None e h = subst (AllStay t) (sym (none_passed rs)) tt
front_stays t rs n (Some k) e h = above_stay t k rs (least_above k (numbers t rs) (subst (λ o. IfSome o (λ n. k < n)) (sym e) h))

-- ---- by the last that mentions the object

-- where the walk ended nothing is left, whether it was at the last or there was none
pub left_quiet : (rs : List Record) (a end : Option ℕ) (f : Fid) → IsRising rs → NoneBeyond rs f end → (Absent : Type 0) → (Absent → IsQuiet f (beyond a rs)) → (a ≡ end) ⊎ Absent → IsQuiet f (beyond a rs)
left_quiet rs a end f rising beyond_end none quiet (inl e) = end_quiet f a rs rising (λ n after within. beyond_end n (subst (λ o. is_upto o n ≡ false) e after))
left_quiet rs a end f rising beyond_end none quiet (inr h) = quiet h
