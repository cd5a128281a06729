-- The records that are left of a run have its numbers, in its order.
use Rattle.std.proofs.Common.{◌≡◌, ℕ, ◌<◌, Bool, List, [], ◌∷◌, ◌++◌, ◌⊎◌, inl, inr, refl, sym, ap, subst, append_assoc}
use Rattle.std.proofs.lemmas.Bool.{cond_both}
use Rattle.coda_fid.specs.declared.fid.Fid.{Fid}
use Rattle.coda_fid.specs.declared.op.Op.{Op}
use Rattle.coda_fid.specs.declared.op.Record.{Record}
use Rattle.coda_fid.specs.Op.{carried}
use Rattle.coda_cancel.specs.Handing.{Debt, nothing, owe, paid, hand}
use Rattle.coda_cancel.specs.Dropping.{mentioning, drops}
use Rattle.coda_cancel.specs.Cancel.{kept, debt, without, cancels, object, appended, add, added, fold}
use Rattle.coda_cancel.specs.Numbers.{AreAbove}
use Rattle.coda_cml.proofs.runs.AlmostAlike.{append_nil}

-- each record has the number of an operation, in the order of the run
abbrev pub IsLeft : List Record → List Record → Type 0
IsLeft ks [] = ks ≡ []
IsLeft ks (o ∷ os) = IsLeft ks os ⊎ ((k : Record) × (rest : List Record) × (ks ≡ k ∷ rest) × (k.number ≡ o.number) × IsLeft rest os)

left_push : (ks os : List Record) (k o : Record) → k.number ≡ o.number → IsLeft ks os → IsLeft (ks ++ k ∷ []) (os ++ o ∷ [])
left_push ks [] k o n h = inr (k, [], ap (λ l. l ++ k ∷ []) h, n, refl)
left_push ks (p ∷ os) k o n (inl h) = inl (left_push ks os k o n h)
left_push ks (p ∷ os) k o n (inr h) = inr (h.0, h.1 ++ k ∷ [], ap (λ l. l ++ k ∷ []) h.2, h.3, left_push h.1 os k o n h.4)

left_gone : (ks os : List Record) (o : Record) → IsLeft ks os → IsLeft ks (os ++ o ∷ [])
left_gone ks [] o h = inl h
left_gone ks (p ∷ os) o (inl h) = inl (left_gone ks os o h)
left_gone ks (p ∷ os) o (inr h) = inr (h.0, h.1, h.2, h.3, left_gone h.1 os o h.4)

left_kept : (t : Op → Bool) (d : Debt) (ks os : List Record) → IsLeft ks os → IsLeft (kept t d ks) os
left_kept t d ks [] h = ap (kept t d) h
left_kept t d ks (o ∷ os) (inl h) = inl (left_kept t d ks os h)
left_kept t d ks (o ∷ os) (inr h) = subst (λ l. IsLeft (kept t d l) (o ∷ os)) (sym h.2)
    (cond_both (t h.0.op) (kept t (owe d (carried h.0.op)) h.1) (hand d h.0 ∷ kept t (paid d (carried h.0.op)) h.1) (λ l. IsLeft l (o ∷ os))
    (λ e. inl (left_kept t (owe d (carried h.0.op)) h.1 os h.4))
    (λ e. inr (hand d h.0, kept t (paid d (carried h.0.op)) h.1, refl, h.3, left_kept t (paid d (carried h.0.op)) h.1 os h.4)))

left_without : (f : Fid) (ks os : List Record) → IsLeft ks os → IsLeft (without f ks) os
left_without f ks [] h = ap (without f) h
left_without f ks (o ∷ os) (inl h) = inl (left_without f ks os h)
left_without f ks (o ∷ os) (inr h) = subst (λ l. IsLeft (without f l) (o ∷ os)) (sym h.2)
    (cond_both (mentioning f h.0.op) (without f h.1) (h.0 ∷ without f h.1) (λ l. IsLeft l (o ∷ os))
    (λ e. inl (left_without f h.1 os h.4))
    (λ e. inr (h.0, without f h.1, refl, h.3, left_without f h.1 os h.4)))

-- all of it may be left
pub left_same : (ks : List Record) → IsLeft ks ks
left_same [] = refl
left_same (k ∷ ks) = inr (k, ks, refl, refl, left_same ks)

pub left_add : (ks os : List Record) (o : Record) → IsLeft ks os → IsLeft (add ks o) (os ++ o ∷ [])
left_add ks os o h = cond_both (cancels o.op ks) (without (object (carried o.op)) ks) (appended ks o) (λ l. IsLeft l (os ++ o ∷ []))
    (λ e. left_gone (without (object (carried o.op)) ks) os o (left_without (object (carried o.op)) ks os h))
    (λ e. left_push (kept (drops o.op) nothing ks) os (hand (debt (drops o.op) nothing ks) o) o refl (left_kept (drops o.op) nothing ks os h))

pub left_added : (ks before os : List Record) → IsLeft ks before → IsLeft (added ks os) (before ++ os)
left_added ks before [] h = subst (IsLeft ks) (sym (append_nil before)) h
left_added ks before (o ∷ os) h = subst (IsLeft (added (add ks o) os)) (append_assoc before (o ∷ []) os) (left_added (add ks o) (before ++ o ∷ []) os (left_add ks before o h))

-- what is left of a run
pub left_fold : (os : List Record) → IsLeft (fold os) os
left_fold os = left_added [] [] os refl

-- it is above what the run is above
pub left_above : (n : ℕ) (ks os : List Record) → IsLeft ks os → AreAbove n os → AreAbove n ks
left_above n ks [] h a = subst (AreAbove n) (sym h) tt
left_above n ks (o ∷ os) (inl h) a = left_above n ks os h a.1
left_above n ks (o ∷ os) (inr h) a = subst (AreAbove n) (sym h.2) (subst (λ m. n < m) (sym h.3) a.0, left_above n h.1 os h.4 a.1)
