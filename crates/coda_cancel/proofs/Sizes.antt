-- A list that an operation was added to, by how many records it has and what they weigh.
use Rattle.std.proofs.Common.{◌≡◌, ℕ, suc, ◌+◌, Bool, true, false, cond, ◌&&◌, List, [], ◌∷◌, ◌++◌, Some, None, refl, sym, ap, ◌∙◌, arith, length, length-append}
use Rattle.std.specs.Prelude.{nat_le}
use Rattle.coda_fid.specs.declared.fid.Fid.{Fid}
use Rattle.coda_fid.specs.declared.fid.Sid.{Sid}
use Rattle.coda_fid.specs.declared.op.Op.{Op}
use Rattle.coda_fid.specs.declared.op.Op.TheVariants.{Rename}
use Rattle.coda_fid.specs.declared.op.Record.{Record}
use Rattle.coda_fid.specs.Op.{carried, weight_of}
use Rattle.coda_cancel.specs.Handing.{Debt, nothing, owe, paid, hand, with_pre, sid_or}
use Rattle.coda_cancel.specs.Dropping.{mentioning, drops}
use Rattle.coda_cancel.specs.Cancel.{kept, debt, without, cancels, object, appended, add}
use Rattle.coda_cancel.specs.Passing.{undropped, goes, new_last}
use Rattle.coda_cancel.specs.Weights.{total_weight, fits}

weight-with_pre : (h : Fid → Sid → Sid) (o : Op) → weight_of (with_pre h o) ≡ weight_of o
weight-with_pre h (Rename d n x m f None) = refl
weight-with_pre h (Rename d n x m f (Some v)) = refl
weight-with_pre h _ = refl

-- two lists of as many records, which weigh as much
abbrev pub SameSize : List Record → List Record → Type 0
SameSize rs os = (length rs ≡ length os) × (total_weight rs ≡ total_weight os)

size_kept : (t : Op → Bool) (d : Debt) (rs : List Record) → SameSize (kept t d rs) (undropped t rs)
size_kept t d [] = (refl, refl)
size_kept t d (r ∷ rs) = go (t r.op) (size_kept t (owe d (carried r.op)) rs) (size_kept t (paid d (carried r.op)) rs)
  where
    go : (b : Bool) → SameSize (kept t (owe d (carried r.op)) rs) (undropped t rs) → SameSize (kept t (paid d (carried r.op)) rs) (undropped t rs) →
        SameSize (cond b (kept t (owe d (carried r.op)) rs) (hand d r ∷ kept t (paid d (carried r.op)) rs)) (cond b (undropped t rs) (r ∷ undropped t rs))
    go true one two = one
    go false one two = (ap suc two.0, λ i. weight-with_pre (λ f p. sid_or (d f) p) r.op i + two.1 i)

pub total-append : (rs os : List Record) → total_weight (rs ++ os) ≡ total_weight rs + total_weight os
total-append [] os = omega arith
total-append (r ∷ rs) os = let rest = total-append rs os in omega (arith, rest)

size_push : (rs os : List Record) (d : Debt) (o : Record) → SameSize rs os → SameSize (rs ++ hand d o ∷ []) (os ++ o ∷ [])
size_push rs os d o h = (
  length-append rs (hand d o ∷ []) ∙ ap (λ n. n + 1) h.0 ∙ sym (length-append os (o ∷ [])),
  total-append rs (hand d o ∷ []) ∙ (λ i. h.1 i + (weight-with_pre (λ f p. sid_or (d f) p) o.op i + 0)) ∙ sym (total-append os (o ∷ [])),
)

same_test : (t s : Op → Bool) → ((r : Op) → t r ≡ s r) → (rs : List Record) → undropped t rs ≡ undropped s rs
same_test t s h rs = λ i. undropped (λ r. h r i) rs

without_undropped : (f : Fid) (rs : List Record) → undropped (mentioning f) rs ≡ without f rs
without_undropped f [] = refl
without_undropped f (r ∷ rs) = λ i. cond (mentioning f r.op) (without_undropped f rs i) (r ∷ without_undropped f rs i)

append_none : (rs : List Record) → rs ++ [] ≡ rs
append_none [] = refl
append_none (r ∷ rs) = ap (λ l. r ∷ l) (append_none rs)

-- what is left has the size of the list that an operation was added to
pub size_after : (rs : List Record) (o : Record) → SameSize (add rs o) (undropped (goes (cancels o.op rs) o.op) rs ++ new_last (cancels o.op rs) o)
size_after rs o = go (cancels o.op rs)
  where
    go : (b : Bool) → SameSize (cond b (without (object (carried o.op)) rs) (appended rs o)) (undropped (goes b o.op) rs ++ new_last b o)
    go true = let e = sym (append_none (undropped (mentioning (object (carried o.op))) rs) ∙ without_undropped (object (carried o.op)) rs) in (ap length e, ap total_weight e)
    go false = size_push (kept (drops o.op) nothing rs) (undropped (drops o.op) rs) (debt (drops o.op) nothing rs) o (size_kept (drops o.op) nothing rs)

pub fits_same : (count weight : ℕ) (rs os : List Record) → SameSize rs os → fits count weight rs ≡ fits count weight os
fits_same count weight rs os h = λ i. nat_le (h.0 i) count && nat_le (h.1 i) weight

pub fits_added : (count weight : ℕ) (rs : List Record) (o : Record) → fits count weight (undropped (goes (cancels o.op rs) o.op) rs ++ new_last (cancels o.op rs) o) ≡ fits count weight (add rs o)
fits_added count weight rs o = sym (fits_same count weight (add rs o) (undropped (goes (cancels o.op rs) o.op) rs ++ new_last (cancels o.op rs) o) (size_after rs o))
