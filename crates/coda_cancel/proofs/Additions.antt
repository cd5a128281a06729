-- What the parts of an addition make of a vector.
use Rattle.std.proofs.Common.{◌≡◌, Bool, true, false, cond, not, List, [], ◌∷◌, ◌++◌, Option, Some, None, refl, sym, ap, ◌∙◌}
use Rattle.std.specs.List.{filter}
use Rattle.std.proofs.lemmas.Option.{none-some}
use Rattle.coda_fid.specs.declared.fid.Fid.{Fid}
use Rattle.coda_fid.specs.declared.fid.Sid.{Sid}
use Rattle.coda_fid.specs.declared.op.Op.{Op}
use Rattle.coda_fid.specs.declared.op.Op.TheVariants.{Create, Mkdir, Symlink, Store, Setattr, Remove, Rmdir, Rename}
use Rattle.coda_fid.specs.declared.op.Record.{Record}
use Rattle.coda_fid.specs.Op.{carried}
use Rattle.coda_cancel.specs.Handing.{nothing, hand}
use Rattle.coda_cancel.specs.Dropping.{mentioning, drops}
use Rattle.coda_cancel.specs.Cancel.{debt, without, cancels, object, appended, add}
use Rattle.coda_cancel.specs.Numbers.{numbers, dropped}
use Rattle.coda_cancel.specs.Passing.{owed_to, handed, undropped}
use Rattle.coda_cancel.proofs.Debts.{hand-nothing, kept_all, debt_all, dropped-with_pre}
use Rattle.coda_cancel.proofs.Passing.{undropped-handed}

pub undropped-filter : (t : Op → Bool) (rs : List Record) → filter (λ r. not (t r.op)) rs ≡ undropped t rs
undropped-filter t [] = refl
undropped-filter t (r ∷ rs) = go (t r.op) (undropped-filter t rs)
  where
    go : (b : Bool) → filter (λ r. not (t r.op)) rs ≡ undropped t rs → cond (not b) (r ∷ filter (λ r. not (t r.op)) rs) (filter (λ r. not (t r.op)) rs) ≡ cond b (undropped t rs) (r ∷ undropped t rs)
    go true e = e
    go false e = ap (λ l. r ∷ l) e

pub without-filter : (f : Fid) (rs : List Record) → filter (λ r. not (mentioning f r.op)) rs ≡ without f rs
without-filter f [] = refl
without-filter f (r ∷ rs) = go (mentioning f r.op) (without-filter f rs)
  where
    go : (b : Bool) → filter (λ r. not (mentioning f r.op)) rs ≡ without f rs → cond (not b) (r ∷ filter (λ r. not (mentioning f r.op)) rs) (filter (λ r. not (mentioning f r.op)) rs) ≡ cond b (without f rs) (r ∷ without f rs)
    go true e = e
    go false e = ap (λ l. r ∷ l) e

-- the list after the three steps: hand on, drop, and put the operation at the end
pub three_steps : (rs passed left new : List Record) (o paid : Record) (f : Fid) (owed : Option Sid) →
    passed ≡ handed (drops o.op) nothing rs → owed_to f owed ≡ debt (drops o.op) nothing rs → left ≡ undropped (drops o.op) passed → paid ≡ hand (owed_to f owed) o → new ≡ left ++ paid ∷ [] → new ≡ appended rs o
three_steps rs passed left new o paid f owed a b d e h =
    h ∙ (λ i. d i ++ e i ∷ []) ∙ (λ i. undropped (drops o.op) (a i) ++ hand (b i) o ∷ [])
    ∙ ap (λ l. l ++ hand (debt (drops o.op) nothing rs) o ∷ []) (undropped-handed (drops o.op) (λ h x. dropped-with_pre h o.op x) nothing rs)

-- an operation that carries no version drops nothing
pub nothing_dropped : (o : Op) → carried o ≡ None → (r : Op) → drops o r ≡ false
nothing_dropped (Create d n f mode owner) e r = refl
nothing_dropped (Mkdir d n f mode owner) e r = refl
nothing_dropped (Symlink d n f t mode owner) e r = refl
nothing_dropped (Store f pre c) e r = absurd (none-some _ (sym e))
nothing_dropped (Setattr f pre a) e r = absurd (none-some _ (sym e))
nothing_dropped (Remove d n f pre) e r = absurd (none-some _ (sym e))
nothing_dropped (Rmdir d n f pre) e r = absurd (none-some _ (sym e))
nothing_dropped (Rename d n x m f None) e r = refl
nothing_dropped (Rename d n x m f (Some v)) e r = absurd (none-some _ (sym e))

nothing_cancelled : (o : Op) → carried o ≡ None → (rs : List Record) → cancels o rs ≡ false
nothing_cancelled (Remove d n f pre) e rs = absurd (none-some _ (sym e))
nothing_cancelled (Rmdir d n f pre) e rs = absurd (none-some _ (sym e))
nothing_cancelled _ e rs = refl

pub no_numbers : (t : Op → Bool) → ((r : Op) → t r ≡ false) → (rs : List Record) → numbers t rs ≡ []
no_numbers t never [] = refl
no_numbers t never (r ∷ rs) = ap (λ b. cond b (r.number ∷ numbers t rs) (numbers t rs)) (never r.op) ∙ no_numbers t never rs

pub plain_added : (rs : List Record) (o : Record) → carried o.op ≡ None → rs ++ o ∷ [] ≡ add rs o
plain_added rs o e = sym (ap (λ b. cond b (without (object (carried o.op)) rs) (appended rs o)) (nothing_cancelled o.op e rs)
    ∙ (λ i. kept_all (drops o.op) (nothing_dropped o.op e) rs i ++ hand (debt_all (drops o.op) (nothing_dropped o.op e) rs i) o ∷ []) ∙ ap (λ x. rs ++ x ∷ []) (hand-nothing o))

pub plain_dropped : (rs : List Record) (o : Record) → carried o.op ≡ None → dropped rs o ≡ []
plain_dropped rs o e = ap (λ b. cond b (numbers (mentioning (object (carried o.op))) rs) (numbers (drops o.op) rs)) (nothing_cancelled o.op e rs) ∙ no_numbers (drops o.op) (nothing_dropped o.op e) rs
