-- Fids that are one and fids that differ; which operations write, and which carry a version of an object.
use Rattle.std.proofs.Common.{◌≡◌, Bool, true, false, Option, Some, None, sym, ◌∙◌, subst, ⊎_elim, inl, inr, ◌⊎◌}
use Rattle.std.proofs.lemmas.Bool.{false_from_ne_true, cases_Bool, true≢false}
use Rattle.coda_fid.specs.declared.fid.Fid.{Fid}
use Rattle.coda_fid.specs.declared.op.Over.{Over}
use Rattle.coda_fid.specs.declared.op.Op.{Op}
use Rattle.coda_fid.specs.declared.op.Op.TheVariants.{Create, Mkdir, Symlink, Store, Setattr, Remove, Rmdir, Rename}
use Rattle.coda_fid.specs.Fid.{same_fid}
use Rattle.coda_fid.specs.Op.{carried}
use Rattle.coda_fid.proofs.Fids.{same_fid_is, same_fid_refl}

pub fid_true : (a b : Fid) → same_fid a b ≡ true → a ≡ b
fid_true = same_fid_is

pub fid_same : (a b : Fid) → a ≡ b → same_fid a b ≡ true
fid_same a b e = subst (λ x. same_fid a x ≡ true) e (same_fid_refl a)

pub fid_false : (a b : Fid) → same_fid a b ≡ false → a ≡ b → ⊥
fid_false a b e h = true≢false (sym (fid_same a b h) ∙ e)

pub fid_other : (a b : Fid) → (a ≡ b → ⊥) → same_fid a b ≡ false
fid_other a b h = false_from_ne_true (same_fid a b) (λ e. h (fid_true a b e))

pub fid_cases : (a b : Fid) → (a ≡ b) ⊎ (a ≡ b → ⊥)
fid_cases a b = ⊎_elim (λ (e : same_fid a b ≡ true). inl (fid_true a b e)) (λ (e : same_fid a b ≡ false). inr (fid_false a b e)) (cases_Bool (same_fid a b))

-- the object of a kept version is this one
abbrev pub over_is : Fid → Option Over → Bool
over_is f None = false
over_is f (Some v) = same_fid v.fid f

-- an operation carries a version of the object
abbrev pub carries : Fid → Op → Bool
carries f o = over_is f (carried o)

-- a Store or Setattr
abbrev pub is_write : Op → Bool
is_write (Create d n g mode owner) = false
is_write (Mkdir d n g mode owner) = false
is_write (Symlink d n g t mode owner) = false
is_write (Store g pre content) = true
is_write (Setattr g pre a) = true
is_write (Remove d n g pre) = false
is_write (Rmdir d n g pre) = false
is_write (Rename d n e m g over) = false
