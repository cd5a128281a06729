-- Only records of the operation's own object are dropped, so a debt is for this object alone.
use Rattle.std.proofs.Common.{◌≡◌, Bool, true, false, cond, List, [], ◌∷◌, Option, Some, None, refl, sym, ap, ◌∙◌, subst}
use Rattle.std.proofs.lemmas.Bool.{and_parts, false≢true, true≢false}
use Rattle.std.proofs.lemmas.Option.{none-some}
use Rattle.coda_fid.specs.declared.fid.Fid.{Fid}
use Rattle.coda_fid.specs.declared.fid.Sid.{Sid}
use Rattle.coda_fid.specs.declared.op.Over.{Over}
use Rattle.coda_fid.specs.declared.op.Attrs.{Attrs}
use Rattle.coda_fid.specs.declared.op.Op.{Op}
use Rattle.coda_fid.specs.declared.op.Op.TheVariants.{Store, Setattr, Remove, Rmdir, Rename}
use Rattle.coda_fid.specs.declared.op.Record.{Record}
use Rattle.coda_fid.specs.Fid.{same_fid}
use Rattle.coda_fid.specs.Op.{carried, kept_for, pre_of}
use Rattle.coda_cancel.specs.Handing.{Debt, nothing, owe, paid, hand, sid_or, with_pre}
use Rattle.coda_cancel.specs.Dropping.{drops, writes, stores, is_covered}
use Rattle.coda_cancel.specs.Cancel.{object, kept, debt}
use Rattle.coda_cancel.specs.Passing.{owed_to, owed_after, handed, undropped}
use Rattle.coda_cancel.proofs.Keys.{fid_true, fid_false, fid_other, over_is}
use Rattle.coda_cancel.proofs.Debts.{no_change}

pub written_carries : (f : Fid) (r : Op) → writes f r ≡ true → over_is f (carried r) ≡ true
written_carries f (Store g pre c) h = h
written_carries f (Setattr g pre a) h = h
written_carries f _ h = absurd (false≢true h)

stored_carries : (f : Fid) (r : Op) → stores f r ≡ true → over_is f (carried r) ≡ true
stored_carries f (Store g pre c) h = h
stored_carries f _ h = absurd (false≢true h)

covered_carries : (f : Fid) (a : Attrs) (r : Op) → is_covered f a r ≡ true → over_is f (carried r) ≡ true
covered_carries f a (Setattr g pre b) h = (and_parts _ _ h).0
covered_carries f a _ h = absurd (false≢true h)

-- an operation drops records that carry a version of its own object
pub dropped_carries : (o r : Op) → drops o r ≡ true → over_is (object (carried o)) (carried r) ≡ true
dropped_carries (Store f pre c) r h = stored_carries f r h
dropped_carries (Setattr f pre a) r h = covered_carries f a r h
dropped_carries (Remove d n f pre) r h = written_carries f r h
dropped_carries (Rmdir d n f pre) r h = written_carries f r h
dropped_carries (Rename d n e m f None) r h = absurd (false≢true h)
dropped_carries (Rename d n e m f (Some v)) r h = written_carries v.fid r h
dropped_carries _ r h = absurd (false≢true h)

-- nothing owed for one object is nothing owed
pub owed_to-none : (f : Fid) → owed_to f None ≡ nothing
owed_to-none f i g = no_change (same_fid g f) None i

pub not_carried : (w : Option Over) (f : Fid) → kept_for w f ≡ None → over_is f w ≡ false
not_carried None f h = refl
not_carried (Some v) f h =
    elim (same_fid v.fid f) as (λ b. cond b (Some v.pre) None ≡ None → b ≡ false) [
      | true ↦ λ e. absurd (none-some v.pre (sym e))
      | false ↦ λ e. refl
    ] h

pub elsewhere : (w : Option Over) (f : Fid) (owed : Option Sid) → over_is f w ≡ false → owed_to f owed ≡ paid (owed_to f owed) w
elsewhere None f owed h = refl
elsewhere (Some v) f owed h = λ i g. at g (same_fid g v.fid) refl i
  where
    at : (g : Fid) (b : Bool) → same_fid g v.fid ≡ b → cond (same_fid g f) owed None ≡ cond b None (cond (same_fid g f) owed None)
    at g true e = ap (λ x. cond x owed None) (fid_other g f (λ h'. fid_false v.fid f h (sym (fid_true g v.fid e) ∙ h')))
    at g false e = refl

-- past a record that carries nothing for the object, the same is owed
pub past_other : (o : Op) (r : Record) (f : Fid) (owed : Option Sid) → object (carried o) ≡ f → pre_of r.op f ≡ None → owed_to f owed ≡ owed_after (drops o) (owed_to f owed) r
past_other o r f owed own h = go (drops o r.op) refl
  where
    go : (b : Bool) → drops o r.op ≡ b → owed_to f owed ≡ cond b (owe (owed_to f owed) (carried r.op)) (paid (owed_to f owed) (carried r.op))
    go true e = absurd (true≢false (sym (subst (λ x. over_is x (carried r.op) ≡ true) own (dropped_carries o r.op e)) ∙ not_carried (carried r.op) f h))
    go false e = elsewhere (carried r.op) f owed (not_carried (carried r.op) f h)

-- ---- the loop

pub handed_step : (t : Op → Bool) (d : Debt) (r : Record) (rs : List Record) → debt t d (r ∷ rs) ≡ debt t (owed_after t d r) rs
handed_step t d r rs = go (t r.op)
  where
    go : (b : Bool) → cond b (debt t (owe d (carried r.op)) rs) (debt t (paid d (carried r.op)) rs) ≡ debt t (cond b (owe d (carried r.op)) (paid d (carried r.op))) rs
    go true = refl
    go false = refl

-- what is handed on and not dropped is what is kept
pub undropped-handed : (t : Op → Bool) → ((h : Fid → Sid → Sid) (o : Op) → t (with_pre h o) ≡ t o) → (d : Debt) (rs : List Record) → undropped t (handed t d rs) ≡ kept t d rs
undropped-handed t blind d [] = refl
undropped-handed t blind d (r ∷ rs) = go (t r.op) refl (undropped-handed t blind (owe d (carried r.op)) rs) (undropped-handed t blind (paid d (carried r.op)) rs)
  where
    go : (b : Bool) → t r.op ≡ b → undropped t (handed t (owe d (carried r.op)) rs) ≡ kept t (owe d (carried r.op)) rs → undropped t (handed t (paid d (carried r.op)) rs) ≡ kept t (paid d (carried r.op)) rs →
        undropped t (cond b r (hand d r) ∷ handed t (cond b (owe d (carried r.op)) (paid d (carried r.op))) rs) ≡ cond b (kept t (owe d (carried r.op)) rs) (hand d r ∷ kept t (paid d (carried r.op)) rs)
    go true e one two = ap (λ x. cond x (undropped t (handed t (owe d (carried r.op)) rs)) (r ∷ undropped t (handed t (owe d (carried r.op)) rs))) e ∙ one
    go false e one two = ap (λ x. cond x (undropped t (handed t (paid d (carried r.op)) rs)) (hand d r ∷ undropped t (handed t (paid d (carried r.op)) rs))) (blind (λ f p. sid_or (d f) p) r.op ∙ e) ∙ ap (λ l. hand d r ∷ l) two
