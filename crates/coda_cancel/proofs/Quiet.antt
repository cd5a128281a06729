-- Records that don't mention an object stay as they are where an operation on it is added.
use Rattle.std.proofs.Common.{◌≡◌, Bool, true, false, cond, ◌||◌, ◌&&◌, not, List, [], ◌∷◌, ◌++◌, Option, Some, None, refl, sym, ap, ◌∙◌, subst}
use Rattle.std.proofs.lemmas.Bool.{true≢false, false≢true, false_from_ne_true, and_left}
use Rattle.std.proofs.lemmas.List.{append-nil, append_assoc}
use Rattle.coda_fid.specs.declared.fid.Fid.{Fid}
use Rattle.coda_fid.specs.declared.fid.Sid.{Sid}
use Rattle.coda_fid.specs.declared.op.Op.{Op}
use Rattle.coda_fid.specs.declared.op.Op.TheVariants.{Create, Mkdir, Symlink, Store, Setattr, Remove, Rmdir, Rename}
use Rattle.coda_fid.specs.declared.op.Record.{Record}
use Rattle.coda_fid.specs.Fid.{same_fid}
use Rattle.coda_fid.specs.Op.{carried, pre_of}
use Rattle.coda_cancel.specs.Handing.{nothing, owe, paid, hand, with_pre, sid_or}
use Rattle.coda_cancel.specs.Dropping.{drops, mentioning, creates, writes}
use Rattle.coda_cancel.specs.Cancel.{object, kept, debt, without, others}
use Rattle.coda_cancel.specs.Numbers.{numbers}
use Rattle.coda_cancel.specs.Passing.{owed_to, goes, undropped}
use Rattle.coda_cancel.proofs.Debts.{kept-append, debt-append}
use Rattle.coda_cancel.proofs.Keys.{over_is}
use Rattle.coda_cancel.proofs.Passing.{dropped_carries, elsewhere, not_carried}
use Rattle.coda_cancel.proofs.Walks.{IsQuiet}

-- ---- one record

or_true : (b : Bool) → (b || true) ≡ true
or_true true = refl
or_true false = refl

later_true : (a b : Bool) → b ≡ true → (a || b) ≡ true
later_true true b h = refl
later_true false b h = h

-- an object of which an operation carries a version is mentioned
pub carried_mentioned : (f : Fid) (o : Op) → over_is f (carried o) ≡ true → mentioning f o ≡ true
carried_mentioned f (Create d n g m w) h = absurd (false≢true h)
carried_mentioned f (Mkdir d n g m w) h = absurd (false≢true h)
carried_mentioned f (Symlink d n g t m w) h = absurd (false≢true h)
carried_mentioned f (Store g pre c) h = ap (λ b. b || false) h
carried_mentioned f (Setattr g pre a) h = ap (λ b. b || false) h
carried_mentioned f (Remove d n g pre) h = later_true (same_fid d f) (same_fid g f || false) (ap (λ b. b || false) h)
carried_mentioned f (Rmdir d n g pre) h = later_true (same_fid d f) (same_fid g f || false) (ap (λ b. b || false) h)
carried_mentioned f (Rename d n e m g None) h = absurd (false≢true h)
carried_mentioned f (Rename d n e m g (Some v)) h =
    later_true (same_fid d f) (same_fid e f || (same_fid g f || (same_fid v.fid f || false)))
    (later_true (same_fid e f) (same_fid g f || (same_fid v.fid f || false)) (later_true (same_fid g f) (same_fid v.fid f || false) (ap (λ b. b || false) h)))

pub not_carried_there : (f : Fid) (o : Op) → mentioning f o ≡ false → over_is f (carried o) ≡ false
not_carried_there f o h = false_from_ne_true (over_is f (carried o)) (λ e. true≢false (sym (carried_mentioned f o e) ∙ h))

pub not_dropped_there : (o r : Op) (f : Fid) → object (carried o) ≡ f → mentioning f r ≡ false → drops o r ≡ false
not_dropped_there o r f own h = false_from_ne_true (drops o r) (λ e. true≢false (sym (carried_mentioned f r (subst (λ g. over_is g (carried r) ≡ true) own (dropped_carries o r e))) ∙ h))

-- handing to one object changes no record that carries another
pub not_handed : (f : Fid) (owed : Option Sid) (o : Op) → over_is f (carried o) ≡ false → with_pre (λ g pre. sid_or (owed_to f owed g) pre) o ≡ o
not_handed f owed (Create d n g m w) h = refl
not_handed f owed (Mkdir d n g m w) h = refl
not_handed f owed (Symlink d n g t m w) h = refl
not_handed f owed (Store g pre c) h = ap (λ b. Store g (sid_or (cond b owed None) pre) c) h
not_handed f owed (Setattr g pre a) h = ap (λ b. Setattr g (sid_or (cond b owed None) pre) a) h
not_handed f owed (Remove d n g pre) h = ap (λ b. Remove d n g (sid_or (cond b owed None) pre)) h
not_handed f owed (Rmdir d n g pre) h = ap (λ b. Rmdir d n g (sid_or (cond b owed None) pre)) h
not_handed f owed (Rename d n e m g None) h = refl
not_handed f owed (Rename d n e m g (Some v)) h = ap (λ b. Rename d n e m g (Some (record { fid = v.fid; pre = sid_or (cond b owed None) v.pre }))) h

pub hand-other : (f : Fid) (owed : Option Sid) (r : Record) → over_is f (carried r.op) ≡ false → hand (owed_to f owed) r ≡ r
hand-other f owed r h = λ i. record r { op = not_handed f owed r.op h i }

-- ---- several

module _ (o : Op) (f : Fid) (own : object (carried o) ≡ f) where
  pub kept_quiet : (owed : Option Sid) (rs : List Record) → IsQuiet f rs → kept (drops o) (owed_to f owed) rs ≡ rs
  kept_quiet owed [] h = refl
  kept_quiet owed (r ∷ rs) h =
      let away = not_carried_there f r.op h.0 in
      ap (λ b. cond b (kept (drops o) (owe (owed_to f owed) (carried r.op)) rs) (hand (owed_to f owed) r ∷ kept (drops o) (paid (owed_to f owed) (carried r.op)) rs)) (not_dropped_there o r.op f own h.0)
      ∙ (λ i. hand-other f owed r away i ∷ kept (drops o) (sym (elsewhere (carried r.op) f owed away) i) rs)
      ∙ ap (λ l. r ∷ l) (kept_quiet owed rs h.1)

  pub debt_quiet : (owed : Option Sid) (rs : List Record) → IsQuiet f rs → debt (drops o) (owed_to f owed) rs ≡ owed_to f owed
  debt_quiet owed [] h = refl
  debt_quiet owed (r ∷ rs) h =
      let away = not_carried_there f r.op h.0 in
      ap (λ b. cond b (debt (drops o) (owe (owed_to f owed) (carried r.op)) rs) (debt (drops o) (paid (owed_to f owed) (carried r.op)) rs)) (not_dropped_there o r.op f own h.0)
      ∙ (λ i. debt (drops o) (sym (elsewhere (carried r.op) f owed away) i) rs)
      ∙ debt_quiet owed rs h.1

  goes_not : (b : Bool) (r : Op) → mentioning f r ≡ false → goes b o r ≡ false
  goes_not true r h = ap (λ g. mentioning g r) own ∙ h
  goes_not false r h = not_dropped_there o r f own h

  pub numbers_quiet : (b : Bool) (rs : List Record) → IsQuiet f rs → numbers (goes b o) rs ≡ []
  numbers_quiet b [] h = refl
  numbers_quiet b (r ∷ rs) h = ap (λ x. cond x (r.number ∷ numbers (goes b o) rs) (numbers (goes b o) rs)) (goes_not b r.op h.0) ∙ numbers_quiet b rs h.1

  pub undropped_quiet : (b : Bool) (rs : List Record) → IsQuiet f rs → undropped (goes b o) rs ≡ rs
  undropped_quiet b [] h = refl
  undropped_quiet b (r ∷ rs) h = ap (λ x. cond x (undropped (goes b o) rs) (r ∷ undropped (goes b o) rs)) (goes_not b r.op h.0) ∙ ap (λ l. r ∷ l) (undropped_quiet b rs h.1)

pub without_quiet : (f : Fid) (rs : List Record) → IsQuiet f rs → without f rs ≡ rs
without_quiet f [] h = refl
without_quiet f (r ∷ rs) h = ap (λ b. cond b (without f rs) (r ∷ without f rs)) h.0 ∙ ap (λ l. r ∷ l) (without_quiet f rs h.1)

pub others_quiet : (f : Fid) (rs os : List Record) → IsQuiet f rs → others f (rs ++ os) ≡ others f os
others_quiet f [] os h = refl
others_quiet f (r ∷ rs) os h = ap (λ b. cond b (creates f r.op ∷ others f (rs ++ os)) (others f (rs ++ os))) (and_left (mentioning f r.op) (not (writes f r.op)) h.0) ∙ others_quiet f rs os h.1

-- ---- over joined lists

pub without-append : (f : Fid) (rs os : List Record) → without f (rs ++ os) ≡ without f rs ++ without f os
without-append f [] os = refl
without-append f (r ∷ rs) os = ap (λ l. cond (mentioning f r.op) l (r ∷ l)) (without-append f rs os) ∙ go (mentioning f r.op)
  where
    go : (b : Bool) → cond b (without f rs ++ without f os) (r ∷ (without f rs ++ without f os)) ≡ cond b (without f rs) (r ∷ without f rs) ++ without f os
    go true = refl
    go false = refl

pub numbers-append : (t : Op → Bool) (rs os : List Record) → numbers t (rs ++ os) ≡ numbers t rs ++ numbers t os
numbers-append t [] os = refl
numbers-append t (r ∷ rs) os = ap (λ l. cond (t r.op) (r.number ∷ l) l) (numbers-append t rs os) ∙ go (t r.op)
  where
    go : (b : Bool) → cond b (r.number ∷ (numbers t rs ++ numbers t os)) (numbers t rs ++ numbers t os) ≡ cond b (r.number ∷ numbers t rs) (numbers t rs) ++ numbers t os
    go true = refl
    go false = refl

pub undropped-append : (t : Op → Bool) (rs os : List Record) → undropped t (rs ++ os) ≡ undropped t rs ++ undropped t os
undropped-append t [] os = refl
undropped-append t (r ∷ rs) os = ap (λ l. cond (t r.op) l (r ∷ l)) (undropped-append t rs os) ∙ go (t r.op)
  where
    go : (b : Bool) → cond b (undropped t rs ++ undropped t os) (r ∷ (undropped t rs ++ undropped t os)) ≡ cond b (undropped t rs) (r ∷ undropped t rs) ++ undropped t os
    go true = refl
    go false = refl

-- ---- one step of dropping

module _ (o : Op) (f : Fid) (own : object (carried o) ≡ f) (front between : List Record) (found : Record) (owed : Option Sid) (quiet : IsQuiet f between) (owes : owed_to f owed ≡ debt (drops o) nothing front) where
  pub kept_step : kept (drops o) nothing (front ++ (between ++ found ∷ [])) ≡ kept (drops o) nothing front ++ (between ++ kept (drops o) (owed_to f owed) (found ∷ []))
  kept_step = kept-append (drops o) nothing front (between ++ found ∷ [])
      ∙ (λ i. kept (drops o) nothing front ++ kept (drops o) (sym owes i) (between ++ found ∷ []))
      ∙ ap (λ l. kept (drops o) nothing front ++ l) (kept-append (drops o) (owed_to f owed) between (found ∷ []) ∙ (λ i. kept_quiet o f own owed between quiet i ++ kept (drops o) (debt_quiet o f own owed between quiet i) (found ∷ [])))

  pub debt_step : debt (drops o) nothing (front ++ (between ++ found ∷ [])) ≡ debt (drops o) (owed_to f owed) (found ∷ [])
  debt_step = debt-append (drops o) nothing front (between ++ found ∷ [])
      ∙ (λ i. debt (drops o) (sym owes i) (between ++ found ∷ []))
      ∙ debt-append (drops o) (owed_to f owed) between (found ∷ []) ∙ (λ i. debt (drops o) (debt_quiet o f own owed between quiet i) (found ∷ []))

-- and its end
module _ (o : Op) (f : Fid) (own : object (carried o) ≡ f) (front rest : List Record) (owed : Option Sid) (quiet : IsQuiet f rest) (owes : owed_to f owed ≡ debt (drops o) nothing front) where
  pub kept_end : kept (drops o) nothing front ++ rest ≡ kept (drops o) nothing (front ++ rest)
  kept_end = sym (kept-append (drops o) nothing front rest ∙ (λ i. kept (drops o) nothing front ++ kept (drops o) (sym owes i) rest) ∙ ap (λ l. kept (drops o) nothing front ++ l) (kept_quiet o f own owed rest quiet))

  pub debt_end : owed_to f owed ≡ debt (drops o) nothing (front ++ rest)
  debt_end = sym (debt-append (drops o) nothing front rest ∙ (λ i. debt (drops o) (sym owes i) rest) ∙ debt_quiet o f own owed rest quiet)

-- ---- a record without a version of the object

module _ (o : Op) (f : Fid) (own : object (carried o) ≡ f) (owed : Option Sid) (r : Record) (none : pre_of r.op f ≡ None) where
  pub not_dropped_without : drops o r.op ≡ false
  not_dropped_without = false_from_ne_true (drops o r.op) (λ e. true≢false (sym (subst (λ g. over_is g (carried r.op) ≡ true) own (dropped_carries o r.op e)) ∙ not_carried (carried r.op) f none))

  pub kept_without : (front back : List Record) → front ++ r ∷ back ≡ (front ++ kept (drops o) (owed_to f owed) (r ∷ [])) ++ back
  kept_without front back = sym (append_assoc front (r ∷ []) back)
      ∙ ap (λ x. (front ++ x ∷ []) ++ back) (sym (hand-other f owed r (not_carried (carried r.op) f none)))
      ∙ ap (λ b. (front ++ cond b [] (hand (owed_to f owed) r ∷ [])) ++ back) (sym not_dropped_without)

  pub none_lost : (has : Bool) (t : Bool) → has ≡ (has && not (drops o r.op && t))
  none_lost has t = go has ∙ ap (λ b. has && not (b && t)) (sym not_dropped_without)
    where
      go : (b : Bool) → b ≡ (b && true)
      go true = refl
      go false = refl

-- ---- one step of taking out

pub without_step : (f : Fid) (front between : List Record) (found : Record) → IsQuiet f between → mentioning f found.op ≡ true → without f (front ++ (between ++ found ∷ [])) ≡ without f front ++ between
without_step f front between found quiet told =
    without-append f front (between ++ found ∷ [])
    ∙ ap (λ l. without f front ++ l) (without-append f between (found ∷ []) ∙ (λ i. without_quiet f between quiet i ++ cond (told i) [] (found ∷ [])) ∙ append-nil between)
