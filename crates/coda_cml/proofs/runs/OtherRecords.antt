-- dropping Stores and Setattrs does not change what is undone
use Rattle.std.proofs.Common.{◌≡◌, ◌≢◌, Bool, true, false, cond, List, [], ◌∷◌, ◌++◌, Option, Some, None, refl, sym, ap, ◌∙◌, ◌&&◌, ◌||◌, not}
use Rattle.std.proofs.lemmas.Bool.{cond_both, or_parts, false≢true}
use Rattle.coda_fid.specs.declared.fid.Fid.{Fid}
use Rattle.coda_fid.specs.declared.fid.Sid.{Sid}
use Rattle.coda_fid.specs.declared.op.Over.{Over}
use Rattle.coda_fid.specs.declared.op.Op.{Op}
use Rattle.coda_fid.specs.declared.op.Record.{Record}
use Rattle.coda_fid.specs.declared.op.Op.TheVariants.{Create, Mkdir, Remove, Rename, Rmdir, Setattr, Store, Symlink}
use Rattle.coda_fid.specs.Fid.{same_fid}
use Rattle.coda_fid.specs.Op.{carried}
use Rattle.coda_cancel.specs.Handing.{Debt, earlier, hand, owe, paid, sid_or, with_pre}
use Rattle.coda_cancel.specs.Dropping.{creates, mentioning, writes}
use Rattle.coda_cancel.specs.Cancel.{debt, kept, others, without}
use Rattle.coda_cancel.proofs.Keys.{fid_false, fid_other, fid_true, is_write, over_is}
use Rattle.coda_cml.specs.Steady.{any_record}
use Rattle.coda_cancel.proofs.Debts.{Blind, creates-with_pre, mentioning-with_pre, no_change, writes-with_pre}

-- a Store or Setattr is no other record of f
pub write_is_none : (f : Fid) (r : Op) → is_write r ≡ true → (mentioning f r && not (writes f r)) ≡ false
write_is_none f (Store g pre c) e = go (same_fid g f)
  where
    go : (b : Bool) → ((b || false) && not b) ≡ false
    go true = refl
    go false = refl
write_is_none f (Setattr g pre a) e = go (same_fid g f)
  where
    go : (b : Bool) → ((b || false) && not b) ≡ false
    go true = refl
    go false = refl
write_is_none f _ e = absurd (false≢true e)

pub other-with_pre : (h : Fid → Sid → Sid) (f : Fid) (r : Op) → (mentioning f (with_pre h r) && not (writes f (with_pre h r))) ≡ (mentioning f r && not (writes f r))
other-with_pre h f r = λ i. mentioning-with_pre h f r i && not (writes-with_pre h f r i)

module _ (p : Op → Bool) (writing : (x : Op) → p x ≡ true → is_write x ≡ true) (f : Fid) where
  pub others-kept : (d : Debt) (rs : List Record) → others f (kept p d rs) ≡ others f rs
  others-kept d [] = refl
  others-kept d (r ∷ rs) = go (p r.op) refl (others-kept (owe d (carried r.op)) rs) (others-kept (paid d (carried r.op)) rs)
    where
      go : (b : Bool) → p r.op ≡ b → others f (kept p (owe d (carried r.op)) rs) ≡ others f rs → others f (kept p (paid d (carried r.op)) rs) ≡ others f rs →
          others f (cond b (kept p (owe d (carried r.op)) rs) (hand d r ∷ kept p (paid d (carried r.op)) rs)) ≡ cond (mentioning f r.op && not (writes f r.op)) (creates f r.op ∷ others f rs) (others f rs)
      go true e one two = one ∙ sym (ap (λ b. cond b (creates f r.op ∷ others f rs) (others f rs)) (write_is_none f r.op (writing r.op e)))
      go false e one two = λ i. cond (other-with_pre (λ g s. sid_or (d g) s) f r.op i) (creates-with_pre (λ g s. sid_or (d g) s) f r.op i ∷ two i) (two i)

pub others-append : (f : Fid) (rs os : List Record) → others f (rs ++ os) ≡ others f rs ++ others f os
others-append f [] os = refl
others-append f (r ∷ rs) os = go (mentioning f r.op && not (writes f r.op)) (others-append f rs os)
  where
    go : (b : Bool) → others f (rs ++ os) ≡ others f rs ++ others f os → cond b (creates f r.op ∷ others f (rs ++ os)) (others f (rs ++ os)) ≡ cond b (creates f r.op ∷ others f rs) (others f rs) ++ others f os
    go true e = ap (λ l. creates f r.op ∷ l) e
    go false e = e

-- what holds of the records besides Stores and Setattrs, whatever their pre
module _ (p : Op → Bool) (writing : (x : Op) → p x ≡ true → is_write x ≡ true) (t : Op → Bool) (plain : Blind t) (idle : (x : Op) → is_write x ≡ true → t x ≡ false) where
  pub any-kept : (d : Debt) (rs : List Record) → any_record t (kept p d rs) ≡ any_record t rs
  any-kept d [] = refl
  any-kept d (r ∷ rs) = go (p r.op) refl (any-kept (owe d (carried r.op)) rs) (any-kept (paid d (carried r.op)) rs)
    where
      go : (b : Bool) → p r.op ≡ b → any_record t (kept p (owe d (carried r.op)) rs) ≡ any_record t rs → any_record t (kept p (paid d (carried r.op)) rs) ≡ any_record t rs → any_record t (cond b (kept p (owe d (carried r.op)) rs) (hand d r ∷ kept p (paid d (carried r.op)) rs)) ≡ (t r.op || any_record t rs)
      go true e one two = one ∙ sym (ap (λ b. b || any_record t rs) (idle r.op (writing r.op e)))
      go false e one two = λ i. plain (λ g s. sid_or (d g) s) r.op i || two i

-- two debts that agree besides at f
abbrev pub SameBut : Fid → Debt → Debt → Type 0
SameBut f d e = (g : Fid) → g ≢ f → d g ≡ e g

same_owe : (f : Fid) (d e : Debt) (w : Option Over) → SameBut f d e → SameBut f (owe d w) (owe e w)
same_owe f d e None s g ne = s g ne
same_owe f d e (Some v) s g ne = ap (λ x. cond (same_fid g v.fid) (earlier x v.pre) x) (s g ne)

same_paid : (f : Fid) (d e : Debt) (w : Option Over) → SameBut f d e → SameBut f (paid d w) (paid e w)
same_paid f d e None s g ne = s g ne
same_paid f d e (Some v) s g ne = ap (λ x. cond (same_fid g v.fid) None x) (s g ne)

-- a record that does not mention f carries another object
carried_elsewhere : (f : Fid) (o : Op) → mentioning f o ≡ false → over_is f (carried o) ≡ false
carried_elsewhere f (Create d n g mode owner) m = refl
carried_elsewhere f (Mkdir d n g mode owner) m = refl
carried_elsewhere f (Symlink d n g t mode owner) m = refl
carried_elsewhere f (Store g pre c) m = (or_parts (same_fid g f) false m).0
carried_elsewhere f (Setattr g pre a) m = (or_parts (same_fid g f) false m).0
carried_elsewhere f (Remove d n g pre) m = (or_parts (same_fid g f) false (or_parts (same_fid d f) (same_fid g f || false) m).1).0
carried_elsewhere f (Rmdir d n g pre) m = (or_parts (same_fid g f) false (or_parts (same_fid d f) (same_fid g f || false) m).1).0
carried_elsewhere f (Rename d n x y g None) m = refl
carried_elsewhere f (Rename d n x y g (Some v)) m =
    let a = or_parts (same_fid d f) (same_fid x f || (same_fid g f || (same_fid v.fid f || false))) m in
    let b = or_parts (same_fid x f) (same_fid g f || (same_fid v.fid f || false)) a.1 in
    let c = or_parts (same_fid g f) (same_fid v.fid f || false) b.1 in
    (or_parts (same_fid v.fid f) false c.1).0

with_pre_alike : (h k : Fid → Sid → Sid) (f : Fid) → ((g : Fid) (s : Sid) → g ≢ f → h g s ≡ k g s) → (o : Op) → over_is f (carried o) ≡ false → with_pre h o ≡ with_pre k o
with_pre_alike h k f e (Create d n g mode owner) m = refl
with_pre_alike h k f e (Mkdir d n g mode owner) m = refl
with_pre_alike h k f e (Symlink d n g t mode owner) m = refl
with_pre_alike h k f e (Store g pre c) m = λ i. Store g (e g pre (fid_false g f m) i) c
with_pre_alike h k f e (Setattr g pre a) m = λ i. Setattr g (e g pre (fid_false g f m) i) a
with_pre_alike h k f e (Remove d n g pre) m = λ i. Remove d n g (e g pre (fid_false g f m) i)
with_pre_alike h k f e (Rmdir d n g pre) m = λ i. Rmdir d n g (e g pre (fid_false g f m) i)
with_pre_alike h k f e (Rename d n x y g None) m = refl
with_pre_alike h k f e (Rename d n x y g (Some v)) m = λ i. Rename d n x y g (Some (record { fid = v.fid; pre = e v.fid v.pre (fid_false v.fid f m) i }))

pub hand_alike : (f : Fid) (d e : Debt) → SameBut f d e → (r : Record) → mentioning f r.op ≡ false → hand d r ≡ hand e r
hand_alike f d e s r m = λ i. record r { op = with_pre_alike (λ g q. sid_or (d g) q) (λ g q. sid_or (e g) q) f (λ g q ne. ap (λ x. sid_or x q) (s g ne)) r.op (carried_elsewhere f r.op m) i }

-- a record of f alone: what is kept or owed elsewhere does not change
abbrev pub OnlyMade : Fid → List Record → Type 0
OnlyMade f [] = Unit
OnlyMade f (r ∷ rs) = (mentioning f r.op ≡ true → (creates f r.op || writes f r.op) ≡ true) × OnlyMade f rs

made_carried : (f g : Fid) (o : Op) → (creates f o || writes f o) ≡ true → g ≢ f → (d : Debt) → (owe d (carried o) g ≡ d g) × (paid d (carried o) g ≡ d g)
made_carried f g (Create d n h mode owner) m ne w = (refl, refl)
made_carried f g (Mkdir d n h mode owner) m ne w = (refl, refl)
made_carried f g (Symlink d n h t mode owner) m ne w = (refl, refl)
made_carried f g (Store h pre c) m ne w = let e : same_fid g h ≡ false = fid_other g h (λ x. ne (x ∙ fid_true h f m)) in (ap (λ b. cond b (earlier (w g) pre) (w g)) e, ap (λ b. cond b None (w g)) e)
made_carried f g (Setattr h pre a) m ne w = let e : same_fid g h ≡ false = fid_other g h (λ x. ne (x ∙ fid_true h f m)) in (ap (λ b. cond b (earlier (w g) pre) (w g)) e, ap (λ b. cond b None (w g)) e)
made_carried f g _ m ne w = absurd (false≢true m)

-- taking out what mentions f, and dropping
module _ (f : Fid) (p : Op → Bool) where
  pub without-kept : (d e : Debt) → SameBut f d e → (rs : List Record) → OnlyMade f rs →
      (kept p d (without f rs) ≡ without f (kept p e rs)) × SameBut f (debt p d (without f rs)) (debt p e rs)
  without-kept d e s [] m = (refl, s)
  without-kept d e s (r ∷ rs) m = go (mentioning f r.op) (p r.op) refl refl
      (λ h. without-kept d (owe e (carried r.op)) (λ g ne. s g ne ∙ sym (made_carried f g r.op (m.0 h) ne e).0) rs m.1)
      (λ h. without-kept d (paid e (carried r.op)) (λ g ne. s g ne ∙ sym (made_carried f g r.op (m.0 h) ne e).1) rs m.1)
      (without-kept (owe d (carried r.op)) (owe e (carried r.op)) (same_owe f d e (carried r.op) s) rs m.1)
      (without-kept (paid d (carried r.op)) (paid e (carried r.op)) (same_paid f d e (carried r.op) s) rs m.1)
    where
      Goal : Debt → List Record → Debt → Debt → Type 0
      Goal a l b c = Unit

      go : (x y : Bool) → mentioning f r.op ≡ x → p r.op ≡ y →
          (mentioning f r.op ≡ true → (kept p d (without f rs) ≡ without f (kept p (owe e (carried r.op)) rs)) × SameBut f (debt p d (without f rs)) (debt p (owe e (carried r.op)) rs)) →
          (mentioning f r.op ≡ true → (kept p d (without f rs) ≡ without f (kept p (paid e (carried r.op)) rs)) × SameBut f (debt p d (without f rs)) (debt p (paid e (carried r.op)) rs)) →
          (kept p (owe d (carried r.op)) (without f rs) ≡ without f (kept p (owe e (carried r.op)) rs)) × SameBut f (debt p (owe d (carried r.op)) (without f rs)) (debt p (owe e (carried r.op)) rs) →
          (kept p (paid d (carried r.op)) (without f rs) ≡ without f (kept p (paid e (carried r.op)) rs)) × SameBut f (debt p (paid d (carried r.op)) (without f rs)) (debt p (paid e (carried r.op)) rs) →
          (kept p d (cond x (without f rs) (r ∷ without f rs)) ≡ without f (cond y (kept p (owe e (carried r.op)) rs) (hand e r ∷ kept p (paid e (carried r.op)) rs)))
          × SameBut f (debt p d (cond x (without f rs) (r ∷ without f rs))) (cond y (debt p (owe e (carried r.op)) rs) (debt p (paid e (carried r.op)) rs))
      go true true hx hy one two three four = one hx
      go true false hx hy one two three four = let t = two hx in (t.0 ∙ sym (ap (λ b. cond b (without f (kept p (paid e (carried r.op)) rs)) (hand e r ∷ without f (kept p (paid e (carried r.op)) rs))) (mentioning-with_pre (λ g q. sid_or (e g) q) f r.op ∙ hx)), t.1)
      go false true hx hy one two three four = (ap (λ b. cond b (kept p (owe d (carried r.op)) (without f rs)) (hand d r ∷ kept p (paid d (carried r.op)) (without f rs))) hy ∙ three.0, λ g ne. ap (λ b. cond b (debt p (owe d (carried r.op)) (without f rs)) (debt p (paid d (carried r.op)) (without f rs)) g) hy ∙ three.1 g ne)
      go false false hx hy one two three four = (
        ap (λ b. cond b (kept p (owe d (carried r.op)) (without f rs)) (hand d r ∷ kept p (paid d (carried r.op)) (without f rs))) hy
            ∙ (λ i. hand_alike f d e s r hx i ∷ four.0 i) ∙ sym (ap (λ b. cond b (without f (kept p (paid e (carried r.op)) rs)) (hand e r ∷ without f (kept p (paid e (carried r.op)) rs))) (mentioning-with_pre (λ g q. sid_or (e g) q) f r.op ∙ hx)),
        λ g ne. ap (λ b. cond b (debt p (owe d (carried r.op)) (without f rs)) (debt p (paid d (carried r.op)) (without f rs)) g) hy ∙ four.1 g ne,
      )

  -- nothing more is owed to f there
  pub debt-without : (d : Debt) → d f ≡ None → (rs : List Record) → debt p d (without f rs) f ≡ None
  debt-without d e [] = e
  debt-without d e (r ∷ rs) = go (mentioning f r.op) (p r.op) refl refl (debt-without d e rs)
      (λ h. debt-without (owe d (carried r.op)) (owed (carried r.op) (carried_elsewhere f r.op h)) rs)
      (debt-without (paid d (carried r.op)) (cleared (carried r.op)) rs)
    where
      owed : (w : Option Over) → over_is f w ≡ false → owe d w f ≡ None
      owed None h = e
      owed (Some v) h = ap (λ b. cond b (earlier (d f) v.pre) (d f)) (fid_other f v.fid (λ k. fid_false v.fid f h (sym k))) ∙ e

      cleared : (w : Option Over) → paid d w f ≡ None
      cleared None = e
      cleared (Some v) = ap (cond (same_fid f v.fid) None) e ∙ no_change (same_fid f v.fid) None

      go : (x y : Bool) → mentioning f r.op ≡ x → p r.op ≡ y → debt p d (without f rs) f ≡ None → (mentioning f r.op ≡ false → debt p (owe d (carried r.op)) (without f rs) f ≡ None) → debt p (paid d (carried r.op)) (without f rs) f ≡ None →
          debt p d (cond x (without f rs) (r ∷ without f rs)) f ≡ None
      go true y hx hy one two three = one
      go false y hx hy one two three = cond_both (p r.op) (debt p (owe d (carried r.op)) (without f rs)) (debt p (paid d (carried r.op)) (without f rs)) (λ z. z f ≡ None) (λ h. two hx) (λ h. three)
