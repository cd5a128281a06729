-- what is owed, and dropping by a test
use Rattle.std.proofs.Common.{◌≡◌, Bool, true, false, cond, List, [], ◌∷◌, ◌++◌, Option, Some, None, refl, sym, ap, ◌∙◌, subst, ◌||◌}
use Rattle.coda_fid.specs.declared.fid.Fid.{Fid}
use Rattle.coda_fid.specs.declared.fid.Sid.{Sid}
use Rattle.coda_fid.specs.declared.op.Over.{Over}
use Rattle.coda_fid.specs.declared.op.Attrs.{Attrs}
use Rattle.coda_fid.specs.declared.op.Op.{Op}
use Rattle.coda_fid.specs.declared.op.Record.{Record}
use Rattle.coda_fid.specs.declared.op.Op.TheVariants.{Create, Mkdir, Remove, Rename, Rmdir, Setattr, Store, Symlink}
use Rattle.coda_fid.specs.Fid.{same_fid}
use Rattle.coda_fid.specs.Op.{carried}
use Rattle.coda_cancel.specs.Handing.{Debt, earlier, hand, nothing, owe, paid, sid_or, with_over, with_pre}
use Rattle.coda_cancel.specs.Dropping.{creates, drops, is_covered, mentioning, stores, writes}
use Rattle.coda_cancel.specs.Cancel.{cancels, debt, kept}
use Rattle.coda_cancel.proofs.Keys.{fid_true, is_write}

pub with_pre_same : (h : Fid → Sid → Sid) → ((g : Fid) (p : Sid) → h g p ≡ p) → (o : Op) → with_pre h o ≡ o
with_pre_same h e (Create d n f mode owner) = refl
with_pre_same h e (Mkdir d n f mode owner) = refl
with_pre_same h e (Symlink d n f t mode owner) = refl
with_pre_same h e (Store f pre c) = λ i. Store f (e f pre i) c
with_pre_same h e (Setattr f pre a) = λ i. Setattr f (e f pre i) a
with_pre_same h e (Remove d n f pre) = λ i. Remove d n f (e f pre i)
with_pre_same h e (Rmdir d n f pre) = λ i. Rmdir d n f (e f pre i)
with_pre_same h e (Rename d n x m f None) = refl
with_pre_same h e (Rename d n x m f (Some v)) = λ i. Rename d n x m f (Some (record { fid = v.fid; pre = e v.fid v.pre i }))

pub hand-nothing : (r : Record) → hand nothing r ≡ r
hand-nothing r = λ i. record r { op = with_pre_same (λ g p. p) (λ g p. refl) r.op i }

pub no_change : {A : Type 0} (b : Bool) (x : A) → cond b x x ≡ x
no_change true x = refl
no_change false x = refl

paid_nothing_at : (w : Option Over) (g : Fid) → paid nothing w g ≡ None
paid_nothing_at None g = refl
paid_nothing_at (Some v) g = no_change (same_fid g v.fid) None

pub paid-nothing : (w : Option Over) → paid nothing w ≡ nothing
paid-nothing w i g = paid_nothing_at w g i

pub kept_all : (p : Op → Bool) → ((r : Op) → p r ≡ false) → (rs : List Record) → kept p nothing rs ≡ rs
kept_all p never [] = refl
kept_all p never (r ∷ rs) = ap (λ b. cond b (kept p (owe nothing (carried r.op)) rs) (hand nothing r ∷ kept p (paid nothing (carried r.op)) rs)) (never r.op)
    ∙ (λ i. hand-nothing r i ∷ kept p (paid-nothing (carried r.op) i) rs) ∙ ap (λ l. r ∷ l) (kept_all p never rs)

pub debt_all : (p : Op → Bool) → ((r : Op) → p r ≡ false) → (rs : List Record) → debt p nothing rs ≡ nothing
debt_all p never [] = refl
debt_all p never (r ∷ rs) = ap (λ b. cond b (debt p (owe nothing (carried r.op)) rs) (debt p (paid nothing (carried r.op)) rs)) (never r.op)
    ∙ ap (λ d. debt p d rs) (paid-nothing (carried r.op)) ∙ debt_all p never rs

-- what does not depend on the pre
module _ (h : Fid → Sid → Sid) where
  pub carried-with_pre : (o : Op) → carried (with_pre h o) ≡ with_over h (carried o)
  carried-with_pre (Rename d n x m f None) = refl
  carried-with_pre (Rename d n x m f (Some v)) = refl
  carried-with_pre _ = refl

  pub mentioning-with_pre : (f : Fid) (o : Op) → mentioning f (with_pre h o) ≡ mentioning f o
  mentioning-with_pre f (Rename d n x m g None) = refl
  mentioning-with_pre f (Rename d n x m g (Some v)) = refl
  mentioning-with_pre f _ = refl

  pub creates-with_pre : (f : Fid) (o : Op) → creates f (with_pre h o) ≡ creates f o
  creates-with_pre f (Rename d n x m g over) = refl
  creates-with_pre f _ = refl

  pub writes-with_pre : (f : Fid) (o : Op) → writes f (with_pre h o) ≡ writes f o
  writes-with_pre f (Rename d n x m g over) = refl
  writes-with_pre f _ = refl

  pub is_write-with_pre : (o : Op) → is_write (with_pre h o) ≡ is_write o
  is_write-with_pre (Rename d n x m g over) = refl
  is_write-with_pre _ = refl

  store-with_pre : (f : Fid) (o : Op) → stores f (with_pre h o) ≡ stores f o
  store-with_pre f (Store g pre c) = refl
  store-with_pre f _ = refl

  setattr-with_pre : (f : Fid) (a : Attrs) (o : Op) → is_covered f a (with_pre h o) ≡ is_covered f a o
  setattr-with_pre f a (Setattr g pre b) = refl
  setattr-with_pre f a _ = refl

  pub dropped-with_pre : (o r : Op) → drops o (with_pre h r) ≡ drops o r
  dropped-with_pre (Store f pre c) r = store-with_pre f r
  dropped-with_pre (Setattr f pre a) r = setattr-with_pre f a r
  dropped-with_pre (Remove d n f pre) r = writes-with_pre f r
  dropped-with_pre (Rmdir d n f pre) r = writes-with_pre f r
  dropped-with_pre (Rename d n x m f None) r = refl
  dropped-with_pre (Rename d n x m f (Some v)) r = writes-with_pre v.fid r
  dropped-with_pre _ r = refl

  pub drops-with_pre : (o r : Op) → drops (with_pre h o) r ≡ drops o r
  drops-with_pre (Rename d n x m f None) r = refl
  drops-with_pre (Rename d n x m f (Some v)) r = refl
  drops-with_pre _ r = refl

  pub cancels-with_pre : (o : Op) (rs : List Record) → cancels (with_pre h o) rs ≡ cancels o rs
  cancels-with_pre (Rename d n x m f None) rs = refl
  cancels-with_pre (Rename d n x m f (Some v)) rs = refl
  cancels-with_pre _ rs = refl

pub with_pre_twice : (h g k : Fid → Sid → Sid) → ((f : Fid) (p : Sid) → h f (g f p) ≡ k f p) → (o : Op) → with_pre h (with_pre g o) ≡ with_pre k o
with_pre_twice h g k e (Create d n f mode owner) = refl
with_pre_twice h g k e (Mkdir d n f mode owner) = refl
with_pre_twice h g k e (Symlink d n f t mode owner) = refl
with_pre_twice h g k e (Store f pre c) = λ i. Store f (e f pre i) c
with_pre_twice h g k e (Setattr f pre a) = λ i. Setattr f (e f pre i) a
with_pre_twice h g k e (Remove d n f pre) = λ i. Remove d n f (e f pre i)
with_pre_twice h g k e (Rmdir d n f pre) = λ i. Rmdir d n f (e f pre i)
with_pre_twice h g k e (Rename d n x m f None) = refl
with_pre_twice h g k e (Rename d n x m f (Some v)) = λ i. Rename d n x m f (Some (record { fid = v.fid; pre = e v.fid v.pre i }))

-- the one debt, and then the other where the first has none
abbrev pub or_sid : Option Sid → Option Sid → Option Sid
or_sid (Some s) t = Some s
or_sid None t = t

abbrev pub both : Debt → Debt → Debt
both a b f = or_sid (a f) (b f)

sid_or_both : (a b : Option Sid) (p : Sid) → sid_or a (sid_or b p) ≡ sid_or (or_sid a b) p
sid_or_both (Some s) b p = refl
sid_or_both None b p = refl

pub hand-both : (a b : Debt) (r : Record) → hand a (hand b r) ≡ hand (both a b) r
hand-both a b r = λ i. record r { op = with_pre_twice (λ g p. sid_or (a g) p) (λ g p. sid_or (b g) p) (λ g p. sid_or (both a b g) p) (λ g p. sid_or_both (a g) (b g) p) r.op i }

or_earlier : (a b : Option Sid) (p : Sid) → or_sid a (earlier b p) ≡ earlier (or_sid a b) p
or_earlier (Some s) b p = refl
or_earlier None b p = refl

or_none : (a : Option Sid) → or_sid a None ≡ a
or_none (Some s) = refl
or_none None = refl

or_assoc : (a b c : Option Sid) → or_sid a (or_sid b c) ≡ or_sid (or_sid a b) c
or_assoc (Some s) b c = refl
or_assoc None b c = refl

pub both-nothing : (a : Debt) → both a nothing ≡ a
both-nothing a i f = or_none (a f) i

pub both_assoc : (a b c : Debt) → both a (both b c) ≡ both (both a b) c
both_assoc a b c i f = or_assoc (a f) (b f) (c f) i

-- the inner one drops
pub owe_inner : (a b : Debt) (w : Option Over) → both a (owe b w) ≡ owe (both a b) w
owe_inner a b None = refl
owe_inner a b (Some v) = λ i g. at g (same_fid g v.fid) i
  where
    at : (g : Fid) (x : Bool) → or_sid (a g) (cond x (earlier (b g) v.pre) (b g)) ≡ cond x (earlier (or_sid (a g) (b g)) v.pre) (or_sid (a g) (b g))
    at g true = or_earlier (a g) (b g) v.pre
    at g false = refl

-- the inner one keeps, and the outer one drops
pub owe_outer : (a b : Debt) (w : Option Over) → both (owe a (with_over (λ g p. sid_or (b g) p) w)) (paid b w) ≡ owe (both a b) w
owe_outer a b None = refl
owe_outer a b (Some v) = λ i g. at g (same_fid g v.fid) refl i
  where
    here : (x y : Option Sid) → or_sid (earlier x (sid_or y v.pre)) None ≡ earlier (or_sid x y) v.pre
    here (Some s) y = refl
    here None (Some t) = refl
    here None None = refl

    at : (g : Fid) (x : Bool) → same_fid g v.fid ≡ x → or_sid (cond x (earlier (a g) (sid_or (b v.fid) v.pre)) (a g)) (cond x None (b g)) ≡ cond x (earlier (or_sid (a g) (b g)) v.pre) (or_sid (a g) (b g))
    at g true e = subst (λ y. or_sid (earlier (a g) (sid_or (b y) v.pre)) None ≡ earlier (or_sid (a g) (b g)) v.pre) (fid_true g v.fid e) (here (a g) (b g))
    at g false e = refl

-- both keep
pub paid_both : (a b : Debt) (w : Option Over) → both (paid a w) (paid b w) ≡ paid (both a b) w
paid_both a b None = refl
paid_both a b (Some v) = λ i g. at g (same_fid g v.fid) i
  where
    at : (g : Fid) (x : Bool) → or_sid (cond x None (a g)) (cond x None (b g)) ≡ cond x None (or_sid (a g) (b g))
    at g true = refl
    at g false = refl

pub paid-with_pre : (h : Fid → Sid → Sid) (a : Debt) (w : Option Over) → paid a (with_over h w) ≡ paid a w
paid-with_pre h a None = refl
paid-with_pre h a (Some v) = refl

abbrev pub either : (Op → Bool) → (Op → Bool) → Op → Bool
either p q r = p r || q r

abbrev pub Blind : (Op → Bool) → Type 0
Blind p = (h : Fid → Sid → Sid) (o : Op) → p (with_pre h o) ≡ p o

-- to drop by p and then by q is to drop by either
module _ (p q : Op → Bool) (blind : Blind q) where
  pub kept_twice : (a b : Debt) (rs : List Record) → kept q a (kept p b rs) ≡ kept (either p q) (both a b) rs
  kept_twice a b [] = refl
  kept_twice a b (r ∷ rs) = go (p r.op) (q r.op) refl
      (kept_twice a (owe b (carried r.op)) rs ∙ ap (λ d. kept (either p q) d rs) (owe_inner a b (carried r.op)))
      (ap (λ w. kept q (owe a w) (kept p (paid b (carried r.op)) rs)) (carried-with_pre (λ g s. sid_or (b g) s) r.op) ∙ (kept_twice _ (paid b (carried r.op)) rs ∙ ap (λ d. kept (either p q) d rs) (owe_outer a b (carried r.op))))
      ((λ i. hand-both a b r i ∷ kept q (paid a (carried-with_pre (λ g s. sid_or (b g) s) r.op i)) (kept p (paid b (carried r.op)) rs)) ∙ ap (λ l. hand (both a b) r ∷ l) (ap (λ d. kept q d (kept p (paid b (carried r.op)) rs)) (paid-with_pre _ a (carried r.op)) ∙ (kept_twice (paid a (carried r.op)) (paid b (carried r.op)) rs ∙ ap (λ d. kept (either p q) d rs) (paid_both a b (carried r.op)))))
    where
      inner : List Record
      inner = kept p (paid b (carried r.op)) rs

      go : (x y : Bool) → q r.op ≡ y →
          kept q a (kept p (owe b (carried r.op)) rs) ≡ kept (either p q) (owe (both a b) (carried r.op)) rs →
          kept q (owe a (carried (hand b r).op)) (kept p (paid b (carried r.op)) rs) ≡ kept (either p q) (owe (both a b) (carried r.op)) rs →
          hand a (hand b r) ∷ kept q (paid a (carried (hand b r).op)) (kept p (paid b (carried r.op)) rs) ≡ hand (both a b) r ∷ kept (either p q) (paid (both a b) (carried r.op)) rs →
          kept q a (cond x (kept p (owe b (carried r.op)) rs) (hand b r ∷ kept p (paid b (carried r.op)) rs)) ≡ cond (x || y) (kept (either p q) (owe (both a b) (carried r.op)) rs) (hand (both a b) r ∷ kept (either p q) (paid (both a b) (carried r.op)) rs)
      go true y e one two three = one
      go false true e one two three = ap (λ z. cond z (kept q (owe a (carried (hand b r).op)) (kept p (paid b (carried r.op)) rs)) (hand a (hand b r) ∷ kept q (paid a (carried (hand b r).op)) (kept p (paid b (carried r.op)) rs))) (blind _ r.op ∙ e) ∙ two
      go false false e one two three = ap (λ z. cond z (kept q (owe a (carried (hand b r).op)) (kept p (paid b (carried r.op)) rs)) (hand a (hand b r) ∷ kept q (paid a (carried (hand b r).op)) (kept p (paid b (carried r.op)) rs))) (blind _ r.op ∙ e) ∙ three

  pub debt_twice : (a b : Debt) (rs : List Record) → both (debt q a (kept p b rs)) (debt p b rs) ≡ debt (either p q) (both a b) rs
  debt_twice a b [] = refl
  debt_twice a b (r ∷ rs) = go (p r.op) (q r.op) refl
      (debt_twice a (owe b (carried r.op)) rs ∙ ap (λ d. debt (either p q) d rs) (owe_inner a b (carried r.op)))
      (ap (λ w. both (debt q (owe a w) (kept p (paid b (carried r.op)) rs)) (debt p (paid b (carried r.op)) rs)) (carried-with_pre (λ g s. sid_or (b g) s) r.op) ∙ (debt_twice _ (paid b (carried r.op)) rs ∙ ap (λ d. debt (either p q) d rs) (owe_outer a b (carried r.op))))
      (ap (λ d. both (debt q d (kept p (paid b (carried r.op)) rs)) (debt p (paid b (carried r.op)) rs)) (ap (paid a) (carried-with_pre (λ g s. sid_or (b g) s) r.op) ∙ paid-with_pre _ a (carried r.op)) ∙ (debt_twice (paid a (carried r.op)) (paid b (carried r.op)) rs ∙ ap (λ d. debt (either p q) d rs) (paid_both a b (carried r.op))))
    where
      pick : (x y : Bool) → x ≡ y → (d e f : Debt) → both (cond y d e) f ≡ both (cond x d e) f
      pick x y e d1 d2 f = ap (λ z. both (cond z d1 d2) f) (sym e)

      go : (x y : Bool) → q r.op ≡ y →
          both (debt q a (kept p (owe b (carried r.op)) rs)) (debt p (owe b (carried r.op)) rs) ≡ debt (either p q) (owe (both a b) (carried r.op)) rs →
          both (debt q (owe a (carried (hand b r).op)) (kept p (paid b (carried r.op)) rs)) (debt p (paid b (carried r.op)) rs) ≡ debt (either p q) (owe (both a b) (carried r.op)) rs →
          both (debt q (paid a (carried (hand b r).op)) (kept p (paid b (carried r.op)) rs)) (debt p (paid b (carried r.op)) rs) ≡ debt (either p q) (paid (both a b) (carried r.op)) rs →
          both (debt q a (cond x (kept p (owe b (carried r.op)) rs) (hand b r ∷ kept p (paid b (carried r.op)) rs))) (cond x (debt p (owe b (carried r.op)) rs) (debt p (paid b (carried r.op)) rs)) ≡ cond (x || y) (debt (either p q) (owe (both a b) (carried r.op)) rs) (debt (either p q) (paid (both a b) (carried r.op)) rs)
      go true y e one two three = one
      go false true e one two three = pick _ _ (sym (blind _ r.op ∙ e)) _ _ _ ∙ two
      go false false e one two three = pick _ _ (sym (blind _ r.op ∙ e)) _ _ _ ∙ three

-- over joined lists
pub kept-append : (p : Op → Bool) (d : Debt) (rs os : List Record) → kept p d (rs ++ os) ≡ kept p d rs ++ kept p (debt p d rs) os
kept-append p d [] os = refl
kept-append p d (r ∷ rs) os = go (p r.op) (kept-append p (owe d (carried r.op)) rs os) (ap (λ l. hand d r ∷ l) (kept-append p (paid d (carried r.op)) rs os))
  where
    go : (x : Bool) → kept p (owe d (carried r.op)) (rs ++ os) ≡ kept p (owe d (carried r.op)) rs ++ kept p (debt p (owe d (carried r.op)) rs) os →
        hand d r ∷ kept p (paid d (carried r.op)) (rs ++ os) ≡ (hand d r ∷ kept p (paid d (carried r.op)) rs) ++ kept p (debt p (paid d (carried r.op)) rs) os →
        cond x (kept p (owe d (carried r.op)) (rs ++ os)) (hand d r ∷ kept p (paid d (carried r.op)) (rs ++ os)) ≡ cond x (kept p (owe d (carried r.op)) rs) (hand d r ∷ kept p (paid d (carried r.op)) rs) ++ kept p (cond x (debt p (owe d (carried r.op)) rs) (debt p (paid d (carried r.op)) rs)) os
    go true a b = a
    go false a b = b

pub debt-append : (p : Op → Bool) (d : Debt) (rs os : List Record) → debt p d (rs ++ os) ≡ debt p (debt p d rs) os
debt-append p d [] os = refl
debt-append p d (r ∷ rs) os = go (p r.op) (debt-append p (owe d (carried r.op)) rs os) (debt-append p (paid d (carried r.op)) rs os)
  where
    go : (x : Bool) → debt p (owe d (carried r.op)) (rs ++ os) ≡ debt p (debt p (owe d (carried r.op)) rs) os → debt p (paid d (carried r.op)) (rs ++ os) ≡ debt p (debt p (paid d (carried r.op)) rs) os →
        cond x (debt p (owe d (carried r.op)) (rs ++ os)) (debt p (paid d (carried r.op)) (rs ++ os)) ≡ debt p (cond x (debt p (owe d (carried r.op)) rs) (debt p (paid d (carried r.op)) rs)) os
    go true a b = a
    go false a b = b

pub either_covered : (p q : Op → Bool) → ((r : Op) → p r ≡ true → q r ≡ true) → either p q ≡ q
either_covered p q c = λ i r. go r (p r) refl i
  where
    go : (r : Op) (x : Bool) → p r ≡ x → (x || q r) ≡ q r
    go r true e = sym (c r e)
    go r false e = refl

pub either_turned : (p q : Op → Bool) → either p q ≡ either q p
either_turned p q = λ i r. go (p r) (q r) i
  where
    go : (x y : Bool) → (x || y) ≡ (y || x)
    go true true = refl
    go true false = refl
    go false true = refl
    go false false = refl
