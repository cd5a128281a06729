-- two lists that one operation makes equal
use Rattle.std.proofs.Common.{◌≡◌, ℕ, Bool, true, false, cond, List, [], ◌∷◌, ◌++◌, Option, Some, None, refl, sym, ap, ◌∙◌, subst}
use Rattle.std.proofs.lemmas.Bool.{and_parts, and_from, false≢true}
use Rattle.coda_fid.specs.declared.fid.Fid.{Fid}
use Rattle.coda_fid.specs.declared.op.Over.{Over}
use Rattle.coda_fid.specs.declared.op.Attrs.{Attrs}
use Rattle.coda_fid.specs.declared.op.Op.{Op}
use Rattle.coda_fid.specs.declared.op.Record.{Record}
use Rattle.coda_fid.specs.declared.op.Op.TheVariants.{Remove, Rename, Rmdir, Setattr, Store}
use Rattle.coda_fid.specs.Fid.{same_fid}
use Rattle.coda_fid.specs.Op.{carried}
use Rattle.coda_cancel.specs.Handing.{Debt, earlier, hand, nothing, owe, paid, sid_or, with_over}
use Rattle.coda_cancel.specs.Dropping.{covers, drops, is_covered, part_covers, stores, writes}
use Rattle.coda_cancel.specs.Cancel.{appended, cancels, debt, kept, object}
use Rattle.coda_cancel.proofs.Keys.{fid_false, fid_other, fid_true, is_write, over_is}
use Rattle.coda_cancel.proofs.Debts.{Blind, both, both-nothing, both_assoc, carried-with_pre, debt-append, debt_all, debt_twice, dropped-with_pre, drops-with_pre, either, either_covered, either_turned, hand-both, kept-append, kept_twice, no_change, owe_inner, owe_outer, paid-with_pre, paid_both}
use Rattle.coda_cancel.proofs.Additions.{nothing_dropped}
use Rattle.coda_cancel.proofs.Passing.{dropped_carries}

pub append_nil : {A : Type 0} (xs : List A) → xs ++ [] ≡ xs
append_nil [] = refl
append_nil (x ∷ xs) = ap (λ l. x ∷ l) (append_nil xs)

-- ---- what drops what

pub writes_write : (f : Fid) (x : Op) → writes f x ≡ true → is_write x ≡ true
writes_write f (Store g pre c) e = refl
writes_write f (Setattr g pre a) e = refl
writes_write f _ e = absurd (false≢true e)

store_write : (f : Fid) (x : Op) → stores f x ≡ true → is_write x ≡ true
store_write f (Store g pre c) e = refl
store_write f _ e = absurd (false≢true e)

setattr_write : (f : Fid) (a : Attrs) (x : Op) → is_covered f a x ≡ true → is_write x ≡ true
setattr_write f a (Setattr g pre b) e = refl
setattr_write f a _ e = absurd (false≢true e)

pub drops_write : (o x : Op) → drops o x ≡ true → is_write x ≡ true
drops_write (Store f pre c) x e = store_write f x e
drops_write (Setattr f pre a) x e = setattr_write f a x e
drops_write (Remove d n f pre) x e = writes_write f x e
drops_write (Rmdir d n f pre) x e = writes_write f x e
drops_write (Rename d n y m f None) x e = absurd (false≢true e)
drops_write (Rename d n y m f (Some v)) x e = writes_write v.fid x e
drops_write _ x e = absurd (false≢true e)

store_writes : (f : Fid) (x : Op) → stores f x ≡ true → writes f x ≡ true
store_writes f (Store g pre c) e = e
store_writes f _ e = absurd (false≢true e)

setattr_writes : (f : Fid) (a : Attrs) (x : Op) → is_covered f a x ≡ true → writes f x ≡ true
setattr_writes f a (Setattr g pre b) e = (and_parts _ _ e).0
setattr_writes f a _ e = absurd (false≢true e)

part_covers_trans : (a b c : Option ℕ) → part_covers a b ≡ true → part_covers b c ≡ true → part_covers a c ≡ true
part_covers_trans (Some x) b c h k = refl
part_covers_trans None None c h k = k
part_covers_trans None (Some y) c h k = absurd (false≢true h)

covers_trans : (a b c : Attrs) → covers a b ≡ true → covers b c ≡ true → covers a c ≡ true
covers_trans a b c h k =
    let h1 = and_parts _ _ h in let h2 = and_parts _ _ h1.1 in let k1 = and_parts _ _ k in let k2 = and_parts _ _ k1.1 in
    and_from _ _ (part_covers_trans a.mode b.mode c.mode h1.0 k1.0) (and_from _ _ (part_covers_trans a.owner b.owner c.owner h2.0 k2.0) (part_covers_trans a.mtime b.mtime c.mtime h2.1 k2.1))

setattr_trans : (f : Fid) (a b : Attrs) (x : Op) → covers a b ≡ true → is_covered f b x ≡ true → is_covered f a x ≡ true
setattr_trans f a b (Setattr g pre c) h e = let k = and_parts _ _ e in and_from _ _ k.0 (covers_trans a b c h k.1)
setattr_trans f a b _ h e = absurd (false≢true e)

-- what r drops, a removal of r's object drops
pub all_writes : (f : Fid) (r x : Op) → writes f r ≡ true → drops r x ≡ true → writes f x ≡ true
all_writes f (Store g pre c) x w e = subst (λ y. writes y x ≡ true) (fid_true g f w) (store_writes g x e)
all_writes f (Setattr g pre a) x w e = subst (λ y. writes y x ≡ true) (fid_true g f w) (setattr_writes g a x e)
all_writes f _ x w e = absurd (false≢true w)

store_trans : (f : Fid) (r x : Op) → stores f r ≡ true → drops r x ≡ true → stores f x ≡ true
store_trans f (Store g pre c) x w e = subst (λ y. stores y x ≡ true) (fid_true g f w) e
store_trans f _ x w e = absurd (false≢true w)

narrower_trans : (f : Fid) (a : Attrs) (r x : Op) → is_covered f a r ≡ true → drops r x ≡ true → is_covered f a x ≡ true
narrower_trans f a (Setattr g pre b) x w e = let k = and_parts _ _ w in setattr_trans f a b x k.1 (subst (λ y. is_covered y b x ≡ true) (fid_true g f k.0) e)
narrower_trans f a _ x w e = absurd (false≢true w)

pub drops_trans : (o r x : Op) → drops o r ≡ true → drops r x ≡ true → drops o x ≡ true
drops_trans (Store f pre c) r x w e = store_trans f r x w e
drops_trans (Setattr f pre a) r x w e = narrower_trans f a r x w e
drops_trans (Remove d n f pre) r x w e = all_writes f r x w e
drops_trans (Rmdir d n f pre) r x w e = all_writes f r x w e
drops_trans (Rename d n y m f None) r x w e = absurd (false≢true w)
drops_trans (Rename d n y m f (Some v)) r x w e = all_writes v.fid r x w e
drops_trans _ r x w e = absurd (false≢true w)

pub write_stays : (r : Op) (rs : List Record) → is_write r ≡ true → cancels r rs ≡ false
write_stays (Store f pre c) rs e = refl
write_stays (Setattr f pre a) rs e = refl
write_stays _ rs e = absurd (false≢true e)

-- what is owed after r's drops is owed to r's object alone
debt_elsewhere : (p : Op → Bool) (g : Fid) → ((x : Op) → p x ≡ true → over_is g (carried x) ≡ false) → (d : Debt) → d g ≡ None → (rs : List Record) → debt p d rs g ≡ None
debt_elsewhere p g never d e [] = e
debt_elsewhere p g never d e (r ∷ rs) = go (p r.op) refl (λ h. debt_elsewhere p g never (owe d (carried r.op)) (owed (carried r.op) (never r.op h)) rs) (debt_elsewhere p g never (paid d (carried r.op)) (cleared (carried r.op)) rs)
  where
    owed : (w : Option Over) → over_is g w ≡ false → owe d w g ≡ None
    owed None h = e
    owed (Some v) h = ap (λ b. cond b (earlier (d g) v.pre) (d g)) (fid_other g v.fid (λ k. fid_false v.fid g h (sym k))) ∙ e

    cleared : (w : Option Over) → paid d w g ≡ None
    cleared None = e
    cleared (Some v) = ap (cond (same_fid g v.fid) None) e ∙ no_change (same_fid g v.fid) None

    go : (b : Bool) → p r.op ≡ b → (p r.op ≡ true → debt p (owe d (carried r.op)) rs g ≡ None) → debt p (paid d (carried r.op)) rs g ≡ None → cond b (debt p (owe d (carried r.op)) rs) (debt p (paid d (carried r.op)) rs) g ≡ None
    go true h a b = a h
    go false h a b = b

over_other : (w : Option Over) (f g : Fid) → over_is f w ≡ true → same_fid g f ≡ false → over_is g w ≡ false
over_other None f g a b = refl
over_other (Some u) f g a b = fid_other u.fid g (λ y. fid_false g f b (sym y ∙ fid_true u.fid f a))

pub paid_debt : (r : Op) (rs : List Record) → paid (debt (drops r) nothing rs) (carried r) ≡ nothing
paid_debt r rs = λ i g. at (carried r) refl g i
  where
    at : (w : Option Over) → carried r ≡ w → (g : Fid) → paid (debt (drops r) nothing rs) w g ≡ None
    at None e g = ap (λ d. d g) (debt_all (drops r) (nothing_dropped r e) rs)
    at (Some v) e g = one (same_fid g v.fid) refl
      where
        never : same_fid g v.fid ≡ false → (x : Op) → drops r x ≡ true → over_is g (carried x) ≡ false
        never h x k = over_other (carried x) v.fid g (subst (λ w. over_is (object w) (carried x) ≡ true) e (dropped_carries r x k)) h

        one : (b : Bool) → same_fid g v.fid ≡ b → cond b None (debt (drops r) nothing rs g) ≡ None
        one true h = refl
        one false h = debt_elsewhere (drops r) g (never h) nothing refl rs

-- ---- the relation

pub blind : (o : Op) → Blind (drops o)
blind o h x = dropped-with_pre h o x

pub record Near (p : Op → Bool) (y z : List Record) (w : Debt) : Type 0 where
  pub same : kept p nothing y ≡ kept p nothing z
  pub owes : debt p nothing y ≡ both (debt p nothing z) w

module _ (o : Op) where
  p : Op → Bool
  p = drops o

  -- both drops at once
  all_kept : (r : Op) (y : List Record) → kept (drops o) nothing (kept (drops r) nothing y) ≡ kept (either (drops r) (drops o)) nothing y
  all_kept r y = kept_twice (drops r) (drops o) (blind o) nothing nothing y

  all_debt : (r : Op) (y : List Record) → both (debt (drops o) nothing (kept (drops r) nothing y)) (debt (drops r) nothing y) ≡ debt (either (drops r) (drops o)) nothing y
  all_debt r y = debt_twice (drops r) (drops o) (blind o) nothing nothing y

  last_kept : (d e : Debt) (r : Record) → drops o r.op ≡ false → kept (drops o) d (hand e r ∷ []) ≡ hand (both d e) r ∷ []
  last_kept d e r k = ap (λ b. cond b [] (hand d (hand e r) ∷ [])) (blind o _ r.op ∙ k) ∙ ap (λ x. x ∷ []) (hand-both d e r)

  last_dropped : (d e : Debt) (r : Record) → drops o r.op ≡ true → kept (drops o) d (hand e r ∷ []) ≡ []
  last_dropped d e r k = ap (λ b. cond b [] (hand d (hand e r) ∷ [])) (blind o _ r.op ∙ k)

  last_paid : (d e : Debt) (r : Record) → drops o r.op ≡ false → debt (drops o) d (hand e r ∷ []) ≡ paid d (carried r.op)
  last_paid d e r k = ap (λ b. cond b (owe d (carried (hand e r).op)) (paid d (carried (hand e r).op))) (blind o _ r.op ∙ k) ∙ (ap (paid d) (carried-with_pre _ r.op) ∙ paid-with_pre _ d (carried r.op))

  last_owed : (d e : Debt) (r : Record) → drops o r.op ≡ true → debt (drops o) d (hand e r ∷ []) ≡ owe d (with_over (λ g s. sid_or (e g) s) (carried r.op))
  last_owed d e r k = ap (λ b. cond b (owe d (carried (hand e r).op)) (paid d (carried (hand e r).op))) (blind o _ r.op ∙ k) ∙ ap (owe d) (carried-with_pre _ r.op)

  -- a record that o drops is added to the one list alone
  pub near_dropped : (y z : List Record) (w : Debt) (r : Record) → Near (drops o) y z w → drops o r.op ≡ true → Near (drops o) (appended y r) z (owe w (carried r.op))
  near_dropped y z w r n k =
      let d1 : Debt = debt (drops r.op) nothing y in
      let d2 : Debt = debt (drops o) nothing (kept (drops r.op) nothing y) in
      let covered : either (drops r.op) (drops o) ≡ drops o = either_covered (drops r.op) (drops o) (λ x h. drops_trans o r.op x k h) in
      record {
        same = kept-append (drops o) nothing (kept (drops r.op) nothing y) (hand d1 r ∷ [])
            ∙ (λ i. all_kept r.op y i ++ last_dropped d2 d1 r k i) ∙ append_nil _ ∙ ap (λ q. kept q nothing y) covered ∙ n.same;
        owes = debt-append (drops o) nothing (kept (drops r.op) nothing y) (hand d1 r ∷ []) ∙ last_owed d2 d1 r k
            ∙ sym (both-nothing _) ∙ ap (both (owe d2 (with_over (λ g s. sid_or (d1 g) s) (carried r.op)))) (sym (paid_debt r.op y)) ∙ owe_outer d2 d1 (carried r.op)
            ∙ ap (λ d. owe d (carried r.op)) (all_debt r.op y ∙ ap (λ q. debt q nothing y) covered ∙ n.owes) ∙ sym (owe_inner (debt (drops o) nothing z) w (carried r.op));
      }

  module _ (y z : List Record) (w : Debt) (n : Near (drops o) y z w) (r : Op) where
    lists : kept (either (drops r) (drops o)) nothing y ≡ kept (either (drops r) (drops o)) nothing z
    lists = ap (λ q. kept q nothing y) (either_turned (drops r) (drops o)) ∙ sym (kept_twice (drops o) (drops r) (blind r) nothing nothing y)
        ∙ ap (kept (drops r) nothing) n.same ∙ kept_twice (drops o) (drops r) (blind r) nothing nothing z ∙ ap (λ q. kept q nothing z) (either_turned (drops o) (drops r))

    debts : debt (either (drops r) (drops o)) nothing y ≡ both (debt (either (drops r) (drops o)) nothing z) w
    debts = ap (λ q. debt q nothing y) (either_turned (drops r) (drops o)) ∙ sym (debt_twice (drops o) (drops r) (blind r) nothing nothing y)
        ∙ (λ i. both (debt (drops r) nothing (n.same i)) (n.owes i)) ∙ both_assoc (debt (drops r) nothing (kept (drops o) nothing z)) (debt (drops o) nothing z) w
        ∙ ap (λ d. both d w) (debt_twice (drops o) (drops r) (blind r) nothing nothing z ∙ ap (λ q. debt q nothing z) (either_turned (drops o) (drops r)))

  cleared : (r : Op) (y : List Record) → paid (debt (drops o) nothing (kept (drops r) nothing y)) (carried r) ≡ paid (debt (either (drops r) (drops o)) nothing y) (carried r)
  cleared r y = sym (both-nothing _) ∙ ap (both (paid (debt (drops o) nothing (kept (drops r) nothing y)) (carried r))) (sym (paid_debt r y)) ∙ paid_both _ _ (carried r) ∙ ap (λ d. paid d (carried r)) (all_debt r y)

  pub appended-handed : (z : List Record) (w : Debt) (r : Record) → appended z (hand w r) ≡ kept (drops r.op) nothing z ++ hand (both (debt (drops r.op) nothing z) w) r ∷ []
  appended-handed z w r = ap (λ q. kept q nothing z ++ hand (debt q nothing z) (hand w r) ∷ []) (λ i x. drops-with_pre (λ g s. sid_or (w g) s) r.op x i) ∙ ap (λ x. kept (drops r.op) nothing z ++ x ∷ []) (hand-both (debt (drops r.op) nothing z) w r)

  -- a record that stays is added to both
  pub near_kept : (y z : List Record) (w : Debt) (r : Record) → Near (drops o) y z w → drops o r.op ≡ false → Near (drops o) (appended y r) (appended z (hand w r)) (paid w (carried r.op))
  near_kept y z w r n k =
      let d1 : Debt = debt (drops r.op) nothing y in
      let d2 : Debt = debt (drops o) nothing (kept (drops r.op) nothing y) in
      let e1 : Debt = both (debt (drops r.op) nothing z) w in
      let e2 : Debt = debt (drops o) nothing (kept (drops r.op) nothing z) in
      record {
        same = kept-append (drops o) nothing (kept (drops r.op) nothing y) (hand d1 r ∷ [])
            ∙ (λ i. all_kept r.op y i ++ last_kept d2 d1 r k i)
            ∙ (λ i. lists y z w n r.op i ++ hand ((all_debt r.op y ∙ debts y z w n r.op ∙ ap (λ d. both d w) (sym (all_debt r.op z)) ∙ sym (both_assoc e2 (debt (drops r.op) nothing z) w)) i) r ∷ [])
            ∙ sym (ap (kept (drops o) nothing) (appended-handed z w r) ∙ kept-append (drops o) nothing (kept (drops r.op) nothing z) (hand e1 r ∷ []) ∙ (λ i. all_kept r.op z i ++ last_kept e2 e1 r k i));
        owes = debt-append (drops o) nothing (kept (drops r.op) nothing y) (hand d1 r ∷ []) ∙ last_paid d2 d1 r k ∙ cleared r.op y ∙ ap (λ d. paid d (carried r.op)) (debts y z w n r.op)
            ∙ sym (paid_both _ w (carried r.op)) ∙ ap (λ d. both d (paid w (carried r.op))) (sym (cleared r.op z) ∙ sym (ap (debt (drops o) nothing) (appended-handed z w r) ∙ debt-append (drops o) nothing (kept (drops r.op) nothing z) (hand e1 r ∷ []) ∙ last_paid e2 e1 r k));
      }
