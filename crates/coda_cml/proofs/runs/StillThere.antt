-- what an operation of the tail drops in the tail's own fold, it drops in the fold of the whole
use Rattle.std.proofs.Common.{◌≡◌, ◌≢◌, ℕ, Bool, true, false, cond, List, [], ◌∷◌, ◌++◌, refl, sym, ap, ◌∙◌, subst, ⊎_elim, inl, inr, ◌⊎◌, ◌&&◌, ◌||◌, not, append_assoc}
use Rattle.std.proofs.lemmas.Bool.{cond_both, and_parts, and_from, or_parts, or_cases, or_left, or_right, not-true, false≢true, false_from_ne_true}
use Rattle.coda_fid.specs.declared.fid.Fid.{Fid}
use Rattle.coda_fid.specs.declared.op.Op.{Op}
use Rattle.coda_fid.specs.declared.op.Record.{Record}
use Rattle.coda_fid.specs.declared.op.Op.TheVariants.{Create, Mkdir, Remove, Rmdir, Setattr, Store, Symlink}
use Rattle.coda_fid.specs.Fid.{same_fid}
use Rattle.coda_fid.specs.Op.{carried}
use Rattle.coda_cancel.specs.Handing.{Debt, hand, nothing, owe, paid, sid_or}
use Rattle.coda_cancel.specs.Dropping.{creates, drops, mentioning, writes}
use Rattle.coda_cancel.specs.Cancel.{add, added, appended, cancels, debt, kept, object, without}
use Rattle.coda_cancel.specs.Numbers.{dropped, numbers}
use Rattle.coda_cancel.proofs.Keys.{fid_same, fid_true, is_write}
use Rattle.coda_cml.specs.Steady.{GoesOn, any_record, makes_in}
use Rattle.coda_cml.specs.Lean.{IsLean, NothingNeedlessStays}
use Rattle.coda_cancel.proofs.Debts.{Blind, creates-with_pre, dropped-with_pre, drops-with_pre, writes-with_pre}
use Rattle.coda_cml.proofs.runs.AlmostAlike.{writes_write, append_nil, blind, drops_write, write_stays}
use Rattle.coda_cml.proofs.runs.OtherRecords.{OnlyMade}
use Rattle.coda_cml.proofs.runs.InStep.{add_stays, cancels_seen, only_made_of}
use Rattle.coda_cml.proofs.runs.WithoutObject.{any-append, any_kept_sub, any_sub, nothing_in}
use Rattle.coda_cml.proofs.runs.ThawedFold.{SafeRun, cancels_created, cancels_drops, creates_in_add, safe_goes, safe_stays, step_goes, step_stays, still_goes, writes_mentions}
use Rattle.coda_cml.proofs.runs.JoinedNumbers.{In, IsJoined}

blind_first : (r : Op) → Blind (λ x. drops x r)
blind_first r h x = drops-with_pre h x r

lean_kept : (p : Op → Bool) (d : Debt) (rs : List Record) → IsLean rs → IsLean (kept p d rs)
lean_kept p d [] a = tt
lean_kept p d (r ∷ rs) a = cond_both (p r.op) (kept p (owe d (carried r.op)) rs) (hand d r ∷ kept p (paid d (carried r.op)) rs) IsLean
    (λ e. lean_kept p (owe d (carried r.op)) rs a.1)
    (λ e. (false_from_ne_true _ (λ h. false≢true (sym a.0 ∙ (ap (λ t. any_record t rs) (λ i x. sym (dropped-with_pre (λ g q. sid_or (d g) q) x r.op) i) ∙ any_kept_sub (λ x. drops x (hand d r).op) (blind_first (hand d r).op) p (paid d (carried r.op)) rs h))), lean_kept p (paid d (carried r.op)) rs a.1))

lean_without : (f : Fid) (rs : List Record) → IsLean rs → IsLean (without f rs)
lean_without f [] a = tt
lean_without f (r ∷ rs) a = cond_both (mentioning f r.op) (without f rs) (r ∷ without f rs) IsLean
    (λ e. lean_without f rs a.1)
    (λ e. (false_from_ne_true _ (λ h. false≢true (sym a.0 ∙ any_sub (λ x. drops x r.op) f rs h)), lean_without f rs a.1))

none_kept : (p : Op → Bool) → Blind p → (d : Debt) (rs : List Record) → any_record p (kept p d rs) ≡ false
none_kept p b d [] = refl
none_kept p b d (r ∷ rs) = go (p r.op) refl (none_kept p b (owe d (carried r.op)) rs) (none_kept p b (paid d (carried r.op)) rs)
  where
    go : (c : Bool) → p r.op ≡ c → any_record p (kept p (owe d (carried r.op)) rs) ≡ false → any_record p (kept p (paid d (carried r.op)) rs) ≡ false → any_record p (cond c (kept p (owe d (carried r.op)) rs) (hand d r ∷ kept p (paid d (carried r.op)) rs)) ≡ false
    go true e x y = x
    go false e x y = λ i. (b (λ g q. sid_or (d g) q) r.op ∙ e) i || y i

lean_append : (rs : List Record) (o : Record) → IsLean rs → any_record (drops o.op) rs ≡ false → IsLean (rs ++ o ∷ [])
lean_append [] o a n = (refl, tt)
lean_append (r ∷ rs) o a n =
    let k = or_parts (drops o.op r.op) (any_record (drops o.op) rs) n in
    (any-append (λ x. drops x r.op) rs (o ∷ []) ∙ (λ i. a.0 i || (k.0 i || false)), lean_append rs o a.1 k.1)

pub lean_add : (rs : List Record) (o : Record) → IsLean rs → IsLean (add rs o)
lean_add rs o a = cond_both (cancels o.op rs) (without (object (carried o.op)) rs) (appended rs o) IsLean
    (λ e. lean_without (object (carried o.op)) rs a)
    (λ e. lean_append (kept (drops o.op) nothing rs) (hand (debt (drops o.op) nothing rs) o) (lean_kept (drops o.op) nothing rs a)
    (ap (λ t. any_record t (kept (drops o.op) nothing rs)) (λ i x. drops-with_pre (λ g q. sid_or (debt (drops o.op) nothing rs g) q) o.op x i) ∙ none_kept (drops o.op) (blind o.op) nothing rs))

lean_added : (rs os : List Record) → IsLean rs → IsLean (added rs os)
lean_added rs [] a = a
lean_added rs (o ∷ os) a = lean_added (add rs o) os (lean_add rs o a)

pub nothing_needless : NothingNeedlessStays
nothing_needless run = lean_added [] run tt

-- ---- numbers

pub numbers-append : (t : Op → Bool) (rs os : List Record) → numbers t (rs ++ os) ≡ numbers t rs ++ numbers t os
numbers-append t [] os = refl
numbers-append t (r ∷ rs) os = go (t r.op) (numbers-append t rs os)
  where
    go : (b : Bool) → numbers t (rs ++ os) ≡ numbers t rs ++ numbers t os → cond b (r.number ∷ numbers t (rs ++ os)) (numbers t (rs ++ os)) ≡ cond b (r.number ∷ numbers t rs) (numbers t rs) ++ numbers t os
    go true e = ap (λ l. r.number ∷ l) e
    go false e = e

in_left : (i : ℕ) (xs ys : List ℕ) → In i xs → In i (xs ++ ys)
in_left i [] ys h = absurd h
in_left i (x ∷ xs) ys (inl e) = inl e
in_left i (x ∷ xs) ys (inr h) = inr (in_left i xs ys h)

in_right : (i : ℕ) (xs ys : List ℕ) → In i ys → In i (xs ++ ys)
in_right i [] ys h = h
in_right i (x ∷ xs) ys h = inr (in_right i xs ys h)

in_weaker : (t u : Op → Bool) → ((o : Op) → t o ≡ true → u o ≡ true) → (i : ℕ) (rs : List Record) → In i (numbers t rs) → In i (numbers u rs)
in_weaker t u f i [] h = h
in_weaker t u f i (r ∷ rs) h = go (t r.op) (u r.op) refl refl (in_weaker t u f i rs) h
  where
    go : (a b : Bool) → t r.op ≡ a → u r.op ≡ b → (In i (numbers t rs) → In i (numbers u rs)) → In i (cond a (r.number ∷ numbers t rs) (numbers t rs)) → In i (cond b (r.number ∷ numbers u rs) (numbers u rs))
    go true true x y more (inl e) = inl e
    go true true x y more (inr h) = inr (more h)
    go true false x y more h = absurd (false≢true (sym y ∙ f r.op x))
    go false true x y more h = inr (more h)
    go false false x y more h = more h

in_kept : (t : Op → Bool) → Blind t → (p : Op → Bool) → ((o : Op) → t o ≡ true → p o ≡ false) → (d : Debt) (i : ℕ) (rs : List Record) → In i (numbers t rs) → In i (numbers t (kept p d rs))
in_kept t b p n d i [] h = h
in_kept t b p n d i (r ∷ rs) h = go (t r.op) (p r.op) refl refl (in_kept t b p n (owe d (carried r.op)) i rs) (in_kept t b p n (paid d (carried r.op)) i rs) h
  where
    go : (a c : Bool) → t r.op ≡ a → p r.op ≡ c → (In i (numbers t rs) → In i (numbers t (kept p (owe d (carried r.op)) rs))) → (In i (numbers t rs) → In i (numbers t (kept p (paid d (carried r.op)) rs))) →
        In i (cond a (r.number ∷ numbers t rs) (numbers t rs)) → In i (numbers t (cond c (kept p (owe d (carried r.op)) rs) (hand d r ∷ kept p (paid d (carried r.op)) rs)))
    go true true x y one two h = absurd (false≢true (sym (n r.op x) ∙ y))
    go false true x y one two h = one h
    go a false x y one two h = subst (λ z. In i (cond z (r.number ∷ numbers t (kept p (paid d (carried r.op)) rs)) (numbers t (kept p (paid d (carried r.op)) rs)))) (sym (b (λ g q. sid_or (d g) q) r.op ∙ x)) (under a two h)
      where
        under : (z : Bool) → (In i (numbers t rs) → In i (numbers t (kept p (paid d (carried r.op)) rs))) → In i (cond z (r.number ∷ numbers t rs) (numbers t rs)) → In i (cond z (r.number ∷ numbers t (kept p (paid d (carried r.op)) rs)) (numbers t (kept p (paid d (carried r.op)) rs)))
        under true two (inl e) = inl e
        under true two (inr h) = inr (two h)
        under false two h = two h

in_without : (t : Op → Bool) (f : Fid) (i : ℕ) (rs : List Record) → any_record (λ o. t o && mentioning f o) rs ≡ false → In i (numbers t rs) → In i (numbers t (without f rs))
in_without t f i [] n h = h
in_without t f i (r ∷ rs) n h = go (t r.op) (mentioning f r.op) refl refl (or_parts (t r.op && mentioning f r.op) (any_record (λ o. t o && mentioning f o) rs) n).0 (in_without t f i rs (or_parts (t r.op && mentioning f r.op) (any_record (λ o. t o && mentioning f o) rs) n).1) h
  where
    go : (a b : Bool) → t r.op ≡ a → mentioning f r.op ≡ b → (t r.op && mentioning f r.op) ≡ false → (In i (numbers t rs) → In i (numbers t (without f rs))) → In i (cond a (r.number ∷ numbers t rs) (numbers t rs)) → In i (numbers t (cond b (without f rs) (r ∷ without f rs)))
    go true true x y n more h = absurd (false≢true (sym n ∙ (λ i. x i && y i)))
    go false true x y n more h = more h
    go true false x y n more (inl e) = subst (λ z. In i (cond z (r.number ∷ numbers t (without f rs)) (numbers t (without f rs)))) (sym x) (inl e)
    go true false x y n more (inr h) = subst (λ z. In i (cond z (r.number ∷ numbers t (without f rs)) (numbers t (without f rs)))) (sym x) (inr (more h))
    go false false x y n more h = subst (λ z. In i (cond z (r.number ∷ numbers t (without f rs)) (numbers t (without f rs)))) (sym x) (more h)

in_last : (t : Op → Bool) → Blind t → (rs : List Record) (d : Debt) (r : Record) (i : ℕ) → t r.op ≡ true → i ≡ r.number → In i (numbers t (rs ++ hand d r ∷ []))
in_last t b rs d r i e n = subst (In i) (sym (numbers-append t rs (hand d r ∷ []))) (in_right i (numbers t rs) (numbers t (hand d r ∷ [])) (subst (λ z. In i (cond z (r.number ∷ []) [])) (sym (b (λ g q. sid_or (d g) q) r.op ∙ e)) (inl n)))

in_appended : (t : Op → Bool) → Blind t → (x : Record) → ((o : Op) → t o ≡ true → drops x.op o ≡ false) → (i : ℕ) (y : List Record) → In i (numbers t y) → In i (numbers t (appended y x))
in_appended t b x n i y h = subst (In i) (sym (numbers-append t (kept (drops x.op) nothing y) (hand (debt (drops x.op) nothing y) x ∷ []))) (in_left i (numbers t (kept (drops x.op) nothing y)) _ (in_kept t b (drops x.op) n nothing i y h))

only_left : (x : Bool) → (x || false) ≡ true → x ≡ true
only_left true e = refl
only_left false e = e

-- ---- Stores and Setattrs

write_of : (f : Fid) (o : Op) → is_write o ≡ true → mentioning f o ≡ true → writes f o ≡ true
write_of f (Store g pre c) e m = only_left (same_fid g f) m
write_of f (Setattr g pre a) e m = only_left (same_fid g f) m
write_of f _ e m = absurd (false≢true e)

cancels_writes : (x : Op) (y : List Record) → cancels x y ≡ true → (o : Op) → is_write o ≡ true → mentioning (object (carried x)) o ≡ true → drops x o ≡ true
cancels_writes (Remove d n f pre) y e o w m = write_of f o w m
cancels_writes (Rmdir d n f pre) y e o w m = write_of f o w m
cancels_writes _ y e o w m = absurd (false≢true e)

module _ (u : Op → Bool) (b : Blind u) (writing : (o : Op) → u o ≡ true → is_write o ≡ true) (i : ℕ) where
  stays_one : (x : Record) → ((o : Op) → u o ≡ true → drops x.op o ≡ false) → (y : List Record) → In i (numbers u y) → In i (numbers u (add y x))
  stays_one x n y h = cond_both (cancels x.op y) (without (object (carried x.op)) y) (appended y x) (λ l. In i (numbers u l))
      (λ e. in_without u (object (carried x.op)) i y (quiet e y) h)
      (λ e. in_appended u b x n i y h)
    where
      one : cancels x.op y ≡ true → (o : Op) → (u o && mentioning (object (carried x.op)) o) ≡ true → ⊥
      one e o k = let a = and_parts (u o) (mentioning (object (carried x.op)) o) k in false≢true (sym (n o a.0) ∙ cancels_writes x.op y e o (writing o a.0) a.1)

      quiet : cancels x.op y ≡ true → (l : List Record) → any_record (λ o. u o && mentioning (object (carried x.op)) o) l ≡ false
      quiet e l = go l
        where
          go : (l : List Record) → any_record (λ o. u o && mentioning (object (carried x.op)) o) l ≡ false
          go [] = refl
          go (r ∷ l) = λ i. false_from_ne_true _ (one e r.op) i || go l i

  stays_all : (rs y : List Record) → ((o : Op) → u o ≡ true → any_record (λ x. drops x o) rs ≡ false) → In i (numbers u y) → In i (numbers u (added y rs))
  stays_all [] y n h = h
  stays_all (x ∷ rs) y n h = stays_all rs (add y x) (λ o e. (or_parts (drops x.op o) (any_record (λ z. drops z o) rs) (n o e)).1) (stays_one x (λ o e. (or_parts (drops x.op o) (any_record (λ z. drops z o) rs) (n o e)).0) y h)

-- a Store or Setattr of a reduced list is still there after the list is added
pub write_there : (t : Op → Bool) → Blind t → ((o : Op) → t o ≡ true → is_write o ≡ true) → (i : ℕ) (rs y : List Record) → IsLean rs → In i (numbers t rs) → In i (numbers t (added y rs))
write_there t b writing i [] y a h = absurd h
write_there t b writing i (r ∷ rs) y a h = go (t r.op) refl h (write_there t b writing i rs (add y r) a.1)
  where
    u : Op → Bool
    u o = t o && not (any_record (λ x. drops x o) rs)

    go : (c : Bool) → t r.op ≡ c → In i (cond c (r.number ∷ numbers t rs) (numbers t rs)) → (In i (numbers t rs) → In i (numbers t (added (add y r) rs))) → In i (numbers t (added (add y r) rs))
    go true e (inl n) more = in_weaker (λ o. t o && not (any_record (λ x. drops x o) rs)) t (λ o k. (and_parts (t o) (not (any_record (λ x. drops x o) rs)) k).0) i (added (add y r) rs)
        (stays_all (λ o. t o && not (any_record (λ x. drops x o) rs)) (λ h o. λ i. b h o i && not (any_record (λ x. dropped-with_pre h x o i) rs)) (λ o k. writing o (and_parts (t o) (not (any_record (λ x. drops x o) rs)) k).0) i rs (add y r)
        (λ o k. not-true (any_record (λ x. drops x o) rs) (and_parts (t o) (not (any_record (λ x. drops x o) rs)) k).1)
        (subst (λ l. In i (numbers (λ o. t o && not (any_record (λ x. drops x o) rs)) l)) (sym (add_stays y r (write_stays r.op y (writing r.op e))))
        (in_last (λ o. t o && not (any_record (λ x. drops x o) rs)) (λ h o. λ i. b h o i && not (any_record (λ x. dropped-with_pre h x o i) rs)) (kept (drops r.op) nothing y) (debt (drops r.op) nothing y) r i (λ i. e i && not (a.0 i)) n)))
    go true e (inr h) more = more h
    go false e h more = more h

-- ---- creations

pub creates_mentions : (f : Fid) (o : Op) → creates f o ≡ true → mentioning f o ≡ true
creates_mentions f (Create d n g mode owner) e = or_right (same_fid d f) (same_fid g f || false) (or_left (same_fid g f) false e)
creates_mentions f (Mkdir d n g mode owner) e = or_right (same_fid d f) (same_fid g f || false) (or_left (same_fid g f) false e)
creates_mentions f (Symlink d n g t mode owner) e = or_right (same_fid d f) (same_fid g f || false) (or_left (same_fid g f) false e)
creates_mentions f _ e = absurd (false≢true e)

creation_apart : (d h f g : Fid) → f ≢ g → same_fid h f ≡ true → (same_fid d g || (same_fid h g || false)) ≡ true → (same_fid d g && same_fid h f) ≡ true
creation_apart d h f g ne e m = ⊎_elim (λ (a : same_fid d g ≡ true). and_from (same_fid d g) (same_fid h f) a e) (λ (b : (same_fid h g || false) ≡ true). absurd (ne (sym (fid_true h f e) ∙ fid_true h g (only_left (same_fid h g) b)))) (or_cases (same_fid d g) (same_fid h g || false) m)

-- a creation of f that mentions g creates f in g
pub creates_in : (f g : Fid) → f ≢ g → (o : Op) → creates f o ≡ true → mentioning g o ≡ true → makes_in g f o ≡ true
creates_in f g ne (Create d n h mode owner) e m = creation_apart d h f g ne e m
creates_in f g ne (Mkdir d n h mode owner) e m = creation_apart d h f g ne e m
creates_in f g ne (Symlink d n h t mode owner) e m = creation_apart d h f g ne e m
creates_in f g ne _ e m = absurd (false≢true e)

pub quiet_creations : (f g : Fid) → f ≢ g → (rs : List Record) → any_record (makes_in g f) rs ≡ false → any_record (λ o. creates f o && mentioning g o) rs ≡ false
quiet_creations f g ne [] e = refl
quiet_creations f g ne (r ∷ rs) e =
    let k = or_parts (makes_in g f r.op) (any_record (makes_in g f) rs) e in
    λ i. false_from_ne_true (creates f r.op && mentioning g r.op) (λ h. let a = and_parts (creates f r.op) (mentioning g r.op) h in false≢true (sym k.0 ∙ creates_in f g ne r.op a.0 a.1)) i || quiet_creations f g ne rs k.1 i

pub creates_not_write : (f : Fid) (o : Op) → creates f o ≡ true → is_write o ≡ false
creates_not_write f (Create d n g mode owner) e = refl
creates_not_write f (Mkdir d n g mode owner) e = refl
creates_not_write f (Symlink d n g t mode owner) e = refl
creates_not_write f _ e = absurd (false≢true e)

never_dropped : (f : Fid) (x o : Op) → creates f o ≡ true → drops x o ≡ false
never_dropped f x o e = false_from_ne_true _ (λ h. false≢true (sym (creates_not_write f o e) ∙ drops_write x o h))

blind_creates : (f : Fid) → Blind (creates f)
blind_creates f h o = creates-with_pre h f o

-- a cancelling operation mentions its object, and makes nothing
cancels_other : (x : Op) (y : List Record) (f : Fid) → cancels x y ≡ true → (mentioning f x ≡ true → (creates f x || writes f x) ≡ true) → f ≢ object (carried x)
cancels_other (Remove d n g pre) y f e m h = false≢true (m (or_right (same_fid d f) (same_fid g f || false) (or_left (same_fid g f) false (fid_is g f (sym h)))))
  where
    fid_is : (a b : Fid) → a ≡ b → same_fid a b ≡ true
    fid_is a b e = fid_same a b e
cancels_other (Rmdir d n g pre) y f e m h = false≢true (m (or_right (same_fid d f) (same_fid g f || false) (or_left (same_fid g f) false (fid_same g f (sym h)))))
cancels_other _ y f e m h = false≢true e

module _ (f : Fid) (i : ℕ) where
  creation_stays : (x : Record) → (mentioning f x.op ≡ true → (creates f x.op || writes f x.op) ≡ true) → (y : List Record) → In i (numbers (creates f) y) → In i (numbers (creates f) (add y x))
  creation_stays x m y h = cond_both (cancels x.op y) (without (object (carried x.op)) y) (appended y x) (λ l. In i (numbers (creates f) l))
      (λ e. let ne = cancels_other x.op y f e m in
      in_without (creates f) (object (carried x.op)) i y (quiet_creations f (object (carried x.op)) ne y (nothing_in (object (carried x.op)) f ne y (only_made_of (object (carried x.op)) y (cancels_seen x.op y e).0))) h)
      (λ e. in_appended (creates f) (blind_creates f) x (λ o k. never_dropped f x.op o k) i y h)

  creation_stays_all : (rs y : List Record) → OnlyMade f rs → In i (numbers (creates f) y) → In i (numbers (creates f) (added y rs))
  creation_stays_all [] y m h = h
  creation_stays_all (x ∷ rs) y m h = creation_stays_all rs (add y x) m.1 (creation_stays x m.0 y h)

  pub makes_stays : (r : Op) (y : List Record) → creates f r ≡ true → cancels r y ≡ false
  makes_stays (Remove d n g pre) y e = absurd (false≢true e)
  makes_stays (Rmdir d n g pre) y e = absurd (false≢true e)
  makes_stays _ y e = refl

  creation_there : (rs y : List Record) → OnlyMade f rs → In i (numbers (creates f) rs) → In i (numbers (creates f) (added y rs))
  creation_there [] y m h = absurd h
  creation_there (r ∷ rs) y m h = go (creates f r.op) refl h (creation_there rs (add y r) m.1)
    where
      go : (c : Bool) → creates f r.op ≡ c → In i (cond c (r.number ∷ numbers (creates f) rs) (numbers (creates f) rs)) → (In i (numbers (creates f) rs) → In i (numbers (creates f) (added (add y r) rs))) → In i (numbers (creates f) (added (add y r) rs))
      go true e (inl n) more = creation_stays_all rs (add y r) m.1 (subst (λ l. In i (numbers (creates f) l)) (sym (add_stays y r (makes_stays r.op y e))) (in_last (creates f) (blind_creates f) (kept (drops r.op) nothing y) (debt (drops r.op) nothing y) r i e n))
      go true e (inr h) more = more h
      go false e h more = more h

-- what is taken out with f is its creation, or a Store or Setattr of it
made_or_written : (f : Fid) (i : ℕ) (rs : List Record) → OnlyMade f rs → In i (numbers (mentioning f) rs) → In i (numbers (creates f) rs) ⊎ In i (numbers (writes f) rs)
made_or_written f i [] m h = absurd h
made_or_written f i (r ∷ rs) m h = go (mentioning f r.op) refl h (made_or_written f i rs m.1)
  where
    later : In i (numbers (creates f) rs) ⊎ In i (numbers (writes f) rs) → In i (cond (creates f r.op) (r.number ∷ numbers (creates f) rs) (numbers (creates f) rs)) ⊎ In i (cond (writes f r.op) (r.number ∷ numbers (writes f) rs) (numbers (writes f) rs))
    later (inl k) = inl (cond_both (creates f r.op) (r.number ∷ numbers (creates f) rs) (numbers (creates f) rs) (In i) (λ e. inr k) (λ e. k))
    later (inr k) = inr (cond_both (writes f r.op) (r.number ∷ numbers (writes f) rs) (numbers (writes f) rs) (In i) (λ e. inr k) (λ e. k))

    go : (a : Bool) → mentioning f r.op ≡ a → In i (cond a (r.number ∷ numbers (mentioning f) rs) (numbers (mentioning f) rs)) → (In i (numbers (mentioning f) rs) → In i (numbers (creates f) rs) ⊎ In i (numbers (writes f) rs)) →
        In i (cond (creates f r.op) (r.number ∷ numbers (creates f) rs) (numbers (creates f) rs)) ⊎ In i (cond (writes f r.op) (r.number ∷ numbers (writes f) rs) (numbers (writes f) rs))
    go true e (inl n) more = ⊎_elim
        (λ (c : creates f r.op ≡ true). inl (subst (λ b. In i (cond b (r.number ∷ numbers (creates f) rs) (numbers (creates f) rs))) (sym c) (inl n)))
        (λ (w : writes f r.op ≡ true). inr (subst (λ b. In i (cond b (r.number ∷ numbers (writes f) rs) (numbers (writes f) rs))) (sym w) (inl n)))
        (or_cases (creates f r.op) (writes f r.op) (m.0 e))
    go true e (inr h) more = later (more h)
    go false e h more = later (more h)

blind_writes : (f : Fid) → Blind (writes f)
blind_writes f h o = writes-with_pre h f o

-- what is dropped from the tail's own fold is dropped from the fold of the whole
dropped_go : (x rs : List Record) (o : Record) (i : ℕ) → cancels o.op rs ≡ true → any_record (mentioning (object (carried o.op))) x ≡ false → SafeRun x rs → IsLean rs → In i (dropped rs o) → In i (dropped (added x rs) o)
dropped_go x rs o i e n s a h =
    let f : Fid = object (carried o.op) in
    let m : OnlyMade (object (carried o.op)) rs = only_made_of (object (carried o.op)) rs (cancels_seen o.op rs e).0 in
    let h' : In i (numbers (mentioning (object (carried o.op))) rs) = subst (λ c. In i (cond c (numbers (mentioning (object (carried o.op))) rs) (numbers (drops o.op) rs))) e h in
    subst (λ c. In i (cond c (numbers (mentioning (object (carried o.op))) (added x rs)) (numbers (drops o.op) (added x rs)))) (sym (still_goes x rs o e n s))
    (⊎_elim
    (λ (c : In i (numbers (creates (object (carried o.op))) rs)). in_weaker (creates (object (carried o.op))) (mentioning (object (carried o.op))) (creates_mentions (object (carried o.op))) i (added x rs) (creation_there (object (carried o.op)) i rs x m c))
    (λ (w : In i (numbers (writes (object (carried o.op))) rs)). in_weaker (writes (object (carried o.op))) (mentioning (object (carried o.op))) (writes_mentions (object (carried o.op))) i (added x rs)
    (write_there (writes (object (carried o.op))) (blind_writes (object (carried o.op))) (λ q k. writes_write (object (carried o.op)) q k) i rs x a w))
    (made_or_written (object (carried o.op)) i rs m h'))

dropped_stay : (x rs : List Record) (o : Record) (i : ℕ) → cancels o.op rs ≡ false → IsLean rs → In i (dropped rs o) → In i (dropped (added x rs) o)
dropped_stay x rs o i e a h = go (cancels o.op (added x rs)) refl
  where
    there : In i (numbers (drops o.op) (added x rs))
    there = write_there (drops o.op) (blind o.op) (drops_write o.op) i rs x a (subst (λ c. In i (cond c (numbers (mentioning (object (carried o.op))) rs) (numbers (drops o.op) rs))) e h)

    go : (c : Bool) → cancels o.op (added x rs) ≡ c → In i (cond c (numbers (mentioning (object (carried o.op))) (added x rs)) (numbers (drops o.op) (added x rs)))
    go true k = in_weaker (drops o.op) (mentioning (object (carried o.op))) (cancels_drops o.op (added x rs) k) i (added x rs) there
    go false k = there

-- ---- over the whole tail

pub record Carry (x before rs : List Record) : Type 0 where
  pub about : (f : Fid) → any_record (mentioning f) before ≡ false → any_record (mentioning f) x ≡ false
  pub fresh : (f : Fid) → any_record (creates f) rs ≡ true → any_record (mentioning f) x ≡ false
  pub safe : SafeRun x rs
  pub lean : IsLean rs

pub carry_step : (x before rs : List Record) (o : Record) (os : List Record) → Carry x before rs → GoesOn before (added x rs) (o ∷ os) → (added x (add rs o) ≡ add (added x rs) o) × Carry x (before ++ o ∷ []) (add rs o) × ((i : ℕ) → In i (dropped rs o) → In i (dropped (added x rs) o))
carry_step x before rs o os c g = (
  eq.0,
  record {
    about = λ f h. c.about f (or_parts (any_record (mentioning f) before) (any_record (mentioning f) (o ∷ [])) (sym (any-append (mentioning f) before (o ∷ [])) ∙ h)).0;
    fresh = λ f h. ⊎_elim (λ (k : any_record (creates f) rs ≡ true). c.fresh f k) (λ (k : creates f o.op ≡ true). c.about f (g.0 f k)) (or_cases (any_record (creates f) rs) (creates f o.op) (creates_in_add f rs o h));
    safe = eq.1;
    lean = lean_add rs o c.lean;
  },
  eq.2,
)
  where
    next : (b : Bool) → cancels o.op rs ≡ b → (added x (add rs o) ≡ add (added x rs) o) × SafeRun x (add rs o) × ((i : ℕ) → In i (dropped rs o) → In i (dropped (added x rs) o))
    next true e = let n : any_record (mentioning (object (carried o.op))) x ≡ false = c.fresh (object (carried o.op)) (cancels_created o.op rs e) in (step_goes x rs o e n c.safe, safe_goes x rs o e n c.safe, λ i h. dropped_go x rs o i e n c.safe c.lean h)
    next false e = (step_stays x rs o e, safe_stays x rs o e c.safe g.1, λ i h. dropped_stay x rs o i e c.lean h)

    eq : (added x (add rs o) ≡ add (added x rs) o) × SafeRun x (add rs o) × ((i : ℕ) → In i (dropped rs o) → In i (dropped (added x rs) o))
    eq = next (cancels o.op rs) refl

-- what the tail's own fold joins, the fold of the whole joins
pub joined_too : (j : ℕ) (x before rs os : List Record) → Carry x before rs → GoesOn before (added x rs) os → IsJoined j rs os → IsJoined j (added x rs) os
joined_too j x before rs [] c g h = absurd h
joined_too j x before rs (o ∷ os) c g (inl k) = inl (k.0, (carry_step x before rs o os c g).2 k.0 k.1, k.2, k.3)
joined_too j x before rs (o ∷ os) c g (inr k) =
    let n = carry_step x before rs o os c g in
    inr (subst (λ l. IsJoined j l os) n.0 (joined_too j x (before ++ o ∷ []) (add rs o) os n.1 (subst (λ l. GoesOn (before ++ o ∷ []) l os) (sym n.0) g.2) k))

-- and the state after a part of the tail
pub carry_run : (x before rs os more : List Record) → Carry x before rs → GoesOn before (added x rs) (os ++ more) → (added x (added rs os) ≡ added (added x rs) os) × Carry x (before ++ os) (added rs os) × GoesOn (before ++ os) (added x (added rs os)) more
carry_run x before rs [] more c g = (refl, subst (λ l. Carry x l rs) (sym (append_nil before)) c, subst (λ l. GoesOn l (added x rs) more) (sym (append_nil before)) g)
carry_run x before rs (o ∷ os) more c g =
    let n = carry_step x before rs o (os ++ more) c g in
    let k = carry_run x (before ++ o ∷ []) (add rs o) os more n.1 (subst (λ l. GoesOn (before ++ o ∷ []) l (os ++ more)) (sym n.0) g.2) in
    (k.0 ∙ ap (λ l. added l os) n.0, subst (λ l. Carry x l (added (add rs o) os)) (append_assoc before (o ∷ []) os) k.1, subst (λ l. GoesOn l (added x (added (add rs o) os)) more) (append_assoc before (o ∷ []) os) k.2)
