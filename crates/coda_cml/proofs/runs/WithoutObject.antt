-- taking out what mentions an object, and what is undone
use Rattle.std.proofs.Common.{◌≡◌, ◌≢◌, Bool, true, false, cond, List, [], ◌∷◌, ◌++◌, refl, sym, ap, ◌∙◌, ⊎_elim, ◌&&◌, ◌||◌, not}
use Rattle.std.proofs.lemmas.Bool.{cond_both, and_parts, or_parts, or_cases, or_left, or_right, false≢true}
use Rattle.coda_fid.specs.declared.fid.Fid.{Fid}
use Rattle.coda_fid.specs.declared.op.Op.{Op}
use Rattle.coda_fid.specs.declared.op.Record.{Record}
use Rattle.coda_fid.specs.declared.op.Op.TheVariants.{Create, Mkdir, Remove, Rename, Rmdir, Setattr, Store, Symlink}
use Rattle.coda_fid.specs.Fid.{same_fid}
use Rattle.coda_fid.specs.Op.{carried}
use Rattle.coda_cancel.specs.Handing.{Debt, hand, nothing, owe, paid, sid_or}
use Rattle.coda_cancel.specs.Dropping.{creates, mentioning, writes}
use Rattle.coda_cancel.specs.Cancel.{kept, others, without}
use Rattle.coda_cancel.proofs.Keys.{fid_other, fid_true}
use Rattle.coda_cml.specs.Steady.{any_record, is_move, makes_in, moves}
use Rattle.coda_cancel.proofs.Debts.{Blind, creates-with_pre, hand-nothing, mentioning-with_pre, paid-nothing, writes-with_pre}
use Rattle.coda_cml.proofs.runs.AlmostAlike.{blind}
use Rattle.coda_cml.proofs.runs.OtherRecords.{OnlyMade}

-- ---- tests over a list

module _ (t : Op → Bool) where
  pub any-append : (rs os : List Record) → any_record t (rs ++ os) ≡ (any_record t rs || any_record t os)
  any-append [] os = refl
  any-append (r ∷ rs) os = go (t r.op) (any-append rs os)
    where
      go : (b : Bool) → any_record t (rs ++ os) ≡ (any_record t rs || any_record t os) → (b || any_record t (rs ++ os)) ≡ ((b || any_record t rs) || any_record t os)
      go true e = refl
      go false e = e

  pub any_sub : (f : Fid) (rs : List Record) → any_record t (without f rs) ≡ true → any_record t rs ≡ true
  any_sub f [] h = h
  any_sub f (r ∷ rs) h = go (mentioning f r.op) h (any_sub f rs)
    where
      go : (m : Bool) → any_record t (cond m (without f rs) (r ∷ without f rs)) ≡ true → (any_record t (without f rs) ≡ true → any_record t rs ≡ true) → (t r.op || any_record t rs) ≡ true
      go true h more = or_right (t r.op) (any_record t rs) (more h)
      go false h more = ⊎_elim (λ (a : t r.op ≡ true). or_left (t r.op) (any_record t rs) a) (λ (b : any_record t (without f rs) ≡ true). or_right (t r.op) (any_record t rs) (more b)) (or_cases (t r.op) (any_record t (without f rs)) h)

  pub any_kept_sub : Blind t → (p : Op → Bool) (d : Debt) (rs : List Record) → any_record t (kept p d rs) ≡ true → any_record t rs ≡ true
  any_kept_sub blind p d [] h = h
  any_kept_sub blind p d (r ∷ rs) h = go (p r.op) h (any_kept_sub blind p (owe d (carried r.op)) rs) (any_kept_sub blind p (paid d (carried r.op)) rs)
    where
      go : (b : Bool) → any_record t (cond b (kept p (owe d (carried r.op)) rs) (hand d r ∷ kept p (paid d (carried r.op)) rs)) ≡ true → (any_record t (kept p (owe d (carried r.op)) rs) ≡ true → any_record t rs ≡ true) → (any_record t (kept p (paid d (carried r.op)) rs) ≡ true → any_record t rs ≡ true) → (t r.op || any_record t rs) ≡ true
      go true h one two = or_right (t r.op) (any_record t rs) (one h)
      go false h one two = ⊎_elim (λ (a : t (hand d r).op ≡ true). or_left (t r.op) (any_record t rs) (sym (blind (λ g q. sid_or (d g) q) r.op) ∙ a)) (λ (b : any_record t (kept p (paid d (carried r.op)) rs) ≡ true). or_right (t r.op) (any_record t rs) (two b)) (or_cases (t (hand d r).op) (any_record t (kept p (paid d (carried r.op)) rs)) h)

  -- what is taken out with f does not pass
  pub any_same : (f : Fid) → ((r : Op) → (creates f r || writes f r) ≡ true → t r ≡ false) → (rs : List Record) → OnlyMade f rs → any_record t (without f rs) ≡ any_record t rs
  any_same f idle [] m = refl
  any_same f idle (r ∷ rs) m = go (mentioning f r.op) refl (any_same f idle rs m.1)
    where
      go : (b : Bool) → mentioning f r.op ≡ b → any_record t (without f rs) ≡ any_record t rs → any_record t (cond b (without f rs) (r ∷ without f rs)) ≡ (t r.op || any_record t rs)
      go true e h = h ∙ sym (ap (λ x. x || any_record t rs) (idle r.op (m.0 e)))
      go false e h = ap (λ x. t r.op || x) h

pub made_moves : (f h : Fid) (r : Op) → (creates f r || writes f r) ≡ true → moves h r ≡ false
made_moves f h (Remove d n g pre) e = absurd (false≢true e)
made_moves f h (Rmdir d n g pre) e = absurd (false≢true e)
made_moves f h (Rename d n x y g over) e = absurd (false≢true e)
made_moves f h _ e = refl

-- nothing moves what is only made and written
pub only_made_moves : (f : Fid) (rs : List Record) → OnlyMade f rs → any_record (moves f) rs ≡ false
only_made_moves f [] m = refl
only_made_moves f (r ∷ rs) m = go (mentioning f r.op) refl (only_made_moves f rs m.1)
  where
    both_false : (b : Bool) → (b && false) ≡ false
    both_false true = refl
    both_false false = refl

    go : (b : Bool) → mentioning f r.op ≡ b → any_record (moves f) rs ≡ false → (moves f r.op || any_record (moves f) rs) ≡ false
    go true e h = ap (λ x. x || any_record (moves f) rs) (made_moves f f r.op (m.0 e)) ∙ h
    go false e h = ap (λ x. x || any_record (moves f) rs) (ap (λ x. is_move r.op && x) e ∙ both_false (is_move r.op)) ∙ h

-- ---- two objects

pub makes_parts : (g f : Fid) (r : Op) → makes_in g f r ≡ true → (mentioning g r ≡ true) × (creates f r ≡ true)
makes_parts g f (Create d n h mode owner) e = let k = and_parts _ _ e in (or_left (same_fid d g) (same_fid h g || false) k.0, k.1)
makes_parts g f (Mkdir d n h mode owner) e = let k = and_parts _ _ e in (or_left (same_fid d g) (same_fid h g || false) k.0, k.1)
makes_parts g f (Symlink d n h t mode owner) e = let k = and_parts _ _ e in (or_left (same_fid d g) (same_fid h g || false) k.0, k.1)
makes_parts g f _ e = absurd (false≢true e)

creates_one : (f g : Fid) (r : Op) → creates f r ≡ true → (creates g r || writes g r) ≡ true → f ≡ g
creates_one f g (Create d n h mode owner) a b = sym (fid_true h f a) ∙ fid_true h g (only_left (same_fid h g) b)
  where
    only_left : (x : Bool) → (x || false) ≡ true → x ≡ true
    only_left true e = refl
    only_left false e = e
creates_one f g (Mkdir d n h mode owner) a b = sym (fid_true h f a) ∙ fid_true h g (only_left (same_fid h g) b)
  where
    only_left : (x : Bool) → (x || false) ≡ true → x ≡ true
    only_left true e = refl
    only_left false e = e
creates_one f g (Symlink d n h t mode owner) a b = sym (fid_true h f a) ∙ fid_true h g (only_left (same_fid h g) b)
  where
    only_left : (x : Bool) → (x || false) ≡ true → x ≡ true
    only_left true e = refl
    only_left false e = e
creates_one f g _ a b = absurd (false≢true a)

-- where g is only made and written, nothing is created in it
pub nothing_in : (g f : Fid) → f ≢ g → (rs : List Record) → OnlyMade g rs → any_record (makes_in g f) rs ≡ false
nothing_in g f ne [] m = refl
nothing_in g f ne (r ∷ rs) m = go (makes_in g f r.op) refl (nothing_in g f ne rs m.1)
  where
    go : (b : Bool) → makes_in g f r.op ≡ b → any_record (makes_in g f) rs ≡ false → (b || any_record (makes_in g f) rs) ≡ false
    go true e h = let k = makes_parts g f r.op e in absurd (ne (creates_one f g r.op k.1 (m.0 k.0)))
    go false e h = h

made_new : (f g : Fid) → f ≢ g → (d h : Fid) → (same_fid h f || false) ≡ true → (same_fid d g && same_fid h f) ≡ false → ((same_fid d g || (same_fid h g || false)) && true) ≡ false
made_new f g ne d h c m = λ i. (home i || (fid_other h g (λ e. ne (sym is ∙ e)) i || false)) && true
  where
    left : (b : Bool) → (b || false) ≡ true → b ≡ true
    left true e = refl
    left false e = e

    is : h ≡ f
    is = fid_true h f (left (same_fid h f) c)

    just : (b : Bool) → (b && true) ≡ false → b ≡ false
    just true e = e
    just false e = refl

    home : same_fid d g ≡ false
    home = just (same_fid d g) (ap (λ b. same_fid d g && b) (sym (left (same_fid h f) c)) ∙ m)

-- a record made for f says nothing about g, unless it creates f in g
made_other : (f g : Fid) → f ≢ g → (r : Op) → (creates f r || writes f r) ≡ true → makes_in g f r ≡ false → (mentioning g r && not (writes g r)) ≡ false
made_other f g ne (Create d n h mode owner) c m = made_new f g ne d h c m
made_other f g ne (Mkdir d n h mode owner) c m = made_new f g ne d h c m
made_other f g ne (Symlink d n h t mode owner) c m = made_new f g ne d h c m
made_other f g ne (Store h pre x) c m = ap (λ b. (b || false) && not b) (fid_other h g (λ e. ne (sym (fid_true h f c) ∙ e)))
made_other f g ne (Setattr h pre a) c m = ap (λ b. (b || false) && not b) (fid_other h g (λ e. ne (sym (fid_true h f c) ∙ e)))
made_other f g ne _ c m = absurd (false≢true c)

pub others-without : (f g : Fid) → f ≢ g → (rs : List Record) → OnlyMade f rs → any_record (makes_in g f) rs ≡ false → others g (without f rs) ≡ others g rs
others-without f g ne [] m a = refl
others-without f g ne (r ∷ rs) m a = go (mentioning f r.op) refl (others-without f g ne rs m.1 (or_parts _ _ a).1)
  where
    go : (b : Bool) → mentioning f r.op ≡ b → others g (without f rs) ≡ others g rs → others g (cond b (without f rs) (r ∷ without f rs)) ≡ cond (mentioning g r.op && not (writes g r.op)) (creates g r.op ∷ others g rs) (others g rs)
    go true e h = h ∙ sym (ap (λ x. cond x (creates g r.op ∷ others g rs) (others g rs)) (made_other f g ne r.op (m.0 e) (or_parts _ _ a).0))
    go false e h = ap (λ l. cond (mentioning g r.op && not (writes g r.op)) (creates g r.op ∷ l) l) h

pub without_twice : (f g : Fid) (rs : List Record) → without g (without f rs) ≡ without f (without g rs)
without_twice f g [] = refl
without_twice f g (r ∷ rs) = go (mentioning f r.op) (mentioning g r.op) refl refl (without_twice f g rs)
  where
    go : (a b : Bool) → mentioning f r.op ≡ a → mentioning g r.op ≡ b → without g (without f rs) ≡ without f (without g rs) → without g (cond a (without f rs) (r ∷ without f rs)) ≡ without f (cond b (without g rs) (r ∷ without g rs))
    go true true x y h = h
    go true false x y h = h ∙ sym (ap (λ c. cond c (without f (without g rs)) (r ∷ without f (without g rs))) x)
    go false true x y h = ap (λ c. cond c (without g (without f rs)) (r ∷ without g (without f rs))) y ∙ h
    go false false x y h = ap (λ c. cond c (without g (without f rs)) (r ∷ without g (without f rs))) y ∙ ap (λ l. r ∷ l) h ∙ sym (ap (λ c. cond c (without f (without g rs)) (r ∷ without f (without g rs))) x)

pub without-append : (f : Fid) (rs os : List Record) → without f (rs ++ os) ≡ without f rs ++ without f os
without-append f [] os = refl
without-append f (r ∷ rs) os = go (mentioning f r.op) (without-append f rs os)
  where
    go : (b : Bool) → without f (rs ++ os) ≡ without f rs ++ without f os → cond b (without f (rs ++ os)) (r ∷ without f (rs ++ os)) ≡ cond b (without f rs) (r ∷ without f rs) ++ without f os
    go true e = e
    go false e = ap (λ l. r ∷ l) e

-- nothing to take out
pub without_none : (f : Fid) (rs : List Record) → any_record (mentioning f) rs ≡ false → (without f rs ≡ rs) × OnlyMade f rs × (others f rs ≡ [])
without_none f [] e = (refl, tt, refl)
without_none f (r ∷ rs) e =
    let k = or_parts (mentioning f r.op) (any_record (mentioning f) rs) e in let more = without_none f rs k.1 in (
      ap (λ b. cond b (without f rs) (r ∷ without f rs)) k.0 ∙ ap (λ l. r ∷ l) more.0,
      (λ m. absurd (false≢true (sym k.0 ∙ m)), more.1),
      ap (λ b. cond (b && not (writes f r.op)) (creates f r.op ∷ others f rs) (others f rs)) k.0 ∙ more.2,
    )

-- and nothing to drop
pub kept_without : (f : Fid) (p : Op → Bool) → ((x : Op) → p x ≡ true → mentioning f x ≡ true) → (rs : List Record) → kept p nothing (without f rs) ≡ without f rs
kept_without f p h [] = refl
kept_without f p h (r ∷ rs) = go (mentioning f r.op) refl (p r.op) refl (kept_without f p h rs)
  where
    go : (m : Bool) → mentioning f r.op ≡ m → (b : Bool) → p r.op ≡ b → kept p nothing (without f rs) ≡ without f rs → kept p nothing (cond m (without f rs) (r ∷ without f rs)) ≡ cond m (without f rs) (r ∷ without f rs)
    go true e b x more = more
    go false e true x more = absurd (false≢true (sym e ∙ h r.op x))
    go false e false x more = ap (λ b. cond b (kept p (owe nothing (carried r.op)) (without f rs)) (hand nothing r ∷ kept p (paid nothing (carried r.op)) (without f rs))) x
        ∙ (λ i. hand-nothing r i ∷ kept p (paid-nothing (carried r.op) i) (without f rs)) ∙ ap (λ l. r ∷ l) more

pub only_made_kept : (f : Fid) (p : Op → Bool) (d : Debt) (rs : List Record) → OnlyMade f rs → OnlyMade f (kept p d rs)
only_made_kept f p d [] m = tt
only_made_kept f p d (r ∷ rs) m = cond_both (p r.op) (kept p (owe d (carried r.op)) rs) (hand d r ∷ kept p (paid d (carried r.op)) rs) (OnlyMade f)
    (λ e. only_made_kept f p (owe d (carried r.op)) rs m.1)
    (λ e. (λ h. (λ i. creates-with_pre (λ g q. sid_or (d g) q) f r.op i || writes-with_pre (λ g q. sid_or (d g) q) f r.op i) ∙ m.0 (sym (mentioning-with_pre (λ g q. sid_or (d g) q) f r.op) ∙ h), only_made_kept f p (paid d (carried r.op)) rs m.1))

pub only_made_append : (f : Fid) (rs os : List Record) → OnlyMade f rs → OnlyMade f os → OnlyMade f (rs ++ os)
only_made_append f [] os a b = b
only_made_append f (r ∷ rs) os a b = (a.0, only_made_append f rs os a.1 b)

pub only_made_without : (f g : Fid) (rs : List Record) → OnlyMade f rs → OnlyMade f (without g rs)
only_made_without f g [] m = tt
only_made_without f g (r ∷ rs) m = cond_both (mentioning g r.op) (without g rs) (r ∷ without g rs) (OnlyMade f) (λ e. only_made_without f g rs m.1) (λ e. (m.0, only_made_without f g rs m.1))
