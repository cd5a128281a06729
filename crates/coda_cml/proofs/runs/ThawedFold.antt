-- the records of a tail, added to those of a chunk
use Rattle.std.proofs.Common.{◌≡◌, ◌≢◌, Bool, true, false, cond, List, [], ◌∷◌, ◌++◌, Some, None, refl, sym, ap, ◌∙◌, subst, ⊎_elim, ◌&&◌, ◌||◌, not, append_assoc}
use Rattle.std.proofs.lemmas.Bool.{cond_both, or_parts, or_cases, or_left, or_right, false≢true, false_from_ne_true}
use Rattle.coda_fid.specs.declared.fid.Fid.{Fid}
use Rattle.coda_fid.specs.declared.fid.Sid.{Sid}
use Rattle.coda_fid.specs.declared.op.Op.{Op}
use Rattle.coda_fid.specs.declared.op.Record.{Record}
use Rattle.coda_fid.specs.declared.op.Op.TheVariants.{Create, Mkdir, Remove, Rename, Rmdir, Setattr, Store, Symlink}
use Rattle.coda_fid.specs.Fid.{same_fid}
use Rattle.coda_fid.specs.Op.{carried}
use Rattle.coda_cancel.specs.Handing.{Debt, hand, nothing, owe, paid, sid_or, with_pre}
use Rattle.coda_cancel.specs.Dropping.{creates, drops, mentioning, writes}
use Rattle.coda_cancel.specs.Cancel.{add, added, appended, cancels, debt, fold, is_true_alone, is_undone, kept, object, others, without}
use Rattle.coda_cancel.proofs.Keys.{fid_false, is_write}
use Rattle.coda_cml.specs.Steady.{GoesOn, IsSafe, IsSteady, SafeStep, any_record, makes_in, moves}
use Rattle.coda_cancel.proofs.Debts.{Blind, both-nothing, cancels-with_pre, creates-with_pre, mentioning-with_pre, writes-with_pre}
use Rattle.coda_cml.proofs.runs.AlmostAlike.{Near, all_writes, append_nil, appended-handed, blind, drops_write}
use Rattle.coda_cml.proofs.runs.OtherRecords.{OnlyMade, any-kept, hand_alike, other-with_pre, others-append, others-kept, without-kept}
use Rattle.coda_cml.proofs.runs.InStep.{add_goes, add_stays, cancels_same, cancels_seen, near_drop, near_gone, near_step, object-with_pre, only_made_of, same_others, sim}
use Rattle.coda_cml.proofs.runs.WithoutObject.{any-append, any_kept_sub, any_same, any_sub, kept_without, made_moves, nothing_in, only_made_append, only_made_kept, only_made_moves, only_made_without, others-without, without-append, without_none, without_twice}
use Rattle.coda_cml.proofs.runs.UndoneCreations.{undone_parts}

-- each removal of the list is safe where it is added
abbrev pub SafeRun : List Record → List Record → Type 0
SafeRun y [] = Unit
SafeRun y (r ∷ rs) = SafeStep r.op y × SafeRun (add y r) rs

pub added-append : (y rs os : List Record) → added y (rs ++ os) ≡ added (added y rs) os
added-append y [] os = refl
added-append y (r ∷ rs) os = added-append (add y r) rs os

safe_append : (y rs : List Record) (o : Record) → SafeRun y rs → SafeStep o.op (added y rs) → SafeRun y (rs ++ o ∷ [])
safe_append y [] o a b = (b, tt)
safe_append y (r ∷ rs) o a b = (a.0, safe_append (add y r) rs o a.1 b)

-- ---- what is safe does not depend on Stores and Setattrs

pub moves-with_pre : (h : Fid → Sid → Sid) (f : Fid) (o : Op) → moves f (with_pre h o) ≡ moves f o
moves-with_pre h f (Remove d n g pre) = refl
moves-with_pre h f (Rmdir d n g pre) = refl
moves-with_pre h f (Rename d n x m g None) = refl
moves-with_pre h f (Rename d n x m g (Some v)) = refl
moves-with_pre h f _ = refl

pub makes-with_pre : (h : Fid → Sid → Sid) (f g : Fid) (o : Op) → makes_in f g (with_pre h o) ≡ makes_in f g o
makes-with_pre h f g (Rename d n x m k over) = refl
makes-with_pre h f g _ = refl

creates_idle : (f : Fid) (x : Op) → is_write x ≡ true → creates f x ≡ false
creates_idle f (Store g pre c) e = refl
creates_idle f (Setattr g pre a) e = refl
creates_idle f _ e = absurd (false≢true e)

pub moves_idle : (f : Fid) (x : Op) → is_write x ≡ true → moves f x ≡ false
moves_idle f (Store g pre c) e = refl
moves_idle f (Setattr g pre a) e = refl
moves_idle f _ e = absurd (false≢true e)

makes_idle : (f g : Fid) (x : Op) → is_write x ≡ true → makes_in f g x ≡ false
makes_idle f g (Store h pre c) e = refl
makes_idle f g (Setattr h pre a) e = refl
makes_idle f g _ e = absurd (false≢true e)

module _ (o : Op) (y z : List Record) (w : Debt) (n : Near (drops o) y z w) where
  any_near : (t : Op → Bool) → Blind t → ((x : Op) → is_write x ≡ true → t x ≡ false) → any_record t z ≡ any_record t y
  any_near t blind idle = sym (any-kept (drops o) (drops_write o) t blind idle nothing z) ∙ ap (any_record t) (sym n.same) ∙ any-kept (drops o) (drops_write o) t blind idle nothing y

  safe_near : (f : Fid) → IsSafe f y → IsSafe f z
  safe_near f s a b g c =
      any_near (moves g) (λ h x. moves-with_pre h g x) (moves_idle g)
      ∙ s (sym (any_near (creates f) (λ h x. creates-with_pre h f x) (creates_idle f)) ∙ a) (sym (any_near (moves f) (λ h x. moves-with_pre h f x) (moves_idle f)) ∙ b) g (sym (any_near (makes_in f g) (λ h x. makes-with_pre h f g x) (makes_idle f g)) ∙ c)

  step_near : (h : Fid → Sid → Sid) (r : Op) → SafeStep r y → SafeStep (with_pre h r) z
  step_near h (Remove d x f pre) s = safe_near f s
  step_near h (Rmdir d x f pre) s = safe_near f s
  step_near h (Rename d x e m f over) s = tt
  step_near h _ s = tt

safe_sim : (o : Op) (rs y z : List Record) (w : Debt) → Near (drops o) y z w → SafeRun y rs → SafeRun z (kept (drops o) w rs)
safe_sim o [] y z w n s = tt
safe_sim o (r ∷ rs) y z w n s = cond_both (drops o r.op) (kept (drops o) (owe w (carried r.op)) rs) (hand w r ∷ kept (drops o) (paid w (carried r.op)) rs) (SafeRun z)
    (λ k. safe_sim o rs (add y r) z (owe w (carried r.op)) (near_drop o y z w r n k) s.1)
    (λ k. (step_near o y z w n (λ g q. sid_or (w g) q) r.op s.0, safe_sim o rs (add y r) (add z (hand w r)) (paid w (carried r.op)) (near_step o y z w r n k) s.1))

begin : (o : Op) (x : List Record) → Near (drops o) x x nothing
begin o x = record { same = refl; owes = sym (both-nothing (debt (drops o) nothing x)) }

pub writes_mentions : (f : Fid) (x : Op) → writes f x ≡ true → mentioning f x ≡ true
writes_mentions f (Store g pre c) e = or_left (same_fid g f) false e
writes_mentions f (Setattr g pre a) e = or_left (same_fid g f) false e
writes_mentions f _ e = absurd (false≢true e)

-- a cancelling operation drops what mentions its object
pub cancels_drops : (o : Op) (rs : List Record) → cancels o rs ≡ true → (x : Op) → drops o x ≡ true → mentioning (object (carried o)) x ≡ true
cancels_drops (Remove d n f pre) rs e x h = writes_mentions f x h
cancels_drops (Rmdir d n f pre) rs e x h = writes_mentions f x h
cancels_drops _ rs e x h = absurd (false≢true e)

-- ---- the step where nothing of the tail is undone

last_alike : (o : Record) (y z : List Record) (w : Debt) → Near (drops o.op) y z w → add z (hand w o) ≡ add y o
last_alike o y z w n = go (cancels o.op y) refl
  where
    there : cancels (hand w o).op z ≡ cancels o.op y
    there = cancels-with_pre (λ g q. sid_or (w g) q) o.op z ∙ sym (cancels_same o.op y z (same_others o.op y z w n))

    go : (b : Bool) → cancels o.op y ≡ b → add z (hand w o) ≡ add y o
    go true e = add_goes z (hand w o) (there ∙ e) ∙ ap (λ f. without f z) (object-with_pre (λ g q. sid_or (w g) q) o.op)
        ∙ sym (kept_without (object (carried o.op)) (drops o.op) (cancels_drops o.op y e) z) ∙ sym ((near_gone o.op y z w o n e).same)
        ∙ kept_without (object (carried o.op)) (drops o.op) (cancels_drops o.op y e) y ∙ sym (add_goes y o e)
    go false e = add_stays z (hand w o) (there ∙ e) ∙ appended-handed o.op z w o ∙ (λ i. sym n.same i ++ hand (sym n.owes i) o ∷ []) ∙ sym (add_stays y o e)

module _ (x rs : List Record) (o : Record) (stays : cancels o.op rs ≡ false) where
  ends : Near (drops o.op) (added x rs) (added x (kept (drops o.op) nothing rs)) (debt (drops o.op) nothing rs)
  ends = sim o.op rs x x nothing (begin o.op x)

  pub step_stays : added x (add rs o) ≡ add (added x rs) o
  step_stays = ap (added x) (add_stays rs o stays) ∙ added-append x (kept (drops o.op) nothing rs) (hand (debt (drops o.op) nothing rs) o ∷ []) ∙ last_alike o (added x rs) (added x (kept (drops o.op) nothing rs)) (debt (drops o.op) nothing rs) ends

  pub safe_stays : SafeRun x rs → SafeStep o.op (added x rs) → SafeRun x (add rs o)
  safe_stays s t = subst (SafeRun x) (sym (add_stays rs o stays)) (safe_append x (kept (drops o.op) nothing rs) (hand (debt (drops o.op) nothing rs) o) (safe_sim o.op rs x x nothing (begin o.op x) s)
      (step_near o.op (added x rs) (added x (kept (drops o.op) nothing rs)) (debt (drops o.op) nothing rs) ends (λ g q. sid_or (debt (drops o.op) nothing rs g) q) o.op t))

-- ---- the step where a creation of the tail is undone

made_stays : (f : Fid) (r : Op) (y : List Record) → (creates f r || writes f r) ≡ true → cancels r y ≡ false
made_stays f (Remove d n g pre) y e = absurd (false≢true e)
made_stays f (Rmdir d n g pre) y e = absurd (false≢true e)
made_stays f _ y e = refl

made_drops : (f : Fid) (r : Op) → (creates f r || writes f r) ≡ true → (x : Op) → drops r x ≡ true → mentioning f x ≡ true
made_drops f (Store g pre c) e x h = writes_mentions f x (all_writes f (Store g pre c) x e h)
made_drops f (Setattr g pre a) e x h = writes_mentions f x (all_writes f (Setattr g pre a) x e h)
made_drops f (Create d n g mode owner) e x h = absurd (false≢true h)
made_drops f (Mkdir d n g mode owner) e x h = absurd (false≢true h)
made_drops f (Symlink d n g t mode owner) e x h = absurd (false≢true h)
made_drops f _ e x h = absurd (false≢true e)

-- what a removal removes
abbrev removes : Op → Fid → Type 0
removes (Remove d n g pre) h = h ≡ g
removes (Rmdir d n g pre) h = h ≡ g
removes _ h = ⊥

module _ (f : Fid) where
  -- a record that mentions f, added
  made_without : (y : List Record) (r : Record) → OnlyMade f y → mentioning f r.op ≡ true → (creates f r.op || writes f r.op) ≡ true → without f (add y r) ≡ without f y
  made_without y r m k c = ap (without f) (add_stays y r (made_stays f r.op y c)) ∙ without-append f (kept (drops r.op) nothing y) (hand (debt (drops r.op) nothing y) r ∷ [])
      ∙ (λ i. sym (without-kept f (drops r.op) nothing nothing (λ g ne. refl) y m).0 i ++ cond ((mentioning-with_pre (λ g q. sid_or (debt (drops r.op) nothing y g) q) f r.op ∙ k) i) [] (hand (debt (drops r.op) nothing y) r ∷ []))
      ∙ append_nil _ ∙ kept_without f (drops r.op) (made_drops f r.op c) y

  -- one that doesn't, where it stays
  aside_without : (y : List Record) (r : Record) → OnlyMade f y → mentioning f r.op ≡ false → appended (without f y) r ≡ without f (appended y r)
  aside_without y r m k =
      let t = without-kept f (drops r.op) nothing nothing (λ g ne. refl) y m in
      (λ i. t.0 i ++ hand_alike f (debt (drops r.op) nothing (without f y)) (debt (drops r.op) nothing y) t.1 r k i ∷ [])
      ∙ sym (without-append f (kept (drops r.op) nothing y) (hand (debt (drops r.op) nothing y) r ∷ []) ∙ ap (λ b. without f (kept (drops r.op) nothing y) ++ cond b [] (hand (debt (drops r.op) nothing y) r ∷ [])) (mentioning-with_pre (λ g q. sid_or (debt (drops r.op) nothing y g) q) f r.op ∙ k))

  only_made_add : (y : List Record) (r : Record) → OnlyMade f y → (mentioning f r.op ≡ true → (creates f r.op || writes f r.op) ≡ true) → OnlyMade f (add y r)
  only_made_add y r m k = cond_both (cancels r.op y) (without (object (carried r.op)) y) (appended y r) (OnlyMade f)
      (λ e. only_made_without f (object (carried r.op)) y m)
      (λ e. only_made_append f (kept (drops r.op) nothing y) (hand (debt (drops r.op) nothing y) r ∷ []) (only_made_kept f (drops r.op) nothing y m)
      ((λ h. (λ i. creates-with_pre (λ g q. sid_or (debt (drops r.op) nothing y g) q) f r.op i || writes-with_pre (λ g q. sid_or (debt (drops r.op) nothing y g) q) f r.op i) ∙ k (sym (mentioning-with_pre (λ g q. sid_or (debt (drops r.op) nothing y g) q) f r.op) ∙ h)), tt))

  -- safety without f
  safe_without : (y : List Record) → OnlyMade f y → (g : Fid) → IsSafe g y → IsSafe g (without f y)
  safe_without y m g s a b h c =
      any_same (moves h) f (λ r e. made_moves f h r e) y m ∙ s (any_sub (creates g) f y a) (sym (any_same (moves g) f (λ r e. made_moves f g r e) y m) ∙ b) h (any_sub (makes_in g h) f y c)

  step_without : (y : List Record) → OnlyMade f y → (r : Op) → SafeStep r y → SafeStep r (without f y)
  step_without y m (Remove d n g pre) s = safe_without y m g s
  step_without y m (Rmdir d n g pre) s = safe_without y m g s
  step_without y m _ s = tt

  -- a removal of g undoes the same with and without f
  undoes : (y : List Record) → OnlyMade f y → (g : Fid) → g ≢ f → IsSafe g y → is_undone g (without f y) ≡ is_undone g y
  undoes y m g ne s = go (is_undone g y) (is_undone g (without f y)) refl refl
    where
      other : any_record (makes_in g f) y ≡ false → is_undone g (without f y) ≡ is_undone g y
      other e = ap is_true_alone (others-without f g (λ h. ne (sym h)) y m e)

      home : is_undone g (without f y) ≡ true → any_record (makes_in g f) y ≡ false
      home u = false_from_ne_true _ (λ h. false≢true (sym (only_made_moves f y m) ∙ s (any_sub (creates g) f y (undone_parts g (without f y) u).0) (sym (any_same (moves g) f (λ r e. made_moves f g r e) y m) ∙ only_made_moves g (without f y) (only_made_of g (without f y) u)) f h))

      go : (a b : Bool) → is_undone g y ≡ a → is_undone g (without f y) ≡ b → is_undone g (without f y) ≡ is_undone g y
      go true b x z = other (nothing_in g f (λ h. ne (sym h)) y (only_made_of g y x))
      go false true x z = other (home z)
      go false false x z = z ∙ sym x

  cancels_without : (y : List Record) → OnlyMade f y → (r : Op) → mentioning f r ≡ false → SafeStep r y → cancels r (without f y) ≡ cancels r y
  cancels_without y m (Remove d n g pre) k s = undoes y m g (fid_false g f (or_parts (same_fid g f) false (or_parts (same_fid d f) (same_fid g f || false) k).1).0) s
  cancels_without y m (Rmdir d n g pre) k s = undoes y m g (fid_false g f (or_parts (same_fid g f) false (or_parts (same_fid d f) (same_fid g f || false) k).1).0) s
  cancels_without y m _ k s = refl

  add_without : (y : List Record) (r : Record) → OnlyMade f y → mentioning f r.op ≡ false → SafeStep r.op y → add (without f y) r ≡ without f (add y r)
  add_without y r m k s = go (cancels r.op y) refl
    where
      go : (b : Bool) → cancels r.op y ≡ b → add (without f y) r ≡ without f (add y r)
      go true e = add_goes (without f y) r (cancels_without y m r.op k s ∙ e) ∙ without_twice f (object (carried r.op)) y ∙ ap (without f) (sym (add_goes y r e))
      go false e = add_stays (without f y) r (cancels_without y m r.op k s ∙ e) ∙ aside_without y r m k ∙ ap (without f) (sym (add_stays y r e))

  cancels_mentions : (o : Op) (rs : List Record) (h : Fid) → cancels o rs ≡ true → mentioning h o ≡ false → object (carried o) ≡ h → ⊥
  cancels_mentions (Remove d n g pre) rs h e k is = fid_false g h (or_parts (same_fid g h) false (or_parts (same_fid d h) (same_fid g h || false) k).1).0 is
  cancels_mentions (Rmdir d n g pre) rs h e k is = fid_false g h (or_parts (same_fid g h) false (or_parts (same_fid d h) (same_fid g h || false) k).1).0 is
  cancels_mentions _ rs h e k is = absurd (false≢true e)

  -- what else mentions f
  others_add : (y : List Record) (r : Record) → OnlyMade f y → (mentioning f r.op ≡ true → (creates f r.op || writes f r.op) ≡ true) → others f (add y r) ≡ others f y ++ others f (r ∷ [])
  others_add y r m k = go (cancels r.op y) refl
    where
      d : Debt
      d = debt (drops r.op) nothing y

      go : (b : Bool) → cancels r.op y ≡ b → others f (add y r) ≡ others f y ++ others f (r ∷ [])
      go true e = gone (mentioning f r.op) refl
        where
          gone : (b : Bool) → mentioning f r.op ≡ b → others f (add y r) ≡ others f y ++ others f (r ∷ [])
          gone true h = absurd (false≢true (sym (made_stays f r.op y (k h)) ∙ e))
          gone false h =
              let ne : (object (carried r.op) ≡ f → ⊥) = cancels_mentions r.op y f e h in
              ap (others f) (add_goes y r e) ∙ others-without (object (carried r.op)) f ne y (only_made_of (object (carried r.op)) y (cancels_seen r.op y e).0) (nothing_in f (object (carried r.op)) ne y m)
              ∙ sym (ap (λ b. others f y ++ cond (b && not (writes f r.op)) (creates f r.op ∷ []) []) h ∙ append_nil (others f y))
      go false e = ap (others f) (add_stays y r e) ∙ others-append f (kept (drops r.op) nothing y) (hand (debt (drops r.op) nothing y) r ∷ [])
          ∙ (λ i. others-kept (drops r.op) (drops_write r.op) f nothing y i ++ cond (other-with_pre (λ g q. sid_or (debt (drops r.op) nothing y g) q) f r.op i) (creates-with_pre (λ g q. sid_or (debt (drops r.op) nothing y g) q) f r.op i ∷ []) [])

  -- the list without f, added to the list without f
  abbrev Together : List Record → List Record → Type 0
  Together rs y = (added (without f y) (without f rs) ≡ without f (added y rs)) × SafeRun (without f y) (without f rs) × (others f (added y rs) ≡ others f y ++ others f rs)

  together_more : (r : Record) (rs y : List Record) → OnlyMade f y → OnlyMade f (r ∷ rs) → SafeRun y (r ∷ rs) → Together rs (add y r) → Together (r ∷ rs) y
  together_more r rs y m k s more = go (mentioning f r.op) refl
    where
      rest : others f (added (add y r) rs) ≡ others f y ++ others f (r ∷ rs)
      rest = more.2 ∙ ap (λ l. l ++ others f rs) (others_add y r m k.0) ∙ append_assoc (others f y) (others f (r ∷ [])) (others f rs) ∙ ap (λ l. others f y ++ l) (sym (others-append f (r ∷ []) rs))

      go : (b : Bool) → mentioning f r.op ≡ b → (added (without f y) (cond b (without f rs) (r ∷ without f rs)) ≡ without f (added (add y r) rs)) × SafeRun (without f y) (cond b (without f rs) (r ∷ without f rs)) × (others f (added (add y r) rs) ≡ others f y ++ others f (r ∷ rs))
      go true h =
          let e : without f (add y r) ≡ without f y = made_without y r m h (k.0 h) in
          (ap (λ l. added l (without f rs)) (sym e) ∙ more.0, subst (λ l. SafeRun l (without f rs)) e more.1, rest)
      go false h =
          let e : add (without f y) r ≡ without f (add y r) = add_without y r m h s.0 in
          (ap (λ l. added l (without f rs)) e ∙ more.0, (step_without y m r.op s.0, subst (λ l. SafeRun l (without f rs)) (sym e) more.1), rest)

  added_without : (rs y : List Record) → OnlyMade f y → OnlyMade f rs → SafeRun y rs → Together rs y
  added_without [] y m k s = (refl, tt, sym (append_nil (others f y)))
  added_without (r ∷ rs) y m k s = together_more r rs y m k s (added_without rs (add y r) (only_made_add y r m k.0) k.1 s.1)

pub cancels_at : (o : Op) (y z : List Record) → others (object (carried o)) y ≡ others (object (carried o)) z → cancels o y ≡ cancels o z
cancels_at (Remove d n f pre) y z e = ap is_true_alone e
cancels_at (Rmdir d n f pre) y z e = ap is_true_alone e
cancels_at _ y z e = refl

module _ (x rs : List Record) (o : Record) (goes : cancels o.op rs ≡ true) (fresh : any_record (mentioning (object (carried o.op))) x ≡ false) (s : SafeRun x rs) where
  both_runs : (added (without (object (carried o.op)) x) (without (object (carried o.op)) rs) ≡ without (object (carried o.op)) (added x rs)) × SafeRun (without (object (carried o.op)) x) (without (object (carried o.op)) rs) × (others (object (carried o.op)) (added x rs) ≡ others (object (carried o.op)) x ++ others (object (carried o.op)) rs)
  both_runs = added_without (object (carried o.op)) rs x (without_none (object (carried o.op)) x fresh).1 (only_made_of (object (carried o.op)) rs (cancels_seen o.op rs goes).0) s

  pub still_goes : cancels o.op (added x rs) ≡ true
  still_goes = cancels_at o.op (added x rs) rs (both_runs.2 ∙ ap (λ l. l ++ others (object (carried o.op)) rs) (without_none (object (carried o.op)) x fresh).2) ∙ goes

  pub step_goes : added x (add rs o) ≡ add (added x rs) o
  step_goes = ap (added x) (add_goes rs o goes) ∙ ap (λ l. added l (without (object (carried o.op)) rs)) (sym (without_none (object (carried o.op)) x fresh).0) ∙ both_runs.0 ∙ sym (add_goes (added x rs) o still_goes)

  pub safe_goes : SafeRun x (add rs o)
  safe_goes = subst (SafeRun x) (sym (add_goes rs o goes)) (subst (λ l. SafeRun l (without (object (carried o.op)) rs)) (without_none (object (carried o.op)) x fresh).0 both_runs.1)

-- ---- the thaw

-- what stands in the list after an operation is added stood there, or is the operation
pub any_in_add : (t : Op → Bool) → Blind t → (rs : List Record) (o : Record) → any_record t (add rs o) ≡ true → (any_record t rs || t o.op) ≡ true
any_in_add t blind rs o h = cond_both (cancels o.op rs) (without (object (carried o.op)) rs) (appended rs o) (λ l. any_record t l ≡ true → (any_record t rs || t o.op) ≡ true)
    (λ e h. or_left (any_record t rs) (t o.op) (any_sub t (object (carried o.op)) rs h))
    (λ e h. ⊎_elim
    (λ (a : any_record t (kept (drops o.op) nothing rs) ≡ true). or_left (any_record t rs) (t o.op) (any_kept_sub t blind (drops o.op) nothing rs a))
    (λ (b : (t (hand (debt (drops o.op) nothing rs) o).op || false) ≡ true). or_right (any_record t rs) (t o.op) (sym (blind (λ g q. sid_or (debt (drops o.op) nothing rs g) q) o.op) ∙ only (t (hand (debt (drops o.op) nothing rs) o).op) b))
    (or_cases (any_record t (kept (drops o.op) nothing rs)) (t (hand (debt (drops o.op) nothing rs) o).op || false) (sym (any-append t (kept (drops o.op) nothing rs) (hand (debt (drops o.op) nothing rs) o ∷ [])) ∙ h)))
    h
  where
    only : (b : Bool) → (b || false) ≡ true → b ≡ true
    only true e = refl
    only false e = e

pub creates_in_add : (f : Fid) (rs : List Record) (o : Record) → any_record (creates f) (add rs o) ≡ true → (any_record (creates f) rs || creates f o.op) ≡ true
creates_in_add f = any_in_add (creates f) (λ h x. creates-with_pre h f x)

mentions_in_add : (f : Fid) (rs : List Record) (o : Record) → any_record (mentioning f) (add rs o) ≡ true → (any_record (mentioning f) rs || mentioning f o.op) ≡ true
mentions_in_add f = any_in_add (mentioning f) (λ h x. mentioning-with_pre h f x)

pub cancels_created : (o : Op) (rs : List Record) → cancels o rs ≡ true → any_record (creates (object (carried o))) rs ≡ true
cancels_created o rs e = (undone_parts (object (carried o)) rs (cancels_seen o rs e).0).0

-- going on over the tail's own fold
goes_on : (x before rs os : List Record) → ((f : Fid) → any_record (mentioning f) before ≡ false → any_record (mentioning f) x ≡ false) →
    ((f : Fid) → any_record (creates f) rs ≡ true → any_record (mentioning f) x ≡ false) → SafeRun x rs → GoesOn before (added x rs) os → added x (added rs os) ≡ added (added x rs) os
goes_on x before rs [] a fresh s g = refl
goes_on x before rs (o ∷ os) a fresh s g = ap (λ l. l) (goes_on x (before ++ o ∷ []) (add rs o) os later fresher (next (cancels o.op rs) refl).1 (subst (λ l. GoesOn (before ++ o ∷ []) l os) (sym (next (cancels o.op rs) refl).0) g.2)) ∙ ap (λ l. added l os) (next (cancels o.op rs) refl).0
  where
    next : (b : Bool) → cancels o.op rs ≡ b → (added x (add rs o) ≡ add (added x rs) o) × SafeRun x (add rs o)
    next true e = let n : any_record (mentioning (object (carried o.op))) x ≡ false = fresh (object (carried o.op)) (cancels_created o.op rs e) in (step_goes x rs o e n s, safe_goes x rs o e n s)
    next false e = (step_stays x rs o e, safe_stays x rs o e s g.1)

    later : (f : Fid) → any_record (mentioning f) (before ++ o ∷ []) ≡ false → any_record (mentioning f) x ≡ false
    later f h = a f (or_parts (any_record (mentioning f) before) (any_record (mentioning f) (o ∷ [])) (sym (any-append (mentioning f) before (o ∷ [])) ∙ h)).0

    fresher : (f : Fid) → any_record (creates f) (add rs o) ≡ true → any_record (mentioning f) x ≡ false
    fresher f h = ⊎_elim (λ (k : any_record (creates f) rs ≡ true). fresh f k) (λ (k : creates f o.op ≡ true). a f (g.0 f k)) (or_cases (any_record (creates f) rs) (creates f o.op) (creates_in_add f rs o h))

pub goes_split : (before rs front bs : List Record) → GoesOn before rs (front ++ bs) → GoesOn (before ++ front) (added rs front) bs
goes_split before rs [] bs g = subst (λ l. GoesOn l rs bs) (sym (append_nil before)) g
goes_split before rs (o ∷ front) bs g = subst (λ l. GoesOn l (added (add rs o) front) bs) (append_assoc before (o ∷ []) front) (goes_split (before ++ o ∷ []) (add rs o) front bs g.2)

pub mentions_in_added : (f : Fid) (rs os : List Record) → any_record (mentioning f) rs ≡ false → any_record (mentioning f) os ≡ false → any_record (mentioning f) (added rs os) ≡ false
mentions_in_added f rs [] a b = a
mentions_in_added f rs (o ∷ os) a b =
    let k = or_parts (mentioning f o.op) (any_record (mentioning f) os) b in
    mentions_in_added f (add rs o) os (false_from_ne_true _ (λ h. false≢true (sym (λ i. a i || k.0 i) ∙ mentions_in_add f rs o h))) k.1

-- adding the tail's records to the chunk's gives the fold of the whole
pub thaw : (front bs : List Record) → IsSteady (front ++ bs) → added (fold front) (fold bs) ≡ fold (front ++ bs)
thaw front bs g = goes_on (fold front) front [] bs (λ f h. mentions_in_added f [] front refl h) (λ f h. absurd (false≢true h)) tt (goes_split [] [] front bs g) ∙ sym (added-append [] front bs)
