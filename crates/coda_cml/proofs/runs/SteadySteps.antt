-- Which operations keep a run steady.
use Rattle.std.proofs.Common.{◌≡◌, Bool, true, false, cond, ◌||◌, List, [], ◌∷◌, ◌++◌, Some, None, refl, sym, ap, ◌∙◌, subst, ⊎_elim, append_assoc}
use Rattle.std.proofs.lemmas.Bool.{cases_Bool, cond_both, and_parts, or_cases, or_left, or_right, false≢true, false_from_ne_true}
use Rattle.coda_fid.specs.declared.fid.Fid.{Fid}
use Rattle.coda_fid.specs.declared.op.Op.{Op}
use Rattle.coda_fid.specs.declared.op.Op.TheVariants.{Create, Mkdir, Symlink, Remove, Rmdir, Rename}
use Rattle.coda_fid.specs.declared.op.Record.{Record}
use Rattle.coda_fid.specs.Fid.{same_fid}
use Rattle.coda_fid.specs.Op.{carried}
use Rattle.coda_cancel.specs.Handing.{nothing, hand, sid_or}
use Rattle.coda_cancel.specs.Dropping.{mentioning, creates, drops}
use Rattle.coda_cancel.specs.Cancel.{kept, debt, without, cancels, object, appended, add, added, fold}
use Rattle.coda_cancel.proofs.Keys.{fid_true}
use Rattle.coda_cancel.proofs.Debts.{Blind, creates-with_pre}
use Rattle.coda_cml.specs.Steady.{any_record, is_move, moves, makes_in, unbinds, IsSafe, SafeStep, IsFresh, GoesOn, IsSteady, ChildrenLeft, RemovesEmpty}
use Rattle.coda_cml.proofs.runs.AlmostAlike.{drops_write, append_nil}
use Rattle.coda_cml.proofs.runs.OtherRecords.{any-kept}
use Rattle.coda_cml.proofs.runs.InStep.{add_stays, add_goes, only_made_of, cancels_seen}
use Rattle.coda_cml.proofs.runs.WithoutObject.{any-append, any_same, made_moves, makes_parts}
use Rattle.coda_cml.proofs.runs.ThawedFold.{moves-with_pre, makes-with_pre, any_in_add, moves_idle}

-- what takes an object from its place moves it
unbinds_moves : (g : Fid) (o : Op) → unbinds g o ≡ true → moves g o ≡ true
unbinds_moves g (Remove d n f pre) e = or_right (same_fid d g) (same_fid f g || false) (or_left (same_fid f g) false e)
unbinds_moves g (Rmdir d n f pre) e = or_right (same_fid d g) (same_fid f g || false) (or_left (same_fid f g) false e)
unbinds_moves g (Rename d n x m f None) e = or_right (same_fid d g) (same_fid x g || (same_fid f g || false)) (or_right (same_fid x g) (same_fid f g || false) e)
unbinds_moves g (Rename d n x m f (Some v)) e =
    or_right (same_fid d g) (same_fid x g || (same_fid f g || (same_fid v.fid g || false))) (or_right (same_fid x g) (same_fid f g || (same_fid v.fid g || false))
    (⊎_elim (λ (a : same_fid f g ≡ true). or_left (same_fid f g) (same_fid v.fid g || false) a) (λ (b : same_fid v.fid g ≡ true). or_right (same_fid f g) (same_fid v.fid g || false) (or_left (same_fid v.fid g) false b)) (or_cases (same_fid f g) (same_fid v.fid g) e)))
unbinds_moves g _ e = absurd (false≢true e)

-- a removal that undoes a creation takes its object from its place
undoes_own : (g : Fid) (o : Op) (rs : List Record) → cancels o rs ≡ true → unbinds g o ≡ true → object (carried o) ≡ g
undoes_own g (Remove d n f pre) rs c e = fid_true f g e
undoes_own g (Rmdir d n f pre) rs c e = fid_true f g e
undoes_own g _ rs c e = absurd (false≢true c)

creation_mentions : (g : Fid) (o : Op) → creates g o ≡ true → mentioning g o ≡ true
creation_mentions g (Create d n f mode owner) e = or_right (same_fid d g) (same_fid f g || false) (or_left (same_fid f g) false e)
creation_mentions g (Mkdir d n f mode owner) e = or_right (same_fid d g) (same_fid f g || false) (or_left (same_fid f g) false e)
creation_mentions g (Symlink d n f t mode owner) e = or_right (same_fid d g) (same_fid f g || false) (or_left (same_fid f g) false e)
creation_mentions g _ e = absurd (false≢true e)

creation_keeps : (g : Fid) (o : Op) → creates g o ≡ true → unbinds g o ≡ false
creation_keeps g (Create d n f mode owner) e = refl
creation_keeps g (Mkdir d n f mode owner) e = refl
creation_keeps g (Symlink d n f t mode owner) e = refl
creation_keeps g _ e = absurd (false≢true e)

-- without g nothing creates g
none_created : (g : Fid) (rs : List Record) → any_record (creates g) (without g rs) ≡ false
none_created g [] = refl
none_created g (r ∷ rs) = go (mentioning g r.op) refl (none_created g rs)
  where
    go : (b : Bool) → mentioning g r.op ≡ b → any_record (creates g) (without g rs) ≡ false → any_record (creates g) (cond b (without g rs) (r ∷ without g rs)) ≡ false
    go true e h = h
    go false e h = λ i. false_from_ne_true (creates g r.op) (λ c. false≢true (sym e ∙ creation_mentions g r.op c)) i || h i

any_weaker : (t u : Op → Bool) → ((o : Op) → t o ≡ true → u o ≡ true) → (rs : List Record) → any_record t rs ≡ true → any_record u rs ≡ true
any_weaker t u f [] h = h
any_weaker t u f (r ∷ rs) h = ⊎_elim (λ (a : t r.op ≡ true). or_left (u r.op) (any_record u rs) (f r.op a)) (λ (b : any_record t rs ≡ true). or_right (u r.op) (any_record u rs) (any_weaker t u f rs b)) (or_cases (t r.op) (any_record t rs) h)

module _ (g : Fid) where
  -- Removes, Rmdirs and Renames are never dropped
  moves_stay : (rs : List Record) (o : Record) → any_record (moves g) rs ≡ true → any_record (moves g) (add rs o) ≡ true
  moves_stay rs o h = cond_both (cancels o.op rs) (without (object (carried o.op)) rs) (appended rs o) (λ l. any_record (moves g) l ≡ true)
      (λ e. any_same (moves g) (object (carried o.op)) (λ r k. made_moves (object (carried o.op)) g r k) rs (only_made_of (object (carried o.op)) rs (cancels_seen o.op rs e).0) ∙ h)
      (λ e. any-append (moves g) (kept (drops o.op) nothing rs) (hand (debt (drops o.op) nothing rs) o ∷ [])
      ∙ or_left (any_record (moves g) (kept (drops o.op) nothing rs)) (any_record (moves g) (hand (debt (drops o.op) nothing rs) o ∷ []))
      (any-kept (drops o.op) (drops_write o.op) (moves g) (λ k x. moves-with_pre k g x) (moves_idle g) nothing rs ∙ h))

  -- the last operation, where it stays
  last_moves : (rs : List Record) (o : Record) → cancels o.op rs ≡ false → moves g o.op ≡ true → any_record (moves g) (add rs o) ≡ true
  last_moves rs o e m = ap (any_record (moves g)) (add_stays rs o e) ∙ any-append (moves g) (kept (drops o.op) nothing rs) (hand (debt (drops o.op) nothing rs) o ∷ [])
      ∙ or_right (any_record (moves g) (kept (drops o.op) nothing rs)) (any_record (moves g) (hand (debt (drops o.op) nothing rs) o ∷ []))
      (or_left (moves g (hand (debt (drops o.op) nothing rs) o).op) false (moves-with_pre (λ f p. sid_or (debt (drops o.op) nothing rs f) p) g o.op ∙ m))

  -- what the fold still creates and the run took from its place, the fold moves
  Moved : List Record → List Record → Type 0
  Moved before rs = any_record (unbinds g) before ≡ true → any_record (creates g) rs ≡ true → any_record (moves g) rs ≡ true

  moved_step : (before rs : List Record) (o : Record) → IsFresh o.op before → Moved before rs → Moved (before ++ o ∷ []) (add rs o)
  unfolding Moved
  moved_step before rs o fresh m u c = ⊎_elim
      (λ (k : any_record (creates g) rs ≡ true). ⊎_elim
      (λ (a : any_record (unbinds g) before ≡ true). moves_stay rs o (m a k))
      (λ (b : any_record (unbinds g) (o ∷ []) ≡ true). here (only (unbinds g o.op) b))
      (or_cases (any_record (unbinds g) before) (any_record (unbinds g) (o ∷ [])) (sym (any-append (unbinds g) before (o ∷ [])) ∙ u)))
      (λ (k : creates g o.op ≡ true). absurd (false≢true (sym (none k) ∙ u)))
      (or_cases (any_record (creates g) rs) (creates g o.op) (any_in_add (creates g) (λ h x. creates-with_pre h g x) rs o c))
    where
      only : (b : Bool) → (b || false) ≡ true → b ≡ true
      only true e = refl
      only false e = e

      none : creates g o.op ≡ true → any_record (unbinds g) (before ++ o ∷ []) ≡ false
      none k = any-append (unbinds g) before (o ∷ []) ∙ (λ i.
          false_from_ne_true (any_record (unbinds g) before) (λ h. false≢true (sym (fresh g k) ∙ any_weaker (unbinds g) (mentioning g) (λ x e. (and_parts (is_move x) (mentioning g x) (unbinds_moves g x e)).1) before h)) i
          || (creation_keeps g o.op k i || false))

      here : unbinds g o.op ≡ true → any_record (moves g) (add rs o) ≡ true
      here e = ⊎_elim
          (λ (a : cancels o.op rs ≡ true). absurd (false≢true (sym (none_created g rs) ∙ ap (λ f. any_record (creates g) (without f rs)) (sym (undoes_own g o.op rs a e)) ∙ ap (any_record (creates g)) (sym (add_goes rs o a)) ∙ c)))
          (λ (b : cancels o.op rs ≡ false). last_moves rs o b (unbinds_moves g o.op e))
          (cases_Bool (cancels o.op rs))

  moved_all : (before rs os : List Record) → GoesOn before rs os → Moved before rs → Moved (before ++ os) (added rs os)
  moved_all before rs [] s m = subst (λ l. Moved l rs) (sym (append_nil before)) m
  moved_all before rs (o ∷ os) s m = subst (λ l. Moved l (added (add rs o) os)) (append_assoc before (o ∷ []) os) (moved_all (before ++ o ∷ []) (add rs o) os s.2 (moved_step before rs o s.0 m))

  begun : Moved [] []
  unfolding Moved
  begun u c = absurd (false≢true u)

  moved_fold : (os : List Record) → IsSteady os → any_record (unbinds g) os ≡ true → any_record (creates g) (fold os) ≡ true → any_record (moves g) (fold os) ≡ true
  unfolding Moved
  moved_fold os s = moved_all [] [] os s begun

-- what the fold has, the run has
any_of_fold : (t : Op → Bool) → Blind t → (rs os : List Record) → any_record t (added rs os) ≡ true → (any_record t rs || any_record t os) ≡ true
any_of_fold t b rs [] h = or_left (any_record t rs) false h
any_of_fold t b rs (o ∷ os) h = ⊎_elim
    (λ (a : any_record t (add rs o) ≡ true). ⊎_elim
    (λ (x : any_record t rs ≡ true). or_left (any_record t rs) (t o.op || any_record t os) x)
    (λ (y : t o.op ≡ true). or_right (any_record t rs) (t o.op || any_record t os) (or_left (t o.op) (any_record t os) y))
    (or_cases (any_record t rs) (t o.op) (any_in_add t b rs o a)))
    (λ (z : any_record t os ≡ true). or_right (any_record t rs) (t o.op || any_record t os) (or_right (t o.op) (any_record t os) z))
    (or_cases (any_record t (add rs o)) (any_record t os) (any_of_fold t b (add rs o) os h))

safe_empty : (f : Fid) (os : List Record) → IsSteady os → ChildrenLeft f os → IsSafe f (fold os)
safe_empty f os s left a b g e =
    moved_fold g os s (left g (any_of_fold (makes_in f g) (λ k x. makes-with_pre k f g x) [] os e)) (any_weaker (makes_in f g) (creates g) (λ o k. (makes_parts f g o k).1) (fold os) e)

safe_step : (o : Op) (os : List Record) → IsSteady os → RemovesEmpty o os → SafeStep o (fold os)
safe_step (Remove d n f pre) os s h = safe_empty f os s h
safe_step (Rmdir d n f pre) os s h = safe_empty f os s h
safe_step _ os s h = tt

goes_further : (before rs os : List Record) (o : Record) → GoesOn before rs os → IsFresh o.op (before ++ os) → SafeStep o.op (added rs os) → GoesOn before rs (os ++ o ∷ [])
goes_further before rs [] o g f s = (subst (IsFresh o.op) (append_nil before) f, s, tt)
goes_further before rs (p ∷ os) o g f s = (g.0, g.1, goes_further (before ++ p ∷ []) (add rs p) os o g.2 (subst (IsFresh o.op) (sym (append_assoc before (p ∷ []) os)) f) s)

pub kept_steady : (run : List Record) (o : Record) → IsSteady run → IsFresh o.op run → RemovesEmpty o.op run → IsSteady (run ++ o ∷ [])
kept_steady run o s f h = goes_further [] [] run o s f (safe_step o.op run s h)
