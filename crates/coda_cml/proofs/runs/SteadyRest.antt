-- the end of a steady run is steady
use Rattle.std.proofs.Common.{◌≡◌, ◌≢◌, Bool, true, false, cond, List, [], ◌∷◌, ◌++◌, refl, sym, ap, ◌∙◌, subst, ⊎_elim, ◌&&◌, ◌||◌}
use Rattle.std.proofs.lemmas.Bool.{cases_Bool, cond_both, and_parts, and_from, or_parts, or_cases, or_left, or_right, false≢true, false_from_ne_true}
use Rattle.coda_fid.specs.declared.fid.Fid.{Fid}
use Rattle.coda_fid.specs.declared.op.Op.{Op}
use Rattle.coda_fid.specs.declared.op.Record.{Record}
use Rattle.coda_fid.specs.declared.op.Op.TheVariants.{Remove, Rmdir}
use Rattle.coda_fid.specs.Fid.{same_fid}
use Rattle.coda_fid.specs.Op.{carried}
use Rattle.coda_cancel.specs.Handing.{hand, nothing, sid_or}
use Rattle.coda_cancel.specs.Dropping.{creates, drops, mentioning}
use Rattle.coda_cancel.specs.Cancel.{add, added, appended, cancels, debt, fold, kept, object, without}
use Rattle.coda_cancel.proofs.Keys.{fid_same, is_write}
use Rattle.coda_cml.specs.Steady.{GoesOn, IsSafe, IsSteady, SafeStep, any_record, is_move, makes_in, moves}
use Rattle.coda_cancel.proofs.Debts.{Blind, creates-with_pre}
use Rattle.coda_cml.proofs.runs.AlmostAlike.{drops_write}
use Rattle.coda_cml.proofs.runs.OtherRecords.{any-kept}
use Rattle.coda_cml.proofs.runs.InStep.{add_stays, cancels_seen, only_made_of}
use Rattle.coda_cml.proofs.runs.WithoutObject.{any-append, makes_parts, nothing_in}
use Rattle.coda_cml.proofs.runs.ThawedFold.{any_in_add, goes_split, makes-with_pre, moves-with_pre}
use Rattle.coda_cml.proofs.runs.StillThere.{Carry, carry_step, creates_not_write, makes_stays, quiet_creations}
use Rattle.coda_cml.proofs.runs.CutsAfterThaw.{begun}

any_weaker : (t u : Op → Bool) → ((o : Op) → t o ≡ true → u o ≡ true) → (rs : List Record) → any_record t rs ≡ true → any_record u rs ≡ true
any_weaker t u f [] h = h
any_weaker t u f (r ∷ rs) h = ⊎_elim (λ (a : t r.op ≡ true). or_left (u r.op) (any_record u rs) (f r.op a)) (λ (b : any_record t rs ≡ true). or_right (u r.op) (any_record u rs) (any_weaker t u f rs b)) (or_cases (t r.op) (any_record t rs) h)

any_without : (t : Op → Bool) (f : Fid) (rs : List Record) → any_record (λ o. t o && mentioning f o) rs ≡ false → any_record t rs ≡ true → any_record t (without f rs) ≡ true
any_without t f [] n h = h
any_without t f (r ∷ rs) n h = go (t r.op) (mentioning f r.op) refl (or_parts (t r.op && mentioning f r.op) (any_record (λ o. t o && mentioning f o) rs) n).0 h (any_without t f rs (or_parts (t r.op && mentioning f r.op) (any_record (λ o. t o && mentioning f o) rs) n).1)
  where
    go : (a b : Bool) → t r.op ≡ a → (a && b) ≡ false → (a || any_record t rs) ≡ true → (any_record t rs ≡ true → any_record t (without f rs) ≡ true) → any_record t (cond b (without f rs) (r ∷ without f rs)) ≡ true
    go true true e n h more = absurd (false≢true (sym n))
    go true false e n h more = or_left (t r.op) (any_record t (without f rs)) e
    go false true e n h more = more h
    go false false e n h more = or_right (t r.op) (any_record t (without f rs)) (more h)

-- a removal moves its object
cancels_moves : (x : Op) (y : List Record) (g : Fid) → cancels x y ≡ true → moves g x ≡ false → g ≢ object (carried x)
cancels_moves (Remove d n h pre) y g e m is = false≢true (sym m ∙ or_right (same_fid d g) (same_fid h g || false) (or_left (same_fid h g) false (fid_same h g (sym is))))
cancels_moves (Rmdir d n h pre) y g e m is = false≢true (sym m ∙ or_right (same_fid d g) (same_fid h g || false) (or_left (same_fid h g) false (fid_same h g (sym is))))
cancels_moves _ y g e m is = false≢true e

module _ (g : Fid) (t : Op → Bool) (b : Blind t) (making : (o : Op) → t o ≡ true → creates g o ≡ true) where
  idle : (x : Op) → is_write x ≡ true → t x ≡ false
  idle x w = false_from_ne_true _ (λ h. false≢true (sym (creates_not_write g x (making x h)) ∙ w))

  remains_one : (x : Record) → moves g x.op ≡ false → (y : List Record) → any_record t y ≡ true → any_record t (add y x) ≡ true
  remains_one x m y h = cond_both (cancels x.op y) (without (object (carried x.op)) y) (appended y x) (λ l. any_record t l ≡ true)
      (λ e. let ne = cancels_moves x.op y g e m in
      any_without t (object (carried x.op)) y (false_from_ne_true _ (λ k. false≢true (sym (quiet_creations g (object (carried x.op)) ne y (nothing_in (object (carried x.op)) g ne y (only_made_of (object (carried x.op)) y (cancels_seen x.op y e).0))) ∙
      any_weaker (λ o. t o && mentioning (object (carried x.op)) o) (λ o. creates g o && mentioning (object (carried x.op)) o) (λ o z. let a = and_parts (t o) (mentioning (object (carried x.op)) o) z in and_from (creates g o) (mentioning (object (carried x.op)) o) (making o a.0) a.1) y k))) h)
      (λ e. any-append t (kept (drops x.op) nothing y) (hand (debt (drops x.op) nothing y) x ∷ []) ∙ or_left (any_record t (kept (drops x.op) nothing y)) (any_record t (hand (debt (drops x.op) nothing y) x ∷ [])) (any-kept (drops x.op) (drops_write x.op) t b idle nothing y ∙ h))

  remains_all : (rs y : List Record) → any_record (moves g) rs ≡ false → any_record t y ≡ true → any_record t (added y rs) ≡ true
  remains_all [] y m h = h
  remains_all (x ∷ rs) y m h = let k = or_parts (moves g x.op) (any_record (moves g) rs) m in remains_all rs (add y x) k.1 (remains_one x k.0 y h)

  -- a creation that nothing of the list moves is there after the list is added
  remains : (rs y : List Record) → any_record (moves g) rs ≡ false → any_record t rs ≡ true → any_record t (added y rs) ≡ true
  remains [] y m h = absurd (false≢true h)
  remains (r ∷ rs) y m h = go (t r.op) refl h (remains rs (add y r) (or_parts (moves g r.op) (any_record (moves g) rs) m).1)
    where
      go : (c : Bool) → t r.op ≡ c → (c || any_record t rs) ≡ true → (any_record t rs ≡ true → any_record t (added (add y r) rs) ≡ true) → any_record t (added (add y r) rs) ≡ true
      go true e h more = remains_all rs (add y r) (or_parts (moves g r.op) (any_record (moves g) rs) m).1
          (ap (any_record t) (add_stays y r (makes_stays g 0 r.op y (making r.op e))) ∙ any-append t (kept (drops r.op) nothing y) (hand (debt (drops r.op) nothing y) r ∷ [])
          ∙ or_right (any_record t (kept (drops r.op) nothing y)) (t (hand (debt (drops r.op) nothing y) r).op || false) (or_left (t (hand (debt (drops r.op) nothing y) r).op) false (b (λ f q. sid_or (debt (drops r.op) nothing y f) q) r.op ∙ e)))
      go false e h more = more h

any_in_added : (t : Op → Bool) → Blind t → (y rs : List Record) → any_record t y ≡ false → any_record t rs ≡ false → any_record t (added y rs) ≡ false
any_in_added t b y [] h k = h
any_in_added t b y (r ∷ rs) h k =
    let m = or_parts (t r.op) (any_record t rs) k in
    any_in_added t b (add y r) rs (false_from_ne_true _ (λ e. false≢true (sym (λ i. h i || m.0 i) ∙ any_in_add t b y r e))) m.1

not_moved : (f : Fid) (x : List Record) → any_record (mentioning f) x ≡ false → any_record (moves f) x ≡ false
not_moved f x e = false_from_ne_true _ (λ h. false≢true (sym e ∙ any_weaker (moves f) (mentioning f) (λ o k. (and_parts (is_move o) (mentioning f o) k).1) x h))

safe_back : (x before rs : List Record) → Carry x before rs → (f : Fid) → IsSafe f (added x rs) → IsSafe f rs
safe_back x before rs c f s a b g e = ⊎_elim
    (λ (h : any_record (moves g) rs ≡ true). h)
    (λ (h : any_record (moves g) rs ≡ false).
    let made : any_record (creates g) rs ≡ true = any_weaker (makes_in f g) (creates g) (λ o k. (makes_parts f g o k).1) rs e in
    absurd (false≢true (sym (any_in_added (moves g) (λ k o. moves-with_pre k g o) x rs (not_moved g x (c.fresh g made)) h) ∙
    s (remains f (creates f) (λ k o. creates-with_pre k f o) (λ o k. k) rs x b a)
    (any_in_added (moves f) (λ k o. moves-with_pre k f o) x rs (not_moved f x (c.fresh f a)) b) g
    (remains g (makes_in f g) (λ k o. makes-with_pre k f g o) (λ o k. (makes_parts f g o k).1) rs x h e))))
    (cases_Bool (any_record (moves g) rs))

step_back : (x before rs : List Record) → Carry x before rs → (o : Op) → SafeStep o (added x rs) → SafeStep o rs
step_back x before rs c (Remove d n f pre) s = safe_back x before rs c f s
step_back x before rs c (Rmdir d n f pre) s = safe_back x before rs c f s
step_back x before rs c _ s = tt

back : (x before rs tail os : List Record) → Carry x before rs → ((f : Fid) → any_record (mentioning f) before ≡ false → any_record (mentioning f) tail ≡ false) → GoesOn before (added x rs) os → GoesOn tail rs os
back x before rs tail [] c sub g = tt
back x before rs tail (o ∷ os) c sub g =
    let n = carry_step x before rs o os c g in (
      (λ f k. sub f (g.0 f k)),
      step_back x before rs c o.op g.1,
      back x (before ++ o ∷ []) (add rs o) (tail ++ o ∷ []) os n.1
          (λ f h. let k = or_parts (any_record (mentioning f) before) (any_record (mentioning f) (o ∷ [])) (sym (any-append (mentioning f) before (o ∷ [])) ∙ h) in any-append (mentioning f) tail (o ∷ []) ∙ (λ i. sub f k.0 i || k.1 i))
          (subst (λ l. GoesOn (before ++ o ∷ []) l os) (sym n.0) g.2),
    )

-- what is left of a steady run after a chunk is applied is steady
pub suffix : (front rest : List Record) → IsSteady (front ++ rest) → IsSteady rest
suffix front rest s = back (fold front) front [] [] rest (begun 0 front) (λ f h. refl) (goes_split [] [] front rest s)
