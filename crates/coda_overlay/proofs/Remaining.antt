-- What takes an object out is dropped by nothing, unless the object was created before.
use Rattle.std.proofs.Common.{◌≡◌, Bool, true, false, cond, ◌||◌, not, List, [], ◌∷◌, Some, None, refl, sym, ap, ◌∙◌}
use Rattle.std.proofs.Common.{subst, ⊎_elim, inl, inr, ◌⊎◌}
use Rattle.std.proofs.lemmas.Bool.{cond_both, and_parts, or_parts, or_cases, or_left, or_right, false≢true}
use Rattle.std.proofs.lemmas.Bool.{false_from_ne_true}
use Rattle.std.proofs.lemmas.List.{append-nil}
use Rattle.coda_fid.specs.Op.{carried}
use Rattle.coda_fid.specs.declared.fid.Fid.{Fid}
use Rattle.coda_fid.specs.declared.op.Op.{Op}
use Rattle.coda_fid.specs.declared.op.Op.TheVariants.{Create, Mkdir, Symlink, Store, Setattr, Remove, Rmdir, Rename}
use Rattle.coda_fid.specs.declared.op.Record.{Record}
use Rattle.coda_cancel.specs.Handing.{Debt, nothing, owe, paid, hand, sid_or}
use Rattle.coda_cancel.specs.Dropping.{mentioning, creates, writes, drops}
use Rattle.coda_cancel.specs.Cancel.{cancels, without, object, kept, debt, appended, add}
use Rattle.coda_cancel.proofs.Debts.{Blind}
use Rattle.coda_cancel.proofs.Keys.{fid_true, is_write}
use Rattle.coda_cml.specs.Steady.{any_record}
use Rattle.coda_cml.proofs.runs.AlmostAlike.{drops_write}
use Rattle.coda_cml.proofs.runs.UndoneCreations.{all_records, only_made, undone_parts}
use Rattle.coda_cml.proofs.runs.ThawedFold.{creates_in_add}
use Rattle.coda_cml.proofs.runs.WithoutObject.{any-append}
use Rattle.coda_overlay.specs.Overlaying.{takes_out}
use Rattle.coda_overlay.specs.Laws.{TakenOutStays}

pub takes_with_pre : (f : Fid) → Blind (takes_out f)
takes_with_pre f h (Rename d n x m g None) = refl
takes_with_pre f h (Rename d n x m g (Some v)) = refl
takes_with_pre f h _ = refl

-- no write takes out
pub takes_no_write : (f : Fid) (op : Op) → takes_out f op ≡ true → is_write op ≡ false
takes_no_write f (Create d n g mode owner) h = refl
takes_no_write f (Mkdir d n g mode owner) h = refl
takes_no_write f (Symlink d n g target mode owner) h = refl
takes_no_write f (Store g pre content) h = absurd (false≢true h)
takes_no_write f (Setattr g pre a) h = absurd (false≢true h)
takes_no_write f (Remove d n g pre) h = refl
takes_no_write f (Rmdir d n g pre) h = refl
takes_no_write f (Rename d n x m g over) h = refl

-- nor does what creates or writes an object
pub takes_nothing_made : (f x : Fid) (op : Op) → takes_out f op ≡ true → (creates x op || writes x op) ≡ true → ⊥
takes_nothing_made f x (Create d n g mode owner) h m = false≢true h
takes_nothing_made f x (Mkdir d n g mode owner) h m = false≢true h
takes_nothing_made f x (Symlink d n g target mode owner) h m = false≢true h
takes_nothing_made f x (Store g pre content) h m = false≢true h
takes_nothing_made f x (Setattr g pre a) h m = false≢true h
takes_nothing_made f x (Remove d n g pre) h m = false≢true m
takes_nothing_made f x (Rmdir d n g pre) h m = false≢true m
takes_nothing_made f x (Rename d n y m g over) h k = false≢true k

module _ (f : Fid) where
  kept_takes : (op : Op) (owed : Debt) (rs : List Record) → any_record (takes_out f) rs ≡ true
      → any_record (takes_out f) (kept (drops op) owed rs) ≡ true
  kept_takes op owed [] h = h
  kept_takes op owed (r ∷ rs) h =
      go (drops op r.op) refl (or_cases (takes_out f r.op) (any_record (takes_out f) rs) h)
      (kept_takes op (owe owed (carried r.op)) rs) (kept_takes op (paid owed (carried r.op)) rs)
    where
      go : (b : Bool) → drops op r.op ≡ b → (takes_out f r.op ≡ true) ⊎ (any_record (takes_out f) rs ≡ true) → (any_record (takes_out f) rs ≡ true → any_record (takes_out f) (kept (drops op) (owe owed (carried r.op)) rs) ≡ true)
          → (any_record (takes_out f) rs ≡ true → any_record (takes_out f)
          (kept (drops op) (paid owed (carried r.op)) rs) ≡ true) → any_record (takes_out f)
          (cond b (kept (drops op) (owe owed (carried r.op)) rs)
          (hand owed r ∷ kept (drops op) (paid owed (carried r.op)) rs)) ≡ true
      go true e (inl here) one two = absurd (false≢true (sym (takes_no_write f r.op here) ∙ drops_write op r.op e))
      go true e (inr later) one two = one later
      go false e (inl here) one two =
          or_left (takes_out f (hand owed r).op) _ (takes_with_pre f (λ g p. sid_or (owed g) p) r.op ∙ here)
      go false e (inr later) one two = or_right (takes_out f (hand owed r).op) _ (two later)

  without_takes : (x : Fid) (rs : List Record) → all_records (only_made x) rs ≡ true
      → any_record (takes_out f) rs ≡ true → any_record (takes_out f) (without x rs) ≡ true
  without_takes x [] m h = h
  without_takes x (r ∷ rs) m h =
      go (mentioning x r.op) refl (or_cases (takes_out f r.op) (any_record (takes_out f) rs) h)
      (without_takes x rs (and_parts _ _ m).1)
    where
      go : (b : Bool) → mentioning x r.op ≡ b → (takes_out f r.op ≡ true) ⊎ (any_record (takes_out f) rs ≡ true)
          → (any_record (takes_out f) rs ≡ true → any_record (takes_out f) (without x rs) ≡ true)
          → any_record (takes_out f) (cond b (without x rs) (r ∷ without x rs)) ≡ true
      go true e (inl here) more =
          absurd (takes_nothing_made f x r.op here
          (ap (λ b. not b || (creates x r.op || writes x r.op)) (sym e) ∙ (and_parts _ _ m).0))
      go true e (inr later) more = more later
      go false e (inl here) more = or_left (takes_out f r.op) _ here
      go false e (inr later) more = or_right (takes_out f r.op) _ (more later)

  -- the operation that cancels removes what was created
  cancelled : (op : Op) (rs : List Record) → cancels op rs ≡ true → (all_records (only_made (object (carried op))) rs ≡ true) × (takes_out f op ≡ true → any_record (creates f) rs ≡ true)
  cancelled (Remove d n x pre) rs h = let p = undone_parts x rs h in (p.1, λ same. subst (λ y. any_record (creates y) rs ≡ true) (fid_true x f same) p.0)
  cancelled (Rmdir d n x pre) rs h = let p = undone_parts x rs h in (p.1, λ same. subst (λ y. any_record (creates y) rs ≡ true) (fid_true x f same) p.0)
  cancelled _ rs h = absurd (false≢true h)

  pub add_before : (rs : List Record) (o : Record) → any_record (takes_out f) rs ≡ true
      → any_record (takes_out f) (add rs o) ≡ true
  add_before rs o before =
      cond_both (cancels o.op rs) (without (object (carried o.op)) rs) (appended rs o)
      (λ l. any_record (takes_out f) l ≡ true)
      (λ c. without_takes (object (carried o.op)) rs (cancelled o.op rs c).0 before)
      (λ c. any-append (takes_out f) (kept (drops o.op) nothing rs) (hand (debt (drops o.op) nothing rs) o ∷ [])
      ∙ or_left (any_record (takes_out f) (kept (drops o.op) nothing rs)) _ (kept_takes o.op nothing rs before))

  add_takes : (rs : List Record) (o : Record) → any_record (creates f) rs ≡ false
      → (any_record (takes_out f) rs ≡ true) ⊎ (takes_out f o.op ≡ true) → any_record (takes_out f) (add rs o) ≡ true
  add_takes rs o none h =
      cond_both (cancels o.op rs) (without (object (carried o.op)) rs) (appended rs o)
      (λ l. any_record (takes_out f) l ≡ true)
      (λ c. ⊎_elim
      (λ (before : any_record (takes_out f) rs ≡ true). without_takes (object (carried o.op)) rs
      (cancelled o.op rs c).0 before)
      (λ (now : takes_out f o.op ≡ true). absurd (false≢true (sym none ∙ (cancelled o.op rs c).1 now)))
      h)
      (λ c. any-append (takes_out f) (kept (drops o.op) nothing rs) (hand (debt (drops o.op) nothing rs) o ∷ [])
      ∙ ⊎_elim
      (λ (before : any_record (takes_out f) rs ≡ true). or_left
      (any_record (takes_out f) (kept (drops o.op) nothing rs)) _ (kept_takes o.op nothing rs before))
      (λ (now : takes_out f o.op ≡ true). or_right (any_record (takes_out f) (kept (drops o.op) nothing rs)) _
      (or_left (takes_out f (hand (debt (drops o.op) nothing rs) o).op) false
      (takes_with_pre f (λ g p. sid_or (debt (drops o.op) nothing rs g) p) o.op ∙ now)))
      h)

none_added : (f : Fid) (log : List Record) (o : Record) → any_record (creates f) log ≡ false → creates f o.op ≡ false
    → any_record (creates f) (add log o) ≡ false
none_added f log o a b =
    false_from_ne_true _ (λ h. ⊎_elim (λ (c : any_record (creates f) log ≡ true). false≢true (sym a ∙ c))
    (λ (c : creates f o.op ≡ true). false≢true (sym b ∙ c)) (or_cases _ _ (creates_in_add f log o h)))

pub taken_out_stays : TakenOutStays
taken_out_stays f log [] none h = subst (λ l. any_record (takes_out f) l ≡ true) (append-nil log) h
taken_out_stays f log (o ∷ run) none h =
    let n = or_parts _ _ (sym (any-append (creates f) log (o ∷ run)) ∙ none) in
    let m = or_parts _ _ n.1 in
    taken_out_stays f (add log o) run (any-append (creates f) (add log o) run
    ∙ (λ i. none_added f log o n.0 m.0 i || m.1 i))
    (any-append (takes_out f) (add log o) run ∙ ⊎_elim
    (λ (a : any_record (takes_out f) log ≡ true). or_left (any_record (takes_out f) (add log o)) _
    (add_takes f log o n.0 (inl a)))
    (λ (b : (takes_out f o.op || any_record (takes_out f) run) ≡ true). ⊎_elim
    (λ (c : takes_out f o.op ≡ true). or_left (any_record (takes_out f) (add log o)) _ (add_takes f log o n.0 (inr c)))
    (λ (d : any_record (takes_out f) run ≡ true). or_right (any_record (takes_out f) (add log o)) _ d)
    (or_cases (takes_out f o.op) (any_record (takes_out f) run) b))
    (or_cases (any_record (takes_out f) log) (any_record (takes_out f) (o ∷ run))
    (sym (any-append (takes_out f) log (o ∷ run)) ∙ h)))
