-- The last record that mentions an object and takes it out stays so.
use Rattle.std.proofs.Common.{◌≡◌, Bool, true, false, cond, ◌||◌, not, List, [], ◌∷◌, ◌++◌, Some, None, refl, sym, ap, ◌∙◌}
use Rattle.std.proofs.Common.{subst, ⊎_elim, inl, inr, ◌⊎◌}
use Rattle.std.proofs.lemmas.Bool.{cond_both, and_parts, or_parts, or_cases, or_left, or_right, false≢true}
use Rattle.std.proofs.lemmas.Bool.{false_from_ne_true, cases_Bool}
use Rattle.std.proofs.lemmas.List.{append-nil}
use Rattle.coda_fid.specs.Fid.{same_fid}
use Rattle.coda_fid.specs.Op.{carried}
use Rattle.coda_fid.specs.declared.fid.Fid.{Fid}
use Rattle.coda_fid.specs.declared.op.Op.{Op}
use Rattle.coda_fid.specs.declared.op.Op.TheVariants.{Create, Mkdir, Symlink, Store, Setattr, Remove, Rmdir, Rename}
use Rattle.coda_fid.specs.declared.op.Record.{Record}
use Rattle.coda_cancel.specs.Handing.{Debt, nothing, owe, paid, hand, sid_or}
use Rattle.coda_cancel.specs.Dropping.{mentioning, creates, writes, drops}
use Rattle.coda_cancel.specs.Cancel.{cancels, without, object, kept, debt, appended, add, added}
use Rattle.coda_cancel.proofs.Debts.{mentioning-with_pre}
use Rattle.coda_cancel.proofs.Keys.{fid_true}
use Rattle.coda_cml.specs.Steady.{any_record}
use Rattle.coda_cml.proofs.runs.AlmostAlike.{drops_write}
use Rattle.coda_cml.proofs.runs.ThawedFold.{cancels_created}
use Rattle.coda_cml.proofs.runs.UndoneCreations.{all_records, only_made, undone_parts}
use Rattle.coda_cml.proofs.runs.WithoutObject.{any-append, any_kept_sub, any_sub}
use Rattle.coda_overlay.specs.Overlaying.{takes_out, EndsTakenOut}
use Rattle.coda_overlay.specs.Laws.{EndsStayTakenOut}
use Rattle.coda_overlay.proofs.Remaining.{takes_with_pre, takes_no_write, takes_nothing_made}

-- what takes an object out mentions it
pub takes_mentions : (f : Fid) (o : Op) → takes_out f o ≡ true → mentioning f o ≡ true
takes_mentions f (Create dir name fid mode owner) h = absurd (false≢true h)
takes_mentions f (Mkdir dir name fid mode owner) h = absurd (false≢true h)
takes_mentions f (Symlink dir name fid target mode owner) h = absurd (false≢true h)
takes_mentions f (Store fid pre content) h = absurd (false≢true h)
takes_mentions f (Setattr fid pre attrs) h = absurd (false≢true h)
takes_mentions f (Remove dir name fid pre) h = or_right (same_fid dir f) (same_fid fid f || false) (or_left (same_fid fid f) false h)
takes_mentions f (Rmdir dir name fid pre) h = or_right (same_fid dir f) (same_fid fid f || false) (or_left (same_fid fid f) false h)
takes_mentions f (Rename from_dir from to_dir to fid None) h = absurd (false≢true h)
takes_mentions f (Rename from_dir from to_dir to fid (Some v)) h =
    or_right (same_fid from_dir f) _ (or_right (same_fid to_dir f) _ (or_right (same_fid fid f) (same_fid v.fid f || false) (or_left (same_fid v.fid f) false h)))

module _ (f : Fid) where
  abbrev quiet : List Record → Type 0
  quiet recs = any_record (mentioning f) recs ≡ false

  -- ---- lists behind one another

  pub ends_behind : (front back : List Record) → EndsTakenOut f back → EndsTakenOut f (front ++ back)
  ends_behind [] back e = e
  ends_behind (rec ∷ front) back e = inl (ends_behind front back e)

  pub ends_before : (front back : List Record) → EndsTakenOut f front → quiet back → EndsTakenOut f (front ++ back)
  ends_before [] back e q = absurd e
  ends_before (rec ∷ front) back (inl e) q = inl (ends_before front back e q)
  ends_before (rec ∷ front) back (inr e) q = inr (e.0, any-append (mentioning f) front back ∙ ap (λ b. b || any_record (mentioning f) back) e.1 ∙ q)

  pub ends_split : (front back : List Record) → EndsTakenOut f (front ++ back)
      → EndsTakenOut f back ⊎ (EndsTakenOut f front × quiet back)
  ends_split [] back e = inl e
  ends_split (rec ∷ front) back (inl e) = elim (ends_split front back e) [
    | inl later ↦ inl later
    | inr here ↦ inr (inl here.0, here.1)
  ]
  ends_split (rec ∷ front) back (inr e) =
      let q = or_parts (any_record (mentioning f) front) (any_record (mentioning f) back) (sym (any-append (mentioning f) front back) ∙ e.1) in
      inr (inr (e.0, q.0), q.1)

  -- what ends taken out takes it out
  pub ends_take : (recs : List Record) → EndsTakenOut f recs → any_record (takes_out f) recs ≡ true
  ends_take [] e = absurd e
  ends_take (rec ∷ recs) (inl e) = or_right (takes_out f rec.op) (any_record (takes_out f) recs) (ends_take recs e)
  ends_take (rec ∷ recs) (inr e) = or_left (takes_out f rec.op) (any_record (takes_out f) recs) e.0

  -- ---- what is left of a list

  kept_quiet : (op : Op) (owed : Debt) (recs : List Record) → quiet recs → quiet (kept (drops op) owed recs)
  kept_quiet op owed recs q = false_from_ne_true _ (λ h. false≢true (sym q ∙ any_kept_sub (mentioning f) (λ g x. mentioning-with_pre g f x) (drops op) owed recs h))

  without_quiet : (x : Fid) (recs : List Record) → quiet recs → quiet (without x recs)
  without_quiet x recs q = false_from_ne_true _ (λ h. false≢true (sym q ∙ any_sub (mentioning f) x recs h))

  kept_ends : (op : Op) (owed : Debt) (recs : List Record) → EndsTakenOut f recs → EndsTakenOut f (kept (drops op) owed recs)
  kept_ends op owed [] e = e
  kept_ends op owed (r ∷ recs) e = go (drops op r.op) refl e (kept_ends op (owe owed (carried r.op)) recs) (kept_ends op (paid owed (carried r.op)) recs)
    where
      go : (b : Bool) → drops op r.op ≡ b → EndsTakenOut f (r ∷ recs)
          → (EndsTakenOut f recs → EndsTakenOut f (kept (drops op) (owe owed (carried r.op)) recs))
          → (EndsTakenOut f recs → EndsTakenOut f (kept (drops op) (paid owed (carried r.op)) recs))
          → EndsTakenOut f (cond b (kept (drops op) (owe owed (carried r.op)) recs) (hand owed r ∷ kept (drops op) (paid owed (carried r.op)) recs))
      go true is (inl later) one two = one later
      go true is (inr here) one two = absurd (false≢true (sym (takes_no_write f r.op here.0) ∙ drops_write op r.op is))
      go false is (inl later) one two = inl (two later)
      go false is (inr here) one two = inr (takes_with_pre f (λ g p. sid_or (owed g) p) r.op ∙ here.0, kept_quiet op (paid owed (carried r.op)) recs here.1)

  without_ends : (x : Fid) (recs : List Record) → all_records (only_made x) recs ≡ true → EndsTakenOut f recs
      → EndsTakenOut f (without x recs)
  without_ends x [] made e = e
  without_ends x (r ∷ recs) made e = go (mentioning x r.op) refl e (without_ends x recs (and_parts _ _ made).1)
    where
      go : (b : Bool) → mentioning x r.op ≡ b → EndsTakenOut f (r ∷ recs)
          → (EndsTakenOut f recs → EndsTakenOut f (without x recs))
          → EndsTakenOut f (cond b (without x recs) (r ∷ without x recs))
      go true is (inl later) more = more later
      go true is (inr here) more = absurd (takes_nothing_made f x r.op here.0 (ap (λ b. not b || (creates x r.op || writes x r.op)) (sym is) ∙ (and_parts _ _ made).0))
      go false is (inl later) more = inl (more later)
      go false is (inr here) more = inr (here.0, without_quiet x recs here.1)

  -- nothing is left that mentions an object that goes
  nothing_left : (recs : List Record) → quiet (without f recs)
  nothing_left [] = refl
  nothing_left (r ∷ recs) = go (mentioning f r.op) refl (nothing_left recs)
    where
      go : (b : Bool) → mentioning f r.op ≡ b → quiet (without f recs) → quiet (cond b (without f recs) (r ∷ without f recs))
      go true is q = q
      go false is q = ap (λ b. b || any_record (mentioning f) (without f recs)) is ∙ q

  -- ---- an operation more

  -- an operation that undoes a creation: the others that mention its object make it; and it takes out that object
  cancelled : (op : Op) (recs : List Record) → cancels op recs ≡ true
      → (all_records (only_made (object (carried op))) recs ≡ true) × (takes_out f op ≡ true → object (carried op) ≡ f)
  cancelled (Remove d n x pre) recs h = ((undone_parts x recs h).1, λ same. fid_true x f same)
  cancelled (Rmdir d n x pre) recs h = ((undone_parts x recs h).1, λ same. fid_true x f same)
  cancelled _ recs h = absurd (false≢true h)

  add_taken : (log : List Record) (rec : Record) → takes_out f rec.op ≡ true
      → any_record (mentioning f) (add log rec) ≡ true → EndsTakenOut f (add log rec)
  add_taken log rec takes = cond_both (cancels rec.op log) (without (object (carried rec.op)) log) (appended log rec) (λ l. any_record (mentioning f) l ≡ true → EndsTakenOut f l)
      (λ c m. absurd (false≢true (sym (subst (λ x. quiet (without x log)) (sym ((cancelled rec.op log c).1 takes)) (nothing_left log)) ∙ m)))
      (λ c m. ends_behind (kept (drops rec.op) nothing log) (hand (debt (drops rec.op) nothing log) rec ∷ [])
      (inr (takes_with_pre f (λ g p. sid_or (debt (drops rec.op) nothing log g) p) rec.op ∙ takes, refl)))

  -- a removal that leaves nothing which mentions the object undid its creation
  pub taken_undone : (log : List Record) (rec : Record) → takes_out f rec.op ≡ true → quiet (add log rec)
      → any_record (creates f) log ≡ true
  taken_undone log rec takes = cond_both (cancels rec.op log) (without (object (carried rec.op)) log) (appended log rec) (λ l. quiet l → any_record (creates f) log ≡ true)
      (λ c q. subst (λ x. any_record (creates x) log ≡ true) ((cancelled rec.op log c).1 takes) (cancels_created rec.op log c))
      (λ c q. absurd (false≢true (sym (or_parts _ _ (or_parts _ _ (sym (any-append (mentioning f) (kept (drops rec.op) nothing log) (hand (debt (drops rec.op) nothing log) rec ∷ [])) ∙ q)).1).0
      ∙ mentioning-with_pre (λ g p. sid_or (debt (drops rec.op) nothing log g) p) f rec.op ∙ takes_mentions f rec.op takes)))

  add_stays : (log : List Record) (rec : Record) → EndsTakenOut f log → mentioning f rec.op ≡ false
      → EndsTakenOut f (add log rec)
  add_stays log rec e m = cond_both (cancels rec.op log) (without (object (carried rec.op)) log) (appended log rec) (EndsTakenOut f)
      (λ c. without_ends (object (carried rec.op)) log (cancelled rec.op log c).0 e)
      (λ c. ends_before (kept (drops rec.op) nothing log) (hand (debt (drops rec.op) nothing log) rec ∷ []) (kept_ends rec.op nothing log e)
      (ap (λ b. b || false) (mentioning-with_pre (λ g p. sid_or (debt (drops rec.op) nothing log g) p) f rec.op ∙ m)))

  -- what is added to a log that doesn't mention the object mentions it, if the whole does
  pub add_quiet : (log : List Record) (rec : Record) → quiet log → mentioning f rec.op ≡ false → quiet (add log rec)
  add_quiet log rec q m = cond_both (cancels rec.op log) (without (object (carried rec.op)) log) (appended log rec) quiet
      (λ c. without_quiet (object (carried rec.op)) log q)
      (λ c. any-append (mentioning f) (kept (drops rec.op) nothing log) (hand (debt (drops rec.op) nothing log) rec ∷ [])
      ∙ ap (λ b. b || any_record (mentioning f) (hand (debt (drops rec.op) nothing log) rec ∷ [])) (kept_quiet rec.op nothing log q)
      ∙ ap (λ b. b || false) (mentioning-with_pre (λ g p. sid_or (debt (drops rec.op) nothing log g) p) f rec.op ∙ m))

  added_quiet : (log run : List Record) → quiet log → quiet run → quiet (added log run)
  added_quiet log [] q r = q
  added_quiet log (rec ∷ run) q r = (let p = or_parts _ _ r in added_quiet (add log rec) run (add_quiet log rec q p.0) p.1)

  -- ---- a tail that comes back

  added_ends : (log run : List Record) → EndsTakenOut f (log ++ run) → any_record (mentioning f) (added log run) ≡ true
      → EndsTakenOut f (added log run)
  added_ends log [] e m = subst (EndsTakenOut f) (append-nil log) e
  added_ends log (rec ∷ run) e m = elim (ends_split log (rec ∷ run) e) [
    | inl (inl later) ↦ added_ends (add log rec) run (ends_behind (add log rec) run later) m
    | inl (inr here) ↦
        let seen : any_record (mentioning f) (add log rec) ≡ true = elim (cases_Bool (any_record (mentioning f) (add log rec))) [
          | inl is ↦ is
          | inr none ↦ absurd (false≢true (sym (added_quiet (add log rec) run none here.1) ∙ m))
        ] in
        added_ends (add log rec) run (ends_before (add log rec) run (add_taken log rec here.0 seen) here.1) m
    | inr before ↦
        let p = or_parts _ _ before.1 in
        added_ends (add log rec) run (ends_before (add log rec) run (add_stays log rec before.0 p.0) p.1) m
  ]

pub ends_stay : EndsStayTakenOut
ends_stay = record { taken = λ f log rec t m. add_taken f log rec t m; stays = λ f log rec e m. add_stays f log rec e m; thawed = λ f chunk tail e m. added_ends f chunk tail e m }
