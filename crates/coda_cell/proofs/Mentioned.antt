-- A log mentions each directory in which something that is pending was made and left.
use Rattle.std.proofs.Common.{◌≡◌, ◌≢◌, Bool, true, false, ◌||◌, List, [], ◌∷◌, refl, sym, ap, ◌∙◌, inl, inr, ◌⊎◌}
use Rattle.std.proofs.lemmas.Bool.{cond_both, or_cases, or_left, or_right, or_parts, false≢true, false_from_ne_true}
use Rattle.coda_fid.specs.Fid.{same_fid}
use Rattle.coda_fid.specs.Op.{carried}
use Rattle.coda_fid.specs.declared.fid.Fid.{Fid}
use Rattle.coda_fid.specs.declared.op.Op.{Op}
use Rattle.coda_fid.specs.declared.op.Op.TheVariants.{Create, Mkdir, Symlink, Store, Setattr, Remove, Rmdir, Rename}
use Rattle.coda_fid.specs.declared.op.Record.{Record}
use Rattle.coda_cancel.specs.Handing.{nothing, hand, sid_or}
use Rattle.coda_cancel.specs.Dropping.{mentioning, creates, writes, drops}
use Rattle.coda_cancel.specs.Cancel.{kept, debt, without, cancels, object, appended, add, added, fold}
use Rattle.coda_cancel.proofs.Keys.{fid_true, fid_false, is_write}
use Rattle.coda_cml.specs.Steady.{any_record, makes_in, unbinds}
use Rattle.coda_cml.proofs.runs.AlmostAlike.{drops_write}
use Rattle.coda_cml.proofs.runs.OtherRecords.{any-kept}
use Rattle.coda_cml.proofs.runs.InStep.{add_stays, only_made_of, cancels_seen}
use Rattle.coda_cml.proofs.runs.WithoutObject.{any-append, any_same, makes_parts}
use Rattle.coda_cml.proofs.runs.ThawedFold.{makes-with_pre}
use Rattle.coda_cell.specs.Accepting.{is_mentioned}
use Rattle.coda_cell.specs.State.{pending, ClientVolume}
use Rattle.coda_cell.proofs.KeptChildren.{any_weaker}

only : (b : Bool) → (b || false) ≡ true → b ≡ true
only true is = refl
only false is = is

-- what creates an object creates no other, and writes none
creates_one : (op : Op) (kid other : Fid) → creates kid op ≡ true → (creates other op || writes other op) ≡ true → kid ≡ other
creates_one (Create dir name fid mode owner) kid other one two = sym (fid_true fid kid one) ∙ fid_true fid other (only (same_fid fid other) two)
creates_one (Mkdir dir name fid mode owner) kid other one two = sym (fid_true fid kid one) ∙ fid_true fid other (only (same_fid fid other) two)
creates_one (Symlink dir name fid target mode owner) kid other one two = sym (fid_true fid kid one) ∙ fid_true fid other (only (same_fid fid other) two)
creates_one (Store fid pre content) kid other one two = absurd (false≢true one)
creates_one (Setattr fid pre attrs) kid other one two = absurd (false≢true one)
creates_one (Remove dir name fid pre) kid other one two = absurd (false≢true one)
creates_one (Rmdir dir name fid pre) kid other one two = absurd (false≢true one)
creates_one (Rename from_dir from to_dir to fid over) kid other one two = absurd (false≢true one)

-- an operation that undoes a creation takes its object from where it is bound
undoes_other : (op : Op) (recs : List Record) (kid : Fid) → cancels op recs ≡ true → unbinds kid op ≡ false → kid ≢ object (carried op)
undoes_other (Create dir name fid mode owner) recs kid goes stays same = false≢true goes
undoes_other (Mkdir dir name fid mode owner) recs kid goes stays same = false≢true goes
undoes_other (Symlink dir name fid target mode owner) recs kid goes stays same = false≢true goes
undoes_other (Store fid pre content) recs kid goes stays same = false≢true goes
undoes_other (Setattr fid pre attrs) recs kid goes stays same = false≢true goes
undoes_other (Remove dir name fid pre) recs kid goes stays same = fid_false fid kid stays (sym same)
undoes_other (Rmdir dir name fid pre) recs kid goes stays same = fid_false fid kid stays (sym same)
undoes_other (Rename from_dir from to_dir to fid over) recs kid goes stays same = false≢true goes

-- what makes something is no write, and undoes nothing
makes_no_write : (dir kid : Fid) (op : Op) → is_write op ≡ true → makes_in dir kid op ≡ false
makes_no_write dir kid (Store fid pre content) is = refl
makes_no_write dir kid (Setattr fid pre attrs) is = refl
makes_no_write dir kid _ is = absurd (false≢true is)

makes_undoes_none : (dir kid : Fid) (op : Op) (recs : List Record) → makes_in dir kid op ≡ true → cancels op recs ≡ false
makes_undoes_none dir kid (Remove home name fid pre) recs is = absurd (false≢true is)
makes_undoes_none dir kid (Rmdir home name fid pre) recs is = absurd (false≢true is)
makes_undoes_none dir kid _ recs is = refl

module _ (dir kid : Fid) where
  -- what made the object stays as an operation is added that doesn't take the object from where it is bound
  made_stays : (recs : List Record) (rec : Record) → unbinds kid rec.op ≡ false → any_record (makes_in dir kid) recs ≡ true → any_record (makes_in dir kid) (add recs rec) ≡ true
  made_stays recs rec stays made = cond_both (cancels rec.op recs) (without (object (carried rec.op)) recs) (appended recs rec) (λ l. any_record (makes_in dir kid) l ≡ true)
      (λ goes. any_same (makes_in dir kid) (object (carried rec.op))
      (λ op alone. false_from_ne_true (makes_in dir kid op) (λ makes. undoes_other rec.op recs kid goes stays (creates_one op kid (object (carried rec.op)) (makes_parts dir kid op makes).1 alone)))
      recs (only_made_of (object (carried rec.op)) recs (cancels_seen rec.op recs goes).0) ∙ made)
      (λ _. any-append (makes_in dir kid) (kept (drops rec.op) nothing recs) (hand (debt (drops rec.op) nothing recs) rec ∷ [])
      ∙ or_left (any_record (makes_in dir kid) (kept (drops rec.op) nothing recs)) (any_record (makes_in dir kid) (hand (debt (drops rec.op) nothing recs) rec ∷ []))
      (any-kept (drops rec.op) (drops_write rec.op) (makes_in dir kid) (λ h op. makes-with_pre h dir kid op) (makes_no_write dir kid) nothing recs ∙ made))

  -- and is there once it was added
  newly_made : (recs : List Record) (rec : Record) → makes_in dir kid rec.op ≡ true → any_record (makes_in dir kid) (add recs rec) ≡ true
  newly_made recs rec makes = ap (any_record (makes_in dir kid)) (add_stays recs rec (makes_undoes_none dir kid rec.op recs makes))
      ∙ any-append (makes_in dir kid) (kept (drops rec.op) nothing recs) (hand (debt (drops rec.op) nothing recs) rec ∷ [])
      ∙ or_right (any_record (makes_in dir kid) (kept (drops rec.op) nothing recs)) (any_record (makes_in dir kid) (hand (debt (drops rec.op) nothing recs) rec ∷ []))
      (or_left (makes_in dir kid (hand (debt (drops rec.op) nothing recs) rec).op) false (makes-with_pre (λ f pre. sid_or (debt (drops rec.op) nothing recs f) pre) dir kid rec.op ∙ makes))

  made_behind : (recs run : List Record) → any_record (unbinds kid) run ≡ false → (any_record (makes_in dir kid) recs ≡ true) ⊎ (any_record (makes_in dir kid) run ≡ true) → any_record (makes_in dir kid) (added recs run) ≡ true
  made_behind recs [] stays (inl before) = before
  made_behind recs [] stays (inr none) = absurd (false≢true none)
  made_behind recs (rec ∷ run) stays made =
      let parts = or_parts (unbinds kid rec.op) (any_record (unbinds kid) run) stays in
      made_behind (add recs rec) run parts.1 (elim made [
        | inl before ↦ inl (made_stays recs rec parts.0 before)
        | inr later ↦ elim (or_cases (makes_in dir kid rec.op) (any_record (makes_in dir kid) run) later) [ inl now ↦ inl (newly_made recs rec now) | inr behind ↦ inr behind ]
      ])

  -- what is left of a run mentions a directory in which the run made an object, unless the run took the object from where it was bound
  pub mentioned_stays : (run : List Record) → any_record (makes_in dir kid) run ≡ true → any_record (unbinds kid) run ≡ false → any_record (mentioning dir) (fold run) ≡ true
  mentioned_stays run made stays = any_weaker (makes_in dir kid) (mentioning dir) (λ op makes. (makes_parts dir kid op makes).0) (fold run) (made_behind [] run stays (inr made))

  -- so does a log, whose front may be frozen
  pub log_mentions : (v : ClientVolume) → any_record (makes_in dir kid) (pending v) ≡ true → any_record (unbinds kid) (pending v) ≡ false → is_mentioned v dir ≡ true
  log_mentions v made stays =
      let parts = or_parts (any_record (unbinds kid) v.front) (any_record (unbinds kid) v.back) (sym (any-append (unbinds kid) v.front v.back) ∙ stays) in
      elim (or_cases (any_record (makes_in dir kid) v.front) (any_record (makes_in dir kid) v.back) (sym (any-append (makes_in dir kid) v.front v.back) ∙ made)) [
        | inl frozen ↦ or_left (any_record (mentioning dir) (fold v.front)) (any_record (mentioning dir) (fold v.back)) (mentioned_stays v.front frozen parts.0)
        | inr behind ↦ or_right (any_record (mentioning dir) (fold v.front)) (any_record (mentioning dir) (fold v.back)) (mentioned_stays v.back behind parts.1)
      ]
