-- An object that is created, written and removed leaves nothing.
use Rattle.std.proofs.Common.{◌≡◌, Bool, true, false, cond, not, ◌&&◌, ◌||◌, List, [], ◌∷◌, ◌++◌, refl, sym, ap, ◌∙◌, append_assoc}
use Rattle.std.proofs.lemmas.Bool.{cond_both, false≢true, false_from_ne_true, or_parts}
use Rattle.coda_fid.specs.declared.fid.Fid.{Fid}
use Rattle.coda_fid.specs.declared.op.Op.{Op}
use Rattle.coda_fid.specs.declared.op.Op.TheVariants.{Create, Mkdir, Symlink, Remove, Rmdir}
use Rattle.coda_fid.specs.declared.op.Record.{Record}
use Rattle.coda_fid.specs.Fid.{same_fid}
use Rattle.coda_fid.specs.Op.{carried}
use Rattle.coda_cancel.specs.Handing.{Debt, hand, nothing, owe, paid, sid_or}
use Rattle.coda_cancel.specs.Dropping.{mentioning, creates, writes, drops}
use Rattle.coda_cancel.specs.Cancel.{is_true_alone, others, cancels, without, kept, debt, object, add, added}
use Rattle.coda_cancel.proofs.Keys.{fid_same}
use Rattle.coda_cancel.proofs.Debts.{hand-nothing, paid-nothing, kept-append, debt-append, kept_all, debt_all, writes-with_pre}
use Rattle.coda_cml.specs.Steady.{any_record}
use Rattle.coda_cml.specs.Lean.{IsMadeAndRemoved, AreWritesOf, TemporaryObjectsLeaveNothing}
use Rattle.coda_cml.proofs.runs.AlmostAlike.{append_nil, writes_write, drops_write, all_writes, write_stays}
use Rattle.coda_cml.proofs.runs.OtherRecords.{write_is_none, others-append}
use Rattle.coda_cml.proofs.runs.WithoutObject.{without-append, without_none}
use Rattle.coda_cml.proofs.runs.InStep.{add_stays, add_goes}
use Rattle.coda_cml.proofs.runs.ThawedFold.{added-append, writes_mentions}
use Rattle.coda_cml.proofs.runs.FrontFolds.{kept_none}
use Rattle.coda_cml.proofs.runs.StillThere.{creates_mentions, creates_not_write, makes_stays}

-- what writes the object drops nothing that doesn't mention it
write_drops_none : (fid : Fid) (o : Op) → writes fid o ≡ true → (recs : List Record) → any_record (mentioning fid) recs ≡ false → any_record (drops o) recs ≡ false
write_drops_none fid o w [] n = refl
write_drops_none fid o w (r ∷ rs) n =
    let k = or_parts (mentioning fid r.op) (any_record (mentioning fid) rs) n in
    λ i. false_from_ne_true (drops o r.op) (λ d. false≢true (sym k.0 ∙ writes_mentions fid r.op (all_writes fid o r.op w d))) i || write_drops_none fid o w rs k.1 i

kept_writes : (fid : Fid) (p : Op → Bool) (d : Debt) (ws : List Record) → AreWritesOf fid ws → AreWritesOf fid (kept p d ws)
kept_writes fid p d [] h = tt
kept_writes fid p d (w ∷ ws) h = cond_both (p w.op) (kept p (owe d (carried w.op)) ws) (hand d w ∷ kept p (paid d (carried w.op)) ws) (AreWritesOf fid)
    (λ e. kept_writes fid p (owe d (carried w.op)) ws h.1)
    (λ e. (writes-with_pre (λ g s. sid_or (d g) s) fid w.op ∙ h.0, kept_writes fid p (paid d (carried w.op)) ws h.1))

push_write : (fid : Fid) (ws : List Record) (o : Record) → AreWritesOf fid ws → writes fid o.op ≡ true → AreWritesOf fid (ws ++ o ∷ [])
push_write fid [] o h e = (e, tt)
push_write fid (w ∷ ws) o h e = (h.0, push_write fid ws o h.1 e)

module _ (fid : Fid) (recs : List Record) (none : any_record (mentioning fid) recs ≡ false) (made : Record) (makes : creates fid made.op ≡ true) where
  -- one more Store or Setattr
  written : (ws : List Record) (o : Record) → AreWritesOf fid ws → writes fid o.op ≡ true → (more : List Record) × (add (recs ++ made ∷ ws) o ≡ recs ++ made ∷ more) × AreWritesOf fid more
  written ws o h w = (
    kept p nothing ws ++ hand (debt p nothing ws) o ∷ [],
    add_stays (recs ++ made ∷ ws) o (write_stays o.op (recs ++ made ∷ ws) (writes_write fid o.op w))
        ∙ (λ i. kept-append p nothing recs (made ∷ ws) i ++ hand (debt-append p nothing recs (made ∷ ws) i) o ∷ [])
        ∙ (λ i. (quiet.0 i ++ kept p (quiet.1 i) (made ∷ ws)) ++ hand (debt p (quiet.1 i) (made ∷ ws)) o ∷ [])
        ∙ (λ i. (recs ++ first i) ++ hand (second i) o ∷ [])
        ∙ append_assoc recs (made ∷ kept p nothing ws) (hand (debt p nothing ws) o ∷ []),
    push_write fid (kept p nothing ws) (hand (debt p nothing ws) o) (kept_writes fid p nothing ws h) (writes-with_pre (λ g s. sid_or (debt p nothing ws g) s) fid o.op ∙ w),
  )
    where
      p : Op → Bool
      p = drops o.op

      quiet : (kept (drops o.op) nothing recs ≡ recs) × (debt (drops o.op) nothing recs ≡ nothing)
      quiet = kept_none (drops o.op) recs (write_drops_none fid o.op w recs none)

      stays : drops o.op made.op ≡ false
      stays = false_from_ne_true (drops o.op made.op) (λ d. false≢true (sym (creates_not_write fid made.op makes) ∙ drops_write o.op made.op d))

      first : kept (drops o.op) nothing (made ∷ ws) ≡ made ∷ kept (drops o.op) nothing ws
      first = ap (λ b. cond b (kept (drops o.op) (owe nothing (carried made.op)) ws) (hand nothing made ∷ kept (drops o.op) (paid nothing (carried made.op)) ws)) stays ∙ (λ i. hand-nothing made i ∷ kept (drops o.op) (paid-nothing (carried made.op) i) ws)

      second : debt (drops o.op) nothing (made ∷ ws) ≡ debt (drops o.op) nothing ws
      second = ap (λ b. cond b (debt (drops o.op) (owe nothing (carried made.op)) ws) (debt (drops o.op) (paid nothing (carried made.op)) ws)) stays ∙ (λ i. debt (drops o.op) (paid-nothing (carried made.op) i) ws)

  all_written : (ws os : List Record) → AreWritesOf fid ws → AreWritesOf fid os → (more : List Record) × (added (recs ++ made ∷ ws) os ≡ recs ++ made ∷ more) × AreWritesOf fid more
  all_written ws [] h k = (ws, refl, h)
  all_written ws (o ∷ os) h k =
      let one = written ws o h k.0 in
      let rest = all_written one.0 os one.2 k.1 in
      (rest.0, ap (λ l. added l os) one.1 ∙ rest.1, rest.2)

  no_others : (ws : List Record) → AreWritesOf fid ws → (others fid ws ≡ []) × (without fid ws ≡ [])
  no_others [] h = (refl, refl)
  no_others (w ∷ ws) h =
      let rest = no_others ws h.1 in (
        ap (λ b. cond b (creates fid w.op ∷ others fid ws) (others fid ws)) (write_is_none fid w.op (writes_write fid w.op h.0)) ∙ rest.0,
        ap (λ b. cond b (without fid ws) (w ∷ without fid ws)) (writes_mentions fid w.op h.0) ∙ rest.1,
      )

  not_written : writes fid made.op ≡ false
  not_written = false_from_ne_true (writes fid made.op) (λ w. false≢true (sym (creates_not_write fid made.op makes) ∙ writes_write fid made.op w))

  alone : (ws : List Record) → AreWritesOf fid ws → (others fid (recs ++ made ∷ ws) ≡ true ∷ []) × (without fid (recs ++ made ∷ ws) ≡ recs)
  alone ws h =
      let before = without_none fid recs none in
      let behind = no_others ws h in
      let seen : mentioning fid made.op ≡ true = creates_mentions fid made.op makes in (
        others-append fid recs (made ∷ ws)
            ∙ (λ i. before.2 i ++ cond (seen i && not (not_written i)) (makes i ∷ others fid ws) (others fid ws))
            ∙ ap (λ l. true ∷ l) behind.0,
        without-append fid recs (made ∷ ws)
            ∙ (λ i. before.0 i ++ cond (seen i) (without fid ws) (made ∷ without fid ws))
            ∙ ap (λ l. recs ++ l) behind.1 ∙ append_nil recs,
      )

same : (fid it : Fid) → it ≡ fid → same_fid it fid ≡ true
same fid it e = fid_same it fid e

makes_it : (fid : Fid) (creation removal : Op) → IsMadeAndRemoved fid creation removal → creates fid creation ≡ true
makes_it fid (Create dir name made mode owner) (Remove home last gone pre) h = same fid made h.0
makes_it fid (Symlink dir name made target mode owner) (Remove home last gone pre) h = same fid made h.0
makes_it fid (Mkdir dir name made mode owner) (Rmdir home last gone pre) h = same fid made h.0
makes_it fid _ _ h = absurd h

undoes_it : (fid : Fid) (creation removal : Op) (rs : List Record) → IsMadeAndRemoved fid creation removal → is_true_alone (others fid rs) ≡ true → (cancels removal rs ≡ true) × (object (carried removal) ≡ fid)
undoes_it fid (Create dir name made mode owner) (Remove home last gone pre) rs h e = (ap (λ f. is_true_alone (others f rs)) h.1 ∙ e, h.1)
undoes_it fid (Symlink dir name made target mode owner) (Remove home last gone pre) rs h e = (ap (λ f. is_true_alone (others f rs)) h.1 ∙ e, h.1)
undoes_it fid (Mkdir dir name made mode owner) (Rmdir home last gone pre) rs h e = (ap (λ f. is_true_alone (others f rs)) h.1 ∙ e, h.1)
undoes_it fid _ _ rs h e = absurd h

-- a creation drops nothing, and is owed nothing
creation_added : (fid : Fid) (recs : List Record) (made : Record) → creates fid made.op ≡ true → add recs made ≡ recs ++ made ∷ []
creation_added fid recs made m =
    add_stays recs made (makes_stays fid 0 made.op recs m)
    ∙ (λ i. kept_all (drops made.op) never recs i ++ hand (debt_all (drops made.op) never recs i) made ∷ []) ∙ ap (λ r. recs ++ r ∷ []) (hand-nothing made)
  where
    drops_nothing : (o : Op) → creates fid o ≡ true → (r : Op) → drops o r ≡ false
    drops_nothing (Create dir name it mode owner) e r = refl
    drops_nothing (Mkdir dir name it mode owner) e r = refl
    drops_nothing (Symlink dir name it target mode owner) e r = refl
    drops_nothing _ e r = absurd (false≢true e)

    never : (r : Op) → drops made.op r ≡ false
    never = drops_nothing made.op m

pub temporary : TemporaryObjectsLeaveNothing
temporary fid recs between creation removal none both writes =
    let makes = makes_it fid creation.op removal.op both in
    let rest = all_written fid recs none creation makes [] between tt writes in
    let last = alone fid recs none creation makes rest.0 rest.2 in
    let undone = undoes_it fid creation.op removal.op (recs ++ creation ∷ rest.0) both (ap is_true_alone last.0) in
    ap (λ l. added l (between ++ removal ∷ [])) (creation_added fid recs creation makes)
    ∙ added-append (recs ++ creation ∷ []) between (removal ∷ [])
    ∙ ap (λ l. add l removal) rest.1
    ∙ add_goes (recs ++ creation ∷ rest.0) removal undone.0
    ∙ ap (λ f. without f (recs ++ creation ∷ rest.0)) undone.1 ∙ last.1
