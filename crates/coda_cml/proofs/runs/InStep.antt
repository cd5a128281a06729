-- the step of a thaw where nothing is undone
use Rattle.std.proofs.Common.{◌≡◌, Bool, true, false, cond, List, [], ◌∷◌, Some, None, refl, sym, ap, ◌∙◌, subst, ◌||◌, not}
use Rattle.std.proofs.lemmas.Bool.{and_parts, false≢true}
use Rattle.coda_fid.specs.declared.fid.Fid.{Fid}
use Rattle.coda_fid.specs.declared.fid.Sid.{Sid}
use Rattle.coda_fid.specs.declared.op.Op.{Op}
use Rattle.coda_fid.specs.declared.op.Record.{Record}
use Rattle.coda_fid.specs.declared.op.Op.TheVariants.{Remove, Rename, Rmdir}
use Rattle.coda_fid.specs.Fid.{same_fid}
use Rattle.coda_fid.specs.Op.{carried}
use Rattle.coda_cancel.specs.Handing.{Debt, hand, nothing, owe, paid, sid_or, with_pre}
use Rattle.coda_cancel.specs.Dropping.{creates, drops, mentioning, writes}
use Rattle.coda_cancel.specs.Cancel.{add, added, appended, cancels, debt, is_true_alone, is_undone, kept, object, others, without}
use Rattle.coda_cancel.proofs.Keys.{fid_false, fid_true}
use Rattle.coda_cancel.proofs.Debts.{both, cancels-with_pre, or_sid}
use Rattle.coda_cml.proofs.runs.AlmostAlike.{Near, drops_write, near_dropped, near_kept, write_stays}
use Rattle.coda_cml.proofs.runs.OtherRecords.{OnlyMade, SameBut, debt-without, others-kept, without-kept}
use Rattle.coda_cml.proofs.runs.UndoneCreations.{all_records, only_made, undone_parts}

pub add_stays : (rs : List Record) (o : Record) → cancels o.op rs ≡ false → add rs o ≡ appended rs o
add_stays rs o e = ap (λ b. cond b (without (object (carried o.op)) rs) (appended rs o)) e

pub add_goes : (rs : List Record) (o : Record) → cancels o.op rs ≡ true → add rs o ≡ without (object (carried o.op)) rs
add_goes rs o e = ap (λ b. cond b (without (object (carried o.op)) rs) (appended rs o)) e

pub cancels_same : (o : Op) (y z : List Record) → ((f : Fid) → others f y ≡ others f z) → cancels o y ≡ cancels o z
cancels_same (Remove d n f pre) y z e = ap is_true_alone (e f)
cancels_same (Rmdir d n f pre) y z e = ap is_true_alone (e f)
cancels_same _ y z e = refl

pub object-with_pre : (h : Fid → Sid → Sid) (o : Op) → object (carried (with_pre h o)) ≡ object (carried o)
object-with_pre h (Rename d n x m f None) = refl
object-with_pre h (Rename d n x m f (Some v)) = refl
object-with_pre h _ = refl

pub only_made_of : (f : Fid) (rs : List Record) → is_undone f rs ≡ true → OnlyMade f rs
only_made_of f rs e = go rs (undone_parts f rs e).1
  where
    made : (m x : Bool) → (not m || x) ≡ true → m ≡ true → x ≡ true
    made true x h k = h
    made false x h k = absurd (false≢true k)

    go : (rs : List Record) → all_records (only_made f) rs ≡ true → OnlyMade f rs
    go [] h = tt
    go (r ∷ rs) h = let k = and_parts (only_made f r.op) (all_records (only_made f) rs) h in (λ m. made (mentioning f r.op) (creates f r.op || writes f r.op) k.0 m, go rs k.1)

-- a cancelling operation's object is the one that it carries
pub cancels_seen : (o : Op) (rs : List Record) → cancels o rs ≡ true → (is_undone (object (carried o)) rs ≡ true) × ((d : Debt) (g : Fid) → paid d (carried o) g ≡ cond (same_fid g (object (carried o))) None (d g))
cancels_seen (Remove d n f pre) rs e = (e, λ d g. refl)
cancels_seen (Rmdir d n f pre) rs e = (e, λ d g. refl)
cancels_seen _ rs e = absurd (false≢true e)

module _ (o : Op) where
  pub same_others : (y z : List Record) (w : Debt) → Near (drops o) y z w → (f : Fid) → others f y ≡ others f z
  same_others y z w n f = sym (others-kept (drops o) (drops_write o) f nothing y) ∙ ap (others f) n.same ∙ others-kept (drops o) (drops_write o) f nothing z

  pub near_gone : (y z : List Record) (w : Debt) (r : Record) → Near (drops o) y z w → cancels r.op y ≡ true → Near (drops o) (without (object (carried r.op)) y) (without (object (carried r.op)) z) (paid w (carried r.op))
  near_gone y z w r n e = record {
    same = (ky y uy).0 ∙ ap (without (object (carried r.op))) n.same ∙ sym (ky z uz).0;
    owes = λ i g. at g i;
  }
    where
      uy : is_undone (object (carried r.op)) y ≡ true
      uy = (cancels_seen r.op y e).0

      uz : is_undone (object (carried r.op)) z ≡ true
      uz = (cancels_seen r.op z (sym (cancels_same r.op y z (same_others y z w n)) ∙ e)).0

      ky : (x : List Record) → is_undone (object (carried r.op)) x ≡ true → (kept (drops o) nothing (without (object (carried r.op)) x) ≡ without (object (carried r.op)) (kept (drops o) nothing x)) × SameBut (object (carried r.op)) (debt (drops o) nothing (without (object (carried r.op)) x)) (debt (drops o) nothing x)
      ky x u = without-kept (object (carried r.op)) (drops o) nothing nothing (λ g ne. refl) x (only_made_of (object (carried r.op)) x u)

      pays : (g : Fid) → paid w (carried r.op) g ≡ cond (same_fid g (object (carried r.op))) None (w g)
      pays g = (cancels_seen r.op y e).1 w g

      at : (g : Fid) → debt (drops o) nothing (without (object (carried r.op)) y) g ≡ both (debt (drops o) nothing (without (object (carried r.op)) z)) (paid w (carried r.op)) g
      at g = go (same_fid g (object (carried r.op))) refl
        where
          go : (b : Bool) → same_fid g (object (carried r.op)) ≡ b → debt (drops o) nothing (without (object (carried r.op)) y) g ≡ or_sid (debt (drops o) nothing (without (object (carried r.op)) z) g) (paid w (carried r.op) g)
          go true h =
              let none : (x : List Record) → debt (drops o) nothing (without (object (carried r.op)) x) g ≡ None = λ x. ap (debt (drops o) nothing (without (object (carried r.op)) x)) (fid_true g (object (carried r.op)) h) ∙ debt-without (object (carried r.op)) (drops o) nothing refl x in
              none y ∙ sym ((λ i. or_sid (none z i) (paid w (carried r.op) g)) ∙ (pays g ∙ ap (λ b. cond b None (w g)) h))
          go false h = (ky y uy).1 g (fid_false g (object (carried r.op)) h) ∙ ap (λ d. d g) n.owes
              ∙ sym (λ i. or_sid ((ky z uz).1 g (fid_false g (object (carried r.op)) h) i) ((pays g ∙ ap (λ b. cond b None (w g)) h) i))

  pub near_step : (y z : List Record) (w : Debt) (r : Record) → Near (drops o) y z w → drops o r.op ≡ false → Near (drops o) (add y r) (add z (hand w r)) (paid w (carried r.op))
  near_step y z w r n k = go (cancels r.op y) refl
    where
      there : cancels (hand w r).op z ≡ cancels r.op y
      there = cancels-with_pre (λ g q. sid_or (w g) q) r.op z ∙ sym (cancels_same r.op y z (same_others y z w n))

      go : (b : Bool) → cancels r.op y ≡ b → Near (drops o) (add y r) (add z (hand w r)) (paid w (carried r.op))
      go true e = subst (λ l. Near (drops o) l (add z (hand w r)) (paid w (carried r.op))) (sym (add_goes y r e))
          (subst (λ l. Near (drops o) (without (object (carried r.op)) y) l (paid w (carried r.op))) (sym (add_goes z (hand w r) (there ∙ e) ∙ ap (λ f. without f z) (object-with_pre (λ g q. sid_or (w g) q) r.op))) (near_gone y z w r n e))
      go false e = subst (λ l. Near (drops o) l (add z (hand w r)) (paid w (carried r.op))) (sym (add_stays y r e))
          (subst (λ l. Near (drops o) (appended y r) l (paid w (carried r.op))) (sym (add_stays z (hand w r) (there ∙ e))) (near_kept o y z w r n k))

  pub near_drop : (y z : List Record) (w : Debt) (r : Record) → Near (drops o) y z w → drops o r.op ≡ true → Near (drops o) (add y r) z (owe w (carried r.op))
  near_drop y z w r n k = subst (λ l. Near (drops o) l z (owe w (carried r.op))) (sym (add_stays y r (write_stays r.op y (drops_write o r.op k)))) (near_dropped o y z w r n k)

  pub sim : (rs y z : List Record) (w : Debt) → Near (drops o) y z w → Near (drops o) (added y rs) (added z (kept (drops o) w rs)) (debt (drops o) w rs)
  sim [] y z w n = n
  sim (r ∷ rs) y z w n = go (drops o r.op) refl (λ k. sim rs (add y r) z (owe w (carried r.op)) (near_drop y z w r n k)) (λ k. sim rs (add y r) (add z (hand w r)) (paid w (carried r.op)) (near_step y z w r n k))
    where
      go : (b : Bool) → drops o r.op ≡ b → (drops o r.op ≡ true → Near (drops o) (added (add y r) rs) (added z (kept (drops o) (owe w (carried r.op)) rs)) (debt (drops o) (owe w (carried r.op)) rs)) →
          (drops o r.op ≡ false → Near (drops o) (added (add y r) rs) (added (add z (hand w r)) (kept (drops o) (paid w (carried r.op)) rs)) (debt (drops o) (paid w (carried r.op)) rs)) →
          Near (drops o) (added (add y r) rs) (added z (cond b (kept (drops o) (owe w (carried r.op)) rs) (hand w r ∷ kept (drops o) (paid w (carried r.op)) rs))) (cond b (debt (drops o) (owe w (carried r.op)) rs) (debt (drops o) (paid w (carried r.op)) rs))
      go true e one two = one e
      go false e one two = two e
