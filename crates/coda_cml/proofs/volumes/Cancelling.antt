-- What cancellation leaves of a run leaves the volume that the run leaves.
use Rattle.std.proofs.Common.{◌≡◌, ℕ, true, false, Option, Some, None, Ok, List, [], ◌∷◌, ◌++◌, refl, sym, ap, ◌∙◌, subst}
use Rattle.std.proofs.lemmas.Bool.{cond_both, false≢true}
use Rattle.coda_fid.specs.Op.{carried}
use Rattle.coda_fid.specs.declared.fid.Fid.{Fid}
use Rattle.coda_fid.specs.declared.fid.Sid.{Sid}
use Rattle.coda_fid.specs.declared.op.Over.{Over}
use Rattle.coda_fid.specs.declared.op.Op.{Op}
use Rattle.coda_fid.specs.declared.op.Op.TheVariants.{Create, Mkdir, Symlink, Store, Setattr, Remove, Rmdir, Rename}
use Rattle.coda_fid.specs.declared.op.Record.{Record}
use Rattle.coda_tree.specs.Volume.{Nodes, child, IsVolume, edited_all}
use Rattle.coda_certify.specs.Checks.{certify}
use Rattle.coda_certify.specs.Replay.{effects, sid_of, applied, replay}
use Rattle.coda_certify.proofs.Passed.{bound_from_check}
use Rattle.coda_cancel.specs.Handing.{hand}
use Rattle.coda_cancel.specs.Dropping.{drops}
use Rattle.coda_cancel.specs.Cancel.{cancels, without, object, appended, add, added}
use Rattle.coda_cancel.proofs.Keys.{fid_same, over_is}
use Rattle.coda_cancel.proofs.Debts.{kept_all, debt_all, hand-nothing}
use Rattle.coda_cml.specs.Laws.{AdditionsAreSound, CancellationIsSound, ConflictsOfFoldsAreReal}
use Rattle.coda_cml.proofs.volumes.Certifying.{certified_checks}
use Rattle.coda_cml.proofs.volumes.Applying.{Applies, applies_from_replay, replay_from_applies, applies_joined}
use Rattle.coda_cml.proofs.volumes.Appending.{appended_applies}
use Rattle.coda_cml.proofs.volumes.NeverMade.{undone_applies}

-- a removal that undoes a creation
removed : {root : Fid} (client : ℕ) (v w : Nodes) (rs : List Record) (t : ℕ) (s : Sid) (op : Op) → IsVolume root v → cancels op rs ≡ true → Applies client v rs w → certify w op ≡ None → Applies client v (without (object (carried op)) rs) (edited_all w (effects t s op))
removed client v w rs t s (Remove d n f pre) volume k a c =
    let p = certified_checks w (Remove d n f pre) c in
    undone_applies f client rs v w d n volume k a (bound_from_check (child w d n) f p.1.1.1.1.1.0)
removed client v w rs t s (Rmdir d n f pre) volume k a c =
    let p = certified_checks w (Rmdir d n f pre) c in
    undone_applies f client rs v w d n volume k a (bound_from_check (child w d n) f p.1.1.1.1.1.0)
removed client v w rs t s _ volume k a c = absurd (false≢true k)

removed_record : {root : Fid} (client : ℕ) (v w : Nodes) (rs : List Record) (o : Record) → IsVolume root v → cancels o.op rs ≡ true → Applies client v rs w → certify w o.op ≡ None → Applies client v (without (object (carried o.op)) rs) (applied w client o)
unfolding applied
removed_record client v w rs o volume k a c = removed client v w rs o.time (sid_of client o) o.op volume k a c

-- an operation that carries no version drops nothing
drops_nothing : (op : Op) → carried op ≡ None → (r : Op) → drops op r ≡ false
drops_nothing (Create d n f mode owner) e r = refl
drops_nothing (Mkdir d n f mode owner) e r = refl
drops_nothing (Symlink d n f t mode owner) e r = refl
drops_nothing (Rename d n x m f None) e r = refl
drops_nothing (Rename d n x m f (Some v)) e r = cc
drops_nothing (Store f pre c) e r = cc
drops_nothing (Setattr f pre a) e r = cc
drops_nothing (Remove d n f pre) e r = cc
drops_nothing (Rmdir d n f pre) e r = cc

appended_plain : (rs : List Record) (o : Record) → carried o.op ≡ None → appended rs o ≡ rs ++ o ∷ []
appended_plain rs o e = (λ i. kept_all (drops o.op) (drops_nothing o.op e) rs i ++ hand (debt_all (drops o.op) (drops_nothing o.op e) rs i) o ∷ []) ∙ ap (λ x. rs ++ x ∷ []) (hand-nothing o)

step_applies : {root : Fid} (client : ℕ) (v w : Nodes) (rs : List Record) (o : Record) → IsVolume root v → Applies client v rs w → certify w o.op ≡ None → Applies client v (add rs o) (applied w client o)
step_applies client v w rs o volume a c = cond_both (cancels o.op rs) _ _ (λ l. Applies client v l (applied w client o))
    (λ k. removed_record client v w rs o volume k a c)
    (λ k. go (carried o.op) refl)
  where
    go : (x : Option Over) → carried o.op ≡ x → Applies client v (appended rs o) (applied w client o)
    go None e = subst (λ l. Applies client v l (applied w client o)) (sym (appended_plain rs o e)) (applies_joined client v w (applied w client o) rs (o ∷ []) a (c, refl))
    go (Some x) e = appended_applies client x.fid o (ap (over_is x.fid) e ∙ fid_same x.fid x.fid refl) rs v w volume a c

run_applies : {root : Fid} (client : ℕ) (v w x : Nodes) (rs os : List Record) → IsVolume root v → Applies client v rs w → Applies client w os x → Applies client v (added rs os) x
run_applies client v w x rs [] volume a b = subst (Applies client v rs) b a
run_applies client v w x rs (o ∷ os) volume a b = run_applies client v (applied w client o) x (add rs o) os volume (step_applies client v w rs o volume a b.0) b.1

-- ---- the laws

-- where records are applied to a volume, and one more is certified after them, the list with this one added is applied, and leaves what this one leaves
pub add_applies : {root : Fid} (m before : Nodes) (client : ℕ) (recs : List Record) (rec : Record) → IsVolume root m → replay m client recs ≡ Ok before → certify before rec.op ≡ None → replay m client (add recs rec) ≡ Ok (applied before client rec)
add_applies m before client recs rec volume h c = replay_from_applies client m (applied before client rec) (add recs rec) (step_applies client m before recs rec volume (applies_from_replay client m before recs h) c)

-- where records are applied to a volume, and a run after them, the list with the run added is applied, and leaves what the run leaves
pub added_applies : {root : Fid} (m middle left : Nodes) (client : ℕ) (recs run : List Record) → IsVolume root m → replay m client recs ≡ Ok middle → replay middle client run ≡ Ok left → replay m client (added recs run) ≡ Ok left
added_applies m middle left client recs run volume h k = replay_from_applies client m left (added recs run) (run_applies client m middle left recs run volume (applies_from_replay client m middle recs h) (applies_from_replay client middle left run k))

pub additions_sound : AdditionsAreSound
additions_sound root m before client recs rec = add_applies m before client recs rec

pub sound : CancellationIsSound
sound root m left client run volume h = added_applies m m left client [] run volume refl h

pub conflict_real : ConflictsOfFoldsAreReal
conflict_real root m left client run number why volume refused whole = let e = sound root m left client run volume whole in cc
