-- What cancellation leaves of operations that can be spelled can be spelled.
use Rattle.std.proofs.Common.{◌≡◌, ℕ, ◌<◌, ◌≤◌, ◌+◌, Bool, true, false, cond, List, [], ◌∷◌, ◌++◌, length, Option, Some, None, refl, subst, inl, inr, arith}
use Rattle.std.proofs.lemmas.Bool.{cond_both, lt-ltb, le-leb}
use Rattle.coda_fid.specs.Fid.{same_fid}
use Rattle.coda_fid.specs.Op.{carried}
use Rattle.coda_fid.specs.declared.fid.Fid.{Fid}
use Rattle.coda_fid.specs.declared.fid.Sid.{Sid}
use Rattle.coda_fid.specs.declared.op.Over.{Over}
use Rattle.coda_fid.specs.declared.op.Op.{Op}
use Rattle.coda_fid.specs.declared.op.Op.TheVariants.{Create, Mkdir, Symlink, Store, Setattr, Remove, Rmdir, Rename}
use Rattle.coda_fid.specs.declared.op.Record.{Record}
use Rattle.coda_cancel.specs.Cancel.{without, kept, debt, cancels, object, appended, add, added, fold}
use Rattle.coda_cancel.specs.Dropping.{mentioning, drops}
use Rattle.coda_cancel.specs.Handing.{Debt, nothing, earlier, owe, paid, sid_or, with_over, with_pre, hand}
use Rattle.coda_cancel.specs.Numbers.{AreAbove, IsRising}
use Rattle.coda_cancel.proofs.Turns.{rising_added}
use Rattle.coda_record.specs.Form.{four, eight}
use Rattle.coda_record.specs.Parts.{items_piece}
use Rattle.coda_record.specs.Spelling.{HasSpelling}
use Rattle.coda_record.specs.Table as table
use Rattle.coda_plain.specs.Histories.{In}
use Rattle.coda_spelling.specs.Spelled.{IsSpelled, AreAllSpelled}
use Rattle.coda_spelling.proofs.SpelledParts.{both_true, is_within, over_spelled, over_parts, IsOverSpelled, some_over, over_some, IsOpSpelled, store_spelled, setattr_spelled, remove_spelled, rmdir_spelled, rename_spelled, store_parts, setattr_parts, remove_parts, rmdir_parts, rename_parts}

pub all_spelled : (recs : List Record) → ((rec : Record) → In rec recs → IsSpelled rec) → AreAllSpelled recs
all_spelled [] each = tt
all_spelled (rec ∷ recs) each = (each rec (inl refl), all_spelled recs (λ r i. each r (inr i)))

both_spelled : (front back : List Record) → AreAllSpelled front → AreAllSpelled back → AreAllSpelled (front ++ back)
both_spelled [] back f b = b
both_spelled (rec ∷ front) back f b = (f.0, both_spelled front back f.1 b)

-- each version that is owed can be spelled
abbrev IsSolvent : Debt → Type 0
IsSolvent owed = (fid : Fid) (s : Sid) → owed fid ≡ Some s → HasSpelling table.sid s

some_sid : (x y : Sid) → Some x ≡ Some y → x ≡ y
some_sid x y e = cc

some_carried : (x y : Over) → Some x ≡ Some y → x ≡ y
some_carried x y e = cc

sid_or_spelled : (o : Option Sid) (pre : Sid) → ((s : Sid) → o ≡ Some s → HasSpelling table.sid s) → HasSpelling table.sid pre → HasSpelling table.sid (sid_or o pre)
sid_or_spelled None pre owed is = is
sid_or_spelled (Some s) pre owed is = owed s refl

module _ (change : Fid → Sid → Sid) (keeps : (fid : Fid) (pre : Sid) → HasSpelling table.sid pre → HasSpelling table.sid (change fid pre)) where
  over_changed : (over : Option Over) → IsOverSpelled over → IsOverSpelled (with_over change over)
  over_changed None is = is
  over_changed (Some over) is =
      let parts = over_parts over (over_some over is) in
      some_over (record { fid = over.fid; pre = change over.fid over.pre }) (over_spelled (record { fid = over.fid; pre = change over.fid over.pre }) parts.0 (keeps over.fid over.pre parts.1))

  op_changed : (op : Op) → IsOpSpelled op → IsOpSpelled (with_pre change op)
  op_changed (Create dir name fid mode owner) is = is
  op_changed (Mkdir dir name fid mode owner) is = is
  op_changed (Symlink dir name fid target mode owner) is = is
  op_changed (Store fid pre content) is = let p = store_parts fid pre content is in store_spelled fid (change fid pre) content p.0 (keeps fid pre p.1) p.2
  op_changed (Setattr fid pre attrs) is = let p = setattr_parts fid pre attrs is in setattr_spelled fid (change fid pre) attrs p.0 (keeps fid pre p.1) p.2
  op_changed (Remove dir name fid pre) is = let p = remove_parts dir name fid pre is in remove_spelled dir name fid (change fid pre) p.0 p.1 p.2 (keeps fid pre p.3)
  op_changed (Rmdir dir name fid pre) is = let p = rmdir_parts dir name fid pre is in rmdir_spelled dir name fid (change fid pre) p.0 p.1 p.2 (keeps fid pre p.3)
  op_changed (Rename from_dir from to_dir to fid over) is = let p = rename_parts from_dir from to_dir to fid over is in rename_spelled from_dir from to_dir to fid (with_over change over) p.0 p.1 p.2 p.3 p.4 (over_changed over p.5)

handed : (owed : Debt) (rec : Record) → IsSolvent owed → IsSpelled rec → IsSpelled (hand owed rec)
handed owed rec solvent is = record {
  number = is.number;
  time = is.time;
  op = op_changed (λ fid pre. sid_or (owed fid) pre) (λ fid pre s. sid_or_spelled (owed fid) pre (solvent fid) s) rec.op is.op;
}

-- the version that an operation carries
carried_spelled : (op : Op) (over : Over) → IsOpSpelled op → carried op ≡ Some over → HasSpelling table.sid over.pre
carried_spelled (Create dir name fid mode owner) over is e = cc
carried_spelled (Mkdir dir name fid mode owner) over is e = cc
carried_spelled (Symlink dir name fid target mode owner) over is e = cc
carried_spelled (Store fid pre content) over is e = subst (λ (o : Over). HasSpelling table.sid o.pre) (some_carried (record { fid = fid; pre = pre }) over e) (store_parts fid pre content is).1
carried_spelled (Setattr fid pre attrs) over is e = subst (λ (o : Over). HasSpelling table.sid o.pre) (some_carried (record { fid = fid; pre = pre }) over e) (setattr_parts fid pre attrs is).1
carried_spelled (Remove dir name fid pre) over is e = subst (λ (o : Over). HasSpelling table.sid o.pre) (some_carried (record { fid = fid; pre = pre }) over e) (remove_parts dir name fid pre is).3
carried_spelled (Rmdir dir name fid pre) over is e = subst (λ (o : Over). HasSpelling table.sid o.pre) (some_carried (record { fid = fid; pre = pre }) over e) (rmdir_parts dir name fid pre is).3
carried_spelled (Rename from_dir from to_dir to fid o) over is e = (over_parts over (over_some over (subst IsOverSpelled e (rename_parts from_dir from to_dir to fid o is).5))).1

earlier_spelled : (o : Option Sid) (pre s : Sid) → ((t : Sid) → o ≡ Some t → HasSpelling table.sid t) → HasSpelling table.sid pre → earlier o pre ≡ Some s → HasSpelling table.sid s
earlier_spelled (Some owed) pre s old is e = old s e
earlier_spelled None pre s old is e = subst (HasSpelling table.sid) (some_sid pre s e) is

owes : (owed : Debt) (o : Option Over) → IsSolvent owed → ((over : Over) → o ≡ Some over → HasSpelling table.sid over.pre) → IsSolvent (owe owed o)
owes owed None solvent is = solvent
owes owed (Some over) solvent is = λ fid s e. elim (same_fid fid over.fid) as (λ b. cond b (earlier (owed fid) over.pre) (owed fid) ≡ Some s → HasSpelling table.sid s) [
  | true ↦ λ f. earlier_spelled (owed fid) over.pre s (solvent fid) (is over refl) f
  | false ↦ λ f. solvent fid s f
] e

pays : (owed : Debt) (o : Option Over) → IsSolvent owed → IsSolvent (paid owed o)
pays owed None solvent = solvent
pays owed (Some over) solvent = λ fid s e. elim (same_fid fid over.fid) as (λ b. cond b None (owed fid) ≡ Some s → HasSpelling table.sid s) [
  | true ↦ λ f. (let no : None ≡ Some s = f in cc)
  | false ↦ λ f. solvent fid s f
] e

kept_spelled : (dropped : Op → Bool) (owed : Debt) (recs : List Record) → IsSolvent owed → AreAllSpelled recs → AreAllSpelled (kept dropped owed recs)
kept_spelled dropped owed [] solvent is = tt
kept_spelled dropped owed (rec ∷ recs) solvent is =
    cond_both (dropped rec.op) (kept dropped (owe owed (carried rec.op)) recs) (hand owed rec ∷ kept dropped (paid owed (carried rec.op)) recs) AreAllSpelled
    (λ e. kept_spelled dropped (owe owed (carried rec.op)) recs (owes owed (carried rec.op) solvent (λ over c. carried_spelled rec.op over is.0.op c)) is.1)
    (λ e. (handed owed rec solvent is.0, kept_spelled dropped (paid owed (carried rec.op)) recs (pays owed (carried rec.op) solvent) is.1))

debt_spelled : (dropped : Op → Bool) (owed : Debt) (recs : List Record) → IsSolvent owed → AreAllSpelled recs → IsSolvent (debt dropped owed recs)
debt_spelled dropped owed [] solvent is = solvent
debt_spelled dropped owed (rec ∷ recs) solvent is =
    cond_both (dropped rec.op) (debt dropped (owe owed (carried rec.op)) recs) (debt dropped (paid owed (carried rec.op)) recs) IsSolvent
    (λ e. debt_spelled dropped (owe owed (carried rec.op)) recs (owes owed (carried rec.op) solvent (λ over c. carried_spelled rec.op over is.0.op c)) is.1)
    (λ e. debt_spelled dropped (paid owed (carried rec.op)) recs (pays owed (carried rec.op) solvent) is.1)

without_spelled : (fid : Fid) (recs : List Record) → AreAllSpelled recs → AreAllSpelled (without fid recs)
without_spelled fid [] is = tt
without_spelled fid (rec ∷ recs) is =
    cond_both (mentioning fid rec.op) (without fid recs) (rec ∷ without fid recs) AreAllSpelled (λ e. without_spelled fid recs is.1) (λ e. (is.0, without_spelled fid recs is.1))

none_owed : IsSolvent nothing
none_owed fid s e = (let no : None ≡ Some s = e in cc)

add_spelled : (recs : List Record) (rec : Record) → AreAllSpelled recs → IsSpelled rec → AreAllSpelled (add recs rec)
add_spelled recs rec are is =
    cond_both (cancels rec.op recs) (without (object (carried rec.op)) recs) (appended recs rec) AreAllSpelled
    (λ e. without_spelled (object (carried rec.op)) recs are)
    (λ e. both_spelled (kept (drops rec.op) nothing recs) (hand (debt (drops rec.op) nothing recs) rec ∷ []) (kept_spelled (drops rec.op) nothing recs none_owed are)
    (handed (debt (drops rec.op) nothing recs) rec (debt_spelled (drops rec.op) nothing recs none_owed are) is, tt))

added_spelled : (recs run : List Record) → AreAllSpelled recs → AreAllSpelled run → AreAllSpelled (added recs run)
added_spelled recs [] are is = are
added_spelled recs (rec ∷ run) are is = added_spelled (add recs rec) run (add_spelled recs rec are is.0) is.1

-- what cancellation leaves of a run
pub fold_spelled : (run : List Record) → AreAllSpelled run → AreAllSpelled (fold run)
fold_spelled run is = added_spelled [] run tt is

-- as many as there are numbers for them
few_above : (before : ℕ) (recs : List Record) → before ≤ 4294967295 → AreAbove before recs → IsRising recs → AreAllSpelled recs → before + length recs ≤ 4294967295
few_above before [] most above rising is = omega (arith, most)
few_above before (rec ∷ recs) most above rising is =
    let number = (is_within 1 4294967295 eight rec.number is.0.number).1 in
    let low = above.0 in
    let rest = few_above rec.number recs number rising.0 rising.1 is.1 in
    omega (arith, low, rest)

record_above_spelled : (before : ℕ) (rec : Record) → before < rec.number → IsSpelled rec → HasSpelling (table.record_above four before) rec
unfolding table.record_above
record_above_spelled before rec low is =
    let number = (is_within 1 4294967295 eight rec.number is.number).1 in
    let limit : rec.number < 18446744073709551616 = omega (arith, number) in
    both_true _ _ (both_true _ _ (lt-ltb rec.number 18446744073709551616 limit) (both_true _ _ (lt-ltb before rec.number low) (le-leb rec.number 4294967295 number))) (both_true _ _ is.time (both_true _ _ is.op refl))

items_spelled : (before : ℕ) (recs : List Record) → AreAbove before recs → IsRising recs → AreAllSpelled recs → (items_piece (table.record_above four) (λ (r : Record). r.number) before recs).fits ≡ true
items_spelled before [] above rising is = refl
items_spelled before (rec ∷ recs) above rising is = both_true _ _ (record_above_spelled before rec above.0 is.0) (items_spelled rec.number recs rising.0 rising.1 is.1)

above_zero : (recs : List Record) → AreAllSpelled recs → AreAbove 0 recs
above_zero [] is = tt
above_zero (rec ∷ recs) is = (let low = (is_within 1 4294967295 eight rec.number is.0.number).0 in omega (arith, low), above_zero recs is.1)

pub records_spelled : (recs : List Record) → IsRising recs → AreAllSpelled recs → HasSpelling (table.records four) recs
unfolding table.records
records_spelled recs rising is =
    let above = above_zero recs is in
    let few = few_above 0 recs (omega arith) above rising is in
    both_true _ _ (lt-ltb (length recs) 4294967296 (omega (arith, few))) (items_spelled 0 recs above rising is)

-- the records of a chunk
pub sent_spelled : (run : List Record) → IsRising run → AreAllSpelled run → HasSpelling (table.records four) (fold run)
sent_spelled run rising is = records_spelled (fold run) (rising_added [] run rising) (fold_spelled run is)
