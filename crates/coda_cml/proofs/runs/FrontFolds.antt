-- a prefix of segments has the records of its own fold
use Rattle.std.proofs.Common.{◌≡◌, ℕ, ◌≤◌, ◌<◌, Bool, true, false, cond, List, [], ◌∷◌, ◌++◌, refl, sym, ap, ◌∙◌, subst, inl, inr, ◌||◌, append_assoc}
use Rattle.std.proofs.lemmas.Bool.{cond_both, or_parts, false≢true, false_from_ne_true, le-leb, lt-leb}
use Rattle.coda_fid.specs.declared.fid.Fid.{Fid}
use Rattle.coda_fid.specs.declared.op.Op.{Op}
use Rattle.coda_fid.specs.declared.op.Record.{Record}
use Rattle.coda_fid.specs.Op.{carried}
use Rattle.coda_cancel.specs.Handing.{Debt, hand, nothing, owe, paid}
use Rattle.coda_cancel.specs.Dropping.{drops, mentioning}
use Rattle.coda_cancel.specs.Cancel.{add, added, appended, cancels, debt, fold, kept, object, without}
use Rattle.coda_cancel.specs.Numbers.{AreAbove, AreUpTo, dropped, numbers}
use Rattle.coda_cml.specs.Steady.{any_record}
use Rattle.coda_cml.specs.Segments.{records_upto}
use Rattle.coda_cancel.proofs.Debts.{debt-append, hand-nothing, kept-append, paid-nothing}
use Rattle.coda_cml.proofs.runs.AlmostAlike.{append_nil}
use Rattle.coda_cml.proofs.runs.InStep.{add_goes, add_stays}
use Rattle.coda_cml.proofs.runs.WithoutObject.{without-append, without_none}
use Rattle.coda_cml.proofs.runs.JoinedNumbers.{In, IsJoined}

-- nothing dropped
pub kept_none : (p : Op → Bool) (rs : List Record) → any_record p rs ≡ false → (kept p nothing rs ≡ rs) × (debt p nothing rs ≡ nothing)
kept_none p [] e = (refl, refl)
kept_none p (r ∷ rs) e =
    let k = or_parts (p r.op) (any_record p rs) e in let more = kept_none p rs k.1 in (
      ap (λ b. cond b (kept p (owe nothing (carried r.op)) rs) (hand nothing r ∷ kept p (paid nothing (carried r.op)) rs)) k.0 ∙ (λ i. hand-nothing r i ∷ kept p (paid-nothing (carried r.op) i) rs) ∙ ap (λ l. r ∷ l) more.0,
      ap (λ b. cond b (debt p (owe nothing (carried r.op)) rs) (debt p (paid nothing (carried r.op)) rs)) k.0 ∙ ap (λ d. debt p d rs) (paid-nothing (carried r.op)) ∙ more.1,
    )

-- a record of the front that passes has its number among those of the whole
pub found : (t : Op → Bool) (j : ℕ) (front rs : List Record) → AreUpTo j front → any_record t front ≡ true → (i : ℕ) × In i (numbers t (front ++ rs)) × (i ≤ j)
found t j [] rs a e = absurd (false≢true e)
found t j (r ∷ front) rs a e = go (t r.op) refl e (found t j front rs a.1)
  where
    go : (b : Bool) → t r.op ≡ b → (b || any_record t front) ≡ true → (any_record t front ≡ true → (i : ℕ) × In i (numbers t (front ++ rs)) × (i ≤ j)) → (i : ℕ) × In i (cond b (r.number ∷ numbers t (front ++ rs)) (numbers t (front ++ rs))) × (i ≤ j)
    go true h k more = (r.number, inl refl, a.0)
    go false h k more = more k

module _ (j : ℕ) where
  up_kept : (p : Op → Bool) (d : Debt) (rs : List Record) → AreUpTo j rs → AreUpTo j (kept p d rs)
  up_kept p d [] a = tt
  up_kept p d (r ∷ rs) a = cond_both (p r.op) (kept p (owe d (carried r.op)) rs) (hand d r ∷ kept p (paid d (carried r.op)) rs) (AreUpTo j) (λ e. up_kept p (owe d (carried r.op)) rs a.1) (λ e. (a.0, up_kept p (paid d (carried r.op)) rs a.1))

  up_without : (f : Fid) (rs : List Record) → AreUpTo j rs → AreUpTo j (without f rs)
  up_without f [] a = tt
  up_without f (r ∷ rs) a = cond_both (mentioning f r.op) (without f rs) (r ∷ without f rs) (AreUpTo j) (λ e. up_without f rs a.1) (λ e. (a.0, up_without f rs a.1))

  up_append : (rs os : List Record) → AreUpTo j rs → AreUpTo j os → AreUpTo j (rs ++ os)
  up_append [] os a b = b
  up_append (r ∷ rs) os a b = (a.0, up_append rs os a.1 b)

  up_add : (rs : List Record) (o : Record) → AreUpTo j rs → o.number ≤ j → AreUpTo j (add rs o)
  up_add rs o a h = cond_both (cancels o.op rs) (without (object (carried o.op)) rs) (appended rs o) (AreUpTo j) (λ e. up_without (object (carried o.op)) rs a) (λ e. up_append (kept (drops o.op) nothing rs) (hand (debt (drops o.op) nothing rs) o ∷ []) (up_kept (drops o.op) nothing rs a) (h, tt))

  pub up_added : (rs os : List Record) → AreUpTo j rs → AreUpTo j os → AreUpTo j (added rs os)
  up_added rs [] a b = a
  up_added rs (o ∷ os) a b = up_added (add rs o) os (up_add rs o a b.0) b.1

  pub above_kept : (p : Op → Bool) (d : Debt) (rs : List Record) → AreAbove j rs → AreAbove j (kept p d rs)
  above_kept p d [] a = tt
  above_kept p d (r ∷ rs) a = cond_both (p r.op) (kept p (owe d (carried r.op)) rs) (hand d r ∷ kept p (paid d (carried r.op)) rs) (AreAbove j) (λ e. above_kept p (owe d (carried r.op)) rs a.1) (λ e. (a.0, above_kept p (paid d (carried r.op)) rs a.1))

  pub above_without : (f : Fid) (rs : List Record) → AreAbove j rs → AreAbove j (without f rs)
  above_without f [] a = tt
  above_without f (r ∷ rs) a = cond_both (mentioning f r.op) (without f rs) (r ∷ without f rs) (AreAbove j) (λ e. above_without f rs a.1) (λ e. (a.0, above_without f rs a.1))

  pub above_append : (rs os : List Record) → AreAbove j rs → AreAbove j os → AreAbove j (rs ++ os)
  above_append [] os a b = b
  above_append (r ∷ rs) os a b = (a.0, above_append rs os a.1 b)

  -- an operation that drops nothing of the front leaves it as it is
  pub add_behind : (front rs : List Record) (o : Record) → AreUpTo j front → AreAbove j rs → j < o.number → ((i : ℕ) → In i (dropped (front ++ rs) o) → i ≤ j → ⊥) → (left : List Record) × (add (front ++ rs) o ≡ front ++ left) × AreAbove j left
  add_behind front rs o a b h never = go (cancels o.op (front ++ rs)) refl
    where
      silent : (t : Op → Bool) → ((i : ℕ) → In i (numbers t (front ++ rs)) → i ≤ j → ⊥) → any_record t front ≡ false
      silent t n = false_from_ne_true _ (λ e. let k = found t j front rs a e in n k.0 k.1 k.2)

      go : (c : Bool) → cancels o.op (front ++ rs) ≡ c → (left : List Record) × (add (front ++ rs) o ≡ front ++ left) × AreAbove j left
      go true e =
          let f : Fid = object (carried o.op) in
          let k : any_record (mentioning f) front ≡ false = silent (mentioning f) (λ i x. never i (subst (In i) (sym (ap (λ c. cond c (numbers (mentioning f) (front ++ rs)) (numbers (drops o.op) (front ++ rs))) e)) x)) in
          (without f rs, add_goes (front ++ rs) o e ∙ without-append f front rs ∙ ap (λ l. l ++ without f rs) (without_none f front k).0, above_without f rs b)
      go false e =
          let k : any_record (drops o.op) front ≡ false = silent (drops o.op) (λ i x. never i (subst (In i) (sym (ap (λ c. cond c (numbers (mentioning (object (carried o.op))) (front ++ rs)) (numbers (drops o.op) (front ++ rs))) e)) x)) in
          let n = kept_none (drops o.op) front k in (
            appended rs o,
            add_stays (front ++ rs) o e
                ∙ (λ i. kept-append (drops o.op) nothing front rs i ++ hand (debt-append (drops o.op) nothing front rs i) o ∷ [])
                ∙ (λ i. (n.0 i ++ kept (drops o.op) (n.1 i) rs) ++ hand (debt (drops o.op) (n.1 i) rs) o ∷ [])
                ∙ append_assoc front (kept (drops o.op) nothing rs) (hand (debt (drops o.op) nothing rs) o ∷ []),
            above_append (kept (drops o.op) nothing rs) (hand (debt (drops o.op) nothing rs) o ∷ []) (above_kept (drops o.op) nothing rs b) (h, tt),
          )

  pub behind : (front rs os : List Record) → AreUpTo j front → AreAbove j rs → AreAbove j os → (IsJoined j (front ++ rs) os → ⊥) → (left : List Record) × (added (front ++ rs) os ≡ front ++ left) × AreAbove j left
  behind front rs [] a b c n = (rs, refl, b)
  behind front rs (o ∷ os) a b c n =
      let k : (left : List Record) × (add (front ++ rs) o ≡ front ++ left) × AreAbove j left = add_behind front rs o a b c.0 (λ i x y. n (inl (i, x, y, c.0))) in
      let m : (left : List Record) × (added (front ++ k.0) os ≡ front ++ left) × AreAbove j left = behind front k.0 os a k.2 c.1 (λ x. n (inr (subst (λ l. IsJoined j l os) (sym k.1) x))) in
      (m.0, ap (λ l. added l os) k.1 ∙ m.1, m.2)

  pub upto_front : (front left : List Record) → AreUpTo j front → AreAbove j left → records_upto j (front ++ left) ≡ front
  upto_front [] [] a b = refl
  upto_front [] (r ∷ left) a b = ap (λ c. cond c (r ∷ records_upto j left) (records_upto j left)) (lt-leb r.number j b.0) ∙ upto_front [] left a b.1
  upto_front (r ∷ front) left a b = ap (λ c. cond c (r ∷ records_upto j (front ++ left)) (records_upto j (front ++ left))) (le-leb r.number j a.0) ∙ ap (λ l. r ∷ l) (upto_front front left a.1 b)

  pub joined_later : (rs front back : List Record) → IsJoined j (added rs front) back → IsJoined j rs (front ++ back)
  joined_later rs [] back x = x
  joined_later rs (o ∷ front) back x = inr (joined_later (add rs o) front back x)

  added_split : (rs front back : List Record) → added rs (front ++ back) ≡ added (added rs front) back
  added_split rs [] back = refl
  added_split rs (o ∷ front) back = added_split (add rs o) front back

  pub prefix : (front back : List Record) → AreUpTo j front → AreAbove j back → (IsJoined j [] (front ++ back) → ⊥) → records_upto j (fold (front ++ back)) ≡ fold front
  prefix front back a b n =
      let up : AreUpTo j (fold front) = up_added [] front tt a in
      let m = behind (fold front) [] back up tt b (λ x. n (joined_later [] front back (subst (λ l. IsJoined j l back) (append_nil (fold front)) x))) in
      ap (records_upto j) (added_split [] front back ∙ ap (λ l. added l back) (sym (append_nil (fold front))) ∙ m.1) ∙ upto_front (fold front) m.0 up m.2
