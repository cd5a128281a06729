-- The index by objects and numbers: its order, and what each step does to it.
use Rattle.std.proofs.Common.{◌≡◌, ℕ, ◌<◌, ◌+◌, Bool, true, false, not, cond, ◌&&◌, ◌||◌, ◌==◌, List, [], ◌∷◌, length, take, get_or, refl, ap, sym, ◌∙◌, suc, zero, Result, Ok, Err}
use Rattle.std.specs.Result.{OnErr, OnOk, is_err}
use Rattle.std.specs.Ordering.{nat_cmp, eq_by_cmp, is_eq}
use Rattle.std.specs.Cmp.{IsTotalOrder, Equal-is, tied_itself}
use Rattle.std.specs.BTreeSet as sorted
use Rattle.std.specs.BTreeSet.{BTreeSet}
use Rattle.std.proofs.lemmas.Bool.{and_parts, and_from, and_right, eqb-true, eq-eqb, false≢true, true≢false}
use Rattle.std.proofs.lemmas.Cmp.{then_total, on_total, nat_cmp_total}
use Rattle.std.proofs.lemmas.Map.Lookups.{CmpEqualImpliesEq, exact_pairs, exact_unsigned}
use Rattle.std.proofs.lemmas.List.Folds.{list_any_more}
use Rattle.coda_fid.specs.Fid.{fid_cmp, same_fid}
use Rattle.coda_fid.specs.declared.fid.Fid.{Fid}
use Rattle.coda_fid.specs.declared.op.Record.{Record}
use Rattle.coda_fid.proofs.Fids.{fids_total, exact_fids, same_fid_is, same_fid_refl}
use Rattle.coda_cancel.specs.declared.mentions.Mention.{Mention}
use Rattle.coda_cancel.specs.Dropping.{mentioning}
use Rattle.coda_cancel.specs.Mentions.{mention, mention_cmp, has, tells, names, with_number, IsSame, IsSameElse, Gains, Loses}

pub mentions_total : IsTotalOrder mention_cmp
mentions_total = then_total (on_total (λ (m : Mention). m.fid) fids_total) (on_total (λ (m : Mention). m.number) nat_cmp_total)

pub exact_mentions : CmpEqualImpliesEq mention_cmp
exact_mentions a b h = ap (λ (p : Fid × ℕ). mention p.0 p.1) (exact_pairs fid_cmp nat_cmp exact_fids exact_unsigned (a.fid, a.number) (b.fid, b.number) h)

-- two tests that hold together are one
pub agree : (b c : Bool) → (b ≡ true → c ≡ true) → (c ≡ true → b ≡ true) → b ≡ c
agree true true f g = refl
agree true false f g = sym (f refl)
agree false true f g = g refl
agree false false f g = refl

same_mention_refl : (a : Mention) → eq_by_cmp mention_cmp a a ≡ true
same_mention_refl a = ap is_eq (tied_itself mentions_total a)

same_mention : (f g : Fid) (m n : ℕ) → eq_by_cmp mention_cmp (mention f m) (mention g n) ≡ with_number m (f ∷ []) g n
same_mention f g m n = agree (eq_by_cmp mention_cmp (mention f m) (mention g n)) (m == n && (same_fid f g || false))
    (λ e. let one : mention f m ≡ mention g n = exact_mentions (mention f m) (mention g n) ((Equal-is (mention_cmp (mention f m) (mention g n))).0 e) in
    and_from (m == n) (same_fid f g || false) (eq-eqb m n (ap (λ (x : Mention). x.number) one)) (ap (λ b. b || false) (ap (λ (x : Mention). same_fid f x.fid) (sym one) ∙ same_fid_refl f)))
    (λ e. let parts = and_parts (m == n) (same_fid f g || false) e in
    let one : mention f m ≡ mention g n = λ i. mention (same_fid_is f g (sym (or_none (same_fid f g)) ∙ parts.1) i) (eqb-true m n parts.0 i) in
    ap (eq_by_cmp mention_cmp (mention f m)) (sym one) ∙ same_mention_refl (mention f m))
  where
    or_none : (b : Bool) → (b || false) ≡ b
    or_none true = refl
    or_none false = refl

-- ---- one mention

gained : (e o : Bool) → cond e true o ≡ (o || e)
gained true true = refl
gained true false = refl
gained false true = refl
gained false false = refl

lost : (e o : Bool) → cond e false o ≡ (o && not e)
lost true true = refl
lost true false = refl
lost false true = refl
lost false false = refl

pub put_gained : (s n : BTreeSet Mention) (f : Fid) (m : ℕ) → sorted.Updates mention_cmp s n (mention f m) true → Gains (has s) (has n) (with_number m (f ∷ []))
put_gained s n f m updates g k = updates.0 (mention g k) ∙ gained (eq_by_cmp mention_cmp (mention f m) (mention g k)) (has s g k) ∙ ap (λ b. has s g k || b) (same_mention f g m k)

pub take_lost : (s n : BTreeSet Mention) (f : Fid) (m : ℕ) → sorted.Updates mention_cmp s n (mention f m) false → Loses (has s) (has n) (with_number m (f ∷ []))
take_lost s n f m updates g k = updates.0 (mention g k) ∙ lost (eq_by_cmp mention_cmp (mention f m) (mention g k)) (has s g k) ∙ ap (λ b. has s g k && not b) (same_mention f g m k)

-- ---- several

abbrev pub In : Type 0
In = Fid → ℕ → Bool

pub gained_none : (old : In) (m : ℕ) → Gains old old (with_number m [])
gained_none old m g k = gone (old g k) (m == k)
  where
    gone : (o e : Bool) → o ≡ (o || (e && false))
    gone true e = refl
    gone false true = refl
    gone false false = refl

pub lost_none : (old : In) (m : ℕ) → Loses old old (with_number m [])
lost_none old m g k = gone (old g k) (m == k)
  where
    gone : (o e : Bool) → o ≡ (o && not (e && false))
    gone true true = refl
    gone true false = refl
    gone false e = refl

module _ (old s n : In) (fids : List Fid) (at : ℕ) (d : Fid) (m : ℕ) (lt : at < length fids) where
  pub gained_more : Gains old s (with_number m (take at fids)) → Gains s n (with_number m (get_or fids at d ∷ [])) → Gains old n (with_number m (take (at + 1) fids))
  gained_more so more g k = more g k ∙ ap (λ b. b || with_number m (get_or fids at d ∷ []) g k) (so g k) ∙ go (old g k) (m == k) (names (take at fids) g) (same_fid (get_or fids at d) g) ∙ ap (λ b. old g k || (m == k && b)) (sym (list_any_more (λ f. same_fid f g) fids at d lt))
    where
      go : (o e a b : Bool) → ((o || (e && a)) || (e && (b || false))) ≡ (o || (e && (a || b)))
      go true e a b = refl
      go false false a b = refl
      go false true true b = refl
      go false true false true = refl
      go false true false false = refl

  pub lost_more : Loses old s (with_number m (take at fids)) → Loses s n (with_number m (get_or fids at d ∷ [])) → Loses old n (with_number m (take (at + 1) fids))
  lost_more so more g k = more g k ∙ ap (λ b. b && not (with_number m (get_or fids at d ∷ []) g k)) (so g k) ∙ go (old g k) (m == k) (names (take at fids) g) (same_fid (get_or fids at d) g) ∙ ap (λ b. old g k && not (m == k && b)) (sym (list_any_more (λ f. same_fid f g) fids at d lt))
    where
      go : (o e a b : Bool) → ((o && not (e && a)) && not (e && (b || false))) ≡ (o && not (e && (a || b)))
      go false e a b = refl
      go true false a b = refl
      go true true true b = refl
      go true true false true = refl
      go true true false false = refl

-- the front of some fids
names_front : (fids : List Fid) (at : ℕ) (g : Fid) → names fids g ≡ false → names (take at fids) g ≡ false
names_front fids zero g h = refl
names_front [] (suc at) g h = refl
names_front (f ∷ fids) (suc at) g h = go (same_fid f g) h (names_front fids at g)
  where
    go : (b : Bool) → (b || names fids g) ≡ false → (names fids g ≡ false → names (take at fids) g ≡ false) → (b || names (take at fids) g) ≡ false
    go true e rest = e
    go false e rest = rest e

-- where memory was wanted midway, what has another number or is no such fid stayed
pub gained_some : (old s n : In) (fids : List Fid) (at : ℕ) (m : ℕ) → Gains old s (with_number m (take at fids)) → IsSame s n → IsSameElse old n (with_number m fids)
gained_some old s n fids at m so same g k e = same g k ∙ so g k ∙ go (old g k) (m == k) (names fids g) refl e
  where
    go : (o x a : Bool) → names fids g ≡ a → (x && a) ≡ false → (o || (x && names (take at fids) g)) ≡ o
    go true x a e h = refl
    go false false a e h = refl
    go false true a e h = names_front fids at g (e ∙ h)

-- what was put in is taken out again, where none of it was there
pub undone : (old s n : In) (m : ℕ) (fids : List Fid) → ((g : Fid) → old g m ≡ false) → IsSameElse old s (with_number m fids) → Loses s n (with_number m fids) → IsSame old n
undone old s n m fids fresh same loses g k = loses g k ∙ go (with_number m fids g k) refl
  where
    go : (b : Bool) → with_number m fids g k ≡ b → (s g k && not b) ≡ old g k
    go true e = and_right (s g k) false refl ∙ sym (ap (old g) (sym (eqb-true m k (and_parts (m == k) (names fids g) e).0)) ∙ fresh g)
    go false e = and_all (s g k) ∙ same g k e
      where
        and_all : (b : Bool) → (b && true) ≡ b
        and_all true = refl
        and_all false = refl

-- what a record mentions, by the fids of its fields
pub told : (rec : Record) (fids : List Fid) → ((g : Fid) → names fids g ≡ mentioning g rec.op) → (g : Fid) (k : ℕ) → with_number rec.number fids g k ≡ tells rec g k
told rec fids h g k = ap (λ b. rec.number == k && b) (h g)

pub gained_told : (old n : In) (rec : Record) (fids : List Fid) → ((g : Fid) → names fids g ≡ mentioning g rec.op) → Gains old n (with_number rec.number fids) → Gains old n (tells rec)
gained_told old n rec fids h gains g k = gains g k ∙ ap (λ b. old g k || b) (told rec fids h g k)

pub lost_told : (old n : In) (rec : Record) (fids : List Fid) → ((g : Fid) → names fids g ≡ mentioning g rec.op) → Loses old n (with_number rec.number fids) → Loses old n (tells rec)
lost_told old n rec fids h loses g k = loses g k ∙ ap (λ b. old g k && not b) (told rec fids h g k)

-- a fact holds at an error
pub at_error : {T E : Type 0} {P : Type 0} (r : Result T E) → P → OnErr r P
at_error (Ok x) p = tt
at_error (Err e) p = p

-- and of an error it holds that there is one
pub err_at : {T E : Type 0} {P : Type 0} (r : Result T E) → is_err r ≡ true → OnErr r P → P
err_at (Ok x) e h = absurd (false≢true e)
err_at (Err e) _ h = h

pub undone_told : (old s n : In) (rec : Record) (fids : List Fid) → ((g : Fid) → names fids g ≡ mentioning g rec.op) → ((g : Fid) → old g rec.number ≡ false) → IsSameElse old s (with_number rec.number fids) → Loses s n (with_number rec.number fids) → IsSame old n
undone_told old s n rec fids h fresh same loses = undone old s n rec.number fids fresh same loses

pub ok_at : {T E : Type 0} {P : Type 0} (r : Result T E) → is_err r ≡ false → OnOk r P → P
ok_at (Ok x) e h = h
ok_at (Err e) h k = absurd (true≢false h)
