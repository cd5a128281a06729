-- What a chunk creates the tail doesn't create.
use Rattle.std.proofs.Common.{◌≡◌, ℕ, ◌+◌, ◌≤◌, ◌<◌, true, cond, List, [], ◌∷◌, ◌++◌, append_assoc, append-nil}
use Rattle.std.proofs.Common.{Option, Some, None, refl, sym, ap, ◌∙◌, subst, inl, inr, ◌⊎◌, arith, leb-true}
use Rattle.std.specs.Prelude.{nat_le, nat_lt}
use Rattle.std.proofs.lemmas.Bool.{false≢true, false_from_ne_true, cases_Bool, ltb-true}
use Rattle.std.proofs.lemmas.Option.{none-some}
use Rattle.coda_fid.specs.declared.fid.Fid.{Fid}
use Rattle.coda_fid.specs.declared.op.Op.{Op}
use Rattle.coda_fid.specs.declared.op.Op.TheVariants.{Create, Mkdir, Symlink, Store, Setattr, Remove, Rmdir, Rename}
use Rattle.coda_fid.specs.declared.op.Record.{Record}
use Rattle.coda_certify.specs.declared.verdict.Verdict.TheVariants.{Applied, Conflict}
use Rattle.coda_cancel.specs.Dropping.{creates}
use Rattle.coda_cml.specs.Segments.{records_upto, records_above}
use Rattle.coda_plain.specs.Histories.{In, DoFollow}
use Rattle.coda_plain.specs.Deeds.{Deed, Operated, Froze, Settled, Gaveup, created_by, operation_in, full_of, Cut}
use Rattle.coda_plain.specs.Deeds.{Course, end_of, course_after, course_of, pending_of, MayDo, AreLawful}
use Rattle.coda_plain.specs.Deeds.{AreNumberedFrom}
use Rattle.coda_plain.specs.Logs.{back_by, back_of}
use Rattle.coda_plain.proofs.Lists.{some_record, in_right}
use Rattle.coda_plain.proofs.Chunking.{course_push, in_above}
use Rattle.coda_plain.proofs.Ledger.{orderly}
use Rattle.coda_creations.specs.Places.{MetNoConflict, ChunksAndTailsCreateApart}

-- ---- no two records create one object

-- each object that the records create has the next count of its client, so many having been created before
abbrev pub AreCreationsCounted : ℕ → List Record → Type 0
AreCreationsCounted count [] = Unit {0}
AreCreationsCounted count (rec ∷ recs) = ((f : Fid) → creates f rec.op ≡ true → f.uniq ≡ count + 1)
    × AreCreationsCounted (count + created_by rec.op) recs

pub counted_from : (volume client count : ℕ) (recs : List Record) → AreNumberedFrom volume client count recs
    → AreCreationsCounted count recs
counted_from volume client count [] are = tt
counted_from volume client count (x ∷ recs) are =
    ((λ f e. (are.0 f e).number_is), counted_from volume client (count + created_by x.op) recs are.1)

-- what the records create is the client's
pub made_own : (volume client count : ℕ) (recs : List Record) (rec : Record) (f : Fid)
    → AreNumberedFrom volume client count recs → In rec recs → creates f rec.op ≡ true → client ≡ f.vnode
made_own volume client count [] rec f are i e = absurd i
made_own volume client count (x ∷ recs) rec f are (inl same) e =
    sym (are.0 f (ap (λ (r : Record). creates f r.op) (sym same) ∙ e)).own
made_own volume client count (x ∷ recs) rec f are (inr i) e =
    made_own volume client (count + created_by x.op) recs rec f are.1 i e

-- and of the volume
pub made_here : (volume client count : ℕ) (recs : List Record) (rec : Record) (f : Fid)
    → AreNumberedFrom volume client count recs → In rec recs → creates f rec.op ≡ true → volume ≡ f.volume
made_here volume client count [] rec f are i e = absurd i
made_here volume client count (x ∷ recs) rec f are (inl same) e =
    sym (are.0 f (ap (λ (r : Record). creates f r.op) (sym same) ∙ e)).here
made_here volume client count (x ∷ recs) rec f are (inr i) e =
    made_here volume client (count + created_by x.op) recs rec f are.1 i e

pub one_created : (f : Fid) (op : Op) → creates f op ≡ true → created_by op ≡ 1
one_created f (Create dir name fid mode owner) h = refl
one_created f (Mkdir dir name fid mode owner) h = refl
one_created f (Symlink dir name fid target mode owner) h = refl
one_created f (Store fid pre content) h = absurd (false≢true h)
one_created f (Setattr fid pre attrs) h = absurd (false≢true h)
one_created f (Remove dir name fid pre) h = absurd (false≢true h)
one_created f (Rmdir dir name fid pre) h = absurd (false≢true h)
one_created f (Rename from_dir from to_dir to fid over) h = absurd (false≢true h)

pub later : (count : ℕ) (recs : List Record) (f : Fid) (rec : Record) → AreCreationsCounted count recs → In rec recs
    → creates f rec.op ≡ true → count < f.uniq
later count [] f rec are i h = absurd i
later count (x ∷ recs) f rec are (inl same) h =
    (let at = are.0 f (ap (λ (r : Record). creates f r.op) (sym same) ∙ h) in omega (arith, at))
later count (x ∷ recs) f rec are (inr i) h =
    (let more = later (count + created_by x.op) recs f rec are.1 i h in omega (arith, more))

pub once : (count : ℕ) (recs : List Record) (f : Fid) (a b : Record) → AreCreationsCounted count recs → In a recs
    → In b recs → creates f a.op ≡ true → creates f b.op ≡ true → a ≡ b
once count [] f a b are i j h k = absurd i
once count (x ∷ recs) f a b are (inl i) (inl j) h k = i ∙ sym j
once count (x ∷ recs) f a b are (inl i) (inr j) h k =
    let c : creates f x.op ≡ true = ap (λ (r : Record). creates f r.op) (sym i) ∙ h in
    let at = are.0 f c in
    let one = one_created f x.op c in
    let more = later (count + created_by x.op) recs f b are.1 j k in
    let no_way : ⊥ = omega (arith, at, one, more) in absurd no_way
once count (x ∷ recs) f a b are (inr i) (inl j) h k =
    let c : creates f x.op ≡ true = ap (λ (r : Record). creates f r.op) (sym j) ∙ k in
    let at = are.0 f c in
    let one = one_created f x.op c in
    let more = later (count + created_by x.op) recs f a are.1 i h in
    let no_way : ⊥ = omega (arith, at, one, more) in absurd no_way
once count (x ∷ recs) f a b are (inr i) (inr j) h k = once (count + created_by x.op) recs f a b are.1 i j h k

-- ---- records by their numbers

pub above_by : (n : ℕ) (rec : Record) (recs : List Record) → In rec (records_above n recs) → n < rec.number
above_by n rec [] i = absurd i
above_by n rec (x ∷ recs) i = elim (cases_Bool (nat_lt n x.number)) [
  | inl high ↦ elim (subst (λ b. In rec (cond b (x ∷ records_above n recs) (records_above n recs))) high i) [
    | inl same ↦ (let up : n < x.number = ltb-true n x.number high in subst (λ (r : Record). n < r.number) (sym same) up)
    | inr j ↦ above_by n rec recs j
  ]
  | inr low ↦ above_by n rec recs (subst (λ b. In rec (cond b (x ∷ records_above n recs) (records_above n recs))) low i)
]

pub upto_by : (n : ℕ) (rec : Record) (recs : List Record) → In rec (records_upto n recs)
    → (rec.number ≤ n) × In rec recs
upto_by n rec [] i = absurd i
upto_by n rec (x ∷ recs) i = elim (cases_Bool (nat_le x.number n)) [
  | inl low ↦ elim (subst (λ b. In rec (cond b (x ∷ records_upto n recs) (records_upto n recs))) low i) [
    | inl same ↦ (let down : x.number ≤ n = leb-true x.number n low in (subst (λ (r : Record). r.number ≤ n) (sym same) down, inl same))
    | inr j ↦ (let rest = upto_by n rec recs j in (rest.0, inr rest.1))
  ]
  | inr high ↦ (let rest = upto_by n rec recs (subst (λ b. In rec (cond b (x ∷ records_upto n recs) (records_upto n recs))) high i) in (rest.0, inr rest.1))
]

-- ---- the course behind a chunk that met no conflict

-- all up to there is done with, or the chunk is frozen
abbrev IsBehind : ℕ → ℕ → Course → Type 0
IsBehind number last course =
    (last ≤ course.done) ⊎ ((cut : Cut) × (course.cut ≡ Some cut) × (cut.last ≡ last) × (course.chunks ≡ number))

end_more : (o : Option Cut) (done last : ℕ) → last ≤ done → ((cut : Cut) → o ≡ Some cut → done ≤ cut.last)
    → last ≤ end_of o done
end_more None done last h up = h
end_more (Some cut) done last h up = (let more = up cut refl in omega (arith, h, more))

step : (number last : ℕ) (deeds : List Deed) (deed : Deed) (rest : List Deed) → AreLawful deeds → MayDo deeds deed
    → MetNoConflict number (deed ∷ rest) → IsBehind number last (course_of deeds)
    → IsBehind number last (course_after (course_of deeds) deed)
step number last deeds (Operated rec) rest law may none (inl h) = inl h
step number last deeds (Operated rec) rest law may none (inr c) = inr (c.0, c.1, c.2, c.3)
step number last deeds (Froze n home l) rest law may none (inl h) = inl h
step number last deeds (Froze n home l) rest law may none (inr c) = absurd (none-some c.0 (sym may.thawed ∙ c.1))
step number last deeds (Settled n Applied) rest law may none (inl h) =
    inl (end_more (course_of deeds).cut (course_of deeds).done last h
    (λ cut e. ((orderly deeds law).1.front cut e).pending))
step number last deeds (Settled n Applied) rest law may none (inr c) =
    inl (subst (λ o. last ≤ end_of o (course_of deeds).done) (sym c.1) (let same = c.2 in omega (arith, same)))
step number last deeds (Settled n (Conflict refused why)) rest law may none (inl h) = inl h
step number last deeds (Settled n (Conflict refused why)) rest law may none (inr c) = absurd (none.0 (may.last ∙ c.3))
step number last deeds Gaveup rest law may none (inl h) =
    (let most = (orderly deeds law).1.done in inl (omega (arith, h, most)))
step number last deeds Gaveup rest law may none (inr c) = absurd (none-some c.0 (sym may ∙ c.1))

-- the deeds of a list whose entries may follow each other
front_law : (may : List Deed → Deed → Type 0) (past es : List Deed) (e : Deed) (more : List Deed)
    → DoFollow may past (es ++ e ∷ more) → DoFollow may past es × may (past ++ es) e
front_law may past [] e more f = (tt, subst (λ l. may l e) (sym (append-nil past)) f.0)
front_law may past (x ∷ es) e more f =
    (let r = front_law may (past ++ x ∷ []) es e more f.1 in
    ((f.0, r.0), subst (λ l. may l e) (append_assoc past (x ∷ []) es) r.1))

met_rest : (number : ℕ) (deed : Deed) (rest : List Deed) → MetNoConflict number (deed ∷ rest)
    → MetNoConflict number rest
met_rest number (Operated rec) rest none = none
met_rest number (Froze n home l) rest none = none
met_rest number (Settled n Applied) rest none = none
met_rest number (Settled n (Conflict refused why)) rest none = none.1
met_rest number Gaveup rest none = none

behind : (number last : ℕ) (deeds more : List Deed) → AreLawful (deeds ++ more) → MetNoConflict number more
    → IsBehind number last (course_of deeds) → IsBehind number last (course_of (deeds ++ more))
behind number last deeds [] law none is = subst (λ l. IsBehind number last (course_of l)) (sym (append-nil deeds)) is
behind number last deeds (deed ∷ more) law none is =
    let f = front_law MayDo [] deeds deed more law in
    let whole : (deeds ++ deed ∷ []) ++ more ≡ deeds ++ deed ∷ more = append_assoc deeds (deed ∷ []) more in
    subst (λ l. IsBehind number last (course_of l)) whole
    (behind number last (deeds ++ deed ∷ []) more (subst AreLawful (sym whole) law) (met_rest number deed more none)
    (subst (IsBehind number last) (sym (course_push deeds deed)) (step number last deeds deed more f.0 f.1 none is)))

-- ---- the tail

pub in_full : (rec : Record) (deeds more : List Deed) → In rec (full_of deeds) → In rec (full_of (deeds ++ more))
in_full rec [] more i = absurd i
in_full rec (deed ∷ deeds) more i = joined (operation_in deed) i (in_full rec deeds more)
  where
    joined : (xs : List Record) → In rec (xs ++ full_of deeds)
        → (In rec (full_of deeds) → In rec (full_of (deeds ++ more))) → In rec (xs ++ full_of (deeds ++ more))
    joined [] j go = go j
    joined (x ∷ xs) (inl same) go = inl same
    joined (x ∷ xs) (inr j) go = inr (joined xs j go)

pub full_behind : (rec : Record) (deeds more : List Deed) → In rec (full_of more) → In rec (full_of (deeds ++ more))
full_behind rec [] more i = i
full_behind rec (deed ∷ deeds) more i = in_right rec (operation_in deed) (full_of (deeds ++ more)) (full_behind rec deeds more i)

same_cut : (a b : Cut) → Some a ≡ Some b → a ≡ b
same_cut a b e = cc

back_above : (number last : ℕ) (course : Course) (full : List Record) (rec : Record) (o : Option Cut) → course.cut ≡ o
    → IsBehind number last course → In rec (back_by o (records_above course.done full))
    → (last < rec.number) × In rec full
back_above number last course full rec None e (inl h) i =
    (let up = above_by course.done rec full i in (omega (arith, h, up), in_above course.done rec full i))
back_above number last course full rec None e (inr c) i = absurd (none-some c.0 (sym e ∙ c.1))
back_above number last course full rec (Some cut) e (inl h) i =
    let j = in_above cut.last rec (records_above course.done full) i in
    let up = above_by course.done rec full j in (omega (arith, h, up), in_above course.done rec full j)
back_above number last course full rec (Some cut) e (inr c) i =
    let j = in_above cut.last rec (records_above course.done full) i in
    let up = above_by cut.last rec (records_above course.done full) i in
    let at : cut.last ≡ last = ap (λ (k : Cut). k.last) (same_cut cut c.0 (sym e ∙ c.1)) ∙ c.2 in (omega (arith, at, up), in_above course.done rec full j)

pub tails_apart : ChunksAndTailsCreateApart
tails_apart volume client past more number home last f law are none made = false_from_ne_true _ (λ h.
    let counted = counted_from volume client 0 (full_of (past ++ Froze number home last ∷ more)) are in
    let deeds : List Deed = past ++ Froze number home last ∷ more in
    let whole : (past ++ Froze number home last ∷ []) ++ more ≡ deeds = append_assoc past (Froze number home last ∷ []) more in
    let start : IsBehind number last (course_of (past ++ Froze number home last ∷ [])) = subst (IsBehind number last) (sym (course_push past (Froze number home last))) (inr (record { home = home; last = last }, refl, refl, refl)) in
    let is : IsBehind number last (course_of deeds) = subst (λ l. IsBehind number last (course_of l)) whole (behind number last (past ++ Froze number home last ∷ []) more (subst AreLawful (sym whole) law) none start) in
    let a = some_record (creates f) (records_upto last (pending_of past)) made in
    let b = some_record (creates f) (back_of deeds) h in
    let low = upto_by last a.0 (pending_of past) a.1 in
    let high = back_above number last (course_of deeds) (full_of deeds) b.0 (course_of deeds).cut refl is b.1 in
    let same : a.0 ≡ b.0 = once 0 (full_of deeds) f a.0 b.0 counted (in_full a.0 past (Froze number home last ∷ more) (in_above (course_of past).done a.0 (full_of past) low.1)) high.1 a.2 b.2 in
    let down = low.0 in
    let up : last < a.0.number = subst (λ (r : Record). last < r.number) (sym same) high.0 in
    let no_way : ⊥ = omega (arith, down, up) in absurd no_way)
