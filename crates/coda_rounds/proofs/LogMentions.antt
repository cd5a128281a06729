-- Which objects a log still mentions after an operation.
use Rattle.std.proofs.Common.{◌≡◌, Bool, true, false, cond, ◌||◌, ◌&&◌, not, List, [], ◌∷◌, ◌++◌, Some, None}
use Rattle.std.proofs.Common.{refl, sym, ap, ◌∙◌, subst, ⊎_elim, inl, inr, ◌⊎◌}
use Rattle.std.proofs.lemmas.Bool.{or_left, or_right, or_cases, and_parts, and_from, false≢true}
use Rattle.coda_fid.specs.Fid.{same_fid}
use Rattle.coda_fid.specs.Op.{carried}
use Rattle.coda_fid.specs.declared.fid.Fid.{Fid}
use Rattle.coda_fid.specs.declared.op.Op.{Op}
use Rattle.coda_fid.specs.declared.op.Op.TheVariants.{Create, Mkdir, Symlink, Store, Setattr, Remove, Rmdir, Rename}
use Rattle.coda_fid.specs.declared.op.Record.{Record}
use Rattle.coda_cancel.specs.Cancel.{is_other, others, is_true_alone, is_undone, cancels, without, kept, debt}
use Rattle.coda_cancel.specs.Cancel.{object, appended, add}
use Rattle.coda_cancel.specs.Dropping.{mentioning, creates, stores, writes, is_covered, drops, covers}
use Rattle.coda_cancel.specs.Handing.{Debt, nothing, owe, paid, hand, sid_or}
use Rattle.coda_cancel.proofs.Debts.{mentioning-with_pre}
use Rattle.coda_cancel.proofs.Keys.{fid_true, fid_same}
use Rattle.coda_cml.specs.Steady.{any_record, makes_in}
use Rattle.coda_cache.specs.Steps.{taken_out}

-- ---- which operations mention what

one_of : (it f q : Fid) → same_fid it f ≡ true → (same_fid it q || false) ≡ true → f ≡ q
one_of it f q at m = ⊎_elim
    (λ (a : same_fid it q ≡ true). sym (fid_true it f at) ∙ fid_true it q a)
    (λ (b : false ≡ true). absurd (false≢true b))
    (or_cases (same_fid it q) false m)

-- a Store or Setattr mentions its object alone
writes_only : (f q : Fid) (p : Op) → writes f p ≡ true → mentioning q p ≡ true → f ≡ q
writes_only f q (Create dir name it mode owner) w m = absurd (false≢true w)
writes_only f q (Mkdir dir name it mode owner) w m = absurd (false≢true w)
writes_only f q (Symlink dir name it target mode owner) w m = absurd (false≢true w)
writes_only f q (Store it pre content) w m = one_of it f q w m
writes_only f q (Setattr it pre attrs) w m = one_of it f q w m
writes_only f q (Remove dir name it pre) w m = absurd (false≢true w)
writes_only f q (Rmdir dir name it pre) w m = absurd (false≢true w)
writes_only f q (Rename from_dir from to_dir to it over) w m = absurd (false≢true w)

stores_writes : (f : Fid) (p : Op) → stores f p ≡ true → writes f p ≡ true
stores_writes f (Store it pre content) h = h
stores_writes f _ h = absurd (false≢true h)

covered_writes : (f : Fid) (attrs : _) (p : Op) → is_covered f attrs p ≡ true → writes f p ≡ true
covered_writes f attrs (Setattr it pre before) h = (and_parts (same_fid it f) (covers attrs before) h).0
covered_writes f attrs _ h = absurd (false≢true h)

second : (a b : Fid) → (same_fid a b || (same_fid b b || false)) ≡ true
second a b = or_right (same_fid a b) _ (or_left (same_fid b b) false (fid_same b b refl))

-- what makes a record needless mentions its object
drops_writes : (o p : Op) → drops o p ≡ true → (x : Fid) × (writes x p ≡ true) × (mentioning x o ≡ true)
drops_writes (Create dir name f mode owner) p h = absurd (false≢true h)
drops_writes (Mkdir dir name f mode owner) p h = absurd (false≢true h)
drops_writes (Symlink dir name f target mode owner) p h = absurd (false≢true h)
drops_writes (Store f pre content) p h = (f, stores_writes f p h, or_left (same_fid f f) false (fid_same f f refl))
drops_writes (Setattr f pre attrs) p h =
    (f, covered_writes f attrs p h, or_left (same_fid f f) false (fid_same f f refl))
drops_writes (Remove dir name f pre) p h = (f, h, second dir f)
drops_writes (Rmdir dir name f pre) p h = (f, h, second dir f)
drops_writes (Rename from_dir from to_dir to f None) p h = absurd (false≢true h)
drops_writes (Rename from_dir from to_dir to f (Some over)) p h = (
  over.fid,
  h,
  or_right (same_fid from_dir over.fid) _ (or_right (same_fid to_dir over.fid) _ (second f over.fid)),
)

made_in : (dir it f q : Fid) → same_fid it f ≡ true → (same_fid dir q || (same_fid it q || false)) ≡ true
    → (q ≡ f) ⊎ ((same_fid dir q && same_fid it f) ≡ true)
made_in dir it f q c m = ⊎_elim
    (λ (a : same_fid dir q ≡ true). inr (and_from _ _ a c))
    (λ (b : (same_fid it q || false) ≡ true). inl (sym (one_of it f q c b)))
    (or_cases (same_fid dir q) (same_fid it q || false) m)

-- a creation mentions its object and the directory in which it makes that
creates_makes : (f q : Fid) (p : Op) → creates f p ≡ true → mentioning q p ≡ true
    → (q ≡ f) ⊎ (makes_in q f p ≡ true)
creates_makes f q (Create dir name it mode owner) c m = made_in dir it f q c m
creates_makes f q (Mkdir dir name it mode owner) c m = made_in dir it f q c m
creates_makes f q (Symlink dir name it target mode owner) c m = made_in dir it f q c m
creates_makes f q (Store it pre content) c m = absurd (false≢true c)
creates_makes f q (Setattr it pre attrs) c m = absurd (false≢true c)
creates_makes f q (Remove dir name it pre) c m = absurd (false≢true c)
creates_makes f q (Rmdir dir name it pre) c m = absurd (false≢true c)
creates_makes f q (Rename from_dir from to_dir to it over) c m = absurd (false≢true c)

-- ---- what is dropped

any_joined : (test : Op → Bool) (xs ys : List Record)
    → any_record test (xs ++ ys) ≡ (any_record test xs || any_record test ys)
any_joined test [] ys = refl
any_joined test (x ∷ xs) ys = go (test x.op) (any_joined test xs ys)
  where
    go : (b : Bool) → any_record test (xs ++ ys) ≡ (any_record test xs || any_record test ys)
        → (b || any_record test (xs ++ ys)) ≡ ((b || any_record test xs) || any_record test ys)
    go true e = refl
    go false e = e

module _ (q : Fid) where
  handed : (owed : Debt) (rec : Record) → mentioning q (hand owed rec).op ≡ mentioning q rec.op
  handed owed rec = mentioning-with_pre (λ g p. sid_or (owed g) p) q rec.op

  kept_mentions : (test : Op → Bool) → ((p : Op) → test p ≡ true → mentioning q p ≡ true → ⊥) → (owed : Debt)
      → (recs : List Record) → any_record (mentioning q) recs ≡ true
      → any_record (mentioning q) (kept test owed recs) ≡ true
  kept_mentions test none owed [] h = absurd (false≢true h)
  kept_mentions test none owed (rec ∷ recs) h = (elim (test rec.op) as (λ b. test rec.op ≡ b → any_record (mentioning q)
      (cond b (kept test (owe owed (carried rec.op)) recs) (hand owed rec ∷ kept test (paid owed (carried rec.op)) recs))
      ≡ true) [
        | true ↦ λ t. ⊎_elim
            (λ (a : mentioning q rec.op ≡ true). absurd (none rec.op t a))
            (λ (b : any_record (mentioning q) recs ≡ true). kept_mentions test none (owe owed (carried rec.op)) recs b)
            (or_cases (mentioning q rec.op) (any_record (mentioning q) recs) h)
        | false ↦ λ t. ⊎_elim
            (λ (a : mentioning q rec.op ≡ true). or_left (mentioning q (hand owed rec).op) _ (handed owed rec ∙ a))
            (λ (b : any_record (mentioning q) recs ≡ true). or_right (mentioning q (hand owed rec).op) _
            (kept_mentions test none (paid owed (carried rec.op)) recs b))
            (or_cases (mentioning q rec.op) (any_record (mentioning q) recs) h)
      ]) refl

  -- what the new record mentions is mentioned
  pub last_mentions : (recs : List Record) (rec : Record) → mentioning q rec.op ≡ true
      → any_record (mentioning q) (appended recs rec) ≡ true
  last_mentions recs rec h =
      any_joined (mentioning q) (kept (drops rec.op) nothing recs) (hand (debt (drops rec.op) nothing recs) rec ∷ [])
      ∙ or_right (any_record (mentioning q) (kept (drops rec.op) nothing recs)) _
      (or_left (mentioning q (hand (debt (drops rec.op) nothing recs) rec).op) false
      (handed (debt (drops rec.op) nothing recs) rec ∙ h))

  appended_mentions : (recs : List Record) (rec : Record) → any_record (mentioning q) recs ≡ true
      → any_record (mentioning q) (appended recs rec) ≡ true
  appended_mentions recs rec h = (elim (mentioning q rec.op) as (λ b. mentioning q rec.op ≡ b
      → any_record (mentioning q) (appended recs rec) ≡ true) [
        | true ↦ λ m. last_mentions recs rec m
        | false ↦ λ m.
            any_joined (mentioning q) (kept (drops rec.op) nothing recs)
            (hand (debt (drops rec.op) nothing recs) rec ∷ [])
            ∙ or_left (any_record (mentioning q) (kept (drops rec.op) nothing recs)) _
            (kept_mentions (drops rec.op) (λ p d at. let w = drops_writes rec.op p d in
            false≢true (sym m ∙ subst (λ x. mentioning x rec.op ≡ true) (writes_only w.0 q p w.1 at) w.2))
            nothing recs h)
      ]) refl

  -- ---- a creation that is undone

  abbrev mentions_both : Fid → Op → Bool
  mentions_both f p = mentioning q p && mentioning f p

  without_mentions : (f : Fid) (recs : List Record) → any_record (mentioning q) recs ≡ true
      → (any_record (mentioning q) (without f recs) ≡ true) ⊎ (any_record (mentions_both f) recs ≡ true)
  without_mentions f [] h = absurd (false≢true h)
  without_mentions f (rec ∷ recs) h = (elim (mentioning f rec.op) as (λ b. mentioning f rec.op ≡ b → (any_record
      (mentioning q) (cond b (without f recs) (rec ∷ without f recs)) ≡ true)
      ⊎ (any_record (mentions_both f) (rec ∷ recs) ≡ true)) [
        | true ↦ λ t. ⊎_elim
            (λ (a : mentioning q rec.op ≡ true). inr (or_left (mentions_both f rec.op) _ (and_from _ _ a t)))
            (λ (b : any_record (mentioning q) recs ≡ true). ⊎_elim
            (λ (left : any_record (mentioning q) (without f recs) ≡ true). inl left)
            (λ (more : any_record (mentions_both f) recs ≡ true). inr (or_right (mentions_both f rec.op) _ more))
            (without_mentions f recs b))
            (or_cases (mentioning q rec.op) (any_record (mentioning q) recs) h)
        | false ↦ λ t. ⊎_elim
            (λ (a : mentioning q rec.op ≡ true). inl (or_left (mentioning q rec.op) _ a))
            (λ (b : any_record (mentioning q) recs ≡ true). ⊎_elim
            (λ (left : any_record (mentioning q) (without f recs) ≡ true). inl
            (or_right (mentioning q rec.op) _ left))
            (λ (more : any_record (mentions_both f) recs ≡ true). inr (or_right (mentions_both f rec.op) _ more))
            (without_mentions f recs b))
            (or_cases (mentioning q rec.op) (any_record (mentioning q) recs) h)
      ]) refl

  abbrev AllTrue : List Bool → Type 0
  AllTrue [] = Unit {0}
  AllTrue (b ∷ bs) = (b ≡ true) × AllTrue bs

  alone_true : (bs : List Bool) → is_true_alone bs ≡ true → AllTrue bs
  alone_true [] h = tt
  alone_true (b ∷ []) h = (h, tt)
  alone_true (b ∷ c ∷ bs) h = absurd (false≢true h)

  made_by : (f : Fid) (recs : List Record) → AllTrue (others f recs) → any_record (mentions_both f) recs ≡ true
      → (q ≡ f) ⊎ (any_record (makes_in q f) recs ≡ true)
  made_by f [] all h = absurd (false≢true h)
  made_by f (rec ∷ recs) all h = (elim (is_other f rec.op) as (λ b. is_other f rec.op ≡ b → AllTrue
      (cond b (creates f rec.op ∷ others f recs) (others f recs)) → (q ≡ f) ⊎ (any_record (makes_in q f) (rec ∷ recs)
      ≡ true)) [
        | true ↦ λ t k. ⊎_elim
            (λ (a : mentions_both f rec.op ≡ true). ⊎_elim
            (λ (same : q ≡ f). inl same)
            (λ (makes : makes_in q f rec.op ≡ true). inr (or_left (makes_in q f rec.op) _ makes))
            (creates_makes f q rec.op k.0 (and_parts (mentioning q rec.op) (mentioning f rec.op) a).0))
            (λ (b : any_record (mentions_both f) recs ≡ true). more (made_by f recs k.1 b))
            (or_cases (mentions_both f rec.op) (any_record (mentions_both f) recs) h)
        | false ↦ λ t k. ⊎_elim
            (λ (a : mentions_both f rec.op ≡ true).
            let p = and_parts (mentioning q rec.op) (mentioning f rec.op) a in
            inl (sym (writes_only f q rec.op (written (writes f rec.op) p.1 t) p.0)))
            (λ (b : any_record (mentions_both f) recs ≡ true). more (made_by f recs k b))
            (or_cases (mentions_both f rec.op) (any_record (mentions_both f) recs) h)
      ]) refl all
    where
      more : (q ≡ f) ⊎ (any_record (makes_in q f) recs ≡ true)
          → (q ≡ f) ⊎ (any_record (makes_in q f) (rec ∷ recs) ≡ true)
      more (inl same) = inl same
      more (inr makes) = inr (or_right (makes_in q f rec.op) _ makes)

      written : (b : Bool) → mentioning f rec.op ≡ true → (mentioning f rec.op && not b) ≡ false → b ≡ true
      written true m t = refl
      written false m t = absurd (false≢true (sym t ∙ and_from _ _ m refl))

  -- ---- after an operation

  -- it is mentioned still, or is what is removed, or the directory where that was made
  abbrev pub IsLeft : List Record → Record → Type 0
  IsLeft recs rec =
      (any_record (mentioning q) (add recs rec) ≡ true)
      ⊎ ((f : Fid) × (taken_out rec.op ≡ Some f) × (is_undone f recs ≡ true)
      × ((q ≡ f) ⊎ (any_record (makes_in q f) recs ≡ true)))

  undone_left : (f : Fid) (recs : List Record) (rec : Record) → taken_out rec.op ≡ Some f → is_undone f recs ≡ true
      → add recs rec ≡ without f recs → any_record (mentioning q) recs ≡ true → IsLeft recs rec
  undone_left f recs rec out is e h = ⊎_elim
      (λ (left : any_record (mentioning q) (without f recs) ≡ true). inl (ap (any_record (mentioning q)) e ∙ left))
      (λ (both : any_record (mentions_both f) recs ≡ true). inr
      (f, out, is, made_by f recs (alone_true (others f recs) is) both))
      (without_mentions f recs h)

  plain_left : (recs : List Record) (rec : Record) → add recs rec ≡ appended recs rec
      → any_record (mentioning q) recs ≡ true → IsLeft recs rec
  plain_left recs rec e h = inl (ap (any_record (mentioning q)) e ∙ appended_mentions recs rec h)

  pub mentioned_still : (recs : List Record) (rec : Record) → any_record (mentioning q) recs ≡ true → IsLeft recs rec
  mentioned_still recs rec h = (elim (cancels rec.op recs) as (λ b. cancels rec.op recs ≡ b → IsLeft recs rec) [
    | true ↦ λ t. undone t
    | false ↦ λ t. plain_left recs rec (ap (λ b. cond b (without (object (carried rec.op)) recs) (appended recs rec)) t) h
  ]) refl
    where
      removed : (op : Op) → cancels op recs ≡ true
          → (taken_out op ≡ Some (object (carried op))) × (is_undone (object (carried op)) recs ≡ true)
      removed (Remove dir name f pre) t = (refl, t)
      removed (Rmdir dir name f pre) t = (refl, t)
      removed _ t = absurd (false≢true t)

      undone : cancels rec.op recs ≡ true → IsLeft recs rec
      undone t =
          let is = removed rec.op t in
          undone_left (object (carried rec.op)) recs rec is.0 is.1
          (ap (λ b. cond b (without (object (carried rec.op)) recs) (appended recs rec)) t) h

  -- ---- nothing is mentioned anew but by the operation

  without_back : (f : Fid) (recs : List Record) → any_record (mentioning q) (without f recs) ≡ true
      → any_record (mentioning q) recs ≡ true
  without_back f [] h = h
  without_back f (rec ∷ recs) h = (elim (mentioning f rec.op) as (λ b. any_record (mentioning q)
      (cond b (without f recs) (rec ∷ without f recs)) ≡ true → any_record (mentioning q) (rec ∷ recs) ≡ true) [
        | true ↦ λ k. or_right (mentioning q rec.op) _ (without_back f recs k)
        | false ↦ λ k. ⊎_elim
            (λ (a : mentioning q rec.op ≡ true). or_left (mentioning q rec.op) _ a)
            (λ (b : any_record (mentioning q) (without f recs) ≡ true). or_right (mentioning q rec.op) _
            (without_back f recs b))
            (or_cases (mentioning q rec.op) (any_record (mentioning q) (without f recs)) k)
      ]) h

  kept_back : (test : Op → Bool) (owed : Debt) (recs : List Record)
      → any_record (mentioning q) (kept test owed recs) ≡ true → any_record (mentioning q) recs ≡ true
  kept_back test owed [] h = h
  kept_back test owed (rec ∷ recs) h = (elim (test rec.op) as (λ b. any_record (mentioning q)
      (cond b (kept test (owe owed (carried rec.op)) recs) (hand owed rec ∷ kept test (paid owed (carried rec.op)) recs))
      ≡ true → any_record (mentioning q) (rec ∷ recs) ≡ true) [
        | true ↦ λ k. or_right (mentioning q rec.op) _ (kept_back test (owe owed (carried rec.op)) recs k)
        | false ↦ λ k. ⊎_elim
            (λ (a : mentioning q (hand owed rec).op ≡ true). or_left (mentioning q rec.op) _
            (sym (handed owed rec) ∙ a))
            (λ (b : any_record (mentioning q) (kept test (paid owed (carried rec.op)) recs) ≡ true).
            or_right (mentioning q rec.op) _ (kept_back test (paid owed (carried rec.op)) recs b))
            (or_cases (mentioning q (hand owed rec).op)
            (any_record (mentioning q) (kept test (paid owed (carried rec.op)) recs)) k)
      ]) h

  pub mentioned_back : (recs : List Record) (rec : Record) → mentioning q rec.op ≡ false
      → any_record (mentioning q) (add recs rec) ≡ true → any_record (mentioning q) recs ≡ true
  mentioned_back recs rec none h = (elim (cancels rec.op recs) as (λ b. any_record (mentioning q)
      (cond b (without (object (carried rec.op)) recs) (appended recs rec)) ≡ true
      → any_record (mentioning q) recs ≡ true) [
        | true ↦ λ k. without_back (object (carried rec.op)) recs k
        | false ↦ λ k. ⊎_elim
            (λ (a : any_record (mentioning q) (kept (drops rec.op) nothing recs) ≡ true).
            kept_back (drops rec.op) nothing recs a)
            (λ (b : any_record (mentioning q) (newest ∷ []) ≡ true). absurd (only b))
            (or_cases (any_record (mentioning q) (kept (drops rec.op) nothing recs))
            (any_record (mentioning q) (newest ∷ []))
            (sym (any_joined (mentioning q) (kept (drops rec.op) nothing recs) (newest ∷ [])) ∙ k))
      ]) h
    where
      newest : Record
      newest = hand (debt (drops rec.op) nothing recs) rec

      only : any_record (mentioning q) (newest ∷ []) ≡ true → ⊥
      only b = ⊎_elim
          (λ (a : mentioning q newest.op ≡ true).
          false≢true (sym none ∙ sym (handed (debt (drops rec.op) nothing recs) rec) ∙ a))
          (λ (c : false ≡ true). false≢true c)
          (or_cases (mentioning q newest.op) false b)
