-- What records made stands where they made it, as others are added.
use Rattle.std.proofs.Common.{◌≡◌, ◌≢◌, ℕ, Bool, true, false, cond, ◌||◌, ◌&&◌, not, List, [], ◌∷◌, ◌++◌, Some, None}
use Rattle.std.proofs.Common.{append_assoc, append-nil, refl, sym, ap, ◌∙◌, subst, ⊎_elim, inl, inr}
use Rattle.std.proofs.lemmas.Bool.{or_left, or_right, or_cases, or_parts, false≢true, cases_Bool, cond_both}
use Rattle.std.specs.FinMap as map
use Rattle.coda_fid.specs.Fid.{same_fid}
use Rattle.coda_fid.specs.Op.{carried}
use Rattle.coda_fid.specs.declared.fid.Fid.{Fid}
use Rattle.coda_fid.specs.declared.fid.Sid.{Sid}
use Rattle.coda_fid.specs.declared.op.Op.{Op}
use Rattle.coda_fid.specs.declared.op.Op.TheVariants.{Create, Mkdir, Symlink, Store, Setattr, Remove, Rmdir, Rename}
use Rattle.coda_fid.specs.declared.op.Record.{Record}
use Rattle.coda_cancel.specs.Cancel.{cancels, without, kept, debt, object, appended, add, added}
use Rattle.coda_cancel.specs.Dropping.{mentioning, creates, writes, drops}
use Rattle.coda_cancel.specs.Handing.{Debt, nothing, owe, paid, hand, sid_or, with_pre}
use Rattle.coda_cancel.proofs.Debts.{creates-with_pre}
use Rattle.coda_cancel.proofs.Keys.{fid_true, fid_other, fid_cases, is_write}
use Rattle.coda_cml.specs.Steady.{any_record, makes_in, unbinds}
use Rattle.coda_cml.proofs.runs.AlmostAlike.{drops_write}
use Rattle.coda_cml.proofs.runs.InStep.{only_made_of, cancels_seen}
use Rattle.coda_cml.proofs.runs.OtherRecords.{OnlyMade}
use Rattle.coda_cml.proofs.runs.StillThere.{creates_mentions}
use Rattle.coda_cml.proofs.runs.ThawedFold.{makes-with_pre, cancels_created}
use Rattle.coda_cml.proofs.runs.WithoutObject.{makes_parts}
use Rattle.coda_venus.specs.Held.{Parents}
use Rattle.coda_rounds.specs.Places.{is_made_again, StayThere}

-- ---- operations

unbinds-with_pre : (h : Fid → Sid → Sid) (f : Fid) (op : Op) → unbinds f (with_pre h op) ≡ unbinds f op
unbinds-with_pre h f (Create dir name it mode owner) = refl
unbinds-with_pre h f (Mkdir dir name it mode owner) = refl
unbinds-with_pre h f (Symlink dir name it target mode owner) = refl
unbinds-with_pre h f (Store it pre content) = refl
unbinds-with_pre h f (Setattr it pre attrs) = refl
unbinds-with_pre h f (Remove dir name it pre) = refl
unbinds-with_pre h f (Rmdir dir name it pre) = refl
unbinds-with_pre h f (Rename from_dir from to_dir to it None) = refl
unbinds-with_pre h f (Rename from_dir from to_dir to it (Some over)) = refl

-- a write creates nothing, and takes nothing from where it is bound
write_leaves : (f : Fid) (op : Op) → is_write op ≡ true → (creates f op ≡ false) × (unbinds f op ≡ false)
write_leaves f (Store it pre content) e = (refl, refl)
write_leaves f (Setattr it pre attrs) e = (refl, refl)
write_leaves f _ e = absurd (false≢true e)

-- the object of a creation, which isn't another one
other_made : (it g f : Fid) → (same_fid it g || false) ≡ true → f ≢ g → same_fid it f ≡ false
other_made it g f e off = fid_other it f (λ same. off (sym same ∙ fid_true it g (one (same_fid it g) e)))
  where
    one : (b : Bool) → (b || false) ≡ true → b ≡ true
    one true e = refl
    one false e = e

-- what creates or writes an object takes nothing from where it is bound, and creates no other
made_leaves : (g : Fid) (op : Op) → (creates g op || writes g op) ≡ true → (f : Fid)
    → (unbinds f op ≡ false) × (f ≢ g → creates f op ≡ false)
made_leaves g (Create dir name it mode owner) e f = (refl, other_made it g f e)
made_leaves g (Mkdir dir name it mode owner) e f = (refl, other_made it g f e)
made_leaves g (Symlink dir name it target mode owner) e f = (refl, other_made it g f e)
made_leaves g (Store it pre content) e f = (refl, λ off. refl)
made_leaves g (Setattr it pre attrs) e f = (refl, λ off. refl)
made_leaves g (Remove dir name it pre) e f = absurd (false≢true e)
made_leaves g (Rmdir dir name it pre) e f = absurd (false≢true e)
made_leaves g (Rename from_dir from to_dir to it over) e f = absurd (false≢true e)

-- a removal that undoes a creation takes its object alone from where it is bound
undoing_leaves : (op : Op) (recs : List Record) (f : Fid) → cancels op recs ≡ true → f ≢ object (carried op)
    → (creates f op ≡ false) × (unbinds f op ≡ false)
undoing_leaves (Remove dir name it pre) recs f e off = (refl, fid_other it f (λ same. off (sym same)))
undoing_leaves (Rmdir dir name it pre) recs f e off = (refl, fid_other it f (λ same. off (sym same)))
undoing_leaves _ recs f e off = absurd (false≢true e)

-- what takes an object from where it is bound mentions it, and doesn't create it
pub unbinds_mentions : (f : Fid) (op : Op) → unbinds f op ≡ true → mentioning f op ≡ true
unbinds_mentions f (Create dir name it mode owner) e = absurd (false≢true e)
unbinds_mentions f (Mkdir dir name it mode owner) e = absurd (false≢true e)
unbinds_mentions f (Symlink dir name it target mode owner) e = absurd (false≢true e)
unbinds_mentions f (Store it pre content) e = absurd (false≢true e)
unbinds_mentions f (Setattr it pre attrs) e = absurd (false≢true e)
unbinds_mentions f (Remove dir name it pre) e = or_right (same_fid dir f) _ (or_left (same_fid it f) false e)
unbinds_mentions f (Rmdir dir name it pre) e = or_right (same_fid dir f) _ (or_left (same_fid it f) false e)
unbinds_mentions f (Rename from_dir from to_dir to it None) e = or_right (same_fid from_dir f) _ (or_right (same_fid to_dir f) _ e)
unbinds_mentions f (Rename from_dir from to_dir to it (Some over)) e = or_right (same_fid from_dir f) _ (or_right (same_fid to_dir f) _ (⊎_elim
    (λ (a : same_fid it f ≡ true). or_left (same_fid it f) _ a)
    (λ (b : same_fid over.fid f ≡ true). or_right (same_fid it f) _ (or_left (same_fid over.fid f) false b))
    (or_cases (same_fid it f) (same_fid over.fid f) e)))

unbinds_makes_none : (f : Fid) (op : Op) → unbinds f op ≡ true → creates f op ≡ false
unbinds_makes_none f (Create dir name it mode owner) e = absurd (false≢true e)
unbinds_makes_none f (Mkdir dir name it mode owner) e = absurd (false≢true e)
unbinds_makes_none f (Symlink dir name it target mode owner) e = absurd (false≢true e)
unbinds_makes_none f (Store it pre content) e = refl
unbinds_makes_none f (Setattr it pre attrs) e = refl
unbinds_makes_none f (Remove dir name it pre) e = refl
unbinds_makes_none f (Rmdir dir name it pre) e = refl
unbinds_makes_none f (Rename from_dir from to_dir to it over) e = refl

-- a record of an object that is only made and written
only_made_leaves : (g : Fid) (op : Op) → (mentioning g op ≡ true → (creates g op || writes g op) ≡ true)
    → unbinds g op ≡ false
only_made_leaves g op only = elim (cases_Bool (unbinds g op)) [
  | inl takes ↦ absurd (false≢true (sym (made_leaves g op (only (unbinds_mentions g op takes)) g).0 ∙ takes))
  | inr leaves ↦ leaves
]

-- nothing takes from where it is bound what is only made and written
pub none_unbinds : (g : Fid) (recs : List Record) → OnlyMade g recs → any_record (unbinds g) recs ≡ false
none_unbinds g [] only = refl
none_unbinds g (rec ∷ recs) only = ap (λ b. b || any_record (unbinds g) recs) (only_made_leaves g rec.op only.0)
    ∙ none_unbinds g recs only.1

-- and it is made again
made_again : (g : Fid) (recs behind : List Record) → OnlyMade g recs → any_record (creates g) recs ≡ true
    → is_made_again g (recs ++ behind) ≡ true
made_again g [] behind only made = absurd (false≢true made)
made_again g (rec ∷ recs) behind only made = ⊎_elim
    (λ (a : creates g rec.op ≡ true). or_left (creates g rec.op) _ a)
    (λ (b : any_record (creates g) recs ≡ true). or_right (creates g rec.op) _
    (ap (λ t. not t && is_made_again g (recs ++ behind)) (only_made_leaves g rec.op only.0)
    ∙ made_again g recs behind only.1 b))
    (or_cases (creates g rec.op) (any_record (creates g) recs) made)

-- ---- records in place of others

-- one list in place of another, behind a record that made the object: it makes the object again only where the other
-- does, and takes it from where it is bound where the other does
record GoesFor (f : Fid) (xs ys : List Record) : Type 0 where
  once : is_made_again f xs ≡ false → is_made_again f ys ≡ false
  bound : is_made_again f xs ≡ false → any_record (unbinds f) ys ≡ false → any_record (unbinds f) xs ≡ false

goes_both : (f : Fid) (a b : Record) (xs ys : List Record) → creates f b.op ≡ creates f a.op
    → unbinds f b.op ≡ unbinds f a.op → GoesFor f xs ys → GoesFor f (a ∷ xs) (b ∷ ys)
goes_both f a b xs ys made takes g = record {
  once = λ h. ap (λ t. t || (not (unbinds f b.op) && is_made_again f ys)) made
      ∙ ap (λ t. creates f a.op || (not t && is_made_again f ys)) takes
      ∙ still (creates f a.op) (unbinds f a.op) (is_made_again f xs) (is_made_again f ys) g.once h;
  bound = λ h e. left (creates f a.op) (unbinds f a.op) (is_made_again f xs) (any_record (unbinds f) ys) (any_record (unbinds f) xs) g.bound h
      (ap (λ t. t || any_record (unbinds f) ys) (sym takes) ∙ e);
}
  where
    still : (c u x y : Bool) → (x ≡ false → y ≡ false) → (c || (not u && x)) ≡ false → (c || (not u && y)) ≡ false
    still true u x y k h = h
    still false true x y k h = refl
    still false false x y k h = k h

    left : (c u x ly lx : Bool) → (x ≡ false → ly ≡ false → lx ≡ false) → (c || (not u && x)) ≡ false
        → (u || ly) ≡ false → (u || lx) ≡ false
    left true u x ly lx k h e = absurd (false≢true (sym h))
    left false true x ly lx k h e = absurd (false≢true (sym e))
    left false false x ly lx k h e = k h e

goes_without : (f : Fid) (a : Record) (xs ys : List Record) → (creates f a.op ≡ false) × (unbinds f a.op ≡ false)
    → GoesFor f xs ys → GoesFor f (a ∷ xs) ys
goes_without f a xs ys leaves g = record {
  once = λ h. g.once (sym same ∙ h);
  bound = λ h e. ap (λ t. t || any_record (unbinds f) xs) leaves.1 ∙ g.bound (sym same ∙ h) e;
}
  where
    same : is_made_again f (a ∷ xs) ≡ is_made_again f xs
    same = ap (λ t. t || (not (unbinds f a.op) && is_made_again f xs)) leaves.0
        ∙ ap (λ t. not t && is_made_again f xs) leaves.1

goes_itself : (f : Fid) (xs : List Record) → GoesFor f xs xs
goes_itself f xs = record { once = λ h. h; bound = λ h e. e }

module _ (volume : ℕ) (parents : Parents) where
  abbrev There : List Record → Type 0
  There = StayThere volume parents

  -- one list in place of another: what was made stays there
  pub record Comes (xs ys : List Record) : Type 0 where
    pub there : There xs → There ys
    goes : (f : Fid) → GoesFor f xs ys

  there_both : (a b : Record) (xs ys : List Record)
      → ((dir f : Fid) → makes_in dir f b.op ≡ true → makes_in dir f a.op ≡ true)
      → ((dir f : Fid) → makes_in dir f b.op ≡ true → GoesFor f xs ys) → (There xs → There ys) → There (a ∷ xs)
      → There (b ∷ ys)
  there_both a b xs ys makes goes then there = (
    λ dir f m. (
        let at = there.0 dir f (makes dir f m) in
        let g = goes dir f m in
        record { within = at.within; once = g.once at.once; there = λ e. at.there (g.bound at.once e) }),
    then there.1,
  )

  comes_both : (a b : Record) (xs ys : List Record) → ((dir f : Fid) → makes_in dir f b.op ≡ makes_in dir f a.op)
      → ((f : Fid) → creates f b.op ≡ creates f a.op) → ((f : Fid) → unbinds f b.op ≡ unbinds f a.op) → Comes xs ys
      → Comes (a ∷ xs) (b ∷ ys)
  comes_both a b xs ys makes made takes c = record {
    there = there_both a b xs ys (λ dir f m. sym (makes dir f) ∙ m) (λ dir f m. c.goes f) c.there;
    goes = λ f. goes_both f a b xs ys (made f) (takes f) (c.goes f);
  }

  comes_handed : (owed : Debt) (a : Record) (xs ys : List Record) → Comes xs ys → Comes (a ∷ xs) (hand owed a ∷ ys)
  comes_handed owed a xs ys c = comes_both a (hand owed a) xs ys
      (λ dir f. makes-with_pre (λ g p. sid_or (owed g) p) dir f a.op)
      (λ f. creates-with_pre (λ g p. sid_or (owed g) p) f a.op)
      (λ f. unbinds-with_pre (λ g p. sid_or (owed g) p) f a.op) c

  comes_itself : (xs : List Record) → Comes xs xs
  comes_itself xs = record { there = λ t. t; goes = λ f. goes_itself f xs }

  comes_on : (xs ys zs : List Record) → Comes xs ys → Comes ys zs → Comes xs zs
  comes_on xs ys zs c d = record {
    there = λ t. d.there (c.there t);
    goes = λ f. record {
      once = λ h. (d.goes f).once ((c.goes f).once h);
      bound = λ h e. (c.goes f).bound h ((d.goes f).bound ((c.goes f).once h) e);
    };
  }

  pub comes_behind : (front xs ys : List Record) → Comes xs ys → Comes (front ++ xs) (front ++ ys)
  comes_behind [] xs ys c = c
  comes_behind (rec ∷ front) xs ys c = comes_both rec rec (front ++ xs) (front ++ ys) (λ dir f. refl) (λ f. refl) (λ f. refl) (comes_behind front xs ys c)

  -- ---- writes that go

  kept_comes : (test : Op → Bool) → ((op : Op) → test op ≡ true → is_write op ≡ true)
      → (owed : Debt) (recs xs ys : List Record)
      → Comes xs ys → Comes (recs ++ xs) (kept test owed recs ++ ys)
  kept_comes test writing owed [] xs ys c = c
  kept_comes test writing owed (rec ∷ recs) xs ys c = (elim (test rec.op) as (λ b. test rec.op ≡ b
      → Comes (rec ∷ recs ++ xs)
      (cond b (kept test (owe owed (carried rec.op)) recs) (hand owed rec ∷ kept test (paid owed (carried rec.op)) recs) ++ ys)) [
        | true ↦ λ t. left (kept_comes test writing (owe owed (carried rec.op)) recs xs ys c) (writing rec.op t)
        | false ↦ λ t. comes_handed owed rec (recs ++ xs) (kept test (paid owed (carried rec.op)) recs ++ ys)
            (kept_comes test writing (paid owed (carried rec.op)) recs xs ys c)
      ]) refl
    where
      left : {zs : List Record} → Comes (recs ++ xs) zs → is_write rec.op ≡ true → Comes (rec ∷ recs ++ xs) zs
      left {zs} c w = record {
        there = λ t. c.there t.1;
        goes = λ f. goes_without f rec (recs ++ xs) zs (write_leaves f rec.op w) (c.goes f);
      }

  appended_comes : (recs behind : List Record) (rec : Record)
      → Comes (recs ++ rec ∷ behind) (appended recs rec ++ behind)
  appended_comes recs behind rec = subst (Comes (recs ++ rec ∷ behind))
      (sym (append_assoc (kept (drops rec.op) nothing recs) (hand (debt (drops rec.op) nothing recs) rec ∷ []) behind))
      (kept_comes (drops rec.op) (drops_write rec.op) nothing recs (rec ∷ behind) (hand (debt (drops rec.op) nothing recs) rec ∷ behind)
      (comes_handed (debt (drops rec.op) nothing recs) rec behind behind (comes_itself behind)))

  -- ---- a creation that is undone

  record ComesBut (g : Fid) (xs ys : List Record) : Type 0 where
    there : There xs → There ys
    goes : (f : Fid) → f ≢ g → GoesFor f xs ys

  without_comes : (g : Fid) (recs xs ys : List Record) → OnlyMade g recs → ComesBut g xs ys
      → ComesBut g (recs ++ xs) (without g recs ++ ys)
  without_comes g [] xs ys only c = c
  without_comes g (rec ∷ recs) xs ys only c = (elim (mentioning g rec.op) as (λ b. mentioning g rec.op ≡ b
      → ComesBut g (rec ∷ recs ++ xs) (cond b (without g recs) (rec ∷ without g recs) ++ ys)) [
        | true ↦ λ t. left (without_comes g recs xs ys only.1 c) (only.0 t)
        | false ↦ λ t. stays (without_comes g recs xs ys only.1 c) t
      ]) refl
    where
      left : ComesBut g (recs ++ xs) (without g recs ++ ys) → (creates g rec.op || writes g rec.op) ≡ true
          → ComesBut g (rec ∷ recs ++ xs) (without g recs ++ ys)
      left c made = record {
        there = λ t. c.there t.1;
        goes = λ f off. goes_without f rec (recs ++ xs) (without g recs ++ ys) ((made_leaves g rec.op made f).1 off, (made_leaves g rec.op made f).0) (c.goes f off);
      }

      stays : ComesBut g (recs ++ xs) (without g recs ++ ys) → mentioning g rec.op ≡ false
          → ComesBut g (rec ∷ recs ++ xs) (rec ∷ without g recs ++ ys)
      stays c none = record {
        there = there_both rec rec (recs ++ xs) (without g recs ++ ys) (λ dir f m. m)
            (λ dir f m. c.goes f (λ same. false≢true (sym none
            ∙ subst (λ x. mentioning x rec.op ≡ true) same (creates_mentions f rec.op (makes_parts dir f rec.op m).1)))) c.there;
        goes = λ f off. goes_both f rec rec (recs ++ xs) (without g recs ++ ys) refl refl (c.goes f off);
      }

  undone_comes : (recs behind : List Record) (rec : Record) → cancels rec.op recs ≡ true
      → Comes (recs ++ rec ∷ behind) (without (object (carried rec.op)) recs ++ behind)
  undone_comes recs behind rec goes =
      let g = object (carried rec.op) in
      let only = only_made_of g recs (cancels_seen rec.op recs goes).0 in
      let again = made_again g recs (rec ∷ behind) only (cancels_created rec.op recs goes) in
      let c : ComesBut g (recs ++ rec ∷ behind) (without g recs ++ behind) = without_comes g recs (rec ∷ behind) behind only (record {
        there = λ t. t.1;
        goes = λ f off. goes_without f rec behind behind (undoing_leaves rec.op recs f goes off) (goes_itself f behind);
      }) in
      record {
        there = c.there;
        goes = λ f. elim (fid_cases f g) [
          | inl same ↦ record {
            once = λ h. absurd (false≢true (sym h ∙ ap (λ x. is_made_again x (recs ++ rec ∷ behind)) same ∙ again));
            bound = λ h e. absurd (false≢true (sym h ∙ ap (λ x. is_made_again x (recs ++ rec ∷ behind)) same ∙ again));
          }
          | inr off ↦ c.goes f off
        ];
      }

  -- ---- what is added

  pub add_comes : (recs behind : List Record) (rec : Record) → Comes (recs ++ rec ∷ behind) (add recs rec ++ behind)
  add_comes recs behind rec = cond_both (cancels rec.op recs) (without (object (carried rec.op)) recs) (appended recs rec) (λ l. Comes (recs ++ rec ∷ behind) (l ++ behind))
      (λ goes. undone_comes recs behind rec goes) (λ stays. appended_comes recs behind rec)

  pub added_comes : (recs behind : List Record) → Comes (recs ++ behind) (added recs behind)
  added_comes recs [] = subst (Comes (recs ++ [])) (append-nil recs) (comes_itself (recs ++ []))
  added_comes recs (rec ∷ behind) = comes_on (recs ++ rec ∷ behind) (add recs rec ++ behind) (added recs (rec ∷ behind)) (add_comes recs behind rec) (added_comes (add recs rec) behind)

  pub there_behind : (front recs : List Record) → There (front ++ recs) → There recs
  there_behind [] recs t = t
  there_behind (rec ∷ front) recs t = there_behind front recs t.1

  -- where the only record of an object besides its writes makes it, it is there
  pub stands_there : (dir f : Fid) (recs : List Record) → OnlyMade f recs → any_record (makes_in dir f) recs ≡ true
      → There recs → map.get parents f ≡ Some dir
  stands_there dir f [] only makes t = absurd (false≢true makes)
  stands_there dir f (rec ∷ recs) only makes t = ⊎_elim
      (λ (a : makes_in dir f rec.op ≡ true). (t.0 dir f a).there (none_unbinds f recs only.1))
      (λ (b : any_record (makes_in dir f) recs ≡ true). stands_there dir f recs only.1 b t.1)
      (or_cases (makes_in dir f rec.op) (any_record (makes_in dir f) recs) makes)

-- ---- other parents

-- what stays there with other parents
pub same_places : (volume : ℕ) (parents later : Parents) (recs : List Record)
    → ((dir f : Fid) → any_record (makes_in dir f) recs ≡ true → f.volume ≡ volume → map.get parents f ≡ Some dir
    → map.get later f ≡ Some dir)
    → StayThere volume parents recs → StayThere volume later recs
same_places volume parents later [] stays t = tt
same_places volume parents later (rec ∷ recs) stays t = (
  λ dir f m. (
      let at = t.0 dir f m in
      record { within = at.within; once = at.once; there = λ e. stays dir f (or_left (makes_in dir f rec.op) _ m) at.within (at.there e) }),
  same_places volume parents later recs (λ dir f m. stays dir f (or_right (makes_in dir f rec.op) _ m)) t.1,
)

again_behind : (f : Fid) (recs : List Record) (rec : Record) → is_made_again f recs ≡ false
    → (any_record (unbinds f) recs ≡ false → creates f rec.op ≡ false)
    → is_made_again f (recs ++ rec ∷ []) ≡ false
again_behind f [] rec once none = ap (λ b. b || (not (unbinds f rec.op) && false)) (none refl)
    ∙ neither (not (unbinds f rec.op))
  where
    neither : (b : Bool) → (b && false) ≡ false
    neither true = refl
    neither false = refl
again_behind f (first ∷ recs) rec once none = by (creates f first.op) (unbinds f first.op) once none (again_behind f recs rec)
  where
    by : (c u : Bool) → (c || (not u && is_made_again f recs)) ≡ false
        → ((u || any_record (unbinds f) recs) ≡ false → creates f rec.op ≡ false)
        → (is_made_again f recs ≡ false → (any_record (unbinds f) recs ≡ false → creates f rec.op ≡ false)
        → is_made_again f (recs ++ rec ∷ []) ≡ false)
        → (c || (not u && is_made_again f (recs ++ rec ∷ []))) ≡ false
    by true u once none more = once
    by false true once none more = refl
    by false false once none more = more once none

any_last : (test : Op → Bool) (recs : List Record) (rec : Record) → any_record test (recs ++ rec ∷ []) ≡ false
    → (any_record test recs ≡ false) × (test rec.op ≡ false)
any_last test [] rec e = (refl, (or_parts (test rec.op) false e).0)
any_last test (first ∷ recs) rec e =
    let parts = or_parts (test first.op) (any_record test (recs ++ rec ∷ [])) e in
    let more = any_last test recs rec parts.1 in
    (ap (λ b. b || any_record test recs) parts.0 ∙ more.0, more.1)

-- a record behind others, and the parents behind it
pub more_places : (volume : ℕ) (parents later : Parents) (recs : List Record) (rec : Record)
    → ((dir f : Fid) → any_record (makes_in dir f) recs ≡ true → f.volume ≡ volume → map.get parents f ≡ Some dir
    → unbinds f rec.op ≡ false → (map.get later f ≡ Some dir) × (creates f rec.op ≡ false))
    → ((dir f : Fid) → makes_in dir f rec.op ≡ true → (f.volume ≡ volume) × (map.get later f ≡ Some dir))
    → StayThere volume parents recs → StayThere volume later (recs ++ rec ∷ [])
more_places volume parents later [] rec stays new t = (λ dir f m. record { within = (new dir f m).0; once = refl; there = λ e. (new dir f m).1 }, tt)
more_places volume parents later (first ∷ recs) rec stays new t = (
  λ dir f m. (
      let at = t.0 dir f m in
      let still = stays dir f (or_left (makes_in dir f first.op) _ m) at.within in
      record {
        within = at.within;
        once = again_behind f recs rec at.once (λ e. elim (cases_Bool (unbinds f rec.op)) [
          | inl takes ↦ unbinds_makes_none f rec.op takes
          | inr leaves ↦ (still (at.there e) leaves).1
        ]);
        there = λ e. (let parts = any_last (unbinds f) recs rec e in (still (at.there parts.0) parts.1).0);
      }),
  more_places volume parents later recs rec (λ dir f m. stays dir f (or_right (makes_in dir f first.op) _ m)) new t.1,
)
