-- What is known of files and links that all replicas hold.
use Rattle.std.proofs.Common.{◌≡◌, ◌<◌, ◌+◌, ℕ, zero, suc, arith, Bool, true, false, not, List, [], ◌∷◌, ◌++◌, Option, None, IsTrue, length, get_or, set, reverse, refl, sym, ap, ◌∙◌, subst, ◌⊎◌, inl, inr, ⊎_elim, ◌&&◌, ◌||◌, Bor, option_copied, map, take, drop}
use Rattle.std.specs.FinMap as finmap
use Rattle.std.proofs.Math.Seq.{drop-cons}
use Rattle.std.proofs.lemmas.Bool.{true≢false}
use Rattle.std.proofs.lemmas.List.{length-map, reverse-append}
use Rattle.std.proofs.lemmas.Slice.Zip.{all_zipped_more}
use Rattle.coda_fid.specs.Fid.{same_fid}
use Rattle.coda_fid.specs.declared.fid.Fid.{Fid}
use Rattle.coda_fid.proofs.Fids.{same_fid_is}
use Rattle.coda_tree.specs.declared.node.NodeKind.{NodeKind}
use Rattle.coda_tree.specs.declared.node.NodeKind.TheVariants.{File, Link, Dir}
use Rattle.coda_reslog.specs.declared.change.Held.{Held}
use Rattle.coda_resolve.specs.declared.part.Renewals.{Renewals}
use Rattle.coda_resolve.specs.declared.reading.Sight.{Sight}
use Rattle.coda_record.specs.declared.view.View.{View}
use Rattle.coda_resolve.specs.Copies.{Copies}
use Rattle.coda_resolve.specs.Settling.{Fate, Same, Marked, Gone}
use Rattle.coda_resolve.specs.Settled.{is_dir}
use Rattle.coda_resolve.specs.Resolution.{Objects, Replicas, copies_at}
use Rattle.coda_resolve.specs.Outcome.{next_up, mark_by}
use Rattle.coda_resolve.specs.Changes.{is_among}
use Rattle.coda_resolve.specs.Renewals.{AreRenewed}
use Rattle.coda_resolve.specs.Reading.{is_known, AreKnown, AreAllRenewed, IsNextRead}
use Rattle.coda_resolve.specs.Survey.{StaysAlike, is_plain, IsKnown, IsPlain}
use Rattle.coda_resolve.specs.Views.{objects_of, replicas_of}
use Rattle.coda_resolve.proofs.MergedNames.{any_append}
use Rattle.coda_resolve.proofs.Renewing.{or_cases, among_before, among_cases, among_here, front_of, none_renewed}
use Rattle.coda_resolve.proofs.Stack.{file_next, link_next}

-- ---- one object

pub known_alike : (views : Replicas) (changed : List Fid) (f : Fid) (s : StaysAlike views f) → is_dir s.held.node.kind ≡ false → IsKnown views changed f
known_alike views changed f s leaf = record {
  plain = ap is_plain s.fate ∙ ap not leaf;
  stays = λ n. s;
}

-- a file or link binds nothing
pub plain_next : (fate : Fate) → is_plain fate ≡ true → next_up fate ≡ []
plain_next (Same held) e = by held.node.kind refl
  where
    by : (k : NodeKind) → held.node.kind ≡ k → next_up (Same held) ≡ []
    by (File content) is = file_next (Same held) held content refl is
    by (Link target) is = link_next (Same held) held target refl is
    by (Dir entries) is = absurd (true≢false (sym e ∙ ap (λ k. not (is_dir k)) is))
plain_next (Marked why) e = refl
plain_next Gone e = refl

-- and isn't marked
pub plain_mark : (copies : Copies) (f : Fid) (fate : Fate) → is_plain fate ≡ true → mark_by copies f fate ≡ None
plain_mark copies f (Same held) e = refl
plain_mark copies f (Marked why) e = absurd (true≢false (sym e))
plain_mark copies f Gone e = refl

-- ---- one object more

pub none_read : (views : List View) (f : Fid) (changed : List Fid) (renewals : List Renewals) (known : Bool) → (IsTrue known → IsKnown (replicas_of views) changed f) → IsNextRead views f known changed changed renewals renewals
none_read views f changed renewals known k = record {
  known = k;
  before = λ g e. e;
  plain = λ p. p;
  renewed = λ r. r;
}

pub one_read : (views : List View) (f : Fid) (old new : List Fid) (was now : List Renewals) → new ≡ old ++ f ∷ [] → IsPlain (replicas_of views) f → ((objects : List Fid) → AreAllRenewed (replicas_of views) views objects was → AreAllRenewed (replicas_of views) views (objects ++ f ∷ []) now) → IsNextRead views f true old new was now
one_read views f old new was now is p r = record {
  known = λ t. record { plain = p.plain; stays = λ n. absurd (true≢false (sym here ∙ n)) };
  before = λ g e. ap (λ fids. is_among fids g) is ∙ among_before old f g e;
  plain = λ are g e. ⊎_elim (λ a. are g a) (λ same. subst (IsPlain (replicas_of views)) (sym same) p) (among_cases old f g (ap (λ fids. is_among fids g) (sym is) ∙ e));
  renewed = λ are. subst (λ fids. AreAllRenewed (replicas_of views) views fids now) (sym is) (r old are);
}
  where
    here : is_among new f ≡ true
    here = ap (λ fids. is_among fids f) is ∙ among_here old f f refl

sights_more : (sights : List Sight) (sight : Sight) (g : Fid) → is_known (sights ++ sight ∷ []) g ≡ true → (is_known sights g ≡ true) ⊎ ((sight.known ≡ true) × (g ≡ sight.fid))
sights_more sights sight g e = ⊎_elim (λ h. inl h) (λ h. inr (last sight.known refl h)) (or_cases (is_known sights g) (is_known (sight ∷ []) g) (sym (any_append (λ s. s.known && same_fid g s.fid) sights (sight ∷ [])) ∙ e))
  where
    last : (b : Bool) → sight.known ≡ b → is_known (sight ∷ []) g ≡ true → (sight.known ≡ true) × (g ≡ sight.fid)
    last true is h = (is, ⊎_elim (λ s. same_fid_is g sight.fid s) (λ no. absurd (true≢false (sym no))) (or_cases (same_fid g sight.fid) false (ap (λ b. (b && same_fid g sight.fid) || false) (sym is) ∙ h)))
    last false is h = absurd (true≢false (sym h ∙ ap (λ b. (b && same_fid g sight.fid) || false) is))

pub known_read : (views : List View) (f : Fid) (known : Bool) (old new : List Fid) (was now : List Renewals) (sights : List Sight) → AreKnown (replicas_of views) old sights → IsNextRead views f known old new was now → AreKnown (replicas_of views) new (sights ++ record { fid = f; known = known } ∷ [])
known_read views f known old new was now sights are next = record {
  known = λ g e. ⊎_elim (λ h. earlier g (are.known g h)) (λ h. subst (IsKnown (replicas_of views) new) (sym h.1) (next.known h.0)) (sights_more sights (record { fid = f; known = known }) g e);
  plain = next.plain are.plain;
}
  where
    not_before : (g : Fid) → is_among new g ≡ false → is_among old g ≡ false
    not_before g n = by (is_among old g) refl
      where
        by : (b : Bool) → is_among old g ≡ b → b ≡ false
        by true e = absurd (true≢false (sym (next.before g e) ∙ n))
        by false e = refl

    earlier : (g : Fid) → IsKnown (replicas_of views) old g → IsKnown (replicas_of views) new g
    earlier g k = record { plain = k.plain; stays = λ n. k.stays (not_before g n) }

pub none_known : (views : Replicas) → AreKnown views [] []
none_known views = record {
  known = λ g e. absurd (true≢false (sym e));
  plain = λ g e. absurd (true≢false (sym e));
}

-- ---- what each view holds anew

-- the first so many views hold anew one object more
abbrev pub AreUpTo : Replicas → List Fid → Fid → ℕ → List View → List Renewals → Type 0
AreUpTo replicas objects f n [] [] = Unit {0}
AreUpTo replicas objects f n [] (own ∷ renewals) = ⊥
AreUpTo replicas objects f n (view ∷ views) [] = ⊥
AreUpTo replicas objects f zero (view ∷ views) (own ∷ renewals) = AreRenewed replicas (objects_of view) objects own.held own.touched.items × AreUpTo replicas objects f zero views renewals
AreUpTo replicas objects f (suc n) (view ∷ views) (own ∷ renewals) = AreRenewed replicas (objects_of view) (objects ++ f ∷ []) own.held own.touched.items × AreUpTo replicas objects f n views renewals

module _ (replicas : Replicas) (objects : List Fid) (f : Fid) where
  pub up_to_none : (views : List View) (renewals : List Renewals) → AreAllRenewed replicas views objects renewals → AreUpTo replicas objects f 0 views renewals
  up_to_none [] [] are = tt
  up_to_none [] (own ∷ renewals) are = absurd are
  up_to_none (view ∷ views) [] are = absurd are
  up_to_none (view ∷ views) (own ∷ renewals) are = (are.0, up_to_none views renewals are.1)

  pub up_to_all : (views : List View) (renewals : List Renewals) (n : ℕ) → n ≡ length views → AreUpTo replicas objects f n views renewals → AreAllRenewed replicas views (objects ++ f ∷ []) renewals
  up_to_all [] [] n is are = tt
  up_to_all [] (own ∷ renewals) n is are = absurd are
  up_to_all (view ∷ views) [] n is are = absurd are
  up_to_all (view ∷ views) (own ∷ renewals) zero is are = absurd (omega (arith, is))
  up_to_all (view ∷ views) (own ∷ renewals) (suc n) is are = (are.0, up_to_all views renewals n (omega (arith, is)) are.1)

  -- one view more
  pub up_to_more : (views : List View) (renewals : List Renewals) (n : ℕ) (own : Renewals) → AreUpTo replicas objects f n views renewals → n < length views → ((view : View) (was : Renewals) → view ≡ get_or views n view → was ≡ get_or renewals n was → AreRenewed replicas (objects_of view) objects was.held was.touched.items → AreRenewed replicas (objects_of view) (objects ++ f ∷ []) own.held own.touched.items) → AreUpTo replicas objects f (suc n) views (set renewals n own)
  up_to_more [] renewals n own are lt h = absurd (omega arith)
  up_to_more (view ∷ views) [] n own are lt h = absurd are
  up_to_more (view ∷ views) (was ∷ renewals) zero own are lt h = (h view was refl refl are.0, are.1)
  up_to_more (view ∷ views) (was ∷ renewals) (suc n) own are lt h = (are.0, up_to_more views renewals n own are.1 (omega arith) h)

-- a view's copy
pub copy_here : (f : Fid) (views : List View) (n : ℕ) (view : View) → n < length views → view ≡ get_or views n view → get_or (copies_at (replicas_of views) f) n None ≡ finmap.get (objects_of view) f
copy_here f [] n view lt is = absurd (omega arith)
copy_here f (v ∷ views) zero view lt is = ap (λ w. finmap.get (objects_of w) f) (sym is)
copy_here f (v ∷ views) (suc n) view lt is = copy_here f views n view (omega arith) is

pub all_long : (replicas : Replicas) (views : List View) (objects : List Fid) (renewals : List Renewals) → AreAllRenewed replicas views objects renewals → length renewals ≡ length views
all_long replicas [] objects [] are = refl
all_long replicas [] objects (own ∷ renewals) are = absurd are
all_long replicas (view ∷ views) objects [] are = absurd are
all_long replicas (view ∷ views) objects (own ∷ renewals) are = ap suc (all_long replicas views objects renewals are.1)

pub mapped_here : {A B : Type 0} (g : A → B) (xs : List A) (i : ℕ) (x : A) (d : B) → i < length xs → x ≡ get_or xs i x → g x ≡ get_or (map g xs) i d
mapped_here g [] i x d lt is = absurd (omega arith)
mapped_here g (y ∷ xs) zero x d lt is = ap g is
mapped_here g (y ∷ xs) (suc i) x d lt is = mapped_here g xs i x d (omega arith) is

pub long_copies : (f : Fid) (views : List View) (copies : List (Option (Bor Held))) → map option_copied copies ≡ copies_at (replicas_of views) f → length copies ≡ length views
long_copies f views copies is = sym (length-map copies option_copied) ∙ ap length is ∙ length-map (replicas_of views) (λ (v : Objects). finmap.get v f) ∙ length-map views objects_of

pub set_long : {A : Type 0} (xs : List A) (i : ℕ) (x : A) → length (set xs i x) ≡ length xs
set_long [] i x = refl
set_long (y ∷ xs) zero x = refl
set_long (y ∷ xs) (suc i) x = ap suc (set_long xs i x)

pub none_more : (replicas : Replicas) (views : List View) (i : ℕ) (view : View) (renewals new : List Renewals) (own : Renewals) → i < length views → view ≡ get_or views i view → own.held.entries ≡ [] → own.touched.items ≡ [] → new ≡ renewals ++ own ∷ [] → AreAllRenewed replicas (take i views) [] renewals → AreAllRenewed replicas (take (i + 1) views) [] new
none_more replicas views i view renewals new own lt is entries touched added are =
    subst (λ rs. AreAllRenewed replicas (take (i + 1) views) [] rs) (sym added)
    (subst (λ vs. AreAllRenewed replicas vs [] (renewals ++ own ∷ [])) (sym (front_of views i view lt is))
    (all_zipped_more (λ v (r : Renewals). AreRenewed replicas (objects_of v) [] r.held r.touched.items) (take i views) renewals view own are (none_renewed replicas (objects_of view) own.held own.touched.items entries touched)))

-- the first view's comes last
pub left_more : (replicas : Replicas) (views : List View) (i : ℕ) (view : View) (objects : List Fid) (renewals rest : List Renewals) (own : Renewals) → i < length views → view ≡ get_or views i view → renewals ≡ rest ++ own ∷ [] → AreAllRenewed replicas (drop i views) objects (reverse renewals) → AreRenewed replicas (objects_of view) objects own.held own.touched.items × AreAllRenewed replicas (drop (i + 1) views) objects (reverse rest)
left_more replicas views i view objects renewals rest own lt at is are =
    let next : suc i ≡ i + 1 = omega arith in
    let back : reverse renewals ≡ own ∷ reverse rest = ap (λ l. reverse l) is ∙ reverse-append rest (own ∷ []) in
    let front : drop i views ≡ view ∷ drop (i + 1) views = drop-cons views i view lt ∙ (λ j. sym at j ∷ drop (next j) views) in
    let both : AreAllRenewed replicas (view ∷ drop (i + 1) views) objects (own ∷ reverse rest) = subst (λ vs. AreAllRenewed replicas vs objects (own ∷ reverse rest)) front (subst (λ rs. AreAllRenewed replicas (drop i views) objects rs) back are) in
    (both.0, both.1)
