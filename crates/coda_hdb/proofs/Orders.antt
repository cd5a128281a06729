-- Lists of entries: what is put in, and what is left.
use Rattle.std.proofs.Common.{◌≡◌, ◌≤◌, ◌<◌, ℕ, Bool, true, false, not, cond, ◌&&◌, ◌||◌, ◌==◌, List, [], ◌∷◌, ◌++◌, map, length, slice_get, Some, zero, suc, ◌⊎◌, inl, inr, refl, sym, ap, subst, ◌∙◌, arith, length-append}
use Rattle.std.specs.Prelude.{nat_eq}
use Rattle.std.specs.Cmp.Lexicographic.{pointwise, same_text}
use Rattle.std.proofs.lemmas.Bool.{and_parts, and_from, eqb-true, eq-eqb, or_right}
use Rattle.std.proofs.lemmas.List.{length-map}
use Rattle.std.proofs.lemmas.List.Folds.{list_any-append}
use Rattle.coda_fid.specs.Path.{path_text, ArePathNames}
use Rattle.coda_fid.proofs.Paths.{names_from_text}
use Rattle.coda_hdb.specs.declared.entry.HdbEntry.{HdbEntry}
use Rattle.coda_hdb.specs.Database.{same_path, is_at, has_place, AreDistinct, put, without}
use Rattle.coda_hdb.specs.Laws.{DatabasesKeepTheirOrder, OnePlaceHasOnePath}

-- ---- tests of places
agree : (b c : Bool) → (b ≡ true → c ≡ true) → (c ≡ true → b ≡ true) → b ≡ c
agree true true f g = refl
agree true false f g = sym (f refl)
agree false true f g = g refl
agree false false f g = refl

text_itself : (xs : List ℕ) → pointwise nat_eq xs xs ≡ true
text_itself [] = refl
text_itself (x ∷ xs) = and_from (x == x) (pointwise nat_eq xs xs) (eq-eqb x x refl) (text_itself xs)

same_texts : (a b : List (List ℕ)) → same_path a b ≡ true → path_text a ≡ path_text b
same_texts a b h = same_text (path_text a) (path_text b) (sym h)

texts_same : (a b : List (List ℕ)) → path_text a ≡ path_text b → same_path a b ≡ true
texts_same a b e = ap (λ t. pointwise nat_eq (path_text a) t) (sym e) ∙ text_itself (path_text a)

pub one_place_has_one_path : OnePlaceHasOnePath
one_place_has_one_path a b p q = (
  λ h. names_from_text a b p.names q.names (same_texts a b h),
  λ e. texts_same a b (ap path_text e),
)

same_lists : (xs ys : List (List ℕ)) → pointwise (pointwise nat_eq) xs ys ≡ true → xs ≡ ys
same_lists [] [] h = refl
same_lists [] (y ∷ ys) h = absurd cc
same_lists (x ∷ xs) [] h = absurd cc
same_lists (x ∷ xs) (y ∷ ys) h =
    let parts = and_parts (pointwise nat_eq x y) (pointwise (pointwise nat_eq) xs ys) h in
    (λ i. same_text x y (sym parts.0) i ∷ same_lists xs ys parts.1 i)

names_themselves : (xs : List (List ℕ)) → pointwise (pointwise nat_eq) xs xs ≡ true
names_themselves [] = refl
names_themselves (x ∷ xs) = and_from (pointwise nat_eq x x) (pointwise (pointwise nat_eq) xs xs) (text_itself x) (names_themselves xs)

-- paths have one text just where their names are the same, one by one
pub names_as_texts : (a b : List (List ℕ)) → ArePathNames a → ArePathNames b → pointwise (pointwise nat_eq) a b ≡ same_path a b
names_as_texts a b p q = agree (pointwise (pointwise nat_eq) a b) (same_path a b)
    (λ h. texts_same a b (ap path_text (same_lists a b h)))
    (λ h. ap (λ n. pointwise (pointwise nat_eq) a n) (sym (names_from_text a b p.names q.names (same_texts a b h))) ∙ names_themselves a)

at_itself : (e : HdbEntry) → is_at e.volume e.path e ≡ true
at_itself e = and_from (e.volume == e.volume) (same_path e.path e.path) (eq-eqb e.volume e.volume refl) (text_itself (path_text e.path))

-- an entry's own place is the one that it was found at
pub alike : (volume : ℕ) (path : List (List ℕ)) (e : HdbEntry) → is_at volume path e ≡ true → (x : HdbEntry) → is_at e.volume e.path x ≡ is_at volume path x
alike volume path e h x =
    let parts = and_parts (volume == e.volume) (same_path path e.path) h in
    let text = same_texts path e.path parts.1 in
    (λ i. (sym (eqb-true volume e.volume parts.0) i == x.volume) && pointwise nat_eq (sym text i) (path_text x.path))

found_alike : (volume : ℕ) (path : List (List ℕ)) (e : HdbEntry) → is_at volume path e ≡ true → (es : List HdbEntry) → has_place es e.volume e.path ≡ has_place es volume path
found_alike volume path e h [] = refl
found_alike volume path e h (x ∷ es) = (λ i. alike volume path e h x i || found_alike volume path e h es i)

at_swap : (a b : HdbEntry) → is_at a.volume a.path b ≡ is_at b.volume b.path a
at_swap a b = agree (is_at a.volume a.path b) (is_at b.volume b.path a)
    (λ h. alike a.volume a.path b h a ∙ at_itself a)
    (λ h. alike b.volume b.path a h b ∙ at_itself b)

-- ---- putting

-- the first entry of the place becomes the entry, or it goes last
abbrev pub put_first : List HdbEntry → HdbEntry → List HdbEntry
put_first [] entry = entry ∷ []
put_first (e ∷ es) entry = cond (is_at entry.volume entry.path e) (entry ∷ es) (e ∷ put_first es entry)

abbrev changed : HdbEntry → HdbEntry → HdbEntry
changed entry e = cond (is_at entry.volume entry.path e) entry e

or_parts : (b c : Bool) → (b || c) ≡ false → (b ≡ false) × (c ≡ false)
or_parts true c h = absurd cc
or_parts false c h = (refl, h)

none_changed : (es : List HdbEntry) (entry : HdbEntry) → has_place es entry.volume entry.path ≡ false → map (changed entry) es ≡ es
none_changed [] entry h = refl
none_changed (e ∷ es) entry h =
    let parts = or_parts (is_at entry.volume entry.path e) (has_place es entry.volume entry.path) h in
    (λ i. cond (parts.0 i) entry e ∷ none_changed es entry parts.1 i)

put_new : (es : List HdbEntry) (entry : HdbEntry) → has_place es entry.volume entry.path ≡ false → put_first es entry ≡ es ++ entry ∷ []
put_new [] entry h = refl
put_new (e ∷ es) entry h =
    let parts = or_parts (is_at entry.volume entry.path e) (has_place es entry.volume entry.path) h in
    (λ i. cond (parts.0 i) (entry ∷ es) (e ∷ put_new es entry parts.1 i))

put_there : (es : List HdbEntry) (entry : HdbEntry) → AreDistinct es → has_place es entry.volume entry.path ≡ true → put_first es entry ≡ map (changed entry) es
put_there [] entry d h = absurd cc
put_there (e ∷ es) entry d h =
    elim (is_at entry.volume entry.path e) as (λ b. is_at entry.volume entry.path e ≡ b → (b || has_place es entry.volume entry.path) ≡ true → cond b (entry ∷ es) (e ∷ put_first es entry) ≡ cond b entry e ∷ map (changed entry) es) [
      | true ↦ λ is _. ap (λ l. entry ∷ l) (sym (none_changed es entry (sym (found_alike entry.volume entry.path e is es) ∙ d.0)))
      | false ↦ λ _ rest. ap (λ l. e ∷ l) (put_there es entry d.1 rest)
    ] refl h

pub put_is : (es : List HdbEntry) (entry : HdbEntry) → AreDistinct es → put_first es entry ≡ put es entry
put_is es entry d =
    elim (has_place es entry.volume entry.path) as (λ b. has_place es entry.volume entry.path ≡ b → put_first es entry ≡ cond b (map (changed entry) es) (es ++ entry ∷ [])) [
      | true ↦ λ h. put_there es entry d h
      | false ↦ λ h. put_new es entry h
    ] refl

-- no other place gets an entry
others : (es : List HdbEntry) (entry : HdbEntry) (volume : ℕ) (path : List (List ℕ)) → is_at volume path entry ≡ false → has_place es volume path ≡ false → has_place (put_first es entry) volume path ≡ false
others [] entry volume path far h = (λ i. far i || false)
others (e ∷ es) entry volume path far h =
    let parts = or_parts (is_at volume path e) (has_place es volume path) h in
    elim (is_at entry.volume entry.path e) as (λ b. has_place (cond b (entry ∷ es) (e ∷ put_first es entry)) volume path ≡ false) [
      | true ↦ (λ i. far i || parts.1 i)
      | false ↦ (λ i. parts.0 i || others es entry volume path far parts.1 i)
    ]

pub distinct_put : (es : List HdbEntry) (entry : HdbEntry) → AreDistinct es → AreDistinct (put_first es entry)
distinct_put [] entry d = (refl, tt)
distinct_put (e ∷ es) entry d =
    elim (is_at entry.volume entry.path e) as (λ b. is_at entry.volume entry.path e ≡ b → AreDistinct (cond b (entry ∷ es) (e ∷ put_first es entry))) [
      | true ↦ λ is. (sym (found_alike entry.volume entry.path e is es) ∙ d.0, d.1)
      | false ↦ λ is. (others es entry e.volume e.path (sym (at_swap entry e) ∙ is) d.0, distinct_put es entry d.1)
    ] refl

-- ---- taking out

abbrev pub take_first : List HdbEntry → ℕ → List (List ℕ) → List HdbEntry
take_first [] volume path = []
take_first (e ∷ es) volume path = cond (is_at volume path e) es (e ∷ take_first es volume path)

none_gone : (es : List HdbEntry) (volume : ℕ) (path : List (List ℕ)) → has_place es volume path ≡ false → without es volume path ≡ es
none_gone [] volume path h = refl
none_gone (e ∷ es) volume path h =
    let parts = or_parts (is_at volume path e) (has_place es volume path) h in
    (λ i. cond (not (parts.0 i)) (e ∷ none_gone es volume path parts.1 i) (none_gone es volume path parts.1 i))

pub take_is : (es : List HdbEntry) (volume : ℕ) (path : List (List ℕ)) → AreDistinct es → take_first es volume path ≡ without es volume path
take_is [] volume path d = refl
take_is (e ∷ es) volume path d =
    elim (is_at volume path e) as (λ b. is_at volume path e ≡ b → cond b es (e ∷ take_first es volume path) ≡ cond (not b) (e ∷ without es volume path) (without es volume path)) [
      | true ↦ λ is. sym (none_gone es volume path (sym (found_alike volume path e is es) ∙ d.0))
      | false ↦ λ _. ap (λ l. e ∷ l) (take_is es volume path d.1)
    ] refl

fewer : (es : List HdbEntry) (volume : ℕ) (path : List (List ℕ)) (w : ℕ) (q : List (List ℕ)) → has_place es w q ≡ false → has_place (take_first es volume path) w q ≡ false
fewer [] volume path w q h = refl
fewer (e ∷ es) volume path w q h =
    let parts = or_parts (is_at w q e) (has_place es w q) h in
    elim (is_at volume path e) as (λ b. has_place (cond b es (e ∷ take_first es volume path)) w q ≡ false) [
      | true ↦ parts.1
      | false ↦ (λ i. parts.0 i || fewer es volume path w q parts.1 i)
    ]

pub distinct_taken : (es : List HdbEntry) (volume : ℕ) (path : List (List ℕ)) → AreDistinct es → AreDistinct (take_first es volume path)
distinct_taken [] volume path d = tt
distinct_taken (e ∷ es) volume path d =
    elim (is_at volume path e) as (λ b. AreDistinct (cond b es (e ∷ take_first es volume path))) [
      | true ↦ d.1
      | false ↦ (fewer es volume path e.volume e.path d.0, distinct_taken es volume path d.1)
    ]

pub length-taken : (es : List HdbEntry) (volume : ℕ) (path : List (List ℕ)) → length (take_first es volume path) ≤ length es
length-taken [] volume path = omega arith
length-taken (e ∷ es) volume path =
    let rest = length-taken es volume path in
    elim (is_at volume path e) as (λ b. length (cond b es (e ∷ take_first es volume path)) ≤ length (e ∷ es)) [
      | true ↦ omega arith
      | false ↦ omega arith
    ]

-- ---- the laws

still : (es : List HdbEntry) (entry : HdbEntry) → has_place es entry.volume entry.path ≡ true → has_place (map (changed entry) es) entry.volume entry.path ≡ true
still [] entry h = h
still (e ∷ es) entry h =
    elim (is_at entry.volume entry.path e) as (λ b. is_at entry.volume entry.path e ≡ b → (b || has_place es entry.volume entry.path) ≡ true → (is_at entry.volume entry.path (cond b entry e) || has_place (map (changed entry) es) entry.volume entry.path) ≡ true) [
      | true ↦ λ _ _. (λ i. at_itself entry i || has_place (map (changed entry) es) entry.volume entry.path)
      | false ↦ λ _ rest. or_right (is_at entry.volume entry.path e) _ (still es entry rest)
    ] refl h

added : (es : List HdbEntry) (entry : HdbEntry) → has_place (put es entry) entry.volume entry.path ≡ true
added es entry =
    elim (has_place es entry.volume entry.path) as (λ b. has_place es entry.volume entry.path ≡ b → has_place (cond b (map (changed entry) es) (es ++ entry ∷ [])) entry.volume entry.path ≡ true) [
      | true ↦ λ h. still es entry h
      | false ↦ λ h. list_any-append (is_at entry.volume entry.path) es (entry ∷ []) ∙ or_right (has_place es entry.volume entry.path) (is_at entry.volume entry.path entry || false) (λ i. at_itself entry i || false)
    ] refl

gone : (es : List HdbEntry) (volume : ℕ) (path : List (List ℕ)) → has_place (without es volume path) volume path ≡ false
gone [] volume path = refl
gone (e ∷ es) volume path =
    elim (is_at volume path e) as (λ b. is_at volume path e ≡ b → has_place (cond (not b) (e ∷ without es volume path) (without es volume path)) volume path ≡ false) [
      | true ↦ λ _. gone es volume path
      | false ↦ λ h. (λ i. h i || gone es volume path i)
    ] refl

stays : (es : List HdbEntry) (entry : HdbEntry) → has_place es entry.volume entry.path ≡ true → length (put es entry) ≡ length es
stays es entry h = ap (λ b. length (cond b (map (changed entry) es) (es ++ entry ∷ []))) h ∙ length-map es (changed entry)

changed_at : (es : List HdbEntry) (entry e : HdbEntry) (index : ℕ) → slice_get es index ≡ Some e → slice_get (map (changed entry) es) index ≡ Some (changed entry e)
changed_at [] entry e index h = absurd cc
changed_at (x ∷ es) entry e zero h = let same : x ≡ e = cc in ap (λ y. Some (changed entry y)) same
changed_at (x ∷ es) entry e (suc index) h = changed_at es entry e index h

front_at : (es : List HdbEntry) (entry e : HdbEntry) (index : ℕ) → slice_get es index ≡ Some e → slice_get (es ++ entry ∷ []) index ≡ Some e
front_at [] entry e index h = absurd cc
front_at (x ∷ es) entry e zero h = h
front_at (x ∷ es) entry e (suc index) h = front_at es entry e index h

last_at : (es : List HdbEntry) (entry : HdbEntry) → slice_get (es ++ entry ∷ []) (length es) ≡ Some entry
last_at [] entry = refl
last_at (x ∷ es) entry = last_at es entry

found_there : (es : List HdbEntry) (volume : ℕ) (path : List (List ℕ)) (e : HdbEntry) (index : ℕ) → slice_get es index ≡ Some e → is_at volume path e ≡ true → has_place es volume path ≡ true
found_there [] volume path e index h is = absurd cc
found_there (x ∷ es) volume path e zero h is = let same : x ≡ e = cc in (λ i. is_at volume path (same i) || has_place es volume path) ∙ (λ i. is i || has_place es volume path)
found_there (x ∷ es) volume path e (suc index) h is = or_right (is_at volume path x) _ (found_there es volume path e index h is)

stay_at : (es : List HdbEntry) (entry e : HdbEntry) (index : ℕ) → slice_get es index ≡ Some e → is_at entry.volume entry.path e ≡ false → slice_get (put es entry) index ≡ Some e
stay_at es entry e index h far =
    elim (has_place es entry.volume entry.path) as (λ b. slice_get (cond b (map (changed entry) es) (es ++ entry ∷ [])) index ≡ Some e) [
      | true ↦ changed_at es entry e index h ∙ ap (λ b. Some (cond b entry e)) far
      | false ↦ front_at es entry e index h
    ]

take_over : (es : List HdbEntry) (entry e : HdbEntry) (index : ℕ) → slice_get es index ≡ Some e → is_at entry.volume entry.path e ≡ true → slice_get (put es entry) index ≡ Some entry
take_over es entry e index h is =
    ap (λ b. slice_get (cond b (map (changed entry) es) (es ++ entry ∷ [])) index) (found_there es entry.volume entry.path e index h is)
    ∙ changed_at es entry e index h ∙ ap (λ b. Some (cond b entry e)) is

go_last : (es : List HdbEntry) (entry : HdbEntry) → has_place es entry.volume entry.path ≡ false → slice_get (put es entry) (length es) ≡ Some entry
go_last es entry none = ap (λ b. slice_get (cond b (map (changed entry) es) (es ++ entry ∷ [])) (length es)) none ∙ last_at es entry

-- a place that is another's isn't this one's
elsewhere : (volume : ℕ) (path : List (List ℕ)) (e x : HdbEntry) → is_at volume path e ≡ false → is_at volume path x ≡ true → is_at e.volume e.path x ≡ false
elsewhere volume path e x far here = agree (is_at e.volume e.path x) false
    (λ h. sym far ∙ sym (alike volume path x here e) ∙ at_swap x e ∙ h) (λ h. absurd cc)

left : (es : List HdbEntry) (volume : ℕ) (path : List (List ℕ)) (e : HdbEntry) → is_at volume path e ≡ false → has_place (without es volume path) e.volume e.path ≡ has_place es e.volume e.path
left [] volume path e far = refl
left (x ∷ es) volume path e far =
    elim (is_at volume path x) as (λ b. is_at volume path x ≡ b → has_place (cond (not b) (x ∷ without es volume path) (without es volume path)) e.volume e.path ≡ (is_at e.volume e.path x || has_place es e.volume e.path)) [
      | true ↦ λ here. left es volume path e far ∙ ap (λ b. b || has_place es e.volume e.path) (sym (elsewhere volume path e x far here))
      | false ↦ λ _. ap (λ b. is_at e.volume e.path x || b) (left es volume path e far)
    ] refl

pub databases_keep_their_order : DatabasesKeepTheirOrder
databases_keep_their_order = record {
  others_stay = stay_at;
  takes_its_place = take_over;
  stays = stays;
  goes_last = go_last;
  added = added;
  gone = gone;
  others_are_left = left;
  distinct_put = λ es entry d. subst AreDistinct (put_is es entry d) (distinct_put es entry d);
}

pub few_put : (es : List HdbEntry) (entry : HdbEntry) → (has_place es entry.volume entry.path ≡ true) ⊎ (length es < 1024) → length es ≤ 1024 → length (put es entry) ≤ 1024
few_put es entry (inl there) few = let same = stays es entry there in omega arith
few_put es entry (inr room) few =
    elim (has_place es entry.volume entry.path) as (λ b. length (cond b (map (changed entry) es) (es ++ entry ∷ [])) ≤ 1024) [
      | true ↦ let same = length-map es (changed entry) in omega arith
      | false ↦ let more = length-append es (entry ∷ []) in omega arith
    ]
