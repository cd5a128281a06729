-- An image is not made, foreign at one place, or one list.
use Rattle.std.proofs.Common.{◌≡◌, ◌⊎◌, inl, inr, ℕ, suc, ◌+◌, ◌-◌, ◌^◌, ◌<◌, List, [], ◌∷◌, length, get_or, take, drop, refl, sym, ◌∙◌, ap, subst, arith}
use Rattle.std.proofs.lemmas.List.{length-take, length-drop, get_or-take, get_or-drop, take-take, get_or_past}
use Rattle.std.proofs.lemmas.Bool.{cases_eq, cases_lt}
use Rattle.std.specs.Int.{w32}
use Rattle.coda_journal.specs.Lengths.{IsBytes}
use Rattle.coda_journal.specs.Entries.{IsBroken}
use Rattle.coda_journal.specs.Header.{marks, area_bytes, IsHeader}
use Rattle.coda_journal.specs.Image.{IsMade, IsUnmade, HasHeader, start_of, area_of, Reads, ReadsAs, OtherHeader, IsForeign, Found, Unmade, Foreign, Entries, IsFound, FoundOnce}
use Rattle.coda_journal.specs.Heading.{DiffersFirst}
use Rattle.coda_journal.specs.declared.header.Header.{Header}
use Rattle.coda_journal.proofs.Lengths.{spells_4}
use Rattle.coda_journal.proofs.Found.{holds_once, holds_unbroken, broken_once, read}

later : (x : ℕ) (xs ys : List ℕ) → (xs ≡ ys) ⊎ ((place : ℕ) × DiffersFirst xs ys place) → (x ∷ xs ≡ x ∷ ys) ⊎ ((place : ℕ) × DiffersFirst (x ∷ xs) (x ∷ ys) place)
later x xs ys (inl same) = inl (ap (λ (l : List ℕ). x ∷ l) same)
later x xs ys (inr d) = inr (suc d.0, record { inside = omega (arith, d.1.inside); other = d.1.other; before = ap (λ (l : List ℕ). x ∷ l) d.1.before })

pub agree : (xs ys : List ℕ) → length xs ≡ length ys → (xs ≡ ys) ⊎ ((place : ℕ) × DiffersFirst xs ys place)
agree [] [] e = inl refl
agree [] (y ∷ ys) e = absurd (omega (arith, e))
agree (x ∷ xs) [] e = absurd (omega (arith, e))
agree (x ∷ xs) (y ∷ ys) e = elim (cases_eq x y) [
  | inl same ↦ subst (λ (z : ℕ). (x ∷ xs ≡ z ∷ ys) ⊎ ((place : ℕ) × DiffersFirst (x ∷ xs) (z ∷ ys) place)) same (later x xs ys (agree xs ys (omega (arith, e))))
  | inr other ↦ inr (0, record { inside = omega arith; other = other; before = refl })
]

pub length-marks : (h : Header) → length (marks h) ≡ 62
unfolding marks
length-marks h = refl

pub made_or_not : (image : List ℕ) → IsMade image ⊎ IsUnmade image
made_or_not image = elim (cases_lt (length image) 64) [
  | inl short ↦ inr (inl short)
  | inr size ↦ elim (cases_eq (get_or image 0 0) 1) [ inl gate ↦ inl (record { size = size; gate = gate }) | inr shut ↦ inr (inr shut) ]
]

pub made_made : (image : List ℕ) → IsMade image → IsUnmade image → ⊥
made_made image made (inl short) = omega (arith, short, made.size)
made_made image made (inr shut) = shut made.gate

module _ (header : Header) (image : List ℕ) where
  get_middle : (k : ℕ) → k < 62 → get_or (take 62 (drop 2 image)) k 0 ≡ get_or image (2 + k) 0
  get_middle k lt = get_or-take 62 (drop 2 image) k 0 lt ∙ get_or-drop 2 image k 0

  pub other_of : IsMade image → (place : ℕ) → DiffersFirst (take 62 (drop 2 image)) (marks header) place → OtherHeader header image (2 + place)
  other_of made place d =
      let lt : place < 62 = omega (arith, d.inside, length-take 62 (drop 2 image)) in
      let back : 2 + place - 2 ≡ place = omega arith in
      record {
        made = made;
        from = omega arith;
        to = omega (arith, lt);
        other = λ e. d.other (get_middle place lt ∙ e ∙ ap (λ (k : ℕ). get_or (marks header) k 0) back);
        before = ap (λ (k : ℕ). take k (drop 2 image)) back ∙ sym (take-take place 62 (drop 2 image) (omega (arith, lt))) ∙ d.before ∙ ap (λ (k : ℕ). take k (marks header)) (sym back);
      }

  pub not_same : (at : ℕ) → OtherHeader header image at → HasHeader header image → ⊥
  not_same at o same =
      let k = at - 2 in
      let lt : k < 62 = omega (arith, o.to, o.from) in
      let there : 2 + k ≡ at = omega (arith, o.from) in
      o.other (ap (λ (i : ℕ). get_or image i 0) (sym there) ∙ sym (get_middle k lt) ∙ ap (λ (l : List ℕ). get_or l k 0) same)

  not_before : (x y : ℕ) → OtherHeader header image x → OtherHeader header image y → x < y → ⊥
  not_before x y o p lt =
      let k = x - 2 in
      let m = y - 2 in
      let less : k < m = omega (arith, lt, o.from) in
      let there : 2 + k ≡ x = omega (arith, o.from) in
      o.other (ap (λ (i : ℕ). get_or image i 0) (sym there) ∙ sym (get_or-drop 2 image k 0) ∙ sym (get_or-take m (drop 2 image) k 0 less)
      ∙ ap (λ (l : List ℕ). get_or l k 0) p.before ∙ get_or-take m (marks header) k 0 less)

  other_once : (x y : ℕ) → OtherHeader header image x → OtherHeader header image y → x ≡ y
  other_once x y o p = elim (cases_lt x y) [
    | inl less ↦ absurd (not_before x y o p less)
    | inr more ↦ elim (cases_lt y x) [ inl less ↦ absurd (not_before y x p o less) | inr most ↦ omega (arith, more, most) ]
  ]

  module _ (ok : IsHeader header) where
    pub in_limit : length (area_of header image) < 2 ^ 32
    in_limit = omega (arith, ok.greatest, length-take (area_bytes header) (drop (start_of header image) image))

    pub foreign_once : (x y : ℕ) → IsForeign header image x → IsForeign header image y → x ≡ y
    foreign_once x y (inl o) (inl p) = other_once x y o p
    foreign_once x y (inl o) (inr b) = absurd (not_same x o b.same)
    foreign_once x y (inr b) (inl o) = absurd (not_same y o b.same)
    foreign_once x y (inr b) (inr d) = b.here ∙ ap (λ (k : ℕ). start_of header image + k) (broken_once w32 spells_4 (area_of header image) b.place d.place in_limit b.broken d.broken) ∙ sym d.here

    pub reads_once : (ps qs : List (List ℕ)) → Reads header image ps → Reads header image qs → ps ≡ qs
    reads_once ps qs r s = holds_once w32 spells_4 (area_of header image) ps qs in_limit r.entries s.entries

    pub reads_not_foreign : (ps : List (List ℕ)) (at : ℕ) → Reads header image ps → IsForeign header image at → ⊥
    reads_not_foreign ps at r (inl o) = not_same at o r.same
    reads_not_foreign ps at r (inr b) = holds_unbroken w32 spells_4 (area_of header image) ps b.place in_limit r.entries b.broken

    pub unmade_not_foreign : (at : ℕ) → IsUnmade image → IsForeign header image at → ⊥
    unmade_not_foreign at un (inl o) = made_made image o.made un
    unmade_not_foreign at un (inr b) = made_made image b.made un

    -- an image that stands for a list isn't foreign
    pub as_not_foreign : (ps : List (List ℕ)) (at : ℕ) → ReadsAs header ps image → IsForeign header image at → ⊥
    as_not_foreign ps at (inl un) f = unmade_not_foreign at un.0 f
    as_not_foreign ps at (inr r) f = reads_not_foreign ps at r f

    -- an image stands for one list
    pub as_once : (ps qs : List (List ℕ)) → ReadsAs header ps image → ReadsAs header qs image → ps ≡ qs
    as_once ps qs (inl un) (inl vn) = un.1 ∙ sym vn.1
    as_once ps qs (inl un) (inr s) = absurd (made_made image s.made un.0)
    as_once ps qs (inr r) (inl vn) = absurd (made_made image r.made vn.0)
    as_once ps qs (inr r) (inr s) = reads_once ps qs r s

    unmade_only : IsUnmade image → (other : Found) → IsFound header image other → other ≡ Unmade
    unmade_only un Unmade is = refl
    unmade_only un (Foreign at) is = absurd (unmade_not_foreign at un is)
    unmade_only un (Entries ps) is = absurd (made_made image is.made un)

    foreign_only : (at : ℕ) → IsForeign header image at → (other : Found) → IsFound header image other → other ≡ Foreign at
    foreign_only at f Unmade is = absurd (unmade_not_foreign at is f)
    foreign_only at f (Foreign x) is = ap Foreign (foreign_once x at is f)
    foreign_only at f (Entries ps) is = absurd (reads_not_foreign ps at is f)

    reads_only : (ps : List (List ℕ)) → Reads header image ps → (other : Found) → IsFound header image other → other ≡ Entries ps
    reads_only ps r Unmade is = absurd (made_made image r.made is)
    reads_only ps r (Foreign at) is = absurd (reads_not_foreign ps at r is)
    reads_only ps r (Entries qs) is = ap Entries (reads_once qs ps is r)

    bytes_of_area : IsBytes image → IsBytes (area_of header image)
    bytes_of_area small i = elim (cases_lt i (area_bytes header)) [
      | inl lt ↦ omega (arith, small (start_of header image + i), get_or-take (area_bytes header) (drop (start_of header image) image) i 0 lt, get_or-drop (start_of header image) image i 0)
      | inr ge ↦ omega (arith, get_or_past (area_of header image) i 0 (omega (arith, ge, length-take (area_bytes header) (drop (start_of header image) image))))
    ]

    -- each image is one of the three, and in one way
    pub found_once : IsBytes image → FoundOnce header image
    found_once small = elim (made_or_not image) [
      | inr un ↦ record { found = Unmade; is = un; only = unmade_only un }
      | inl made ↦ elim (agree (take 62 (drop 2 image)) (marks header) (omega (arith, made.size, length-take 62 (drop 2 image), length-drop 2 image, length-marks header))) [
        | inr d ↦ let o = other_of made d.0 d.1 in record { found = Foreign (2 + d.0); is = inl o; only = foreign_only (2 + d.0) (inl o) }
        | inl same ↦ elim (read w32 spells_4 (length (area_of header image)) (area_of header image) (omega arith) (bytes_of_area small)) [
          | inl h ↦ record { found = Entries h.0; is = record { made = made; same = same; entries = h.1 }; only = reads_only h.0 (record { made = made; same = same; entries = h.1 }) }
          | inr b ↦ foreign_here made same b.0 b.1
        ]
      ]
    ]
      where
        foreign_here : IsMade image → HasHeader header image → (place : ℕ) → IsBroken w32 (area_of header image) place → FoundOnce header image
        foreign_here made same place broken =
            let f : IsForeign header image (start_of header image + place) = inr (record { made = made; same = same; place = place; here = refl; broken = broken }) in
            record { found = Foreign (start_of header image + place); is = f; only = foreign_only (start_of header image + place) f }
