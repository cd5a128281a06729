-- The two areas of a disk, of which the selector names one.
use Rattle.std.proofs.Common.{◌≡◌, ◌⊎◌, inl, inr, ⊎_elim, ℕ, suc, ◌+◌, ◌-◌, ◌*◌, ◌%◌, ◌<◌, ◌≤◌, List, [], ◌∷◌, ◌++◌, length, get_or, take, drop, refl, sym, ◌∙◌, ap, subst, arith, append_assoc, length-append}
use Rattle.std.proofs.lemmas.List.{append-nil, length-take, length-drop, get_or-take, take_at, drop_at, drop-take, drop-drop}
use Rattle.std.proofs.lemmas.Bool.{cases_eq}
use Rattle.std.specs.Int.{w32}
use Rattle.coda_disk.specs.Told.{Torn, put}
use Rattle.coda_journal.specs.Entries.{body, framed, Holds}
use Rattle.coda_journal.specs.Header.{area_bytes}
use Rattle.coda_journal.specs.Image.{IsMade, HasHeader, start_of, Reads}
use Rattle.coda_journal.specs.declared.header.Header.{Header}
use Rattle.coda_journal.proofs.Fronts.{take_past}

-- One area of this size begins behind the header, and the other one behind it.
abbrev pub AreBeside : ℕ → ℕ → ℕ → Type 0
AreBeside size a b = ((a ≡ 64) × (b ≡ 64 + size)) ⊎ ((a ≡ 64 + size) × (b ≡ 64))

module _ (header : Header) where
  -- the area that begins there has this list
  abbrev pub HoldsFrom : ℕ → List ℕ → List (List ℕ) → Type 0
  HoldsFrom s image list = Holds w32 (take (area_bytes header) (drop s image)) list

  -- a disk that was made with this header, of which this area has this list, whatever the selector names
  pub record HasListAt (image : List ℕ) (s : ℕ) (list : List (List ℕ)) : Type 0 where
    pub made : IsMade image
    pub same : HasHeader header image
    pub inside : 64 ≤ s
    pub holds : HoldsFrom s image list

  pub reads_of : (image : List ℕ) (s : ℕ) (list : List (List ℕ)) → start_of header image ≡ s
      → HasListAt image s list → Reads header image list
  reads_of image s list is n =
      record { made = n.made; same = n.same; entries = subst (λ (k : ℕ). HoldsFrom k image list) (sym is) n.holds }

  pub list_at_of : (image : List ℕ) (s : ℕ) (list : List (List ℕ)) → s ≡ start_of header image
      → Reads header image list → HasListAt image s list
  list_at_of image s list is r = record {
    made = r.made;
    same = r.same;
    inside = omega (arith, is);
    holds = subst (λ (k : ℕ). HoldsFrom k image list) (sym is) r.entries;
  }

  drop_two : (s x y : ℕ) (l : List ℕ) → 2 ≤ s → drop s (x ∷ y ∷ l) ≡ drop (s - 2) l
  drop_two s x y l le =
      let back : 2 + (s - 2) ≡ s = omega (arith, le) in
      ap (λ (k : ℕ). drop k (x ∷ y ∷ l)) (sym back) ∙ sym (drop-drop (s - 2) 2 (x ∷ y ∷ l))

  -- Another selector leaves each area as it is.
  pub other_selector : (x y z : ℕ) (l : List ℕ) (s : ℕ) (list : List (List ℕ)) → HasListAt (x ∷ z ∷ l) s list
      → HasListAt (x ∷ y ∷ l) s list
  other_selector x y z l s list n =
      let two : 2 ≤ s = omega (arith, n.inside) in
      record {
        made = record { size = omega (arith, n.made.size); gate = n.made.gate };
        same = n.same;
        inside = n.inside;
        holds = subst (λ (m : List ℕ). Holds w32 (take (area_bytes header) m) list)
            (drop_two s x z l two ∙ sym (drop_two s x y l two)) n.holds;
      }

  -- What begins with an entry and a closed gate holds that entry alone.
  pub one_holds : (p more : List ℕ) → length (framed w32 p) ≤ area_bytes header
      → Holds w32 (take (area_bytes header) (framed w32 p ++ more)) (p ∷ [])
  one_holds p more le =
      let size = area_bytes header in
      let front = 1 ∷ body w32 p ++ [] in
      let short : length front < size =
      omega (arith, le, length-append (body w32 p) [], length-append (body w32 p) (0 ∷ [])) in
      record {
        gate = 0;
        rest = take (size - (length front + 1)) more;
        is = ap (λ (l : List ℕ). take size (1 ∷ l)) (append_assoc (body w32 p) (0 ∷ []) more
            ∙ ap (λ (l : List ℕ). l ++ 0 ∷ more) (sym (append-nil (body w32 p))))
            ∙ take_past size front 0 more short;
        shut = omega arith;
      }

  -- two images whose first 64 bytes are the same
  module _ (c image : List ℕ) (is : take 64 c ≡ take 64 image) where
    first_same : (k : ℕ) → suc k ≤ 64 → get_or c k 0 ≡ get_or image k 0
    first_same k lt =
        sym (get_or-take 64 c k 0 lt) ∙ ap (λ (l : List ℕ). get_or l k 0) is ∙ get_or-take 64 image k 0 lt

    pub made_same : length image ≤ length c → IsMade image → IsMade c
    made_same le made =
        record { size = omega (arith, le, made.size); gate = first_same 0 (omega arith) ∙ made.gate }

    pub header_same : HasHeader header image → HasHeader header c
    header_same same =
        sym (drop-take 2 62 c) ∙ ap (λ (l : List ℕ). drop 2 l) is ∙ drop-take 2 62 image ∙ same

    pub start_same : start_of header c ≡ start_of header image
    start_same = ap (λ (b : ℕ). 64 + b % 2 * area_bytes header) (first_same 1 (omega arith))

  -- Any selector names one of the two areas.
  module _ (a b y : ℕ) (beside : AreBeside (area_bytes header) a b) where
    abbrev named : ℕ
    named = 64 + y % 2 * area_bytes header

    even : y % 2 ≡ 0 → (named ≡ a) ⊎ (named ≡ b)
    even e =
        let is : named ≡ 64 + 0 * area_bytes header = ap (λ (k : ℕ). 64 + k * area_bytes header) e in
        ⊎_elim (λ w. inl (omega (arith, is, w.0))) (λ w. inr (omega (arith, is, w.1))) beside

    odd : y % 2 ≡ 1 → (named ≡ a) ⊎ (named ≡ b)
    odd e =
        let is : named ≡ 64 + 1 * area_bytes header = ap (λ (k : ℕ). 64 + k * area_bytes header) e in
        ⊎_elim (λ w. inr (omega (arith, is, w.1))) (λ w. inl (omega (arith, is, w.0))) beside

    pub one_of_two : (64 + y % 2 * area_bytes header ≡ a) ⊎ (64 + y % 2 * area_bytes header ≡ b)
    one_of_two = elim (cases_eq (y % 2) 0) [ inl e ↦ even e | inr e ↦ odd (omega (arith, e)) ]

pub two_first : (l : List ℕ) → 2 ≤ length l → l ≡ get_or l 0 0 ∷ get_or l 1 0 ∷ drop 2 l
two_first [] le = absurd (omega (arith, le))
two_first (x ∷ []) le = absurd (omega (arith, le))
two_first (x ∷ y ∷ l) le = refl

-- A whole write is one of those that a crash may leave.
pub torn_whole : (at : ℕ) (bytes old : List ℕ) → at ≤ length old → Torn at (length bytes) old (put old at bytes)
torn_whole at bytes old le =
    let front = take at old in
    let rest = drop (at + length bytes) old in
    let short : length front ≡ at = omega (arith, length-take at old) in
    let both : length (front ++ bytes) ≡ at + length bytes = omega (arith, short, length-append front bytes) in
    let all : length (front ++ bytes ++ rest) ≡ at + length bytes + length rest =
    omega (arith, both, length-append (front ++ bytes) rest) in
    let left = length-drop (at + length bytes) old in
    record {
      before = ap (λ (l : List ℕ). take at l) (append_assoc front bytes rest) ∙ take_at front (bytes ++ rest) at short;
      after = drop_at (front ++ bytes) rest (at + length bytes) both;
      no_shorter = omega (arith, all, left);
      no_longer = omega (arith, all, left);
    }
