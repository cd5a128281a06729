-- What stands before the closed gate.
use Rattle.std.proofs.Common.{◌≡◌, ◌≢◌, ◌⊎◌, inl, inr, ℕ, zero, suc, ◌+◌, ◌-◌, ◌*◌, ◌%◌, ◌<◌, ◌≤◌, List, [], ◌∷◌, ◌++◌, length, get_or, take, drop, refl, sym, ◌∙◌, ap, subst, arith, append_assoc, length-append, take-append-drop}
use Rattle.std.proofs.lemmas.List.{append-nil, length-take, length-drop, get_or-take, get_or-drop, get_or_append_left, get_or-append-add, take-take, take_at, take-append-le, drop-append-le, drop-take, drop_more, take_all, drop_all}
use Rattle.std.proofs.lemmas.Bool.{cases_eq}
use Rattle.std.specs.Int.{w32}
use Rattle.coda_journal.specs.Entries.{body, blocks}
use Rattle.coda_journal.specs.Header.{marks, area_bytes}
use Rattle.coda_journal.specs.Image.{IsMade, HasHeader, start_of, Reads}
use Rattle.coda_journal.specs.declared.header.Header.{Header}
use Rattle.coda_journal.proofs.ReadTo.{blocks-push}
use Rattle.coda_journal.proofs.Images.{length-marks}

-- a made disk of this header whose area has these entries and nothing else yet, with room for a gate
pub record IsFront (header : Header) (ps : List (List ℕ)) (front : List ℕ) : Type 0 where
  pub made : IsMade front
  pub same : HasHeader header front
  pub start : start_of header front ≤ length front
  pub is : drop (start_of header front) front ≡ blocks w32 ps
  pub room : length (blocks w32 ps) < area_bytes header

pub take_past : (n : ℕ) (xs : List ℕ) (y : ℕ) (ys : List ℕ) → length xs < n → take n (xs ++ y ∷ ys) ≡ xs ++ y ∷ take (n - (length xs + 1)) ys
take_past zero xs y ys lt = absurd (omega (arith, lt))
take_past (suc n) [] y ys lt = let e : suc n - (0 + 1) ≡ n = omega arith in ap (λ (k : ℕ). y ∷ take k ys) (sym e)
take_past (suc n) (x ∷ xs) y ys lt = let e : suc n - (length (x ∷ xs) + 1) ≡ n - (length xs + 1) = omega arith in ap (λ (l : List ℕ). x ∷ l) (take_past n xs y ys (omega (arith, lt)) ∙ ap (λ (k : ℕ). xs ++ y ∷ take k ys) (sym e))

module _ (header : Header) where
  module _ (front : List ℕ) (made : IsMade front) (more : List ℕ) where
    pub still_made : IsMade (front ++ more)
    still_made = record { size = omega (arith, made.size, length-append front more); gate = get_or_append_left front more 0 0 (omega (arith, made.size)) ∙ made.gate }

    pub still_same : HasHeader header front → HasHeader header (front ++ more)
    still_same same = ap (λ (l : List ℕ). take 62 l) (drop-append-le 2 front more (omega (arith, made.size))) ∙ take-append-le 62 (drop 2 front) more (omega (arith, made.size, length-drop 2 front)) ∙ same

    pub still_start : start_of header (front ++ more) ≡ start_of header front
    still_start = ap (λ (b : ℕ). 64 + b % 2 * area_bytes header) (get_or_append_left front more 0 1 (omega (arith, made.size)))

  -- the place of the gate
  pub gate_place : (ps : List (List ℕ)) (front : List ℕ) → IsFront header ps front → length front ≡ start_of header front + length (blocks w32 ps)
  gate_place ps front f = omega (arith, f.start, ap length f.is, length-drop (start_of header front) front)

  -- behind such a front any closed gate ends the list
  pub closes : (ps : List (List ℕ)) (front : List ℕ) (gate : ℕ) (rest : List ℕ) → IsFront header ps front → gate ≢ 1 → Reads header (front ++ gate ∷ rest) ps
  closes ps front gate rest f shut =
      let more = gate ∷ rest in
      let area = area_bytes header in
      record {
        made = still_made front f.made more;
        same = still_same front f.made more f.same;
        entries = record {
          gate = gate;
          rest = take (area - (length (blocks w32 ps) + 1)) rest;
          is = ap (λ (k : ℕ). take area (drop k (front ++ more))) (still_start front f.made more)
              ∙ ap (λ (l : List ℕ). take area l) (drop-append-le (start_of header front) front more f.start ∙ ap (λ (l : List ℕ). l ++ more) f.is)
              ∙ take_past area (blocks w32 ps) gate rest f.room;
          shut = shut;
        };
      }

  -- one more entry
  pub pushed : (ps : List (List ℕ)) (front p : List ℕ) → IsFront header ps front → length (blocks w32 ps) + (1 + length (body w32 p)) < area_bytes header → IsFront header (ps ++ p ∷ []) (front ++ 1 ∷ body w32 p)
  pushed ps front p f room =
      let more = 1 ∷ body w32 p in
      let all : blocks w32 ps ++ 1 ∷ body w32 p ≡ blocks w32 (ps ++ p ∷ []) =
      ap (λ (l : List ℕ). blocks w32 ps ++ 1 ∷ l) (sym (append-nil (body w32 p))) ∙ sym (blocks-push w32 ps p []) ∙ append-nil (blocks w32 (ps ++ p ∷ [])) in
      record {
        made = still_made front f.made more;
        same = still_same front f.made more f.same;
        start = omega (arith, f.start, still_start front f.made more, length-append front more);
        is = ap (λ (k : ℕ). drop k (front ++ more)) (still_start front f.made more) ∙ drop-append-le (start_of header front) front more f.start ∙ ap (λ (l : List ℕ). l ++ more) f.is ∙ all;
        room = omega (arith, room, ap length all, length-append (blocks w32 ps) more);
      }

  -- a whole entry behind any gate counts or it doesn't
  pub any_gate : (ps : List (List ℕ)) (front p : List ℕ) (gate : ℕ) (rest : List ℕ) → IsFront header ps front → length (blocks w32 ps) + (1 + length (body w32 p)) < area_bytes header
      → Reads header (front ++ gate ∷ (body w32 p ++ 0 ∷ rest)) ps ⊎ Reads header (front ++ gate ∷ (body w32 p ++ 0 ∷ rest)) (ps ++ p ∷ [])
  any_gate ps front p gate rest f room = elim (cases_eq gate 1) [
    | inl opened ↦ inr (subst (λ (l : List ℕ). Reads header l (ps ++ p ∷ []))
        (append_assoc front (1 ∷ body w32 p) (0 ∷ rest) ∙ ap (λ (g : ℕ). front ++ g ∷ (body w32 p ++ 0 ∷ rest)) (sym opened))
        (closes (ps ++ p ∷ []) (front ++ 1 ∷ body w32 p) 0 rest (pushed ps front p f room) (omega arith)))
    | inr shut ↦ inl (closes ps front gate (body w32 p ++ 0 ∷ rest) f shut)
  ]

  -- an image that reads as a list, at its gate
  pub record Opened (image : List ℕ) (ps : List (List ℕ)) : Type 0 where
    pub front : List ℕ
    pub gate : ℕ
    pub rest : List ℕ
    pub is : image ≡ front ++ gate ∷ rest
    pub shut : gate ≢ 1
    pub is_front : IsFront header ps front
    pub place : length front ≡ start_of header image + length (blocks w32 ps)

  module _ (image : List ℕ) (ps : List (List ℕ)) (r : Reads header image ps) where
    opened_sizes : (start_of header image + length (blocks w32 ps) < length image) × (length (blocks w32 ps) < area_bytes header)
    opened_sizes =
        let long = ap length r.entries.is in
        omega (arith, long, length-append (blocks w32 ps) (r.entries.gate ∷ r.entries.rest), length-take (area_bytes header) (drop (start_of header image) image), length-drop (start_of header image) image)

    module _ (n : ℕ) (at : n ≡ start_of header image + length (blocks w32 ps)) (inside : n < length image) (room : length (blocks w32 ps) < area_bytes header) where
      gate_is : get_or image n 0 ≡ r.entries.gate
      gate_is =
          let used = length (blocks w32 ps) in
          ap (λ (k : ℕ). get_or image k 0) at ∙ sym (get_or-drop (start_of header image) image used 0) ∙ sym (get_or-take (area_bytes header) (drop (start_of header image) image) used 0 room)
          ∙ ap (λ (l : List ℕ). get_or l used 0) r.entries.is
          ∙ ap (λ (k : ℕ). get_or (blocks w32 ps ++ r.entries.gate ∷ r.entries.rest) k 0) (omega arith) ∙ get_or-append-add (blocks w32 ps) (r.entries.gate ∷ r.entries.rest) 0 0

      front_made : IsMade (take n image)
      front_made = record { size = omega (arith, at, inside, length-take n image); gate = get_or-take n image 0 0 (omega (arith, at)) ∙ r.made.gate }

      front_same : HasHeader header (take n image)
      front_same =
          let back : 2 + (n - 2) ≡ n = omega (arith, at) in
          ap (λ (k : ℕ). take 62 (drop 2 (take k image))) (sym back) ∙ ap (λ (l : List ℕ). take 62 l) (drop-take 2 (n - 2) image) ∙ take-take 62 (n - 2) (drop 2 image) (omega (arith, at)) ∙ r.same

      front_start : start_of header (take n image) ≡ start_of header image
      front_start = ap (λ (b : ℕ). 64 + b % 2 * area_bytes header) (get_or-take n image 1 0 (omega (arith, at)))

      front_is : drop (start_of header (take n image)) (take n image) ≡ blocks w32 ps
      front_is =
          let st = start_of header image in
          let used = length (blocks w32 ps) in
          ap (λ (k : ℕ). drop k (take n image)) front_start ∙ ap (λ (k : ℕ). drop st (take k image)) at ∙ drop-take st used image
          ∙ sym (take-take used (area_bytes header) (drop st image) (omega (arith, room))) ∙ ap (λ (l : List ℕ). take used l) r.entries.is ∙ take_at (blocks w32 ps) (r.entries.gate ∷ r.entries.rest) used refl

      opened_at : Opened image ps
      opened_at = record {
        front = take n image;
        gate = r.entries.gate;
        rest = drop (n + 1) image;
        is = sym (take-append-drop n image) ∙ ap (λ (l : List ℕ). take n image ++ l) (drop_more image n 0 inside ∙ ap (λ (g : ℕ). g ∷ drop (n + 1) image) gate_is);
        shut = r.entries.shut;
        is_front = record { made = front_made; same = front_same; start = omega (arith, front_start, at, inside, length-take n image); is = front_is; room = room };
        place = omega (arith, at, inside, length-take n image);
      }

    pub opened : Opened image ps
    opened = opened_at (start_of header image + length (blocks w32 ps)) refl opened_sizes.0 opened_sizes.1

  -- a new disk
  pub new_front : 1 ≤ header.area → IsFront header [] (1 ∷ 0 ∷ marks header)
  new_front some = record {
    made = record { size = omega (arith, length-marks header); gate = refl };
    same = take-all-marks;
    start = omega (arith, length-marks header);
    is = ap (λ (k : ℕ). drop k (1 ∷ 0 ∷ marks header)) at_64 ∙ drop-all-marks;
    room = omega (arith, some);
  }
    where
      at_64 : start_of header (1 ∷ 0 ∷ marks header) ≡ 64
      at_64 = omega arith

      take-all-marks : take 62 (marks header) ≡ marks header
      take-all-marks = take_all 62 (marks header) (omega (arith, length-marks header))

      drop-all-marks : drop 64 (1 ∷ 0 ∷ marks header) ≡ []
      drop-all-marks = drop_all 64 (1 ∷ 0 ∷ marks header) (omega (arith, length-marks header))
