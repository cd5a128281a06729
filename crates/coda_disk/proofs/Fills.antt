-- What stands at each place of an image that a crash leaves by a choice above 1.
use Rattle.std.proofs.Common.{◌≡◌, ◌⊎◌, inl, inr, ℕ, zero, suc, ◌+◌, ◌-◌, ◌%◌, ◌<◌, ◌≤◌, Bool, true, false, ◌&&◌, ◌||◌, ◌==◌, leb, ltb, List, [], ◌∷◌, ◌++◌, length, get_or, take, drop, refl, sym, ◌∙◌, ap, subst, arith, length-append, length-take}
use Rattle.std.proofs.lemmas.List.{get_or_append_left, get_or-append_right, get_or-take, get_or-drop}
use Rattle.std.proofs.lemmas.Bool.{leb-true, leb-false, ltb-true, ltb-false, or_cases, or_parts, ne_eqb}
use Rattle.coda_disk.specs.Told.{put}
use Rattle.coda_disk.specs.Memory.{State, fresh, step, are_inside}
use Rattle.coda_disk.specs.Images.{filled, left_of, crashed_calls, image_of}
use Rattle.coda_disk.specs.Laws.{is_pending}
use Rattle.coda_disk.specs.declared.calls.Call.{Call}
use Rattle.coda_disk.specs.declared.calls.Call.TheVariants.{Write, Stopped, Resize}
use Rattle.coda_disk.proofs.Puts.{front_holds, back_holds, length-filled, put_long, length-put}
use Rattle.coda_disk.proofs.Spans.{torn_whole}

get_filled : (choice at count k : ℕ) → k < count → get_or (filled choice at count) k 0 ≡ (choice + (at + k)) % 256
get_filled choice at zero k lt = absurd (omega (arith, lt))
get_filled choice at (suc count) zero lt = ap (λ (n : ℕ). (choice + n) % 256) (omega arith)
get_filled choice at (suc count) (suc k) lt = get_filled choice (at + 1) count k (omega (arith, lt)) ∙ ap (λ (n : ℕ). (choice + n) % 256) (omega arith)

size_before : (s b : List ℕ) (at : ℕ) → at ≤ length s → length (take at s ++ b) ≡ at + length b
size_before s b at le = omega (arith, le, length-append (take at s) b, length-take at s)

get_inside : (s b : List ℕ) (at place : ℕ) → at ≤ length s → at ≤ place → place < at + length b → get_or (put s at b) place 0 ≡ get_or b (place - at) 0
get_inside s b at place le from to =
    get_or_append_left (take at s ++ b) (drop (at + length b) s) 0 place (omega (arith, to, size_before s b at le))
    ∙ get_or-append_right (take at s) b at place 0 (omega (arith, le, length-take at s)) from

get_before : (s b : List ℕ) (at place : ℕ) → at ≤ length s → place < at → get_or (put s at b) place 0 ≡ get_or s place 0
get_before s b at place le before =
    get_or_append_left (take at s ++ b) (drop (at + length b) s) 0 place (omega (arith, before, size_before s b at le))
    ∙ get_or_append_left (take at s) b 0 place (omega (arith, before, le, length-take at s))
    ∙ get_or-take at s place 0 before

get_behind : (s b : List ℕ) (at place : ℕ) → at ≤ length s → at + length b ≤ place → get_or (put s at b) place 0 ≡ get_or s place 0
get_behind s b at place le behind =
    get_or-append_right (take at s ++ b) (drop (at + length b) s) (at + length b) place 0 (size_before s b at le) behind
    ∙ get_or-drop (at + length b) s (place - (at + length b)) 0
    ∙ ap (λ (n : ℕ). get_or s n 0) (omega (arith, behind))

-- each place of the last image holds a filled byte where a write is pending there, and else what the first one had
abbrev Fills : ℕ → List ℕ → List ℕ → List Call → Type 0
Fills choice first last calls = (place : ℕ) → place < length last
    → (is_pending place calls ≡ true → get_or last place 0 ≡ (choice + place) % 256)
    × (is_pending place calls ≡ false → (place < length first) × (get_or last place 0 ≡ get_or first place 0))

no_bool : {P : Type 0} → false ≡ true → P
no_bool e = cc

abbrev covers : ℕ → List ℕ → ℕ → Bool
covers at bytes place = leb at place && ltb place (at + length bytes)

one_more : (choice at : ℕ) (bytes first last : List ℕ) (calls : List Call) → at ≤ length first → Fills choice (put first at (filled choice at (length bytes))) last calls
    → (place : ℕ) → place < length last
    → ((covers at bytes place || is_pending place calls) ≡ true → get_or last place 0 ≡ (choice + place) % 256)
    × ((covers at bytes place || is_pending place calls) ≡ false → (place < length first) × (get_or last place 0 ≡ get_or first place 0))
one_more choice at bytes first last calls le rest place lt =
    let here = rest place lt in (
      λ yes_pending. elim (or_cases (covers at bytes place) (is_pending place calls) yes_pending) [
        | inl covered ↦ by_rest (is_pending place calls) refl here covered
        | inr later ↦ here.0 later
      ],
      λ no_pending. let parts = or_parts (covers at bytes place) (is_pending place calls) no_pending in outside (here.1 parts.1) (and_false (leb at place) (ltb place (at + length bytes)) parts.0),
    )
  where
    new : List ℕ
    new = put first at (filled choice at (length bytes))

    size : length (filled choice at (length bytes)) ≡ length bytes
    size = length-filled choice at (length bytes)

    by_rest : (b : Bool) → is_pending place calls ≡ b → ((is_pending place calls ≡ true → get_or last place 0 ≡ (choice + place) % 256) × (is_pending place calls ≡ false → (place < length new) × (get_or last place 0 ≡ get_or new place 0)))
        → covers at bytes place ≡ true → get_or last place 0 ≡ (choice + place) % 256
    by_rest true is here covered = here.0 is
    by_rest false is here covered =
        let from = leb-true at place (front_holds (leb at place) (ltb place (at + length bytes)) covered) in
        let to = ltb-true place (at + length bytes) (back_holds (leb at place) (ltb place (at + length bytes)) covered) in
        (here.1 is).1 ∙ get_inside first (filled choice at (length bytes)) at place le from (omega (arith, to, size))
        ∙ get_filled choice at (length bytes) (place - at) (omega (arith, from, to)) ∙ ap (λ (n : ℕ). (choice + n) % 256) (omega (arith, from))

    and_false : (a b : Bool) → (a && b) ≡ false → (a ≡ false) ⊎ (b ≡ false)
    and_false false b e = inl refl
    and_false true b e = inr e

    outside : (place < length new) × (get_or last place 0 ≡ get_or new place 0) → (leb at place ≡ false) ⊎ (ltb place (at + length bytes) ≡ false) → (place < length first) × (get_or last place 0 ≡ get_or first place 0)
    outside kept (inl early) = let before = leb-false at place early in
        (omega (arith, before, le), kept.1 ∙ get_before first (filled choice at (length bytes)) at place le before)
    outside kept (inr late) = let behind = ltb-false place (at + length bytes) late in let torn = torn_whole at (filled choice at (length bytes)) first le in
        (omega (arith, behind, kept.0, torn.no_longer, size), kept.1 ∙ get_behind first (filled choice at (length bytes)) at place le (omega (arith, behind, size)))

pub fills : (choice : ℕ) → (choice == 1) ≡ false → (s : State) (image : List ℕ) (calls : List Call) → are_inside s calls ≡ true → length s.seen ≤ length image
    → Fills choice image (crashed_calls choice image calls) calls
fills choice above s image [] inside longer = λ place lt. (λ e. no_bool e, λ e. (lt, refl))
fills choice above s image (Write at bytes ∷ calls) inside longer =
    let le : at ≤ length s.seen = leb-true at (length s.seen) (front_holds (leb at (length s.seen)) (are_inside (step s (Write at bytes)) calls) inside) in
    let size = length-filled choice at (length bytes.items) in
    let is : left_of choice at bytes.items ≡ filled choice at (length bytes.items) = rw above refl in
    subst (λ (b : List ℕ). Fills choice image (crashed_calls choice (put image at b) calls) (Write at bytes ∷ calls)) (sym is)
    (one_more choice at bytes.items image (crashed_calls choice (put image at (filled choice at (length bytes.items))) calls) calls (omega (arith, le, longer))
    (fills choice above (step s (Write at bytes)) (put image at (filled choice at (length bytes.items))) calls (back_holds (leb at (length s.seen)) (are_inside (step s (Write at bytes)) calls) inside)
    (put_long s.seen image bytes.items (filled choice at (length bytes.items)) at le longer (sym size))))
fills choice above s image (Stopped at bytes ∷ calls) inside longer =
    let le : at ≤ length s.seen = leb-true at (length s.seen) (front_holds (leb at (length s.seen)) (are_inside (step s (Stopped at bytes)) calls) inside) in
    let is : left_of choice at bytes.items ≡ filled choice at (length bytes.items) = rw above refl in
    subst (λ (b : List ℕ). Fills choice image (crashed_calls choice (put image at b) calls) (Stopped at bytes ∷ calls)) (sym is)
    (one_more choice at bytes.items image (crashed_calls choice (put image at (filled choice at (length bytes.items))) calls) calls (omega (arith, le, longer))
    (fills choice above (step s (Stopped at bytes)) (put image at (filled choice at (length bytes.items))) calls (back_holds (leb at (length s.seen)) (are_inside (step s (Stopped at bytes)) calls) inside)
    (omega (arith, longer, length-put image (filled choice at (length bytes.items)) at (omega (arith, le, longer))))))
fills choice above s image (Resize size ∷ calls) inside longer = cut (fills choice above (step s (Resize size)) (take size image) calls inside (omega (arith, longer, length-take size s.seen, length-take size image)))
  where
    cut : Fills choice (take size image) (crashed_calls choice (take size image) calls) calls → Fills choice image (crashed_calls choice (take size image) calls) (Resize size ∷ calls)
    cut rest place lt = ((rest place lt).0, λ e. let kept = (rest place lt).1 e in (omega (arith, kept.0, length-take size image), kept.1 ∙ get_or-take size image place 0 (omega (arith, kept.0, length-take size image))))

pub pending_filled : (choice : ℕ) (synced : List ℕ) (calls : List Call) → 2 ≤ choice → are_inside (fresh synced) calls ≡ true
    → Fills choice synced (image_of choice synced calls) calls
pending_filled choice synced calls two inside =
    let some : (choice == 0) ≡ false = ne_eqb choice 0 (λ e. omega (arith, two, e)) in
    let above : (choice == 1) ≡ false = ne_eqb choice 1 (λ e. omega (arith, two, e)) in
    subst (λ (l : List ℕ). Fills choice synced l calls) (rw some refl) (fills choice above (fresh synced) synced calls inside (omega arith))
