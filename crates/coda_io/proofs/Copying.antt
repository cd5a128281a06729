-- What a read from memory takes.
use Rattle.std.proofs.Common.{◌≡◌, ℕ, ◌+◌, ◌-◌, ◌<◌, ◌≤◌, min, List, [], ◌∷◌, ◌++◌, length, take, drop, refl, sym, ◌∙◌, arith}
use Rattle.std.proofs.lemmas.List.{length-take-le, length-drop, length-append, take_at, take-append-drop, drop-drop}

none_of : (xs : List ℕ) → length xs ≡ 0 → xs ≡ []
none_of [] e = refl
none_of (x ∷ xs) e = absurd (omega arith)

-- the bytes copied to the front of the buffer are the front of what was left
pub copied_front : (left items buf copied : List ℕ) (at count : ℕ) → drop at items ≡ left → length copied ≡ length (take count buf) → count ≤ length buf
    → copied ≡ take (at + count - at) (drop at items) → left ≡ take count (copied ++ drop count buf) ++ drop (at + count) items
copied_front left items buf copied at count is len fits same =
    let long : length copied ≡ count = len ∙ length-take-le count buf fits in
    let span : at + count - at ≡ count = omega arith in
    let front : copied ≡ take count left = same ∙ rw (span, is) refl in
    rw (take_at copied (drop count buf) count long, front, ← drop-drop count at items, is) (sym (take-append-drop count left))

-- no byte was copied to a buffer that has room: nothing is left
pub copied_none : (items buf copied : List ℕ) (at count : ℕ) → length copied ≡ length (take count buf) → count ≡ min (length buf) (length items - at)
    → count ≡ 0 → 0 < length (copied ++ drop count buf) → drop (at + count) items ≡ []
copied_none items buf copied at count len is none room =
    let whole : count ≤ length buf = omega (arith, is) in
    let sum : length (copied ++ drop count buf) ≡ length buf = omega (arith, length-append copied (drop count buf), len, length-take-le count buf whole, length-drop count buf) in
    none_of (drop (at + count) items) (omega (arith, length-drop (at + count) items, sum, room, is, none))
