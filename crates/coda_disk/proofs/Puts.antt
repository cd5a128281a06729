-- Bytes that are put at an offset, and what a crash leaves of calls.
use Rattle.std.proofs.Common.{◌≡◌, inl, inr, ℕ, zero, suc, ◌+◌, ◌-◌, ◌%◌, ◌<◌, ◌≤◌, min, Bool, true, false, ◌&&◌, ◌==◌, leb, if◌then◌else◌, List, [], ◌∷◌, ◌++◌, length, get_or, take, drop, refl, sym, ◌∙◌, ap, subst, arith, length-append, length-take, length-drop, append_assoc}
use Rattle.std.proofs.lemmas.List.{take-append-le, take-append-drop, take_all, take_more, drop_at, drop_all, append-nil}
use Rattle.std.proofs.lemmas.Bool.{cases_lt, leb-true, le-leb}
use Rattle.std.proofs.Math.Nat.{add-mod-mod, mod-add-mod}
use Rattle.coda_disk.specs.Told.{put, Torn}
use Rattle.coda_disk.specs.Memory.{State, fresh, step, after, state_of, is_inside, are_inside}
use Rattle.coda_disk.specs.Images.{filled, left_of, crashed_call, crashed_calls}
use Rattle.coda_disk.specs.Laws.{are_done, CrashesTakeAllOrNothing}
use Rattle.coda_disk.specs.declared.calls.Call.{Call}
use Rattle.coda_disk.specs.declared.calls.Call.TheVariants.{Write, Stopped, Resize}
use Rattle.coda_disk.proofs.Spans.{torn_whole, cut_whole, torn_none, cut_none}

put_within : (s b : List ℕ) (at : ℕ) → take at (s ++ drop (length b) b) ++ take (length b) b ++ drop (at + length b) (s ++ drop (length b) b) ≡ put s at b
put_within s b at = rw (drop_all (length b) b (omega arith), append-nil s, take_all (length b) b (omega arith)) refl

put_beyond : (s b : List ℕ) (at i : ℕ) → at ≤ length s → at + i ≡ length s → length s < at + length b
    → take at (s ++ drop i b) ++ take i b ++ drop (at + i) (s ++ drop i b) ≡ put s at b
put_beyond s b at i le is past = rw (take-append-le at s (drop i b) le, drop_at s (drop i b) (at + i) (sym is), append_assoc (take at s) (take i b) (drop i b), take-append-drop i b, drop_all (at + length b) s (omega (arith, past)), append-nil (take at s ++ b)) refl

-- what lies past the old end is appended first, and what lies before it is put over the old bytes
pub put_extended : (s b : List ℕ) (at i : ℕ) → at ≤ length s → i ≡ min (length b) (length s - at)
    → take at (s ++ drop i b) ++ take i b ++ drop (at + i) (s ++ drop i b) ≡ put s at b
put_extended s b at i le is = elim (cases_lt (length s - at) (length b)) [
  | inl long ↦ put_beyond s b at i le (omega (arith, le, is, long)) (omega (arith, le, long))
  | inr short ↦ let all : length b ≡ i = omega (arith, is, short) in subst (λ (n : ℕ). take at (s ++ drop n b) ++ take n b ++ drop (at + n) (s ++ drop n b) ≡ put s at b) all (put_within s b at)
]

-- one more filled byte
filled_suc : (choice at count : ℕ) → filled choice at (suc count) ≡ filled choice at count ++ (choice + (at + count)) % 256 ∷ []
filled_suc choice at zero = ap (λ (n : ℕ). (choice + n) % 256 ∷ []) (omega arith)
filled_suc choice at (suc count) =
    let same : at + 1 + count ≡ at + suc count = omega arith in
    ap (λ (l : List ℕ). (choice + at) % 256 ∷ l) (filled_suc choice (at + 1) count ∙ ap (λ (n : ℕ). filled choice (at + 1) count ++ (choice + n) % 256 ∷ []) same)

pub filled_more : (choice at count : ℕ) → filled choice at (count + 1) ≡ filled choice at count ++ (choice + (at + count)) % 256 ∷ []
filled_more choice at count = let one : count + 1 ≡ suc count = omega arith in ap (λ (n : ℕ). filled choice at n) one ∙ filled_suc choice at count

-- a byte that is counted by remainders is the next filled one
pub fills_next : (choice at count n : ℕ) (bytes : List ℕ) → bytes ≡ filled choice at count → n ≡ (choice % 256 + (at + count) % 256) % 256 → bytes ++ n ∷ [] ≡ filled choice at (count + 1)
fills_next choice at count n bytes is byte =
    let same : n ≡ (choice + (at + count)) % 256 = byte ∙ add-mod-mod (choice % 256) (at + count) 256 ∙ mod-add-mod choice 256 (at + count) in
    rw (is, same) (sym (filled_more choice at count))

pub length-filled : (choice at count : ℕ) → length (filled choice at count) ≡ count
length-filled choice at zero = refl
length-filled choice at (suc count) = rw (length-filled choice (at + 1) count) refl

pub length-left : (choice at : ℕ) (bytes : List ℕ) → length (left_of choice at bytes) ≡ length bytes
length-left choice at bytes = by_choice (choice == 1)
  where
    by_choice : (is : Bool) → length (if is then bytes else filled choice at (length bytes)) ≡ length bytes
    by_choice true = refl
    by_choice false = length-filled choice at (length bytes)

pub length-put : (s b : List ℕ) (at : ℕ) → at ≤ length s → length s ≤ length (put s at b)
length-put s b at le = (torn_whole at b s le).no_shorter

pub put_long : (s t b c : List ℕ) (at : ℕ) → at ≤ length s → length s ≤ length t → length b ≡ length c → length (put s at b) ≤ length (put t at c)
put_long s t b c at le longer same =
    omega (
      arith,
      length-append (take at s ++ b) (drop (at + length b) s),
      length-append (take at s) b,
      length-append (take at t ++ c) (drop (at + length c) t),
      length-append (take at t) c,
      length-take at s,
      length-take at t,
      length-drop (at + length b) s,
      length-drop (at + length c) t,
    )

pub front_holds : (a b : Bool) → (a && b) ≡ true → a ≡ true
front_holds true b e = refl
front_holds false b e = e

pub back_holds : (a b : Bool) → (a && b) ≡ true → b ≡ true
back_holds true b e = e
back_holds false b e = cc

both_hold : (a b : Bool) → a ≡ true → b ≡ true → (a && b) ≡ true
both_hold true b e f = f
both_hold false b e f = e

-- A crash by a choice leaves an image that a crash may leave, no shorter than what is read.
pub crashed_may : (choice : ℕ) (s : State) (image : List ℕ) (calls : List Call) → are_inside s calls ≡ true → length s.seen ≤ length image → s.may_leave image
    → (after s calls).may_leave (crashed_calls choice image calls) × (length (after s calls).seen ≤ length (crashed_calls choice image calls))
crashed_may choice s image [] inside longer may = (may, longer)
crashed_may choice s image (Write at bytes ∷ calls) inside longer may =
    let le : at ≤ length s.seen = leb-true at (length s.seen) (front_holds (leb at (length s.seen)) (are_inside (step s (Write at bytes)) calls) inside) in
    let left = left_of choice at bytes.items in
    let size = length-left choice at bytes.items in
    crashed_may choice (step s (Write at bytes)) (put image at left) calls (back_holds (leb at (length s.seen)) (are_inside (step s (Write at bytes)) calls) inside)
    (put_long s.seen image bytes.items left at le longer (sym size))
    (image, may, subst (λ (n : ℕ). Torn at n image (put image at left)) size (torn_whole at left image (omega (arith, le, longer))))
crashed_may choice s image (Stopped at bytes ∷ calls) inside longer may =
    let le : at ≤ length s.seen = leb-true at (length s.seen) (front_holds (leb at (length s.seen)) (are_inside (step s (Stopped at bytes)) calls) inside) in
    let left = left_of choice at bytes.items in
    let size = length-left choice at bytes.items in
    crashed_may choice (step s (Stopped at bytes)) (put image at left) calls (back_holds (leb at (length s.seen)) (are_inside (step s (Stopped at bytes)) calls) inside)
    (omega (arith, longer, length-put image left at (omega (arith, le, longer))))
    (image, may, subst (λ (n : ℕ). Torn at n image (put image at left)) size (torn_whole at left image (omega (arith, le, longer))))
crashed_may choice s image (Resize size ∷ calls) inside longer may =
    crashed_may choice (step s (Resize size)) (take size image) calls inside
    (omega (arith, longer, length-take size s.seen, length-take size image))
    (image, may, cut_whole size image)

-- A crash may leave what it might have left before calls that weren't synced.
pub kept_may : (s : State) (image : List ℕ) (calls : List Call) → s.may_leave image → (after s calls).may_leave image
kept_may s image [] may = may
kept_may s image (Write at bytes ∷ calls) may = kept_may (step s (Write at bytes)) image calls (image, may, torn_none at (length bytes.items) image)
kept_may s image (Stopped at bytes ∷ calls) may = kept_may (step s (Stopped at bytes)) image calls (image, may, torn_none at (length bytes.items) image)
kept_may s image (Resize size ∷ calls) may = kept_may (step s (Resize size)) image calls (image, may, cut_none size image)

-- what a crash leaves after one more call
pub crashed_push : (choice : ℕ) (image : List ℕ) (calls : List Call) (x : Call) → crashed_calls choice image (calls ++ x ∷ []) ≡ crashed_call choice (crashed_calls choice image calls) x
crashed_push choice image [] x = refl
crashed_push choice image (y ∷ calls) x = crashed_push choice (crashed_call choice image y) calls x

-- each call of calls that are inside is inside
pub inside_at : (s : State) (calls : List Call) (k : ℕ) (x : Call) → k < length calls → x ≡ get_or calls k x → are_inside s calls ≡ true
    → (are_inside s (take k calls) ≡ true) × (is_inside (after s (take k calls)).seen x ≡ true)
inside_at s [] k x lt is inside = absurd (omega (arith, lt))
inside_at s (y ∷ calls) zero x lt is inside = (refl, subst (λ (z : Call). is_inside s.seen z ≡ true) (sym is) (front_holds (is_inside s.seen y) (are_inside (step s y) calls) inside))
inside_at s (y ∷ calls) (suc k) x lt is inside =
    let more = inside_at (step s y) calls k x (omega (arith, lt)) is (back_holds (is_inside s.seen y) (are_inside (step s y) calls) inside) in
    (both_hold (is_inside s.seen y) (are_inside (step s y) (take k calls)) (front_holds (is_inside s.seen y) (are_inside (step s y) calls) inside) more.0, more.1)

-- a call that is inside what is read is inside a longer image
pub inside_longer : (seen image : List ℕ) (x : Call) → is_inside seen x ≡ true → length seen ≤ length image → is_inside image x ≡ true
inside_longer seen image (Write at bytes) inside longer = let le = leb-true at (length seen) inside in le-leb at (length image) (omega arith)
inside_longer seen image (Stopped at bytes) inside longer = let le = leb-true at (length seen) inside in le-leb at (length image) (omega arith)
inside_longer seen image (Resize size) inside longer = refl

-- the next call of an image that is being made is inside it
pub next_inside : (choice : ℕ) (synced : List ℕ) (calls : List Call) (k : ℕ) (x : Call) → k < length calls → x ≡ get_or calls k x → are_inside (fresh synced) calls ≡ true
    → is_inside (crashed_calls choice synced (take k calls)) x ≡ true
next_inside choice synced calls k x lt is inside =
    let here = inside_at (fresh synced) calls k x lt is inside in
    inside_longer (state_of synced (take k calls)).seen (crashed_calls choice synced (take k calls)) x here.1 (crashed_may choice (fresh synced) synced (take k calls) here.0 (omega arith) refl).1

-- an image that is being made, after one more call
pub crashed_more : (choice : ℕ) (synced image new : List ℕ) (calls : List Call) (k : ℕ) (x : Call) → k < length calls → x ≡ get_or calls k x
    → image ≡ crashed_calls choice synced (take k calls) → new ≡ crashed_call choice image x → new ≡ crashed_calls choice synced (take (k + 1) calls)
crashed_more choice synced image new calls k x lt is was done =
    let more : take (k + 1) calls ≡ take k calls ++ x ∷ [] = take_more calls k x lt ∙ ap (λ (y : Call). take k calls ++ y ∷ []) (sym is) in
    done ∙ ap (λ (l : List ℕ). crashed_call choice l x) was ∙ sym (crashed_push choice synced (take k calls) x) ∙ ap (λ (l : List Call). crashed_calls choice synced l) (sym more)

-- by choice 1 an image follows what is read, where no write was refused
taken : (s : State) (calls : List Call) → are_done calls ≡ true → crashed_calls 1 s.seen calls ≡ (after s calls).seen
taken s [] done = refl
taken s (Write at bytes ∷ calls) done = taken (step s (Write at bytes)) calls done
taken s (Stopped at bytes ∷ calls) done = cc
taken s (Resize size ∷ calls) done = taken (step s (Resize size)) calls done

pub crashes_take_all_or_nothing : CrashesTakeAllOrNothing
crashes_take_all_or_nothing synced calls = (refl, taken (fresh synced) calls)
