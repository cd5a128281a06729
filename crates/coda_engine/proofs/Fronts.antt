-- Bytes of one line, taken at once.
use Rattle.std.proofs.Common.{◌≡◌, ◌≢◌, ◌≤◌, ◌<◌, ◌+◌, ◌-◌, zero, suc, ◌++◌, ◌∷◌, [], ℕ, List, Option, length, take, subst, sym, ◌∙◌, ap, refl, arith, drop, get_or}
use Rattle.std.proofs.lemmas.List.{append-nil, append_assoc, take-append-drop, drop-take}
use Rattle.std.proofs.lemmas.List.Elements.{All-head, All-tail, All-take}
use Rattle.coda_engine.specs.Lines.{HasNoNewline}
use Rattle.coda_engine.specs.Machine.{Gives}
use Rattle.coda_engine.specs.Reading.{Place, HasRoom}
use Rattle.coda_engine.specs.Gathering.{Gathers}
use Rattle.coda_engine.proofs.Forwarding.{gathers_none, gathers_more, byte_gathers}

-- the place behind these bytes of the line
abbrev pub behind : {M : Type 0} → Place M → List ℕ → Place M
behind p front = record { state = p.state; pending = p.pending ++ front; lines = p.lines; bytes = p.bytes + length front }

not_nil : (bytes : List ℕ) (b : ℕ) → bytes ++ b ∷ [] ≢ []
not_nil [] b = λ e. cc
not_nil (x ∷ xs) b = λ e. cc

-- the bytes behind one byte are those behind it
behind_one : {M : Type 0} (p : Place M) (b : ℕ) (front : List ℕ) → behind (behind p (b ∷ [])) front ≡ behind p (b ∷ front)
behind_one p b front =
    let few : (p.bytes + 1) + length front ≡ p.bytes + length (b ∷ front) = omega arith in
    (λ i. record { state = p.state; pending = append_assoc p.pending (b ∷ []) front i; lines = p.lines; bytes = few i })

behind_none : {M : Type 0} (p : Place M) → p ≡ behind p []
behind_none p =
    let same : p.bytes ≡ p.bytes + 0 = omega arith in
    (λ i. record { state = p.state; pending = sym (append-nil p.pending) i; lines = p.lines; bytes = same i })

pub front_gathers : {M : Type 0} {gives : Gives M} (a : Option (List ℕ)) (w : List ℕ) (p : Place M) (front : List ℕ) → HasNoNewline front → p.bytes + length front ≤ 16777216 → (p.pending ≡ [] → p.lines < 200000)
    → Gathers gives a a w w p front (behind p front)
front_gathers {gives = gives} a w p [] none room count = subst (Gathers gives a a w w p []) (behind_none p) (gathers_none a w p)
front_gathers {gives = gives} a w p (b ∷ front) none room count =
    let mid = behind p (b ∷ []) in
    let free : HasRoom p.pending p.lines p.bytes = record { size = omega (arith, room); count = count } in
    subst (Gathers gives a a w w p (b ∷ front)) (behind_one p b front)
    (gathers_more a a a w w w p mid (behind mid front) (b ∷ []) front (byte_gathers a w p mid b free (All-head (λ x. x ≢ 10) b front none) refl refl refl refl)
    (front_gathers a w mid front (All-tail (λ x. x ≢ 10) b front none) (omega (arith, room)) (λ nil. absurd (not_nil p.pending b nil))))

-- no bytes have no front but no bytes
take_none : (k : ℕ) → take k (let none : List ℕ = [] in none) ≡ []
take_none zero = refl
take_none (suc k) = refl

-- a front of a front of so many bytes
take_less : (m n : ℕ) (bytes : List ℕ) → take m (take (m + n) bytes) ≡ take m bytes
take_less zero n bytes = refl
take_less (suc m) n [] = ap (take (suc m)) (take_none (suc m + n))
take_less (suc m) n (b ∷ bytes) =
    let more : suc m + n ≡ suc (m + n) = omega arith in
    ap (λ k. take (suc m) (take k (b ∷ bytes))) more ∙ ap (λ l. b ∷ l) (take_less m n bytes)

-- so many bytes, and so many of those behind them
pub take_both : (m n : ℕ) (bytes : List ℕ) → take (m + n) bytes ≡ take m bytes ++ take n (drop m bytes)
take_both m n bytes = sym (take-append-drop m (take (m + n) bytes)) ∙ (λ i. take_less m n bytes i ++ drop-take m n bytes i)

-- bytes in front of a newline are fewer or more of those
pub fewer_front : (m n : ℕ) (bytes : List ℕ) → n ≤ m → HasNoNewline (take m bytes) → HasNoNewline (take n bytes)
fewer_front m n bytes less none =
    let is : n + (m - n) ≡ m = omega (arith, less) in
    subst HasNoNewline (take_less n (m - n) bytes) (subst (λ k. HasNoNewline (take n (take k bytes))) (sym is) (All-take (λ x. x ≢ 10) n (take m bytes) none))

-- bytes are the first, and those behind it
pub first_and_rest : (bytes : List ℕ) → 0 < length bytes → bytes ≡ ([] ++ get_or bytes 0 0 ∷ []) ++ drop 1 bytes
first_and_rest [] some = absurd (let no : ⊥ = omega (arith, some) in no)
first_and_rest (b ∷ bytes) some = refl

-- bytes are those in front, and those behind them
pub all_parts : (at : ℕ) (bytes : List ℕ) → bytes ≡ (take at bytes ++ drop at bytes) ++ []
all_parts at bytes = sym (append-nil (take at bytes ++ drop at bytes) ∙ take-append-drop at bytes)
