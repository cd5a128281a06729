-- A part of a script has no more lines than the whole.
use Rattle.std.proofs.Common.{◌≡◌, ◌≢◌, ℕ, ◌≤◌, true, false, cond, List, [], ◌∷◌, ◌++◌, length, refl, ap, append_assoc, inl, inr, arith, length-append}
use Rattle.std.specs.Str.Lines.{lines, lines_of_parts}
use Rattle.std.proofs.lemmas.List.Elements.{All-cons, All-nil}
use Rattle.std.proofs.lemmas.Bool.Decides.{eqb_tells}
use Rattle.std.proofs.Math.Dec.{eqb-suc-zero}
use Rattle.coda_engine.specs.Lines.{HasNoNewline, IsWholeLines, IsWithinLimits}
use Rattle.coda_engine.proofs.Splitting.{ends, split_some, lines-more, lines-last}

-- any bytes are whole lines and less than a line
pub record Cuts (bytes : List ℕ) : Type 0 where
  pub front : List ℕ
  pub part : List ℕ
  pub same : bytes ≡ front ++ part
  pub whole : IsWholeLines front
  pub clean : HasNoNewline part

cuts_front : (x : ℕ) (front part : List ℕ) → IsWholeLines front → HasNoNewline part → Cuts (x ∷ (front ++ part))
cuts_front x front part (inl none) clean =
    elim (eqb_tells x 10) [
      | inl here ↦ record { front = 10 ∷ []; part = part; same = rw (here.1, none) refl; whole = inr ([], refl); clean = clean }
      | inr other ↦ record { front = []; part = x ∷ part; same = rw none refl; whole = inl refl; clean = All-cons (λ b. b ≢ 10) x part other.1 clean }
    ]
cuts_front x front part (inr (before, e)) clean = record { front = x ∷ front; part = part; same = refl; whole = inr (x ∷ before, ap (λ xs. x ∷ xs) e); clean = clean }

pub cuts : (bytes : List ℕ) → Cuts bytes
cuts [] = record { front = []; part = []; same = refl; whole = inl refl; clean = All-nil (λ b. b ≢ 10) }
cuts (x ∷ xs) = let c = cuts xs in rw c.same (cuts_front x c.front c.part c.whole c.clean)

parts_some : (first : List ℕ) (more : List (List ℕ)) (x : ℕ) → 1 ≤ length (lines_of_parts ((x ∷ first) ∷ more))
parts_some first [] x = rw (eqb-suc-zero (length first)) (omega arith)
parts_some first (next ∷ more) x = omega arith

-- some bytes are some lines
lines_some : (x : ℕ) (xs : List ℕ) → 1 ≤ length (lines (x ∷ xs))
lines_some x xs =
    let found = split_some xs in
    rw found.2 (elim (ends x) as (λ b. 1 ≤ length (lines_of_parts (cond b ([] ∷ found.0 ∷ found.1) ((x ∷ found.0) ∷ found.1)))) [
      | true ↦ omega arith
      | false ↦ parts_some found.0 found.1 x
    ])

part_le : (part more : List ℕ) → HasNoNewline part → length (lines part) ≤ length (lines (part ++ more))
part_le [] more clean = omega arith
part_le (x ∷ xs) more clean = rw (lines-last (x ∷ xs) clean (λ e. cc)) (lines_some x (xs ++ more))

pub lines_le : (bytes more : List ℕ) → length (lines bytes) ≤ length (lines (bytes ++ more))
lines_le bytes more =
    let c = cuts bytes in
    rw (c.same, append_assoc c.front c.part more, lines-more c.front c.part c.whole, lines-more c.front (c.part ++ more) c.whole)
    (omega (arith, length-append (lines c.front) (lines c.part), length-append (lines c.front) (lines (c.part ++ more)), part_le c.part more c.clean))

pub within_front : (bytes more : List ℕ) → IsWithinLimits (bytes ++ more) → IsWithinLimits bytes
within_front bytes more within = record { bytes = omega (arith, length-append bytes more, within.bytes); lines = omega (arith, lines_le bytes more, within.lines) }
