-- The steps of reading an area piece by piece.
use Rattle.std.proofs.Common.{◌≡◌, ◌≢◌, ◌⊎◌, inl, inr, ℕ, ◌+◌, ◌≤◌, Bool, false, List, [], ◌∷◌, ◌++◌, length, take, drop, refl, sym, ◌∙◌, ap, arith, append_assoc, length-append, length-take, length-drop, take-append-drop}
use Rattle.std.proofs.Math.Seq.{take-add}
use Rattle.std.proofs.lemmas.List.{take_min, take_all, take-take, drop-append-le}
use Rattle.std.proofs.lemmas.Bool.{cases_lt}
use Rattle.std.specs.Int.{Width}
use Rattle.coda_journal.specs.Entries.{blocks, Holds}
use Rattle.coda_journal.specs.Reading.{IsReadTo, IsFirst}

-- nothing is read yet
pub read_none : (width : Width) → IsReadTo width [] 0 []
read_none width = record { inside = omega arith; is = refl }

-- entries stay where more bytes come behind them
pub read_further : (width : Width) (old new : List ℕ) (used : ℕ) (ps : List (List ℕ)) → take (length old) new ≡ old → IsReadTo width old used ps → IsReadTo width new used ps
read_further width old new used ps front so_far =
    let more = drop (length old) new in
    let all : old ++ more ≡ new = ap (λ (l : List ℕ). l ++ more) (sym front) ∙ take-append-drop (length old) new in
    record {
      inside = omega (arith, so_far.inside, ap length all, length-append old more);
      is = sym all ∙ ap (λ (l : List ℕ). l ++ more) so_far.is ∙ append_assoc (blocks width ps) (drop used old) more
          ∙ ap (λ (l : List ℕ). blocks width ps ++ l) (sym (drop-append-le used old more so_far.inside) ∙ ap (λ (l : List ℕ). drop used l) all);
    }

-- an area holds what its first bytes hold
pub holds_further : (width : Width) (bytes area : List ℕ) (ps : List (List ℕ)) → bytes ≡ take (length bytes) area → Holds width bytes ps → Holds width area ps
holds_further width bytes area ps front holds =
    let more = drop (length bytes) area in
    record {
      gate = holds.gate;
      rest = holds.rest ++ more;
      is = sym (take-append-drop (length bytes) area) ∙ ap (λ (l : List ℕ). l ++ more) (sym front) ∙ ap (λ (l : List ℕ). l ++ more) holds.is ∙ append_assoc (blocks width ps) (holds.gate ∷ holds.rest) more;
      shut = holds.shut;
    }

-- one more piece of an area
module _ (disk : List ℕ) (area n count : ℕ) (old piece new : List ℕ) (long : n ≡ length old) (le : n + count ≤ area)
    (was : old ≡ take n (take area disk)) (read : piece ≡ take count (drop n disk)) (is : new ≡ old ++ piece) where
  first_bytes : new ≡ take (n + count) (take area disk)
  first_bytes =
      is ∙ ap (λ (l : List ℕ). l ++ piece) (was ∙ take-take n area disk (omega (arith, le))) ∙ ap (λ (l : List ℕ). take n disk ++ l) read
      ∙ sym (take-add n count disk) ∙ sym (take-take (n + count) area disk le)

  -- a piece that is shorter than it was asked for, or that ends where the area ends, is the last one
  last : (length piece ≢ count) ⊎ (area ≤ n + count) → length (take area disk) ≤ n + count
  last (inr ends) = omega (arith, ends, length-take area disk)
  last (inl other) = elim (cases_lt (length piece) count) [
    | inl less ↦ omega (arith, less, ap length read, length-take count (drop n disk), length-drop n disk, length-take area disk)
    | inr same ↦ absurd (other (omega (arith, same, ap length read, length-take count (drop n disk))))
  ]

  pub next_piece : (more : Bool) → (more ≡ false → (length piece ≢ count) ⊎ (area ≤ n + count)) → IsFirst (take area disk) new more
  next_piece more ends = record {
    front = sym (ap (λ (k : ℕ). take k (take area disk)) (ap length first_bytes ∙ length-take (n + count) (take area disk)) ∙ take_min (n + count) (take area disk) ∙ sym first_bytes);
    all = λ e. first_bytes ∙ take_all (n + count) (take area disk) (last (ends e));
  }
