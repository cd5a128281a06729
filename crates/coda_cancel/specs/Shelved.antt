-- Records that are found by their numbers.
use Rattle.std.specs.Prelude.{◌≡◌, ℕ, ◌==◌, Bool, List, ◌∷◌, ◌++◌}
use Rattle.std.specs.List.{list_any}
use Rattle.coda_fid.specs.declared.op.Record.{Record}

-- the records, and how many more can be put there without memory
pub record Shelved : Type 0 where
  pub records : List Record
  pub room : ℕ

-- whether one of the records has the number
abbrev pub is_numbered : ℕ → List Record → Bool
is_numbered number recs = list_any (λ (rec : Record). rec.number == number) recs

-- the record of the number, wherever it stands, is such
abbrev pub AtNumber : ℕ → List Record → (List Record → Record → List Record → Type 0) → Type 0
AtNumber number recs such = (front : List Record) (rec : Record) (back : List Record) → recs ≡ front ++ rec ∷ back → rec.number ≡ number → such front rec back
