-- How many records a list has, and what they weigh.
use Rattle.std.specs.Prelude.{ℕ, ◌+◌, Bool, ◌&&◌, nat_le, List, [], ◌∷◌, length}
use Rattle.coda_fid.specs.declared.op.Record.{Record}
use Rattle.coda_fid.specs.Op.{weight_of}

-- what the records weigh together
abbrev pub total_weight : List Record → ℕ
total_weight [] = 0
total_weight (rec ∷ recs) = weight_of rec.op + total_weight recs

-- whether there are so many records at most, and they weigh so much at most
abbrev pub fits : ℕ → ℕ → List Record → Bool
fits count weight recs = nat_le (length recs) count && nat_le (total_weight recs) weight
