use Rattle.std.proofs.Common.{rules, ◌≡◌, ◌≤◌, List, ℕ, length, [], ◌∷◌, refl, sym, ◌∙◌, arith, Greater}
use Rattle.coda_fid.specs.Name.{name_cmp}
use Rattle.coda_fid.proofs.name.compare_bytes.Goals as goal

-- what goes on is behind what ends
longer : (xs ys : List ℕ) → 1 ≤ length xs → length ys ≡ 0 → Greater ≡ name_cmp xs ys
longer [] ys h k = let f : ⊥ = omega (arith, h) in absurd f
longer (x ∷ xs) [] h k = refl
longer (x ∷ xs) (y ∷ ys) h k = let f : ⊥ = omega (arith, k) in absurd f

pub returns-in-len1-up-empty : goal.returns-in-len1-up-empty
returns-in-len1-up-empty c = longer c.loop-left.left.now c.loop-left.right.now (search rules) (search rules) ∙ sym c.loop-left.invariant
