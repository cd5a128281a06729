-- The parts of a text, one behind the other.
use Rattle.std.proofs.Common.{◌≡◌, ℕ, List, [], ◌∷◌, ◌++◌, append_assoc}
use Rattle.coda_report.specs.Printing.{line}

-- parts in a row, and the same parts behind a start
in_a_row : (start p k f b a c m n : List ℕ) → ((((start ++ (((p ++ k) ++ f) ++ b)) ++ a) ++ c) ++ m) ++ n ≡ start ++ ((((((p ++ k) ++ f) ++ (b ++ a)) ++ c) ++ m) ++ n)
in_a_row start p k f b a c m n = simp append_assoc

-- the parts of an object's line
pub put_parts : (start first second third fourth p k f a c m : List ℕ) → first ≡ start ++ (p ++ 32 ∷ k ++ 32 ∷ f ++ 32 ∷ []) → second ≡ first ++ a → third ≡ second ++ c → fourth ≡ third ++ m
    → fourth ++ 10 ∷ [] ≡ start ++ line (p ++ 32 ∷ k ++ 32 ∷ f ++ 32 ∷ a ++ c ++ m)
put_parts start first second third fourth p k f a c m e1 e2 e3 e4 = rw (e4, e3, e2, e1) (in_a_row start p (32 ∷ k) (32 ∷ f) (32 ∷ []) a c m (10 ∷ []))

-- the parts of a symbolic link's text
pub symlink_parts : (start word made content target first second : List ℕ) → first ≡ start ++ word ++ made → second ≡ first ++ 32 ∷ [] → content ≡ target → second ++ content ≡ start ++ (word ++ made ++ 32 ∷ target)
symlink_parts start word made content target first second e1 e2 e3 = rw (e3, e2, e1) (simp append_assoc)
