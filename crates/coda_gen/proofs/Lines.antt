-- Lines, one after the other.
use Rattle.std.proofs.Common.{◌≡◌, ◌≤◌, ◌<◌, ℕ, zero, suc, ◌+◌, ◌-◌, List, [], ◌∷◌, ◌++◌, length, take, refl, sym, ap, ◌∙◌, append_assoc, arith, length-append}
use Rattle.std.proofs.lemmas.List.{length-take}
use Rattle.coda_gen.specs.Generated.{opening, next_number, drawn, line_of, generated, with_newline, lines_text, LongerScriptsBeginWithShorterOnes}

-- one more of the generated lines
pub generated_more : (count index x y : ℕ) (whole now then : List ℕ) → index < count → y ≡ next_number x → now ++ lines_text (generated (count - index) x) ≡ whole → then ≡ now ++ with_newline (line_of (drawn y)) → then ++ lines_text (generated (count - (index + 1)) y) ≡ whole
generated_more count index x y whole now then lt is so put =
    let left : count - index ≡ suc (count - (index + 1)) = omega arith in
    ap (λ t. t ++ lines_text (generated (count - (index + 1)) y)) put
    ∙ append_assoc now (with_newline (line_of (drawn y))) (lines_text (generated (count - (index + 1)) y))
    ∙ ap (λ z. now ++ (with_newline (line_of (drawn z)) ++ lines_text (generated (count - (index + 1)) z))) is
    ∙ ap (λ n. now ++ lines_text (generated n x)) (sym left) ∙ so

-- ---- the law
length-generated : (count x : ℕ) → length (generated count x) ≡ count
length-generated zero x = refl
length-generated (suc count) x = let rest = length-generated count (next_number x) in omega arith

take-generated : (few many x : ℕ) → few ≤ many → take few (generated many x) ≡ generated few x
take-generated zero many x h = refl
take-generated (suc few) zero x h = absurd (omega arith)
take-generated (suc few) (suc many) x h = ap (λ l. line_of (drawn (next_number x)) ∷ l) (take-generated few many (next_number x) (omega arith))

same_count : (first : List (List ℕ)) (m n x : ℕ) → m ≡ n → first ++ generated m x ≡ first ++ generated n x
same_count first m n x e = ap (λ k. first ++ generated k x) e

-- behind any lines in place of the opening ones
begins : (os : List (List ℕ)) (start lines more : ℕ) → lines ≤ more → take lines (take more os ++ generated (more - length os) start) ≡ take lines os ++ generated (lines - length os) start
begins [] start zero more h = same_count [] 0 (0 - 0) start (omega arith)
begins [] start (suc lines) zero h = absurd (omega arith)
begins [] start (suc lines) (suc more) h =
    ap (λ n. take (suc lines) (generated n start)) (let same : suc more - 0 ≡ suc more = omega arith in same)
    ∙ take-generated (suc lines) (suc more) start h ∙ same_count [] (suc lines) (suc lines - 0) start (omega arith)
begins (o ∷ os) start zero more h = same_count [] 0 (0 - length (o ∷ os)) start (omega arith)
begins (o ∷ os) start (suc lines) zero h = absurd (omega arith)
begins (o ∷ os) start (suc lines) (suc more) h =
    let less : suc more - length (o ∷ os) ≡ more - length os = omega arith in
    let fewer : lines - length os ≡ suc lines - length (o ∷ os) = omega arith in
    ap (λ n. o ∷ take lines (take more os ++ generated n start)) less ∙ ap (λ l. o ∷ l) (begins os start lines more (omega arith)) ∙ same_count (o ∷ take lines os) _ _ start fewer

pub longer_scripts : LongerScriptsBeginWithShorterOnes
longer_scripts = record {
  begins = λ start lines more h. begins opening start lines more h;
  all = λ start lines. length-append (take lines opening) (generated (lines - 5) start) ∙ omega (arith, length-take lines opening, length-generated (lines - 5) start);
}
