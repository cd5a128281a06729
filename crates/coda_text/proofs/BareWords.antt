-- One step within a bare word.
use Rattle.std.proofs.Common.{◌≡◌, ℕ, ◌<◌, true, false, List, length, get_or, Some, None, refl, ap, ◌∙◌, arith}
use Rattle.std.proofs.lemmas.Bool.{lt-leb}
use Rattle.std.proofs.lemmas.Bool.Decides.{nat_tests}
use Rattle.std.specs.Prelude.{◌||◌}
use Rattle.coda_text.specs.declared.words.Part.TheVariants.{Bare}
use Rattle.coda_text.specs.Words.{is_separator, is_bare, goes_on}
use Rattle.coda_text.specs.Steps.{is_end}

-- what stands in a bare word separates none
bare_apart : (b : ℕ) → is_bare b ≡ true → is_separator b ≡ false
bare_apart b h = grind (arith, nat_tests)

pub bare_goes_on : (b : ℕ) → is_bare b ≡ true → goes_on Bare b ≡ Some Bare
bare_goes_on b h = rw h refl

pub bare_breaks : (b : ℕ) → is_bare b ≡ false → goes_on Bare b ≡ None
bare_breaks b h = rw h refl

pub bare_no_end : (line : List ℕ) (at : ℕ) → at < length line → is_bare (get_or line at 0) ≡ true → is_end line at Bare ≡ false
bare_no_end line at lt h = ap (λ b. b || is_separator (get_or line at 0)) (lt-leb (length line) at lt) ∙ bare_apart (get_or line at 0) h
