-- No line is both good and bad, and a bad one is so in one place.
use Rattle.std.proofs.Common.{◌≡◌, ℕ, List, Option, Some, None, Ok, Err, Result, sym, ap, ◌∙◌, inl, inr}
use Rattle.std.proofs.lemmas.Bool.{false≢true}
use Rattle.coda_engine.specs.declared.status.Kind.{Kind}
use Rattle.coda_engine.specs.Exact.{TellsApart}
use Rattle.coda_script.specs.declared.line.Line.{Line}
use Rattle.coda_script.specs.Reading.{Fault}
use Rattle.coda_script.specs.Lines.{line_of}
use Rattle.coda_shelves.specs.Lines.{is_built}
use Rattle.coda_runs.specs.Shelved.{IsBadLine, LineRefused}
use Rattle.coda_main.specs.Lines.{IsGoodLine, AnyGives}

pub said_once : (r : Result (Option Line) Fault) (a b : Line) → r ≡ Ok (Some a) → r ≡ Ok (Some b) → a ≡ b
said_once r a b x y = let z : (let ok : Line → Result (Option Line) Fault = λ l. Ok (Some l) in ok a ≡ ok b) = sym x ∙ y in cc

not_both : (r : Result (Option Line) Fault) (o : Option Line) (fault : Fault) → r ≡ Ok o → r ≡ Err fault → ⊥
not_both r o fault x y = let z : Ok o ≡ Err fault = sym x ∙ y in cc

not_silent : (r : Result (Option Line) Fault) (a : Line) → r ≡ Ok (Some a) → r ≡ Ok None → ⊥
not_silent r a x y = let z : (let ok : Option Line → Result (Option Line) Fault = λ l. Ok l in ok (Some a) ≡ ok None) = sym x ∙ y in cc

fault_once : (r : Result (Option Line) Fault) (a b : Fault) → r ≡ Err a → r ≡ Err b → a ≡ b
fault_once r a b x y = let z : (let err : Fault → Result (Option Line) Fault = λ f. Err f in err a ≡ err b) = sym x ∙ y in cc

apart : (line text : List ℕ) (column : ℕ) (kind : Kind) → IsGoodLine line text → IsBadLine line column kind → ⊥
apart line text column kind (inl silent) (inl fault) = not_both (line_of line) None (column, kind) silent.0 fault
apart line text column kind (inl silent) (inr u) = not_silent (line_of line) u.said u.spelled silent.0
apart line text column kind (inr x) (inl fault) = not_both (line_of line) (Some x.0) (column, kind) x.1 fault
apart line text column kind (inr x) (inr u) = false≢true (sym u.unbuilt ∙ ap is_built (said_once (line_of line) u.said x.0 u.spelled x.1) ∙ x.2)

single : (line : List ℕ) (column column' : ℕ) (kind kind' : Kind) → IsBadLine line column kind → IsBadLine line column' kind' → (column ≡ column') × (kind ≡ kind')
single line column column' kind kind' (inl x) (inl y) = let same = fault_once (line_of line) (column, kind) (column', kind') x y in (ap (λ (p : Fault). p.0) same, ap (λ (p : Fault). p.1) same)
single line column column' kind kind' (inl x) (inr u) = absurd (not_both (line_of line) (Some u.said) (column, kind) u.spelled x)
single line column column' kind kind' (inr u) (inl y) = absurd (not_both (line_of line) (Some u.said) (column', kind') u.spelled y)
single line column column' kind kind' (inr u) (inr v) = (u.first ∙ sym v.first, u.mode ∙ sym v.mode)

pub lines_tell : TellsApart (λ (a b : Unit {0}). Unit {0}) AnyGives LineRefused
lines_tell = record {
  itself = λ a. tt;
  kept = λ a b a' b' line text text' outside outside' alike x y. tt;
  apart = λ a b a' line text outside column kind alike good bad. apart line text column kind good bad;
  single = λ a b line column column' kind kind' alike x y. single line column column' kind kind' x y;
}
