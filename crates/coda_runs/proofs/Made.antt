-- Whether a line is refused, and where, depends on its bytes alone.
use Rattle.std.proofs.Common.{◌≡◌, ℕ, List, Option, Some, None, Ok, Err, Result, sym, ap, ◌∙◌, inl, inr}
use Rattle.std.proofs.lemmas.Bool.{false≢true}
use Rattle.coda_engine.specs.declared.status.Kind.{Kind}
use Rattle.coda_engine.specs.Exact.{TellsApart}
use Rattle.coda_script.specs.declared.line.Line.{Line}
use Rattle.coda_script.specs.Reading.{Fault}
use Rattle.coda_script.specs.Lines.{line_of}
use Rattle.coda_shelves.specs.Cells.{Cell}
use Rattle.coda_shelves.specs.Lines.{is_built}
use Rattle.coda_runs.specs.Shelved.{LineRefused, LineGives}

abbrev pub Alike : Cell → Cell → Type 0
Alike a b = Unit {0}

said_once : (r : Result (Option Line) Fault) (a b : Line) → r ≡ Ok (Some a) → r ≡ Ok (Some b) → a ≡ b
said_once r a b x y = let z : (let ok : Line → Result (Option Line) Fault = λ l. Ok (Some l) in ok a ≡ ok b) = sym x ∙ y in cc

not_both : (r : Result (Option Line) Fault) (o : Option Line) (fault : Fault) → r ≡ Ok o → r ≡ Err fault → ⊥
not_both r o fault x y = let z : Ok o ≡ Err fault = sym x ∙ y in cc

not_silent : (r : Result (Option Line) Fault) (a : Line) → r ≡ Ok (Some a) → r ≡ Ok None → ⊥
not_silent r a x y = let z : (let ok : Option Line → Result (Option Line) Fault = λ l. Ok l in ok (Some a) ≡ ok None) = sym x ∙ y in cc

fault_once : (r : Result (Option Line) Fault) (a b : Fault) → r ≡ Err a → r ≡ Err b → a ≡ b
fault_once r a b x y = let z : (let err : Fault → Result (Option Line) Fault = λ f. Err f in err a ≡ err b) = sym x ∙ y in cc

apart : (a b a' : Cell) (line text : List ℕ) (outside : List (List ℕ)) (column : ℕ) (kind : Kind) → Alike a b → LineGives a line text outside a' → LineRefused b line column kind → ⊥
apart a b a' line text outside column kind alike (inl x) (inl fault) = not_both (line_of line) None (column, kind) x.0 fault
apart a b a' line text outside column kind alike (inl x) (inr u) = not_silent (line_of line) u.said u.spelled x.0
apart a b a' line text outside column kind alike (inr x) (inl fault) = not_both (line_of line) (Some x.said) (column, kind) x.spelled fault
apart a b a' line text outside column kind alike (inr x) (inr u) = false≢true (sym u.unbuilt ∙ ap is_built (said_once (line_of line) u.said x.said u.spelled x.spelled) ∙ x.built)

single : (a b : Cell) (line : List ℕ) (column column' : ℕ) (kind kind' : Kind) → Alike a b → LineRefused a line column kind → LineRefused b line column' kind' → (column ≡ column') × (kind ≡ kind')
single a b line column column' kind kind' alike (inl x) (inl y) = let same = fault_once (line_of line) (column, kind) (column', kind') x y in (ap (λ (p : Fault). p.0) same, ap (λ (p : Fault). p.1) same)
single a b line column column' kind kind' alike (inl x) (inr u) = absurd (not_both (line_of line) (Some u.said) (column, kind) u.spelled x)
single a b line column column' kind kind' alike (inr u) (inl y) = absurd (not_both (line_of line) (Some u.said) (column', kind') u.spelled y)
single a b line column column' kind kind' alike (inr u) (inr v) = (u.first ∙ sym v.first, u.mode ∙ sym v.mode)

-- all cells refuse the same lines
pub cells_tell : TellsApart Alike LineGives LineRefused
cells_tell = record {
  itself = λ a. tt;
  kept = λ a b a' b' line text text' outside outside' alike x y. tt;
  apart = apart;
  single = single;
}
