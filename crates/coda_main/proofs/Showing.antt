-- The cell of the code goes on, and the lines that it ran are good.
use Rattle.std.proofs.Common.{ℕ, List, inl, inr}
use Rattle.coda_disk.specs.Told.{Told}
use Rattle.coda_engine.proofs.Simulation.{Simulates}
use Rattle.coda_site.specs.Totals.{Counts}
use Rattle.coda_runs.specs.Shelved.{IsBadLine, LineRefused}
use Rattle.coda_main.specs.Lines.{IsGoodLine, AnyGives}
use Rattle.coda_main.specs.Reported.{LineRan, Ran}
use Rattle.coda_main.specs.Shows.{Moment, MayGoOn}

module _ {D M : Type 0} (told : D → Told) (at : M → Moment D) (counts : M → Counts) where
  abbrev pub Gave : M → List ℕ → List ℕ → List (List ℕ) → M → Type 0
  Gave old line text outside new = Ran told (at old) (counts old) line text outside (at new) (counts new)

  pub cells_go_on : Simulates (λ (p : Unit {0}) (m : M). MayGoOn told (at m)) (λ p line text outside p'. Unit {0}) (λ p line column kind. Unit {0}) Gave (λ m line column kind. IsBadLine line column kind)
  cells_go_on = record {
    step = λ p m m' line text outside goes_on ran. (p, tt, ran.1 goes_on);
    refusal = λ p m line column kind goes_on refuses. tt;
  }

  good : (old new : M) (line text : List ℕ) (outside : List (List ℕ)) → LineRan told (at old) (counts old) line text outside (at new) (counts new) → IsGoodLine line text
  good old new line text outside (inl silent) = inl (silent.0, silent.1)
  good old new line text outside (inr r) = inr (r.0.said, r.0.spelled, r.0.built)

  pub lines_good : Simulates (λ (p : Unit {0}) (m : M). Unit {0}) AnyGives LineRefused Gave (λ m line column kind. IsBadLine line column kind)
  lines_good = record {
    step = λ p m m' line text outside shows ran. (p, good m m' line text outside ran.0, tt);
    refusal = λ p m line column kind shows refuses. refuses;
  }
