use Rattle.std.proofs.Common.{◌≡◌, ◌<◌, ◌≤◌, List, [], ◌∷◌, length, get_or, map, sym, ap, ◌∙◌, arith, rules, codes}
use Rattle.std.specs.String.{string_bytes}
use Rattle.coda_main.specs.Lines.{IsRun}
use Rattle.coda_main.proofs.Reporting.{not_usage}
use Rattle.coda_main.proofs.top.coda.Goals as goal

single : {A : Type 0} (xs : List A) (x : A) → 1 ≤ length xs → length xs < 2 → x ≡ get_or xs 0 x → xs ≡ x ∷ []
single [] x low high e = absurd (omega arith)
single (y ∷ []) x low high e = ap (λ z. z ∷ []) (sym e)
single (y ∷ z ∷ zs) x low high e = absurd (omega arith)

pub returns-in-len1-clause-usage : goal.returns-in-len1-clause-usage
returns-in-len1-clause-usage g c =
    let text : string_bytes c.word-item.result ≡ codes "run" = search rules in
    let run : IsRun (map string_bytes c.args.words.now) = ap (map string_bytes) (single c.args.words.now c.word-item.result (omega arith) (omega arith) c.word-item.is) ∙ ap (λ t. t ∷ []) text in
    (λ e. absurd (not_usage _ _ _ _ c.run_script.result c.run_script.ensures.lines e), λ differs. absurd (differs run))
