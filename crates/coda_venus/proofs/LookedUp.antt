-- What is looked up along names, step by step.
use Rattle.std.proofs.Common.{◌≡◌, List, [], ◌∷◌, ◌++◌, Ok, Err, sym, ap, ◌∙◌, append_assoc}
use Rattle.std.specs.FinMap as map
use Rattle.coda_fid.specs.declared.fid.Fid.{Fid}
use Rattle.coda_tree.specs.Bindings.{Name}
use Rattle.coda_tree.specs.Volume.{Nodes}
use Rattle.coda_venus.specs.Looking.{step_from}
use Rattle.coda_venus.specs.Serving.{look_on, looked_up}
use Rattle.coda_venus.specs.declared.refused.Refused.{Refused}

module _ (m : Nodes) (before : List Fid) (at : Fid) (name : Name) (names : List Name) where
  -- a name that leads on
  pub leads_on : (next : Fid) → step_from (map.get m at) at name ≡ Ok next
      → (before ++ at ∷ []) ++ looked_up m next names ≡ before ++ looked_up m at (name ∷ names)
  leads_on next e =
      append_assoc before (at ∷ []) (looked_up m next names)
      ∙ ap (λ r. before ++ at ∷ look_on r (λ n. looked_up m n names)) (sym e)

  -- one that doesn't
  pub ends_there : (why : Refused) → step_from (map.get m at) at name ≡ Err why → before ++ at ∷ []
      ≡ before ++ looked_up m at (name ∷ names)
  ends_there why e = ap (λ r. before ++ at ∷ look_on r (λ n. looked_up m n names)) (sym e)
