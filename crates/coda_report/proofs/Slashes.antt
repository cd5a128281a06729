-- Names behind slashes, and the texts of paths.
use Rattle.std.proofs.Common.{◌≡◌, ℕ, List, [], ◌∷◌, ◌++◌, refl, sym, ap, ◌∙◌, append_assoc}
use Rattle.std.specs.List.{flat_map}
use Rattle.coda_fid.specs.Path.{behind_slashes, path_text}
use Rattle.coda_report.specs.Walking.{shown_path}
use Rattle.std.proofs.lemmas.List.{append-nil}

-- one name more
pub slashes_push : (names : List (List ℕ)) (name : List ℕ) → behind_slashes (names ++ name ∷ []) ≡ behind_slashes names ++ 47 ∷ name
slashes_push [] name = ap (λ bytes. 47 ∷ bytes) (append-nil name)
slashes_push (first ∷ names) name = ap (λ bytes. 47 ∷ first ++ bytes) (slashes_push names name) ∙ sym (append_assoc (47 ∷ first) (behind_slashes names) (47 ∷ name))

-- the text of a path is that of its names behind slashes
pub shown_names : (names : List (List ℕ)) → shown_path (behind_slashes names) ≡ path_text names
shown_names [] = refl
shown_names (name ∷ names) = refl

-- each name behind its slash
pub slashes_each : (names : List (List ℕ)) → flat_map (λ name. 47 ∷ name) names ≡ behind_slashes names
slashes_each [] = refl
slashes_each (name ∷ names) = ap (λ bytes. 47 ∷ name ++ bytes) (slashes_each names)
