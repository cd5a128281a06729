-- Creations that are undone: what each record of the object adds.
use Rattle.std.proofs.Common.{◌≡◌, ℕ, Bool, true, false, cond, List, [], ◌∷◌, Option, Some, refl, sym, ap, ◌∙◌}
use Rattle.std.proofs.lemmas.List.{append-nil}
use Rattle.coda_fid.specs.declared.fid.Fid.{Fid}
use Rattle.coda_fid.specs.declared.op.Record.{Record}
use Rattle.coda_cancel.specs.Dropping.{creates}
use Rattle.coda_cancel.specs.Cancel.{is_other, others, is_true_alone}
use Rattle.coda_cancel.proofs.Walks.{beyond, IsQuiet, Step}
use Rattle.coda_cancel.proofs.Quiet.{others_quiet}

pub others_step : (f : Fid) (a : Option ℕ) (n : ℕ) (rs : List Record) (s : Step f a n rs) → others f (beyond a rs) ≡ cond (is_other f s.found.op) (creates f s.found.op ∷ others f (beyond (Some n) rs)) (others f (beyond (Some n) rs))
others_step f a n rs s = ap (others f) s.rest ∙ others_quiet f s.between (s.found ∷ beyond (Some n) rs) s.quiet

pub others_end : (f : Fid) (rs : List Record) → IsQuiet f rs → others f rs ≡ []
others_end f rs h = ap (others f) (sym (append-nil rs)) ∙ others_quiet f rs [] h

pub alone_end : (b : Bool) → b ≡ is_true_alone (cond b (true ∷ []) [])
alone_end true = refl
alone_end false = refl

pub not_alone : (first : Bool) (rest : List Bool) → first ≡ false → is_true_alone (first ∷ rest) ≡ false
not_alone first [] h = h
not_alone first (x ∷ xs) h = refl
