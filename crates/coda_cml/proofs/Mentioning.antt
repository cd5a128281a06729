-- Whether a record mentions an object, in the words of runs.
use Rattle.std.proofs.Common.{◌≡◌, ◌||◌, List, [], ◌∷◌, refl, ap}
use Rattle.coda_fid.specs.declared.fid.Fid.{Fid}
use Rattle.coda_fid.specs.declared.op.Record.{Record}
use Rattle.coda_cancel.specs.Dropping.{mentioning}
use Rattle.coda_cancel.specs.Mentions.{any_mentions}
use Rattle.coda_cml.specs.Steady.{any_record}

pub any_mentioning : (f : Fid) (rs : List Record) → any_mentions f rs ≡ any_record (mentioning f) rs
any_mentioning f [] = refl
any_mentioning f (r ∷ rs) = ap (λ b. mentioning f r.op || b) (any_mentioning f rs)
