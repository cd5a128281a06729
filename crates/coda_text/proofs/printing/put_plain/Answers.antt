use Rattle.std.proofs.Common.{Result, Ok, Err, MatchResult, rules}
use Rattle.std.specs.Result.{IsOk}
use Rattle.coda_text.proofs.Ascii.{plain_utf8}
use Rattle.coda_text.proofs.printing.put_plain.Goals as goal

-- a result that can't be bad is good
only_ok : {A E : Type 0} (r : Result A E) (P : A → Type 0) (Q : E → Type 0) → MatchResult r P Q → ((e : E) → Q e → ⊥) → IsOk r
only_ok (Ok x) P Q m never = search rules
only_ok (Err e) P Q m never = absurd (never e m)

pub unwrap-requires : goal.unwrap-requires
unwrap-requires c = only_ok c.from_utf8.result _ _ c.from_utf8.ensures.cases (λ e bad. bad.0 (plain_utf8 c.args.bytes.now c.requires))
