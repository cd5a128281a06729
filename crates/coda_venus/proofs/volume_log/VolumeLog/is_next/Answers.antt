use Rattle.std.proofs.Common.{arith, sym, ◌∙◌, refl, Some}
use Rattle.std.proofs.lemmas.Bool.{leb-true}
use Rattle.coda_venus.specs.Code.{volume_in}
use Rattle.coda_venus.proofs.volume_log.VolumeLog.is_next.Goals as goal

pub returns-then-is_full-clause-no : goal.returns-then-is_full-clause-no
returns-then-is_full-clause-no c = λ is.
    let last = c.args.self.now.log.last in
    let full = leb-true 4294967295 last (sym (c.is_full.ensures.full (volume_in (Some c.args.self.now)) (record { log = refl; creations = refl })) ∙ c.if-is_full.true) in
    let few = is.few in
    absurd (omega (arith, full, few))
