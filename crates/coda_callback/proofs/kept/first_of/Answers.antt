use Rattle.std.proofs.Common.{◌∙◌}
use Rattle.coda_callback.proofs.Ranges.{range_is, none_of}
use Rattle.coda_callback.proofs.kept.first_of.Goals as goal

pub returns-in-None-clause-none : goal.returns-in-None-clause-none
returns-in-None-clause-none c =
    let is = range_is c.args.kept.now c.args.client _ _ c.range.result (c.new.ensures.start ∙ c.least.ensures) (c.new.ensures.end ∙ c.greatest.ensures) (c.range.ensures.between c.new.ensures.exhausted) c.requires in
    none_of c.args.kept.now c.args.client c.range.result is c.in-None.ensures.steps.0
