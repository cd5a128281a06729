use Rattle.std.proofs.Common.{None, sym, ◌∙◌, subst}
use Rattle.coda_cancel.specs.Mentions.{AreAhead}
use Rattle.coda_cancel.proofs.Told.{first_tells, nothing_tells}
use Rattle.coda_cancel.proofs.mentions.has_object.Goals as goal

pub returns-in-Some : goal.returns-in-Some
returns-in-Some c recs is = c.eq.ensures ∙ first_tells c.args.index.now recs c.args.fid c.in-Some.mention.now _ (subst (AreAhead c.args.index.now c.args.fid None) c.in-Some.ensures.steps c.mentions_of.ensures) is

pub returns-in-None : goal.returns-in-None
returns-in-None c recs is = sym (nothing_tells c.args.index.now recs c.args.fid (subst (AreAhead c.args.index.now c.args.fid None) c.in-None.ensures.steps.0 c.mentions_of.ensures) is)
