use Rattle.std.proofs.Common.{◌∙◌}
use Rattle.coda_cell.specs.State.{log_of}
use Rattle.coda_site.proofs.ShownStates.{sent_by, sent_all}
use Rattle.coda_site.proofs.states.has_sent.Goals as goal

pub returns-in-Some : goal.returns-in-Some
returns-in-Some g c = λ cell shows runs own made.
    c.is_empty.ensures ∙ sent_by (log_of (own.volumes c.args.volume)) c.log.result c.in-Some.log c.in-Some.is (c.log.ensures.shown cell shows runs own made)

pub returns-in-None : goal.returns-in-None
returns-in-None g c = λ cell shows runs own made. sent_all (log_of (own.volumes c.args.volume)) c.log.result c.in-None.is (c.log.ensures.shown cell shows runs own made)
