use Rattle.std.proofs.Common.{Some, option_map, sym, ap, ◌∙◌, subst}
use Rattle.coda_cml.specs.Segments.{end_of}
use Rattle.coda_cml.specs.State.{IsLogOf}
use Rattle.coda_cml.specs.Inside.{state_of}
use Rattle.coda_cml.proofs.segments.Fronts.{sent_upto}
use Rattle.coda_cml.proofs.log.Log.last_sent.Goals as goal

pub returns-in-Some-clause-run : goal.returns-in-Some-clause-run
returns-in-Some-clause-run c front back h =
    ap Some (c.end_of.ensures ∙ ap end_of c.deref.ensures.value)
    ∙ ap (option_map (λ chunk. end_of c.self.inside.chunk_segments.items)) (sym c.in-Some.is)
    ∙ sent_upto (state_of c.self.inside) front back (subst (λ log. IsLogOf log front back) (sym c.self.view_is) h)
