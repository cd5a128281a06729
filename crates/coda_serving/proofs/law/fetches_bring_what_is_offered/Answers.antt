use Rattle.coda_serving.proofs.Brought.{brought}
use Rattle.coda_serving.proofs.law.fetches_bring_what_is_offered.Goals as goal

pub returns : goal.returns
returns c = record {
  operations = λ offers call d fids payloads are. brought offers call d fids payloads are;
  shows = λ offers call d fids payloads are. brought offers call d fids payloads are;
}
