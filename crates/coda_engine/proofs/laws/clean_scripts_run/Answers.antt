use Rattle.coda_engine.proofs.OneRun.{clean_scripts_run}
use Rattle.coda_engine.proofs.laws.clean_scripts_run.Goals as goal

pub returns : goal.returns
returns g c = λ alike tells start. clean_scripts_run tells start start (tells.itself start)
