use Rattle.coda_runs.proofs.Replying.{scripts_in_grammar_are_clean}
use Rattle.coda_runs.proofs.laws.scripts_in_the_grammar_are_clean.Goals as goal

pub returns : goal.returns
returns c = scripts_in_grammar_are_clean
