use Rattle.coda_rounds.proofs.Needed.{needed_objects_are_led_to as law}
use Rattle.coda_rounds.proofs.needed_objects_are_led_to.Goals as goal

pub returns : goal.returns
returns c = law
