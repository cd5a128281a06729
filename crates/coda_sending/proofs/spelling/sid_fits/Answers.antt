use Rattle.std.specs.Cmp.{both_ways}
use Rattle.std.proofs.lemmas.Bool.{le-leb, leb-true}
use Rattle.coda_sending.proofs.Spelled.{sid_few, few_sid}
use Rattle.coda_sending.proofs.spelling.sid_fits.Goals as goal

pub returns : goal.returns
returns c =
    let number = c.args.sid.number in
    both_ways _ _ (λ low. few_sid c.args.sid c.client_fits.ensures (leb-true number 4294967295 low)) (λ fits. le-leb number 4294967295 (sid_few c.args.sid fits))
