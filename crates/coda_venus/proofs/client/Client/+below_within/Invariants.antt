use Rattle.coda_venus.proofs.client.Client.+below_within.Given as goal

abbrev pub decreases-below_within : goal.decreases-below_within
decreases-below_within l = l.steps
