use Rattle.coda_net.proofs.Lost.{posts_lose}
use Rattle.coda_net.proofs.law.posts_lose_the_oldest.Goals as goal

pub returns : goal.returns
returns c = posts_lose
