use Rattle.std.proofs.Common.{◌∙◌, ap, ◌==◌, ◌&&◌}
use Rattle.std.specs.Prelude.{unwrap_or}
use Rattle.std.specs.Map.{lookup}
use Rattle.coda_state.specs.declared.state.Link.TheVariants.{Down}
use Rattle.coda_net.specs.Pool.{ends_are}
use Rattle.coda_net.proofs.Losing.{set_at}
use Rattle.coda_net.proofs.net.Net.set_link.Goals as goal

pub returns-clause-set : goal.returns-clause-set
returns-clause-set c = rw (← c.self.view_is) (λ k s. ap (λ o. unwrap_or o Down) (c.in_ok-insert.ensures.updates.0 (k, s)) ∙ set_at ((c.args.client == k) && (c.args.server == s)) c.args.link (lookup (ends_are k s) c.self.inside.links.entries))
