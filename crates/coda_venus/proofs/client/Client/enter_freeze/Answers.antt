use Rattle.std.proofs.Common.{sym, subst, ◌+◌}
use Rattle.coda_record.specs.declared.entry.ClientEntry.TheVariants.{Freeze}
use Rattle.coda_venus.specs.State.{client_after}
use Rattle.coda_venus.specs.Code.{IsClient}
use Rattle.coda_venus.proofs.Growing.{next_is}
use Rattle.coda_venus.proofs.client.Client.enter_freeze.Goals as goal

pub returns-in-Ok-clause-leaves : goal.returns-in-Ok-clause-leaves
returns-in-Ok-clause-leaves c = λ s is.
    let log = (s.volumes c.args.volume).log in
    let next = next_is log c.in-Some.now c.in-Some.window c.args.number c.args.last (c.in-Some.ensures.found s is) in
    subst (λ n. IsClient (client_after s (Freeze c.args.volume n c.args.home c.args.last)) c.freeze.new.self) (sym next.number)
    (subst (λ n. IsClient (client_after s (Freeze c.args.volume (log.chunks + 1) c.args.home n)) c.freeze.new.self) (sym next.ends) (c.in-Ok.ensures.frozen s is))
