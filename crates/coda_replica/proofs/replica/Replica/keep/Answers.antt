use Rattle.std.proofs.Common.{refl}
use Rattle.coda_replica.proofs.replica.Replica.keep.Goals as goal

pub returns-in-Ok-clause-keeps : goal.returns-in-Ok-clause-keeps
returns-in-Ok-clause-keeps g c = λ header payloads payload framed is.
    let a = c.in-Ok.ensures.appends header payloads payload framed is in
    record { any_moment = a.any_moment; answers = (c.requires, a.answers) }

pub returns-in-Err-clause-keeps : goal.returns-in-Err-clause-keeps
returns-in-Err-clause-keeps g c = λ header payloads payload framed is.
    let a = c.in-Err.ensures.appends header payloads payload framed is in
    record { any_moment = a.any_moment; answers = (refl, a.answers) }
