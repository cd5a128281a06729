use Rattle.std.proofs.Common.{sym, subst}
use Rattle.std.specs.Prelude.{OnOk}
use Rattle.coda_record.specs.declared.entry.ClientEntry.{ClientEntry}
use Rattle.coda_venus.specs.Code.{IsClient}
use Rattle.coda_venus.specs.State.{client_after}
use Rattle.coda_venus.proofs.client.Client.enter.Goals as goal

pub returns-in-Op-clause-leaves : goal.returns-in-Op-clause-leaves
returns-in-Op-clause-leaves c = λ s is. subst (λ (e : ClientEntry). OnOk c.enter_operated.result (IsClient (client_after s e) c.enter_operated.new.self)) (sym c.in-Op.is) (c.enter_operated.ensures.leaves s is)

pub returns-in-Freeze-clause-leaves : goal.returns-in-Freeze-clause-leaves
returns-in-Freeze-clause-leaves c = λ s is. subst (λ (e : ClientEntry). OnOk c.enter_freeze.result (IsClient (client_after s e) c.enter_freeze.new.self)) (sym c.in-Freeze.is) (c.enter_freeze.ensures.leaves s is)
