-- The entries of a payload are taken up one after the other.
use Rattle.std.proofs.Common.{◌≡◌, ℕ, List, [], ◌∷◌, Result, Ok, Err, refl, sym, subst}
use Rattle.std.specs.Prelude.{OnOk}
use Rattle.coda_record.specs.Entries.{client_payload}
use Rattle.coda_record.specs.Form.{four}
use Rattle.coda_record.specs.Spelling.{Spells}
use Rattle.coda_record.specs.declared.entry.ClientEntry.{ClientEntry}
use Rattle.coda_venus.specs.State.{ClientState, client_after, client_after_all}
use Rattle.coda_venus.specs.History.{Payload, MayEnter, MayEnterAll}
use Rattle.coda_venus.specs.Code.{IsClient}
use Rattle.coda_venus.specs.Entering.{Enters}
use Rattle.coda_venus.specs.declared.client.Client.{Client}

-- Behind some of a payload's entries the client has a state in which the rest may follow exactly where all might.
pub record Took (c : ClientState) (all : Payload) (code : Client) (rest : Payload) : Type 0 where
  pub state : ClientState
  pub is : IsClient state code
  pub leaves : client_after_all c all ≡ client_after_all state rest
  pub to : MayEnterAll state rest → MayEnterAll c all
  pub from : MayEnterAll c all → MayEnterAll state rest

pub took_none : (c : ClientState) (all : Payload) (code : Client) → IsClient c code → Took c all code all
took_none c all code is = record { state = c; is = is; leaves = refl; to = λ may. may; from = λ may. may }

pub took_one : (c : ClientState) (all : Payload) (old new : Client) (entry : ClientEntry) (rest : Payload) → (t : Took c all old (entry ∷ rest)) → MayEnter t.state entry → IsClient (client_after t.state entry) new → Took c all new rest
took_one c all old new entry rest t may is = record {
  state = client_after t.state entry;
  is = is;
  leaves = t.leaves;
  to = λ more. t.to (may, more);
  from = λ more. (t.from more).1;
}

pub took_all : (c : ClientState) (all : Payload) (code : Client) → Took c all code [] → MayEnterAll c all × IsClient (client_after_all c all) code
took_all c all code t = (t.to tt, subst (λ (s : ClientState). IsClient s code) (sym t.leaves) t.is)

pub took_misfit : (c : ClientState) (all : Payload) (code : Client) (entry : ClientEntry) (rest : Payload) → (t : Took c all code (entry ∷ rest)) → (¬ MayEnter t.state entry) → ¬ MayEnterAll c all
took_misfit c all code entry rest t misfit may = misfit (t.from may).0

-- what is taken up of a payload that spells entries
pub enters : {T E : Type 0} (r : Result T E) (c : ClientState) (payload : List ℕ) (entries : Payload) (code : Client) → Spells (client_payload four) payload entries → OnOk r (MayEnterAll c entries) → OnOk r (IsClient (client_after_all c entries) code)
    → OnOk r (Enters c payload code)
enters (Ok x) c payload entries code spells may is = record { entries = entries; spells = spells; may = may; leaves = is }
enters (Err e) c payload entries code spells may is = tt
