-- What a client creates later has no valid copy.
use Rattle.std.proofs.Common.{◌≡◌, ℕ, Bool, true, false, cond, List, Option, Some, None, Ok, refl, ap, ◌∙◌}
use Rattle.coda_fid.specs.declared.fid.Fid.{Fid}
use Rattle.coda_fid.specs.declared.op.Record.{Record}
use Rattle.coda_cancel.proofs.Keys.{fid_other}
use Rattle.coda_walk.specs.Going.{is_listed}
use Rattle.coda_cache.specs.Steps.{new_node}
use Rattle.coda_venus.specs.Accepting.{next_fid, sight_of, accept}
use Rattle.coda_venus.specs.Ask.{Asked}
use Rattle.coda_venus.specs.Serving.{ServingClient, serving}
use Rattle.coda_venus.specs.Rounds.{RoundStep, Looked, Installed, Turned, Performed, Sources, copies_without, accepted}
use Rattle.coda_venus.specs.Rounds.{entries_of_step, serving_after}
use Rattle.coda_venus.proofs.Accepted.{accepted_relies}
use Rattle.coda_rounds.specs.Caches.{IsUncopied}
use Rattle.coda_rounds.specs.Later.{IsLater, StepComesFrom}
use Rattle.coda_rounds.specs.Readiness.{IsAtWork}
use Rattle.coda_rounds.proofs.Later.{later_before_all, next_later}
use Rattle.coda_rounds.proofs.Performing.{made_next, was_accepted}

no_copy : (copies : Fid → Option ℕ) (gone : List Fid) (f : Fid) → copies f ≡ None
    → copies_without copies gone f ≡ None
no_copy copies gone f none = elim (is_listed gone f) as (λ b. cond b None (copies f) ≡ None) [
  | true ↦ refl
  | false ↦ none
]

-- a step copies only what servers have, and they have nothing that the client creates later
pub uncopied_on : (sources : Sources) (s : ServingClient) (step : RoundStep) → IsAtWork sources s
    → StepComesFrom sources step → (volume : ℕ) (f : Fid) → IsLater (serving_after s step).client volume f
    → (serving_after s step).beside.copies f ≡ None
uncopied_on sources s (Looked fids) w comes volume f later = w.uncopied volume f later
uncopied_on sources s (Turned fid server) w comes volume f later = w.uncopied volume f later
uncopied_on sources s (Installed gone fid parent node server) w comes volume f later =
    let step : RoundStep = Installed gone fid parent node server in
    let was : IsLater s.client volume f = later_before_all s.client (entries_of_step step) volume f later in
    ap (λ b. cond b (Some server) (copies_without s.beside.copies gone f))
    (fid_other f fid (λ same. (w.later volume).there f was (node, server) (ap sources same ∙ comes)))
    ∙ no_copy s.beside.copies gone f (w.uncopied volume f was)
uncopied_on sources s (Performed gone at rec) w comes volume f later =
    no_copy s.beside.copies gone f
    (w.uncopied volume f (later_before_all s.client (entries_of_step (Performed gone at rec)) volume f later))

-- what an operation that is accepted makes is the next object, which has no valid copy
pub uncopied_accepted : (sources : Sources) (emulating : Bool) (s : ServingClient) (time volume : ℕ) (ask : Asked)
    (rec : Record) → IsAtWork sources s → accepted emulating s time volume ask ≡ Ok rec → IsUncopied s rec.op
uncopied_accepted sources emulating s time volume ask rec w is dir f made =
    let seen = sight_of (serving emulating s) volume in
    let a = was_accepted (s.client.volumes volume) time (accept seen volume ask) rec is in
    let makes : new_node a.0 ≡ Some (dir, f) = ap (λ (r : Record). new_node r.op) a.2 ∙ made in
    let own : Fid = next_fid (sight_of s.client volume) volume in
    let next : f ≡ own = made_next seen volume a.0 dir f (accepted_relies seen volume ask a.0 a.1) makes in
    ap s.beside.copies next ∙ w.uncopied volume own (next_later s.client volume)
