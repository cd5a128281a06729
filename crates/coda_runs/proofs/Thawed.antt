-- A drain that is answered by a verdict leaves no chunk frozen.
use Rattle.std.proofs.Common.{◌≡◌, ℕ, List, Option, Some, None, Result, Ok, Err, refl, sym, ap, ◌∙◌}
use Rattle.std.specs.Option.{unwrap_or}
use Rattle.coda_certify.specs.declared.verdict.Verdict.{Verdict}
use Rattle.coda_cml.specs.Steps.{settle_refusal}
use Rattle.coda_cml.specs.declared.fault.SettleFault.{SettleFault}
use Rattle.coda_record.specs.declared.answer.Answer.{Answer}
use Rattle.coda_record.specs.declared.answer.Answer.TheVariants.{Applied, Conflict, Behind, Old}
use Rattle.coda_script.specs.declared.line.Strength.{Strength}
use Rattle.coda_script.specs.declared.line.Strength.TheVariants.{Strong, Weak, Down}
use Rattle.coda_script.specs.declared.line.Task.TheVariants as task
use Rattle.coda_script.specs.declared.line.Line.{Line}
use Rattle.coda_script.specs.declared.line.Line.TheVariants as line
use Rattle.coda_script.specs.declared.reply.Answer.TheVariants.{Decided}
use Rattle.coda_script.specs.declared.reply.Reply.{Reply}
use Rattle.coda_script.specs.declared.reply.Reply.TheVariants.{Drained}
use Rattle.coda_cell.specs.State.{ClientVolume, ClientState, ReplicaState, CellState, Event, after_all, with_volume}
use Rattle.coda_cell.specs.Sending.{Freezing, freezing, Ruling, ruling, Taking, taken, taken_unless, taking, Outcome, reply_answer, answered_to, ruled_on, drained_of, drain}
use Rattle.coda_cell.specs.Steps.{Unless, first_missing, on_holder, reply_to, ByBoth}
use Rattle.coda_cell.specs.Refused.{Refused}
use Rattle.coda_cell.proofs.Events.{drain_left}
use Rattle.coda_cell.proofs.Families.{put_here}
use Rattle.coda_shelves.specs.Cells.{Cell, state_of}
use Rattle.coda_runs.specs.Going.{VerdictsThaw}
use Rattle.coda_runs.proofs.Meeting.{met, clients_as, Ends, WasDown, DidAll, LackedRoom, HadFault, line_ends}

-- ---- what a drain comes to

module _ (client volume number : ℕ) (verdict : Verdict) where
  abbrev IsSaid : Outcome → Type 0
  IsSaid x = (let r : Reply = Drained number (Decided verdict) in r) ≡ reply_to x.said

  -- a verdict that is taken settles the chunk
  settled : (chunk : ℕ) (answer : Answer) (v : ClientVolume) (took : Taking) → taking chunk answer v ≡ Ok took → (let r : Reply = Drained number (Decided verdict) in r) ≡ Drained chunk (reply_answer answer) → took.volume.frozen ≡ None
  settled chunk answer v took t e = by (settle_refusal v.frozen chunk) answer t e
    where
      by : (o : Option SettleFault) (a : Answer) → taken_unless o chunk a v ≡ Ok took → (let r : Reply = Drained number (Decided verdict) in r) ≡ Drained chunk (reply_answer a) → took.volume.frozen ≡ None
      by (Some why) a t e = cc
      by None Applied t e = (let same : taken chunk Applied v ≡ took = cc in ap (λ (x : Taking). x.volume.frozen) (sym same))
      by None (Conflict refused why) t e = (let same : taken chunk (Conflict refused why) v ≡ took = cc in ap (λ (x : Taking). x.volume.frozen) (sym same))
      by None (Behind last) t e = cc
      by None (Old last) t e = cc

  answered_thaws : (f : Freezing) (ruled : Ruling) (o : Result Taking Refused) → taking f.number ruled.answer f.volume ≡ o → IsSaid (answered_to client volume f ruled o) → (answered_to client volume f ruled o).volume.frozen ≡ None
  answered_thaws f ruled (Err why) t e = cc
  answered_thaws f ruled (Ok took) t e = settled f.number ruled.answer f.volume took t e

  ruled_thaws : (f : Freezing) (r : ReplicaState) (o : Result Ruling Refused) → IsSaid (ruled_on client volume f r o) → (ruled_on client volume f r o).volume.frozen ≡ None
  ruled_thaws f r (Err why) e = cc
  ruled_thaws f r (Ok ruled) e = answered_thaws f ruled (taking f.number ruled.answer f.volume) refl e

  drained_thaws : (v : ClientVolume) (r : ReplicaState) (o : Result Freezing Refused) → IsSaid (drained_of client volume v r o) → (drained_of client volume v r o).volume.frozen ≡ None
  drained_thaws v r (Err why) e = cc
  drained_thaws v r (Ok f) e = ruled_thaws f r (ruling client f.number f.span r) e

  drain_thaws : (strength : Strength) (now window : ℕ) (v : ClientVolume) (r : ReplicaState) → IsSaid (drain strength now window client volume v r) → (drain strength now window client volume v r).volume.frozen ≡ None
  drain_thaws Strong now window v r e = drained_thaws v r (freezing now window r.server v) e
  drain_thaws Weak now window v r e = drained_thaws v r (freezing now window r.server v) e
  drain_thaws Down now window v r e = cc

  -- ---- a line

  thaws : (s : CellState) (window : ℕ) (o : Option Refused) (events : List Event) (c : ClientState) → Unless o (ByBoth s client volume window) (Drained number (Decided verdict)) events → (after_all s events).clients client ≡ Some c
      → (c.volumes volume).frozen ≡ None
  thaws s window (Some why) events c does is = (let no = does.0 in cc)
  thaws s window None events c did is =
      let strength = s.links client did.replica.server in
      let outcome = drain strength s.clock window client volume (did.client.volumes volume) did.replica in
      let left = ap (after_all s) did.happened ∙ drain_left s client volume s.clock window did.client did.replica did.client_there did.replica_there strength in
      let made = with_volume did.client volume outcome.volume in
      let here : (let o : Option ClientState = Some c in o) ≡ Some made = sym is ∙ ap (λ (t : CellState). t.clients client) left ∙ put_here s.clients client (Some made) in
      let same : c ≡ made = cc in
      ap (λ (x : ClientState). (x.volumes volume).frozen) same ∙ ap (λ (v : ClientVolume). v.frozen) (put_here did.client.volumes volume outcome.volume) ∙ drain_thaws strength s.clock window (did.client.volumes volume) did.replica did.answered

-- ---- a cell on disks

module _ (old new : Cell) (client volume server : ℕ) (window : Option ℕ) (number : ℕ) (verdict : Verdict) (c : ClientState) where
  abbrev drains : Line
  drains = line.Task (task.Drain client volume server window)

  ended : Ends old drains (Drained number (Decided verdict)) new → (state_of new).clients client ≡ Some c → (c.volumes volume).frozen ≡ None
  ended (WasDown down answered same) is = cc
  ended (DidAll at events does shows) is =
      let s = met old at.links in
      let behind = ap (λ (clients : ℕ → Option ClientState). clients client) (clients_as (after_all s events) new shows) ∙ is in
      thaws client volume number verdict s (unwrap_or window 600) (first_missing (on_holder s client volume server)) events c does behind
  ended (LackedRoom at own events stop does shows answered lacks same) is = cc
  ended (HadFault at own events stop does shows answered same) is = cc

pub verdicts_thaw : VerdictsThaw
verdicts_thaw cell client volume server window number verdict answered new c happens is =
    ended cell new client volume server window number verdict c
    (line_ends cell (line.Task (task.Drain client volume server window)) (Drained number (Decided verdict)) answered new refl happens) is
