-- A drain where no chunk is frozen is answered by a verdict.
use Rattle.std.proofs.Common.{◌≡◌, ℕ, ◌+◌, ◌<◌, true, false, cond, Option, Some, None, Result, Ok, Err, refl, sym, ap, ◌∙◌, arith}
use Rattle.std.specs.Prelude.{nat_le, nat_lt}
use Rattle.std.proofs.lemmas.Bool.{eq-eqb}
use Rattle.std.proofs.lemmas.Bool.Decides.{nat_tests}
use Rattle.coda_certify.specs.declared.verdict.Verdict.{Verdict}
use Rattle.coda_certify.specs.declared.verdict.Verdict.TheVariants as verdict
use Rattle.coda_certify.specs.Verdicts.{verdict_of}
use Rattle.coda_cml.specs.Segments.{segments_of}
use Rattle.coda_cml.specs.Chunks.{freeze_refusal}
use Rattle.coda_cml.specs.declared.fault.SettleFault.{SettleFault}
use Rattle.coda_cml.specs.declared.fault.SettleFault.TheVariants.{WrongNumber}
use Rattle.coda_replica.specs.Answers.{answer_of, is_next}
use Rattle.coda_script.specs.declared.reply.Answer.{Answer}
use Rattle.coda_script.specs.declared.reply.Answer.TheVariants as reply
use Rattle.coda_script.specs.declared.reply.Reply.TheVariants.{Drained}
use Rattle.coda_plain.specs.Decisions.{Last, decision}
use Rattle.coda_plain.specs.Moves.{done_on}
use Rattle.coda_cell.specs.Asking.{Said}
use Rattle.coda_cell.specs.State.{ClientVolume, ClientState, ReplicaState}
use Rattle.coda_cell.specs.Sending.{Freezing, frozen_now, frozen_unless, freezing_of, freezing, Ruling, decides, ruling_of, ruling, taken, taken_unless, taking, reply_answer, Outcome, answered_to, ruled_on, drained_of, drained}
use Rattle.coda_cell.specs.Runs.{decided_as, DrainsAreDecided}
use Rattle.coda_cell.specs.Refused.{Refused}
use Rattle.coda_cell.specs.Refused as refused
use Rattle.coda_cell.proofs.Histories.{volumes_are, shown, thawed_are, lasts_are}
use Rattle.coda_cell.proofs.KeptCells.{lawful, client_there}
use Rattle.coda_cell.proofs.KeptLines.{replica_there}
use Rattle.coda_cell.proofs.LastChunks.{last_decided}

replied : (v : Verdict) → reply_answer (answer_of v) ≡ reply.Decided v
replied verdict.Applied = refl
replied (verdict.Conflict number why) = refl

-- a chunk that is the next one is frozen, decided and settled
module _ (now window client volume : ℕ) (v : ClientVolume) (r : ReplicaState) (none : v.frozen ≡ None) (free : freeze_refusal None now window (segments_of v.back) ≡ None) (few : v.chunks < 4294967295) (next : is_next (r.lasts client) (v.chunks + 1) ≡ true) where
  abbrev f : Freezing
  f = frozen_now now window r.server v

  abbrev ruled : Ruling
  ruled = decides client f.number f.span r

  freezes : freezing now window r.server v ≡ Ok f
  freezes =
      let room : nat_le 4294967295 v.chunks ≡ false = grind (arith, nat_tests, few) in
      ap (λ o. freezing_of o now window r.server v) none ∙ ap (λ o. frozen_unless o now window r.server v) free
      ∙ ap (λ b. let x : Result Freezing Refused = cond b (Err refused.JournalFull) (Ok (frozen_now now window r.server v)) in x) room

  rules : ruling client f.number f.span r ≡ Ok ruled
  rules =
      let low : nat_lt 4294967295 (v.chunks + 1) ≡ false = grind (arith, nat_tests, few) in
      ap (λ b. ruling_of b (nat_lt 4294967295 f.number) client f.number f.span r) next ∙ ap (λ b. ruling_of true b client f.number f.span r) low

  takes : taking f.number ruled.answer f.volume ≡ Ok (taken f.number ruled.answer f.volume)
  takes = ap (λ b. let o : Option SettleFault = cond b None (Some (WrongNumber f.number f.number)) in taken_unless o f.number ruled.answer f.volume) (eq-eqb f.number f.number refl)

  pub said_is : (drained now window client volume v r).said ≡ decided_as now window client v r
  said_is = ap (λ (o : Outcome). o.said) (ap (drained_of client volume v r) freezes ∙ ap (ruled_on client volume f r) rules ∙ ap (answered_to client volume f ruled) takes)
      ∙ ap (λ (a : Answer). let s : Said = Ok (Drained (v.chunks + 1) a) in s) (replied (verdict_of (decision r.tree.nodes client f.span)))

pub drains_are_decided : DrainsAreDecided
drains_are_decided cell client volume now window c r kept own is at none free few =
    let there = client_there cell kept client c is in
    let home = replica_there cell kept volume r at in
    let history = (cell.acted.clients client).history in
    let deeds = done_on cell.acted client volume in
    let law = lawful cell kept client volume in
    let volume_is : (c.volumes volume) ≡ _ = ap (λ (x : ClientState). x.volumes volume) (sym there.2) ∙ volumes_are client there.0 history volume in
    let thawed = (thawed_are deeds law (sym (ap (λ (v : ClientVolume). v.frozen) volume_is) ∙ none)).0 in
    let chunks = ap (λ (v : ClientVolume). v.chunks) volume_is ∙ (shown deeds law).chunks in
    let last : (r.lasts client).number ≡ (c.volumes volume).chunks =
    ap (λ (x : ReplicaState). (x.lasts client).number) (sym home.2) ∙ ap (λ (l : Last). l.number) (lasts_are home.0 volume (cell.acted.replicas home.0 volume).history client)
    ∙ last_decided cell kept client volume home.0 home.1 own thawed ∙ sym chunks in
    said_is now window client volume (c.volumes volume) r none free few (eq-eqb ((c.volumes volume).chunks + 1) ((r.lasts client).number + 1) (ap (λ n. n + 1) (sym last)))
