use Rattle.std.proofs.Common.{rules, refl, arith, ap, sym, subst, ◌≡◌, ◌<◌, ◌≤◌, ◌+◌, [], ◌∷◌, length}
use Rattle.coda_fid.specs.declared.op.Record.{Record}
use Rattle.coda_spelling.specs.Spelled.{IsSpelled}
use Rattle.std.proofs.Math.Logic.{∥∥₁_map}
use Rattle.std.specs.Prelude.{Err}
use Rattle.coda_record.specs.declared.entry.ClientEntry.TheVariants.{Op}
use Rattle.coda_venus.specs.State.{ClientVolume, client_after}
use Rattle.coda_venus.specs.History.{Payload, payload_of, payloads_of, state_of}
use Rattle.coda_venus.specs.Code.{IsClient, MayPerform, held_of}
use Rattle.coda_venus.specs.Keeping.{IsFull}
use Rattle.coda_venus.specs.declared.client.Client.{Client}
use Rattle.coda_venus.specs.declared.refused.Refused.TheVariants.{Memory}
use Rattle.coda_venus.proofs.Growing.{may_operate}
use Rattle.coda_venus.proofs.Entered.{spelled_after}
use Rattle.coda_venus.proofs.Keepings.{written, no_memory}
use Rattle.coda_venus.proofs.SendableLogs.{state_now, is_now, on_ok, sendable_after}
use Rattle.coda_venus.proofs.venus.Venus.keep_operation.Goals as goal

pub returns-in_err-enter_operation-clause-keeps : goal.returns-in_err-enter_operation-clause-keeps
returns-in_err-enter_operation-clause-keeps g c = λ header history up may.
    let old = c.args.self.now in
    let told = g.D.Disk.told in
    let is : c.from_residual-in_err-enter_operation.result ≡ Err Memory = search rules in
    no_memory told header old history (Op c.args.volume c.args.rec ∷ []) up (λ x h left. g.met.D.Disk.only_now old.journal.disk x h left) _ c.from_residual-in_err-enter_operation.result
    is refl up.up (c.in_err-enter_operation.ensures.err (state_of header history) up.state)

pub returns-clause-keeps : goal.returns-clause-keeps
returns-clause-keeps g c = λ header history up may.
    let old = c.args.self.now in
    let told = g.D.Disk.told in
    let state = state_of header history in
    let payload : Payload = Op c.args.volume c.args.rec ∷ [] in
    let follows = may_operate header history c.args.volume c.args.rec c.requires.volume c.requires.spelled may in
    let fits = c.has_room.ensures.fits c.if-not-has_room.false in
    let size = ap length c.in_ok-frame.ensures in
    let room : ¬ IsFull old.journal payload = λ full. omega (arith, full, size, fits) in
    written told header old history payload up follows c.write.new.self c.write.result room
    (subst (λ (k : Client). IsClient (client_after state (Op c.args.volume c.args.rec)) k) (sym c.write.ensures.same) (c.in_ok-enter_operation.ensures.entered state up.state))
    c.write.ensures.fault (c.write.ensures.writes header (payloads_of history) (payload_of payload) c.in_ok-frame.ensures up.journal)

pub invariant_of-self : goal.invariant_of-self
invariant_of-self g c =
    let old = c.args.self.now in
    record {
      numbered = subst (λ n. n < 256) (sym c.enter_operation.ensures.number) old.numbered;
      spelled = spelled_after c.enter_operation.result (held_of old.client) c.enter_operation.new.self.cache.nodes old.client.number c.args.rec c.enter_operation.ensures.nodes c.enter_operation.ensures.nodes_err old.spelled old.numbered c.requires.spelled;
      sendable = ∥∥₁_map old.sendable (λ all. sendable_after c.enter_operation.result old.client c.enter_operation.new.self (Op c.args.volume c.args.rec) all (on_ok c.enter_operation.result _ (may_log c.args.rec c.requires.perform c.requires.spelled))
          (c.enter_operation.ensures.entered (state_now old.client) (is_now old.client)) (c.enter_operation.ensures.err (state_now old.client) (is_now old.client)));
    }
  where
    may_log : {v : ClientVolume} (rec : Record) → MayPerform v rec → IsSpelled rec → (rec.number ≡ v.log.last + 1) × (rec.number ≤ 4294967295) × IsSpelled rec
    may_log rec may is =
        let next = may.next in
        let few = may.few in
        (next, omega (arith, next, few), is)
