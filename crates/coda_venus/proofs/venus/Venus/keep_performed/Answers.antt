use Rattle.std.proofs.Common.{rules, refl, arith, ap, sym, subst, ◌≡◌, ◌<◌, ◌≤◌, ◌+◌, [], ◌∷◌, ◌++◌, length}
use Rattle.std.proofs.Math.Logic.{∥∥₁_map}
use Rattle.std.specs.Prelude.{Err}
use Rattle.coda_fid.specs.declared.op.Record.{Record}
use Rattle.coda_spelling.specs.Spelled.{IsSpelled}
use Rattle.coda_record.specs.declared.entry.ClientEntry.TheVariants.{Op}
use Rattle.coda_venus.specs.State.{ClientVolume, client_after_all}
use Rattle.coda_venus.specs.Held.{Held, held_after_operation, held_after_drops}
use Rattle.coda_venus.specs.History.{Payload, payload_of, payloads_of, state_of}
use Rattle.coda_venus.specs.Code.{IsClient, MayPerform, held_of}
use Rattle.coda_venus.specs.Keeping.{IsFull}
use Rattle.coda_venus.specs.Operating.{MayBegin}
use Rattle.coda_venus.specs.Rounds.{dropping}
use Rattle.coda_venus.specs.declared.client.Client.{Client}
use Rattle.coda_venus.specs.declared.refused.Refused.TheVariants.{Memory}
use Rattle.coda_venus.proofs.Behind.{aside}
use Rattle.coda_venus.proofs.Dropping.{payload_spelled, entry_spelled}
use Rattle.coda_venus.proofs.Growing.{operation_spelled}
use Rattle.coda_venus.proofs.Installed.{performed_spelled, err_nodes}
use Rattle.coda_venus.proofs.Keepings.{written, no_memory}
use Rattle.coda_venus.proofs.SendableLogs.{state_now, is_now, on_ok, sendable_with}
use Rattle.coda_venus.proofs.venus.Venus.keep_performed.Goals as goal

pub returns-in_err-perform-clause-keeps : goal.returns-in_err-perform-clause-keeps
returns-in_err-perform-clause-keeps g c = λ header history up may.
    let old = c.args.self.now in
    let told = g.D.Disk.told in
    let is : c.from_residual-in_err-perform.result ≡ Err Memory = search rules in
    no_memory told header old history (dropping c.args.gone.now ++ Op c.args.volume c.args.rec ∷ []) up (λ x h left. g.met.D.Disk.only_now old.journal.disk x h left) _ c.from_residual-in_err-perform.result
    is refl up.up (c.in_err-perform.ensures.err (state_of header history) up.state)

pub returns-clause-keeps : goal.returns-clause-keeps
returns-clause-keeps g c = λ header history up may.
    let old = c.args.self.now in
    let told = g.D.Disk.told in
    let state = state_of header history in
    let gone = c.args.gone.now in
    let payload : Payload = dropping gone ++ Op c.args.volume c.args.rec ∷ [] in
    let spelled = payload_spelled gone (Op c.args.volume c.args.rec) c.in_ok-frame.ensures.few c.in_ok-frame.ensures.spelled (entry_spelled (Op c.args.volume c.args.rec) (operation_spelled c.args.volume c.args.rec c.requires.volume c.requires.spelled)) in
    let fits = c.has_room.ensures.fits c.if-not-has_room.false in
    let size = ap length c.in_ok-frame.ensures.frame in
    let room : ¬ IsFull old.journal payload = λ full. omega (arith, full, size, fits) in
    written told header old history payload up (may, spelled) c.write.new.self c.write.result room
    (subst (λ (k : Client). IsClient (client_after_all state payload) k) (sym c.write.ensures.same) (aside state gone c.args.volume c.args.rec c.perform.new.self may (subst (λ (h : Held). MayBegin h.nodes c.args.rec.op) (sym up.state.held) c.requires.begin) (c.in_ok-perform.ensures.entered state up.state)))
    c.write.ensures.fault (c.write.ensures.writes header (payloads_of history) (payload_of payload) c.in_ok-frame.ensures.frame up.journal)

pub invariant_of-self : goal.invariant_of-self
invariant_of-self g c =
    let old = c.args.self.now in
    let made = c.perform.new.self in
    record {
      numbered = subst (λ n. n < 256) (sym c.perform.ensures.number) old.numbered;
      spelled = performed_spelled c.perform.result (held_of old.client) made.cache.nodes c.args.gone.now old.client.number c.args.rec c.perform.ensures.nodes (err_nodes c.perform.result made.cache old.client.cache c.perform.ensures.cache_err) old.spelled old.numbered c.requires.spelled;
      sendable = ∥∥₁_map old.sendable (λ all. sendable_with c.perform.result old.client made (Op c.args.volume c.args.rec) (held_after_drops (held_after_operation (held_of old.client) old.client.number c.args.rec) c.args.gone.now) all
          (on_ok c.perform.result _ (may_log c.args.rec c.requires.perform c.requires.spelled)) (c.perform.ensures.entered (state_now old.client) (is_now old.client)) (c.perform.ensures.err (state_now old.client) (is_now old.client)));
    }
  where
    may_log : {v : ClientVolume} (rec : Record) → MayPerform v rec → IsSpelled rec → (rec.number ≡ v.log.last + 1) × (rec.number ≤ 4294967295) × IsSpelled rec
    may_log rec may is =
        let next = may.next in
        let few = may.few in
        (next, omega (arith, next, few), is)
