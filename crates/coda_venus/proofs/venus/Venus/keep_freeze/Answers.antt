use Rattle.std.proofs.Common.{◌<◌, rules, refl, arith, ap, sym, subst, ◌∙◌, ◌≡◌, ◌+◌, [], ◌∷◌, length, inl, inr}
use Rattle.std.proofs.Math.Logic.{∥∥₁_map}
use Rattle.std.specs.Prelude.{Err}
use Rattle.coda_record.specs.declared.entry.ClientEntry.TheVariants.{Freeze}
use Rattle.coda_spelling.specs.Spelled.{AreSpelled}
use Rattle.coda_venus.specs.State.{client_after}
use Rattle.coda_venus.specs.History.{Payload, payload_of, payloads_of, state_of, last_to_go}
use Rattle.coda_venus.specs.Code.{IsClient}
use Rattle.coda_venus.specs.Keeping.{IsFull}
use Rattle.coda_venus.specs.declared.client.Client.{Client}
use Rattle.coda_venus.specs.declared.refused.Refused.TheVariants.{Memory}
use Rattle.coda_venus.proofs.Growing.{next_is, may_freeze}
use Rattle.coda_venus.proofs.Keepings.{written, no_memory, not_both}
use Rattle.coda_venus.proofs.SendableLogs.{state_now, is_now, freezes, sendable_after}
use Rattle.coda_venus.proofs.venus.Venus.keep_freeze.Goals as goal

pub returns-in_err-freeze-clause-keeps : goal.returns-in_err-freeze-clause-keeps
returns-in_err-freeze-clause-keeps g c = λ header history up next.
    let old = c.args.self.now in
    let told = g.D.Disk.told in
    let state = state_of header history in
    let e = c.in_err-freeze.field-0.0 in
    let is : c.from_residual-in_err-freeze.result ≡ Err e = search rules in
    let memory : e ≡ Memory = elim (c.in_err-freeze.ensures.refused state up.state) [ inl m ↦ m | inr other ↦ absurd (not_both c.args.next e (sym next ∙ other)) ] in
    no_memory told header old history (Freeze c.args.volume c.args.next.0 c.args.home c.args.next.1 ∷ []) up (λ x h left. g.met.D.Disk.only_now old.journal.disk x h left) _ c.from_residual-in_err-freeze.result
    (is ∙ ap Err memory) refl up.up (c.in_err-freeze.ensures.err state up.state)

pub returns-clause-keeps : goal.returns-clause-keeps
returns-clause-keeps g c = λ header history up next.
    let old = c.args.self.now in
    let told = g.D.Disk.told in
    let state = state_of header history in
    let log = (state.volumes c.args.volume).log in
    let payload : Payload = Freeze c.args.volume c.args.next.0 c.args.home c.args.next.1 ∷ [] in
    let is = next_is log c.args.now c.args.window c.args.next.0 c.args.next.1 next in
    let may = may_freeze header history c.args.volume c.args.home c.args.now c.args.window c.args.next.0 c.args.next.1 up.lawful c.requires.volume c.requires.home is in
    let fits = c.has_room.ensures.fits c.if-not-has_room.false in
    let size = ap length c.in_ok-frame.ensures in
    let room : ¬ IsFull old.journal payload = λ full. omega (arith, full, size, fits) in
    let after : IsClient (client_after state (Freeze c.args.volume c.args.next.0 c.args.home c.args.next.1)) c.freeze.new.self =
    subst (λ n. IsClient (client_after state (Freeze c.args.volume n c.args.home c.args.next.1)) c.freeze.new.self) (sym is.number)
    (subst (λ n. IsClient (client_after state (Freeze c.args.volume (log.chunks + 1) c.args.home n)) c.freeze.new.self) (sym is.ends) (c.in_ok-freeze.ensures.frozen state up.state)) in
    written told header old history payload up may c.write.new.self c.write.result room (subst (λ (k : Client). IsClient (client_after state (Freeze c.args.volume c.args.next.0 c.args.home c.args.next.1)) k) (sym c.write.ensures.same) after)
    c.write.ensures.fault (c.write.ensures.writes header (payloads_of history) (payload_of payload) c.in_ok-frame.ensures up.journal)

pub invariant_of-self : goal.invariant_of-self
invariant_of-self g c =
    let old = c.args.self.now in
    let state = state_now old.client in
    let log = (state.volumes c.args.volume).log in
    record {
      numbered = subst (λ n. n < 256) (sym c.freeze.ensures.number) old.numbered;
      spelled = subst AreSpelled (sym c.freeze.ensures.nodes) old.spelled;
      sendable = ∥∥₁_map old.sendable (λ all. sendable_after c.freeze.result old.client c.freeze.new.self (Freeze c.args.volume (log.chunks + 1) c.args.home (last_to_go c.args.now c.args.window log.segments)) all
          (freezes c.freeze.result log c.args.now c.args.window (c.freeze.ensures.only state (is_now old.client))) (c.freeze.ensures.frozen state (is_now old.client)) (c.freeze.ensures.err state (is_now old.client)));
    }
