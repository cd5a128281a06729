use Rattle.std.proofs.Common.{◌<◌, rules, refl, arith, ap, sym, subst, ◌∙◌, ◌≡◌, [], ◌∷◌, length, inl, inr}
use Rattle.std.proofs.Math.Logic.{∥∥₁_map}
use Rattle.std.specs.Prelude.{Err, option_map}
use Rattle.std.proofs.lemmas.Option.{none-some}
use Rattle.coda_record.specs.declared.entry.ClientEntry.TheVariants.{Settled}
use Rattle.coda_spelling.specs.Spelled.{AreSpelled}
use Rattle.coda_venus.specs.State.{client_after}
use Rattle.coda_venus.specs.History.{Payload, payload_of, payloads_of, state_of}
use Rattle.coda_venus.specs.Code.{IsClient}
use Rattle.coda_venus.specs.Keeping.{IsFull, unsettled_as}
use Rattle.coda_venus.specs.declared.client.Client.{Client}
use Rattle.coda_venus.specs.declared.refused.Refused.TheVariants.{Memory}
use Rattle.coda_venus.proofs.Growing.{may_settle}
use Rattle.coda_venus.proofs.Keepings.{written, no_memory}
use Rattle.coda_venus.proofs.SendableLogs.{state_now, is_now, on_ok, sendable_after}
use Rattle.coda_venus.proofs.venus.Venus.keep_settled.Goals as goal

pub returns-in_err-settle-clause-keeps : goal.returns-in_err-settle-clause-keeps
returns-in_err-settle-clause-keeps g c = λ header history up free.
    let old = c.args.self.now in
    let told = g.D.Disk.told in
    let state = state_of header history in
    let e = c.in_err-settle.field-0.0 in
    let is : c.from_residual-in_err-settle.result ≡ Err e = search rules in
    let memory : e ≡ Memory = elim (c.in_err-settle.ensures.refused state up.state) [ inl m ↦ m | inr other ↦ absurd (none-some e (ap (option_map unsettled_as) (sym free) ∙ other)) ] in
    no_memory told header old history (Settled c.args.volume c.args.number c.args.verdict.now ∷ []) up (λ x h left. g.met.D.Disk.only_now old.journal.disk x h left) _ c.from_residual-in_err-settle.result
    (is ∙ ap Err memory) refl up.up (c.in_err-settle.ensures.err state up.state)

pub returns-clause-keeps : goal.returns-clause-keeps
returns-clause-keeps g c = λ header history up free.
    let old = c.args.self.now in
    let told = g.D.Disk.told in
    let state = state_of header history in
    let payload : Payload = Settled c.args.volume c.args.number c.args.verdict.now ∷ [] in
    let may = may_settle header history c.args.volume c.args.number c.args.verdict.now up.lawful c.requires.volume c.requires.verdict free in
    let fits = c.has_room.ensures.fits c.if-not-has_room.false in
    let size = ap length c.in_ok-frame.ensures in
    let room : ¬ IsFull old.journal payload = λ full. omega (arith, full, size, fits) in
    written told header old history payload up may c.write.new.self c.write.result room
    (subst (λ (k : Client). IsClient (client_after state (Settled c.args.volume c.args.number c.args.verdict.now)) k) (sym c.write.ensures.same) (c.in_ok-settle.ensures.settled state up.state))
    c.write.ensures.fault (c.write.ensures.writes header (payloads_of history) (payload_of payload) c.in_ok-frame.ensures up.journal)

pub invariant_of-self : goal.invariant_of-self
invariant_of-self g c = record {
  numbered = subst (λ n. n < 256) (sym c.settle.ensures.number) c.args.self.now.numbered;
  spelled = subst AreSpelled (sym c.settle.ensures.nodes) c.args.self.now.spelled;
  sendable = ∥∥₁_map c.args.self.now.sendable (λ all. sendable_after c.settle.result c.args.self.now.client c.settle.new.self (Settled c.args.volume c.args.number c.args.verdict.now) all (on_ok c.settle.result (Unit {0}) tt)
      (c.settle.ensures.settled (state_now c.args.self.now.client) (is_now c.args.self.now.client)) (c.settle.ensures.err (state_now c.args.self.now.client) (is_now c.args.self.now.client)));
}
