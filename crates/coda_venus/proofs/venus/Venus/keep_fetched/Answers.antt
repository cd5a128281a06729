use Rattle.std.proofs.Common.{rules, refl, arith, ap, sym, subst, ◌≡◌, ◌<◌, [], ◌∷◌, length}
use Rattle.std.proofs.Math.Logic.{∥∥₁_map}
use Rattle.std.specs.Prelude.{Err}
use Rattle.coda_record.specs.declared.entry.ClientEntry.TheVariants.{Fetched}
use Rattle.coda_venus.specs.State.{client_after}
use Rattle.coda_venus.specs.History.{Payload, payload_of, payloads_of, state_of}
use Rattle.coda_venus.specs.Code.{IsClient}
use Rattle.coda_venus.specs.Keeping.{IsFull}
use Rattle.coda_venus.specs.declared.client.Client.{Client}
use Rattle.coda_venus.specs.declared.refused.Refused.TheVariants.{Memory}
use Rattle.coda_venus.proofs.Fetches.{may_fetch, spelled_with}
use Rattle.coda_venus.proofs.Keepings.{written, no_memory}
use Rattle.coda_venus.proofs.SendableLogs.{state_now, is_now, on_ok, sendable_after}
use Rattle.coda_venus.proofs.venus.Venus.keep_fetched.Goals as goal

pub returns-in_err-hold-clause-keeps : goal.returns-in_err-hold-clause-keeps
returns-in_err-hold-clause-keeps g c = λ header history up.
    let old = c.args.self.now in
    let told = g.D.Disk.told in
    let is : c.from_residual-in_err-hold.result ≡ Err Memory = search rules in
    no_memory told header old history (Fetched c.args.fid c.args.parent c.args.node ∷ []) up (λ x h left. g.met.D.Disk.only_now old.journal.disk x h left) _ c.from_residual-in_err-hold.result
    is refl up.up (c.in_err-hold.ensures.err (state_of header history) up.state)

pub returns-clause-keeps : goal.returns-clause-keeps
returns-clause-keeps g c = λ header history up.
    let old = c.args.self.now in
    let told = g.D.Disk.told in
    let state = state_of header history in
    let payload : Payload = Fetched c.args.fid c.args.parent c.args.node ∷ [] in
    let follows = may_fetch header history old.client c.args.fid c.args.parent c.args.node up.state c.requires.absent c.requires.place c.fid_spelled.ensures c.parent_spelled.ensures c.requires.node in
    let fits = c.has_room.ensures.fits c.if-not-has_room.false in
    let size = ap length c.in_ok-frame.ensures in
    let room : ¬ IsFull old.journal payload = λ full. omega (arith, full, size, fits) in
    written told header old history payload up follows c.write.new.self c.write.result room
    (subst (λ (k : Client). IsClient (client_after state (Fetched c.args.fid c.args.parent c.args.node)) k) (sym c.write.ensures.same) (c.in_ok-hold.ensures.entered state up.state))
    c.write.ensures.fault (c.write.ensures.writes header (payloads_of history) (payload_of payload) c.in_ok-frame.ensures up.journal)

pub invariant_of-self : goal.invariant_of-self
invariant_of-self g c =
    let old = c.args.self.now in
    record {
      numbered = subst (λ n. n < 256) (sym c.hold.ensures.number) old.numbered;
      spelled = spelled_with c.hold.result old.client.cache.nodes c.hold.new.self.cache.nodes c.args.fid c.args.node c.hold.ensures.nodes c.hold.ensures.nodes_err old.spelled c.requires.node;
      sendable = ∥∥₁_map old.sendable (λ all. sendable_after c.hold.result old.client c.hold.new.self (Fetched c.args.fid c.args.parent c.args.node) all (on_ok c.hold.result (Unit {0}) tt) (c.hold.ensures.entered (state_now old.client) (is_now old.client))
          (c.hold.ensures.err (state_now old.client) (is_now old.client)));
    }
