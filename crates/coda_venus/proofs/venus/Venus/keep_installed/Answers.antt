use Rattle.std.proofs.Common.{rules, refl, arith, ap, sym, subst, ◌≡◌, ◌<◌, [], ◌∷◌, ◌++◌, length}
use Rattle.std.specs.Prelude.{Err}
use Rattle.coda_record.specs.declared.entry.ClientEntry.TheVariants.{Fetched}
use Rattle.coda_venus.specs.State.{client_after_all}
use Rattle.coda_venus.specs.History.{Payload, payload_of, payloads_of, state_of}
use Rattle.coda_venus.specs.Code.{IsClient}
use Rattle.coda_venus.specs.Keeping.{IsFull}
use Rattle.coda_venus.specs.Logs.{AreSendable}
use Rattle.coda_venus.specs.Rounds.{dropping}
use Rattle.coda_venus.specs.declared.client.Client.{Client}
use Rattle.coda_venus.specs.declared.refused.Refused.TheVariants.{Memory}
use Rattle.coda_venus.proofs.Dropping.{payload_spelled, fetched_spelled}
use Rattle.coda_venus.proofs.Installed.{installed_client, installed_spelled}
use Rattle.coda_venus.proofs.Keepings.{written, no_memory}
use Rattle.coda_venus.proofs.venus.Venus.keep_installed.Goals as goal

pub returns-in_err-take_in-clause-keeps : goal.returns-in_err-take_in-clause-keeps
returns-in_err-take_in-clause-keeps g c = λ header history up may.
    let old = c.args.self.now in
    let told = g.D.Disk.told in
    let is : c.from_residual-in_err-take_in.result ≡ Err Memory = search rules in
    no_memory told header old history (dropping c.args.gone.now ++ Fetched c.args.fid c.args.parent c.args.node ∷ []) up (λ x h left. g.met.D.Disk.only_now old.journal.disk x h left) _ c.from_residual-in_err-take_in.result
    is refl up.up (subst (λ (k : Client). IsClient (state_of header history) k) (sym c.in_err-take_in.ensures.err) up.state)

pub returns-clause-keeps : goal.returns-clause-keeps
returns-clause-keeps g c = λ header history up may.
    let old = c.args.self.now in
    let told = g.D.Disk.told in
    let state = state_of header history in
    let gone = c.args.gone.now in
    let payload : Payload = dropping gone ++ Fetched c.args.fid c.args.parent c.args.node ∷ [] in
    let spelled = payload_spelled gone (Fetched c.args.fid c.args.parent c.args.node) c.in_ok-frame.ensures.few c.in_ok-frame.ensures.spelled (fetched_spelled c.args.fid c.args.parent c.args.node c.fid_spelled.ensures c.parent_spelled.ensures c.requires.node) in
    let fits = c.has_room.ensures.fits c.if-not-has_room.false in
    let size = ap length c.in_ok-frame.ensures.frame in
    let room : ¬ IsFull old.journal payload = λ full. omega (arith, full, size, fits) in
    let taken = c.take_in.new.self in
    let client = installed_client state old.client taken gone c.args.fid c.args.parent c.args.node c.args.from up.state c.agree.ensures c.in_ok-take_in.ensures.rest.0 c.in_ok-take_in.ensures.rest.1 c.in_ok-take_in.ensures.cache may in
    written told header old history payload up (may, spelled) c.write.new.self c.write.result room
    (subst (λ (k : Client). IsClient (client_after_all state payload) k) (sym c.write.ensures.same) client)
    c.write.ensures.fault (c.write.ensures.writes header (payloads_of history) (payload_of payload) c.in_ok-frame.ensures.frame up.journal)

pub invariant_of-self : goal.invariant_of-self
invariant_of-self g c =
    let old = c.args.self.now in
    record {
      numbered = subst (λ n. n < 256) (sym c.take_in.ensures.rest.0) old.numbered;
      spelled = installed_spelled c.take_in.result old.client c.take_in.new.self c.args.gone.now c.args.fid c.args.parent c.args.node c.args.from c.take_in.ensures.cache c.take_in.ensures.err old.spelled c.requires.node;
      sendable = subst (λ logs. ∥ AreSendable logs ∥₁) (sym c.take_in.ensures.rest.1) old.sendable;
    }
