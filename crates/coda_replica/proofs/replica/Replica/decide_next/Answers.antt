use Rattle.std.proofs.Common.{rules, refl, inr, arith, ap, sym, subst, ◌∙◌, ◌≡◌, length}
use Rattle.std.specs.Prelude.{Err, IsSome}
use Rattle.std.specs.FinMap as map
use Rattle.coda_certify.specs.Replay.{replay}
use Rattle.coda_certify.specs.Verdicts.{verdict_of}
use Rattle.coda_record.specs.declared.last.Last.{Last}
use Rattle.coda_replica.specs.State.{ReplicaState}
use Rattle.coda_replica.specs.History.{payload_of, payloads_of}
use Rattle.coda_replica.specs.Deciding.{decision_entry, NextDeciding}
use Rattle.coda_replica.proofs.PutBack.{put_there}
use Rattle.coda_replica.proofs.Growing.{applied_is_shortest}
use Rattle.coda_replica.proofs.Standings.{idle}
use Rattle.coda_replica.proofs.Decides.{next_refused, next_kept}
use Rattle.coda_replica.proofs.Keeps.{never_kept}
use Rattle.coda_replica.proofs.replica.Replica.decide_next.Goals as goal

pub returns-then-not-has_room-clause-decides : goal.returns-then-not-has_room-clause-decides
returns-then-not-has_room-clause-decides g c = λ header history up next.
    let old = c.args.self.now in
    let entry = decision_entry old.decider c.args.client c.args.number c.args.recs.now in
    let full = c.has_room.ensures.full c.if-not-has_room.true in
    let size = ap length c.in_ok-applied.ensures in
    let least = applied_is_shortest c.args.client c.args.number c.args.recs.now (verdict_of (replay old.decider.tree.nodes c.args.client c.args.recs.now)) in
    record {
      any_moment = idle (g.D.Disk.told old.journal.disk) header old.journal.start old.journal.used old.journal.area (payloads_of history) (payload_of entry) up.journal (λ x h left. g.met.D.Disk.only_now old.journal.disk x h left);
      answers = (inr (omega (arith, full, size, least)), (refl, refl, refl));
    }

pub keep_verdict-requires-clause-there : goal.keep_verdict-requires-clause-there
keep_verdict-requires-clause-there g c =
    let old = c.args.self.now in
    let last : Last = record { client = c.args.client; number = c.args.number; verdict = verdict_of (replay old.decider.tree.nodes c.args.client c.args.recs.now) } in
    subst (λ (r : ReplicaState). IsSome (map.get r.lasts c.args.client)) (sym c.in_ok-verdict.ensures.ok) (subst IsSome (sym (put_there old.decider.lasts c.args.client last)) refl)

pub returns-in_err-keep_verdict-clause-decides : goal.returns-in_err-keep_verdict-clause-decides
returns-in_err-keep_verdict-clause-decides g c = λ header history up next.
    let old = c.args.self.now in
    let e = c.in_err-keep_verdict.field-0.0 in
    let is : c.from_residual-in_err-keep_verdict.result ≡ Err e = search rules in
    let w = c.in_err-keep_verdict.ensures in
    subst (NextDeciding g.D.Disk.told header old history c.args.client c.args.number c.args.recs.now c.keep_verdict.new.self) (sym is)
    (next_refused g.D.Disk.told header old history c.args.client c.args.number c.args.recs.now up c.requires.client c.requires.records next c.requires.few c.keep_verdict.new.self c.decide_next.new.self c.in_ok-verdict.was' c.in_ok-verdict.verdict e
    c.in_ok-verdict.ensures.verdict c.in_ok-verdict.ensures.was c.in_ok-verdict.ensures.ok (w.keeps header (payloads_of history) up.journal) w.fullness w.back)

pub returns-in_err-keep_verdict-clause-never : goal.returns-in_err-keep_verdict-clause-never
returns-in_err-keep_verdict-clause-never g c =
    let e = c.in_err-keep_verdict.field-0.0 in
    let is : c.from_residual-in_err-keep_verdict.result ≡ Err e = search rules in
    never_kept c.from_residual-in_err-keep_verdict.result e is c.in_err-keep_verdict.ensures.fault

pub returns-clause-decides : goal.returns-clause-decides
returns-clause-decides g c = λ header history up next.
    let old = c.args.self.now in
    let w = c.in_ok-keep_verdict.ensures in
    next_kept g.D.Disk.told header old history c.args.client c.args.number c.args.recs.now up c.requires.client c.requires.records next c.requires.few c.keep_verdict.new.self c.in_ok-verdict.verdict tt
    c.in_ok-verdict.ensures.verdict (w.same ∙ c.in_ok-verdict.ensures.ok) (w.keeps header (payloads_of history) up.journal) w.fullness
