use Rattle.std.proofs.Common.{◌≡◌, IsSome, refl, sym, ap, ◌∙◌, subst}
use Rattle.std.specs.FinMap as map
use Rattle.coda_record.specs.declared.last.Last.{Last}
use Rattle.coda_certify.specs.declared.verdict.Verdict.{Verdict}
use Rattle.coda_certify.specs.declared.verdict.Verdict.TheVariants.{Applied}
use Rattle.coda_certify.specs.Replay.{replay as replayed}
use Rattle.coda_certify.specs.Verdicts.{verdict_of}
use Rattle.coda_replica.specs.State.{Lasts, ReplicaState, put_back, decided}
use Rattle.coda_replica.proofs.PutBack.{put_there, put_over, put_back_was}
use Rattle.coda_replica.proofs.decider.Decider.decide_next.Goals as goal

pub put_back-requires : goal.put_back-requires
put_back-requires c =
    let room : Last = record { client = c.args.client; number = c.args.number; verdict = Applied } in
    subst (λ (m : Lasts). IsSome (map.get m c.args.client)) (sym c.in_ok-was.ensures.ok) (subst IsSome (sym (put_there c.self.inside.lasts c.args.client room)) refl)

pub put_back-requires-in-Err : goal.put_back-requires-in-Err
put_back-requires-in-Err c =
    let room : Last = record { client = c.args.client; number = c.args.number; verdict = Applied } in
    subst (λ (m : Lasts). IsSome (map.get m c.args.client)) (sym c.in_ok-was.ensures.ok) (subst IsSome (sym (put_there c.self.inside.lasts c.args.client room)) refl)

pub returns-in-Ok-clause-ok : goal.returns-in-Ok-clause-ok
returns-in-Ok-clause-ok c =
    let room : Last = record { client = c.args.client; number = c.args.number; verdict = Applied } in
    let last : Last = record { client = c.args.client; number = c.args.number; verdict = c.in-Ok.verdict } in
    let lasts : c.put_back.new.self ≡ map.insert c.self.inside.lasts c.args.client (record { client = c.args.client; number = c.args.number; verdict = verdict_of (replayed c.self.inside.volume.nodes c.args.client c.args.recs.now) }) =
    c.put_back.ensures ∙ ap (λ (m : Lasts). map.insert m c.args.client last) c.in_ok-was.ensures.ok ∙ put_over c.self.inside.lasts c.args.client room last
    ∙ ap (λ (v : Verdict). map.insert c.self.inside.lasts c.args.client (record { client = c.args.client; number = c.args.number; verdict = v })) c.in-Ok.ensures.verdict in
    (λ i. record { server = c.self.inside.server; tree = c.in-Ok.ensures.volume i; lasts = lasts i }) ∙ ap (λ (r : ReplicaState). decided r c.args.client c.args.number c.args.recs.now) c.self.view_is

pub returns-in-Err-clause-err : goal.returns-in-Err-clause-err
returns-in-Err-clause-err c =
    let room : Last = record { client = c.args.client; number = c.args.number; verdict = Applied } in
    let lasts : c.put_back-in-Err.new.self ≡ c.self.inside.lasts =
    c.put_back-in-Err.ensures ∙ ap (λ (m : Lasts). put_back m c.args.client c.in_ok-was.was') c.in_ok-was.ensures.ok ∙ put_back_was c.self.inside.lasts c.args.client room c.in_ok-was.was' c.in_ok-was.ensures.was in
    (λ i. record { server = c.self.inside.server; tree = c.in-Err.ensures.err i; lasts = lasts i }) ∙ c.self.view_is
