use Rattle.std.proofs.Common.{◌≡◌, [], ◌∷◌, ◌++◌, Err, sym, ap, ◌∙◌, subst, arith, rules}
use Rattle.coda_venus.specs.Ask.{asked}
use Rattle.coda_venus.specs.Keeping.{Falls}
use Rattle.coda_venus.specs.Standing.{IsUp}
use Rattle.coda_venus.specs.declared.done.Done.{Done}
use Rattle.coda_venus.specs.declared.refused.Refused.TheVariants.{Down, Need}
use Rattle.coda_serving.specs.Answering.{operating, Answered}
use Rattle.coda_serving.specs.Fetching.{nodes_offered}
use Rattle.coda_serving.proofs.Calls.{goes_on, ends_so, stops_at}
use Rattle.coda_serving.proofs.Ended.{err_is, operated, need_of}
use Rattle.coda_serving.proofs.asking.operate.Goals as goal

pub loop-fid-preserved : goal.loop-fid-preserved
loop-fid-preserved g c =
    let told = g.D.Disk.told in
    let offers = nodes_offered c.args.offers in
    let call = operating c.args.now c.args.volume (asked c.args.ask.now) in
    let old = c.loop-fid.venus in
    let fid = c.in-Some.fid in
    let need = c.in-Some.ensures.some in
    let same : c.operate-said.new.self ≡ old = c.operate-said.ensures.needs fid need in
    let inv = c.loop-fid.invariant in
    let first = inv.3 in
    let second = c.operate-said.ensures.later in
    let third = c.fetch.ensures.later in (
      λ header history up.
          let u = inv.0 header history up in
          let past = history ++ u.1.payloads in (
            u.0 ++ fid ∷ [],
            goes_on told header offers call history u.0 old c.fetch.new.venus fid c.in_ok-fetch-in-Some.field-0 u.1 (need_of told header past old c.operate-said.new.self c.args.now c.args.volume (asked c.args.ask.now) c.operate-said.result fid (c.operate-said.ensures.keeps header past u.1.up) need)
                (c.in_ok-fetch-in-Some.ensures.ends header past (subst (λ v. IsUp told header v past) (sym same) u.1.up)),
          ),
      λ down. absurd (let no : Err Down ≡ Err (Need fid) = sym (c.operate-said.ensures.down (inv.2 ∙ down)).0 ∙ need in cc),
      c.in_ok-fetch-in-Some.ensures.falls ∙ ap (λ v. v.down) same ∙ inv.2,
      omega (arith, first, second, third),
      c.fetch.ensures.arms ∙ c.operate-said.ensures.arms ∙ inv.4,
    )

pub returns-in_err-fetch-in-Some-clause-answered : goal.returns-in_err-fetch-in-Some-clause-answered
returns-in_err-fetch-in-Some-clause-answered g c = λ header history up.
    let told = g.D.Disk.told in
    let offers = nodes_offered c.args.offers in
    let call = operating c.args.now c.args.volume (asked c.args.ask.now) in
    let old = c.loop-fid.venus in
    let fid = c.in-Some.fid in
    let need = c.in-Some.ensures.some in
    let same : c.operate-said.new.self ≡ old = c.operate-said.ensures.needs fid need in
    let e = c.in_err-fetch-in-Some.field-0.0 in
    let is : c.from_residual.result ≡ Err e = search rules in
    let u = c.loop-fid.invariant.0 header history up in
    let past = history ++ u.1.payloads in
    subst (Answered told header offers call history c.fetch.new.venus) (sym is)
    (stops_at told header offers call history (Unit {0}) u.0 old c.fetch.new.venus fid e u.1 (need_of told header past old c.operate-said.new.self c.args.now c.args.volume (asked c.args.ask.now) c.operate-said.result fid (c.operate-said.ensures.keeps header past u.1.up) need)
    (c.in_err-fetch-in-Some.ensures.ends header past (subst (λ v. IsUp told header v past) (sym same) u.1.up)))

pub returns-in_err-fetch-in-Some-clause-only_down : goal.returns-in_err-fetch-in-Some-clause-only_down
returns-in_err-fetch-in-Some-clause-only_down g c = λ down.
    let need = c.in-Some.ensures.some in
    let same : c.operate-said.new.self ≡ c.loop-fid.venus = c.operate-said.ensures.needs c.in-Some.fid need in
    let e = c.in_err-fetch-in-Some.field-0.0 in
    let is : c.from_residual.result ≡ Err e = search rules in
    sym c.loop-fid.invariant.2 ∙ sym (ap (λ v. v.down) same) ∙ c.in_err-fetch-in-Some.ensures.only_down (ap Err (err_is Done e Down (sym is ∙ down)))

pub returns-in-None-clause-answered : goal.returns-in-None-clause-answered
returns-in-None-clause-answered g c = λ header history up.
    let told = g.D.Disk.told in
    let offers = nodes_offered c.args.offers in
    let ask = asked c.args.ask.now in
    let call = operating c.args.now c.args.volume ask in
    let old = c.loop-fid.venus in
    let new = c.operate-said.new.self in
    let said = c.operate-said.result in
    let u = c.loop-fid.invariant.0 header history up in
    let past = history ++ u.1.payloads in
    ends_so told header offers call history u.0 old new said u.1
    (operated told header offers past u.0 old new u.1.up c.args.now c.args.volume ask said (c.needed.ensures.none c.in-None.is) (c.operate-said.ensures.keeps header past u.1.up) (c.operate-said.ensures.done header past u.1.up) c.operate-said.ensures.only_down
    (λ fault. subst (Falls old.down new.down) fault c.operate-said.ensures.falls))
