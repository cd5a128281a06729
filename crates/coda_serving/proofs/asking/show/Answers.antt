use Rattle.std.proofs.Common.{◌≡◌, Bool, [], ◌∷◌, ◌++◌, Err, sym, ap, ◌∙◌, subst, arith, rules}
use Rattle.coda_venus.specs.Keeping.{Falls}
use Rattle.coda_venus.specs.Standing.{IsUp}
use Rattle.coda_venus.specs.declared.refused.Refused.TheVariants.{Down, DiskFault, Need}
use Rattle.coda_venus.specs.declared.seen.Seen.{Seen}
use Rattle.coda_serving.specs.Answering.{showing, shown_among, Answered}
use Rattle.coda_serving.specs.Fetching.{nodes_offered}
use Rattle.coda_serving.proofs.Calls.{IsUnderWay, goes_on, ends_so, stops_at}
use Rattle.coda_serving.proofs.Ended.{err_is, seen_need, shown, shown_falls, refused_by}
use Rattle.coda_serving.proofs.asking.show.Goals as goal

pub loop-fid-preserved : goal.loop-fid-preserved
loop-fid-preserved g c =
    let told = g.D.Disk.told in
    let offers = nodes_offered c.args.offers in
    let call = showing c.args.what c.args.volume c.args.path.now in
    let old = c.loop-fid.venus in
    let fid = c.in-Some.fid in
    let need = c.in-Some.ensures.some in
    let same : c.seen_as-said.new.venus ≡ old = c.seen_as-said.ensures.same in
    let pushed : c.push.new.self.items ≡ c.loop-fid.fids.items ++ fid ∷ [] = search rules in
    let inv = c.loop-fid.invariant in
    let first = inv.3 in
    let second = ap (λ v. g.D.Disk.faults v.journal.disk) same in
    let third = c.fetch.ensures.later in (
      λ header history up.
          let u = inv.0 header history up in
          let past = history ++ u.payloads in
          subst (λ fids. IsUnderWay told header offers call history fids c.fetch.new.venus) (sym pushed)
          (goes_on told header offers call history c.loop-fid.fids.items old c.fetch.new.venus fid c.in_ok-fetch-in-Some.field-0 u
          (seen_need told header past old c.args.what c.args.volume c.args.path.now c.seen_as-said.result fid u.up (c.seen_as-said.ensures.seen u.up.up) need)
          (c.in_ok-fetch-in-Some.ensures.ends header past (subst (λ v. IsUp told header v past) (sym same) u.up))),
      λ down. absurd (let no : Down ≡ Need fid = err_is Seen Down (Need fid) (sym (c.seen_as-said.ensures.down (inv.2 ∙ down)) ∙ need) in cc),
      c.in_ok-fetch-in-Some.ensures.falls ∙ ap (λ v. v.down) same ∙ inv.2,
      omega (arith, first, second, third),
      c.fetch.ensures.arms ∙ ap (λ v. g.D.Disk.arms v.journal.disk) same ∙ inv.4,
    )

pub returns-in_err-fetch-in-Some-clause-answered : goal.returns-in_err-fetch-in-Some-clause-answered
returns-in_err-fetch-in-Some-clause-answered g c = λ header history up.
    let told = g.D.Disk.told in
    let offers = nodes_offered c.args.offers in
    let call = showing c.args.what c.args.volume c.args.path.now in
    let old = c.loop-fid.venus in
    let fid = c.in-Some.fid in
    let need = c.in-Some.ensures.some in
    let same : c.seen_as-said.new.venus ≡ old = c.seen_as-said.ensures.same in
    let e = c.in_err-fetch-in-Some.field-0.0 in
    let is : c.from_residual.result ≡ Err e = search rules in
    let u = c.loop-fid.invariant.0 header history up in
    let past = history ++ u.payloads in
    subst (Answered told header offers call history c.fetch.new.venus) (sym is)
    (stops_at told header offers call history (Unit {0}) c.loop-fid.fids.items old c.fetch.new.venus fid e u
    (seen_need told header past old c.args.what c.args.volume c.args.path.now c.seen_as-said.result fid u.up (c.seen_as-said.ensures.seen u.up.up) need)
    (c.in_err-fetch-in-Some.ensures.ends header past (subst (λ v. IsUp told header v past) (sym same) u.up)))

pub returns-in_err-fetch-in-Some-clause-only_down : goal.returns-in_err-fetch-in-Some-clause-only_down
returns-in_err-fetch-in-Some-clause-only_down g c = λ down.
    let same : c.seen_as-said.new.venus ≡ c.loop-fid.venus = c.seen_as-said.ensures.same in
    let e = c.in_err-fetch-in-Some.field-0.0 in
    let is : c.from_residual.result ≡ Err e = search rules in
    sym c.loop-fid.invariant.2 ∙ sym (ap (λ v. v.down) same) ∙ c.in_err-fetch-in-Some.ensures.only_down (ap Err (err_is (Seen × Bool) e Down (sym is ∙ down)))

pub returns-in-None-clause-answered : goal.returns-in-None-clause-answered
returns-in-None-clause-answered g c = λ header history up.
    let told = g.D.Disk.told in
    let offers = nodes_offered c.args.offers in
    let call = showing c.args.what c.args.volume c.args.path.now in
    let old = c.loop-fid.venus in
    let fids = c.loop-fid.fids.items in
    let same : c.seen_as-said.new.venus ≡ old = c.seen_as-said.ensures.same in
    let said : c.shown.result ≡ shown_among fids c.seen_as-said.result = c.shown.ensures ∙ ap (λ f. shown_among f c.seen_as-said.result) c.deref.ensures.value in
    let u = c.loop-fid.invariant.0 header history up in
    let past = history ++ u.payloads in
    subst (Answered told header offers call history c.seen_as-said.new.venus) (sym said)
    (subst (λ v. Answered told header offers call history v (shown_among fids c.seen_as-said.result)) (sym same)
    (ends_so told header offers call history fids old old (shown_among fids c.seen_as-said.result) u
    (shown told header offers past fids old c.args.what c.args.volume c.args.path.now c.seen_as-said.result u.up (c.seen_as-said.ensures.seen u.up.up) (c.needed.ensures.none c.in-None.is))))

pub returns-in-None-clause-only_down : goal.returns-in-None-clause-only_down
returns-in-None-clause-only_down g c = λ down. sym c.loop-fid.invariant.2 ∙ c.seen_as-said.ensures.only_down (refused_by c.deref.result.now c.seen_as-said.result Down (sym c.shown.ensures ∙ down))

pub returns-in-None-clause-falls : goal.returns-in-None-clause-falls
returns-in-None-clause-falls g c =
    let same = ap (λ v. v.down) c.seen_as-said.ensures.same ∙ c.loop-fid.invariant.2 in
    subst (Falls c.args.venus.now.down c.seen_as-said.new.venus.down) (sym c.shown.ensures)
    (subst (λ b. Falls c.args.venus.now.down b (shown_among c.deref.result.now c.seen_as-said.result)) (sym same) (shown_falls c.args.venus.now.down c.deref.result.now c.seen_as-said.result c.seen_as-said.ensures.never))

pub returns-in-None-clause-cause : goal.returns-in-None-clause-cause
returns-in-None-clause-cause g c = λ fault. absurd (c.seen_as-said.ensures.never (refused_by c.deref.result.now c.seen_as-said.result DiskFault (sym c.shown.ensures ∙ fault)))
