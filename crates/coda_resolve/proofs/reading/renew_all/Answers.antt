use Rattle.std.proofs.Common.{◌≡◌, ◌<◌, ◌+◌, suc, arith, ◌∙◌, None, length, get_or, option_copied, sym, ap, subst}
use Rattle.coda_resolve.specs.Views.{objects_of, replicas_of}
use Rattle.coda_resolve.proofs.Known.{AreUpTo, up_to_none, up_to_more, up_to_all, copy_here, mapped_here, long_copies, set_long}
use Rattle.coda_resolve.proofs.reading.renew_all.Goals as goal

pub loop-at-init : goal.loop-at-init
loop-at-init c = record {
  long = c.requires.long;
  more = λ objects are. up_to_none (replicas_of c.args.views.now) objects c.args.fid c.args.views.now c.args.renewals.now.items are;
}

pub loop-at-preserved : goal.loop-at-preserved
loop-at-preserved c =
    let views = c.args.views.now in
    let replicas = replicas_of views in
    let f = c.args.fid in
    let at = c.loop-at.at in
    let old = c.loop-at.renewals.items in
    let new = c.renew_at.new.renewals.items in
    let copy = c.index-copies-at.result in
    let r = c.in_ok-renew_at.ensures c.requires.fate in
    let long : length c.args.copies.now ≡ length views = long_copies f views c.args.copies.now c.requires.copies in
    let lt : at < length c.args.copies.now = c.loop-at-test.true in
    let within : at < length views = omega (arith, long, lt) in
    let next : suc at ≡ at + 1 = omega arith in
    record {
      long = ap length r.changed ∙ set_long old at r.own ∙ c.loop-at.invariant.long;
      more = λ objects are.
          subst (λ n. AreUpTo replicas objects f n views new) next
          (subst (AreUpTo replicas objects f (suc at) views) (sym r.changed)
          (up_to_more replicas objects f views old at r.own (c.loop-at.invariant.more objects are) within
          (λ view was is was_is renewed. r.renewed (objects_of view) objects was (mapped_here option_copied c.args.copies.now at copy None lt c.index-copies-at.is ∙ ap (λ cs. get_or cs at None) c.requires.copies ∙ copy_here f views at view within is) was_is renewed)));
    }

pub returns : goal.returns
returns c = λ objects are.
    let views = c.args.views.now in
    let long : length c.args.copies.now ≡ length views = long_copies c.args.fid views c.args.copies.now c.requires.copies in
    let ends : c.loop-at.at ≡ length views = let h = c.loop-at-test.false in let k = c.loop-at.auto.at-end in omega (arith, long, h, k) in
    up_to_all (replicas_of views) objects c.args.fid views c.loop-at.renewals.items c.loop-at.at ends (c.loop-at.invariant.more objects are)
