use Rattle.std.proofs.Common.{◌≡◌, ◌∙◌, option_copied, map, true, sym, ap, subst}
use Rattle.coda_resolve.specs.Resolution.{copies_at, fate_at}
use Rattle.coda_resolve.specs.Settling.{fate}
use Rattle.coda_resolve.specs.Survey.{AreAlike, AreThere, is_plain}
use Rattle.coda_resolve.specs.Views.{replicas_of}
use Rattle.coda_resolve.proofs.Known.{known_alike, none_read, one_read}
use Rattle.coda_resolve.proofs.Others.{stays_alike}
use Rattle.coda_resolve.proofs.reading.read_object.Goals as goal

pub returns-then-are_alike : goal.returns-then-are_alike
returns-then-are_alike c =
    let replicas = replicas_of c.args.views.now in
    none_read c.args.views.now c.args.fid c.args.changed.now.items c.args.renewals.now.items true
    (λ t. let s = stays_alike replicas c.args.fid (map option_copied c.in_ok-copies.copies.items) c.in_ok-copies.ensures (subst AreAlike (ap (map option_copied) c.deref.ensures.value) (c.are_alike.ensures c.if-are_alike.true)) in known_alike replicas c.args.changed.now.items c.args.fid s.0 s.1)

pub returns : goal.returns
returns c =
    let replicas = replicas_of c.args.views.now in
    let f = c.args.fid in
    let is : c.in_ok-fate.fate ≡ fate_at replicas f = c.in_ok-fate.ensures ∙ ap (λ cs. fate (map option_copied cs) (copies_at replicas)) c.deref-3.ensures.value ∙ ap (λ cs. fate cs (copies_at replicas)) c.in_ok-copies.ensures in
    one_read c.args.views.now f c.args.changed.now.items c.push.new.self.items c.args.renewals.now.items c.renew_all.new.renewals.items c.in_ok-push.ensures.items
    (record {
      there = subst AreThere (ap (map option_copied) c.deref-2.ensures.value ∙ c.in_ok-copies.ensures) (c.are_there.ensures c.if-not-are_there.false);
      plain = ap is_plain (sym is) ∙ sym c.is_plain.ensures ∙ c.if-not-is_plain.false;
    })
    c.in_ok-renew_all.ensures
