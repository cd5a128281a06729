use Rattle.std.proofs.Common.{ap, sym, ◌∙◌, subst, arith}
use Rattle.std.proofs.lemmas.Bool.{true≢false}
use Rattle.coda_fid.specs.Fid.{same_fid}
use Rattle.coda_fid.proofs.Fids.{same_fid_is, same_fid_refl}
use Rattle.coda_cancel.specs.Mentions.{AreAhead, IsNext, NoneNext}
use Rattle.coda_cancel.proofs.Ahead.{next_found, rest_ahead, none_ahead}
use Rattle.coda_cancel.proofs.mentions.take_next.Goals.{else-eq-via-then-eq+else-mention-last, else-eq-via-else-eq}
use Rattle.coda_cancel.proofs.mentions.take_next.Goals as goal

pub returns-then-mention-last-clause-some : goal.returns-then-mention-last-clause-some
returns-then-mention-last-clause-some c index after ahead =
    let m = c.in_ok-mention.mention.now in
    let same = same_fid_is m.fid c.args.fid (sym c.eq.ensures ∙ c.if-eq.true) in
    let here = subst (AreAhead index c.args.fid after) c.in_ok-mention.ensures.steps ahead in (
      subst (λ l. IsNext index c.args.fid after l m.number) (sym c.in_ok-last.was) (next_found index c.args.fid after m _ here c.in_ok-last.last same c.if-mention-last.true),
      rest_ahead index c.args.fid after m _ here c.in_ok-last.last same,
    )

pub returns-else-eq-clause-none : goal.returns-else-eq-clause-none
returns-else-eq-clause-none c index after ahead =
    let m = c.in_ok-mention.mention.now in
    let here = subst (AreAhead index c.args.fid after) c.in_ok-mention.ensures.steps ahead in
    subst (NoneNext index c.args.fid after) (sym c.in_ok-last.was) (none_ahead index c.args.fid after m _ here c.in_ok-last.last
    (λ same below. elim c.else-eq.branch [ else-eq-via-then-eq+else-mention-last w ↦ omega (arith, below, w.if-mention-last.false) | else-eq-via-else-eq w ↦ absurd (true≢false (sym (same_fid_refl c.args.fid) ∙ ap (λ f. same_fid f c.args.fid) (sym same) ∙ sym c.eq.ensures ∙ w.if-eq.false)) ]))
