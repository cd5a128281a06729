use Rattle.std.proofs.Common.{sym, ap, ◌∙◌, arith}
use Rattle.std.proofs.lemmas.Bool.{true≢false}
use Rattle.coda_fid.specs.Fid.{same_fid}
use Rattle.coda_fid.proofs.Fids.{same_fid_is, same_fid_refl}
use Rattle.coda_cancel.proofs.Between.{none_found, first_found, other_found}
use Rattle.coda_cancel.proofs.mentions.first_between.Goals.{else-eq-via-then-eq+else-mention-last, else-eq-via-else-eq}
use Rattle.coda_cancel.proofs.mentions.first_between.Goals as goal

pub returns-in_default-clause-none : goal.returns-in_default-clause-none
returns-in_default-clause-none c = none_found c.args.index.now c.args.fid c.args.from c.args.last c.range.result (c.range.ensures.in_range tt) c.in_default.ensures.steps.0

pub returns-then-mention-last-clause-some : goal.returns-then-mention-last-clause-some
returns-then-mention-last-clause-some c = first_found c.args.index.now c.args.fid c.args.from c.args.last c.range.result (c.range.ensures.in_range tt) c.in-Some.mention.now _ c.in-Some.ensures.steps (same_fid_is c.in-Some.mention.now.fid c.args.fid (sym c.eq.ensures ∙ c.if-eq.true)) c.if-mention-last.true

pub returns-else-eq-clause-none : goal.returns-else-eq-clause-none
returns-else-eq-clause-none c = other_found c.args.index.now c.args.fid c.args.from c.args.last c.range.result (c.range.ensures.in_range tt) c.in-Some.mention.now _ c.in-Some.ensures.steps
    (λ same below. elim c.else-eq.branch [ else-eq-via-then-eq+else-mention-last w ↦ omega (arith, below, w.if-mention-last.false) | else-eq-via-else-eq w ↦ absurd (true≢false (sym (same_fid_refl c.args.fid) ∙ ap (λ f. same_fid f c.args.fid) (sym same) ∙ sym c.eq.ensures ∙ w.if-eq.false)) ])
