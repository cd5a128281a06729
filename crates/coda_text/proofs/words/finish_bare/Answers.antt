use Rattle.std.proofs.Common.{sym, refl, ◌∙◌, ◌<◌, get_or, length, arith}
use Rattle.coda_text.specs.declared.words.Part.TheVariants.{Bare}
use Rattle.coda_text.proofs.BareWords.{bare_goes_on, bare_breaks, bare_no_end}
use Rattle.coda_text.proofs.Scan.{goes_none, goes_some, word_ends}
use Rattle.coda_text.proofs.words.finish_bare.Goals as goal
use Rattle.coda_text.proofs.words.finish_bare.Goals.{then-loop-at-test+else-is_bare, else-loop-at-test}

pub loop-at-preserved : goal.loop-at-preserved
loop-at-preserved c =
    let line = c.args.line.now in
    let at = c.loop-at.at in
    let inside : at < length line = omega (arith, c.loop-at-test.true) in
    let bare = sym c.is_bare.ensures ∙ c.if-is_bare.true in
    record {
      after = omega arith;
      within = omega (arith, inside);
      same = c.loop-at.invariant.same ∙ goes_some line c.args.start at Bare Bare (omega arith) inside (bare_no_end line at inside bare) (bare_goes_on (get_or line at 0) bare);
    }

pub returns-then-is_end : goal.returns-then-is_end
returns-then-is_end c = (refl, omega arith, omega arith, c.loop-at.invariant.same ∙ word_ends c.args.line.now c.args.start c.loop-at.at Bare (sym c.is_end.ensures.value ∙ c.if-is_end.true) refl)

pub returns-else-is_end : goal.returns-else-is_end
returns-else-is_end c =
    let line = c.args.line.now in
    let at = c.loop-at.at in
    let inside : at < length line = c.if-is_end.ensures.inside in
    elim c.loop-at-test.branch [
      | then-loop-at-test+else-is_bare w ↦ (omega arith, c.loop-at.invariant.same ∙ goes_none line c.args.start at Bare inside (sym c.is_end.ensures.value ∙ c.if-is_end.false) (bare_breaks (get_or line at 0) (sym w.is_bare.ensures ∙ w.if-is_bare.false)))
      | else-loop-at-test w ↦ absurd (omega (arith, inside, w.loop-at-test.false))
    ]
