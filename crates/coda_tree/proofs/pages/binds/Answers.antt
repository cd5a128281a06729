use Rattle.std.proofs.Common.{◌+◌, drop, sym, ap, ◌∙◌, ◌||◌, arith}
use Rattle.std.proofs.Math.ListN.{drop_of_length-le}
use Rattle.coda_tree.specs.Pages.{Pages, all_pairs, any_binds}
use Rattle.coda_tree.proofs.Binds.{binds_next}
use Rattle.coda_tree.proofs.pages.binds.Goals as goal

pub returns-then-binds_in : goal.returns-then-binds_in
returns-then-binds_in c =
    let pages = c.args.pages.now in
    let i = c.loop-page.page-index in
    let here = sym (ap (any_binds c.args.fid) c.deref.ensures.value) ∙ sym c.binds_in.ensures ∙ c.if-binds_in.true in
    sym (c.loop-page.invariant ∙ binds_next c.args.fid pages i c.page-item.result (omega (arith, c.loop-page-test.true)) c.page-item.is ∙ ap (λ b. b || any_binds c.args.fid (all_pairs (drop (i + 1) pages))) here)

pub loop-page-preserved : goal.loop-page-preserved
loop-page-preserved c =
    let pages = c.args.pages.now in
    let i = c.loop-page.page-index in
    let here = sym (ap (any_binds c.args.fid) c.deref.ensures.value) ∙ sym c.binds_in.ensures ∙ c.if-binds_in.false in
    c.loop-page.invariant ∙ binds_next c.args.fid pages i c.page-item.result (omega (arith, c.loop-page-test.true)) c.page-item.is ∙ ap (λ b. b || any_binds c.args.fid (all_pairs (drop (i + 1) pages))) here

pub returns : goal.returns
returns c = sym (c.loop-page.invariant ∙ ap (λ (p : Pages). any_binds c.args.fid (all_pairs p)) (drop_of_length-le c.args.pages.now c.loop-page-test.false))
