use Rattle.std.proofs.Common.{◌-◌, sym, ◌∙◌, map, option_copied, arith}
use Rattle.coda_resolve.proofs.Gaps.{next_server, this_server, no_server}
use Rattle.coda_resolve.proofs.wrapped.least_absent.Goals as goal

pub loop-origin-preserved : goal.loop-origin-preserved
loop-origin-preserved c =
    let copies = map option_copied c.args.copies.now in
    c.loop-origin.invariant ∙ next_server c.args.logged.now copies c.loop-origin.origin c.loop-origin-test.true (sym c.absent_of.ensures ∙ c.in_default.is)

pub returns-in-Some : goal.returns-in-Some
returns-in-Some c =
    let copies = map option_copied c.args.copies.now in
    sym (c.loop-origin.invariant ∙ this_server c.args.logged.now copies c.loop-origin.origin c.in-Some.seq c.loop-origin-test.true (sym c.absent_of.ensures ∙ c.in-Some.is))

pub returns : goal.returns
returns c =
    let copies = map option_copied c.args.copies.now in
    sym (c.loop-origin.invariant ∙ no_server c.args.logged.now copies (9 - c.loop-origin.origin) (omega (arith, c.loop-origin-test.false)) c.loop-origin.origin)
