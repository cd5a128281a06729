use Rattle.std.proofs.Common.{◌∙◌, sym, subst}
use Rattle.std.proofs.lemmas.Bool.{true≢false}
use Rattle.coda_resolve.proofs.Lists.{some_none}
use Rattle.coda_repair.specs.Finding.{IsFound}
use Rattle.coda_repair.proofs.Ways.{some_same, found_walked}
use Rattle.coda_repair.proofs.finding.found.Goals as goal

pub returns-in_default : goal.returns-in_default
returns-in_default c = λ top. (
  λ e. absurd (some_none top (sym e)),
  λ f. absurd (some_none top (sym (found_walked c.args.views.now c.args.from c.args.root c.args.names.now top c.args.right.now c.requires.source f) ∙ sym c.walked.ensures ∙ c.in_default.is)),
)

pub returns-then-is_found : goal.returns-then-is_found
returns-then-is_found c = λ top. (
  λ e. subst (IsFound c.args.views.now c.args.from c.args.root c.args.names.now) (some_same c.in-Some.top top e) (c.is_found.ensures.0 c.if-is_found.true),
  λ f. sym c.in-Some.is ∙ c.walked.ensures ∙ found_walked c.args.views.now c.args.from c.args.root c.args.names.now top c.args.right.now c.requires.source f,
)

pub returns-else-is_found : goal.returns-else-is_found
returns-else-is_found c = λ top. (
  λ e. absurd (some_none top (sym e)),
  λ f. absurd (true≢false (sym (c.is_found.ensures.1 (subst (IsFound c.args.views.now c.args.from c.args.root c.args.names.now) (sym (some_same c.in-Some.top top (sym c.in-Some.is ∙ c.walked.ensures ∙ found_walked c.args.views.now c.args.from c.args.root c.args.names.now top c.args.right.now c.requires.source f))) f)) ∙ c.if-is_found.false)),
)
