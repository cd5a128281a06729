use Rattle.std.proofs.Common.{◌∙◌, ap, not}
use Rattle.std.specs.List.{filter}
use Rattle.coda_resolve.specs.Changes.{is_among}
use Rattle.coda_resolve.proofs.Assembled.{left_renewed}
use Rattle.coda_resolve.proofs.part.without.Goals as goal

pub returns : goal.returns
returns c = λ views view objects are.
    left_renewed views view objects c.args.others.now c.args.own.held c.forget.new.held c.args.own.touched.items c.in_ok-touched.touched.items c.forget.ensures
    (c.in_ok-touched.ensures ∙ ap (filter (λ f. not (is_among c.args.others.now f))) c.deref.ensures.value) are
