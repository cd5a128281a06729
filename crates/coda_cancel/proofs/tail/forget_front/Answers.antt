use Rattle.std.proofs.Common.{◌++◌, IfSome, subst}
use Rattle.coda_cancel.specs.Mentions.{IsIndexOf}
use Rattle.coda_cancel.proofs.Parts.{rest_indexed}
use Rattle.coda_cancel.proofs.tail.forget_front.Goals as goal

pub returns : goal.returns
returns c =
    let all = c.args.front.now ++ c.args.rest.now.records in
    let indexed = subst (λ o. IfSome o (λ index. IsIndexOf index all)) c.in_ok-index.was c.requires.indexed in
    rest_indexed c.in_ok-index.index c.forget_all.new.index c.args.front.now c.args.rest.now.records c.requires.rising indexed c.forget_all.ensures
