use Rattle.std.proofs.Common.{◌∙◌, ap, ap₂, arith, eqb}
use Rattle.coda_vv.specs.Vector.{compared}
use Rattle.coda_vv.proofs.Lanes.{includes_where_clear}
use Rattle.coda_vv.proofs.vector.Vv.compare.Goals as goal

pub returns : goal.returns
returns c =
    let first = includes_where_clear c.args.self.now.0 c.args.other.now.0 (omega arith) in
    let second = includes_where_clear c.args.other.now.0 c.args.self.now.0 (omega arith) in
    c.compared.ensures ∙ ap₂ compared (ap (λ n. eqb n 0) c.compare8-masks.ensures.less ∙ first) (ap (λ n. eqb n 0) c.compare8-masks.ensures.greater ∙ second)
