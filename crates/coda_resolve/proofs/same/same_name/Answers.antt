use Rattle.coda_resolve.proofs.Sameness.{name_same, name_less, name_greater}
use Rattle.coda_resolve.proofs.same.same_name.Goals as goal

pub returns-in-Equal : goal.returns-in-Equal
returns-in-Equal c = name_same c.args.one.now c.args.other.now c.in-Equal.ensures

pub returns-in-Less : goal.returns-in-Less
returns-in-Less c = name_less c.args.one.now c.args.other.now c.in-Less.ensures

pub returns-in-Greater : goal.returns-in-Greater
returns-in-Greater c = name_greater c.args.one.now c.args.other.now c.in-Greater.ensures
