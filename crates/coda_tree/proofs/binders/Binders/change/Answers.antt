use Rattle.std.proofs.Common.{sym, ap, ◌∙◌}
use Rattle.coda_tree.specs.declared.binders.Bound.TheVariants.{Nowhere}
use Rattle.coda_tree.specs.Binders.{bound_after}
use Rattle.coda_tree.proofs.Known.{kept_after}
use Rattle.coda_tree.proofs.binders.Binders.change.Goals as goal

pub returns-in-Nowhere : goal.returns-in-Nowhere
returns-in-Nowhere c = kept_after c.args.self.now c.forget.new.self c.args.fid c.args.change Nowhere (sym c.in-Nowhere.is ∙ c.after.ensures ∙ ap (bound_after c.args.change) c.get.ensures) c.forget.ensures

pub returns-in_default : goal.returns-in_default
returns-in_default c = kept_after c.args.self.now c.keep.new.self c.args.fid c.args.change c.after.result (c.after.ensures ∙ ap (bound_after c.args.change) c.get.ensures) c.keep.ensures
