use Rattle.std.proofs.Common.{sym, ◌∙◌}
use Rattle.coda_cancel.proofs.Places.{searched_here}
use Rattle.coda_cancel.proofs.shelf.position.Goals as goal

pub returns-then-number-clause-place : goal.returns-then-number-clause-place
returns-then-number-clause-place c front slot back e is = searched_here c.args.slots.now c.args.number c.place_behind_first-behind.result front slot back c.requires.rising e is c.place_behind_first-behind.ensures c.index-slots-behind.result c.index-slots-behind.is (sym c.number.ensures ∙ c.if-number.true)

pub returns-then-number-2-clause-place : goal.returns-then-number-2-clause-place
returns-then-number-2-clause-place c front slot back e is = searched_here c.args.slots.now c.args.number c.place_before_last-before.result front slot back c.requires.rising e is c.place_before_last-before.ensures c.index-slots-before.result c.index-slots-before.is (sym c.number-2.ensures ∙ c.if-number-2.true)
