use Rattle.std.proofs.Common.{sym, ap, ◌∙◌, not}
use Rattle.coda_cancel.proofs.Places.{last_at, last_kept_at}
use Rattle.coda_cancel.proofs.shelf.ends_in_gap.Goals as goal

pub returns-in-Some : goal.returns-in-Some
returns-in-Some c = ap not (c.is_kept.ensures ∙ sym (last_kept_at c.args.slots.now c.in-Some.slot.now (last_at c.args.slots.now c.in-Some.slot.now c.in-Some.ensures.value)))
