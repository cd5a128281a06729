use Rattle.std.proofs.Common.{◌++◌, sym, ◌∙◌, subst}
use Rattle.coda_cancel.specs.Numbers.{IsRising}
use Rattle.coda_cancel.specs.Slots.{kept_in}
use Rattle.coda_cancel.proofs.Places.{kept_in_rises}
use Rattle.coda_cancel.proofs.shelf.Shelf.copy.Goals as goal

pub of-requires : goal.of-requires
of-requires c = subst IsRising (sym (c.in_ok-copy_kept.ensures ∙ (λ i. c.new-records.ensures.items i ++ kept_in (c.deref.ensures.value i)))) (kept_in_rises c.self.inside.slots.items c.self.invariant.rising)
