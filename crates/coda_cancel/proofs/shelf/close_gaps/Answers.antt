use Rattle.std.proofs.Common.{rules, sym, ap, ◌∙◌, subst}
use Rattle.std.proofs.lemmas.Fn.{filter_same}
use Rattle.coda_cancel.specs.Slots.{kept_in, is_kept, is_last_kept, DoSlotsRise}
use Rattle.coda_cancel.proofs.Places.{kept_in-closed, last_closed, rising_closed}
use Rattle.coda_cancel.proofs.shelf.close_gaps.Goals as goal

pub returns-clause-records : goal.returns-clause-records
returns-clause-records c = ap kept_in (filter_same _ is_kept _ (λ x b f' k. search rules) _ _ c.retain.ensures.filtered) ∙ kept_in-closed c.args.slots.now.items

pub returns-clause-last : goal.returns-clause-last
returns-clause-last c = ap is_last_kept (filter_same _ is_kept _ (λ x b f' k. search rules) _ _ c.retain.ensures.filtered) ∙ last_closed c.args.slots.now.items

pub returns-clause-rising : goal.returns-clause-rising
returns-clause-rising c h = subst DoSlotsRise (sym (filter_same _ is_kept _ (λ x b f' k. search rules) _ _ c.retain.ensures.filtered)) (rising_closed c.args.slots.now.items h)
