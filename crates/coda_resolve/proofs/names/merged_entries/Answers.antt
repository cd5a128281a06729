use Rattle.std.proofs.Common.{map, option_copied, ap, ◌∙◌, subst}
use Rattle.std.specs.List.{list_any}
use Rattle.std.proofs.lemmas.List.{take_all}
use Rattle.coda_resolve.specs.Lent.{lent}
use Rattle.coda_resolve.specs.Merged.{is_on, first_bindings, IsSettled}
use Rattle.coda_resolve.proofs.Rebound.{settled_merged}
use Rattle.coda_resolve.proofs.names.merged_entries.Goals as goal

pub returns : goal.returns
returns c =
    let copies = map option_copied c.args.copies.now in
    let all = ap lent (take_all c.loop-update.update-index c.args.updates.now c.loop-update-test.false) ∙ c.requires.updates in
    settled_merged copies c.loop-update.entries (subst (λ us. IsSettled copies (λ n. list_any (is_on n) us) (first_bindings copies) c.loop-update.entries) all c.loop-update.invariant)
