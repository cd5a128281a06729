use Rattle.std.proofs.Common.{Option, map, option_copied, sym, ap, ◌∙◌, subst}
use Rattle.std.proofs.lemmas.Result.{on_ok_weaker}
use Rattle.coda_tree.specs.Bindings.{Name}
use Rattle.coda_resolve.specs.Merged.{is_name_of, flat, IsSettled}
use Rattle.coda_resolve.proofs.Rebound.{settles_name}
use Rattle.coda_resolve.proofs.names.settle_name.Goals as goal

pub returns-in-Some : goal.returns-in-Some
returns-in-Some c =
    let copies = map option_copied c.args.copies.now in
    on_ok_weaker c.rebind.result
    (λ bound. subst (λ (o : Option Name). IsSettled copies (λ n. is_name_of n o) c.args.entries.now c.rebind.new.entries) (sym c.in-Some.is)
    (settles_name copies c.args.entries.now c.rebind.new.entries c.in-Some.name c.flat.result (c.flat.ensures ∙ ap flat c.binding.ensures) bound))
    c.rebind.ensures
