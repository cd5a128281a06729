use Rattle.std.proofs.Common.{◌≡◌, sym, ap, ◌∙◌}
use Rattle.std.specs.Ordering.{is_eq}
use Rattle.std.proofs.lemmas.Cmp.{nat_list_cmp_total, tied_itself}
use Rattle.std.proofs.lemmas.Map.Lookups.{exact_bytes}
use Rattle.coda_fid.specs.Name.{name_cmp}
use Rattle.coda_tree.proofs.Booleans.{eq_true}
use Rattle.coda_cache.proofs.sizes.is_same_name.Goals as goal

pub returns : goal.returns
returns c =
    let one = c.args.one.now in
    let other = c.args.other.now in
    let is : c.is_eq.result ≡ is_eq (name_cmp one other) = c.is_eq.ensures ∙ ap is_eq c.compare.ensures in (
      λ h. exact_bytes one other (eq_true _ (sym is ∙ h)),
      λ same. is ∙ ap is_eq (ap (name_cmp one) (sym same) ∙ tied_itself nat_list_cmp_total one),
    )
