use Rattle.std.proofs.Common.{◌≡◌, ◌∙◌, sym, ap, subst, option_copied}
use Rattle.coda_fid.specs.Fid.{root_of}
use Rattle.coda_resolve.specs.Views.{volume_of}
use Rattle.coda_resolve.proofs.Lists.{some_none}
use Rattle.coda_repair.specs.Finding.{IsFound}
use Rattle.coda_repair.proofs.Ways.{none_found}
use Rattle.coda_repair.proofs.record.target.Goals as goal

pub returns-in_default-clause-found : goal.returns-in_default-clause-found
returns-in_default-clause-found c = λ top. (
  λ e. absurd (some_none top (sym e)),
  λ f. absurd (none_found c.args.views.now c.args.from (root_of (volume_of c.args.views.now)) c.args.path.now top (sym c.view_of.ensures.view ∙ ap option_copied c.in_default.is) f),
)

pub returns-in-Some-found-clause-found : goal.returns-in-Some-found-clause-found
returns-in-Some-found-clause-found c = λ top.
    let views = c.args.views.now in
    let root : c.root-root.result ≡ root_of (volume_of views) = c.root-root.ensures ∙ ap root_of c.volume_of.ensures in
    let k = c.found.ensures top in (
      λ e. subst (λ r. IsFound views c.args.from r c.args.path.now top) root (subst (λ ns. IsFound views c.args.from c.root-root.result ns top) c.names.ensures.same (k.0 (c.in-Some-found.is ∙ e))),
      λ f. sym c.in-Some-found.is ∙ k.1 (subst (λ ns. IsFound views c.args.from c.root-root.result ns top) (sym c.names.ensures.same) (subst (λ r. IsFound views c.args.from r c.args.path.now top) (sym root) f)),
    )
