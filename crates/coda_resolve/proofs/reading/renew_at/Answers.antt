use Rattle.std.proofs.Common.{◌∙◌, refl, sym, subst}
use Rattle.std.specs.FinMap as finmap
use Rattle.std.proofs.lemmas.List.{get_or_default}
use Rattle.std.proofs.lemmas.Result.{on_ok_weaker}
use Rattle.coda_resolve.specs.declared.part.Renewals.{Renewals}
use Rattle.coda_resolve.specs.Copies.{first_some}
use Rattle.coda_resolve.specs.Renewals.{AreRenewed, IsRenewal}
use Rattle.coda_resolve.specs.Resolution.{copies_at}
use Rattle.coda_resolve.specs.Settling.{settled_copy}
use Rattle.coda_resolve.specs.Views.{replicas_of}
use Rattle.coda_resolve.proofs.reading.renew_at.Goals as goal

pub returns : goal.returns
returns c =
    let replicas = replicas_of c.args.views.now in
    let f = c.args.fid in
    let lowest = first_some (copies_at replicas f) in
    let renewal = c.in_ok-renewal.renewal in
    let own = c.index_mut-own.result.now in
    on_ok_weaker c.add_renewal.result
    (λ added fate_is. record {
      own = record { held = c.add_renewal.new.held; touched = c.add_renewal.new.touched };
      changed = refl;
      renewed = λ view objects was copy_is was_is are. added replicas view objects
          (subst (λ fate. IsRenewal (finmap.get view f) (settled_copy fate lowest (finmap.get view f)) renewal) fate_is
          (subst (λ o. IsRenewal o (settled_copy c.args.fate.now lowest o) renewal) copy_is c.in_ok-renewal.ensures))
          (subst (λ (w : Renewals). AreRenewed replicas view objects w.held w.touched.items) (was_is ∙ get_or_default c.args.renewals.now.items c.args.at was own c.requires.at ∙ sym c.index_mut-own.ensures.value) are);
    })
    c.add_renewal.ensures
