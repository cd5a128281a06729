use Rattle.std.proofs.Common.{◌||◌, ◌&&◌, map, option_copied, sym, ◌∙◌}
use Rattle.std.specs.List.{list_any, zip}
use Rattle.coda_fid.specs.Fid.{same_fid}
use Rattle.coda_resolve.specs.Causes.{is_elsewhere}
use Rattle.coda_resolve.specs.Counted.{has_fid}
use Rattle.coda_resolve.specs.Resolution.{copies_at}
use Rattle.coda_resolve.specs.Views.{replicas_of}
use Rattle.coda_resolve.proofs.Counts.{doubles_found}
use Rattle.coda_resolve.proofs.doubles.least_double.Goals as goal

pub returns : goal.returns
returns c =
    let copies = map option_copied c.args.copies.now in
    let look = copies_at (replicas_of c.args.views.now) in
    doubles_found copies look c.args.entries.now _ c.in_ok-twice.twice c.in_ok-lost.lost c.in_ok-elsewhere.elsewhere c.deref.result.now c.deref-3.result.now c.least_in.result
    c.requires.entries c.requires.updates (c.deref.ensures.value ∙ c.in_ok-fids.ensures) (c.deref-3.ensures.value ∙ c.in_ok-fids.ensures) c.in_ok-twice.ensures c.in_ok-lost.ensures
    (λ f. c.in_ok-elsewhere.ensures f ∙ (λ i. has_fid (record { keys = c.new.ensures.empty i }) f || (list_any (same_fid f) ((c.deref-2.ensures.value ∙ sym c.deref.ensures.value) i) && list_any (is_elsewhere f) (zip copies (look f)))))
    c.least_in.ensures
