use Rattle.std.proofs.Common.{◌||◌, ◌&&◌, not, ap, ◌∙◌}
use Rattle.std.specs.FinMap as finmap
use Rattle.std.specs.List.{filter}
use Rattle.coda_resolve.specs.Changes.{is_among}
use Rattle.coda_resolve.specs.Counted.{has_fid}
use Rattle.coda_resolve.specs.Resolution.{has_in}
use Rattle.coda_resolve.specs.Views.{objects_of}
use Rattle.coda_resolve.proofs.Counts.{left_entries}
use Rattle.coda_resolve.proofs.doubles.with_entries.Goals as goal

pub returns : goal.returns
returns c = λ f.
    let has = has_in (objects_of c.args.view.now) in
    c.in_ok-all.ensures f
    ∙ (λ i. has_fid c.args.elsewhere f || (is_among ((c.deref-2.ensures.value ∙ c.in_ok-there.ensures ∙ ap (filter has) c.deref.ensures.value) i) f && not (is_among (finmap.values c.args.own.now) f)))
    ∙ ap (λ b. has_fid c.args.elsewhere f || b) (left_entries c.args.own.now c.args.fids.now c.in_ok-left.left.items has c.in_ok-left.ensures f)
