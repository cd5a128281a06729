use Rattle.std.proofs.Common.{◌≡◌, ◌==◌, ◌∙◌, sym, ap, map, List, ◌++◌}
use Rattle.coda_fid.specs.declared.fid.Fid.{Fid}
use Rattle.std.specs.List.{filter}
use Rattle.coda_callback.specs.declared.interest.Interest.{Interest}
use Rattle.coda_callback.proofs.Ranges.{range_is}
use Rattle.coda_callback.proofs.kept.fids_of.Goals as goal

pub loop-interest-init : goal.loop-interest-init
loop-interest-init c =
    let is : c.range-interest-items.result ≡ filter (λ (i : Interest). i.client == c.args.client) c.args.kept.now.keys = range_is c.args.kept.now c.args.client _ _ c.range-interest-items.result (c.new.ensures.start ∙ c.least.ensures) (c.new.ensures.end ∙ c.greatest.ensures) (c.range-interest-items.ensures.between c.new.ensures.exhausted) c.requires in
    let fids_in = λ (l : List Interest). map (λ (i : Interest). i.fid) l in
    ap fids_in (sym (c.into_iter-interest-iterator.ensures.into_iter_gives ∙ is)) ∙ sym (ap (λ (fids : List Fid). fids ++ fids_in c.into_iter-interest-iterator.result) c.new-fids.ensures.items)
