use Rattle.std.proofs.Common.{◌++◌, List, sym, ap, ◌∙◌, add-one, take, append_assoc}
use Rattle.std.specs.Prelude.{slice_index_or}
use Rattle.coda_fid.specs.declared.fid.Fid.{Fid}
use Rattle.coda_cache.specs.Room.{way_of, with_ancestors}
use Rattle.coda_cache.proofs.Sums.{more_ancestors}
use Rattle.coda_cache.proofs.contents.Contents.add_ways.Goals as goal

pub loop-fid-preserved : goal.loop-fid-preserved
loop-fid-preserved c =
    c.in_ok-add_way.ensures ∙ ap (λ (l : List Fid). l ++ way_of c.args.self.now (slice_index_or c.args.fids.now c.loop-fid.fid-index (record { volume = 0; vnode = 0; uniq = 0 }))) c.loop-fid.invariant
    ∙ append_assoc c.args.kept.now.items (with_ancestors c.args.self.now (take c.loop-fid.fid-index c.args.fids.now)) _
    ∙ ap (λ (l : List Fid). c.args.kept.now.items ++ l)
    (sym (ap (λ n. with_ancestors c.args.self.now (take n c.args.fids.now)) (add-one c.loop-fid.fid-index) ∙ more_ancestors c.args.self.now c.args.fids.now c.loop-fid.fid-index (record { volume = 0; vnode = 0; uniq = 0 }) c.loop-fid-test.true))
