use Rattle.std.proofs.Common.{List, take, sym, ap, ◌∙◌, add-one}
use Rattle.std.specs.Prelude.{slice_index_or}
use Rattle.std.specs.FinMap as map
use Rattle.coda_fid.specs.declared.fid.Fid.{Fid}
use Rattle.coda_tree.specs.Volume.{Nodes}
use Rattle.coda_cache.specs.State.{Holds}
use Rattle.coda_cache.specs.Uses.{except}
use Rattle.coda_cache.specs.Steps.{taken_from, except_all}
use Rattle.coda_cache.proofs.Taken.{taken_more, except_more}
use Rattle.coda_cache.proofs.operating.take_out_all.Goals as goal

abbrev none : Fid
none = record { volume = 0; vnode = 0; uniq = 0 }

pub loop-fid-preserved : goal.loop-fid-preserved
loop-fid-preserved c =
    let f = slice_index_or c.args.fids.now c.loop-fid.fid-index none in
    record {
      nodes = c.take_out.ensures ∙ ap (λ (m : Nodes). map.remove m f) c.loop-fid.invariant.nodes
          ∙ sym (ap (λ n. taken_from c.args.nodes.now (take n c.args.fids.now)) (add-one c.loop-fid.fid-index) ∙ taken_more c.args.nodes.now c.args.fids.now c.loop-fid.fid-index none c.loop-fid-test.true);
      holds = c.take_out-in-loop-fid.ensures ∙ ap (λ (m : Holds). map.remove m f) c.loop-fid.invariant.holds
          ∙ sym (ap (λ n. taken_from c.args.holds.now (take n c.args.fids.now)) (add-one c.loop-fid.fid-index) ∙ taken_more c.args.holds.now c.args.fids.now c.loop-fid.fid-index none c.loop-fid-test.true);
      recency = c.take_out-in-loop-fid-2.ensures ∙ ap (λ (l : List Fid). except l f) c.loop-fid.invariant.recency
          ∙ sym (ap (λ n. except_all c.args.recency.now (take n c.args.fids.now)) (add-one c.loop-fid.fid-index) ∙ except_more c.args.recency.now c.args.fids.now c.loop-fid.fid-index none c.loop-fid-test.true);
    }
