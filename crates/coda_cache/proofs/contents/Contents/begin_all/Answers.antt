use Rattle.std.proofs.Common.{take, sym, ap, ◌∙◌, add-one}
use Rattle.coda_cache.specs.Walking.{begun, begun_all}
use Rattle.coda_cache.proofs.Walked.{begun_more}
use Rattle.coda_cache.proofs.contents.Contents.begin_all.Goals as goal

pub loop-put-preserved : goal.loop-put-preserved
loop-put-preserved c =
    let puts = c.args.nodes.now in
    record {
      now = c.in_ok-begin_one.ensures.ok
          ∙ (λ i. begun (c.loop-put.invariant.now i) (c.put-item.is i).0 (c.put-item.is i).1)
          ∙ sym (ap (λ n. begun_all c.args.self.now (take n puts)) (add-one c.loop-put.put-index) ∙ begun_more c.args.self.now puts c.loop-put.put-index c.put-item.result c.loop-put-test.true);
      undone = c.in_ok-begin_one.ensures.undone ∙ c.loop-put.invariant.undone;
    }
