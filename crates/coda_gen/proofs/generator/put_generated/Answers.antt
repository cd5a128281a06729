use Rattle.std.proofs.Common.{◌++◌}
use Rattle.std.specs.Prelude.{string_bytes}
use Rattle.coda_gen.specs.Generated.{generated, lines_text}
use Rattle.coda_gen.proofs.Lines.{generated_more}
use Rattle.coda_gen.proofs.generator.put_generated.Goals as goal

pub loop-index-preserved : goal.loop-index-preserved
loop-index-preserved c =
    generated_more c.args.count c.loop-index._index c.loop-index.x c.after-x.result (string_bytes c.args.out.now ++ lines_text (generated c.args.count c.args.start)) (string_bytes c.loop-index.out) (string_bytes c.put_line.new.out)
    c.loop-index-test.true c.after-x.ensures c.loop-index.invariant c.in_ok-put_line.ensures
