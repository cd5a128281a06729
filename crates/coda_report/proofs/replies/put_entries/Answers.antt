use Rattle.std.proofs.Common.{arith}
use Rattle.std.specs.FinMap as map
use Rattle.coda_report.specs.Texts.{entry_line}
use Rattle.coda_report.proofs.ShownBytes.{shown_step, shown_all}
use Rattle.coda_report.proofs.replies.put_entries.Goals as goal

pub loop-index-preserved : goal.loop-index-preserved
loop-index-preserved c =
    shown_step entry_line (map.entries c.args.entries.now) c.loop-index.index (c.unwrap.result.0.now, c.unwrap.result.1) _ _ _ (rw c.unwrap.ensures at c.at.ensures.pair) c.loop-index.invariant c.in_ok-put_entry.ensures

pub returns : goal.returns
returns c = shown_all entry_line (map.entries c.args.entries.now) c.loop-index.index _ _ (omega (arith, c.len-index-end.ensures, map.len-entries c.args.entries.now)) c.loop-index.invariant
