use Rattle.std.proofs.Common.{◌++◌, ap, ◌∙◌, take}
use Rattle.std.specs.List.{filter}
use Rattle.coda_reslog.specs.Rings.{last_entries}
use Rattle.coda_resolve.proofs.Followed.{is_new_to, one_more_new}
use Rattle.coda_resolve.proofs.log.push_all_new.Goals as goal

pub loop-index-preserved : goal.loop-index-preserved
loop-index-preserved c = λ known updates are is.
    let log = c.args.log.now in
    let index = c.loop-index.index in
    c.in_ok-push_new.ensures known (updates ++ filter (is_new_to known) (take index log)) are (c.loop-index.invariant known updates are is)
    ∙ ap last_entries (one_more_new known updates log index c.in-Some.update.now c.in-Some.ensures)
