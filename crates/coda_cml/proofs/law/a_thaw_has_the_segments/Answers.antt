use Rattle.std.proofs.Common.{[], ◌++◌}
use Rattle.coda_cancel.specs.Cancel.{fold}
use Rattle.coda_cml.proofs.runs.JoinedNumbers.{cut_fact, cut_test}
use Rattle.coda_cml.proofs.runs.CutsAfterThaw.{cuts}
use Rattle.coda_cml.proofs.law.a_thaw_has_the_segments.Goals as goal

pub returns : goal.returns
returns c = λ j front back s a.
    let k = cuts j front back s a in (
      λ n. let m = k.0 (cut_fact j [] (front ++ back) n) in (cut_test j [] front m.0, cut_test j [] back m.1, cut_test j (fold front) (fold back) m.2),
      λ m. cut_test j [] (front ++ back) (k.1 (cut_fact j [] front m.0, cut_fact j [] back m.1, cut_fact j (fold front) (fold back) m.2)),
    )
