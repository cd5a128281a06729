use Rattle.std.proofs.Common.{◌≡◌, rules, subst}
use Rattle.coda_cml.specs.Partition.{ArePartedBy}
use Rattle.coda_report.specs.LogTexts.{log_text}
use Rattle.coda_report.proofs.ShownLogs.{runs_text, shows_log}
use Rattle.coda_report.proofs.logs.log_text.Goals as goal

pub returns-clause-shown : goal.returns-clause-shown
returns-clause-shown c =
    let log = c.args.log.now in
    let text : c.from_vec.result ≡ log_text log = search rules in
    shows_log log c.from_vec.result (subst (λ l. ArePartedBy l log.chunk) c.segments.ensures.chunk c.segments.ensures.chunk_parts) (subst (λ l. ArePartedBy l log.records) c.segments.ensures.tail c.segments.ensures.tail_parts) text

pub returns-clause-run : goal.returns-clause-run
returns-clause-run c =
    let log = c.args.log.now in
    let text : c.from_vec.result ≡ log_text log = search rules in
    λ front back of. runs_text log c.from_vec.result front back of text
