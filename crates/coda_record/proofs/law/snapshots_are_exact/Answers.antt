use Rattle.coda_record.specs.Entries.{segment, volume_log_above, volume_logs, cached_after, cached_nodes, client_snapshot}
use Rattle.coda_record.proofs.EntriesAgree.{segment_agrees, volume_log_agrees, volume_logs_agree, cached_agrees, cached_nodes_agree, client_snapshot_agrees}
use Rattle.coda_values.proofs.Offsets.{agreeing_is_exact}
use Rattle.coda_record.proofs.law.snapshots_are_exact.Goals as goal

pub returns-clause-segment : goal.returns-clause-segment
returns-clause-segment c = λ size. agreeing_is_exact (segment size) (segment_agrees size)

pub returns-clause-log : goal.returns-clause-log
returns-clause-log c = λ size before. agreeing_is_exact (volume_log_above size before) (volume_log_agrees size before)

pub returns-clause-logs : goal.returns-clause-logs
returns-clause-logs c = λ size. agreeing_is_exact (volume_logs size) (volume_logs_agree size)

pub returns-clause-cached : goal.returns-clause-cached
returns-clause-cached c = λ size before. agreeing_is_exact (cached_after size before) (cached_agrees size before)

pub returns-clause-nodes : goal.returns-clause-nodes
returns-clause-nodes c = λ size. agreeing_is_exact (cached_nodes size) (cached_nodes_agree size)

pub returns-clause-client : goal.returns-clause-client
returns-clause-client c = λ size. agreeing_is_exact (client_snapshot size) (client_snapshot_agrees size)
