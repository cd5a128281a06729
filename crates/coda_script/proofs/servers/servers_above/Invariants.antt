use Rattle.std.proofs.Common.{◌≡◌, ◌-◌, ◌≤◌}
use Rattle.coda_script.specs.Reading.{servers_at}
use Rattle.coda_script.proofs.ServerSteps.{with_front}
use Rattle.coda_script.proofs.servers.servers_above.Given as goal

abbrev pub invariant-loop-cursor : goal.invariant-loop-cursor
invariant-loop-cursor l = record {
  small : l.last ≤ 8;
  same : with_front l.items.items (servers_at l.all l.last l.cursor l.cursor.words) ≡ servers_at l.all l.fn.first l.fn.cursor l.fn.cursor.words;
}

abbrev pub decreases-loop-cursor : goal.decreases-loop-cursor
decreases-loop-cursor l = 8 - l.last
