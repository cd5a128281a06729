use Rattle.std.proofs.Common.{◌≡◌, ◌≤◌, List, true}
use Rattle.coda_journal.specs.declared.header.Header.{Header}
use Rattle.coda_venus.specs.History.{Payload}
use Rattle.coda_venus.specs.Standing.{IsUp}
use Rattle.coda_serving.specs.Answering.{showing}
use Rattle.coda_serving.specs.Fetching.{nodes_offered, absent}
use Rattle.coda_serving.proofs.Calls.{IsUnderWay}
use Rattle.coda_serving.proofs.asking.show.Given as goal

-- these objects were fetched; a client that is down is as it was; and only faults are counted more
abbrev pub invariant-loop-fid : goal.invariant-loop-fid
invariant-loop-fid g l =
    ((header : Header) (history : List Payload) → IsUp g.D.Disk.told header l.initial.venus history
    → IsUnderWay g.D.Disk.told header (nodes_offered l.initial.offers) (showing l.initial.what l.initial.volume l.initial.path) history l.fids.items l.venus)
    × (l.initial.venus.down ≡ true → l.venus ≡ l.initial.venus)
    × (l.venus.down ≡ l.initial.venus.down)
    × (g.D.Disk.faults l.initial.venus.journal.disk ≤ g.D.Disk.faults l.venus.journal.disk)
    × (g.D.Disk.arms l.venus.journal.disk ≡ g.D.Disk.arms l.initial.venus.journal.disk)

abbrev pub decreases-loop-fid : goal.decreases-loop-fid
decreases-loop-fid g l = absent (nodes_offered l.initial.offers) l.venus.client.cache.nodes
