use Rattle.std.proofs.Common.{◌≡◌, ◌≤◌, List, true}
use Rattle.coda_fid.specs.declared.fid.Fid.{Fid}
use Rattle.coda_journal.specs.declared.header.Header.{Header}
use Rattle.coda_venus.specs.Ask.{asked}
use Rattle.coda_venus.specs.History.{Payload}
use Rattle.coda_venus.specs.Standing.{IsUp}
use Rattle.coda_serving.specs.Answering.{operating}
use Rattle.coda_serving.specs.Fetching.{nodes_offered, absent}
use Rattle.coda_serving.proofs.Calls.{IsUnderWay}
use Rattle.coda_serving.proofs.asking.operate.Given as goal

-- objects were fetched for the operation; a client that is down is as it was; and only faults are counted more
abbrev pub invariant-loop-fid : goal.invariant-loop-fid
invariant-loop-fid g l =
    ((header : Header) (history : List Payload) → IsUp g.D.Disk.told header l.initial.venus history
    → (fids : List Fid) × IsUnderWay g.D.Disk.told header (nodes_offered l.initial.offers) (operating l.initial.now l.initial.volume (asked l.initial.ask)) history fids l.venus)
    × (l.initial.venus.down ≡ true → l.venus ≡ l.initial.venus)
    × (l.venus.down ≡ l.initial.venus.down)
    × (g.D.Disk.faults l.initial.venus.journal.disk ≤ g.D.Disk.faults l.venus.journal.disk)
    × (g.D.Disk.arms l.venus.journal.disk ≡ g.D.Disk.arms l.initial.venus.journal.disk)

abbrev pub decreases-loop-fid : goal.decreases-loop-fid
decreases-loop-fid g l = absent (nodes_offered l.initial.offers) l.venus.client.cache.nodes
