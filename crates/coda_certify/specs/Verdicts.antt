-- The verdict of a replay, and the nodes that it leaves.
use Rattle.std.specs.Prelude.{◌≡◌, Result, Ok, Err}
use Rattle.coda_tree.specs.Volume.{Nodes, Tree}
use Rattle.coda_tree.specs.Drafted.{Drafted, committed, rolled_back}
use Rattle.coda_certify.specs.declared.verdict.Verdict.{Verdict}
use Rattle.coda_certify.specs.declared.verdict.Verdict.TheVariants.{Applied, Conflict}
use Rattle.coda_certify.specs.Replay.{Replayed}

-- applied, or the conflict that the refused record is
abbrev pub verdict_of : Replayed → Verdict
verdict_of (Ok m) = Applied
verdict_of (Err e) = Conflict e.0 e.1

-- all or nothing: a refused record leaves the nodes as they were
abbrev pub nodes_left : Nodes → Replayed → Nodes
nodes_left old (Ok m) = m
nodes_left old (Err e) = old

-- these are the nodes that a replay leaves, where it refuses no record
abbrev pub IsReplayed : Nodes → Replayed → Type 0
IsReplayed n (Ok m) = n ≡ m
IsReplayed n (Err e) = Unit {0}

-- the volume that a draft ends as: with its edits where all records were applied, and else without
abbrev pub ended_of : {E : Type 0} → Drafted → Result Verdict E → Tree
ended_of d (Ok Applied) = committed d
ended_of d (Ok (Conflict number why)) = rolled_back d
ended_of d (Err e) = rolled_back d
