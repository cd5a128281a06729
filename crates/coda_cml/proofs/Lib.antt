-- How the laws and the log's calls are proved. Names in these files: `rs` are records, `os` operations of a run, `ks` records
-- that are left of it, `ss` segments, `c` and `g` say where segments may end.
--
-- `runs` speaks of lists of records alone. `thaw` (ThawedFold) is `a_thaw_is_the_fold`: step by step (InStep), where the added
-- record drops others (AlmostAlike, OtherRecords) or undoes a creation (UndoneCreations, WithoutObject). `prefix` (FrontFolds) is
-- `segments_are_their_folds`; `cuts` (CutsAfterThaw) is `a_thaw_has_the_segments`, by what is still there to be dropped
-- (StillThere) and by counting the records up to a number (JoinedCounts). SteadyRest, SteadySteps, TemporaryObjects: the laws of
-- these names.
--
-- `segments` speaks of segments and logs, and has what the calls of `Log` cite. A segment without its count is a range
-- (RangesWithoutCounts); counted again it is a segment of the run (CountedRanges). GrowingRuns and LogSteps: `append`;
-- FrozenFronts and Fronts: `freeze`; ThawedLog: `thaw`; PartedRecords and PartsKept: that segments part the records;
-- LastJoined: that joining the last segments is enough.
--
-- `volumes` replays runs. `additions_sound` (Cancelling) is `additions_are_sound`, from which the other two laws of volumes follow:
-- an operation that drops others (Appending) leaves what it wrote over (Overwritten) out, and one that undoes a creation
-- (Omitting) the object itself (NeverMade, Erasing).
--
-- Mentioning: what coda_cancel says of records that mention an object, in the words of runs.
pub mod Mentioning
pub mod runs
pub mod segments
pub mod volumes
