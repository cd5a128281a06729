-- No chunk overwrites what somebody else did meanwhile.
use Rattle.coda_versions.proofs.Overwriting.{decisions_overwrite_nobody}
use Rattle.coda_shelves.specs.Cells.{shelves_of}
use Rattle.coda_shelves.proofs.Keeping.{shelves_are_kept}
use Rattle.coda_runs.specs.Headline.{ChunksOverwriteNobody}

pub chunks_overwrite_nobody : ChunksOverwriteNobody
chunks_overwrite_nobody cell kept joins row server volume d front rec back over decides applied sent carried =
    decisions_overwrite_nobody volume d front rec back over ((shelves_are_kept.promised (shelves_of cell) kept.shelves joins).just row server volume d decides).volume_before applied sent carried
