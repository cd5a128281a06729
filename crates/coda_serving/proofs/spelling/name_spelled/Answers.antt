use Rattle.std.proofs.Common.{subst}
use Rattle.coda_record.specs.Spelling.{HasSpelling}
use Rattle.coda_record.specs.Table as table
use Rattle.coda_spelling.proofs.SpelledParts.{name_spelled}
use Rattle.coda_serving.proofs.spelling.name_spelled.Goals as goal

pub returns : goal.returns
returns c = subst (HasSpelling table.name) c.bytes-bytes.ensures.same (name_spelled c.bytes-bytes.result.now c.bytes-bytes.ensures.good)
