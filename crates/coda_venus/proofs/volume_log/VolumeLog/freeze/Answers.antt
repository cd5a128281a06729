use Rattle.std.proofs.Common.{inl, ap, sym, ◌∙◌}
use Rattle.coda_cml.specs.Chunks.{freeze_refusal}
use Rattle.coda_venus.specs.Keeping.{refused_as}
use Rattle.coda_venus.proofs.Chunked.{frozen_volume, only_memory}
use Rattle.coda_venus.proofs.Growing.{next_is}
use Rattle.coda_venus.proofs.volume_log.VolumeLog.freeze.Goals as goal

pub returns-in-Ok-clause-frozen : goal.returns-in-Ok-clause-frozen
returns-in-Ok-clause-frozen c = λ v is.
    let code = c.args.self.now in
    let next = next_is code.log c.args.now c.args.window c.in_ok-next_chunk.field-0.0 c.in_ok-next_chunk.field-0.1 (sym c.in_ok-next_chunk.ensures.next) in
    frozen_volume v code c.args.home c.args.now c.args.window c.freeze.new.self is next.goes c.in_ok-next_chunk.ensures.in_turn c.in-Ok.ensures.log

pub returns-in-Err-clause-refused : goal.returns-in-Err-clause-refused
returns-in-Err-clause-refused c =
    let log = c.args.self.now.log in
    let next = next_is log c.args.now c.args.window c.in_ok-next_chunk.field-0.0 c.in_ok-next_chunk.field-0.1 (sym c.in_ok-next_chunk.ensures.next) in
    inl (c.refused_as.ensures.is ∙ ap refused_as (only_memory (freeze_refusal log.frozen c.args.now c.args.window log.segments) c.in-Err.why next.goes c.in-Err.ensures.causes))
