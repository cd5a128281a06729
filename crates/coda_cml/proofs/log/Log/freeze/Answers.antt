use Rattle.std.proofs.Common.{◌≡◌, ◌+◌, ◌<◌, ◌≤◌, length, sym, ap, ◌∙◌, subst}
use Rattle.std.proofs.lemmas.List.{length-take-le}
use Rattle.coda_cml.specs.Chunks.{chunk_length}
use Rattle.coda_cml.specs.Fronts.{chunk_end}
use Rattle.coda_cml.specs.Longest.{IsChunk}
use Rattle.coda_cml.specs.Segments.{records_upto, records_above}
use Rattle.coda_cml.specs.State.{LogState, IsLogOf}
use Rattle.coda_cml.specs.Steps.{frozen_at}
use Rattle.coda_cml.proofs.segments.FrozenFronts.{may_go}
use Rattle.coda_cml.proofs.segments.Fronts.{cut_of_run}
use Rattle.coda_cml.proofs.segments.LongestFront.{chunks_are_longest}
use Rattle.coda_cml.proofs.log.Log.freeze.Goals as goal

pub cut-requires-clause-some : goal.cut-requires-clause-some
cut-requires-clause-some c =
    let segments = c.deref.ensures.value ∙ ap (λ (log : LogState). log.segments) c.self.view_is in
    let counted = c.chunk_length-length.ensures.count ∙ ap (chunk_length c.args.now c.args.window c.args.cap) segments in
    subst (λ n. 0 < n) (sym counted) (may_go c.args.self.now.frozen c.args.now c.args.window c.args.cap c.args.self.now.segments (sym c.refusal.ensures.cause ∙ c.in_default.is)).0

pub returns-in-Ok-clause-longest : goal.returns-in-Ok-clause-longest
returns-in-Ok-clause-longest c =
    let segments = c.deref.ensures.value ∙ ap (λ (log : LogState). log.segments) c.self.view_is in
    let counted : c.chunk_length-length.result ≡ chunk_length c.args.now c.args.window c.args.cap c.args.self.now.segments =
    c.chunk_length-length.ensures.count ∙ ap (chunk_length c.args.now c.args.window c.args.cap) segments in
    let within : c.chunk_length-length.result ≤ length c.args.self.now.segments = subst (λ l. c.chunk_length-length.result ≤ length l) segments c.chunk_length-length.ensures.within in
    let same = ap (λ (log : LogState). length log.chunk_segments) c.in-Ok.ensures.log in
    subst (IsChunk c.args.now c.args.window c.args.cap c.args.self.now.segments) (sym (same ∙ length-take-le c.chunk_length-length.result c.args.self.now.segments within ∙ counted))
    (chunks_are_longest c.args.now c.args.window c.args.cap c.args.self.now.segments)

pub returns-in-Ok-clause-run : goal.returns-in-Ok-clause-run
returns-in-Ok-clause-run c run h s =
    let segments = c.deref.ensures.value ∙ ap (λ (log : LogState). log.segments) c.self.view_is in
    let counted : c.chunk_length-length.result ≡ chunk_length c.args.now c.args.window c.args.cap c.args.self.now.segments =
    c.chunk_length-length.ensures.count ∙ ap (chunk_length c.args.now c.args.window c.args.cap) segments in
    let goes = may_go c.args.self.now.frozen c.args.now c.args.window c.args.cap c.args.self.now.segments (sym c.refusal.ensures.cause ∙ c.in_default.is) in
    let chunks = ap (λ (log : LogState). log.chunks + 1) c.self.view_is in
    let same = c.in-Ok.ensures.log ∙ ap (λ n. frozen_at c.args.self.now c.chunk_length-length.result (record { number = n; home = c.args.home })) chunks in
    subst (λ (log : LogState). IsLogOf log (records_upto (chunk_end c.args.now c.args.window c.args.cap run) run) (records_above (chunk_end c.args.now c.args.window c.args.cap run) run)) (sym same)
    (cut_of_run c.args.self.now run c.args.home c.args.now c.args.window c.args.cap c.chunk_length-length.result h s counted (subst (λ n. 0 < n) (sym counted) goes.0) goes.1)
