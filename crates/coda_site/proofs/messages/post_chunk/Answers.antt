use Rattle.coda_cell.proofs.SpelledLetters.{chunk_message}
use Rattle.coda_site.specs.Chunks.{volume_by}
use Rattle.coda_site.proofs.SentChunks.{number_told}
use Rattle.coda_site.proofs.messages.post_chunk.Goals as goal

pub send_chunk-requires-clause-spelled : goal.send_chunk-requires-clause-spelled
send_chunk-requires-clause-spelled g c =
    chunk_message c.args.client c.args.server c.args.volume c.args.chunk c.chunk_at-recs.result.now c.requires.client c.requires.server c.requires.volume
    (number_told c.args.chunk c.if-chunk-eq0.false c.if-chunk-gt-GREATEST_CHUNK.false) c.chunk_at-recs.ensures.sendable

pub returns-in-Ok-clause-posts : goal.returns-in-Ok-clause-posts
returns-in-Ok-clause-posts g c = λ header venus history waiting slot up is letters.
    c.in-Ok.ensures.sent waiting (volume_by header history c.args.volume).front letters (c.chunk_at-recs.ensures.records header venus history slot up is)
