use Rattle.std.proofs.Common.{Ok, refl, sym, subst, ◌∙◌}
use Rattle.coda_letters.specs.Calls.{Delivers}
use Rattle.coda_record.specs.Spelling.{HasSpelling}
use Rattle.coda_wire.specs.Table.{message}
use Rattle.coda_wire.specs.declared.message.Message.TheVariants.{Chunk}
use Rattle.coda_site.proofs.Stages.{if_ok, said_ok}
use Rattle.coda_site.proofs.Delivered.{chunk_delivered, answer_delivered, not_delivered, others_never_come, breaks_never_come}
use Rattle.coda_site.proofs.messages.deliver.Goals as goal

pub chunk_comes-requires-clause-spelled : goal.chunk_comes-requires-clause-spelled
chunk_comes-requires-clause-spelled g c =
    subst (λ recs. HasSpelling message (Chunk c.in-Ok-Chunk.client c.in-Ok-Chunk.server c.in-Ok-Chunk.volume c.in-Ok-Chunk.number recs)) (sym c.records.ensures)
    (subst (HasSpelling message) c.in-Ok-Chunk.field-0-is c.in-Ok-Chunk.ensures.spelled)

pub answer_comes-requires-clause-spelled : goal.answer_comes-requires-clause-spelled
answer_comes-requires-clause-spelled g c = subst (HasSpelling message) c.in-Ok-Verdict.field-0-is c.in-Ok-Verdict.ensures.spelled

pub returns-in-Ok-Chunk-clause-does : goal.returns-in-Ok-Chunk-clause-does
returns-in-Ok-Chunk-clause-does g c = λ cell shows. if_ok _ c.chunk_comes.result (λ reply e.
    chunk_delivered g.B.D.Disk.told (g.B.Bay.out c.args.bay.now) (g.B.Bay.has c.args.bay.now) cell c.args.site.now shows.stands c.args.message (g.B.Bay.answered c.args.bay.now) c.in-Ok-Chunk.client c.in-Ok-Chunk.server c.in-Ok-Chunk.volume c.in-Ok-Chunk.number c.in-Ok-Chunk.recs
    (subst (λ m. Delivers cell.waiting c.args.site.now.net c.args.message (Ok m)) c.in-Ok-Chunk.field-0-is (c.in-Ok-Chunk.ensures.delivers cell.waiting shows.stands.net.letters)) reply c.chunk_comes.new.site
    (λ span sent. said_ok _ c.chunk_comes.result reply e (c.chunk_comes.ensures.does cell span shows (c.records.ensures ∙ sent))))

pub returns-in-Ok-Verdict-clause-does : goal.returns-in-Ok-Verdict-clause-does
returns-in-Ok-Verdict-clause-does g c = λ cell shows. if_ok _ c.answer_comes.result (λ reply e.
    answer_delivered g.B.D.Disk.told (g.B.Bay.out c.args.bay.now) (g.B.Bay.has c.args.bay.now) cell c.args.site.now shows.stands c.args.message (g.B.Bay.answered c.args.bay.now) c.in-Ok-Verdict.server c.in-Ok-Verdict.client c.in-Ok-Verdict.volume c.in-Ok-Verdict.number
    c.in-Ok-Verdict.answer (subst (λ m. Delivers cell.waiting c.args.site.now.net c.args.message (Ok m)) c.in-Ok-Verdict.field-0-is (c.in-Ok-Verdict.ensures.delivers cell.waiting shows.stands.net.letters)) reply c.answer_comes.new.site (said_ok _ c.answer_comes.result reply e (c.answer_comes.ensures.does cell shows)))

pub returns-clause-does : goal.returns-clause-does
returns-clause-does g c = λ cell shows. if_ok _ c.undelivered-in-Err.result (λ reply e.
    not_delivered g.B.D.Disk.told (g.B.Bay.out c.args.bay.now) (g.B.Bay.has c.args.bay.now) cell c.args.site.now shows.stands c.args.message (g.B.Bay.answered c.args.bay.now) c.in-Err.why (c.in-Err.ensures.delivers cell.waiting shows.stands.net.letters) reply
    (said_ok _ c.undelivered-in-Err.result reply e c.undelivered-in-Err.ensures.said))

pub returns-in-Ok-Fetch-clause-does : goal.returns-in-Ok-Fetch-clause-does
returns-in-Ok-Fetch-clause-does g c = λ cell shows.
    absurd (others_never_come cell.waiting c.args.site.now.net c.args.message _
    (subst (λ m. Delivers cell.waiting c.args.site.now.net c.args.message (Ok m)) c.in-Ok-Fetch.field-0-is (c.in-Ok-Fetch.ensures.delivers cell.waiting shows.stands.net.letters)) refl)

pub returns-in-Ok-Node-clause-does : goal.returns-in-Ok-Node-clause-does
returns-in-Ok-Node-clause-does g c = λ cell shows.
    absurd (others_never_come cell.waiting c.args.site.now.net c.args.message _
    (subst (λ m. Delivers cell.waiting c.args.site.now.net c.args.message (Ok m)) c.in-Ok-Node.field-0-is (c.in-Ok-Node.ensures.delivers cell.waiting shows.stands.net.letters)) refl)

pub returns-in-Ok-Break-clause-does : goal.returns-in-Ok-Break-clause-does
returns-in-Ok-Break-clause-does g c = λ cell shows.
    absurd (breaks_never_come cell shows.kept c.args.site.now.net c.args.message _ _ _ _
    (subst (λ m. Delivers cell.waiting c.args.site.now.net c.args.message (Ok m)) c.in-Ok-Break.field-0-is (c.in-Ok-Break.ensures.delivers cell.waiting shows.stands.net.letters)))
