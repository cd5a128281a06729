use Rattle.std.proofs.Common.{ℕ, List, sym, ap, ◌∙◌}
use Rattle.coda_net.specs.Pool.{found}
use Rattle.coda_letters.specs.Sent.{ChunkSent}
use Rattle.coda_letters.proofs.Calls.{chunk_fits, chunk_letter, chunk_can, sent_so, sent_before, found_so}
use Rattle.coda_letters.proofs.sending.send_chunk.Goals as goal

pub post-requires-clause-small : goal.post-requires-clause-small
post-requires-clause-small c = λ lossy. chunk_fits c.args.client c.args.server c.args.volume c.args.number c.args.recs.now c.in_ok-bytes.bytes c.in_ok-bytes.ensures c.requires.light

pub returns-in-Some-clause-sent : goal.returns-in-Some-clause-sent
returns-in-Some-clause-sent c = λ waiting span are folded.
    sent_before waiting c.args.net.now (ChunkSent c.args.client c.args.server c.args.volume c.args.number span) c.in-Some.letter
    (sym (found_so waiting c.args.net.now c.args.client c.args.server c.args.volume c.args.number span c.args.recs.now c.in_ok-bytes.bytes are folded c.in_ok-bytes.ensures) ∙ ap (λ (bytes : List ℕ). found c.args.net.now.letters c.args.client c.args.server bytes) (sym c.bytes-2.ensures) ∙ sym c.in-Some.ensures)

pub returns-in-None-clause-sent : goal.returns-in-None-clause-sent
returns-in-None-clause-sent c = λ waiting span are folded.
    sent_so waiting c.args.net.now c.post.new.self (ChunkSent c.args.client c.args.server c.args.volume c.args.number span) _ are (chunk_can c.args.client c.args.server c.args.volume c.args.number span c.args.recs.now folded c.requires.spelled)
    (chunk_letter c.args.client c.args.server c.args.volume c.args.number span c.args.recs.now c.in_ok-bytes.bytes folded c.in_ok-bytes.ensures) c.post.result
    (sym (found_so waiting c.args.net.now c.args.client c.args.server c.args.volume c.args.number span c.args.recs.now c.in_ok-bytes.bytes are folded c.in_ok-bytes.ensures) ∙ ap (λ (bytes : List ℕ). found c.args.net.now.letters c.args.client c.args.server bytes) (sym c.bytes-2.ensures) ∙ sym c.in-None.ensures) c.post.ensures.number c.post.ensures.letters
