use Rattle.std.proofs.Common.{ap, length, arith}
use Rattle.coda_letters.specs.Sent.{AnswerSent}
use Rattle.coda_letters.proofs.Calls.{posted_so, answer_letter}
use Rattle.coda_letters.proofs.Spelled.{answers_are_light}
use Rattle.coda_letters.proofs.sending.post_answer.Goals as goal

pub post-requires-clause-small : goal.post-requires-clause-small
post-requires-clause-small c = λ lossy.
    let most = answers_are_light c.args.server c.args.client c.args.volume c.args.number c.args.answer in
    let same = ap length c.in_ok-bytes.ensures.0 in
    omega (arith, most, same)

pub returns-clause-posted : goal.returns-clause-posted
returns-clause-posted c = λ waiting are.
    posted_so waiting c.args.net.now c.post.new.self (AnswerSent c.args.server c.args.client c.args.volume c.args.number c.args.answer) _ are c.requires.spelled
    (answer_letter c.args.server c.args.client c.args.volume c.args.number c.args.answer c.in_ok-bytes.bytes c.in_ok-bytes.ensures) c.post.result c.post.ensures.number c.post.ensures.letters
