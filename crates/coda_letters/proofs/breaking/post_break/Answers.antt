use Rattle.coda_letters.specs.Sent.{BreakSent}
use Rattle.coda_letters.proofs.Calls.{posted_so, break_letter}
use Rattle.coda_letters.proofs.breaking.post_break.Goals as goal

pub returns-clause-said : goal.returns-clause-said
returns-clause-said c = λ waiting are.
    posted_so waiting c.args.net.now c.post.new.self (BreakSent c.args.server c.args.client c.args.volume c.args.fids) _ are c.requires.spelled
    (break_letter c.args.server c.args.client c.args.volume c.args.fids c.in_ok-bytes.bytes c.in_ok-bytes.ensures) c.post.result c.post.ensures.number c.post.ensures.letters
