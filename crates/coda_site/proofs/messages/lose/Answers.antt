use Rattle.coda_site.proofs.Stages.{if_ok, said_ok}
use Rattle.coda_site.proofs.Delivered.{letter_lost, not_lost}
use Rattle.coda_site.proofs.messages.lose.Goals as goal

pub returns-in-Ok-cut_with-clause-does : goal.returns-in-Ok-cut_with-clause-does
returns-in-Ok-cut_with-clause-does g c = λ cell shows.
    rw c.reply_lost.ensures (letter_lost g.B.D.Disk.told (g.B.Bay.out c.args._bay.now) (g.B.Bay.has c.args._bay.now) cell c.args.site.now shows.stands c.args.message (g.B.Bay.answered c.args._bay.now) c.lose.new.net c.cut_with.new.net _ c.lose.ensures.posted c.lose.ensures.links
    c.in-Ok-cut_with.ensures.lossy c.in-Ok-cut_with.ensures.links c.cut_with.ensures.letters c.cut_with.ensures.posted (c.in-Ok.ensures.lost cell.waiting shows.stands.net.letters))

pub returns-in-Err-clause-does : goal.returns-in-Err-clause-does
returns-in-Err-clause-does g c = λ cell shows. if_ok _ c.undelivered.result (λ reply e.
    not_lost g.B.D.Disk.told (g.B.Bay.out c.args._bay.now) (g.B.Bay.has c.args._bay.now) cell c.args.site.now shows.stands c.args.message (g.B.Bay.answered c.args._bay.now) c.lose.new.net c.lose.ensures.posted c.lose.ensures.links c.in-Err.why
    (c.in-Err.ensures.lost cell.waiting shows.stands.net.letters) reply (said_ok _ c.undelivered.result reply e c.undelivered.ensures.said))
