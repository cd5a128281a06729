use Rattle.std.proofs.Common.{◌+◌, ◌∙◌, sym, subst, arith}
use Rattle.coda_net.specs.Pool.{Letters, AreKept}
use Rattle.coda_net.proofs.Losing.{not_given}
use Rattle.coda_net.proofs.Kept.{lost_before, kept_posted}
use Rattle.coda_net.proofs.net.Net.post.Goals as goal

pub put-requires : goal.put-requires
put-requires c = not_given c.self.inside.letters.entries c.self.inside.posted (c.self.inside.posted + 1) c.self.invariant.given (omega arith)

pub invariant_of-self-2 : goal.invariant_of-self-2
invariant_of-self-2 c =
    let left = c.lose_oldest_of.ensures ∙ rw (c.in_ok-put.ensures.ok, c.lost_for-lost.ensures) (lost_before c.self.inside.letters.entries (c.self.inside.posted + 1) c.args.letter) in
    subst (λ (ls : Letters). AreKept ls (c.self.inside.posted + 1)) (sym left) (kept_posted c.self.inside.letters.entries c.self.inside.posted c.args.letter c.self.invariant c.requires.small)

pub returns-clause-letters : goal.returns-clause-letters
returns-clause-letters c = rw (← c.self.view_is) (c.lose_oldest_of.ensures ∙ rw (c.in_ok-put.ensures.ok, c.lost_for-lost.ensures) (lost_before c.self.inside.letters.entries (c.self.inside.posted + 1) c.args.letter))
