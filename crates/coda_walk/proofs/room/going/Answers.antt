use Rattle.std.proofs.Common.{◌≡◌, subst}
use Rattle.std.specs.Option.{IfSome}
use Rattle.coda_walk.specs.Going.{who_goes}
use Rattle.coda_walk.proofs.room.going.Goals as goal

pub returns-in-Some : goal.returns-in-Some
returns-in-Some c fids are = subst (λ o. IfSome o (λ v. v.items ≡ who_goes c.args.size fids c.args.items.now)) c.in-Some.is (c.in_ok-gone.ensures.fids fids are)
