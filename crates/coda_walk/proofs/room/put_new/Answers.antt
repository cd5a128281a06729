use Rattle.std.proofs.Common.{◌≡◌, ◌++◌, ◌∷◌, [], Option, None, Some, false, is_some, sym, refl, ap, ◌∙◌, subst}
use Rattle.std.proofs.lemmas.Bool.{both_ways}
use Rattle.coda_walk.specs.declared.item.Item.{Item}
use Rattle.coda_walk.specs.Planning.{item_at}
use Rattle.coda_walk.specs.Queue.{IsQueueOf}
use Rattle.coda_walk.proofs.Queued.{among_found}
use Rattle.coda_walk.proofs.room.put_new.Goals as goal

not_there : (o : Option Item) → is_some o ≡ false → o ≡ None
not_there None e = refl
not_there (Some i) e = absurd (both_ways _ e refl)

pub returns-clause-there : goal.returns-clause-there
returns-clause-there c items q =
    let none : item_at items c.args.item.now.fid ≡ None = sym (c.get.ensures items q) ∙ not_there c.get.result (sym c.is_some.ensures ∙ c.if-is_some.false) in
    subst (λ l. IsQueueOf c.put.new.self (l ++ c.args.item.now ∷ [])) (among_found items c.args.item.now.fid none) (c.in_ok-put.ensures items q)

pub returns-then-is_some-clause-new : goal.returns-then-is_some-clause-new
returns-then-is_some-clause-new c items q none =
    absurd (both_ways _ (c.is_some.ensures ∙ ap is_some (c.get.ensures items q ∙ none)) c.if-is_some.true)
