use Rattle.std.proofs.Common.{rules, ◌≡◌, Some, sym, ◌∙◌}
use Rattle.std.specs.HashMap as hash
use Rattle.coda_fid.specs.declared.fid.Fid.{Fid}
use Rattle.coda_fid.specs.Fid.{same_fid}
use Rattle.coda_walk.specs.Going.{is_listed}
use Rattle.coda_cache.specs.State.{parent_of}
use Rattle.coda_cache.specs.Indexed.{is_kept_under}
use Rattle.coda_cache.proofs.ParentsHeld.{one_under, none_under}
use Rattle.coda_cache.proofs.Under.{listed_under}
use Rattle.coda_cache.proofs.above.any_under.Goals as goal

pub returns-in-Some-clause-yes : goal.returns-in-Some-clause-yes
returns-in-Some-clause-yes c = λ found. one_under (parent_of c.args.contents.now) c.args.dir c.in-Some.fids.now.keys (sym c.any_child.ensures ∙ found)

pub returns-in-Some-clause-no : goal.returns-in-Some-clause-no
returns-in-Some-clause-no c = λ none.
    let is : hash.get same_fid c.args.parents.now c.args.dir ≡ Some c.in-Some.fids.now = search rules in
    let there : (f : Fid) → is_listed c.in-Some.fids.now.keys f ≡ is_kept_under c.args.parents.now c.args.dir f = λ f. sym (listed_under c.args.parents.now c.args.dir c.in-Some.fids.now is f) in
    none_under (parent_of c.args.contents.now) c.args.dir c.in-Some.fids.now.keys (sym c.any_child.ensures ∙ none) (λ f is. there f ∙ c.requires f is)
