use Rattle.std.proofs.Common.{rules, ◌≡◌, ◌||◌, ◌++◌, Some, sym, ◌∙◌}
use Rattle.std.specs.HashMap as hash
use Rattle.std.specs.Prelude.{OnOk}
use Rattle.std.specs.Prelude.{Ok, Err}
use Rattle.std.specs.List.{filter}
use Rattle.coda_fid.specs.declared.fid.Fid.{Fid}
use Rattle.coda_fid.specs.Fid.{same_fid}
use Rattle.coda_walk.specs.Going.{is_listed}
use Rattle.coda_cache.specs.State.{parent_of}
use Rattle.coda_cache.specs.Indexed.{is_parent, is_kept_under}
use Rattle.coda_cache.proofs.Down.{under_among}
use Rattle.coda_cache.proofs.Under.{listed_under}
use Rattle.coda_cache.proofs.descending.add_under.Goals as goal

pub returns-in-Some : goal.returns-in-Some
returns-in-Some c =
    let is : hash.get same_fid c.args.parents.now c.args.dir ≡ Some c.in-Some.fids.now = search rules in
    let there : (f : Fid) → is_listed c.in-Some.fids.now.keys f ≡ is_kept_under c.args.parents.now c.args.dir f = λ f. sym (listed_under c.args.parents.now c.args.dir c.in-Some.fids.now is f) in
    (elim c.add_among.result as (λ r. OnOk r (c.add_among.new.level.items ≡ c.args.level.now.items ++ filter (λ f. is_parent c.args.dir (parent_of c.args.contents.now f)) c.in-Some.fids.now.keys) →
    OnOk r ((f : Fid) → is_listed c.add_among.new.level.items f ≡ (is_listed c.args.level.now.items f || is_parent c.args.dir (parent_of c.args.contents.now f)))) [
      | Ok _ ↦ λ is. under_among c.args.contents.now c.args.dir c.args.level.now.items c.add_among.new.level.items c.in-Some.fids.now.keys is (λ f e. there f ∙ c.requires f e)
      | Err _ ↦ λ h. h
    ]) c.add_among.ensures
