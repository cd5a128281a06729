use Rattle.std.proofs.Common.{◌≡◌, ◌+◌, ◌<◌, ◌||◌, List, refl, subst, sym, ap, ◌∙◌}
use Rattle.std.specs.BTreeSet as tree_set
use Rattle.coda_fid.specs.declared.fid.Fid.{Fid}
use Rattle.coda_fid.specs.Fid.{fid_cmp}
use Rattle.coda_walk.specs.Going.{is_listed}
use Rattle.coda_walk.specs.Climbing.{blocks_on}
use Rattle.coda_walk.proofs.Choices.{one_taken, one_left}
use Rattle.coda_walk.proofs.taking.take_one.Goals as goal

pub returns-in-Some : goal.returns-in-Some
returns-in-Some c size recency t r was =
    let items = c.args.items.now in
    let fits : c.in-Some.room + blocks_on items c.in_ok-above.above.items ≡ c.args.chosen.now.room = ap (λ l. c.in-Some.room + blocks_on items l) (sym c.deref.ensures.value) ∙ c.in-Some.ensures.some in
    one_taken size items recency r t c.args.fid c.args.chosen.now c.in_ok-above.above.items was c.in_ok-above.ensures c.in-Some.room _ fits
    (λ g. c.in_ok-add-in-Some.ensures g ∙ ap (λ (l : List Fid). tree_set.contains fid_cmp c.args.chosen.now.kept g || is_listed l g) c.deref-in-Some.ensures.value)
    (λ g. c.in_ok-add-in-Some-2.ensures g)
    refl

pub returns : goal.returns
returns c size recency t r was =
    let items = c.args.items.now in
    let over : c.args.chosen.now.room < blocks_on items c.in_ok-above.above.items = subst (λ l. c.args.chosen.now.room < blocks_on items l) c.deref.ensures.value c.in-None.ensures.none in
    one_left size items recency r t c.args.fid c.args.chosen.now c.in_ok-above.above.items was c.in_ok-above.ensures over
