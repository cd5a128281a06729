use Rattle.std.proofs.Common.{ap, ◌∙◌, List}
use Rattle.std.specs.List.{list_any}
use Rattle.std.specs.Ordering.{eq_by_cmp}
use Rattle.coda_fid.specs.declared.fid.Fid.{Fid}
use Rattle.coda_fid.specs.Fid.{fid_cmp}
use Rattle.coda_walk.specs.Going.{is_listed}
use Rattle.coda_walk.proofs.Choices.{pinned_chosen}
use Rattle.coda_walk.proofs.taking.begin.Goals as goal

pub returns : goal.returns
returns c recency r =
    pinned_chosen c.args.size c.args.items.now recency r _
    (λ g. c.in_ok-kept.ensures g ∙ ap (λ (l : List Fid). is_listed l g) (c.deref.ensures.value ∙ c.in_ok-pinned.ensures))
    (λ g. ap (λ (l : List Fid). list_any (eq_by_cmp fid_cmp g) l) c.new.ensures.empty)
    (c.room_beside_pinned.ensures r.fit)
