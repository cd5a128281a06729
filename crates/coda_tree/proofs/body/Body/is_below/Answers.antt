use Rattle.std.proofs.Common.{◌≡◌, sym, ap, ◌∙◌}
use Rattle.coda_tree.specs.Volume.{below_within, is_below}
use Rattle.coda_tree.specs.Slots.{nodes_in}
use Rattle.coda_tree.proofs.Below.{is_below_sound, is_below_complete}
use Rattle.coda_tree.proofs.body.Body.is_below.Goals as goal

pub returns-clause-below : goal.returns-clause-below
unfolding is_below
returns-clause-below c there =
    let m = nodes_in c.args.self.now.slots in
    let is : c.climbs_to.result ≡ is_below m c.args.fid c.args.of = c.climbs_to.ensures ∙ ap (λ steps. below_within m steps c.args.fid c.args.of) c.len.ensures.count in (
      λ h. is_below_sound m c.args.fid c.args.of (sym is ∙ h),
      λ b. is ∙ is_below_complete m c.len.ensures.volume c.args.fid c.args.of there b,
    )
