use Rattle.std.proofs.Common.{◌∙◌, ap, ◌||◌}
use Rattle.coda_resolve.specs.Counted.{has_fid}
use Rattle.coda_resolve.specs.Changes.{is_among}
use Rattle.coda_resolve.proofs.Merging.{part_more}
use Rattle.coda_resolve.proofs.volume.add_part.Goals as goal

pub returns-clause-parts : goal.returns-clause-parts
returns-clause-parts c = λ views root done view is are. part_more views root done view c.args.changes.now.items c.push.new.self.items c.args.server c.args.part.change c.args.touched.now c.add_fids.new.set c.args.part.touched.items c.in_ok-push.ensures.items (λ f. c.in_ok-add_fids.ensures f ∙ ap (λ fids. has_fid c.args.touched.now f || is_among fids f) c.deref.ensures.value) is are
