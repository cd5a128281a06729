use Rattle.std.proofs.Common.{[], ◌∷◌, sym, ap, ◌∙◌}
use Rattle.coda_tree.specs.Volume.{moved}
use Rattle.coda_walk.specs.Going.{is_listed}
use Rattle.coda_cache.specs.State.{CacheState}
use Rattle.coda_cache.specs.Ways.{at_or_below}
use Rattle.coda_cache.proofs.Changed.{found_replaced, off_move}
use Rattle.coda_cache.proofs.cache.Cache.replace_among.Goals as goal

pub invariant_of-self : goal.invariant_of-self
invariant_of-self c =
    let nodes = c.self.inside.contents.nodes in
    found_replaced c.self.inside.queued c.renew.new.self c.self.inside.dirty c.take_all-4.new.self c.self.inside.sources c.take_all.new.self c.self.inside.children c.take_all-2.new.self c.self.inside.contents c.replace_among.new.self c.self.invariant
    (moved nodes c.args.from_dir c.args.from.now c.args.to_dir c.args.to.now c.args.fid) c.args.over c.args.gone.now (c.args.from_dir ∷ c.args.to_dir ∷ []) c.replace_among.ensures
    (λ f. c.requires.gone f ∙ ap (λ (s : CacheState). is_listed (at_or_below s c.args.over) f) (sym c.self.view_is)) (off_move nodes c.args.from_dir c.args.from.now c.args.to_dir c.args.to.now c.args.fid)
    (λ items h. c.renew.ensures _ (c.take_all-3.ensures items h)) c.take_all-4.ensures (c.take_all.ensures _ c.self.invariant.covered) (c.take_all-2.ensures _ c.self.invariant.under)
