use Rattle.std.proofs.Common.{List, ap, ◌∙◌, ◌&&◌}
use Rattle.std.specs.List.{list_any}
use Rattle.coda_fid.specs.declared.fid.Fid.{Fid}
use Rattle.coda_fid.specs.Fid.{same_fid}
use Rattle.coda_cache.specs.State.{is_dirty}
use Rattle.coda_cache.proofs.Chosen.{dirty_listed}
use Rattle.coda_cache.proofs.contents.Contents.dirty.Goals as goal

pub returns : goal.returns
returns c = λ f.
    c.in_ok-dirty.ensures f ∙ ap (λ (l : List Fid). list_any (λ d. is_dirty c.args.self.now d && same_fid d f) l) (c.deref.ensures.value ∙ c.in_ok-used.ensures) ∙ dirty_listed c.args.self.now c.agree.ensures f
