use Rattle.std.proofs.Common.{◌≡◌, Bool, true, false, ◌||◌, ◌&&◌, List, refl, sym, ap, ◌∙◌}
use Rattle.std.specs.List.{list_any}
use Rattle.std.specs.BTreeSet as btree
use Rattle.coda_fid.specs.declared.fid.Fid.{Fid}
use Rattle.coda_fid.specs.Fid.{fid_cmp}
use Rattle.coda_cache.specs.State.{is_dirty}
use Rattle.coda_cache.specs.Ways.{is_below}
use Rattle.coda_cache.proofs.Hashed.{keys_listed}
use Rattle.coda_cache.proofs.Chosen.{pinned_by_dirty}
use Rattle.coda_cache.proofs.contents.Contents.above.Goals as goal

or_false : (b : Bool) → b ≡ (b || false)
or_false true = refl
or_false false = refl

pub returns : goal.returns
returns c = λ f.
    or_false (btree.contains fid_cmp c.loop-fid.pinned f)
    ∙ sym (ap (λ (l : List Fid). btree.contains fid_cmp c.loop-fid.pinned f || list_any (λ d. is_dirty c.args.self.now d && is_below c.args.self.now d f) l) c.in-None.ensures.steps.0)
    ∙ c.loop-fid.invariant f
    ∙ pinned_by_dirty c.args.self.now c.agree.ensures c.args.fids.now.keys (λ d. sym (keys_listed c.args.fids.now.keys d) ∙ c.requires d) f
