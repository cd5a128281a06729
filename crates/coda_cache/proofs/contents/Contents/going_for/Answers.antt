use Rattle.std.proofs.Common.{◌≡◌, ◌+◌, List, sym, ap, ◌∙◌}
use Rattle.std.specs.Prelude.{Ok, Err}
use Rattle.coda_fid.specs.declared.fid.Fid.{Fid}
use Rattle.coda_walk.specs.Going.{who_goes}
use Rattle.coda_cache.specs.declared.fault.CacheFault.TheVariants.{CacheFull}
use Rattle.coda_cache.specs.State.{CacheState}
use Rattle.coda_cache.specs.Room.{items_of, pinned_blocks, is_needed, blocks_where, needed_for, kept_for, items_with, room_in, evicted_for}
use Rattle.coda_cache.proofs.Sums.{too_full, enough}
use Rattle.coda_cache.proofs.contents.Contents.going_for.Goals as goal

pub returns-then-not-fits : goal.returns-then-not-fits
unfolding evicted_for
returns-then-not-fits c =
    let self = c.args.self.now in
    let items : c.deref.result.now ≡ items_of self = c.deref.ensures.value ∙ c.in_ok-items.ensures in
    let items3 : c.deref-3.result.now ≡ items_of self = c.deref-3.ensures.value ∙ c.in_ok-items.ensures in
    let kept : c.deref-2.result.now ≡ kept_for self c.args.fid c.args.parent c.args.keep.now = c.deref-2.ensures.value ∙ c.in_ok-kept.ensures in
    let pinned : c.in_ok-pinned_blocks.pinned_blocks ≡ pinned_blocks (items_of self) = c.in_ok-pinned_blocks.ensures ∙ ap pinned_blocks items in
    let needed : c.in_ok-needed.needed ≡ needed_for self c.args.fid c.args.parent c.args.blocks c.args.keep.now = c.in_ok-needed.ensures ∙ (λ i. c.more_blocks-more.ensures i + blocks_where (is_needed c.args.fid (kept i)) (items3 i)) in
    let size : c.self.inside.size ≡ self.size = ap (λ (s : CacheState). s.size) c.self.view_is in
    (λ i. room_in (sym size i) (sym pinned i) (sym needed i) (kept_for self c.args.fid c.args.parent c.args.keep.now) (items_with self c.args.fid c.args.parent c.args.blocks))
    ∙ too_full c.fits.result c.self.inside.size c.in_ok-pinned_blocks.pinned_blocks c.in_ok-needed.needed _ _ c.fits.ensures c.if-not-fits.true
    ∙ ap (λ n. Err (CacheFull c.in_ok-pinned_blocks.pinned_blocks c.in_ok-needed.needed n)) size

pub returns : goal.returns
unfolding evicted_for
returns c =
    let self = c.args.self.now in
    let items : c.deref.result.now ≡ items_of self = c.deref.ensures.value ∙ c.in_ok-items.ensures in
    let items3 : c.deref-3.result.now ≡ items_of self = c.deref-3.ensures.value ∙ c.in_ok-items.ensures in
    let kept : c.deref-2.result.now ≡ kept_for self c.args.fid c.args.parent c.args.keep.now = c.deref-2.ensures.value ∙ c.in_ok-kept.ensures in
    let pinned : c.in_ok-pinned_blocks.pinned_blocks ≡ pinned_blocks (items_of self) = c.in_ok-pinned_blocks.ensures ∙ ap pinned_blocks items in
    let needed : c.in_ok-needed.needed ≡ needed_for self c.args.fid c.args.parent c.args.blocks c.args.keep.now = c.in_ok-needed.ensures ∙ (λ i. c.more_blocks-more.ensures i + blocks_where (is_needed c.args.fid (kept i)) (items3 i)) in
    let size : c.self.inside.size ≡ self.size = ap (λ (s : CacheState). s.size) c.self.view_is in
    let stay : c.deref-4.result.now ≡ kept_for self c.args.fid c.args.parent c.args.keep.now = c.deref-4.ensures.value ∙ c.in_ok-kept.ensures in
    let after : c.deref-5.result.now ≡ items_with self c.args.fid c.args.parent c.args.blocks = c.deref-5.ensures.value ∙ c.in_ok-items-2.ensures in
    (λ i. room_in (sym size i) (sym pinned i) (sym needed i) (kept_for self c.args.fid c.args.parent c.args.keep.now) (items_with self c.args.fid c.args.parent c.args.blocks))
    ∙ enough c.fits.result c.self.inside.size c.in_ok-pinned_blocks.pinned_blocks c.in_ok-needed.needed _ _ c.fits.ensures c.if-not-fits.false
    ∙ ap (λ (l : List Fid). Ok l) (sym (c.in_ok-gone.ensures ∙ (λ i. who_goes c.self.inside.size (stay i) (after i))))
