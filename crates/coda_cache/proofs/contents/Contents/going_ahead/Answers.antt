use Rattle.std.proofs.Common.{◌≡◌, ◌++◌, List, sym, ap, ◌∙◌}
use Rattle.std.specs.Prelude as prelude
use Rattle.std.specs.Prelude.{Ok, Err}
use Rattle.coda_fid.specs.declared.fid.Fid.{Fid}
use Rattle.coda_walk.specs.Going.{who_goes}
use Rattle.coda_cache.specs.declared.fault.CacheFault.TheVariants.{CacheFull}
use Rattle.coda_cache.specs.State.{CacheState}
use Rattle.coda_cache.specs.Room.{item_of, items_of, with_ancestors, pinned_blocks, further_blocks, room_in}
use Rattle.coda_cache.proofs.Foreseen.{pinned_all}
use Rattle.coda_cache.proofs.Sums.{too_full, enough}
use Rattle.coda_cache.proofs.contents.Contents.going_ahead.Goals as goal

pub returns-then-not-fits : goal.returns-then-not-fits
returns-then-not-fits c = λ client n is.
    let self = c.args.self.now in
    let p = c.args.prospect.now in
    let kept = with_ancestors self c.args.looked_up.now in
    let fids = c.deref.ensures.value ∙ c.in_ok-fids.ensures in
    let fids2 = c.deref-2.ensures.value ∙ c.in_ok-fids.ensures in
    let items : c.in_ok-items.items.items ≡ items_of n = c.in_ok-items.ensures client n is (λ f. c.in_ok-pinned.ensures f ∙ pinned_all self client c.args.rec.now n p is _ fids f) ∙ ap (prelude.map (item_of n)) (fids2 ∙ sym is.recency) in
    let way : c.add_ways.new.kept.items ≡ kept = c.in_ok-add_ways.ensures ∙ ap (λ (l : List Fid). l ++ kept) c.new-kept.ensures.items in
    let pinned : c.in_ok-pinned_blocks.pinned_blocks ≡ pinned_blocks (items_of n) = c.in_ok-pinned_blocks.ensures ∙ ap pinned_blocks (c.deref-3.ensures.value ∙ items) in
    let further : c.in_ok-further.further ≡ further_blocks kept (items_of n) = c.in_ok-further.ensures ∙ (λ i. further_blocks ((c.deref-4.ensures.value ∙ way) i) ((c.deref-5.ensures.value ∙ items) i)) in
    let size : c.self.inside.size ≡ self.size = ap (λ (s : CacheState). s.size) c.self.view_is in
    (λ i. room_in (sym size i) (sym pinned i) (sym further i) kept (items_of n))
    ∙ too_full c.fits.result c.self.inside.size c.in_ok-pinned_blocks.pinned_blocks c.in_ok-further.further _ _ c.fits.ensures c.if-not-fits.true
    ∙ ap (λ s. Err (CacheFull c.in_ok-pinned_blocks.pinned_blocks c.in_ok-further.further s)) size

pub returns : goal.returns
returns c = λ client n is.
    let self = c.args.self.now in
    let p = c.args.prospect.now in
    let kept = with_ancestors self c.args.looked_up.now in
    let fids = c.deref.ensures.value ∙ c.in_ok-fids.ensures in
    let fids2 = c.deref-2.ensures.value ∙ c.in_ok-fids.ensures in
    let items : c.in_ok-items.items.items ≡ items_of n = c.in_ok-items.ensures client n is (λ f. c.in_ok-pinned.ensures f ∙ pinned_all self client c.args.rec.now n p is _ fids f) ∙ ap (prelude.map (item_of n)) (fids2 ∙ sym is.recency) in
    let way : c.add_ways.new.kept.items ≡ kept = c.in_ok-add_ways.ensures ∙ ap (λ (l : List Fid). l ++ kept) c.new-kept.ensures.items in
    let pinned : c.in_ok-pinned_blocks.pinned_blocks ≡ pinned_blocks (items_of n) = c.in_ok-pinned_blocks.ensures ∙ ap pinned_blocks (c.deref-3.ensures.value ∙ items) in
    let further : c.in_ok-further.further ≡ further_blocks kept (items_of n) = c.in_ok-further.ensures ∙ (λ i. further_blocks ((c.deref-4.ensures.value ∙ way) i) ((c.deref-5.ensures.value ∙ items) i)) in
    let size : c.self.inside.size ≡ self.size = ap (λ (s : CacheState). s.size) c.self.view_is in
    (λ i. room_in (sym size i) (sym pinned i) (sym further i) kept (items_of n))
    ∙ enough c.fits.result c.self.inside.size c.in_ok-pinned_blocks.pinned_blocks c.in_ok-further.further _ _ c.fits.ensures c.if-not-fits.false
    ∙ ap (λ (l : List Fid). Ok l) (sym (c.in_ok-gone.ensures ∙ (λ i. who_goes c.self.inside.size ((c.deref-6.ensures.value ∙ way) i) ((c.deref-7.ensures.value ∙ items) i))))
