use Rattle.std.proofs.Common.{◌≡◌, ◌+◌, ◌≤◌, ◌++◌, Bool, true, false, ◌||◌, List, refl, sym, ap, ◌∙◌, subst}
use Rattle.std.specs.Prelude.{Ok, Err}
use Rattle.std.specs.List.{list_any}
use Rattle.std.specs.Ordering.{eq_by_cmp}
use Rattle.coda_fid.specs.declared.fid.Fid.{Fid}
use Rattle.coda_fid.specs.Fid.{fid_cmp, same_fid}
use Rattle.coda_walk.specs.Going.{is_listed, who_goes}
use Rattle.coda_cache.specs.declared.fault.CacheFault.TheVariants.{CacheFull}
use Rattle.coda_cache.specs.State.{CacheState, blocks_at}
use Rattle.coda_cache.specs.Ways.{is_pinned}
use Rattle.coda_cache.specs.Room.{items_of, is_needed, blocks_where, needed_for, kept_for, way_from, with_ancestors, parent_then, items_with, room_in, evicted_for}
use Rattle.coda_cache.proofs.Sums.{too_full, enough, no_larger}
use Rattle.coda_cache.proofs.contents.Contents.chosen_for.Goals as goal

once_more : (p s r : Bool) → ((p || s) || (s || r)) ≡ (p || (s || r))
once_more true s r = refl
once_more false true r = refl
once_more false false r = refl

pub returns-then-not-fits : goal.returns-then-not-fits
unfolding evicted_for
returns-then-not-fits c =
    let way : c.deref.result.now ≡ kept_for c.args.self.now c.args.fid c.args.parent c.args.keep.now = c.deref.ensures.value ∙ c.in_ok-way.ensures in
    let needed : c.in_ok-needed.needed ≡ needed_for c.args.self.now c.args.fid c.args.parent c.args.blocks c.args.keep.now =
    c.in_ok-needed.ensures (kept_for c.args.self.now c.args.fid c.args.parent c.args.keep.now)
    (λ g. c.in_ok-add.ensures g ∙ (λ i. ap (λ (l : List Fid). list_any (eq_by_cmp fid_cmp g) l) c.new-kept.ensures.empty i || is_listed (way i) g))
    ∙ ap (λ n. n + blocks_where (is_needed c.args.fid (kept_for c.args.self.now c.args.fid c.args.parent c.args.keep.now)) (items_of c.args.self.now)) c.more_blocks-more.ensures in
    let size : c.self.inside.size ≡ c.args.self.now.size = ap (λ (s : CacheState). s.size) c.self.view_is in
    (λ i. room_in (sym size i) (sym c.in_ok-pinned_blocks.ensures i) (sym needed i) (kept_for c.args.self.now c.args.fid c.args.parent c.args.keep.now) (items_with c.args.self.now c.args.fid c.args.parent c.args.blocks))
    ∙ too_full c.fits.result c.self.inside.size c.in_ok-pinned_blocks.pinned_blocks c.in_ok-needed.needed _ _ c.fits.ensures c.if-not-fits.true
    ∙ ap (λ n. Err (CacheFull c.in_ok-pinned_blocks.pinned_blocks c.in_ok-needed.needed n)) size

pub returns : goal.returns
unfolding evicted_for
returns c =
    let way : c.deref.result.now ≡ kept_for c.args.self.now c.args.fid c.args.parent c.args.keep.now = c.deref.ensures.value ∙ c.in_ok-way.ensures in
    let way2 : c.deref-2.result.now ≡ kept_for c.args.self.now c.args.fid c.args.parent c.args.keep.now = c.deref-2.ensures.value ∙ c.in_ok-way.ensures in
    let needed : c.in_ok-needed.needed ≡ needed_for c.args.self.now c.args.fid c.args.parent c.args.blocks c.args.keep.now =
    c.in_ok-needed.ensures (kept_for c.args.self.now c.args.fid c.args.parent c.args.keep.now)
    (λ g. c.in_ok-add.ensures g ∙ (λ i. ap (λ (l : List Fid). list_any (eq_by_cmp fid_cmp g) l) c.new-kept.ensures.empty i || is_listed (way i) g))
    ∙ ap (λ n. n + blocks_where (is_needed c.args.fid (kept_for c.args.self.now c.args.fid c.args.parent c.args.keep.now)) (items_of c.args.self.now)) c.more_blocks-more.ensures in
    let size : c.self.inside.size ≡ c.args.self.now.size = ap (λ (s : CacheState). s.size) c.self.view_is in
    let gone : c.in_ok-gone.gone.items ≡ who_goes c.args.self.now.size (kept_for c.args.self.now c.args.fid c.args.parent c.args.keep.now) (items_with c.args.self.now c.args.fid c.args.parent c.args.blocks) =
    (c.in_ok-gone.ensures c.args.parent c.args.keep.now (λ g.
    c.in_ok-add-2.ensures g ∙ (λ i. (c.in_ok-note.ensures g ∙ ap (λ b. b || same_fid c.args.fid g) (c.requires.pinned g)) i || is_listed (way2 i) g)
    ∙ once_more (is_pinned c.args.self.now g) (same_fid c.args.fid g) (is_listed (way_from c.args.self.now (parent_then c.args.self.now c.args.fid c.args.parent) ++ with_ancestors c.args.self.now c.args.keep.now) g))) in
    (λ i. room_in (sym size i) (sym c.in_ok-pinned_blocks.ensures i) (sym needed i) (kept_for c.args.self.now c.args.fid c.args.parent c.args.keep.now) (items_with c.args.self.now c.args.fid c.args.parent c.args.blocks))
    ∙ enough c.fits.result c.self.inside.size c.in_ok-pinned_blocks.pinned_blocks c.in_ok-needed.needed _ _ c.fits.ensures c.if-not-fits.false
    ∙ ap (λ (l : List Fid). Ok l) ((λ i. who_goes (size i) (kept_for c.args.self.now c.args.fid c.args.parent c.args.keep.now) (items_with c.args.self.now c.args.fid c.args.parent c.args.blocks)) ∙ sym gone)

pub going_from-requires-clause-room : goal.going_from-requires-clause-room
going_from-requires-clause-room c =
    let kept = kept_for c.args.self.now c.args.fid c.args.parent c.args.keep.now in
    let way : c.deref.result.now ≡ kept = c.deref.ensures.value ∙ c.in_ok-way.ensures in
    let size : c.self.inside.size ≡ c.args.self.now.size = ap (λ (s : CacheState). s.size) c.self.view_is in
    let needed = c.in_ok-needed.ensures kept (λ g. c.in_ok-add.ensures g ∙ (λ i. ap (λ (l : List Fid). list_any (eq_by_cmp fid_cmp g) l) c.new-kept.ensures.empty i || is_listed (way i) g)) in
    subst (λ n. c.args.blocks ≤ n + blocks_at c.args.self.now c.args.fid) size
    (no_larger (is_pinned c.args.self.now c.args.fid) c.fits.result c.self.inside.size c.in_ok-pinned_blocks.pinned_blocks c.in_ok-needed.needed _ _ c.args.blocks (blocks_at c.args.self.now c.args.fid) c.more_blocks-more.ensures needed c.fits.ensures c.if-not-fits.false)
