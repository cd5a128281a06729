use Rattle.std.proofs.Common.{◌≡◌, ◌+◌, ◌-◌, ◌++◌, ◌||◌, List, sym, ap, ◌∙◌, subst}
use Rattle.std.specs.Prelude.{Ok, Err}
use Rattle.std.specs.Option.{IfSome}
use Rattle.std.specs.List.{list_any}
use Rattle.std.specs.Ordering.{eq_by_cmp}
use Rattle.std.specs.BTreeSet as btree
use Rattle.coda_fid.specs.declared.fid.Fid.{Fid}
use Rattle.coda_fid.specs.Fid.{fid_cmp}
use Rattle.coda_walk.specs.Going.{is_listed, who_goes}
use Rattle.coda_cache.specs.declared.fault.CacheFault.TheVariants.{CacheFull}
use Rattle.coda_cache.specs.State.{CacheState}
use Rattle.coda_cache.specs.Ways.{is_pinned}
use Rattle.coda_cache.specs.Room.{items_of, with_ancestors, pinned_blocks, further_blocks, room_in}
use Rattle.coda_cache.proofs.Chosen.{fresh_queue}
use Rattle.coda_cache.proofs.ChosenAhead.{pinned_then, further_then}
use Rattle.coda_cache.proofs.Foreseen.{pinned_so}
use Rattle.coda_cache.proofs.Hashed.{keys_listed}
use Rattle.coda_cache.proofs.Summed.{fresh_sorted}
use Rattle.coda_cache.proofs.Sums.{too_full, enough, room_left}
use Rattle.coda_cache.proofs.contents.Contents.chosen_ahead.Goals as goal

pub returns-then-not-fits : goal.returns-then-not-fits
returns-then-not-fits c = λ client n is.
    let self = c.args.self.now in
    let p = c.args.prospect.now in
    let rec = c.args.rec.now in
    let kept = with_ancestors self c.args.looked_up.now in
    let fresh = fresh_queue c.args.queue.now self c.requires.queue in
    let pins : (f : Fid) → btree.contains fid_cmp c.in_ok-pinned.pinned f ≡ is_pinned n f =
    λ f. c.in_ok-pinned.ensures f ∙ pinned_so self client rec n p is c.deref.result.now (λ d h. ap (λ (l : List Fid). is_listed l d) c.deref.ensures.value ∙ c.in_ok-dirty.ensures client rec n is d h) f in
    let way : c.add_ways.new.kept.items ≡ kept = c.in_ok-add_ways.ensures ∙ ap (λ (l : List Fid). l ++ kept) c.new-way.ensures.items in
    let pinned : c.in_ok-pinned_blocks.pinned_blocks ≡ pinned_blocks (items_of n) = c.in_ok-pinned_blocks.ensures.sum client n is
    ∙ pinned_then self client rec n p is c.agree.ensures fresh (btree.contains fid_cmp c.new-none.result) c.in_ok-pinned.pinned.keys (fresh_sorted c.in_ok-pinned.pinned.keys c.in_ok-pinned_blocks.ensures.rise)
    (λ f. ap (λ (l : List Fid). list_any (eq_by_cmp fid_cmp f) l) c.new-none.ensures.empty) (λ f. sym (keys_listed c.in_ok-pinned.pinned.keys f) ∙ pins f) in
    let further : c.in_ok-further.further ≡ further_blocks kept (items_of n) = c.in_ok-further.ensures.sum client n is
    ∙ further_then self client rec n p is c.agree.ensures fresh (btree.contains fid_cmp c.in_ok-pinned.pinned) c.in_ok-kept.kept.keys kept (fresh_sorted c.in_ok-kept.kept.keys c.in_ok-further.ensures.rise) pins
    (λ f. sym (keys_listed c.in_ok-kept.kept.keys f) ∙ c.in_ok-kept.ensures f ∙ ap (λ (l : List Fid). is_listed l f) (c.deref-2.ensures.value ∙ way)) in
    let size : c.self.inside.size ≡ self.size = ap (λ (s : CacheState). s.size) c.self.view_is in
    (λ i. room_in (sym size i) (sym pinned i) (sym further i) kept (items_of n))
    ∙ too_full c.fits.result c.self.inside.size c.in_ok-pinned_blocks.pinned_blocks c.in_ok-further.further _ _ c.fits.ensures c.if-not-fits.true
    ∙ ap (λ s. Err (CacheFull c.in_ok-pinned_blocks.pinned_blocks c.in_ok-further.further s)) size

pub returns-in-Some : goal.returns-in-Some
returns-in-Some c = λ client n is.
    let self = c.args.self.now in
    let p = c.args.prospect.now in
    let rec = c.args.rec.now in
    let kept = with_ancestors self c.args.looked_up.now in
    let fresh = fresh_queue c.args.queue.now self c.requires.queue in
    let pins : (f : Fid) → btree.contains fid_cmp c.in_ok-pinned.pinned f ≡ is_pinned n f =
    λ f. c.in_ok-pinned.ensures f ∙ pinned_so self client rec n p is c.deref.result.now (λ d h. ap (λ (l : List Fid). is_listed l d) c.deref.ensures.value ∙ c.in_ok-dirty.ensures client rec n is d h) f in
    let way : c.add_ways.new.kept.items ≡ kept = c.in_ok-add_ways.ensures ∙ ap (λ (l : List Fid). l ++ kept) c.new-way.ensures.items in
    let pinned : c.in_ok-pinned_blocks.pinned_blocks ≡ pinned_blocks (items_of n) = c.in_ok-pinned_blocks.ensures.sum client n is
    ∙ pinned_then self client rec n p is c.agree.ensures fresh (btree.contains fid_cmp c.new-none.result) c.in_ok-pinned.pinned.keys (fresh_sorted c.in_ok-pinned.pinned.keys c.in_ok-pinned_blocks.ensures.rise)
    (λ f. ap (λ (l : List Fid). list_any (eq_by_cmp fid_cmp f) l) c.new-none.ensures.empty) (λ f. sym (keys_listed c.in_ok-pinned.pinned.keys f) ∙ pins f) in
    let further : c.in_ok-further.further ≡ further_blocks kept (items_of n) = c.in_ok-further.ensures.sum client n is
    ∙ further_then self client rec n p is c.agree.ensures fresh (btree.contains fid_cmp c.in_ok-pinned.pinned) c.in_ok-kept.kept.keys kept (fresh_sorted c.in_ok-kept.kept.keys c.in_ok-further.ensures.rise) pins
    (λ f. sym (keys_listed c.in_ok-kept.kept.keys f) ∙ c.in_ok-kept.ensures f ∙ ap (λ (l : List Fid). is_listed l f) (c.deref-2.ensures.value ∙ way)) in
    let size : c.self.inside.size ≡ self.size = ap (λ (s : CacheState). s.size) c.self.view_is in
    let left = room_left c.fits.result c.self.inside.size c.in_ok-pinned_blocks.pinned_blocks c.in_ok-further.further c.fits.ensures c.if-not-fits.false in
    let gone : c.in-Some.gone.items ≡ who_goes self.size kept (items_of n) =
    subst (λ o. IfSome o (λ v. v.items ≡ who_goes self.size kept (items_of n))) c.in-Some.is
    (c.in_ok-gone.ensures client rec n kept is (λ f. c.in_ok-add.ensures f ∙ (λ i. pins f i || is_listed ((c.deref-3.ensures.value ∙ way) i) f))
    ((λ i. (c.self.inside.size - (c.in_ok-pinned_blocks.pinned_blocks + c.in_ok-further.further)) + (sym pinned i + sym further i)) ∙ left ∙ size)) in
    (λ i. room_in (sym size i) (sym pinned i) (sym further i) kept (items_of n))
    ∙ enough c.fits.result c.self.inside.size c.in_ok-pinned_blocks.pinned_blocks c.in_ok-further.further _ _ c.fits.ensures c.if-not-fits.false
    ∙ ap (λ (l : List Fid). Ok l) ((λ i. who_goes (size i) kept (items_of n)) ∙ sym gone)
