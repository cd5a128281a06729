use Rattle.std.proofs.Common.{List, sym, ap, ◌∙◌, arith}
use Rattle.std.specs.List.{list_any}
use Rattle.std.specs.Ordering.{eq_by_cmp}
use Rattle.coda_fid.specs.declared.fid.Fid.{Fid}
use Rattle.coda_fid.specs.Fid.{fid_cmp}
use Rattle.coda_walk.specs.Going.{who_goes}
use Rattle.coda_cache.specs.Indexed.{standings}
use Rattle.coda_cache.proofs.Chosen.{fresh_queue}
use Rattle.coda_cache.proofs.Hashed.{keys_listed}
use Rattle.coda_cache.proofs.ChosenAhead.{spares}
use Rattle.coda_cache.proofs.contents.Contents.sparing.Goals as goal

pub returns : goal.returns
returns c = λ client rec n kept is are fits.
    let self = c.args.self.now in
    let other = c.add_set.new.set in
    let held = c.in_ok-held.ensures.sum in
    c.in_ok-gone.ensures.fids other.keys (standings self) c.requires.queue (keys_listed other.keys)
    ∙ ap (λ s. who_goes s other.keys (standings self)) c.in_ok-size.ensures
    ∙ spares self client rec n c.args.prospect.now is c.agree.ensures (fresh_queue c.args.queue.now self c.requires.queue) c.args.stay other c.new-none.result kept are c.in_ok-add_set.ensures
    (sym c.is_closed_ahead.ensures ∙ c.if-not-is_closed_ahead.false) (sym c.holds_made.ensures ∙ c.if-not-holds_made.false) (sym c.is_within.ensures ∙ c.if-not-is_within.false) (sym c.is_closed.ensures ∙ c.if-not-is_closed.false)
    c.in_ok-held.ensures.rise (λ f. ap (λ (l : List Fid). list_any (eq_by_cmp fid_cmp f) l) c.new-none.ensures.empty) c.args.room c.in_ok-held.held (omega (arith, held)) fits
