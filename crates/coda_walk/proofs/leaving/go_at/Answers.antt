use Rattle.std.proofs.Common.{◌≡◌, ℕ, List, Option, ◌++◌, ◌∷◌, ◌&&◌, [], not, true, false, Bool, Some, sym, ap, ◌∙◌, subst, append_assoc}
use Rattle.std.specs.Prelude.{nat_le}
use Rattle.std.proofs.lemmas.Bool.{both_ways, false_from_ne_true}
use Rattle.coda_fid.specs.declared.fid.Fid.{Fid}
use Rattle.coda_walk.specs.declared.rank.Rank.{Rank}
use Rattle.coda_walk.specs.Going.{blocks_of, is_listed, who_goes}
use Rattle.coda_walk.specs.Laws.{left}
use Rattle.coda_walk.specs.Queue.{place_in, count_in}
use Rattle.coda_walk.specs.declared.item.Item.{Item}
use Rattle.coda_walk.specs.declared.rank.Standing.{Standing}
use Rattle.coda_walk.specs.Leaving.{remaining, pool_of, AreLeaving}
use Rattle.coda_walk.proofs.Ranks.{same_rank_is}
use Rattle.coda_walk.proofs.Departs.{who_next, left_more, is_next, gone_on, is_placed}
use Rattle.coda_walk.proofs.leaving.go_at.Goals as goal

pub returns-then-contains : goal.returns-then-contains
returns-then-contains c size fids items pool q are full takes turn =
    let kept : is_listed fids c.args.rank.fid.0 ≡ true = sym (are c.args.rank.fid.0) ∙ sym c.contains.ensures ∙ c.if-contains.true in
    record {
      stand = record {
        counted = turn.stand.counted;
        pooled = λ k free. takes.rest k ∙ ap (λ b. not b && pool k) (false_from_ne_true _ (λ t. both_ways _ free (ap (λ (x : Rank). is_listed fids x.fid.0) (sym (same_rank_is c.args.rank k t)) ∙ kept))) ∙ turn.stand.pooled k free;
        blocks = turn.stand.blocks;
        bare = turn.stand.bare;
      };
      turn = turn.turn;
    }

-- how far it is, by who went
record Far (places : Fid → Option Standing) (pool : Rank → Bool) (rest : Fid → ℕ) (room size : ℕ) (kept : List Fid) (items : List Item) (gone : List Fid) : Type 0 where
  stand : AreLeaving places pool rest room gone (is_listed kept) items
  turn : gone ++ who_goes size kept (left gone items) ≡ who_goes size kept items

pub returns-in_ok-go-in-Some : goal.returns-in_ok-go-in-Some
returns-in_ok-go-in-Some c size fids items pool q are full takes turn =
    let queue = c.args.queue.now in
    let old = c.args.leaving.now in
    let new = c.go.new.leaving in
    let s = c.in-Some.standing.now in
    let unkept : is_listed fids c.args.rank.fid.0 ≡ false = sym (are c.args.rank.fid.0) ∙ sym c.contains.ensures ∙ c.if-contains.false in
    let at : place_in queue.places c.args.rank.fid.0 ≡ Some s = sym c.in-Some.ensures.value in
    let e = c.in_ok-go-in-Some.ensures in
    let next = is_next (place_in queue.places) (count_in queue.children) queue.clock queue.total items q.queued pool (pool_of queue old) (remaining queue.children old.fewer) old.left old.gone.items fids turn.stand c.args.rank takes unkept s at in
    let stand = gone_on (place_in queue.places) (count_in queue.children) queue.clock queue.total items q.queued pool (pool_of queue old) (remaining queue.children old.fewer) old.left old.gone.items fids turn.stand c.args.rank takes unkept s at (pool_of queue new) (remaining queue.children new.fewer) new.left e.counts e.pool e.blocks in
    let over : nat_le (blocks_of (left old.gone.items items)) size ≡ false = ap (λ n. nat_le n size) (sym turn.stand.blocks) ∙ full in
    let step = who_next size fids (left old.gone.items items) s.item over next in
    let far : Far (place_in queue.places) (pool_of queue new) (remaining queue.children new.fewer) new.left size fids items new.gone.items = subst (Far (place_in queue.places) (pool_of queue new) (remaining queue.children new.fewer) new.left size fids items) (sym e.gone) (record {
      stand = stand;
      turn = append_assoc old.gone.items (s.item.fid ∷ []) _ ∙ ap (λ l. old.gone.items ++ s.item.fid ∷ who_goes size fids l) (left_more old.gone.items s.item.fid items) ∙ ap (λ w. old.gone.items ++ w) (sym step) ∙ turn.turn;
    }) in
    record { stand = far.stand; turn = far.turn }

pub returns-in-None : goal.returns-in-None
returns-in-None c size fids items pool q are full takes turn =
    let queue = c.args.queue.now in
    let old = c.args.leaving.now in
    let unkept : is_listed fids c.args.rank.fid.0 ≡ false = sym (are c.args.rank.fid.0) ∙ sym c.contains.ensures ∙ c.if-contains.false in
    absurd (is_placed (place_in queue.places) (count_in queue.children) queue.clock queue.total items q.queued pool (pool_of queue old) (remaining queue.children old.fewer) old.left old.gone.items fids turn.stand c.args.rank takes unkept (sym c.in-None.ensures.value))
