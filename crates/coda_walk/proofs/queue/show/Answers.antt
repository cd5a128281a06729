use Rattle.std.proofs.Common.{◌≡◌, true, false, sym, ap, ◌∙◌, ◌||◌}
use Rattle.std.proofs.lemmas.Result.{on_ok_weaker}
use Rattle.coda_walk.specs.Queue.{place_in, count_in, is_in, same_rank, may_leave}
use Rattle.coda_walk.proofs.Freed.{shown, not_shown}
use Rattle.coda_walk.proofs.queue.show.Goals as goal

pub returns-then-may_leave : goal.returns-then-may_leave
returns-then-may_leave c keyed but =
    let may : may_leave (count_in c.args.children.now c.args.fid) c.in-Some.standing.now ≡ true = ap (λ n. may_leave n c.in-Some.standing.now) (sym c.count.ensures) ∙ sym c.may_leave.ensures ∙ c.if-may_leave.true in
    on_ok_weaker c.put_rank.result (λ h.
    shown (place_in c.args.places.now) (count_in c.args.children.now) (is_in c.args.free.now) (is_in c.put_rank.new.free) c.args.fid c.in-Some.standing.now keyed (sym c.in-Some.ensures.value) may but
    (λ r. h r ∙ ap (λ k. same_rank k r || is_in c.args.free.now r) c.rank_of.ensures)) c.put_rank.ensures

pub returns-else-may_leave : goal.returns-else-may_leave
returns-else-may_leave c keyed but =
    let may : may_leave (count_in c.args.children.now c.args.fid) c.in-Some.standing.now ≡ false = ap (λ n. may_leave n c.in-Some.standing.now) (sym c.count.ensures) ∙ sym c.may_leave.ensures ∙ c.if-may_leave.false in
    not_shown (place_in c.args.places.now) (count_in c.args.children.now) (is_in c.args.free.now) (is_in c.args.free.now) c.args.fid c.in-Some.standing.now (sym c.in-Some.ensures.value) may but
