use Rattle.std.proofs.Common.{◌≡◌, ◌<◌, ◌≤◌, ◌∷◌, [], ◌++◌, sym, ap, ◌∙◌, refl, length, subst}
use Rattle.coda_cancel.specs.Cancel.{add}
use Rattle.coda_cancel.specs.Numbers.{AreUpTo, IsRising, dropped, least}
use Rattle.coda_cml.specs.State.{LogState, IsLogOf}
use Rattle.coda_cml.specs.Inside.{state_of}
use Rattle.coda_cml.specs.Segments.{single}
use Rattle.coda_cml.specs.Steps.{appended_to, segments_after}
use Rattle.coda_cancel.proofs.Rising.{rising_add, rising_behind}
use Rattle.coda_cml.specs.Longest.{total}
use Rattle.coda_cml.specs.Partition.{AreInTurn}
use Rattle.coda_cml.specs.LastSegment.{ended_before, regrouped_last}
use Rattle.coda_cml.proofs.segments.PartedRecords.{turn_behind, ends_behind}
use Rattle.coda_cml.proofs.segments.LastJoined.{parted_total, front_fits, last_regrouped}
use Rattle.coda_cml.proofs.segments.PartsKept.{parts_are, append_keeps}
use Rattle.coda_cml.proofs.segments.LogSteps.{below_later, upto_back, rising_add_behind, upto_add_behind, appended_log}
use Rattle.coda_cml.proofs.log.Log.push.Goals as goal

pub add-requires : goal.add-requires
add-requires c =
    let later : c.self.inside.last < c.args.rec.number = subst (λ (log : LogState). log.last < c.args.rec.number) (sym c.self.view_is) c.requires.later in
    below_later c.self.inside.last c.args.rec.number later c.self.inside.tail (upto_back c.self.inside.last c.self.inside.chunk c.self.inside.tail c.self.invariant.reached)

pub regroup_last-requires-clause-in_turn : goal.regroup_last-requires-clause-in_turn
regroup_last-requires-clause-in_turn c = subst AreInTurn (sym c.reserve.ensures.items) (turn_behind c.self.inside.chunk_segments.items c.self.inside.segments.items c.self.invariant.parted.in_turn)

pub regroup_last-requires-clause-counted : goal.regroup_last-requires-clause-counted
regroup_last-requires-clause-counted c = ap total c.reserve.ensures.items ∙ parted_total c.self.inside.segments.items c.self.inside.tail c.self.invariant.parted.parts ∙ sym c.len-before.ensures

pub regroup_last-requires-clause-left : goal.regroup_last-requires-clause-left
regroup_last-requires-clause-left c =
    let later : c.self.inside.last < c.args.rec.number = subst (λ (log : LogState). log.last < c.args.rec.number) (sym c.self.view_is) c.requires.later in
    let below = below_later c.self.inside.last c.args.rec.number later c.self.inside.tail (upto_back c.self.inside.last c.self.inside.chunk c.self.inside.tail c.self.invariant.reached) in
    let turn = turn_behind c.self.inside.chunk_segments.items c.self.inside.segments.items c.self.invariant.parted.in_turn in
    let ends = ends_behind c.self.inside.last c.self.inside.chunk_segments.items c.self.inside.segments.items c.self.invariant.parted.ended in
    let fits = front_fits c.self.inside.last c.self.inside.segments.items c.self.inside.tail c.args.rec turn ends c.self.invariant.parted.parts later below in
    let front : total (ended_before c.in-Ok.least c.reserve.new.self.items) ≡ total (ended_before (least (dropped c.self.inside.tail c.args.rec)) c.self.inside.segments.items) =
    λ i. total (ended_before (c.in-Ok.ensures.least i) (c.reserve.ensures.items i)) in
    let left = c.len-after.ensures ∙ ap length c.in-Ok.ensures.ok in
    subst (λ n. n ≤ c.len-after.result) (sym front) (subst (λ n. total (ended_before (least (dropped c.self.inside.tail c.args.rec)) c.self.inside.segments.items) ≤ n) (sym left) fits)

pub invariant_of-self-2 : goal.invariant_of-self-2
invariant_of-self-2 c =
    let later : c.self.inside.last < c.args.rec.number = subst (λ (log : LogState). log.last < c.args.rec.number) (sym c.self.view_is) c.requires.later in
    let below = below_later c.self.inside.last c.args.rec.number later c.self.inside.tail (upto_back c.self.inside.last c.self.inside.chunk c.self.inside.tail c.self.invariant.reached) in
    let turn = turn_behind c.self.inside.chunk_segments.items c.self.inside.segments.items c.self.invariant.parted.in_turn in
    let ends = ends_behind c.self.inside.last c.self.inside.chunk_segments.items c.self.inside.segments.items c.self.invariant.parted.ended in
    let segments : c.regroup_last.new.segments.items ≡ segments_after c.self.inside.segments.items c.self.inside.tail c.args.rec =
    c.regroup_last.ensures ∙ (λ i. regrouped_last (c.reserve.ensures.items i) (single [] c.args.rec) (c.in-Ok.ensures.least i) ((c.len-after.ensures ∙ ap length c.in-Ok.ensures.ok) i))
    ∙ last_regrouped c.self.inside.last c.self.inside.segments.items c.self.inside.tail c.args.rec turn ends c.self.invariant.parted.parts later below in
    record {
      rising = subst (λ l. IsRising (c.self.inside.chunk ++ l)) (sym c.in-Ok.ensures.ok) (rising_add_behind c.self.inside.chunk c.self.inside.tail c.args.rec c.self.invariant.rising (below_later c.self.inside.last c.args.rec.number later (c.self.inside.chunk ++ c.self.inside.tail) c.self.invariant.reached));
      reached = subst (λ l. AreUpTo c.args.rec.number (c.self.inside.chunk ++ l)) (sym c.in-Ok.ensures.ok) (upto_add_behind c.self.inside.last c.self.inside.chunk c.self.inside.tail c.args.rec c.self.invariant.reached later);
      parted = parts_are c.args.rec.number c.self.inside.chunk_segments.items c.self.inside.chunk_segments.items c.regroup_last.new.segments.items (segments_after c.self.inside.segments.items c.self.inside.tail c.args.rec)
          c.self.inside.chunk c.self.inside.chunk c.add.new.self (add c.self.inside.tail c.args.rec) refl refl segments c.in-Ok.ensures.ok
          (append_keeps c.self.inside.last c.self.inside.chunk_segments.items c.self.inside.chunk c.self.inside.segments.items c.self.inside.tail c.self.invariant.parted c.args.rec later
          (rising_add c.self.inside.tail c.args.rec (rising_behind c.self.inside.chunk c.self.inside.tail c.self.invariant.rising) below));
      thawed = c.self.invariant.thawed;
    }

pub returns-clause-log : goal.returns-clause-log
returns-clause-log c =
    let records : c.add.new.self ≡ add c.self.inside.tail c.args.rec = c.in-Ok.ensures.ok in
    let later : c.self.inside.last < c.args.rec.number = subst (λ (log : LogState). log.last < c.args.rec.number) (sym c.self.view_is) c.requires.later in
    let below = below_later c.self.inside.last c.args.rec.number later c.self.inside.tail (upto_back c.self.inside.last c.self.inside.chunk c.self.inside.tail c.self.invariant.reached) in
    let turn = turn_behind c.self.inside.chunk_segments.items c.self.inside.segments.items c.self.invariant.parted.in_turn in
    let ends = ends_behind c.self.inside.last c.self.inside.chunk_segments.items c.self.inside.segments.items c.self.invariant.parted.ended in
    let segments : c.regroup_last.new.segments.items ≡ segments_after c.self.inside.segments.items c.self.inside.tail c.args.rec =
    c.regroup_last.ensures ∙ (λ i. regrouped_last (c.reserve.ensures.items i) (single [] c.args.rec) (c.in-Ok.ensures.least i) ((c.len-after.ensures ∙ ap length c.in-Ok.ensures.ok) i))
    ∙ last_regrouped c.self.inside.last c.self.inside.segments.items c.self.inside.tail c.args.rec turn ends c.self.invariant.parted.parts later below in
    let same : ◌≡◌ {A = LogState} (record { frozen = c.self.inside.frozen; chunk = c.self.inside.chunk; chunk_segments = c.self.inside.chunk_segments.items; records = c.add.new.self; segments = c.regroup_last.new.segments.items; last = c.args.rec.number; chunks = c.self.inside.chunks }) (appended_to (state_of c.self.inside) c.args.rec) =
    λ i. record { frozen = c.self.inside.frozen; chunk = c.self.inside.chunk; chunk_segments = c.self.inside.chunk_segments.items; records = records i; segments = segments i; last = c.args.rec.number; chunks = c.self.inside.chunks } in
    same ∙ ap (λ (log : LogState). appended_to log c.args.rec) c.self.view_is

pub returns-clause-run : goal.returns-clause-run
returns-clause-run c front back h =
    let later : c.self.inside.last < c.args.rec.number = subst (λ (log : LogState). log.last < c.args.rec.number) (sym c.self.view_is) c.requires.later in
    subst (λ log. IsLogOf log front (back ++ c.args.rec ∷ [])) (sym (returns-clause-log c ∙ ap (λ (log : LogState). appended_to log c.args.rec) (sym c.self.view_is)))
    (appended_log (state_of c.self.inside) front back c.args.rec later (subst (λ log. IsLogOf log front back) (sym c.self.view_is) h))
