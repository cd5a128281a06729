use Rattle.std.proofs.Common.{◌≡◌, [], ◌++◌, None, length, sym, ap, ◌∙◌, subst, arith}
use Rattle.coda_cancel.specs.Cancel.{added}
use Rattle.coda_cancel.specs.Numbers.{AreUpTo, IsRising}
use Rattle.coda_cancel.specs.Joins.{joins_of}
use Rattle.coda_cancel.proofs.Rising.{rising_behind}
use Rattle.coda_cancel.proofs.Turns.{rising_added}
use Rattle.coda_cml.specs.State.{LogState, IsLogOf}
use Rattle.coda_cml.specs.Inside.{state_of}
use Rattle.coda_cml.specs.Regrouping.{DoNumbersRise, is_inside, rejoined, recounted}
use Rattle.coda_cml.specs.Steps.{thawed}
use Rattle.coda_cml.proofs.runs.FrontFolds.{up_added}
use Rattle.coda_cml.proofs.segments.PartsKept.{parts_are, thaw_keeps}
use Rattle.coda_cml.proofs.segments.LogSteps.{upto_front, upto_back}
use Rattle.coda_cml.proofs.segments.WidestJoins.{joins_rise, few_joins}
use Rattle.coda_cml.proofs.segments.ThawedLog.{thawed_log}
use Rattle.coda_cml.proofs.log.Log.thaw.Goals as goal

pub keep_widest-requires-clause-rise : goal.keep_widest-requires-clause-rise
keep_widest-requires-clause-rise c =
    let joins : c.deref.result.now ≡ joins_of c.self.inside.chunk c.self.inside.tail = c.deref.ensures.value ∙ c.in_ok-joins.ensures.joins in
    subst DoNumbersRise (sym joins) (joins_rise c.self.inside.chunk c.self.inside.tail (rising_behind c.self.inside.chunk c.self.inside.tail c.self.invariant.rising))

pub keep_widest-requires-clause-room : goal.keep_widest-requires-clause-room
keep_widest-requires-clause-room c =
    let joins : c.deref.result.now ≡ joins_of c.self.inside.chunk c.self.inside.tail = c.deref.ensures.value ∙ c.in_ok-joins.ensures.joins in
    let few = few_joins c.self.inside.chunk c.self.inside.tail in
    let same = ap length joins in
    omega (arith, same, few, c.len-2.ensures, c.in_ok-widest.ensures.capacity)

pub invariant_of-self-2 : goal.invariant_of-self-2
invariant_of-self-2 c =
    let whole : c.thaw.new.self ++ c.thaw.new.tail ≡ added c.self.inside.chunk c.self.inside.tail = λ i. (c.in_ok-joins.ensures.emptied) i ++ (c.in_ok-joins.ensures.records) i in
    let chunk : c.thaw.new.self ≡ [] = c.in_ok-joins.ensures.emptied in
    let tail : c.thaw.new.tail ≡ added c.self.inside.chunk c.self.inside.tail = c.in_ok-joins.ensures.records in
    let none : c.swap.new.x.items ≡ [] = ap (λ v. v.items) c.swap.ensures.x_after ∙ c.regroup_all.ensures.later in
    let counted : c.records.result ≡ added c.self.inside.chunk c.self.inside.tail = c.records.ensures.same ∙ c.in_ok-joins.ensures.records in
    let joins : c.deref.result.now ≡ joins_of c.self.inside.chunk c.self.inside.tail = c.deref.ensures.value ∙ c.in_ok-joins.ensures.joins in
    let inside : is_inside c.deref-2.result.now ≡ is_inside (joins_of c.self.inside.chunk c.self.inside.tail) = λ i n. (ap (λ l. is_inside l n) c.deref-2.ensures.value ∙ c.keep_widest.ensures.inside n ∙ ap (λ l. is_inside l n) joins) i in
    let segments : c.swap.new.y.items ≡ recounted (added c.self.inside.chunk c.self.inside.tail) (rejoined (is_inside (joins_of c.self.inside.chunk c.self.inside.tail)) (c.self.inside.chunk_segments.items ++ c.self.inside.segments.items)) =
    ap (λ v. v.items) c.swap.ensures.y_after ∙ c.regroup_all.ensures.segments
    ∙ (λ i. recounted (counted i) (rejoined (inside i) (c.in_ok-reserve.ensures.items i ++ c.self.inside.segments.items))) in
    record {
      rising = subst IsRising (sym whole) (rising_added c.self.inside.chunk c.self.inside.tail c.self.invariant.rising);
      reached = subst (AreUpTo c.self.inside.last) (sym whole) (up_added c.self.inside.last c.self.inside.chunk c.self.inside.tail
          (upto_front c.self.inside.last c.self.inside.chunk c.self.inside.tail c.self.invariant.reached) (upto_back c.self.inside.last c.self.inside.chunk c.self.inside.tail c.self.invariant.reached));
      parted = parts_are c.self.inside.last c.swap.new.x.items [] c.swap.new.y.items (recounted (added c.self.inside.chunk c.self.inside.tail) (rejoined (is_inside (joins_of c.self.inside.chunk c.self.inside.tail)) (c.self.inside.chunk_segments.items ++ c.self.inside.segments.items)))
          c.thaw.new.self [] c.thaw.new.tail (added c.self.inside.chunk c.self.inside.tail) none chunk segments tail
          (thaw_keeps c.self.inside.last c.self.inside.chunk_segments.items c.self.inside.chunk c.self.inside.segments.items c.self.inside.tail c.self.invariant.parted (is_inside (joins_of c.self.inside.chunk c.self.inside.tail))
          (rising_added c.self.inside.chunk c.self.inside.tail c.self.invariant.rising));
      thawed = λ e. (chunk, none);
    }

pub returns-clause-log : goal.returns-clause-log
returns-clause-log c =
    let chunk : c.thaw.new.self ≡ [] = c.in_ok-joins.ensures.emptied in
    let tail : c.thaw.new.tail ≡ added c.self.inside.chunk c.self.inside.tail = c.in_ok-joins.ensures.records in
    let none : c.swap.new.x.items ≡ [] = ap (λ v. v.items) c.swap.ensures.x_after ∙ c.regroup_all.ensures.later in
    let counted : c.records.result ≡ added c.self.inside.chunk c.self.inside.tail = c.records.ensures.same ∙ c.in_ok-joins.ensures.records in
    let joins : c.deref.result.now ≡ joins_of c.self.inside.chunk c.self.inside.tail = c.deref.ensures.value ∙ c.in_ok-joins.ensures.joins in
    let inside : is_inside c.deref-2.result.now ≡ is_inside (joins_of c.self.inside.chunk c.self.inside.tail) = λ i n. (ap (λ l. is_inside l n) c.deref-2.ensures.value ∙ c.keep_widest.ensures.inside n ∙ ap (λ l. is_inside l n) joins) i in
    let segments : c.swap.new.y.items ≡ recounted (added c.self.inside.chunk c.self.inside.tail) (rejoined (is_inside (joins_of c.self.inside.chunk c.self.inside.tail)) (c.self.inside.chunk_segments.items ++ c.self.inside.segments.items)) =
    ap (λ v. v.items) c.swap.ensures.y_after ∙ c.regroup_all.ensures.segments
    ∙ (λ i. recounted (counted i) (rejoined (inside i) (c.in_ok-reserve.ensures.items i ++ c.self.inside.segments.items))) in
    let new : LogState = record { frozen = None; chunk = c.thaw.new.self; chunk_segments = c.swap.new.x.items; records = c.thaw.new.tail; segments = c.swap.new.y.items; last = c.self.inside.last; chunks = c.self.inside.chunks } in
    let same : new ≡ thawed (state_of c.self.inside) = λ i. record { frozen = None; chunk = chunk i; chunk_segments = none i; records = tail i; segments = segments i; last = c.self.inside.last; chunks = c.self.inside.chunks } in
    same ∙ ap thawed c.self.view_is

pub returns-clause-run : goal.returns-clause-run
returns-clause-run c front back h s =
    let chunk : c.thaw.new.self ≡ [] = c.in_ok-joins.ensures.emptied in
    let tail : c.thaw.new.tail ≡ added c.self.inside.chunk c.self.inside.tail = c.in_ok-joins.ensures.records in
    let none : c.swap.new.x.items ≡ [] = ap (λ v. v.items) c.swap.ensures.x_after ∙ c.regroup_all.ensures.later in
    let counted : c.records.result ≡ added c.self.inside.chunk c.self.inside.tail = c.records.ensures.same ∙ c.in_ok-joins.ensures.records in
    let joins : c.deref.result.now ≡ joins_of c.self.inside.chunk c.self.inside.tail = c.deref.ensures.value ∙ c.in_ok-joins.ensures.joins in
    let inside : is_inside c.deref-2.result.now ≡ is_inside (joins_of c.self.inside.chunk c.self.inside.tail) = λ i n. (ap (λ l. is_inside l n) c.deref-2.ensures.value ∙ c.keep_widest.ensures.inside n ∙ ap (λ l. is_inside l n) joins) i in
    let segments : c.swap.new.y.items ≡ recounted (added c.self.inside.chunk c.self.inside.tail) (rejoined (is_inside (joins_of c.self.inside.chunk c.self.inside.tail)) (c.self.inside.chunk_segments.items ++ c.self.inside.segments.items)) =
    ap (λ v. v.items) c.swap.ensures.y_after ∙ c.regroup_all.ensures.segments
    ∙ (λ i. recounted (counted i) (rejoined (inside i) (c.in_ok-reserve.ensures.items i ++ c.self.inside.segments.items))) in
    let new : LogState = record { frozen = None; chunk = c.thaw.new.self; chunk_segments = c.swap.new.x.items; records = c.thaw.new.tail; segments = c.swap.new.y.items; last = c.self.inside.last; chunks = c.self.inside.chunks } in
    let same : new ≡ thawed (state_of c.self.inside) = λ i. record { frozen = None; chunk = chunk i; chunk_segments = none i; records = tail i; segments = segments i; last = c.self.inside.last; chunks = c.self.inside.chunks } in
    subst (λ log. IsLogOf log [] (front ++ back)) (sym same) (thawed_log (state_of c.self.inside) front back (subst (λ log. IsLogOf log front back) (sym c.self.view_is) h) s)
