use Rattle.std.proofs.Common.{◌≡◌, ◌≤◌, ◌++◌, take, drop, length, sym, ap, ◌∙◌, subst, arith}
use Rattle.std.proofs.lemmas.List.{take_rest}
use Rattle.std.proofs.lemmas.Option.{none-some}
use Rattle.std.proofs.lemmas.List.{take-append-drop}
use Rattle.coda_cancel.specs.Numbers.{AreUpTo, IsRising}
use Rattle.coda_cancel.specs.Weights.{total_weight}
use Rattle.coda_cancel.proofs.Rising.{rising_behind}
use Rattle.coda_cancel.proofs.Sizes.{total-append}
use Rattle.coda_cml.specs.Segments.{end_of}
use Rattle.coda_cml.specs.Regrouping.{leading}
use Rattle.coda_cml.specs.State.{LogState}
use Rattle.coda_cml.proofs.segments.PartsKept.{parts_are, cut_keeps}
use Rattle.coda_cml.proofs.segments.LogSteps.{upto_back}
use Rattle.coda_cml.proofs.log.Log.cut.Goals as goal

pub of-requires : goal.of-requires
of-requires c =
    let k = c.take_upto-count.result in
    let both = ap total_weight (sym (take-append-drop k c.self.inside.tail)) ∙ total-append (take k c.self.inside.tail) (drop k c.self.inside.tail) in
    let front = ap total_weight c.in_ok-front.ensures.front in
    let rest = ap total_weight c.in_ok-front.ensures.rest in
    omega (arith, both, front, rest, c.weight-before.ensures, c.weight.ensures)

pub overflow_sub-before : goal.overflow_sub-before
overflow_sub-before c =
    let k = c.take_upto-count.result in
    let both = ap total_weight (sym (take-append-drop k c.self.inside.tail)) ∙ total-append (take k c.self.inside.tail) (drop k c.self.inside.tail) in
    let rest = ap total_weight c.in_ok-front.ensures.rest in
    omega (arith, both, rest, c.weight-before.ensures, c.weight.ensures)

pub invariant_of-self-2 : goal.invariant_of-self-2
invariant_of-self-2 c =
    let whole = (λ i. (c.of.ensures ∙ c.in_ok-front.ensures.front) i ++ c.in_ok-front.ensures.rest i) ∙ take-append-drop c.take_upto-count.result c.self.inside.tail in
    let front : c.replace.result.items ≡ take c.args.length c.self.inside.segments.items = ap (λ v. v.items) c.replace.ensures.value ∙ c.truncate.ensures.items in
    let back : c.replace.new.dest.items ≡ drop c.args.length c.self.inside.segments.items = ap (λ v. v.items) c.replace.ensures.after ∙ c.in_ok-later.ensures.items ∙ take_rest c.deref.result.now c.args.length ∙ ap (drop c.args.length) c.deref.ensures.value in
    let counted : c.take_upto-count.result ≡ leading (end_of (take c.args.length c.self.inside.segments.items)) c.self.inside.tail =
    c.take_upto-count.ensures.count ∙ (λ i. leading ((c.end_of-end.ensures ∙ ap (λ l. end_of (take c.args.length l)) c.deref-2.ensures.value) i) (c.records.ensures.same i)) in
    let chunk = c.of.ensures ∙ c.in_ok-front.ensures.front ∙ ap (λ n. take n c.self.inside.tail) counted in
    let tail = c.in_ok-front.ensures.rest ∙ ap (λ n. drop n c.self.inside.tail) counted in
    let within = subst (λ (log : LogState). c.args.length ≤ length log.segments) (sym c.self.view_is) c.requires.within in
    record {
      rising = subst IsRising (sym whole) (rising_behind c.self.inside.chunk c.self.inside.tail c.self.invariant.rising);
      reached = subst (AreUpTo c.self.inside.last) (sym whole) (upto_back c.self.inside.last c.self.inside.chunk c.self.inside.tail c.self.invariant.reached);
      parted = parts_are c.self.inside.last c.replace.result.items (take c.args.length c.self.inside.segments.items) c.replace.new.dest.items (drop c.args.length c.self.inside.segments.items)
          c.of.result (take (leading (end_of (take c.args.length c.self.inside.segments.items)) c.self.inside.tail) c.self.inside.tail)
          c.take_front.new.self (drop (leading (end_of (take c.args.length c.self.inside.segments.items)) c.self.inside.tail) c.self.inside.tail) front chunk back tail
          (cut_keeps c.self.inside.last c.self.inside.chunk_segments.items c.self.inside.chunk c.self.inside.segments.items c.self.inside.tail c.self.invariant.parted c.args.length c.requires.some (omega (arith, within, c.requires.some)));
      thawed = λ e. absurd (none-some c.args.chunk (sym e));
    }
