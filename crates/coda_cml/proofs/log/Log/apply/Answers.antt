use Rattle.std.proofs.Common.{◌≡◌, [], ◌++◌, None, refl, sym, subst}
use Rattle.coda_cancel.specs.Numbers.{AreUpTo, IsRising}
use Rattle.coda_cancel.proofs.Rising.{rising_behind}
use Rattle.coda_cml.specs.State.{LogState, IsLogOf}
use Rattle.coda_cml.specs.Inside.{state_of}
use Rattle.coda_cml.specs.Steps.{applied_to}
use Rattle.coda_cml.proofs.segments.PartsKept.{parts_are, apply_keeps}
use Rattle.coda_cml.proofs.segments.LogSteps.{upto_back, applied_log}
use Rattle.coda_cml.proofs.log.Log.apply.Goals as goal

pub invariant_of-self : goal.invariant_of-self
invariant_of-self c = record {
  rising = subst (λ l. IsRising (l ++ c.self.inside.tail)) (sym c.new.ensures) (rising_behind c.self.inside.chunk c.self.inside.tail c.self.invariant.rising);
  reached = subst (λ l. AreUpTo c.self.inside.last (l ++ c.self.inside.tail)) (sym c.new.ensures) (upto_back c.self.inside.last c.self.inside.chunk c.self.inside.tail c.self.invariant.reached);
  parted = parts_are c.self.inside.last c.clear.new.self.items [] c.self.inside.segments.items c.self.inside.segments.items c.new.result [] c.self.inside.tail c.self.inside.tail c.clear.ensures.items c.new.ensures refl refl
      (apply_keeps c.self.inside.last c.self.inside.chunk_segments.items c.self.inside.chunk c.self.inside.segments.items c.self.inside.tail c.self.invariant.parted);
  thawed = λ e. (c.new.ensures, c.clear.ensures.items);
}

pub returns-clause-run : goal.returns-clause-run
returns-clause-run c front back h =
    let new : LogState = record { frozen = None; chunk = c.new.result; chunk_segments = c.clear.new.self.items; records = c.self.inside.tail; segments = c.self.inside.segments.items; last = c.self.inside.last; chunks = c.self.inside.chunks } in
    let same : new ≡ applied_to (state_of c.self.inside) = λ i. record { frozen = None; chunk = c.new.ensures i; chunk_segments = c.clear.ensures.items i; records = c.self.inside.tail; segments = c.self.inside.segments.items; last = c.self.inside.last; chunks = c.self.inside.chunks } in
    subst (λ log. IsLogOf log [] back) (sym same) (applied_log (state_of c.self.inside) front back (subst (λ log. IsLogOf log front back) (sym c.self.view_is) h))
