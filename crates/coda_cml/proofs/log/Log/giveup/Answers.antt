use Rattle.std.proofs.Common.{◌≡◌, [], ◌++◌, sym, ap, ◌∙◌, subst}
use Rattle.coda_cancel.specs.Numbers.{AreUpTo, IsRising}
use Rattle.coda_cml.proofs.runs.AlmostAlike.{append_nil}
use Rattle.coda_cml.proofs.segments.PartsKept.{parts_are, none_keeps}
use Rattle.coda_cml.proofs.segments.LogSteps.{upto_front}
use Rattle.coda_cml.proofs.segments.ThawedLog.{rising_front}
use Rattle.coda_cml.proofs.log.Log.giveup.Goals as goal

pub invariant_of-self : goal.invariant_of-self
invariant_of-self c =
    let left : c.self.inside.chunk ++ c.replace-tail.new.dest ≡ c.self.inside.chunk = ap (λ l. c.self.inside.chunk ++ l) (c.replace-tail.ensures.after ∙ c.new.ensures) ∙ append_nil c.self.inside.chunk in
    record {
      rising = subst IsRising (sym left) (rising_front c.self.inside.chunk c.self.inside.tail c.self.invariant.rising);
      reached = subst (AreUpTo c.self.inside.last) (sym left) (upto_front c.self.inside.last c.self.inside.chunk c.self.inside.tail c.self.invariant.reached);
      parted = parts_are c.self.inside.last c.self.inside.chunk_segments.items [] c.clear.new.self.items [] c.self.inside.chunk [] c.replace-tail.new.dest []
          (c.self.invariant.thawed c.in_default.is).1 (c.self.invariant.thawed c.in_default.is).0 c.clear.ensures.items (c.replace-tail.ensures.after ∙ c.new.ensures) (none_keeps c.self.inside.last);
      thawed = c.self.invariant.thawed;
    }
