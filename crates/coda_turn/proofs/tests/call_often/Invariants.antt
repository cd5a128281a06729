use Rattle.std.proofs.Common.{◌≡◌}
use Rattle.coda_turn.proofs.tests.call_often.Given as goal

-- the pass stays one of the turn, with its parts
abbrev pub invariant-loop-call : goal.invariant-loop-call
invariant-loop-call g l = record {
  own : l.pass.turn ≡ l.fn.pass.turn;
  parts : l.pass.parts ≡ l.fn.pass.parts;
}
