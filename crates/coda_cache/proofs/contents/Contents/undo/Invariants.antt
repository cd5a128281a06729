use Rattle.std.proofs.Common.{◌≡◌, ◌+◌}
use Rattle.std.specs.Vec.{vec_len}
use Rattle.coda_cache.specs.Walking.{undone}
use Rattle.coda_cache.proofs.contents.Contents.undo.Given as goal

abbrev pub invariant-loop-step : goal.invariant-loop-step
invariant-loop-step l = record {
  undone : undone l.self l.noted.items ≡ undone l.fn.self l.fn.noted.items;
  left : vec_len l.noted + l._step ≡ vec_len l.fn.noted;
}
