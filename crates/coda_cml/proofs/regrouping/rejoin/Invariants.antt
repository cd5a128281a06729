use Rattle.std.proofs.Common.{◌≡◌, ◌+◌, ◌<◌, ◌++◌, drop, take, length}
use Rattle.coda_cml.specs.Regrouping.{is_inside, rejoined}
use Rattle.coda_cml.proofs.regrouping.rejoin.Given as goal

abbrev pub invariant-loop-next : goal.invariant-loop-next
invariant-loop-next l = record {
  before : l.kept < l.next;
  within : l.kept < length l.segments.items;
  long : length l.segments.items ≡ length l.fn.segments.items;
  rest : drop l.next l.segments.items ≡ drop l.next l.fn.segments.items;
  done : take l.kept l.segments.items ++ rejoined (is_inside l.joins) (drop l.kept (take (l.kept + 1) l.segments.items) ++ drop l.next l.fn.segments.items) ≡ rejoined (is_inside l.joins) l.fn.segments.items;
}
