use Rattle.std.proofs.Common.{◌≡◌}
use Rattle.std.specs.List.{filter_map, flat_map, range_with_len}
use Rattle.coda_record.specs.declared.view.View.{View}
use Rattle.coda_resolve.specs.Lasts.{latest}
use Rattle.coda_resolve.proofs.lasts.joined.Given as goal

abbrev pub invariant-loop-client : goal.invariant-loop-client
invariant-loop-client l = l.items.items ≡ filter_map (latest (flat_map (λ (view : View). view.lasts) l.fn.views)) (range_with_len 0 l.client)
