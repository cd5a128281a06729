use Rattle.std.proofs.Common.{◌≡◌, None, length, sym, ap, ◌∙◌, arith}
use Rattle.coda_fid.specs.Op.{carried}
use Rattle.coda_cancel.specs.Numbers.{least}
use Rattle.coda_cancel.specs.Weights.{total_weight}
use Rattle.coda_cancel.proofs.Leaves.{never_cancels, none_numbered, none_dropped}
use Rattle.coda_cancel.proofs.leaving.leaving_with.Goals.{In-None}
use Rattle.coda_cancel.proofs.leaving.leaving_with.Goals as goal

bare : (c : In-None) → carried c.args.op.now ≡ None
bare c = sym c.carried.ensures ∙ c.in-None.is

pub returns-in-None-clause-cancelled : goal.returns-in-None-clause-cancelled
returns-in-None-clause-cancelled c = sym (never_cancels c.args.op.now (bare c) c.args.shelf.now.records)

pub returns-in-None-clause-least : goal.returns-in-None-clause-least
returns-in-None-clause-least c = ap least (sym (none_numbered c.args.op.now (bare c) c.args.shelf.now.records))

pub returns-in-None-clause-count : goal.returns-in-None-clause-count
returns-in-None-clause-count c = let all = ap length (none_dropped c.args.op.now (bare c) c.args.shelf.now.records) in omega (arith, all)

pub returns-in-None-clause-weight : goal.returns-in-None-clause-weight
returns-in-None-clause-weight c = let all = ap total_weight (none_dropped c.args.op.now (bare c) c.args.shelf.now.records) in omega (arith, all)
