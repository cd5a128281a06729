use Rattle.std.proofs.Common.{sym, ◌∙◌}
use Rattle.coda_resolve.proofs.Counts.{met_again, met_first}
use Rattle.coda_resolve.proofs.doubles.add_fid.Goals as goal

pub returns-in_ok-insert : goal.returns-in_ok-insert
returns-in_ok-insert c = λ fids are. met_again c.args.once.now c.insert.new.self c.args.twice.now c.insert-then-not-added.new.self c.args.fid fids c.in_ok-added.ensures.updates c.in_ok-insert.ensures.updates (sym c.in_ok-added.ensures.added ∙ c.if-not-added.true) are

pub returns-else-not-added : goal.returns-else-not-added
returns-else-not-added c = λ fids are. met_first c.args.once.now c.insert.new.self c.args.twice.now c.args.fid fids c.in_ok-added.ensures.updates (sym c.in_ok-added.ensures.added ∙ c.if-not-added.false) are
