use Rattle.std.proofs.Common.{take, sym, ◌∙◌}
use Rattle.coda_cancel.specs.Mentions.{has}
use Rattle.coda_cancel.proofs.Mentioned.{at_error, undone_told, err_at}
use Rattle.coda_cancel.proofs.mentions.note.Goals as goal

pub returns-then-is_err-clause-err : goal.returns-then-is_err-clause-err
returns-then-is_err-clause-err c = at_error c.put_all-done.result (undone_told (has c.args.index.now) (has c.put_all-done.new.index) (has c.take_all.new.index) c.args.rec.now (take c.fids-count.result.1 c.fids-count.result.0) c.fids-count.ensures.names c.requires (err_at c.put_all-done.result (sym c.is_err.ensures.value ∙ c.if-is_err.true) c.put_all-done.ensures.err) c.take_all.ensures)
