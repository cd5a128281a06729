use Rattle.std.proofs.Common.{◌∙◌, sym, ap}
use Rattle.coda_resolve.specs.Lasts.{is_later}
use Rattle.coda_resolve.proofs.Lasting.{known_stays, later_comes}
use Rattle.coda_resolve.proofs.lasts.add_last.Goals as goal

pub returns-then-not-is_later : goal.returns-then-not-is_later
returns-then-not-is_later c = λ lasts are. known_stays c.args.table.now lasts c.args.last (ap (λ o. is_later o c.args.last) (sym (c.copied-known.ensures ∙ c.get.ensures.value)) ∙ sym c.is_later.ensures ∙ c.if-not-is_later.true) are

pub returns : goal.returns
returns c = λ lasts are. later_comes c.args.table.now c.insert.new.self lasts c.args.last (ap (λ o. is_later o c.args.last) (sym (c.copied-known.ensures ∙ c.get.ensures.value)) ∙ sym c.is_later.ensures ∙ c.if-not-is_later.false) c.in_ok-insert.ensures.updates are
