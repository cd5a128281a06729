use Rattle.std.proofs.Common.{sym, subst}
use Rattle.coda_cancel.specs.Numbers.{AreBelow}
use Rattle.coda_cancel.specs.Mentions.{last_number}
use Rattle.coda_cancel.proofs.Rising.{below_without}
use Rattle.coda_cancel.proofs.Walks.{AllUpTo, last_reaches}
use Rattle.coda_cancel.proofs.Indexed.{without_upto}
use Rattle.coda_cancel.proofs.Entered.{covers_front, forgotten_covers, past_forgotten}
use Rattle.coda_cancel.proofs.adding.undo.Goals as goal

pub take_out-requires : goal.take_out-requires
take_out-requires c = covers_front c.args.index.now c.args.shelf.now.records c.args.rec.now c.requires.later c.requires.indexed

pub returns-clause-indexed : goal.returns-clause-indexed
returns-clause-indexed c =
    let rs = c.args.shelf.now.records in
    let within = subst (AllUpTo (last_number rs)) (sym c.take_out.ensures.records) (without_upto (last_number rs) c.args.fid rs (last_reaches rs c.take_out.ensures.rising)) in
    forgotten_covers c.args.index.now rs c.args.rec.now c.requires.later c.requires.indexed c.take_out.new.index c.take_out.new.shelf.records within c.take_out.ensures.rising c.take_out.ensures.indexed c.take_out.ensures.beyond c.forget.new.index c.forget.ensures
    (subst (AreBelow c.args.rec.now.number) (sym c.take_out.ensures.records) (below_without c.args.rec.now.number c.args.fid rs c.requires.later))

pub returns-clause-beyond : goal.returns-clause-beyond
returns-clause-beyond c =
    let rs = c.args.shelf.now.records in
    let within = subst (AllUpTo (last_number rs)) (sym c.take_out.ensures.records) (without_upto (last_number rs) c.args.fid rs (last_reaches rs c.take_out.ensures.rising)) in
    past_forgotten c.args.index.now rs c.args.rec.now c.requires.later c.requires.indexed c.take_out.new.index c.take_out.new.shelf.records within c.take_out.ensures.rising c.take_out.ensures.indexed c.take_out.ensures.beyond c.forget.new.index c.forget.ensures
    (subst (AreBelow c.args.rec.now.number) (sym c.take_out.ensures.records) (below_without c.args.rec.now.number c.args.fid rs c.requires.later))
