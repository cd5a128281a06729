use Rattle.std.proofs.Common.{Some, sym, ap, ◌∙◌, subst}
use Rattle.coda_cancel.specs.Dropping.{drops}
use Rattle.coda_cancel.specs.Handing.{nothing}
use Rattle.coda_cancel.specs.Numbers.{AreBelow}
use Rattle.coda_cancel.specs.Mentions.{CoversUpTo, last_number, tells}
use Rattle.coda_cancel.specs.Passing.{owed_to}
use Rattle.coda_cancel.proofs.Rising.{below_kept}
use Rattle.coda_cancel.proofs.Walks.{AllUpTo, last_reaches}
use Rattle.coda_cancel.proofs.Indexed.{kept_upto, handed_tells}
use Rattle.coda_cancel.proofs.Entered.{covers_front, put_behind_covers, past_operation}
use Rattle.coda_cancel.proofs.adding.append.Goals as goal

pub drop_needless-owed-requires-clause-indexed : goal.drop_needless-owed-requires-clause-indexed
drop_needless-owed-requires-clause-indexed c = covers_front c.args.index.now c.args.shelf.now.records c.args.rec c.requires.later c.requires.indexed

pub push-requires-clause-later : goal.push-requires-clause-later
push-requires-clause-later c =
    subst (λ r. AreBelow r.number c.drop_needless-owed.new.shelf.records) (sym c.pay.ensures)
    (subst (AreBelow c.args.rec.number) (sym c.drop_needless-owed.ensures.records) (below_kept c.args.rec.number (drops c.args.rec.op) nothing c.args.shelf.now.records c.requires.later))

pub returns-clause-indexed : goal.returns-clause-indexed
returns-clause-indexed c =
    let rs = c.args.shelf.now.records in
    let within = subst (AllUpTo (last_number rs)) (sym c.drop_needless-owed.ensures.records) (kept_upto (last_number rs) (drops c.args.rec.op) nothing rs (last_reaches rs c.drop_needless-owed.ensures.rising)) in
    subst (CoversUpTo (Some c.args.rec.number) c.drop_needless-owed.new.index) (sym c.push.ensures.records)
    (put_behind_covers c.args.index.now rs c.args.rec c.requires.later c.requires.indexed c.drop_needless-owed.new.index c.drop_needless-owed.new.shelf.records within c.drop_needless-owed.ensures.rising c.drop_needless-owed.ensures.indexed c.drop_needless-owed.ensures.beyond
    c.pay.new.rec (λ f n. ap (λ r. tells r f n) c.pay.ensures ∙ handed_tells (owed_to c.args.fid c.drop_needless-owed.result) c.args.rec f n))

pub returns-clause-beyond : goal.returns-clause-beyond
returns-clause-beyond c =
    let rs = c.args.shelf.now.records in
    let within = subst (AllUpTo (last_number rs)) (sym c.drop_needless-owed.ensures.records) (kept_upto (last_number rs) (drops c.args.rec.op) nothing rs (last_reaches rs c.drop_needless-owed.ensures.rising)) in
    past_operation c.args.index.now rs c.args.rec c.requires.later c.requires.indexed c.drop_needless-owed.new.index c.drop_needless-owed.new.shelf.records within c.drop_needless-owed.ensures.rising c.drop_needless-owed.ensures.indexed c.drop_needless-owed.ensures.beyond
