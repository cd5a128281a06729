use Rattle.std.proofs.Common.{◌≡◌, None, sym, ap, ◌∙◌}
use Rattle.coda_fid.specs.Op.{pre_of}
use Rattle.coda_cancel.specs.Mentions.{has, tells}
use Rattle.coda_cancel.proofs.Passing.{past_other}
use Rattle.coda_cancel.proofs.Quiet.{kept_without, none_lost}
use Rattle.coda_cancel.proofs.handing.pass.Goals as goal

pub returns-in_default-clause-records : goal.returns-in_default-clause-records
returns-in_default-clause-records c front rec back e is =
    let none : pre_of rec.op c.args.fid ≡ None = ap (λ r. pre_of r.op c.args.fid) (sym (c.at-record.ensures.«record» front rec back e is)) ∙ sym c.pre_of.ensures ∙ c.in_default.is in
    e ∙ kept_without c.args.op.now c.args.fid c.requires.own c.args.owed rec none front back

pub returns-in_default-clause-owed : goal.returns-in_default-clause-owed
returns-in_default-clause-owed c front rec back e is =
    let none : pre_of rec.op c.args.fid ≡ None = ap (λ r. pre_of r.op c.args.fid) (sym (c.at-record.ensures.«record» front rec back e is)) ∙ sym c.pre_of.ensures ∙ c.in_default.is in
    past_other c.args.op.now rec c.args.fid c.args.owed c.requires.own none

pub returns-in_default-clause-index : goal.returns-in_default-clause-index
returns-in_default-clause-index c front rec back e is fid number =
    let none : pre_of rec.op c.args.fid ≡ None = ap (λ r. pre_of r.op c.args.fid) (sym (c.at-record.ensures.«record» front rec back e is)) ∙ sym c.pre_of.ensures ∙ c.in_default.is in
    none_lost c.args.op.now c.args.fid c.requires.own c.args.owed rec none (has c.args.index.now fid number) (tells rec fid number)
