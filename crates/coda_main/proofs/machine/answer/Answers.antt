use Rattle.std.proofs.Common.{◌≡◌, rules, ◌∙◌, subst, sym}
use Rattle.coda_main.specs.Tallies.{IsText}
use Rattle.coda_main.specs.Shows.{moment}
use Rattle.coda_main.proofs.Answering.{line_answered}
use Rattle.coda_main.proofs.machine.answer.Goals as goal

pub returns-in-Ok-text_of-clause-answered : goal.returns-in-Ok-text_of-clause-answered
returns-in-Ok-text_of-clause-answered g c =
    let old = c.args.cell.now in
    let new = c.step.new.self in
    let before = moment (g.B.Bay.out old.bay) (g.B.Bay.has old.bay) (g.B.Bay.answered old.bay) old.site in
    let behind = moment (g.B.Bay.out new.bay) (g.B.Bay.has new.bay) (g.B.Bay.answered new.bay) new.site in
    let same : c.into_vec.result.items ≡ c.in-Ok-text_of.text = search rules in (
      c.in-Ok.reply,
      subst (IsText c.in-Ok.reply) (sym same) c.in-Ok-text_of.ensures.said,
      c.in-Ok.ensures.counts,
      line_answered g.B.D.Disk.told before behind c.args.said.now c.in-Ok.reply c.into_vec.result.items c.in-Ok.ensures.does (λ plain shows can. same ∙ c.in-Ok-text_of.ensures.printed plain shows can),
    )
