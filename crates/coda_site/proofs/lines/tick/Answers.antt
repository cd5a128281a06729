use Rattle.std.proofs.Common.{refl, ap, ◌∙◌}
use Rattle.coda_script.specs.declared.line.Line.TheVariants as line
use Rattle.coda_script.specs.declared.reply.Reply.TheVariants.{Accepted}
use Rattle.coda_cell.specs.State.{later, Ticked}
use Rattle.coda_shelves.specs.Cells.{after}
use Rattle.coda_site.proofs.Becomings.{happens}
use Rattle.coda_site.proofs.Clocks.{ticked}
use Rattle.std.specs.Prelude.{[]}
use Rattle.std.proofs.Common.{append-nil, sym}
use Rattle.coda_site.proofs.lines.tick.Goals as goal

pub returns-clause-does : goal.returns-clause-does
returns-clause-does g c = λ cell shows.
    let told = g.B.D.Disk.told in
    let out = g.B.Bay.out c.args._bay.now in
    let has = g.B.Bay.has c.args._bay.now in
    let seconds = c.args.seconds in
    record {
      outside = [];
      left = after cell (Ticked seconds);
      happens = (refl, happens cell (line.Tick seconds) Accepted (Ticked seconds) tt (refl, refl));
      answered = sym (append-nil (g.B.Bay.answered c.args._bay.now));
      stands = ticked told out has cell c.args.site.now shows.stands seconds c.saturating_add-site.result (c.saturating_add-site.ensures ∙ ap (later c.args.site.now.clock) c.from.ensures);
    }
