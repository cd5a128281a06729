use Rattle.std.proofs.Common.{rules}
use Rattle.coda_site.specs.Totals.{totals}
use Rattle.coda_trace.specs.Notes.{IsTraced}
use Rattle.coda_trace.proofs.Telling.{goes_on}
use Rattle.coda_trace.proofs.traced.TracedCell.step.Goals as goal

pub returns-in-Ok-clause-steps : goal.returns-in-Ok-clause-steps
returns-in-Ok-clause-steps g c = λ start plain images shows steps.
    let told = g.B.D.Disk.told in
    let faults = g.B.D.Disk.faults in
    let arms = g.B.D.Disk.arms in
    let old = c.args.self.now in
    let new = c.step.new.self in
    let before = totals told faults arms (g.B.Bay.disk_faults old.cell.bay) (g.B.Bay.disk_arms old.cell.bay) old.cell.site in
    let behind = totals told faults arms (g.B.Bay.disk_faults new.bay) (g.B.Bay.disk_arms new.bay) new.site in
    let traced : IsTraced c.args.line.now c.in-Ok.reply before behind old.events.items c.push_reserved.new.self.items = search rules in
    goes_on told (g.B.Bay.out new.bay) (g.B.Bay.has new.bay) start plain c.args.line.now c.in-Ok.reply before behind old.events.items c.push_reserved.new.self.items images (g.B.Bay.answered old.cell.bay)
    (g.B.Bay.answered new.bay) new.site c.requires.range traced (c.in-Ok.ensures.does plain shows) steps
