use Rattle.std.proofs.Common.{sym, ap, subst, ◌≡◌, ◌≤◌, ℕ, arith}
use Rattle.coda_disk.specs.Bays.{plus}
use Rattle.coda_site.specs.Shelves.{AreOnDisks}
use Rattle.coda_site.specs.Totals.{totals}
use Rattle.coda_main.specs.Shows.{moment}
use Rattle.coda_main.proofs.Tallying.{reported_disks}
use Rattle.coda_main.proofs.Reporting.{goes_on, reported, reported_lines}
use Rattle.coda_main.proofs.top.run_and_close.Goals as goal

pub returns-clause-report : goal.returns-clause-report
returns-clause-report g c = λ shelves kept on.
    let start = c.new.ensures in
    let report = c.run-status.ensures.report in
    let told = g.B.D.Disk.told in
    reported c.run-status.new.machine (record { cell = c.new.result }) report.1 told (λ m. moment (g.B.Bay.out m.cell.bay) (g.B.Bay.has m.cell.bay) (g.B.Bay.answered m.cell.bay) m.cell.site) (λ m. totals told g.B.D.Disk.faults g.B.D.Disk.arms (g.B.Bay.disk_faults m.cell.bay) (g.B.Bay.disk_arms m.cell.bay) m.cell.site) _ _ _ _ report.0 c.run-status.result report.2 report.3
    shelves (g.B.Bay.has c.close.result) (g.B.Bay.answered c.args.bay) (g.B.Bay.answered c.close.result) (g.B.Bay.disk_faults c.args.bay) (g.B.Bay.disk_faults c.close.result) (g.B.Bay.disk_arms c.args.bay) (g.B.Bay.disk_arms c.close.result) kept start.ready
    (start.shelves shelves kept (subst (λ bay. AreOnDisks told (g.B.Bay.has bay) shelves) (sym start.bay) on), ap g.B.Bay.answered start.bay)
    c.close.ensures.answered (λ ready cell shows. c.close.ensures.shelves cell ready shows) (ap (λ t. t.faults) start.counts) (ap (λ t. t.arms) start.counts) c.close.ensures.faults_out c.close.ensures.arms_out

pub returns-clause-given_back : goal.returns-clause-given_back
returns-clause-given_back g c = λ memory bay number.
    let report = c.run-status.ensures.report in
    c.close.ensures.out (goes_on c.run-status.new.machine (record { cell = c.new.result }) report.1 g.B.D.Disk.told (λ m. moment (g.B.Bay.out m.cell.bay) (g.B.Bay.has m.cell.bay) (g.B.Bay.answered m.cell.bay) m.cell.site) (λ m. totals g.B.D.Disk.told g.B.D.Disk.faults g.B.D.Disk.arms (g.B.Bay.disk_faults m.cell.bay) (g.B.Bay.disk_arms m.cell.bay) m.cell.site) _ _ _ _ report.0 c.run-status.result report.2 report.3 c.new.ensures.ready memory bay) number

pub returns-clause-lines : goal.returns-clause-lines
returns-clause-lines g c =
    let report = c.run-status.ensures.report in
    reported_lines c.run-status.new.machine (record { cell = c.new.result }) report.1 g.B.D.Disk.told (λ m. moment (g.B.Bay.out m.cell.bay) (g.B.Bay.has m.cell.bay) (g.B.Bay.answered m.cell.bay) m.cell.site) (λ m. totals g.B.D.Disk.told g.B.D.Disk.faults g.B.D.Disk.arms (g.B.Bay.disk_faults m.cell.bay) (g.B.Bay.disk_arms m.cell.bay) m.cell.site) _ _ _ _ report.0 c.run-status.result report.2 report.3

pub returns-clause-disks : goal.returns-clause-disks
returns-clause-disks g c =
    let report = c.run-status.ensures.report in
    reported_disks g.B.D.Disk.told (λ m. moment (g.B.Bay.out m.cell.bay) (g.B.Bay.has m.cell.bay) (g.B.Bay.answered m.cell.bay) m.cell.site)
    (λ m. totals g.B.D.Disk.told g.B.D.Disk.faults g.B.D.Disk.arms (g.B.Bay.disk_faults m.cell.bay) (g.B.Bay.disk_arms m.cell.bay) m.cell.site) c.run-status.new.machine (record { cell = c.new.result }) report.1 _ _ _ _ report.0 c.run-status.result report.2 report.3
    (g.B.Bay.disk_faults c.args.bay) (g.B.Bay.disk_faults c.close.result) (g.B.Bay.disk_arms c.args.bay) (g.B.Bay.disk_arms c.close.result) (ap (λ t. t.faults) c.new.ensures.counts) (ap (λ t. t.arms) c.new.ensures.counts) c.close.ensures.faults_out c.close.ensures.arms_out

-- a sum that is told by the totals at the start and at the end
told_later : (old new start end : ℕ) → start ≡ plus old 0 → plus new 0 ≡ end → start ≤ end → plus old 0 ≤ new
told_later old new start end first last later = omega (arith, first, last, later)

pub returns-clause-disk_faults_later : goal.returns-clause-disk_faults_later
returns-clause-disk_faults_later g c =
    told_later (g.B.Bay.disk_faults c.args.bay) (g.B.Bay.disk_faults c.close.result) _ _ (ap (λ t. t.faults) c.new.ensures.counts) c.close.ensures.faults_out c.run-status.ensures.follows.2
