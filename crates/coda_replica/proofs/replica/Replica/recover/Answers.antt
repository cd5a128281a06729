use Rattle.std.proofs.Common.{rules, arith, ap, sym, subst, ◌≡◌, ◌+◌, ◌≤◌, ◌<◌, ℕ, List}
use Rattle.std.specs.Prelude.{Err, IfErr}
use Rattle.coda_journal.specs.Header.{area_bytes}
use Rattle.coda_journal.specs.Image.{ReadsAs}
use Rattle.coda_replica.specs.Entering.{Breaks}
use Rattle.coda_replica.specs.Recovering.{NotRecovered}
use Rattle.coda_replica.specs.Standing.{IsReplicaDisk}
use Rattle.coda_replica.proofs.Recoveries.{not_mounted, not_recovered, never_breaks, still_ours}
use Rattle.coda_replica.proofs.replica.Replica.recover.Goals as goal

pub returns-in_err-journal-clause-err : goal.returns-in_err-journal-clause-err
returns-in_err-journal-clause-err g c = λ h.
    let told = g.D.Disk.told in
    let header = c.args.header.now in
    let u = c.in_err-journal.field-0.0 in
    let is : c.from_residual.result ≡ Err u = search rules in
    subst (λ r. IfErr r (λ x. NotRecovered header (told c.args.disk) (told x.disk) x.why)) (sym is)
    (not_mounted header (told c.args.disk) (told u.disk) u.why (c.in_err-journal.ensures.err h) (λ payloads same reads. subst (ReadsAs header payloads) (sym same) reads))

pub returns-in_err-journal-clause-ours : goal.returns-in_err-journal-clause-ours
returns-in_err-journal-clause-ours g c = λ h ours.
    let told = g.D.Disk.told in
    let header = c.args.header.now in
    let u = c.in_err-journal.field-0.0 in
    let is : c.from_residual.result ≡ Err u = search rules in
    subst (λ r. IfErr r (λ x. IsReplicaDisk header (told x.disk))) (sym is)
    (still_ours header (told c.args.disk) (told u.disk) u.why ours
    (not_mounted header (told c.args.disk) (told u.disk) u.why (c.in_err-journal.ensures.err h) (λ payloads same reads. subst (ReadsAs header payloads) (sym same) reads)))

pub returns-clause-err : goal.returns-clause-err
returns-clause-err g c = λ h.
    let told = g.D.Disk.told in
    let header = c.args.header.now in
    let journal = c.in_ok-journal.journal in
    let m = c.in_ok-journal.ensures.ok h in
    let area = c.in_ok-journal.ensures.area in
    let low : journal.start ≤ 64 + area_bytes header = omega (arith, journal.begins, area) in
    let room : journal.used < area_bytes header = omega (arith, journal.room, area) in
    subst (λ d. NotRecovered header (told c.args.disk) (told d) c.in-Err.why) (sym c.into_disk.ensures)
    (not_recovered header (told c.args.disk) (told journal.disk) journal.start journal.used c.in_ok-journal.payloads.items m (g.met.D.Disk.seen_now journal.disk m.is_open.honest)
    (λ x may. g.met.D.Disk.counts_now journal.disk (told c.args.disk).moment x m.is_open.honest m.leaves.later may) c.in-Err.why
    (λ at is. subst (λ (ps : List (List ℕ)). Breaks header ps journal.start at) c.deref.ensures.value (c.in-Err.ensures.breaks at (ap Err is))) (λ is. c.in-Err.ensures.no_fault (ap Err is)) low room)

pub returns-clause-never_foreign : goal.returns-clause-never_foreign
returns-clause-never_foreign g c = λ h ours at is.
    let told = g.D.Disk.told in
    let header = c.args.header.now in
    let journal = c.in_ok-journal.journal in
    let m = c.in_ok-journal.ensures.ok h in
    never_breaks header (told c.args.disk).seen c.in_ok-journal.payloads.items journal.start at c.requires.header (ours (told c.args.disk).seen (g.met.D.Disk.seen_now c.args.disk h)) m.was
    (subst (λ (ps : List (List ℕ)). Breaks header ps journal.start at) c.deref.ensures.value (c.in-Err.ensures.breaks at (ap Err is)))

pub returns-clause-ours : goal.returns-clause-ours
returns-clause-ours g c = λ h ours.
    still_ours c.args.header.now (g.D.Disk.told c.args.disk) (g.D.Disk.told c.into_disk.result) c.in-Err.why ours (returns-clause-err g c h)
