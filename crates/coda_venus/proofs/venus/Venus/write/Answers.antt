use Rattle.std.proofs.Common.{◌≡◌, ℕ, Err, refl, ap, subst, arith}
use Rattle.coda_journal.specs.Journal.{AppendAnswers}
use Rattle.coda_journal.specs.declared.journal.JournalFault.{JournalFault}
use Rattle.coda_journal.specs.declared.journal.JournalFault.TheVariants.{JournalFull, DiskFault}
use Rattle.coda_venus.proofs.venus.Venus.write.Goals as goal

pub returns-in-Ok-clause-writes : goal.returns-in-Ok-clause-writes
returns-in-Ok-clause-writes g c = λ header payloads payload framed is.
    let a = c.in-Ok.ensures.appends header payloads payload framed is in
    record { any_moment = a.any_moment; answers = (c.requires.up, a.answers) }

-- where there is room, only the disk can refuse
fault_is : (e : JournalFault) → ((u n a : ℕ) → e ≡ JournalFull u n a → ⊥) → e ≡ DiskFault
fault_is (JournalFull u n a) none = absurd (none u n a refl)
fault_is DiskFault none = refl

pub returns-in-Err-clause-writes : goal.returns-in-Err-clause-writes
returns-in-Err-clause-writes g c = λ header payloads payload framed is.
    let a = c.in-Err.ensures.appends header payloads payload framed is in
    let room = c.requires.room in
    let fault = fault_is c.in-Err.field-0 (λ u n x same. let full = c.in-Err.ensures.no_room u n x (ap Err same) in omega (arith, full, room)) in
    record { any_moment = a.any_moment; answers = (refl, subst (λ (e : JournalFault). AppendAnswers {T = Unit {0}} g.D.Disk.told header payloads payload c.append.new.self (Err e)) fault a.answers) }
