-- How an entry is kept.
use Rattle.std.proofs.Common.{◌≡◌, ◌≢◌, ℕ, List, refl, ap}
use Rattle.std.specs.Prelude.{Option, Result, Ok, Err, Some, IsErr, IfErr}
use Rattle.coda_certify.specs.declared.verdict.Verdict.{Verdict}
use Rattle.coda_disk.specs.Told.{Told, LeavesOnly}
use Rattle.coda_journal.specs.Journal.{IsBeforeOrAfter}
use Rattle.coda_journal.specs.Open.{Stands}
use Rattle.coda_journal.specs.declared.header.Header.{Header}
use Rattle.coda_journal.specs.declared.journal.Journal.{Journal}
use Rattle.coda_record.specs.declared.last.Last.{Last}
use Rattle.coda_replica.specs.State.{ReplicaState}
use Rattle.coda_replica.specs.Deciding.{Appending, Keeping, IsBack, IsAppendFault, IsKeepFault}
use Rattle.coda_replica.specs.declared.fault.ReplicaFault.{ReplicaFault}
use Rattle.coda_replica.specs.declared.fault.ReplicaFault.TheVariants.{Down, NotFound, JournalFull, DiskFault, Memory}
use Rattle.coda_replica.specs.declared.replica.Replica.{Replica}

-- a call of the disk failed
pub append_failed : {D T E : Type 0} (told : D → Told) (header : Header) (old new : Journal D) (ps : List (List ℕ)) (p : List ℕ) (r : Result T E) → IsErr r
    → LeavesOnly (told old.disk) (told new.disk) (IsBeforeOrAfter header ps p) → Stands (told new.disk) header ps (Some p) → Appending told header old ps p new r
append_failed told header old new ps p (Err e) is leaves stands = record { any_moment = leaves; answers = stands }
append_failed told header old new ps p (Ok x) is leaves stands = cc

-- keeping says nothing of the state
pub keeping_else : {D T : Type 0} (told : D → Told) (header : Header) (old : Journal D) (ps : List (List ℕ)) (p : List ℕ) (new : Replica D) (state : ReplicaState) (e : ReplicaFault)
    → Keeping {D = D} {T = T} told header old ps p new (Err e) → Keeping {D = D} {T = T} told header old ps p (record new { decider = state }) (Err e)
keeping_else told header old ps p new state Down k = record { any_moment = k.any_moment; answers = k.answers }
keeping_else told header old ps p new state NotFound k = record { any_moment = k.any_moment; answers = k.answers }
keeping_else told header old ps p new state JournalFull k = record { any_moment = k.any_moment; answers = k.answers }
keeping_else told header old ps p new state DiskFault k = record { any_moment = k.any_moment; answers = k.answers }
keeping_else told header old ps p new state Memory k = record { any_moment = k.any_moment; answers = k.answers }

-- an entry for which there is room is kept, or a call of the disk failed
pub nothing_back : {T : Type 0} (old : ReplicaState) (client : ℕ) (was : Option Last) (verdict : Verdict) (new : ReplicaState) (r : Result T ReplicaFault) → IfErr r IsAppendFault → r ≢ Err JournalFull → IsBack old client was verdict new r
nothing_back old client was verdict new (Ok x) fault room = tt
nothing_back old client was verdict new (Err Down) fault room = absurd fault
nothing_back old client was verdict new (Err NotFound) fault room = absurd fault
nothing_back old client was verdict new (Err JournalFull) fault room = absurd (room refl)
nothing_back old client was verdict new (Err DiskFault) fault room = tt
nothing_back old client was verdict new (Err Memory) fault room = absurd fault

-- keeping is refused for want of room or of memory, or for a fault of the disk
pub never_kept : {T : Type 0} (r : Result T ReplicaFault) (e : ReplicaFault) → r ≡ Err e → IsKeepFault e → (r ≢ Err Down) × (r ≢ Err NotFound)
never_kept r Down is fault = absurd fault
never_kept r NotFound is fault = absurd fault
never_kept r JournalFull is fault = (λ d. cc, λ n. cc)
never_kept r DiskFault is fault = (λ d. cc, λ n. cc)
never_kept r Memory is fault = (λ d. cc, λ n. cc)
