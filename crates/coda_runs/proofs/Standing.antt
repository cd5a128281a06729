-- What stands on disks behind the letters that wait.
use Rattle.std.proofs.Common.{Bool, false, refl, subst}
use Rattle.coda_letters.specs.Sent.{ChunkSent, AnswerSent}
use Rattle.coda_plain.specs.Cell.{Joins}
use Rattle.coda_plain.specs.Decisions.{decisions_of}
use Rattle.coda_plain.specs.Histories.{In}
use Rattle.coda_shelves.proofs.Whole.{now_by}
use Rattle.coda_shelves.proofs.Wholly.{learned}
use Rattle.coda_shelves.specs.Cells.{shelves_of}
use Rattle.coda_shelves.specs.Shelves.{found_on}
use Rattle.coda_runs.specs.Lettered.{answer_with}
use Rattle.coda_runs.specs.Standing.{IsDecidedOn, IsDecidedAtHome, VerdictsStandAtHome, ChunksStandWithClients}
use Rattle.coda_runs.proofs.Lettered.{waits_so}

pub verdicts_stand_at_home : VerdictsStandAtHome
verdicts_stand_at_home = record {
  letters = λ cell kept joins message server client volume number verdict is.
      let d = waits_so cell kept joins message (AnswerSent server client volume number (answer_with verdict)) is verdict refl in
      now_by cell joins kept.pool (learned cell kept joins) d.server volume (λ l. In d.by (decisions_of volume l) → IsDecidedAtHome cell joins client volume number verdict) (λ i. absurd i)
      (λ at stands home named i. record {
        at = at;
        stands = stands;
        decided = subst (λ s. IsDecidedOn (found_on (shelves_of cell) joins) at.row s volume client number verdict) home
            (record { by = d.by; there = (named, i); client_is = d.client_is; number_is = d.number_is; verdict_is = d.verdict_is });
      }) d.there;
  again = λ cell kept joins row server client some.
      let is = ((kept.shelves.agree joins).fits row server).kept client some in
      record { by = is.by; there = (refl, is.there); client_is = is.client_is; number_is = is.number_is; verdict_is = is.verdict_is };
}

-- the entry joins whose append failed at a client, or doesn't
abbrev clients_join : Bool → Joins
clients_join joins = record { clients = λ c. joins; replicas = λ s v. false }

pub chunks_stand_with_clients : ChunksStandWithClients
chunks_stand_with_clients cell kept joins message client server volume number span is = waits_so cell kept (clients_join joins) message (ChunkSent client server volume number span) is
