-- What a client's volume comes to, from what the calls of its log leave.
use Rattle.std.proofs.Common.{◌≡◌, ◌≢◌, ◌↔◌, ℕ, ◌+◌, List, [], Option, Some, None, refl, sym, ap, ◌∙◌}
use Rattle.std.specs.Prelude.{Result, Ok, Err}
use Rattle.std.proofs.lemmas.Option.{none-some}
use Rattle.coda_cml.specs.Chunks.{chunk_length, freeze_refusal}
use Rattle.coda_cml.specs.Partition.{ArePartedBy}
use Rattle.coda_cml.specs.State.{LogState}
use Rattle.coda_cml.specs.Steps.{frozen_at, frozen_to}
use Rattle.coda_fid.specs.declared.op.Record.{Record}
use Rattle.coda_cml.specs.declared.frozen.Frozen.{Frozen as Chunk}
use Rattle.coda_cml.specs.declared.fault.FreezeFault.{FreezeFault}
use Rattle.coda_cml.specs.declared.fault.FreezeFault.TheVariants.{Frozen, Nothing, Young, Memory}
use Rattle.coda_cml.proofs.segments.FrozenFronts.{may_go}
use Rattle.coda_plain.specs.Deeds.{Froze}
use Rattle.coda_venus.specs.State.{ClientVolume, ended_by, volume_after}
use Rattle.coda_venus.specs.History.{last_to_go}
use Rattle.coda_venus.specs.Code.{IsVolumeLog}
use Rattle.coda_venus.specs.declared.volume_log.VolumeLog.{VolumeLog}
use Rattle.coda_venus.proofs.Ends.{parted_turn, ended_front, chunk_within}

-- a freeze of what may go takes the segments that end by its last operation
pub frozen_volume : (v : ClientVolume) (code : VolumeLog) (home now window : ℕ) (new : LogState) → IsVolumeLog v code → freeze_refusal code.log.frozen now window code.log.segments ≡ None
    → ArePartedBy code.log.segments code.log.records → new ≡ frozen_to code.log home (chunk_length now window 64 code.log.segments)
    → IsVolumeLog (volume_after v (Froze (v.log.chunks + 1) home (last_to_go now window v.log.segments))) (record { log = new; creations = code.creations })
frozen_volume v code home now window new is free parted froze =
    let log = code.log in
    let goes = may_go log.frozen now window 64 log.segments free in
    let length = chunk_length now window 64 log.segments in
    let ended : ended_by (last_to_go now window log.segments) log.segments ≡ length = ended_front length log.segments (parted_turn log.segments log.records parted) goes.0 (chunk_within now window 64 log.segments) in
    let after : LogState → LogState = λ l. frozen_at l (ended_by (last_to_go now window l.segments) l.segments) (record { number = l.chunks + 1; home = home }) in
    record {
      log = froze ∙ ap (λ n. frozen_at log n (record { number = log.chunks + 1; home = home })) (sym ended) ∙ ap after is.log;
      creations = is.creations;
    }

-- where nothing stands against a freeze, it fails for want of memory alone
pub only_memory : {T : Type 0} (o : Option FreezeFault) (why : FreezeFault) → o ≡ None → ((w : FreezeFault) → w ≢ Memory → (let err : FreezeFault → Result T FreezeFault = λ z. Err z in err why ≡ err w) ↔ (o ≡ Some w)) → why ≡ Memory
only_memory o (Frozen number home) none causes = absurd (none-some (Frozen number home) (sym none ∙ (causes (Frozen number home) (λ h. cc)).0 refl))
only_memory o Nothing none causes = absurd (none-some Nothing (sym none ∙ (causes Nothing (λ h. cc)).0 refl))
only_memory o (Young age window) none causes = absurd (none-some (Young age window) (sym none ∙ (causes (Young age window) (λ h. cc)).0 refl))
only_memory o Memory none causes = refl

-- what is given up isn't frozen, and has a record
pub given : {T : Type 0} (frozen : Option Chunk) (recs : List Record) (x : T)
    → ((number home : ℕ) → (let ok : T → Result T FreezeFault = λ z. Ok z in ok x ≡ Err (Frozen number home)) ↔ (frozen ≡ Some (record { number = number; home = home })))
    → ((let ok : T → Result T FreezeFault = λ z. Ok z in ok x ≡ Err Nothing) ↔ ((frozen ≡ None) × (recs ≡ []))) → (frozen ≡ None) × (recs ≢ [])
given {T = T} None recs x there nothing = (refl, λ e. absurd (not_both (nothing.1 (refl, e))))
  where
    not_both : (let ok : T → Result T FreezeFault = λ z. Ok z in ok x ≡ Err Nothing) → ⊥
    not_both e = cc
given {T = T} (Some chunk) recs x there nothing = absurd (not_both ((there chunk.number chunk.home).1 refl))
  where
    not_both : (let ok : T → Result T FreezeFault = λ z. Ok z in ok x ≡ Err (Frozen chunk.number chunk.home)) → ⊥
    not_both e = cc
