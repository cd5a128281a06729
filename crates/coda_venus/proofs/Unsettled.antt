-- Why the verdict on a chunk isn't taken.
use Rattle.std.proofs.Common.{◌≡◌, ◌≢◌, ◌↔◌, ◌⊎◌, ℕ, ◌==◌, Bool, true, false, Option, Some, None, refl, sym, ap, ◌∙◌, inl, inr}
use Rattle.std.specs.Prelude.{Result, Ok, Err, if◌then◌else◌, option_map}
use Rattle.coda_cml.specs.State.{LogState}
use Rattle.coda_cml.specs.Steps.{settle_refusal}
use Rattle.coda_cml.specs.declared.frozen.Frozen.{Frozen}
use Rattle.coda_cml.specs.declared.fault.SettleFault.{SettleFault}
use Rattle.coda_cml.specs.declared.fault.SettleFault.TheVariants.{NotFrozen, WrongNumber, Memory}
use Rattle.coda_venus.specs.State.{ClientVolume}
use Rattle.coda_venus.specs.Code.{IsVolumeLog}
use Rattle.coda_venus.specs.Keeping.{unsettled_as}
use Rattle.coda_venus.specs.declared.refused.Refused.{Refused}
use Rattle.coda_venus.specs.declared.refused.Refused.TheVariants as refused
use Rattle.coda_venus.specs.declared.volume_log.VolumeLog.{VolumeLog}

-- want of memory, or that the chunk isn't the frozen one
abbrev pub IsUnsettled : ClientVolume → ℕ → Refused → Type 0
IsUnsettled v number why = (why ≡ refused.Memory) ⊎ (option_map unsettled_as (settle_refusal v.log.frozen number) ≡ Some why)

pub unsettled : {T : Type 0} (v : ClientVolume) (code : VolumeLog) (number : ℕ) (why : SettleFault) → IsVolumeLog v code
    → ((w : SettleFault) → w ≢ Memory → (let err : SettleFault → Result T SettleFault = λ z. Err z in err why ≡ err w) ↔ (settle_refusal code.log.frozen number ≡ Some w)) → IsUnsettled v number (unsettled_as why)
unsettled v code number Memory is causes = inl refl
unsettled v code number (NotFrozen n) is causes =
    inr (ap (λ (o : Option Frozen). option_map unsettled_as (settle_refusal o number)) (sym (ap (λ (l : LogState). l.frozen) is.log)) ∙ ap (option_map unsettled_as) ((causes (NotFrozen n) (λ h. cc)).0 refl))
unsettled v code number (WrongNumber frozen n) is causes =
    inr (ap (λ (o : Option Frozen). option_map unsettled_as (settle_refusal o number)) (sym (ap (λ (l : LogState). l.frozen) is.log)) ∙ ap (option_map unsettled_as) ((causes (WrongNumber frozen n) (λ h. cc)).0 refl))

-- a verdict is taken on the frozen chunk alone
pub only_frozen : {T : Type 0} (frozen : Option Frozen) (number : ℕ) (x : T)
    → ((w : SettleFault) → w ≢ Memory → (let ok : T → Result T SettleFault = λ z. Ok z in ok x ≡ Err w) ↔ (settle_refusal frozen number ≡ Some w)) → settle_refusal frozen number ≡ None
only_frozen {T = T} None number x causes = absurd (not_both ((causes (NotFrozen number) (λ h. cc)).1 refl))
  where
    not_both : (let ok : T → Result T SettleFault = λ z. Ok z in ok x ≡ Err (NotFrozen number)) → ⊥
    not_both e = cc
only_frozen {T = T} (Some chunk) number x causes = by (chunk.number == number) (causes (WrongNumber chunk.number number) (λ h. cc)).1
  where
    refusal : Bool → Option SettleFault
    refusal b = if b then None else Some (WrongNumber chunk.number number)

    not_both : (let ok : T → Result T SettleFault = λ z. Ok z in ok x ≡ Err (WrongNumber chunk.number number)) → ⊥
    not_both e = cc

    by : (b : Bool) → (refusal b ≡ Some (WrongNumber chunk.number number) → (let ok : T → Result T SettleFault = λ z. Ok z in ok x ≡ Err (WrongNumber chunk.number number))) → refusal b ≡ None
    by true refuses = refl
    by false refuses = absurd (not_both (refuses refl))
