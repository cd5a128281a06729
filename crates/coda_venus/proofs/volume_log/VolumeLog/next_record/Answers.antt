use Rattle.std.proofs.Common.{◌≡◌, true, if◌then◌else◌, Ok, Err, refl, sym, ap, ◌∙◌}
use Rattle.coda_venus.specs.State.{ClientVolume}
use Rattle.coda_venus.specs.Code.{has_room, is_full}
use Rattle.coda_venus.specs.Keeping.{record_of}
use Rattle.coda_venus.specs.declared.refused.Refused.TheVariants.{LogFull, JournalFull}
use Rattle.coda_venus.proofs.volume_log.VolumeLog.next_record.Goals as goal

pub returns-then-is_full-clause-next : goal.returns-then-is_full-clause-next
returns-then-is_full-clause-next c = λ few.
    let v : ClientVolume = record { log = c.args.self.now.log; creations = c.args.self.now.creations } in
    let next = record_of v c.args.time c.args.op in
    let same : c.record_of-rec.result ≡ next = c.record_of-rec.ensures.record few in
    let room : has_room v next ≡ true = ap (has_room v) (sym same) ∙ sym c.has_room.ensures.room ∙ c.if-not-has_room.false in
    let full : is_full v ≡ true = sym (c.is_full.ensures.full v (record { log = refl; creations = refl })) ∙ c.if-is_full.true in
    sym (ap (λ b. if b then (if is_full v then Err JournalFull else Ok next) else Err LogFull) room ∙ ap (λ b. if b then Err JournalFull else Ok next) full)
