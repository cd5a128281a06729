-- What the records of a client's logs weigh: 16 MiB at most, whatever the client did.
use Rattle.std.proofs.Common.{◌≡◌, ◌≤◌, ◌==◌, ◌++◌, ℕ, true, false, cond, List, [], ◌∷◌, Option, Some, None, refl, sym, subst, arith}
use Rattle.coda_cancel.specs.Cancel.{add}
use Rattle.coda_cancel.specs.Weights.{total_weight, fits}
use Rattle.coda_certify.specs.declared.verdict.Verdict.{Verdict}
use Rattle.coda_certify.specs.declared.verdict.Verdict.TheVariants.{Applied, Conflict}
use Rattle.coda_cml.specs.Chunks.{freeze_refusal}
use Rattle.coda_cml.specs.State.{LogState}
use Rattle.coda_cml.specs.Steps.{appended_to, frozen_at, frozen_to, settled, given_up}
use Rattle.coda_cml.specs.declared.frozen.Frozen.{Frozen}
use Rattle.coda_cml.specs.declared.segment.Segment.{Segment}
use Rattle.coda_fid.specs.declared.op.Record.{Record}
use Rattle.coda_journal.specs.declared.header.Header.{Header}
use Rattle.coda_plain.specs.Deeds.{Operated, Froze, Settled, Gaveup}
use Rattle.coda_plain.proofs.Lists.{left_push, along}
use Rattle.coda_record.specs.declared.entry.ClientEntry.{ClientEntry}
use Rattle.coda_record.specs.declared.entry.ClientEntry.TheVariants as entry
use Rattle.coda_venus.specs.History.{Payload, state_of, MayFreeze, MayEnter, MayEnterAll, MayFollow, IsHistory}
use Rattle.coda_venus.specs.State.{ClientVolume, ClientState, put, new_client, volume_after, ended_by, client_after, client_after_all}
use Rattle.coda_cell.proofs.LightLogs.{weight_in, pushed_light, frozen_light, settled_light}

-- a log has no more, and no chunk where none is frozen
pub record IsLight (log : LogState) : Type 0 where
  pub light : weight_in log ≤ 16777216
  pub thawed : log.frozen ≡ None → log.chunk ≡ []

-- ---- what entries make of a log

operated_light : (log : LogState) (rec : Record) → IsLight log → fits 4096 16777216 (log.chunk ++ add log.records rec) ≡ true → IsLight (appended_to log rec)
operated_light log rec is room = record { light = pushed_light log (appended_to log rec) rec refl room; thawed = is.thawed }

not_frozen : (o : Option Frozen) (now window : ℕ) (segments : List Segment) → freeze_refusal o now window segments ≡ None → o ≡ None
not_frozen None now window segments e = refl
not_frozen (Some chunk) now window segments e = cc

froze_light : (log : LogState) (number home last : ℕ) → IsLight log → MayFreeze log number last → IsLight (frozen_at log (ended_by last log.segments) (record { number = number; home = home }))
froze_light log number home last is may =
    let length = ended_by last log.segments in
    let new = frozen_at log length (record { number = number; home = home }) in
    let same : new ≡ frozen_to log home length = λ i. frozen_at log length (record { number = may.next i; home = home }) in
    let weight = frozen_light log new home length same (is.thawed (not_frozen log.frozen may.now may.window log.segments may.goes)) in
    let most = is.light in
    record { light = omega (arith, weight, most); thawed = λ e. cc }

settled_thawed : (verdict : Verdict) (log : LogState) → (settled verdict log).chunk ≡ []
settled_thawed Applied log = refl
settled_thawed (Conflict number why) log = refl

settled_so : (verdict : Verdict) (log : LogState) → IsLight log → IsLight (settled verdict log)
settled_so verdict log is = (let weight = settled_light verdict log in let most = is.light in record { light = omega (arith, weight, most); thawed = λ e. settled_thawed verdict log })

given_light : (log : LogState) → IsLight log → IsLight (given_up log)
given_light log is = (let most = is.light in record { light = omega (arith, most); thawed = is.thawed })

-- ---- all volumes

abbrev AreLight : ClientState → Type 0
AreLight c = (volume : ℕ) → IsLight (c.volumes volume).log

put_light : (f : ℕ → ClientVolume) (at : ℕ) (v : ClientVolume) → ((volume : ℕ) → IsLight (f volume).log) → IsLight v.log → (volume : ℕ) → IsLight (put f at v volume).log
put_light f at v others here volume = elim (volume == at) as (λ b. IsLight (let w : ClientVolume = cond b v (f volume) in w.log)) [ true ↦ here | false ↦ others volume ]

entry_light : (c : ClientState) (e : ClientEntry) → AreLight c → MayEnter c e → AreLight (client_after c e)
entry_light c (entry.Op volume rec) are may = put_light c.volumes volume (volume_after (c.volumes volume) (Operated rec)) are (operated_light (c.volumes volume).log rec (are volume) may.room)
entry_light c (entry.Freeze volume number home last) are may = put_light c.volumes volume (volume_after (c.volumes volume) (Froze number home last)) are (froze_light (c.volumes volume).log number home last (are volume) may)
entry_light c (entry.Settled volume number verdict) are may = put_light c.volumes volume (volume_after (c.volumes volume) (Settled number verdict)) are (settled_so verdict (c.volumes volume).log (are volume))
entry_light c (entry.Giveup volume) are may = put_light c.volumes volume (volume_after (c.volumes volume) Gaveup) are (given_light (c.volumes volume).log (are volume))
entry_light c (entry.Fetched fid parent node) are may = are
entry_light c (entry.Dropped fid) are may = are
entry_light c (entry.Hoard change) are may = are
entry_light c (entry.Snapshot snapshot) are may = are

payload_light : (c : ClientState) (payload : Payload) → AreLight c → MayEnterAll c payload → AreLight (client_after_all c payload)
payload_light c [] are may = are
payload_light c (e ∷ payload) are may = payload_light (client_after c e) payload (entry_light c e are may.0) may.1

history_push : (header : Header) (past : List Payload) (payload : Payload) → AreLight (state_of header past) → MayFollow header past payload → AreLight (state_of header (past ++ payload ∷ []))
history_push header past payload are may = subst AreLight (sym (left_push client_after_all (new_client header.number header.cache) past payload)) (payload_light (state_of header past) payload are may.0)

-- the logs that a history leaves
pub logs_light : (header : Header) (history : List Payload) → IsHistory header history → (volume : ℕ) → IsLight ((state_of header history).volumes volume).log
logs_light header history law = along (MayFollow header) (λ past. AreLight (state_of header past)) (history_push header) history (λ volume. record { light = omega arith; thawed = λ e. refl }) law

-- a chunk of them
pub chunk_light : (header : Header) (history : List Payload) → IsHistory header history → (volume : ℕ) → total_weight ((state_of header history).volumes volume).log.chunk ≤ 16777216
chunk_light header history law volume =
    let most = (logs_light header history law volume).light in
    omega (arith, most)
