-- All that a client's logs have can be spelled, whatever entries followed.
use Rattle.std.proofs.Common.{◌≡◌, ℕ, zero, suc, ◌+◌, ◌≤◌, true, if◌then◌else◌, List, [], ◌∷◌, ◌++◌, take, drop, Option, Some, None, Result, Ok, Err, refl, sym, ap, subst, inl, inr, arith}
use Rattle.std.specs.Prelude.{OnOk, OnErr, IsOk}
use Rattle.std.specs.BTreeMap as tree
use Rattle.std.specs.Ordering.{nat_cmp}
use Rattle.std.proofs.lemmas.Bool.{eq-eqb, ne_eqb, cases_eq}
use Rattle.coda_fid.specs.declared.op.Record.{Record}
use Rattle.coda_cancel.proofs.Parts.{rising_first}
use Rattle.coda_certify.specs.declared.verdict.Verdict.{Verdict}
use Rattle.coda_certify.specs.declared.verdict.Verdict.TheVariants.{Applied, Conflict}
use Rattle.coda_cml.specs.State.{LogState}
use Rattle.coda_cml.specs.Steps.{frozen_at, settled, records_in}
use Rattle.coda_journal.specs.declared.header.Header.{Header}
use Rattle.coda_plain.proofs.Lists.{along}
use Rattle.coda_record.specs.Entries as entries
use Rattle.coda_record.specs.Form.{four}
use Rattle.coda_record.specs.Parts.{u8, items_piece}
use Rattle.coda_record.specs.Spelling.{HasSpelling}
use Rattle.coda_record.specs.Table as table
use Rattle.coda_record.specs.declared.entry.ClientEntry.{ClientEntry}
use Rattle.coda_record.specs.declared.entry.ClientEntry.TheVariants.{Op, Freeze, Settled, Giveup, Fetched, Dropped, Hoard, Snapshot}
use Rattle.coda_record.proofs.PartsAgree.{first_true, second_true}
use Rattle.coda_spelling.specs.Spelled.{IsSpelled, AreAllSpelled}
use Rattle.coda_spelling.proofs.SpelledRecords.{single_spelled}
use Rattle.coda_venus.specs.Code.{IsLogAt, IsClient, volume_in, held_of}
use Rattle.coda_venus.specs.Held.{Held}
use Rattle.coda_venus.specs.History.{Payload, state_of, last_to_go, MayFreeze, MayEnterAll, MayFollow, IsHistory}
use Rattle.coda_venus.specs.Keeping.{next_chunk}
use Rattle.coda_venus.specs.Logs.{IsSendable, AreSendable}
use Rattle.coda_venus.specs.State.{ClientVolume, ClientState, put, ended_by, client_after, client_after_all}
use Rattle.coda_venus.specs.declared.client.Client.{Client}
use Rattle.coda_venus.specs.declared.refused.Refused.{Refused}
use Rattle.coda_venus.specs.declared.volume_log.VolumeLog.{VolumeLog}
use Rattle.coda_venus.proofs.Growing.{next_is}
use Rattle.coda_venus.proofs.KeptLogs.{empty_kept, appended_kept, settled_kept, given_up_kept, froze_kept, state_push}
use Rattle.coda_venus.proofs.SpelledLogs.{add_spelled, added_spelled, records_spelled}

-- ---- parts of lists

front_spelled : (k : ℕ) (recs : List Record) → AreAllSpelled recs → AreAllSpelled (take k recs)
front_spelled zero recs is = tt
front_spelled (suc k) [] is = tt
front_spelled (suc k) (rec ∷ recs) is = (is.0, front_spelled k recs is.1)

rest_spelled : (k : ℕ) (recs : List Record) → AreAllSpelled recs → AreAllSpelled (drop k recs)
rest_spelled zero recs is = is
rest_spelled (suc k) [] is = tt
rest_spelled (suc k) (rec ∷ recs) is = rest_spelled k recs is.1

-- ---- one log

settled_sendable : (verdict : Verdict) (log : LogState) → IsSendable log → IsSendable (settled verdict log)
settled_sendable Applied log is = record { kept = settled_kept Applied log is.kept; chunk = tt; records = is.records }
settled_sendable (Conflict number why) log is = record { kept = settled_kept (Conflict number why) log is.kept; chunk = tt; records = added_spelled log.chunk log.records is.chunk is.records }

froze_sendable : (log : LogState) (number home last : ℕ) → IsSendable log → MayFreeze log number last → IsSendable (frozen_at log (ended_by last log.segments) (record { number = number; home = home }))
froze_sendable log number home last is may =
    let k = records_in (ended_by last log.segments) log in
    record { kept = froze_kept log number home last is.kept may; chunk = front_spelled k log.records is.records; records = rest_spelled k log.records is.records }

-- no records can be
pub none_sendable : HasSpelling (table.records four) []
unfolding table.records
none_sendable = refl

-- the records of a chunk can be sent
pub chunk_sendable : (log : LogState) → IsSendable log → HasSpelling (table.records four) log.chunk
chunk_sendable log is = records_spelled log.chunk (rising_first log.chunk log.records is.kept.rising) is.chunk

-- ---- clients

abbrev pub AllSendable : ClientState → Type 0
AllSendable c = (volume : ℕ) → IsSendable (c.volumes volume).log

-- what an entry needs for that
abbrev pub MayLog : ClientState → ClientEntry → Type 0
MayLog c (Op volume rec) = (rec.number ≡ (c.volumes volume).log.last + 1) × (rec.number ≤ 4294967295) × IsSpelled rec
MayLog c (Freeze volume number home last) = MayFreeze (c.volumes volume).log number last
MayLog c (Settled volume number verdict) = Unit {0}
MayLog c (Giveup volume) = (c.volumes volume).log.frozen ≡ None
MayLog c (Fetched fid parent node) = Unit {0}
MayLog c (Dropped fid) = Unit {0}
MayLog c (Hoard change) = Unit {0}
MayLog c (Snapshot snapshot) = Unit {0}

put_sendable : (f : ℕ → ClientVolume) (volume : ℕ) (v : ClientVolume) → ((q : ℕ) → IsSendable (f q).log) → IsSendable v.log → (q : ℕ) → IsSendable (put f volume v q).log
put_sendable f volume v all is q = elim (cases_eq q volume) [
  | inl same ↦ subst (λ (w : ClientVolume). IsSendable w.log) (sym (ap (λ b. if b then v else f q) (eq-eqb q volume same))) is
  | inr other ↦ subst (λ (w : ClientVolume). IsSendable w.log) (sym (ap (λ b. if b then v else f q) (ne_eqb q volume other))) (all q)
]

entered_sendable : (c : ClientState) (e : ClientEntry) → AllSendable c → MayLog c e → AllSendable (client_after c e)
entered_sendable c (Op volume rec) all may =
    let is = all volume in
    put_sendable c.volumes volume _ all (record { kept = appended_kept (c.volumes volume).log rec is.kept may.0 may.1; chunk = is.chunk; records = add_spelled (c.volumes volume).log.records rec is.records may.2 })
entered_sendable c (Freeze volume number home last) all may = put_sendable c.volumes volume _ all (froze_sendable (c.volumes volume).log number home last (all volume) may)
entered_sendable c (Settled volume number verdict) all may = put_sendable c.volumes volume _ all (settled_sendable verdict (c.volumes volume).log (all volume))
entered_sendable c (Giveup volume) all may = let is = all volume in put_sendable c.volumes volume _ all (record { kept = given_up_kept (c.volumes volume).log is.kept may; chunk = is.chunk; records = tt })
entered_sendable c (Fetched fid parent node) all may = all
entered_sendable c (Dropped fid) all may = all
entered_sendable c (Hoard change) all may = all
entered_sendable c (Snapshot snapshot) all may = all

-- ---- the code's clients

-- the client as it is now
abbrev pub state_now : Client → ClientState
state_now code = record { number = code.number; blocks = code.cache.size; held = held_of code; volumes = λ volume. volume_in (tree.get nat_cmp code.logs volume) }

pub is_now : (code : Client) → IsClient (state_now code) code
is_now code = record { number = refl; blocks = refl; held = refl; logs = λ volume. at (tree.get nat_cmp code.logs volume) }
  where
    at : (o : Option VolumeLog) → IsLogAt (volume_in o) o
    at None = refl
    at (Some log) = record { log = refl; creations = refl }

log_at : (v : ClientVolume) (o : Option VolumeLog) → IsLogAt v o → v.log ≡ (volume_in o).log
log_at v None is = ap (λ (w : ClientVolume). w.log) is
log_at v (Some log) is = sym is.log

sendable_in : (c : ClientState) (code : Client) → AllSendable c → IsClient c code → AreSendable code.logs
sendable_in c code all is = λ volume. subst IsSendable (log_at (c.volumes volume) (tree.get nat_cmp code.logs volume) (is.logs volume)) (all volume)

-- what holds anyway
pub on_ok : {A E : Type 0} (r : Result A E) (P : Type 0) → P → OnOk r P
on_ok (Ok x) P p = p
on_ok (Err e) P p = tt

-- an entry followed, or the client is as it was
pub sendable_after : {A E : Type 0} (r : Result A E) (old new : Client) (e : ClientEntry) → AreSendable old.logs → OnOk r (MayLog (state_now old) e) → OnOk r (IsClient (client_after (state_now old) e) new) → OnErr r (IsClient (state_now old) new)
    → AreSendable new.logs
sendable_after (Ok x) old new e all may is err = sendable_in (client_after (state_now old) e) new (entered_sendable (state_now old) e all may) is
sendable_after (Err x) old new e all may is err = sendable_in (state_now old) new all err

-- the same, where something else is held besides
pub sendable_with : {A E : Type 0} (r : Result A E) (old new : Client) (e : ClientEntry) (held : Held) → AreSendable old.logs → OnOk r (MayLog (state_now old) e) → OnOk r (IsClient (record (client_after (state_now old) e) { held = held }) new)
    → OnErr r (IsClient (state_now old) new) → AreSendable new.logs
sendable_with (Ok x) old new e held all may is err = sendable_in (record (client_after (state_now old) e) { held = held }) new (entered_sendable (state_now old) e all may) is
sendable_with (Err x) old new e held all may is err = sendable_in (state_now old) new all err

-- a chunk that is frozen
pub freezes : {A E : Type 0} (r : Result A E) (log : LogState) (now window : ℕ) → OnOk r (IsOk (next_chunk log now window)) → OnOk r (MayFreeze log (log.chunks + 1) (last_to_go now window log.segments))
freezes (Err e) log now window only = tt
freezes (Ok x) log now window only = by (next_chunk log now window) refl only
  where
    by : (o : Result (ℕ × ℕ) Refused) → next_chunk log now window ≡ o → IsOk o → MayFreeze log (log.chunks + 1) (last_to_go now window log.segments)
    by (Ok next) is ok =
        let n = next_is log now window next.0 next.1 is in
        let number = n.number in
        let few = n.few in
        record { now = now; window = window; goes = n.goes; next = refl; few = omega (arith, number, few); ends = refl }
    by (Err why) is ok = absurd cc

-- ---- histories

-- what an entry that follows has, where it can be spelled
may_log : (c : ClientState) (e : ClientEntry) (es : Payload) → MayEnterAll c (e ∷ es) → HasSpelling (entries.client_entry four) e → MayLog c e
unfolding entries.client_entry
may_log c (Op volume rec) es may fits = (may.0.next, may.0.few, single_spelled 0 rec (first_true ((table.record_above four 0).piece rec).fits _ (second_true (table.volume.piece volume).fits _ (second_true (u8.piece 1).fits _ fits))))
may_log c (Freeze volume number home last) es may fits = may.0
may_log c (Settled volume number verdict) es may fits = tt
may_log c (Giveup volume) es may fits = may.0.0
may_log c (Fetched fid parent node) es may fits = tt
may_log c (Dropped fid) es may fits = tt
may_log c (Hoard change) es may fits = tt
may_log c (Snapshot snapshot) es may fits = tt

items_sendable : (c : ClientState) (payload : Payload) → AllSendable c → MayEnterAll c payload → (items_piece (λ (before : Unit {0}). entries.client_entry four) (λ (e : ClientEntry). tt) tt payload).fits ≡ true → AllSendable (client_after_all c payload)
items_sendable c [] all may fits = all
items_sendable c (e ∷ payload) all may fits = items_sendable (client_after c e) payload (entered_sendable c e all (may_log c e payload may (first_true _ _ fits))) may.1 (second_true _ _ fits)

payload_sendable : (c : ClientState) (payload : Payload) → AllSendable c → MayEnterAll c payload → HasSpelling (entries.client_payload four) payload → AllSendable (client_after_all c payload)
unfolding entries.client_payload
payload_sendable c payload all may fits = items_sendable c payload all may (second_true _ _ fits)

state_sendable : (header : Header) (history : List Payload) → IsHistory header history → AllSendable (state_of header history)
state_sendable header history law = along (MayFollow header) (λ h. AllSendable (state_of header h)) step history (λ volume. record { kept = empty_kept; chunk = tt; records = tt }) law
  where
    step : (h : List Payload) (payload : Payload) → AllSendable (state_of header h) → MayFollow header h payload → AllSendable (state_of header (h ++ payload ∷ []))
    step h payload all may = subst AllSendable (sym (state_push header h payload)) (payload_sendable (state_of header h) payload all may.0 may.1)

-- a client that its history leaves
pub history_sendable : (header : Header) (history : List Payload) (code : Client) → IsHistory header history → IsClient (state_of header history) code → AreSendable code.logs
history_sendable header history code law is = sendable_in (state_of header history) code (state_sendable header history law) is
