-- Histories with one payload more.
use Rattle.std.proofs.Common.{◌≡◌, ℕ, ◌+◌, ◌≤◌, Bool, true, false, List, [], ◌∷◌, ◌++◌, Option, Some, None, Result, Ok, Err, refl, sym, ap, ◌∙◌, subst, inl, inr, arith}
use Rattle.std.specs.Prelude.{nat_le, if◌then◌else◌}
use Rattle.std.proofs.lemmas.List.{map-append}
use Rattle.std.proofs.lemmas.Bool.{cases_eq, ne_eqb, leb-false}
use Rattle.coda_certify.specs.declared.verdict.Verdict.{Verdict}
use Rattle.coda_cml.specs.Chunks.{chunk_length, freeze_refusal}
use Rattle.coda_cml.specs.State.{LogState}
use Rattle.coda_cml.specs.Steps.{settle_refusal}
use Rattle.coda_cml.specs.declared.fault.FreezeFault.{FreezeFault}
use Rattle.coda_cml.specs.declared.fault.SettleFault.{SettleFault}
use Rattle.coda_cml.specs.declared.fault.SettleFault.TheVariants.{WrongNumber}
use Rattle.coda_cml.specs.declared.frozen.Frozen.{Frozen}
use Rattle.coda_cml.proofs.segments.FrozenFronts.{may_go}
use Rattle.coda_cml.proofs.segments.PartedRecords.{turn_behind, ends_behind}
use Rattle.coda_journal.specs.declared.header.Header.{Header}
use Rattle.coda_plain.proofs.Lists.{follow_push}
use Rattle.coda_record.specs.Entries.{client_entry, client_payload}
use Rattle.coda_record.specs.Form.{four, eight}
use Rattle.coda_record.specs.Spelling.{HasSpelling}
use Rattle.coda_record.specs.Table as table
use Rattle.coda_record.specs.declared.entry.ClientEntry.TheVariants.{Op, Freeze, Settled}
use Rattle.coda_fid.specs.declared.op.Record.{Record}
use Rattle.coda_spelling.specs.Spelled.{IsSpelled}
use Rattle.coda_spelling.proofs.SpelledParts.{both_true, within, is_within, below}
use Rattle.std.proofs.lemmas.Bool.Decides.{nat_tests}
use Rattle.coda_venus.specs.Ask.{Asked, too_big}
use Rattle.coda_venus.specs.Accepting.{sight_of, accept}
use Rattle.coda_venus.specs.Code.{has_room, is_full}
use Rattle.coda_venus.specs.State.{ClientState}
use Rattle.coda_venus.proofs.Accepted.{found_then}
use Rattle.coda_venus.specs.History.{Payload, payload_of, payloads_of, state_of, last_to_go, IsFrozen, MayOperate, MayFollow, IsHistory}
use Rattle.coda_venus.specs.Keeping.{record_of, unless_full, operation_unless, operation, chunk_by, next_chunk}
use Rattle.coda_venus.specs.declared.refused.Refused.{Refused}
use Rattle.coda_venus.specs.declared.refused.Refused.TheVariants.{JournalFull, LogFull}
use Rattle.coda_venus.proofs.Ends.{end_upto, end_above}
use Rattle.coda_venus.proofs.KeptLogs.{logs_kept}
use Rattle.coda_venus.specs.Logs.{IsNumbered}
use Rattle.coda_venus.proofs.Ends.{begin_behind}

pub payloads_push : (history : List Payload) (payload : Payload) → payloads_of (history ++ payload ∷ []) ≡ payloads_of history ++ payload_of payload ∷ []
payloads_push history payload = map-append payload_of history (payload ∷ [])

pub history_push : (header : Header) (history : List Payload) (payload : Payload) → IsHistory header history → MayFollow header history payload → IsHistory header (history ++ payload ∷ [])
history_push header history payload law may = follow_push (MayFollow header) history payload law may

-- ---- spellings

freeze_spelled : (volume number home last : ℕ) → HasSpelling table.volume volume → HasSpelling table.server home → 1 ≤ number → number ≤ 4294967295 → 1 ≤ last → last ≤ 4294967295
    → HasSpelling (client_payload four) (Freeze volume number home last ∷ [])
unfolding client_payload client_entry
freeze_spelled volume number home last v h low high from to =
    both_true _ _ refl (both_true _ _ (both_true _ _ refl (both_true _ _ v (both_true _ _ (within 1 4294967295 eight number low high (omega (arith, high))) (both_true _ _ h (both_true _ _ (within 1 4294967295 eight last from to (omega (arith, to))) refl))))) refl)

settled_spelled : (volume number : ℕ) (verdict : Verdict) → HasSpelling table.volume volume → HasSpelling table.verdict verdict → 1 ≤ number → number ≤ 4294967295 → HasSpelling (client_payload four) (Settled volume number verdict ∷ [])
unfolding client_payload client_entry
settled_spelled volume number verdict v a low high =
    both_true _ _ refl (both_true _ _ (both_true _ _ refl (both_true _ _ v (both_true _ _ (within 1 4294967295 eight number low high (omega (arith, high))) (both_true _ _ a refl)))) refl)

pub operation_spelled : (volume : ℕ) (rec : Record) → HasSpelling table.volume volume → IsSpelled rec → HasSpelling (client_payload four) (Op volume rec ∷ [])
unfolding client_payload client_entry table.record_above
operation_spelled volume rec v is =
    let n = is_within 1 4294967295 eight rec.number is.number in
    let low = n.0 in
    let high = n.1 in
    both_true _ _ refl (both_true _ _ (both_true _ _ refl (both_true _ _ v (both_true _ _ (both_true _ _ (both_true _ _ (below eight rec.number (omega (arith, high))) (follows rec.number low high)) (both_true _ _ is.time (both_true _ _ is.op refl))) refl))) refl)
  where
    follows : (n : ℕ) → 1 ≤ n → n ≤ 4294967295 → table.may_follow 0 n ≡ true
    follows n low high = grind (arith, nat_tests)

-- ---- operations

full_is : (room full : Bool) (rec found : Record) → (let ok : Record → Result Record Refused = λ z. Ok z in (if room then (if full then Err JournalFull else ok rec) else Err LogFull) ≡ ok found) → (room ≡ true) × (full ≡ false) × (rec ≡ found)
full_is true true rec found h = absurd (cc)
full_is true false rec found h = (refl, refl, cc)
full_is false full rec found h = absurd (cc)

-- what an ask becomes may follow
pub operates : (c : ClientState) (time volume : ℕ) (ask : Asked) (rec : Record) → operation c time volume ask ≡ Ok rec → MayOperate c volume rec
operates c time volume ask rec h = by (too_big ask) refl h
  where
    by : (o : Option ℕ) → too_big ask ≡ o → operation_unless o c time volume ask ≡ Ok rec → MayOperate c volume rec
    by (Some size) small h = absurd (cc)
    by None small h =
        let v = c.volumes volume in
        let a = found_then (accept (sight_of c volume) volume ask) (λ op. unless_full v (record_of v time op)) rec h in
        let next = record_of v time a.0 in
        let is = full_is (has_room v next) (is_full v) next rec a.2 in
        let low = leb-false 4294967295 v.log.last is.1 in
        subst (MayOperate c volume) is.2 (record { ask = ask; small = small; accepted = a.1; next = refl; few = omega (arith, low); room = is.0 })

pub may_operate : (header : Header) (history : List Payload) (volume : ℕ) (rec : Record) → HasSpelling table.volume volume → IsSpelled rec → MayOperate (state_of header history) volume rec → MayFollow header history (Op volume rec ∷ [])
may_operate header history volume rec v is may = ((may, tt), operation_spelled volume rec v is)

-- ---- freezes

-- what the next chunk is
pub record IsNextChunk (log : LogState) (now window n l : ℕ) : Type 0 where
  pub goes : freeze_refusal log.frozen now window log.segments ≡ None
  pub number : n ≡ log.chunks + 1
  pub few : n ≤ 4294967295
  pub ends : l ≡ last_to_go now window log.segments

ok_is : (x y : ℕ × ℕ) → (let ok : ℕ × ℕ → Result (ℕ × ℕ) Refused = λ p. Ok p in ok x ≡ ok y) → x ≡ y
ok_is x y e = cc

chunk_by_count : (b : Bool) (chunks last n l : ℕ) → (let ok : ℕ × ℕ → Result (ℕ × ℕ) Refused = λ p. Ok p in (if b then Err JournalFull else ok (chunks + 1, last)) ≡ ok (n, l)) → (b ≡ false) × (n ≡ chunks + 1) × (l ≡ last)
chunk_by_count true chunks last n l e = absurd (cc)
chunk_by_count false chunks last n l e =
    let same = ok_is (chunks + 1, last) (n, l) e in
    (refl, ap (λ (p : ℕ × ℕ). p.0) (sym same), ap (λ (p : ℕ × ℕ). p.1) (sym same))

chunk_is : (o : Option FreezeFault) (log : LogState) (now window n l : ℕ) → (let ok : ℕ × ℕ → Result (ℕ × ℕ) Refused = λ p. Ok p in chunk_by o log now window ≡ ok (n, l))
    → (o ≡ None) × (n ≡ log.chunks + 1) × (n ≤ 4294967295) × (l ≡ last_to_go now window log.segments)
chunk_is (Some why) log now window n l e = absurd (cc)
chunk_is None log now window n l e =
    let h = chunk_by_count (nat_le 4294967295 log.chunks) log.chunks (last_to_go now window log.segments) n l e in
    let low = leb-false 4294967295 log.chunks h.0 in
    let same = h.1 in
    (refl, h.1, omega (arith, same, low), h.2)

pub next_is : (log : LogState) (now window n l : ℕ) → (let ok : ℕ × ℕ → Result (ℕ × ℕ) Refused = λ p. Ok p in next_chunk log now window ≡ ok (n, l)) → IsNextChunk log now window n l
next_is log now window n l e = let h = chunk_is (freeze_refusal log.frozen now window log.segments) log now window n l e in record { goes = h.0; number = h.1; few = h.2; ends = h.3 }

pub may_freeze : (header : Header) (history : List Payload) (volume home now window number last : ℕ) → IsHistory header history → HasSpelling table.volume volume → HasSpelling table.server home
    → IsNextChunk ((state_of header history).volumes volume).log now window number last → MayFollow header history (Freeze volume number home last ∷ [])
may_freeze header history volume home now window number last law v h is =
    let log = ((state_of header history).volumes volume).log in
    let kept = logs_kept header history law volume in
    let goes = may_go log.frozen now window 64 log.segments is.goes in
    let length = chunk_length now window 64 log.segments in
    let low = end_above 0 length log.segments (begin_behind 0 log.chunk_segments log.segments kept.above) (turn_behind log.chunk_segments log.segments kept.parts.in_turn) goes.0 goes.1 in
    let high = end_upto log.last length log.segments (ends_behind log.last log.chunk_segments log.segments kept.parts.ended) in
    let few = kept.few in
    let ends = is.ends in
    let next = is.number in (
      (record { now = now; window = window; goes = is.goes; next = is.number; few = is.few; ends = is.ends }, tt),
      freeze_spelled volume number home last v h (omega (arith, next)) is.few (omega (arith, low, ends)) (omega (arith, high, few, ends)),
    )

-- ---- settlements

settles : (o : Option Frozen) (number : ℕ) → settle_refusal o number ≡ None → IsFrozen o number
settles None number e = absurd (cc)
settles (Some chunk) number e = elim (cases_eq chunk.number number) [
  | inl same ↦ same
  | inr other ↦ (let no : settle_refusal (Some chunk) number ≡ Some (WrongNumber chunk.number number) = ap (λ b. if b then None else Some (WrongNumber chunk.number number)) (ne_eqb chunk.number number other) in absurd (some_none (WrongNumber chunk.number number) (sym no ∙ e)))
]
  where
    some_none : (x : SettleFault) → Some x ≡ None → ⊥
    some_none x h = cc

numbered : (o : Option Frozen) (number : ℕ) → IsFrozen o number → IsNumbered o → (1 ≤ number) × (number ≤ 4294967295)
numbered None number is n = absurd is
numbered (Some chunk) number is n = (subst (λ k. 1 ≤ k) is n.0, subst (λ k. k ≤ 4294967295) is n.1)

pub may_settle : (header : Header) (history : List Payload) (volume number : ℕ) (verdict : Verdict) → IsHistory header history → HasSpelling table.volume volume → HasSpelling table.verdict verdict
    → settle_refusal ((state_of header history).volumes volume).log.frozen number ≡ None → MayFollow header history (Settled volume number verdict ∷ [])
may_settle header history volume number verdict law v a free =
    let log = ((state_of header history).volumes volume).log in
    let is = settles log.frozen number free in
    let n = numbered log.frozen number is (logs_kept header history law volume).numbered in
    ((is, tt), settled_spelled volume number verdict v a n.0 n.1)
