-- What a lawful history leaves of a client's logs.
use Rattle.std.proofs.Common.{◌≡◌, ℕ, ◌+◌, ◌<◌, ◌≤◌, if◌then◌else◌, List, [], ◌∷◌, ◌++◌, take, drop, length, None, refl, sym, ap, ◌∙◌, subst, inl, inr, arith}
use Rattle.std.proofs.lemmas.Bool.{eq-eqb, ne_eqb, cases_eq}
use Rattle.std.proofs.lemmas.List.{take-append-drop}
use Rattle.std.proofs.lemmas.Option.{none-some}
use Rattle.coda_fid.specs.declared.op.Record.{Record}
use Rattle.coda_cancel.specs.Cancel.{add, added}
use Rattle.coda_cancel.specs.Joins.{noted, joins_of}
use Rattle.coda_cancel.specs.Numbers.{AreUpTo, IsRising, dropped, least}
use Rattle.coda_cancel.proofs.Rising.{rising_add, rising_behind}
use Rattle.coda_cancel.proofs.Turns.{rising_added}
use Rattle.coda_certify.specs.declared.verdict.Verdict.{Verdict}
use Rattle.coda_certify.specs.declared.verdict.Verdict.TheVariants.{Applied, Conflict}
use Rattle.coda_cml.specs.Chunks.{chunk_length}
use Rattle.coda_cml.specs.Partition.{BeginAbove}
use Rattle.coda_cml.specs.Regrouping.{is_inside}
use Rattle.coda_cml.specs.Segments.{single}
use Rattle.coda_cml.specs.State.{LogState, empty_log}
use Rattle.coda_cml.specs.Steps.{appended_to, frozen_at, settled, given_up, records_in}
use Rattle.coda_cml.specs.declared.frozen.Frozen.{Frozen}
use Rattle.coda_cml.specs.declared.segment.Segment.{Segment}
use Rattle.coda_cml.proofs.runs.FrontFolds.{up_added}
use Rattle.coda_cml.proofs.segments.FrozenFronts.{may_go}
use Rattle.coda_cml.proofs.segments.LogSteps.{below_later, upto_front, upto_back, rising_add_behind, upto_add_behind}
use Rattle.coda_cml.proofs.segments.PartedRecords.{begin_regrouped, turn_behind}
use Rattle.coda_cml.proofs.segments.PartsKept.{parts_are, append_keeps, cut_keeps, thaw_keeps, apply_keeps, none_keeps}
use Rattle.coda_journal.specs.declared.header.Header.{Header}
use Rattle.coda_plain.proofs.Lists.{left_push, along}
use Rattle.coda_record.specs.declared.entry.ClientEntry.{ClientEntry}
use Rattle.coda_record.specs.declared.entry.ClientEntry.TheVariants.{Op, Freeze, Settled, Giveup, Fetched, Dropped, Hoard, Snapshot}
use Rattle.coda_venus.specs.Logs.{IsLogKept}
use Rattle.coda_venus.specs.State.{ClientVolume, ClientState, put, new_client, ended_by, client_after, client_after_all}
use Rattle.coda_venus.specs.History.{Payload, state_of, MayFreeze, MayEnter, MayEnterAll, MayFollow, IsHistory}
use Rattle.coda_venus.proofs.Ends.{begin_both, begin_front, begin_behind, ended_front, chunk_within}

pub empty_kept : IsLogKept empty_log
empty_kept = record { rising = tt; reached = tt; parts = none_keeps 0; above = tt; thaws = λ e. (refl, refl); few = omega arith; numbered = tt }

pub appended_kept : (log : LogState) (rec : Record) → IsLogKept log → rec.number ≡ log.last + 1 → rec.number ≤ 4294967295 → IsLogKept (appended_to log rec)
appended_kept log rec k next few =
    let later : log.last < rec.number = omega (arith, next) in
    let below = below_later log.last rec.number later log.records (upto_back log.last log.chunk log.records k.reached) in
    let pushed : BeginAbove 0 (log.segments ++ single [] rec ∷ []) = begin_both 0 log.segments (single [] rec ∷ []) (begin_behind 0 log.chunk_segments log.segments k.above) (omega (arith, later), tt) in
    record {
      rising = rising_add_behind log.chunk log.records rec k.rising (below_later log.last rec.number later (log.chunk ++ log.records) k.reached);
      reached = upto_add_behind log.last log.chunk log.records rec k.reached later;
      parts = append_keeps log.last log.chunk_segments log.chunk log.segments log.records k.parts rec later (rising_add log.records rec (rising_behind log.chunk log.records k.rising) below);
      above = begin_both 0 log.chunk_segments _ (begin_front 0 log.chunk_segments log.segments k.above)
          (begin_regrouped 0 (is_inside (noted rec.number (least (dropped log.records rec)))) (add log.records rec) (log.segments ++ single [] rec ∷ []) pushed);
      thaws = k.thaws;
      few = few;
      numbered = k.numbered;
    }

frozen_kept : (log : LogState) (n : ℕ) (chunk : Frozen) → IsLogKept log → 0 < n → 0 < length log.segments → 1 ≤ chunk.number → chunk.number ≤ 4294967295 → IsLogKept (frozen_at log n chunk)
frozen_kept log n chunk k some there low high =
    let whole : log.records ≡ take (records_in n log) log.records ++ drop (records_in n log) log.records = sym (take-append-drop (records_in n log) log.records) in
    record {
      rising = subst IsRising whole (rising_behind log.chunk log.records k.rising);
      reached = subst (AreUpTo log.last) whole (upto_back log.last log.chunk log.records k.reached);
      parts = cut_keeps log.last log.chunk_segments log.chunk log.segments log.records k.parts n some there;
      above = subst (BeginAbove 0) (sym (take-append-drop n log.segments)) (begin_behind 0 log.chunk_segments log.segments k.above);
      thaws = λ e. absurd (none-some chunk (sym e));
      few = k.few;
      numbered = (low, high);
    }

pub settled_kept : (verdict : Verdict) (log : LogState) → IsLogKept log → IsLogKept (settled verdict log)
settled_kept Applied log k = record {
  rising = rising_behind log.chunk log.records k.rising;
  reached = upto_back log.last log.chunk log.records k.reached;
  parts = apply_keeps log.last log.chunk_segments log.chunk log.segments log.records k.parts;
  above = begin_behind 0 log.chunk_segments log.segments k.above;
  thaws = λ e. (refl, refl);
  few = k.few;
  numbered = tt;
}
settled_kept (Conflict number why) log k = record {
  rising = rising_added log.chunk log.records k.rising;
  reached = up_added log.last log.chunk log.records (upto_front log.last log.chunk log.records k.reached) (upto_back log.last log.chunk log.records k.reached);
  parts = thaw_keeps log.last log.chunk_segments log.chunk log.segments log.records k.parts (is_inside (joins_of log.chunk log.records)) (rising_added log.chunk log.records k.rising);
  above = begin_regrouped 0 (is_inside (joins_of log.chunk log.records)) (added log.chunk log.records) (log.chunk_segments ++ log.segments) k.above;
  thaws = λ e. (refl, refl);
  few = k.few;
  numbered = tt;
}

pub given_up_kept : (log : LogState) → IsLogKept log → log.frozen ≡ None → IsLogKept (given_up log)
given_up_kept log k none =
    let chunk = (k.thaws none).0 in
    let segments = (k.thaws none).1 in
    record {
      rising = subst (λ (l : List Record). IsRising (l ++ [])) (sym chunk) tt;
      reached = subst (λ (l : List Record). AreUpTo log.last (l ++ [])) (sym chunk) tt;
      parts = parts_are log.last log.chunk_segments [] [] [] log.chunk [] [] [] segments chunk refl refl (none_keeps log.last);
      above = subst (λ (l : List Segment). BeginAbove 0 (l ++ [])) (sym segments) tt;
      thaws = k.thaws;
      few = k.few;
      numbered = k.numbered;
    }

-- ---- clients

-- each log is kept
abbrev pub AreLogsKept : ClientState → Type 0
AreLogsKept c = (volume : ℕ) → IsLogKept (c.volumes volume).log

put_kept : (f : ℕ → ClientVolume) (volume : ℕ) (v : ClientVolume) → ((q : ℕ) → IsLogKept (f q).log) → IsLogKept v.log → (q : ℕ) → IsLogKept (put f volume v q).log
put_kept f volume v all is q = elim (cases_eq q volume) [
  | inl same ↦ subst (λ (w : ClientVolume). IsLogKept w.log) (sym (ap (λ b. if b then v else f q) (eq-eqb q volume same))) is
  | inr other ↦ subst (λ (w : ClientVolume). IsLogKept w.log) (sym (ap (λ b. if b then v else f q) (ne_eqb q volume other))) (all q)
]

pub froze_kept : (log : LogState) (number home last : ℕ) → IsLogKept log → MayFreeze log number last → IsLogKept (frozen_at log (ended_by last log.segments) (record { number = number; home = home }))
froze_kept log number home last k may =
    let goes = may_go log.frozen may.now may.window 64 log.segments may.goes in
    let next = may.next in
    let turn = turn_behind log.chunk_segments log.segments k.parts.in_turn in
    let length = chunk_length may.now may.window 64 log.segments in
    let ended : ended_by last log.segments ≡ length = ap (λ n. ended_by n log.segments) may.ends ∙ ended_front length log.segments turn goes.0 (chunk_within may.now may.window 64 log.segments) in
    frozen_kept log (ended_by last log.segments) (record { number = number; home = home }) k (subst (λ n. 0 < n) (sym ended) goes.0) goes.1 (omega (arith, next)) may.few

entered_kept : (c : ClientState) (e : ClientEntry) → AreLogsKept c → MayEnter c e → AreLogsKept (client_after c e)
entered_kept c (Op volume rec) k may = put_kept c.volumes volume _ k (appended_kept (c.volumes volume).log rec (k volume) may.next may.few)
entered_kept c (Freeze volume number home last) k may = put_kept c.volumes volume _ k (froze_kept (c.volumes volume).log number home last (k volume) may)
entered_kept c (Settled volume number verdict) k may = put_kept c.volumes volume _ k (settled_kept verdict (c.volumes volume).log (k volume))
entered_kept c (Giveup volume) k may = put_kept c.volumes volume _ k (given_up_kept (c.volumes volume).log (k volume) may.0)
entered_kept c (Fetched fid parent node) k may = k
entered_kept c (Dropped fid) k may = k
entered_kept c (Hoard change) k may = k
entered_kept c (Snapshot snapshot) k may = k

all_kept : (c : ClientState) (es : Payload) → AreLogsKept c → MayEnterAll c es → AreLogsKept (client_after_all c es)
all_kept c [] k may = k
all_kept c (e ∷ es) k may = all_kept (client_after c e) es (entered_kept c e k may.0) may.1

pub state_push : (header : Header) (history : List Payload) (payload : Payload) → state_of header (history ++ payload ∷ []) ≡ client_after_all (state_of header history) payload
state_push header history payload = left_push client_after_all (new_client header.number header.cache) history payload

pub logs_kept : (header : Header) (history : List Payload) → IsHistory header history → AreLogsKept (state_of header history)
logs_kept header history law = along (MayFollow header) (λ h. AreLogsKept (state_of header h)) step history (λ volume. empty_kept) law
  where
    step : (h : List Payload) (payload : Payload) → AreLogsKept (state_of header h) → MayFollow header h payload → AreLogsKept (state_of header (h ++ payload ∷ []))
    step h payload k may = subst AreLogsKept (sym (state_push header h payload)) (all_kept (state_of header h) payload k may.0)
