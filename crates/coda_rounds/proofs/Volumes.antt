-- Each log mentions objects of its volume alone.
use Rattle.std.proofs.Common.{◌≡◌, ℕ, true, false, ◌||◌, if◌then◌else◌, List, [], ◌∷◌, ◌++◌, take, drop}
use Rattle.std.proofs.Common.{sym, ap, ◌∙◌, subst, ⊎_elim, inl, inr}
use Rattle.std.proofs.lemmas.Bool.{eq-eqb, ne_eqb, cases_eq, or_left, or_right, or_cases, false≢true}
use Rattle.std.proofs.lemmas.List.{take-append-drop}
use Rattle.coda_fid.specs.declared.fid.Fid.{Fid}
use Rattle.coda_fid.specs.declared.op.Record.{Record}
use Rattle.coda_cancel.specs.Cancel.{add, added}
use Rattle.coda_cancel.specs.Dropping.{mentioning}
use Rattle.coda_cancel.proofs.Debts.{mentioning-with_pre}
use Rattle.coda_certify.specs.declared.verdict.Verdict.{Verdict}
use Rattle.coda_certify.specs.declared.verdict.Verdict.TheVariants.{Applied, Conflict}
use Rattle.coda_cml.specs.State.{LogState}
use Rattle.coda_cml.specs.Steady.{any_record}
use Rattle.coda_cml.specs.Steps.{settled, records_in}
use Rattle.coda_cml.proofs.runs.ThawedFold.{any_in_add}
use Rattle.coda_cml.proofs.runs.WithoutObject.{any-append}
use Rattle.coda_journal.specs.declared.header.Header.{Header}
use Rattle.coda_plain.proofs.Lists.{along}
use Rattle.coda_record.specs.declared.entry.ClientEntry.{ClientEntry}
use Rattle.coda_record.specs.declared.entry.ClientEntry.TheVariants.{Op as Operation, Freeze, Settled, Giveup}
use Rattle.coda_record.specs.declared.entry.ClientEntry.TheVariants.{Fetched, Dropped, Hoard, Snapshot}
use Rattle.coda_venus.specs.History.{Payload, state_of}
use Rattle.coda_venus.specs.State.{ClientVolume, ClientState, put, ended_by, client_after, client_after_all, new_client}
use Rattle.coda_venus.proofs.KeptLogs.{state_push}
use Rattle.coda_rounds.specs.Places.{KeepsToVolume, AreInVolumes, IsInVolumes, AreOfTheirVolumes}
use Rattle.coda_rounds.specs.Places.{LogsKeepToTheirVolumes}

-- a log that mentions objects of the volume alone
abbrev IsOf : ℕ → LogState → Type 0
IsOf volume log = (f : Fid) → (any_record (mentioning f) log.chunk || any_record (mentioning f) log.records) ≡ true
    → f.volume ≡ volume

mentions_in_add : (f : Fid) (recs : List Record) (rec : Record) → any_record (mentioning f) (add recs rec) ≡ true
    → (any_record (mentioning f) recs || mentioning f rec.op) ≡ true
mentions_in_add f recs rec m = any_in_add (mentioning f) (λ h op. mentioning-with_pre h f op) recs rec m

mentions_in_added : (f : Fid) (recs run : List Record) → any_record (mentioning f) (added recs run) ≡ true
    → (any_record (mentioning f) recs || any_record (mentioning f) run) ≡ true
mentions_in_added f recs [] m = or_left (any_record (mentioning f) recs) false m
mentions_in_added f recs (rec ∷ run) m = ⊎_elim
    (λ (a : any_record (mentioning f) (add recs rec) ≡ true). ⊎_elim
    (λ (b : any_record (mentioning f) recs ≡ true). or_left (any_record (mentioning f) recs) _ b)
    (λ (b : mentioning f rec.op ≡ true). or_right (any_record (mentioning f) recs) _ (or_left (mentioning f rec.op) _ b))
    (or_cases (any_record (mentioning f) recs) (mentioning f rec.op) (mentions_in_add f recs rec a)))
    (λ (a : any_record (mentioning f) run ≡ true). or_right (any_record (mentioning f) recs) _
    (or_right (mentioning f rec.op) _ a))
    (or_cases (any_record (mentioning f) (add recs rec)) (any_record (mentioning f) run)
    (mentions_in_added f (add recs rec) run m))

module _ (volume : ℕ) (log : LogState) (is : IsOf volume log) where
  in_records : (f : Fid) → any_record (mentioning f) log.records ≡ true → f.volume ≡ volume
  in_records f m = is f (or_right (any_record (mentioning f) log.chunk) _ m)

  appended_of : (rec : Record) → ((f : Fid) → mentioning f rec.op ≡ true → f.volume ≡ volume) → (f : Fid)
      → (any_record (mentioning f) log.chunk || any_record (mentioning f) (add log.records rec)) ≡ true
      → f.volume ≡ volume
  appended_of rec own f m = ⊎_elim
      (λ (a : any_record (mentioning f) log.chunk ≡ true). is f (or_left (any_record (mentioning f) log.chunk) _ a))
      (λ (a : any_record (mentioning f) (add log.records rec) ≡ true). ⊎_elim
      (in_records f) (own f)
      (or_cases (any_record (mentioning f) log.records) (mentioning f rec.op) (mentions_in_add f log.records rec a)))
      (or_cases (any_record (mentioning f) log.chunk) (any_record (mentioning f) (add log.records rec)) m)

  frozen_of : (n : ℕ) (f : Fid)
      → (any_record (mentioning f) (take n log.records) || any_record (mentioning f) (drop n log.records)) ≡ true
      → f.volume ≡ volume
  frozen_of n f m = in_records f
      (ap (any_record (mentioning f)) (sym (take-append-drop n log.records))
      ∙ any-append (mentioning f) (take n log.records) (drop n log.records) ∙ m)

  settled_of : (verdict : Verdict) → IsOf volume (settled verdict log)
  settled_of Applied = in_records
  settled_of (Conflict number why) = λ f m. is f (mentions_in_added f log.chunk log.records m)

  given_up_of : (f : Fid) → (any_record (mentioning f) log.chunk || false) ≡ true → f.volume ≡ volume
  given_up_of f m = ⊎_elim
      (λ (a : any_record (mentioning f) log.chunk ≡ true). is f (or_left (any_record (mentioning f) log.chunk) _ a))
      (λ (a : false ≡ true). absurd (false≢true a))
      (or_cases (any_record (mentioning f) log.chunk) false m)

put_of : (c : ClientState) (volume : ℕ) (v : ClientVolume) → AreOfTheirVolumes c → IsOf volume v.log
    → (q : ℕ) → IsOf q (put c.volumes volume v q).log
put_of c volume v all is q = elim (cases_eq q volume) [
  | inl same ↦
      subst (λ (w : ClientVolume). IsOf q w.log) (sym (ap (λ b. if b then v else c.volumes q) (eq-eqb q volume same)))
      (subst (λ n. IsOf n v.log) (sym same) is)
  | inr other ↦
      subst (λ (w : ClientVolume). IsOf q w.log) (sym (ap (λ b. if b then v else c.volumes q) (ne_eqb q volume other)))
      (all q)
]

entered_of : (c : ClientState) (next : ClientEntry) → AreOfTheirVolumes c → KeepsToVolume next
    → AreOfTheirVolumes (client_after c next)
entered_of c (Operation volume rec) all own =
    put_of c volume _ all (appended_of volume (c.volumes volume).log (all volume) rec own)
entered_of c (Freeze volume number home last) all own =
    put_of c volume _ all (frozen_of volume (c.volumes volume).log (all volume)
    (records_in (ended_by last (c.volumes volume).log.segments) (c.volumes volume).log))
entered_of c (Settled volume number verdict) all own =
    put_of c volume _ all (settled_of volume (c.volumes volume).log (all volume) verdict)
entered_of c (Giveup volume) all own = put_of c volume _ all (given_up_of volume (c.volumes volume).log (all volume))
entered_of c (Fetched fid parent node) all own = all
entered_of c (Dropped fid) all own = all
entered_of c (Hoard change) all own = all
entered_of c (Snapshot snapshot) all own = all

all_of : (c : ClientState) (entries : Payload) → AreOfTheirVolumes c → AreInVolumes c entries
    → AreOfTheirVolumes (client_after_all c entries)
all_of c [] all within = all
all_of c (next ∷ entries) all within =
    all_of (client_after c next) entries (entered_of c next all within.1) within.2

new_of : (number blocks : ℕ) → AreOfTheirVolumes (new_client number blocks)
new_of number blocks volume f m = absurd (false≢true m)

always_of : (header : Header) (history : List Payload) → IsInVolumes header history
    → AreOfTheirVolumes (state_of header history)
always_of header history within =
    along (λ past payload. AreInVolumes (state_of header past) payload)
    (λ past. AreOfTheirVolumes (state_of header past)) one_more history (new_of header.number header.cache) within
  where
    one_more : (past : List Payload) (payload : Payload) → AreOfTheirVolumes (state_of header past)
        → AreInVolumes (state_of header past) payload → AreOfTheirVolumes (state_of header (past ++ payload ∷ []))
    one_more past payload all within =
        subst AreOfTheirVolumes (sym (state_push header past payload))
        (all_of (state_of header past) payload all within)

pub logs_keep_to_their_volumes : LogsKeepToTheirVolumes
logs_keep_to_their_volumes = record {
  first = new_of;
  then_too = entered_of;
  within = λ s volume all. all volume;
  always = always_of;
}
