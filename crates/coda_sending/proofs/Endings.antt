-- How a client's calls for a chunk end, by what the calls of its disk keep.
use Rattle.std.proofs.Common.{◌≡◌, ◌<◌, ◌+◌, ◌==◌, ℕ, Bool, true, false, cond, List, [], ◌∷◌, ◌++◌, append-nil, length, Option, Some, None, option_map, Result, Ok, Err, refl, sym, ap, ◌∙◌, subst, inl, inr}
use Rattle.std.specs.Prelude.{nat_le, ⊤}
use Rattle.std.specs.Int.{w32}
use Rattle.coda_certify.specs.declared.verdict.Verdict.{Verdict}
use Rattle.coda_certify.specs.declared.verdict.Verdict.TheVariants as verdict
use Rattle.coda_cml.specs.Chunks.{freeze_refusal}
use Rattle.coda_cml.specs.Fronts.{chunk_end}
use Rattle.coda_cml.specs.Segments.{segments_of}
use Rattle.coda_cml.specs.State.{LogState}
use Rattle.coda_cml.specs.Steps.{settle_refusal}
use Rattle.coda_cml.specs.declared.fault.FreezeFault.{FreezeFault}
use Rattle.coda_cml.specs.declared.fault.FreezeFault.TheVariants as freeze
use Rattle.coda_cml.specs.declared.fault.SettleFault.{SettleFault}
use Rattle.coda_cml.specs.declared.fault.SettleFault.TheVariants as settle
use Rattle.coda_cml.specs.declared.frozen.Frozen.{Frozen}
use Rattle.coda_disk.specs.Told.{Told}
use Rattle.coda_fid.specs.declared.op.Record.{Record}
use Rattle.coda_journal.specs.Entries.{blocks, framed}
use Rattle.coda_journal.specs.declared.header.Header.{Header}
use Rattle.coda_plain.specs.Cell.{ClientEntry, Did}
use Rattle.coda_plain.specs.Decisions.{sent_of}
use Rattle.coda_plain.specs.Deeds.{Froze, Settled}
use Rattle.coda_record.specs.declared.answer.Answer.{Answer}
use Rattle.coda_record.specs.declared.answer.Answer.TheVariants as answer
use Rattle.coda_venus.specs.Code.{IsClient}
use Rattle.coda_venus.specs.History.{payload_of, payloads_of, state_of}
use Rattle.coda_venus.specs.Keeping.{refused_as as venus_refused_as, unsettled_as, chunk_by, next_chunk, Due, freeze_of, settled_unless, settle_due, IsFull, refusal_in, KeepsOne, DoesKeep, IsOwn}
use Rattle.coda_venus.specs.Standing.{IsUp, StandsFor}
use Rattle.coda_venus.specs.State.{ClientState as VenusState}
use Rattle.coda_venus.specs.declared.refused.Refused.{Refused as VenusRefused}
use Rattle.coda_venus.specs.declared.refused.Refused.TheVariants as why
use Rattle.coda_venus.specs.declared.venus.Venus.{Venus}
use Rattle.coda_cell.specs.Made.{client_of}
use Rattle.coda_cell.specs.Refusing.{refused_as as line_refused_as, settle_refused_as}
use Rattle.coda_cell.specs.Sending.{Freezing, frozen_now, frozen_unless, frozen_for, freezing_of, freezing, taken, taken_unless, taking}
use Rattle.coda_cell.specs.State.{ClientVolume, log_of}
use Rattle.coda_cell.specs.Refused.{Refused}
use Rattle.coda_cell.specs.Refused as refused
use Rattle.coda_matching.specs.Clients.{entry_of, payload_by, journal_by, IsClientHistory, Cut, LacksRoom, Ends}
use Rattle.coda_cell.specs.Refusing.{client_refused_as}
use Rattle.coda_matching.proofs.Histories.{journal_push, journals_leave_clients}
use Rattle.coda_sending.specs.Ending.{entries_on, number_for, FreezingEnds, verdict_in, found_frozen, TakingEnds}

-- ---- one entry, or none

module _ {D A B : Type 0} (told : D → Told) (header : Header) (history : List ClientEntry) (IsAs : A → B → Type 0) where
  still : (new : Venus D) → IsUp told header new (journal_by history) → IsUp told header new (journal_by (history ++ []))
  still new up = subst (λ (h : List ClientEntry). IsUp told header new (journal_by h)) (sym (append-nil history)) up

  -- nothing is added, and something is said
  pub said_ends : (new : Venus D) (a : A) (b : B) → IsAs a b → IsUp told header new (journal_by history) → Ends told header history [] (Ok a) IsAs new (Ok b)
  said_ends new a b is up = (a, refl, is, still new up)

  -- nothing is added, and the call is refused
  pub refused_ends : (new : Venus D) (e : VenusRefused) → IsOwn e → IsUp told header new (journal_by history) → Ends told header history [] (Err (client_refused_as e)) IsAs new (Err e)
  refused_ends new why.JournalFull own up = inl (refl, still new up)
  refused_ends new why.DiskFault own up = absurd own
  refused_ends new why.Memory own up = ([], [], refl, still new up)
  refused_ends new why.Down own up = absurd own
  refused_ends new (why.TooBig n) own up = (refl, still new up)
  refused_ends new why.NotFound own up = (refl, still new up)
  refused_ends new why.NotDir own up = (refl, still new up)
  refused_ends new why.Exists own up = (refl, still new up)
  refused_ends new why.IsDir own up = (refl, still new up)
  refused_ends new why.NotFile own up = (refl, still new up)
  refused_ends new why.NotEmpty own up = (refl, still new up)
  refused_ends new why.Loop own up = (refl, still new up)
  refused_ends new (why.Need fid) own up = (refl, still new up)
  refused_ends new why.LogFull own up = (refl, still new up)
  refused_ends new (why.Frozen n h) own up = (refl, still new up)
  refused_ends new why.Nothing own up = (refl, still new up)
  refused_ends new (why.Young a w) own up = (refl, still new up)
  refused_ends new (why.NotFrozen n) own up = (refl, still new up)
  refused_ends new (why.WrongNumber k n) own up = (refl, still new up)

  -- the journal's own count of its bytes
  lacks : (old : Venus D) (entry : ClientEntry) → IsUp told header old (journal_by history) → IsFull old.journal (payload_by entry) → LacksRoom header history entry
  lacks old entry up full =
      let need = length (framed w32 (payload_of (payload_by entry))) in
      subst (λ area. area < length (blocks w32 (payloads_of (journal_by history))) + need) up.journal.size (subst (λ used. old.journal.area < used + need) up.journal.counts full)

  abbrev alone : (entry : ClientEntry) → Cut (entry ∷ [])
  alone entry = record { done = []; next = entry; rest = []; is = refl }

  -- one entry was to be kept
  pub kept_ends : (old new : Venus D) (entry : ClientEntry) (a : A) (result : Result B VenusRefused) → IsUp told header old (journal_by history) → ((b : B) → result ≡ Ok b → IsAs a b)
      → KeepsOne told header old (journal_by history) (payload_by entry) new (refusal_in result) → Ends told header history (entry ∷ []) (Ok a) IsAs new result
  kept_ends old new entry a (Ok b) up is kept = (a, refl, is b refl, subst (IsUp told header new) (sym (journal_push history entry)) kept.1)
  kept_ends old new entry a (Err why.JournalFull) up is kept =
      inr (alone entry, subst (λ (h : List ClientEntry). LacksRoom header h entry) (sym (append-nil history)) (lacks old entry up kept.0), still new kept.1.1)
  kept_ends old new entry a (Err why.DiskFault) up is kept =
      (alone entry, kept.1, subst (λ (h : List ClientEntry). StandsFor (told new.journal.disk) header (journal_by h) (Some (payload_by entry))) (sym (append-nil history)) kept.2)
  kept_ends old new entry a (Err why.Memory) up is kept = ([], entry ∷ [], refl, still new kept.1)
  kept_ends old new entry a (Err why.Down) up is kept = absurd kept
  kept_ends old new entry a (Err (why.TooBig n)) up is kept = absurd kept
  kept_ends old new entry a (Err why.NotFound) up is kept = absurd kept
  kept_ends old new entry a (Err why.NotDir) up is kept = absurd kept
  kept_ends old new entry a (Err why.Exists) up is kept = absurd kept
  kept_ends old new entry a (Err why.IsDir) up is kept = absurd kept
  kept_ends old new entry a (Err why.NotFile) up is kept = absurd kept
  kept_ends old new entry a (Err why.NotEmpty) up is kept = absurd kept
  kept_ends old new entry a (Err why.Loop) up is kept = absurd kept
  kept_ends old new entry a (Err (why.Need fid)) up is kept = absurd kept
  kept_ends old new entry a (Err why.LogFull) up is kept = absurd kept
  kept_ends old new entry a (Err (why.Frozen n h)) up is kept = absurd kept
  kept_ends old new entry a (Err why.Nothing) up is kept = absurd kept
  kept_ends old new entry a (Err (why.Young w n)) up is kept = absurd kept
  kept_ends old new entry a (Err (why.NotFrozen n)) up is kept = absurd kept
  kept_ends old new entry a (Err (why.WrongNumber k n)) up is kept = absurd kept

-- ---- what a client on a disk has of a volume, by its history

-- what the history leaves of a volume
abbrev pub volume_by : Header → List ClientEntry → ℕ → ClientVolume
volume_by header history volume = (client_of header.number history header.cache).volumes volume

-- the log of a client that is up is that of its history
pub log_by : (header : Header) (history : List ClientEntry) (volume : ℕ) → IsClientHistory header history → ((state_of header (journal_by history)).volumes volume).log ≡ log_of (volume_by header history volume)
log_by header history volume is = ((journals_leave_clients header history is).volumes volume).log

-- what a call tells of each client that it may be, it tells of this history
pub frozen_by : {D : Type 0} (told : D → Told) (header : Header) (history : List ClientEntry) (venus : Venus D) (volume : ℕ) (found : Option Frozen) → IsUp told header venus (journal_by history) → IsClientHistory header history
    → ((c : VenusState) → IsClient c venus.client → found ≡ (c.volumes volume).log.frozen) → found ≡ (volume_by header history volume).frozen
frozen_by told header history venus volume found up is all = all (state_of header (journal_by history)) up.state ∙ ap (λ (l : LogState). l.frozen) (log_by header history volume is)

-- the records of the chunk that is on its way are what cancellation leaves of its operations
pub chunk_is : {D : Type 0} (told : D → Told) (header : Header) (history : List ClientEntry) (venus : Venus D) (volume : ℕ) (recs : List Record) → IsUp told header venus (journal_by history) → IsClientHistory header history
    → ((c : VenusState) → IsClient c venus.client → recs ≡ (c.volumes volume).log.chunk) → recs ≡ sent_of (volume_by header history volume).front
chunk_is told header history venus volume recs up is all = all (state_of header (journal_by history)) up.state ∙ ap (λ (l : LogState). l.chunk) (log_by header history volume is)

-- ---- a freeze

-- why nothing is frozen, as a line is refused for it
froze_refused : (e : FreezeFault) → client_refused_as (venus_refused_as e) ≡ line_refused_as e
froze_refused (freeze.Frozen number home) = refl
froze_refused freeze.Nothing = refl
froze_refused (freeze.Young age window) = refl
froze_refused freeze.Memory = refl

froze_own : (e : FreezeFault) → IsOwn (venus_refused_as e)
froze_own (freeze.Frozen number home) = tt
froze_own freeze.Nothing = tt
froze_own (freeze.Young age window) = tt
froze_own freeze.Memory = tt

module _ {D : Type 0} (told : D → Told) (header : Header) (history : List ClientEntry) (old new : Venus D) (volume : ℕ) (up : IsUp told header old (journal_by history)) where
  abbrev v : ClientVolume
  v = volume_by header history volume

  up_still : new ≡ old → IsUp told header new (journal_by history)
  up_still same = subst (λ (x : Venus D). IsUp told header x (journal_by history)) (sym same) up

  -- the chunk that is frozen, for its own server or for another
  pub sent_again : (now window server : ℕ) (chunk : Frozen) (result : Result ℕ VenusRefused) → v.frozen ≡ Some chunk → result ≡ number_for chunk server → new ≡ old → FreezingEnds told header history volume (freezing now window server v) new result
  sent_again now window server chunk result frozen said same =
      subst (λ o. FreezingEnds told header history volume (freezing_of o now window server v) new result) (sym frozen)
      (subst (FreezingEnds told header history volume (frozen_for chunk server v) new) (sym said)
      (elim (chunk.home == server) as (λ b.
      let wanted : Result Freezing Refused = cond b (Ok (record { number = chunk.number; span = v.front; deeds = []; volume = v })) (Err (refused.Frozen chunk.number chunk.home)) in
      let answer : Result ℕ VenusRefused = cond b (Ok chunk.number) (Err (why.Frozen chunk.number chunk.home)) in
      FreezingEnds told header history volume wanted new answer) [
        | true ↦ said_ends told header history (λ a b. a ≡ b) new chunk.number chunk.number refl (up_still same)
        | false ↦ refused_ends told header history (λ a b. a ≡ b) new (why.Frozen chunk.number chunk.home) tt (up_still same)
      ]))

  -- a refusal by which nothing changed
  unkept : {A B : Type 0} (IsAs : A → B → Type 0) (e : VenusRefused) (result : Result B VenusRefused) → IsOwn e → result ≡ Err e → new ≡ old → Ends told header history [] (Err (client_refused_as e)) IsAs new result
  unkept IsAs e result own is same = subst (Ends told header history [] (Err (client_refused_as e)) IsAs new) (sym is) (refused_ends told header history IsAs new e own (up_still same))

  module _ (now window server : ℕ) (result : Result ℕ VenusRefused) (number_is : (b : ℕ) → result ≡ Ok b → b ≡ v.chunks + 1) where
    -- what is due, by what stands against it
    abbrev due_by : Option FreezeFault → Due
    due_by o = freeze_of volume server (chunk_by o (log_of v) now window)

    froze_full : (full : Bool) → (let due : Due = freeze_of volume server (cond full (Err why.JournalFull) (Ok (v.chunks + 1, chunk_end now window 64 v.back))) in DoesKeep told header old (journal_by history) due new result)
        → (let wanted : Result Freezing Refused = cond full (Err refused.JournalFull) (Ok (frozen_now now window server v)) in FreezingEnds told header history volume wanted new result)
    froze_full true does = unkept (λ (a b : ℕ). a ≡ b) why.JournalFull result tt does.0 does.1
    froze_full false does = kept_ends told header history (λ (a b : ℕ). a ≡ b) old new (Did volume (Froze (v.chunks + 1) server (chunk_end now window 64 v.back))) (v.chunks + 1) result up (λ b is. sym (number_is b is)) does.answers

    froze_by : (o : Option FreezeFault) → DoesKeep told header old (journal_by history) (due_by o) new result → FreezingEnds told header history volume (frozen_unless o now window server v) new result
    froze_by (Some e) does =
        subst (λ r. Ends told header history [] (Err r) (λ (a b : ℕ). a ≡ b) new result) (froze_refused e) (unkept (λ (a b : ℕ). a ≡ b) (venus_refused_as e) result (froze_own e) does.0 does.1)
    froze_by None does = froze_full (nat_le 4294967295 v.chunks) does

    -- a chunk that is frozen now
    pub froze_now : v.frozen ≡ None → DoesKeep told header old (journal_by history) (freeze_of volume server (next_chunk (log_of v) now window)) new result → FreezingEnds told header history volume (freezing now window server v) new result
    froze_now none does =
        subst (λ o. FreezingEnds told header history volume (freezing_of o now window server v) new result) (sym none)
        (froze_by (freeze_refusal None now window (segments_of v.back))
        (subst (λ o. DoesKeep told header old (journal_by history) (due_by (freeze_refusal o now window (segments_of v.back))) new result) none does))

-- ---- an answer

settle_refused : (e : SettleFault) → client_refused_as (unsettled_as e) ≡ settle_refused_as e
settle_refused (settle.NotFrozen number) = refl
settle_refused (settle.WrongNumber frozen number) = refl
settle_refused settle.Memory = refl

settle_own : (e : SettleFault) → IsOwn (unsettled_as e)
settle_own (settle.NotFrozen number) = tt
settle_own (settle.WrongNumber frozen number) = tt
settle_own settle.Memory = tt

-- what is due by an answer with a verdict
abbrev settles_unless : Option SettleFault → ℕ → ℕ → Verdict → Due
settles_unless o volume number said = settled_unless (option_map unsettled_as o) (entry_of (Did volume (Settled number said)))

-- an answer with a verdict settles the chunk
taken_verdict : (number : ℕ) (a : Answer) (said : Verdict) (v : ClientVolume) → verdict_in a ≡ Some said → (taken number a v).deeds ≡ Settled number said ∷ []
taken_verdict number answer.Applied said v some = let same : verdict.Applied ≡ said = cc in ap (λ d. Settled number d ∷ []) same
taken_verdict number (answer.Conflict n r) said v some = let same : verdict.Conflict n r ≡ said = cc in ap (λ d. Settled number d ∷ []) same
taken_verdict number (answer.Behind last) said v some = cc
taken_verdict number (answer.Old last) said v some = cc

-- any other answer leaves it
taken_nothing : (number : ℕ) (a : Answer) (v : ClientVolume) → verdict_in a ≡ None → (taken number a v).deeds ≡ []
taken_nothing number answer.Applied v none = cc
taken_nothing number (answer.Conflict n r) v none = cc
taken_nothing number (answer.Behind last) v none = refl
taken_nothing number (answer.Old last) v none = refl

module _ {D : Type 0} (told : D → Told) (header : Header) (history : List ClientEntry) (old new : Venus D) (volume number : ℕ) (a : Answer) (result : Result ⊤ VenusRefused) (up : IsUp told header old (journal_by history)) where
  abbrev at : ClientVolume
  at = volume_by header history volume

  abbrev Wanted : Option SettleFault → Type 0
  Wanted o = TakingEnds told header history volume (taken_unless o number a at) new result

  -- why an answer isn't taken
  untaken : (e : SettleFault) → result ≡ Err (unsettled_as e) → new ≡ old → Wanted (Some e)
  untaken e is same =
      subst (λ r. Ends told header history [] (Err r) (λ (x y : ⊤). x ≡ y) new result) (settle_refused e)
      (subst (Ends told header history [] (Err (client_refused_as (unsettled_as e))) (λ (x y : ⊤). x ≡ y) new) (sym is)
      (refused_ends told header history (λ (x y : ⊤). x ≡ y) new (unsettled_as e) (settle_own e) (subst (λ (x : Venus D). IsUp told header x (journal_by history)) (sym same) up)))

  settled_by : (o : Option SettleFault) (said : Verdict) → verdict_in a ≡ Some said → DoesKeep told header old (journal_by history) (settles_unless o volume number said) new result → Wanted o
  settled_by (Some e) said some does = untaken e does.0 does.1
  settled_by None said some does =
      subst (λ ds. Ends told header history (entries_on volume ds) (Ok tt) (λ (x y : ⊤). x ≡ y) new result) (sym (taken_verdict number a said at some))
      (kept_ends told header history (λ (x y : ⊤). x ≡ y) old new (Did volume (Settled number said)) tt result up (λ b is. refl) does.answers)

  -- a verdict comes
  pub settled_ends : (said : Verdict) → verdict_in a ≡ Some said → IsClientHistory header history → DoesKeep told header old (journal_by history) (settle_due (state_of header (journal_by history)) volume number said) new result
      → TakingEnds told header history volume (taking number a at) new result
  settled_ends said some is does =
      settled_by (settle_refusal at.frozen number) said some
      (subst (λ (l : LogState). DoesKeep told header old (journal_by history) (settles_unless (settle_refusal l.frozen number) volume number said) new result) (log_by header history volume is) does)

  found_by : (o : Option Frozen) → verdict_in a ≡ None → result ≡ found_frozen o number → new ≡ old → Wanted (settle_refusal o number)
  found_by None none is same = untaken (settle.NotFrozen number) is same
  found_by (Some chunk) none is same = by (chunk.number == number) is
    where
      by : (b : Bool) → (let r : Result ⊤ VenusRefused = cond b (Ok tt) (Err (why.WrongNumber chunk.number number)) in result ≡ r) → (let o : Option SettleFault = cond b None (Some (settle.WrongNumber chunk.number number)) in Wanted o)
      by false is = untaken (settle.WrongNumber chunk.number number) is same
      by true is =
          subst (λ ds. Ends told header history (entries_on volume ds) (Ok tt) (λ (x y : ⊤). x ≡ y) new result) (sym (taken_nothing number a at none))
          (subst (Ends told header history [] (Ok tt) (λ (x y : ⊤). x ≡ y) new) (sym is) (said_ends told header history (λ (x y : ⊤). x ≡ y) new tt tt refl (subst (λ (x : Venus D). IsUp told header x (journal_by history)) (sym same) up)))

  -- an answer without a verdict comes
  pub left_ends : (found : Option Frozen) → verdict_in a ≡ None → found ≡ at.frozen → result ≡ found_frozen found number → new ≡ old → TakingEnds told header history volume (taking number a at) new result
  left_ends found none frozen is same = subst (λ o. Wanted (settle_refusal o number)) frozen (found_by found none is same)
