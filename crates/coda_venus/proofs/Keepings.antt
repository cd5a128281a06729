-- What a call leaves that is to keep one payload.
use Rattle.std.proofs.Common.{◌≡◌, ℕ, false, List, [], ◌∷◌, ◌++◌, refl, sym, ap, ◌∙◌, subst, inl, inr}
use Rattle.std.specs.Prelude.{Option, Result, Ok, Err, IfErr}
use Rattle.coda_disk.specs.Told.{Told, LeavesOnly}
use Rattle.coda_journal.specs.Image.{Reads}
use Rattle.coda_journal.specs.Journal.{IsJournal, IsBeforeOrAfter}
use Rattle.coda_journal.specs.declared.header.Header.{Header}
use Rattle.coda_journal.specs.declared.journal.Journal.{Journal}
use Rattle.coda_journal.proofs.Moments.{started}
use Rattle.coda_venus.specs.State.{ClientState, client_after_all}
use Rattle.coda_venus.specs.History.{Payload, payload_of, payloads_of, state_of, MayFollow}
use Rattle.coda_venus.specs.Code.{IsClient}
use Rattle.coda_venus.specs.Standing.{IsUp}
use Rattle.coda_venus.specs.Appending.{Writing}
use Rattle.coda_fid.specs.declared.op.Record.{Record}
use Rattle.coda_record.specs.declared.entry.ClientEntry.TheVariants.{Op as OpEntry}
use Rattle.coda_venus.specs.Looking.{then_find, OrMemory}
use Rattle.coda_venus.specs.Keeping.{IsFull, IsStill, refusal_in, KeepsOne, KeepingOne, DoesKeepIn}
use Rattle.coda_venus.specs.declared.refused.Refused.{Refused}
use Rattle.coda_venus.specs.declared.refused.Refused.TheVariants.{JournalFull, DiskFault, Memory}
use Rattle.coda_venus.specs.declared.venus.Venus.{Venus}
use Rattle.coda_venus.proofs.Growing.{payloads_push, history_push}
use Rattle.coda_venus.proofs.KeptLogs.{state_push}

module _ {D : Type 0} (told : D → Told) (header : Header) (old : Venus D) (history : List Payload) (payload : Payload) (up : IsUp told header old history) where
  -- it was added, or a call of the disk failed
  module _ (may : MayFollow header history payload) where
    grows : (new : Venus D) → new.down ≡ false → IsJournal told header new.journal (payloads_of history ++ payload_of payload ∷ []) → IsClient (client_after_all (state_of header history) payload) new.client
        → IsUp told header new (history ++ payload ∷ [])
    grows new running journal client = record {
      up = running;
      journal = subst (IsJournal told header new.journal) (sym (payloads_push history payload)) journal;
      lawful = history_push header history payload up.lawful may;
      state = subst (λ (c : ClientState). IsClient c new.client) (sym (state_push header history payload)) client;
    }

    pub written : {A : Type 0} (new : Venus D) (r : Result A Refused) → (¬ IsFull old.journal payload) → IsClient (client_after_all (state_of header history) payload) new.client → IfErr r (λ why. why ≡ DiskFault)
        → Writing {D = D} {T = A} told header old.journal (payloads_of history) (payload_of payload) new r → KeepingOne {D = D} {A = A} told header old history payload new r
    written new (Ok x) room client fault w = record { any_moment = w.any_moment; answers = (room, grows new w.answers.0 w.answers.1 client) }
    written {A = A} new (Err why) room client fault w = subst (λ (e : Refused). KeepingOne {D = D} {A = A} told header old history payload new (Err e)) (sym fault) (record {
      any_moment = w.any_moment;
      answers = (room, w.answers.0, record { images = w.answers.1; lawful = up.lawful; next = may });
    })

  -- nothing was written
  module _ (only_now : (c : List ℕ) → (told old.journal.disk).honest → (told old.journal.disk).left_since (told old.journal.disk).moment c → (told old.journal.disk).may_leave c) where
    idle : LeavesOnly (told old.journal.disk) (told old.journal.disk) (IsBeforeOrAfter header (payloads_of history) (payload_of payload))
    idle = started (told old.journal.disk) (IsBeforeOrAfter header (payloads_of history) (payload_of payload))
        (λ c left. inl (subst (λ (l : List ℕ). Reads header l (payloads_of history)) (sym (up.journal.durable c (only_now c up.journal.honest left))) up.journal.reads))

    still : (new : Venus D) → new.journal ≡ old.journal → new.down ≡ false → IsClient (state_of header history) new.client → IsStill told header old history new
    still new journal running client = (
      journal,
      record {
        up = running;
        journal = subst (λ (j : Journal D). IsJournal told header j (payloads_of history)) (sym journal) up.journal;
        lawful = up.lawful;
        state = client;
      },
    )

    stays : (new : Venus D) → new.journal ≡ old.journal → LeavesOnly (told old.journal.disk) (told new.journal.disk) (IsBeforeOrAfter header (payloads_of history) (payload_of payload))
    stays new journal = subst (λ (j : Journal D). LeavesOnly (told old.journal.disk) (told j.disk) (IsBeforeOrAfter header (payloads_of history) (payload_of payload))) (sym journal) idle

    pub no_room : {A : Type 0} (r : Result A Refused) → r ≡ Err JournalFull → IsFull old.journal payload → KeepingOne {D = D} {A = A} told header old history payload old r
    no_room {A = A} r is full = subst (KeepingOne {D = D} {A = A} told header old history payload old) (sym is) (record { any_moment = idle; answers = (full, still old refl up.up up.state) })

    pub no_memory : {A : Type 0} (new : Venus D) (r : Result A Refused) → r ≡ Err Memory → new.journal ≡ old.journal → new.down ≡ false → IsClient (state_of header history) new.client → KeepingOne {D = D} {A = A} told header old history payload new r
    no_memory {A = A} new r is journal running client = subst (KeepingOne {D = D} {A = A} told header old history payload new) (sym is) (record { any_moment = stays new journal; answers = still new journal running client })

-- the same of a call that answers something else
pub passes : {D A B : Type 0} (told : D → Told) (header : Header) (old : Venus D) (history : List Payload) (payload : Payload) (new : Venus D) (r : Result A Refused) (s : Result B Refused)
    → refusal_in r ≡ refusal_in s → KeepingOne {D = D} {A = A} told header old history payload new r → KeepingOne {D = D} {A = B} told header old history payload new s
passes told header old history payload new r s same k = record { any_moment = k.any_moment; answers = subst (λ (o : Option Refused). KeepsOne told header old history payload new o) same k.answers }

-- nothing is due and is not
pub not_both : {A : Type 0} (x : A) (why : Refused) → (let ok : A → Result A Refused = λ z. Ok z in ok x ≡ Err why) → ⊥
not_both x why e = cc

-- ---- an operation that isn't due

err_is : {A : Type 0} (x y : Refused) → (let err : Refused → Result A Refused = λ z. Err z in err x ≡ err y) → x ≡ y
err_is x y e = cc

-- it is refused, or memory is wanted
pub not_due : {D A : Type 0} (told : D → Told) (header : Header) (old : Venus D) (history : List Payload) → IsUp told header old history
    → ((c : List ℕ) → (told old.journal.disk).honest → (told old.journal.disk).left_since (told old.journal.disk).moment c → (told old.journal.disk).may_leave c)
    → (volume : ℕ) (why : Refused) (r : Result Record Refused) (s : Result A Refused) → s ≡ Err why → OrMemory (let q : Result Record Refused = Err why in q) r → DoesKeepIn told header old history (then_find r (λ rec. Ok (OpEntry volume rec ∷ []))) old s
not_due told header old history up only_now volume why (Err other) s is (inl memory) = (inl (is ∙ ap Err (err_is {A = Record} why Memory memory)), refl)
not_due told header old history up only_now volume why (Err other) s is (inr same) = (inr (is ∙ ap Err (err_is {A = Record} why other same)), refl)
not_due told header old history up only_now volume why (Ok rec) s is (inl memory) = no_memory told header old history (OpEntry volume rec ∷ []) up only_now old s (is ∙ ap Err (err_is {A = Record} why Memory memory)) refl up.up up.state
not_due told header old history up only_now volume why (Ok rec) s is (inr same) = absurd (not_both {A = Record} rec why (sym same))
