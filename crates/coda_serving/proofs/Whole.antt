-- How a whole call ends, with all that was fetched for it.
use Rattle.std.proofs.Common.{◌≡◌, List, [], ◌∷◌, ◌++◌, append-nil, append_assoc, Option, Some, Result, Ok, Err, sym, ap, ◌∙◌, subst, inl, inr}
use Rattle.std.proofs.lemmas.List.{map-append}
use Rattle.coda_disk.specs.Told.{Told}
use Rattle.coda_tree.specs.Volume.{Nodes}
use Rattle.coda_journal.specs.declared.header.Header.{Header}
use Rattle.coda_plain.proofs.Lists.{left_push}
use Rattle.coda_plain.specs.Cell.{ClientEntry}
use Rattle.coda_script.specs.declared.reply.Reply.{Reply}
use Rattle.coda_venus.specs.History.{Payload, state_of}
use Rattle.coda_venus.specs.Standing.{IsUp, StandsFor}
use Rattle.coda_venus.specs.State.{new_client as new_venus, client_after_all as venus_after_all}
use Rattle.coda_venus.specs.declared.refused.Refused.{Refused as VenusRefused}
use Rattle.coda_venus.specs.declared.refused.Refused.TheVariants as venus
use Rattle.coda_venus.specs.declared.venus.Venus.{Venus}
use Rattle.coda_serving.specs.Answering.{Call, Answered, Ends as EndsSo}
use Rattle.coda_serving.specs.Laws.{after_payloads}
use Rattle.coda_cell.specs.Asking.{Answer}
use Rattle.coda_cell.specs.Made.{client_of}
use Rattle.coda_cell.specs.State.{new_client, client_after_all}
use Rattle.coda_cell.specs.Refused.{Refused}
use Rattle.coda_cell.proofs.Fetches.{client_after_both}
use Rattle.coda_matching.specs.Clients.{IsClientHistory, payload_by, journal_by, Cut, LacksRoom, Ends}
use Rattle.coda_cell.specs.Refusing.{client_refused_as}
use Rattle.coda_matching.proofs.Histories.{journals_leave_clients}
use Rattle.coda_serving.proofs.Answers.{Answering, AnswersAs, IsBehind, fetched, ends}
use Rattle.coda_serving.proofs.Orphans.{no_orphans}
use Rattle.coda_serving.proofs.Pairs.{IsPair}

-- ---- entries that stand in front

module _ {D A B : Type 0} (told : D → Told) (header : Header) (past done entries : List ClientEntry) (said : Result A Refused) (IsAs : A → B → Type 0) (new : Venus D) where
  -- cut behind them
  abbrev cut_behind : Cut entries → Cut (done ++ entries)
  cut_behind cut = record { done = done ++ cut.done; next = cut.next; rest = cut.rest; is = ap (λ l. done ++ l) cut.is ∙ sym (append_assoc done cut.done (cut.next ∷ cut.rest)) }

  up_behind : (l : List ClientEntry) → IsUp told header new (journal_by ((past ++ done) ++ l)) → IsUp told header new (journal_by (past ++ (done ++ l)))
  up_behind l up = subst (λ h. IsUp told header new (journal_by h)) (append_assoc past done l) up

  own_behind : (why : VenusRefused) → (said ≡ Err (client_refused_as why)) × IsUp told header new (journal_by ((past ++ done) ++ entries)) → (said ≡ Err (client_refused_as why)) × IsUp told header new (journal_by (past ++ (done ++ entries)))
  own_behind why e = (e.0, up_behind entries e.1)

  -- a call ends so that adds them first
  pub ends_behind : (result : Result B VenusRefused) → Ends told header (past ++ done) entries said IsAs new result → Ends told header past (done ++ entries) said IsAs new result
  ends_behind (Ok b) e = (e.0, e.1, e.2, up_behind entries e.3)
  ends_behind (Err venus.Memory) e = (done ++ e.0, e.1, ap (λ l. done ++ l) e.2 ∙ sym (append_assoc done e.0 e.1), up_behind e.0 e.3)
  ends_behind (Err venus.JournalFull) e = elim e [
    | inl own ↦ inl (own_behind venus.JournalFull own)
    | inr cut ↦ inr (cut_behind cut.0, subst (λ h. LacksRoom header h cut.0.next) (append_assoc past done cut.0.done) cut.1, up_behind cut.0.done cut.2)
  ]
  ends_behind (Err venus.DiskFault) e = (cut_behind e.0, e.1, subst (λ h. StandsFor (told new.journal.disk) header (journal_by h) (Some (payload_by e.0.next))) (append_assoc past done e.0.done) e.2)
  ends_behind (Err (venus.Need fid)) e = own_behind (venus.Need fid) e
  ends_behind (Err venus.Down) e = absurd e
  ends_behind (Err (venus.TooBig n)) e = own_behind (venus.TooBig n) e
  ends_behind (Err venus.NotFound) e = own_behind venus.NotFound e
  ends_behind (Err venus.NotDir) e = own_behind venus.NotDir e
  ends_behind (Err venus.Exists) e = own_behind venus.Exists e
  ends_behind (Err venus.IsDir) e = own_behind venus.IsDir e
  ends_behind (Err venus.NotFile) e = own_behind venus.NotFile e
  ends_behind (Err venus.NotEmpty) e = own_behind venus.NotEmpty e
  ends_behind (Err venus.Loop) e = own_behind venus.Loop e
  ends_behind (Err venus.LogFull) e = own_behind venus.LogFull e
  ends_behind (Err (venus.Frozen n h)) e = own_behind (venus.Frozen n h) e
  ends_behind (Err venus.Nothing) e = own_behind venus.Nothing e
  ends_behind (Err (venus.Young a w)) e = own_behind (venus.Young a w) e
  ends_behind (Err (venus.NotFrozen n)) e = own_behind (venus.NotFrozen n) e
  ends_behind (Err (venus.WrongNumber k n)) e = own_behind (venus.WrongNumber k n) e

-- ---- what payloads leave

state_behind : (header : Header) (history payloads : List Payload) → state_of header (history ++ payloads) ≡ after_payloads (state_of header history) payloads
state_behind header history [] = ap (state_of header) (append-nil history)
state_behind header history (payload ∷ payloads) =
    ap (state_of header) (sym (append_assoc history (payload ∷ []) payloads)) ∙ state_behind header (history ++ payload ∷ []) payloads
    ∙ ap (λ c. after_payloads c payloads) (left_push venus_after_all (new_venus header.number header.cache) history payload)

-- ---- a call

module _ {D A R : Type 0} (told : D → Told) (header : Header) (offers : Option Nodes) (call : Call A R) (IsAs : Reply → R → Type 0) (answer : Answering) (does : AnswersAs offers call IsAs answer) where
  -- a call ends as the answer of the client of a cell tells
  pub whole : (history : List ClientEntry) (new : Venus D) (result : Result R VenusRefused) → IsClientHistory header history → Answered told header offers call (journal_by history) new result
      → (let a = answer [] (client_of header.number history header.cache) in Ends told header history a.entries a.said IsAs new result)
  whole history new result lawful asked =
      let c = client_of header.number history header.cache in
      let d = state_of header (journal_by history) in
      let first : IsPair c d = record { one = journals_leave_clients header history lawful; orphans = no_orphans header (journal_by history) lawful.journal } in
      let b : IsBehind answer [] c d asked.fids asked.payloads = fetched offers call IsAs answer does [] c d asked.fids asked.payloads first asked.fetches in
      let past = history ++ b.entries in
      let journal : journal_by past ≡ journal_by history ++ asked.payloads = map-append payload_by history b.entries ∙ ap (λ l. journal_by history ++ l) (sym b.kept) in
      let cell_is : client_of header.number past header.cache ≡ client_after_all c b.entries = client_after_both (new_client header.number header.cache) history b.entries in
      let disk_is : state_of header (journal_by past) ≡ after_payloads d asked.payloads = ap (state_of header) journal ∙ state_behind header (journal_by history) asked.payloads in
      let pair : IsPair (client_of header.number past header.cache) (state_of header (journal_by past)) =
      subst (λ x. IsPair x (state_of header (journal_by past))) (sym cell_is) (subst (λ y. IsPair (client_after_all c b.entries) y) (sym disk_is) b.pair)
      in
      let last = answer asked.fids (client_after_all c b.entries) in
      let so : EndsSo told header offers call (journal_by past) asked.fids new result = subst (λ l. EndsSo told header offers call l asked.fids new result) (sym journal) asked.ends in
      let then_ : Ends told header past last.entries last.said IsAs new result =
      subst (λ x. Ends told header past (answer asked.fids x).entries (answer asked.fids x).said IsAs new result) cell_is (ends offers call IsAs answer does told header past asked.fids new pair result so)
      in
      subst (λ (a : Answer). Ends told header history a.entries a.said IsAs new result) (sym b.is) (ends_behind told header history b.entries last.entries last.said IsAs new result then_)
