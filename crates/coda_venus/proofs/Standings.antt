-- Disks on which clients with one header alone wrote.
use Rattle.std.proofs.Common.{ℕ, List, [], ◌∷◌, ◌++◌, inl, inr, sym, subst}
use Rattle.std.specs.Prelude.{Some}
use Rattle.coda_disk.specs.Told.{Told}
use Rattle.coda_disk.specs.Bays.{Crashed}
use Rattle.coda_journal.specs.Image.{Reads, ReadsAs}
use Rattle.coda_journal.specs.Open.{MayBe}
use Rattle.coda_journal.specs.declared.header.Header.{Header}
use Rattle.coda_venus.specs.History.{Payload, payload_of, payloads_of}
use Rattle.coda_venus.specs.Standing.{IsUp, StandsFor, ReadsAsHistory, IsClientDisk}
use Rattle.coda_venus.specs.declared.venus.Venus.{Venus}
use Rattle.coda_venus.proofs.Growing.{payloads_push, history_push}

pub up_ours : {D : Type 0} (told : D → Told) (header : Header) (venus : Venus D) (history : List Payload) → IsUp told header venus history → IsClientDisk header (told venus.journal.disk)
up_ours told header venus history up image may =
    (history, (up.lawful, inr (subst (λ (c : List ℕ). Reads header c (payloads_of history)) (sym (up.journal.durable image may)) up.journal.reads)))

pub failed_ours : (told : Told) (header : Header) (history : List Payload) (payload : Payload) → StandsFor told header history (Some payload) → IsClientDisk header told
failed_ours told header history payload s image may = by (s.images.each image may)
  where
    by : MayBe header (payloads_of history) (Some (payload_of payload)) image → (h : List Payload) × ReadsAsHistory header image h
    by (inl before) = (history, (s.lawful, before))
    by (inr after) = (history ++ payload ∷ [], (history_push header history payload s.lawful s.next, subst (λ (ps : List (List ℕ)). ReadsAs header ps image) (sym (payloads_push history payload)) after))

pub crashed_ours : (old new : Told) (header : Header) (image : List ℕ) → IsClientDisk header old → Crashed image old new → IsClientDisk header new
crashed_ours old new header image ours crashed c may = subst (λ (l : List ℕ). (h : List Payload) × ReadsAsHistory header l h) (sym (crashed.only c may)) (ours image crashed.allowed)
