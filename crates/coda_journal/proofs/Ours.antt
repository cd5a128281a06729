-- Disks that journals with one header alone wrote to.
use Rattle.std.proofs.Common.{inl, inr, ℕ, List, [], ◌∷◌, ◌++◌, sym, subst}
use Rattle.std.specs.Prelude.{Some}
use Rattle.coda_disk.specs.Told.{Told}
use Rattle.coda_disk.specs.Bays.{Crashed}
use Rattle.coda_journal.specs.Image.{Reads, ReadsAs}
use Rattle.coda_journal.specs.declared.header.Header.{Header}
use Rattle.coda_journal.specs.Open.{IsOpen, MayBe, Stands, IsOurs}

pub at_rest_ours : (told : Told) (header : Header) (start used area : ℕ) (payloads : List (List ℕ)) → IsOpen told header start used area payloads → IsOurs header told
at_rest_ours told header start used area payloads o c now = (payloads, inr (subst (λ (l : List ℕ). Reads header l payloads) (sym (o.durable c now)) o.reads))

pub failed_ours : (told : Told) (header : Header) (payloads : List (List ℕ)) (entry : List ℕ) → Stands told header payloads (Some entry) → IsOurs header told
failed_ours told header payloads entry s c now = from (s.each c now)
  where
    from : MayBe header payloads (Some entry) c → (list : List (List ℕ)) × ReadsAs header list c
    from (inl before) = (payloads, before)
    from (inr after) = (payloads ++ entry ∷ [], after)

pub crashed_ours : (old new : Told) (header : Header) (image : List ℕ) → IsOurs header old → Crashed image old new → IsOurs header new
crashed_ours old new header image ours crashed c now = subst (λ (l : List ℕ). (list : List (List ℕ)) × ReadsAs header list l) (sym (crashed.only c now)) (ours image crashed.allowed)
