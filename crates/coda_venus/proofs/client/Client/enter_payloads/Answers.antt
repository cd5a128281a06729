use Rattle.std.proofs.Common.{rules, ap, sym, subst, ◌∙◌, ◌≡◌, ◌+◌, ◌^◌, ◌-◌, min, List, ℕ, suc, length, take, drop}
use Rattle.std.specs.Int.{w32}
use Rattle.coda_journal.specs.Entries.{blocks}
use Rattle.coda_venus.specs.History.{state_of}
use Rattle.coda_venus.specs.Entering.{AreEntered, IsUnfit, Enters}
use Rattle.coda_venus.proofs.Reading.{entered_push, breaks_at, place_push, one_more, parted, foreign_place}
use Rattle.coda_venus.proofs.client.Client.enter_payloads.Goals as goal

pub returns-in-Err-Misfit-clause-breaks : goal.returns-in-Err-Misfit-clause-breaks
returns-in-Err-Misfit-clause-breaks c = λ header at fresh e.
    let i = c.loop-payload.payload-index in
    let payloads = c.args.payloads.now in
    let payload = c.payload-item.result in
    let are = c.loop-payload.invariant.0 header fresh in
    let s = state_of header are.history in
    let unfit : IsUnfit s payload = subst (IsUnfit s) c.bytes.ensures (c.in-Err-Misfit.ensures.misfit s are.leaves (search rules)) in
    breaks_at header (take i payloads) payload (drop (suc i) payloads) c.loop-payload.self c.args.start at are unfit (sym (foreign_place c.loop-payload.place at e) ∙ c.loop-payload.invariant.1)
    payloads (parted payloads i payload c.loop-payload-test.true c.payload-item.is)

pub loop-payload-preserved : goal.loop-payload-preserved
loop-payload-preserved c =
    let i = c.loop-payload.payload-index in
    let payloads = c.args.payloads.now in
    let payload = c.payload-item.result in
    let more = one_more payloads i payload c.loop-payload-test.true c.payload-item.is in
    let place : c.saturating_add-place.result ≡ min (c.loop-payload.place + (5 + length payload)) (2 ^ 64 - 1) = c.saturating_add-place.ensures ∙ ap (λ (n : ℕ). min (c.loop-payload.place + (5 + n)) (2 ^ 64 - 1)) c.len.ensures.count in (
      λ header fresh.
          let are = c.loop-payload.invariant.0 header fresh in
          let s = state_of header are.history in
          subst (λ (ps : List (List ℕ)). AreEntered header ps c.enter_payload.new.self) (sym more)
          (entered_push header (take i payloads) payload c.loop-payload.self c.enter_payload.new.self are (subst (λ (p : List ℕ). Enters s p c.enter_payload.new.self) c.bytes.ensures (c.in-Ok.ensures.ok s are.leaves))),
      place ∙ place_push c.args.start c.loop-payload.place (take i payloads) payload c.loop-payload.invariant.1 ∙ sym (ap (λ (ps : List (List ℕ)). min (c.args.start + length (blocks w32 ps)) (2 ^ 64 - 1)) more),
    )
