use Rattle.std.proofs.Common.{rules, ap, sym, subst, ◌∙◌, ◌≡◌, ◌+◌, ◌^◌, ◌-◌, min, List, ℕ, suc, length, take, drop}
use Rattle.std.specs.Int.{w32}
use Rattle.coda_journal.specs.Entries.{blocks}
use Rattle.coda_replica.specs.Entering.{AreEntered, IsUnfit, Enters}
use Rattle.coda_replica.proofs.Reading.{entered_push, breaks_at, place_push, one_more, parted, foreign_place}
use Rattle.coda_replica.proofs.recovery.enter_all.Goals as goal

pub returns-in-Err-Misfit-clause-breaks : goal.returns-in-Err-Misfit-clause-breaks
returns-in-Err-Misfit-clause-breaks c = λ header at fresh e.
    let i = c.loop-payload.payload-index in
    let payloads = c.args.payloads.now in
    let payload = c.payload-item.result in
    let unfit : IsUnfit c.loop-payload.decider payload = subst (IsUnfit c.loop-payload.decider) c.bytes.ensures (c.in-Err-Misfit.ensures.misfit (search rules)) in
    breaks_at header (take i payloads) payload (drop (suc i) payloads) c.loop-payload.decider c.args.start at (c.loop-payload.invariant.0 header fresh) unfit (sym (foreign_place c.loop-payload.place at e) ∙ c.loop-payload.invariant.1)
    payloads (parted payloads i payload c.loop-payload-test.true c.payload-item.is)

pub loop-payload-preserved : goal.loop-payload-preserved
loop-payload-preserved c =
    let i = c.loop-payload.payload-index in
    let payloads = c.args.payloads.now in
    let payload = c.payload-item.result in
    let more = one_more payloads i payload c.loop-payload-test.true c.payload-item.is in
    let place : c.saturating_add-place.result ≡ min (c.loop-payload.place + (5 + length payload)) (2 ^ 64 - 1) = c.saturating_add-place.ensures ∙ ap (λ (n : ℕ). min (c.loop-payload.place + (5 + n)) (2 ^ 64 - 1)) c.len.ensures.count in (
      λ header fresh. subst (λ (ps : List (List ℕ)). AreEntered header ps c.enter.new.decider) (sym more)
          (entered_push header (take i payloads) payload c.loop-payload.decider c.enter.new.decider (c.loop-payload.invariant.0 header fresh) (subst (λ (p : List ℕ). Enters c.loop-payload.decider p c.enter.new.decider) c.bytes.ensures c.in-Ok.ensures.ok)),
      place ∙ place_push c.args.start c.loop-payload.place (take i payloads) payload c.loop-payload.invariant.1 ∙ sym (ap (λ (ps : List (List ℕ)). min (c.args.start + length (blocks w32 ps)) (2 ^ 64 - 1)) more),
    )
