use Rattle.std.proofs.Common.{rules, List, ℕ, ◌≡◌, ◌<◌, ◌≤◌, ◌∙◌, ap, get_or, length, refl, subst, sym, arith, true}
use Rattle.std.proofs.lemmas.List.{take_all}
use Rattle.coda_disk.specs.Memory.{fresh, state_of, is_inside}
use Rattle.coda_disk.specs.Images.{crashed_calls}
use Rattle.coda_disk.specs.declared.calls.Call.{Call}
use Rattle.coda_disk.proofs.Puts.{crashed_more, next_inside, kept_may, crashed_may}
use Rattle.coda_disk.proofs.memory.MemDisk.image.Goals as goal

pub returns-then-choice-eq0-clause-allowed : goal.returns-then-choice-eq0-clause-allowed
returns-then-choice-eq0-clause-allowed c =
    let disk = c.args.self.now in
    let same : c.in_ok-image.image.items ≡ disk.synced.items = search rules in
    subst (state_of disk.synced.items disk.calls.items).may_leave (sym same) (kept_may (fresh disk.synced.items) disk.synced.items disk.calls.items refl)

pub loop-call-init : goal.loop-call-init
loop-call-init c = search rules

pub crash_call-requires : goal.crash_call-requires
crash_call-requires c =
    let disk = c.args.self.now in
    let same = c.as_slice-call-items.ensures.value in
    let lt : c.loop-call.call-index < length disk.calls.items = omega (arith, ap length same) in
    let is = c.call-item.is ∙ ap (λ (l : List Call). get_or l c.loop-call.call-index c.call-item.result) same in
    subst (λ (l : List ℕ). is_inside l c.call-item.result ≡ true) (sym c.loop-call.invariant)
    (next_inside c.args.choice disk.synced.items disk.calls.items c.loop-call.call-index c.call-item.result lt is disk.inside)

pub loop-call-preserved : goal.loop-call-preserved
loop-call-preserved c =
    let calls = c.args.self.now.calls.items in
    let same = c.as_slice-call-items.ensures.value in
    let lt : c.loop-call.call-index < length calls = omega (arith, ap length same) in
    let is = c.call-item.is ∙ ap (λ (l : List Call). get_or l c.loop-call.call-index c.call-item.result) same in
    crashed_more c.args.choice c.args.self.now.synced.items _ _ calls c.loop-call.call-index c.call-item.result lt is c.loop-call.invariant c.in_ok-crash_call.ensures

pub returns-clause-allowed : goal.returns-clause-allowed
returns-clause-allowed c =
    let disk = c.args.self.now in
    let same = c.as_slice-call-items.ensures.value in
    let past : length disk.calls.items ≤ c.loop-call.call-index = omega (arith, ap length same) in
    let all = c.loop-call.invariant ∙ ap (λ (l : List Call). crashed_calls c.args.choice disk.synced.items l) (take_all c.loop-call.call-index disk.calls.items past) in
    subst (state_of disk.synced.items disk.calls.items).may_leave (sym all)
    (crashed_may c.args.choice (fresh disk.synced.items) disk.synced.items disk.calls.items disk.inside (omega arith) refl).0
