use Rattle.std.proofs.Common.{rules, arith, ◌≡◌, List, [], ◌∷◌, ◌++◌, length, ℕ, subst, get_or, drop, ◌+◌, ap}
use Rattle.std.proofs.lemmas.List.{take_rest}
use Rattle.coda_journal.specs.Entries.{body}
use Rattle.std.specs.Int.{w32}
use Rattle.coda_journal.proofs.ReadTo.{next}
use Rattle.coda_journal.proofs.entries.read_on.Goals as goal

pub loop-entries-preserved : goal.loop-entries-preserved
loop-entries-preserved c =
    let area = c.args.bytes.now in
    let used = c.loop-entries.entries.used in
    let p = c.in-Some.payload.now in
    let opened : get_or area used 0 ≡ 1 = search rules in
    let found = subst (λ (l : List ℕ). l ≡ body w32 p ++ drop (4 + length p) l) (take_rest area (used + 1)) c.in-Some.ensures.found in
    let so = next w32 area used c.loop-entries.entries.payloads.items c.loop-entries.invariant p 4 (omega (arith, c.loop-entries-test.true)) opened found (omega (arith, c.in-Some.ensures.inside, ap length (take_rest area (used + 1)))) in
    let is : c.push.new.self.items ≡ c.loop-entries.entries.payloads.items ++ p ∷ [] = search rules in
    let long : c.len-length.result ≡ length p = search rules in
    search rules
