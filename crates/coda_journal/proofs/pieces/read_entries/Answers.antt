use Rattle.std.proofs.Common.{rules, ap, subst, List, ℕ, take, drop}
use Rattle.std.specs.Int.{w32}
use Rattle.std.specs.Prelude.{Ok}
use Rattle.coda_journal.specs.Entries.{Holds}
use Rattle.coda_journal.specs.Reading.{IsFirst}
use Rattle.coda_journal.proofs.ByPieces.{holds_further}
use Rattle.coda_journal.proofs.pieces.read_entries.Goals as goal

pub returns-then-branch-clause-entries : goal.returns-then-branch-clause-entries
returns-then-branch-clause-entries g c = λ h.
    let area = take c.args.area (drop c.args.start (g.D.Disk.told c.args.disk.now).seen) in
    let bytes = c.read_piece.new.bytes.items in
    let payloads = c.read_on.new.entries.payloads.items in
    let first : IsFirst area bytes c.in_ok-more.more = search rules in
    let holds : Holds w32 bytes payloads = subst (λ (l : List ℕ). Holds w32 l payloads) c.deref.ensures.value (c.in_ok-read_on.ensures.closed (ap Ok c.if-branch.true)).0 in
    holds_further w32 bytes area payloads first.front holds
