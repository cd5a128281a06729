use Rattle.std.proofs.Common.{rules, arith, inl, inr, ◌≡◌, ◌≢◌, ◌⊎◌, ◌∙◌, ◌+◌, ◌≤◌, ◌++◌, ℕ, List, false, length, take, drop, ap, sym}
use Rattle.std.proofs.lemmas.List.{drop-drop}
use Rattle.coda_journal.proofs.ByPieces.{next_piece}
use Rattle.coda_journal.proofs.pieces.read_piece.Goals.{then-len-count, else-len-count}
use Rattle.coda_journal.proofs.pieces.read_piece.Goals as goal

pub returns-clause-first : goal.returns-clause-first
returns-clause-first g c = λ h was.
    let seen = (g.D.Disk.told c.args.disk.now).seen in
    let disk = drop c.args.start seen in
    let area = c.args.area in
    let old = c.args.bytes.now.items in
    let n = c.len-done.result in
    let count = c.min-count.result in
    let piece = c.in_ok-piece.piece.items in
    let long : n ≡ length old = search rules in
    let le : n + count ≤ area = omega (arith, c.min-count.ensures, c.requires.inside, c.len-done.ensures) in
    let front : old ≡ take n (take area disk) = was ∙ ap (λ (k : ℕ). take k (take area disk)) (sym c.len-done.ensures) in
    let read : piece ≡ take count (drop n disk) = c.in_ok-piece.ensures.bytes h ∙ ap (λ (l : List ℕ). take count l) (ap (λ (k : ℕ). drop k seen) (omega arith) ∙ sym (drop-drop n c.args.start seen)) in
    let is : c.extend_from_slice.new.self.items ≡ old ++ piece = c.in_ok-extend_from_slice.ensures.items ∙ ap (λ (l : List ℕ). old ++ l) c.deref.ensures.value in
    let size : c.len.result ≡ length piece = search rules in
    let ends : c.if-len-count.result ≡ false → (length piece ≢ count) ⊎ (area ≤ n + count) = λ e. elim c.if-len-count.branch [
      | then-len-count w ↦ let past : area ≤ n + count = search rules in inr past
      | else-len-count w ↦ inl (λ same. let other : c.len.result ≢ count = search rules in other (size ∙ same))
    ] in
    next_piece disk area n count old piece c.extend_from_slice.new.self.items long le front read is c.if-len-count.result ends
