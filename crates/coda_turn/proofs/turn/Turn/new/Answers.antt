use Rattle.std.proofs.Common.{rules, arith, ◌≡◌, ◌*◌, ◌%◌, ◌^◌, List, ◌∷◌, [], Option, Some, false, ap, sym, subst}
use Rattle.std.specs.Prelude.{length}
use Rattle.atomic_table.specs.Table.{opening}
use Rattle.coda_turn.specs.Rule.{OneHistory, newcomer, word_of}
use Rattle.coda_turn.proofs.Moves.{begins}
use Rattle.coda_turn.proofs.turn.Turn.new.Goals as goal

pub new-requires : goal.new-requires
new-requires g c =
    let state = c.of-begun.result.value in
    let log = g.S.Book.entries state in
    let word : c.length-word.result * 2 % 2 ^ 64 ≡ word_of false log = omega (arith, c.length-word.ensures, ap g.S.Book.entries c.of-begun.ensures, ap (λ s. length (g.S.Book.entries s)) c.of-begun.ensures) in
    let slots : c.push_reserved.new.self.items ≡ Some state ∷ [] = search rules in
    subst (λ (xs : List (Option g.row.S.Denot)). OneHistory g.S.Book.opening g.S.Book.entries state (opening (c.length-word.result * 2 % 2 ^ 64 ∷ []) xs (newcomer (g.S.Book.opening state) log))) (sym slots) (begins g.S.Book.opening g.S.Book.entries state _ word)
