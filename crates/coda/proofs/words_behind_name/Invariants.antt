use Rattle.std.proofs.Common.{◌≡◌, ◌++◌, drop}
use Rattle.std.specs.Vec.Iter.{into_iter_items}
use Rattle.coda.proofs.words_behind_name.Given as goal

-- the words taken, and those to come, are those behind the first
abbrev pub invariant-loop-word : goal.invariant-loop-word
invariant-loop-word l = l.words.items ++ into_iter_items l.word-iterator ≡ drop 1 (into_iter_items l.fn.args)
