use Rattle.std.proofs.Common.{◌≡◌, ◌++◌, ◌-◌}
use Rattle.std.specs.Prelude.{string_bytes}
use Rattle.coda_gen.specs.Generated.{generated, lines_text}
use Rattle.coda_gen.proofs.generator.put_generated.Given as goal

-- what is put, and the lines that are left
abbrev pub invariant-loop-index : goal.invariant-loop-index
invariant-loop-index l = string_bytes l.out ++ lines_text (generated (l.count - l._index) l.x) ≡ string_bytes l.fn.out ++ lines_text (generated l.count l.start)
