use Rattle.std.proofs.Common.{◌≡◌, ◌++◌, take}
use Rattle.std.specs.List.{flat_map}
use Rattle.std.specs.Prelude.{string_bytes}
use Rattle.coda_report.specs.Texts.{arg_text}
use Rattle.coda_report.proofs.replies.put_args.Given as goal

abbrev pub invariant-loop-arg : goal.invariant-loop-arg
invariant-loop-arg l = string_bytes l.out ≡ string_bytes l.initial.out ++ flat_map arg_text (take l.arg-index l.args)
