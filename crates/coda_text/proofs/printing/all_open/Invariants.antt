use Rattle.std.proofs.Common.{◌≡◌, drop}
use Rattle.std.specs.List.{list_all}
use Rattle.coda_text.specs.Texts.{is_open_byte}
use Rattle.coda_text.proofs.printing.all_open.Given as goal

abbrev pub invariant-loop-byte : goal.invariant-loop-byte
invariant-loop-byte l = list_all is_open_byte l.bytes ≡ list_all is_open_byte (drop l.byte-index l.bytes)
