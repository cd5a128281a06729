-- What a machine and a reader keep between two bytes.
use Rattle.coda_engine.specs.Reading.{Place}
use Rattle.coda_engine.specs.declared.reader.Reader.{Reader}

-- the state of the machine beside what the reader keeps
abbrev pub place : {M : Type 0} → M → Reader → Place M
place machine reader = record { state = machine; pending = reader.pending.items; lines = reader.lines; bytes = reader.bytes }
