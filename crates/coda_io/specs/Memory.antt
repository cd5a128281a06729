-- A source and a sink in memory, which fail at the calls that they were told to fail at.
use Rattle.std.specs.Prelude.{ℕ, List, ◌++◌, drop}
use Rattle.coda_io.specs.Faults.{counted}

-- a source: the bytes that are left, the numbers of the calls that fail, the calls made so far, and the faults among them
pub record Supply : Type 0 where
  pub left : List ℕ
  pub failing : List ℕ
  pub calls : ℕ
  pub faults : ℕ

-- a sink: the bytes that it holds, the numbers of the calls that fail, the calls made so far, and the faults among them
pub record Store : Type 0 where
  pub held : List ℕ
  pub failing : List ℕ
  pub calls : ℕ
  pub faults : ℕ

-- no call was made yet
abbrev pub supply_of : List ℕ → List ℕ → Supply
supply_of bytes failing = record { left = bytes; failing = failing; calls = 0; faults = 0 }

-- a call that gave so many bytes
abbrev pub after_read : ℕ → Supply → Supply
after_read count s = record { left = drop count s.left; failing = s.failing; calls = counted s.calls; faults = s.faults }

-- a call that gave nothing, and was counted as a fault
abbrev pub after_read_fault : Supply → Supply
after_read_fault s = record { left = s.left; failing = s.failing; calls = counted s.calls; faults = counted s.faults }

-- no call was made yet
abbrev pub store_of : List ℕ → List ℕ → Store
store_of bytes failing = record { held = bytes; failing = failing; calls = 0; faults = 0 }

-- a call that took these bytes
abbrev pub after_write : List ℕ → Store → Store
after_write bytes s = record { held = s.held ++ bytes; failing = s.failing; calls = counted s.calls; faults = s.faults }

-- a call that took nothing, and was counted as a fault
abbrev pub after_write_fault : Store → Store
after_write_fault s = record { held = s.held; failing = s.failing; calls = counted s.calls; faults = counted s.faults }
