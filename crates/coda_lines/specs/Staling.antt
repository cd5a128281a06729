-- Which copies of a client a settlement leaves valid.
use Rattle.std.specs.Prelude.{◌≡◌, ℕ, true, false, Some, None, [], ◌∷◌}
use Rattle.coda_fid.specs.declared.fid.Fid.{Fid}
use Rattle.coda_cancel.specs.Dropping.{mentioning}
use Rattle.coda_certify.specs.declared.verdict.Verdict.{Verdict}
use Rattle.coda_certify.specs.declared.verdict.Verdict.TheVariants.{Applied, Conflict}
use Rattle.coda_certify.specs.declared.reason.Reason.{Reason}
use Rattle.coda_cml.specs.Steady.{any_record}
use Rattle.coda_plain.specs.Cell.{Did}
use Rattle.coda_plain.specs.Deeds.{Settled}
use Rattle.coda_cell.specs.State.{ClientState, CellState, at_client, after_all, log_of}
use Rattle.coda_lines.specs.Lines.{with_stale}

-- a cell behind the settlement of a client's chunk, with what becomes stale by it
abbrev pub settled_in : CellState → ℕ → ℕ → ℕ → Verdict → CellState
settled_in s number volume chunk verdict =
    after_all s (with_stale s (at_client number (Did volume (Settled chunk verdict)) ∷ []))

-- Behind the settlement of a chunk that was applied a client has no valid copy of what the chunk mentioned, and each
-- other copy that it had; and behind that of a chunk that met a conflict it has each copy that it had.
pub record AppliedChunksLeaveNoCopies : Type 0 where
  pub mentioned : (s : CellState) (number volume chunk : ℕ) (c : ClientState) (f : Fid) → s.clients number ≡ Some c
      → any_record (mentioning f) (log_of (c.volumes volume)).chunk ≡ true
      → (settled_in s number volume chunk Applied).copies number f ≡ None
  pub others : (s : CellState) (number volume chunk : ℕ) (c : ClientState) (f : Fid) → s.clients number ≡ Some c
      → any_record (mentioning f) (log_of (c.volumes volume)).chunk ≡ false
      → (settled_in s number volume chunk Applied).copies number f ≡ s.copies number f
  pub conflicts : (s : CellState) (number volume chunk record_number : ℕ) (why : Reason) (f : Fid)
      → (settled_in s number volume chunk (Conflict record_number why)).copies number f ≡ s.copies number f
