-- What holds of all runs.
use Rattle.std.specs.Prelude.{◌≡◌, ◌≢◌, ◌↔◌, ℕ, None, Ok, Err, List, [], ◌∷◌, ◌++◌}
use Rattle.coda_fid.specs.declared.fid.Fid.{Fid}
use Rattle.coda_fid.specs.declared.op.Record.{Record}
use Rattle.coda_tree.specs.Volume.{Nodes, IsVolume}
use Rattle.coda_certify.specs.declared.reason.Reason.{Reason}
use Rattle.coda_certify.specs.Checks.{certify}
use Rattle.coda_certify.specs.Replay.{applied, replay}
use Rattle.coda_cancel.specs.Cancel.{add, added, fold}
use Rattle.coda_cancel.specs.Numbers.{AreUpTo, AreAbove, IsRising}
use Rattle.coda_cml.specs.Steady.{IsSteady, IsFresh, RemovesEmpty}
use Rattle.coda_cml.specs.Segments.{IsCut, records_upto}

-- the records of the back of a steady run, added to those of its front, are those of the whole
abbrev pub ThawIsTheFold : Type 0
ThawIsTheFold = (front back : List Record) → IsSteady (front ++ back) → added (fold front) (fold back) ≡ fold (front ++ back)

-- where a run may be cut, the records up to there are those of its front alone
abbrev pub SegmentsAreTheirFolds : Type 0
SegmentsAreTheirFolds = (number : ℕ) (front back : List Record) → AreUpTo number front → AreAbove number back → IsCut number [] (front ++ back) → records_upto number (fold (front ++ back)) ≡ fold front

-- where a steady run may be cut, what is left of it is what is left of its front alone, and then what is left of its back alone
abbrev pub CutsPartTheFold : Type 0
CutsPartTheFold = (number : ℕ) (front back : List Record) → IsSteady (front ++ back) → AreUpTo number front → AreAbove number back → IsCut number [] (front ++ back) → fold (front ++ back) ≡ fold front ++ fold back

-- a steady run may be cut exactly where its front and its back may be, and where, as the records of the back are added to those of the front, they join nothing across that number
abbrev pub ThawHasTheSegments : Type 0
ThawHasTheSegments = (number : ℕ) (front back : List Record) → IsSteady (front ++ back) → IsRising (front ++ back) → IsCut number [] (front ++ back) ↔ (IsCut number [] front × IsCut number [] back × IsCut number (fold front) (fold back))

-- the back of a steady run is steady
abbrev pub RestIsSteady : Type 0
RestIsSteady = (front rest : List Record) → IsSteady (front ++ rest) → IsSteady rest

-- a steady run stays steady with one more operation, where this creates nothing that the run mentions, and removes nothing in which something is left that the run created there
abbrev pub OperationsKeepSteady : Type 0
OperationsKeepSteady = (run : List Record) (rec : Record) → IsSteady run → IsFresh rec.op run → RemovesEmpty rec.op run → IsSteady (run ++ rec ∷ [])

-- where a run of operations is applied to a volume, so is what cancellation leaves of it, and it leaves the same volume
abbrev pub CancellationIsSound : Type 0
CancellationIsSound = (root : Fid) (m left : Nodes) (client : ℕ) (run : List Record) → IsVolume root m → replay m client run ≡ Ok left → replay m client (fold run) ≡ Ok left

-- where records are applied to a volume, and one more operation is certified after them, the records with this one added are applied, and leave what the operation leaves
abbrev pub AdditionsAreSound : Type 0
AdditionsAreSound = (root : Fid) (m before : Nodes) (client : ℕ) (recs : List Record) (rec : Record) → IsVolume root m → replay m client recs ≡ Ok before → certify before rec.op ≡ None → replay m client (add recs rec) ≡ Ok (applied before client rec)

-- where what cancellation leaves of a run is refused, the whole run is not applied either
abbrev pub ConflictsOfFoldsAreReal : Type 0
ConflictsOfFoldsAreReal = (root : Fid) (m left : Nodes) (client : ℕ) (run : List Record) (number : ℕ) (why : Reason) → IsVolume root m → replay m client (fold run) ≡ Err (number, why) → replay m client run ≢ Ok left
