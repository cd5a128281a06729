-- What the verdict of a replay says of its records.
use Rattle.std.specs.Prelude.{◌≡◌, ℕ, Some, None, Ok, Err, List, ◌∷◌, ◌++◌}
use Rattle.coda_fid.specs.declared.op.Record.{Record}
use Rattle.coda_tree.specs.Volume.{Nodes}
use Rattle.coda_certify.specs.declared.reason.Reason.{Reason}
use Rattle.coda_certify.specs.Checks.{certify}
use Rattle.coda_certify.specs.Replay.{replay}

-- a record of the list is refused for this reason, once all records before it were applied
pub record IsFirstRefused (m : Nodes) (client : ℕ) (recs : List Record) (number : ℕ) (why : Reason) : Type 0 where
  pub front : List Record
  pub refused : Record
  pub back : List Record
  pub before : Nodes
  pub splits : recs ≡ front ++ refused ∷ back
  pub applies : replay m client front ≡ Ok before
  pub refuses : certify before refused.op ≡ Some why
  pub numbered : number ≡ refused.number

-- a conflict names the first record that certification refuses after those before it, and the reason
abbrev pub ConflictsNameTheFirstRefused : Type 0
ConflictsNameTheFirstRefused = (m : Nodes) (client : ℕ) (recs : List Record) (number : ℕ) (why : Reason) → replay m client recs ≡ Err (number, why) → IsFirstRefused m client recs number why

-- the records up to this one are applied, and this one is certified after them
pub record IsCertifiedAfter (m : Nodes) (client : ℕ) (front : List Record) (rec : Record) : Type 0 where
  pub before : Nodes
  pub applies : replay m client front ≡ Ok before
  pub certified : certify before rec.op ≡ None

-- where all records are applied, each is certified after those before it
abbrev pub AppliedRecordsAreCertified : Type 0
AppliedRecordsAreCertified = (m left : Nodes) (client : ℕ) (front : List Record) (rec : Record) (back : List Record) → replay m client (front ++ rec ∷ back) ≡ Ok left → IsCertifiedAfter m client front rec
