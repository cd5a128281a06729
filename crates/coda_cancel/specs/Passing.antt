-- How the code hands a version on: one object at a time, along the list, before it takes the dropped records out.
use Rattle.std.specs.Prelude.{Bool, if◌then◌else◌, Option, None, List, [], ◌∷◌}
use Rattle.coda_fid.specs.declared.fid.Fid.{Fid}
use Rattle.coda_fid.specs.declared.fid.Sid.{Sid}
use Rattle.coda_fid.specs.declared.op.Op.{Op}
use Rattle.coda_fid.specs.declared.op.Record.{Record}
use Rattle.coda_fid.specs.Fid.{same_fid}
use Rattle.coda_fid.specs.Op.{carried}
use Rattle.coda_cancel.specs.Handing.{Debt, owe, paid, hand}
use Rattle.coda_cancel.specs.Dropping.{mentioning, drops}
use Rattle.coda_cancel.specs.Cancel.{object}

-- a version is owed for this object, if at all
abbrev pub owed_to : Fid → Option Sid → Debt
owed_to fid owed other = if same_fid other fid then owed else None

-- the record, with what it is owed unless it is dropped
abbrev pub passed : (Op → Bool) → Debt → Record → Record
passed dropped owed rec = if dropped rec.op then rec else hand owed rec

-- what is owed behind the record
abbrev pub owed_after : (Op → Bool) → Debt → Record → Debt
owed_after dropped owed rec = if dropped rec.op then owe owed (carried rec.op) else paid owed (carried rec.op)

-- all records, each with what it is owed unless it is dropped
abbrev pub handed : (Op → Bool) → Debt → List Record → List Record
handed dropped owed [] = []
handed dropped owed (rec ∷ recs) = passed dropped owed rec ∷ handed dropped (owed_after dropped owed rec) recs

-- the records that are not dropped
abbrev pub undropped : (Op → Bool) → List Record → List Record
undropped dropped [] = []
undropped dropped (rec ∷ recs) = if dropped rec.op then undropped dropped recs else rec ∷ undropped dropped recs

-- whether a record goes where an operation is added, by whether this one undoes a creation
abbrev pub goes : Bool → Op → Op → Bool
goes cancelled op earlier = if cancelled then mentioning (object (carried op)) earlier else drops op earlier

-- the added record alone, unless it undoes a creation
abbrev pub new_last : Bool → Record → List Record
new_last cancelled rec = if cancelled then [] else rec ∷ []
