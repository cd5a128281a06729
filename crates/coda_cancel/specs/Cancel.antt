-- Adding an operation to a list of records, by cancellation.
use Rattle.std.specs.Prelude.{Bool, false, not, if◌then◌else◌, ◌&&◌, Option, Some, None, List, [], ◌∷◌, ◌++◌}
use Rattle.coda_fid.specs.declared.fid.Fid.{Fid}
use Rattle.coda_fid.specs.declared.op.Over.{Over}
use Rattle.coda_fid.specs.declared.op.Op.{Op}
use Rattle.coda_fid.specs.declared.op.Op.TheVariants.{Remove, Rmdir}
use Rattle.coda_fid.specs.declared.op.Record.{Record}
use Rattle.coda_fid.specs.Op.{carried}
use Rattle.coda_cancel.specs.Handing.{Debt, nothing, owe, paid, hand}
use Rattle.coda_cancel.specs.Dropping.{mentioning, creates, writes, drops}

-- ---- creations that are undone

-- whether an operation mentions the object, and is no Store or Setattr of it
abbrev pub is_other : Fid → Op → Bool
is_other fid op = mentioning fid op && not (writes fid op)

-- for each record that mentions the object, besides its Stores and Setattrs: whether it creates the object
abbrev pub others : Fid → List Record → List Bool
others fid [] = []
others fid (rec ∷ recs) = if is_other fid rec.op then creates fid rec.op ∷ others fid recs else others fid recs

-- true alone
abbrev pub is_true_alone : List Bool → Bool
is_true_alone [] = false
is_true_alone (first ∷ []) = first
is_true_alone (first ∷ second ∷ rest) = false

-- whether the list creates the object, and no other record mentions it, besides its Stores and Setattrs
abbrev pub is_undone : Fid → List Record → Bool
is_undone fid recs = is_true_alone (others fid recs)

-- whether the operation removes an object whose creation it undoes
abbrev pub cancels : Op → List Record → Bool
cancels (Remove dir name fid pre) recs = is_undone fid recs
cancels (Rmdir dir name fid pre) recs = is_undone fid recs
cancels _ recs = false

-- the records that don't mention the object
abbrev pub without : Fid → List Record → List Record
without fid [] = []
without fid (rec ∷ recs) = if mentioning fid rec.op then without fid recs else rec ∷ without fid recs

-- ---- dropping with handing on

-- the records that are not dropped, each with what it is owed
abbrev pub kept : (Op → Bool) → Debt → List Record → List Record
kept dropped owed [] = []
kept dropped owed (rec ∷ recs) =
    if dropped rec.op
    then kept dropped (owe owed (carried rec.op)) recs
    else hand owed rec ∷ kept dropped (paid owed (carried rec.op)) recs

-- what is still owed behind the records
abbrev pub debt : (Op → Bool) → Debt → List Record → Debt
debt dropped owed [] = owed
debt dropped owed (rec ∷ recs) =
    if dropped rec.op
    then debt dropped (owe owed (carried rec.op)) recs
    else debt dropped (paid owed (carried rec.op)) recs

-- ---- the step and the fold

-- the object for which an operation carries a version
abbrev pub object : Option Over → Fid
object None = record { volume = 0; vnode = 0; uniq = 0 }
object (Some over) = over.fid

-- what is not dropped by the record, and then the record
abbrev pub appended : List Record → Record → List Record
appended recs rec = kept (drops rec.op) nothing recs ++ hand (debt (drops rec.op) nothing recs) rec ∷ []

-- the list after an operation: a removal that undoes a creation leaves nothing that mentions the object, and any other drops what it makes needless and stands at the end
abbrev pub add : List Record → Record → List Record
add recs rec = if cancels rec.op recs then without (object (carried rec.op)) recs else appended recs rec

-- the list after operations in turn
abbrev pub added : List Record → List Record → List Record
added recs [] = recs
added recs (rec ∷ run) = added (add recs rec) run

-- what is left of a run of operations
abbrev pub fold : List Record → List Record
fold run = added [] run
