-- That cancellation leaves nothing needless.
use Rattle.std.specs.Prelude.{◌≡◌, true, false, List, [], ◌∷◌, ◌++◌}
use Rattle.coda_fid.specs.declared.fid.Fid.{Fid}
use Rattle.coda_fid.specs.declared.op.Op.{Op}
use Rattle.coda_fid.specs.declared.op.Op.TheVariants.{Create, Mkdir, Symlink, Remove, Rmdir}
use Rattle.coda_fid.specs.declared.op.Record.{Record}
use Rattle.coda_cancel.specs.Dropping.{mentioning, writes, drops}
use Rattle.coda_cancel.specs.Cancel.{added, fold}
use Rattle.coda_cml.specs.Steady.{any_record}

-- no record is made needless by a later one
abbrev pub IsLean : List Record → Type 0
IsLean [] = Unit {0}
IsLean (rec ∷ recs) = (any_record (λ later. drops later rec.op) recs ≡ false) × IsLean recs

-- nothing needless stays in what is left of a run
abbrev pub NothingNeedlessStays : Type 0
NothingNeedlessStays = (run : List Record) → IsLean (fold run)

-- the first operation creates the object, and the second removes it
abbrev pub IsMadeAndRemoved : Fid → Op → Op → Type 0
IsMadeAndRemoved fid (Create dir name made mode owner) (Remove home last gone pre) = (made ≡ fid) × (gone ≡ fid)
IsMadeAndRemoved fid (Symlink dir name made target mode owner) (Remove home last gone pre) = (made ≡ fid) × (gone ≡ fid)
IsMadeAndRemoved fid (Mkdir dir name made mode owner) (Rmdir home last gone pre) = (made ≡ fid) × (gone ≡ fid)
IsMadeAndRemoved fid _ _ = ⊥

-- the records store the object or set attributes of it
abbrev pub AreWritesOf : Fid → List Record → Type 0
AreWritesOf fid [] = Unit {0}
AreWritesOf fid (rec ∷ recs) = (writes fid rec.op ≡ true) × AreWritesOf fid recs

-- an object that is created, written any number of times and removed leaves nothing, where nothing before mentions it
abbrev pub TemporaryObjectsLeaveNothing : Type 0
TemporaryObjectsLeaveNothing =
    (fid : Fid) (recs between : List Record) (creation removal : Record) → any_record (mentioning fid) recs ≡ false → IsMadeAndRemoved fid creation.op removal.op → AreWritesOf fid between → added recs (creation ∷ (between ++ removal ∷ [])) ≡ recs
