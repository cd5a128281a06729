-- What a client did on one volume: its operations, chunks and settlements, and what is pending.
use Rattle.std.specs.Prelude.{◌≡◌, true, ℕ, ◌+◌, ◌<◌, ◌≤◌, ◌==◌, ◌⊎◌, if◌then◌else◌, Option, Some, None, List, [], ◌∷◌, ◌++◌}
use Rattle.coda_fid.specs.declared.fid.Fid.{Fid}
use Rattle.coda_fid.specs.declared.op.Op.{Op}
use Rattle.coda_fid.specs.declared.op.Op.TheVariants.{Create, Mkdir, Symlink, Store, Setattr, Remove, Rmdir, Rename}
use Rattle.coda_fid.specs.declared.op.Record.{Record}
use Rattle.coda_certify.specs.declared.verdict.Verdict.{Verdict}
use Rattle.coda_certify.specs.declared.verdict.Verdict.TheVariants.{Applied, Conflict}
use Rattle.coda_cancel.specs.Dropping.{creates}
use Rattle.coda_cml.specs.Steady.{IsFresh, RemovesEmpty}
use Rattle.coda_cml.specs.Segments.{IsCut, records_upto, records_above}
use Rattle.coda_plain.specs.Histories.{left_by, told, DoFollow}

-- an entry of a client's history, as one volume sees it
pub data Deed : Type 0 where
  -- an operation was accepted
  Operated : (rec : Record) → Deed
  -- a chunk was frozen for a server, up to the operation with the last number
  Froze : (number home last : ℕ) → Deed
  -- it was learned what became of a chunk
  Settled : (number : ℕ) (verdict : Verdict) → Deed
  -- the log was given up
  Gaveup : Deed

-- ---- the operations

-- the operation that an entry is
abbrev pub operation_in : Deed → List Record
operation_in (Operated rec) = rec ∷ []
operation_in (Froze number home last) = []
operation_in (Settled number verdict) = []
operation_in Gaveup = []

-- the operations that a client accepted, in order
abbrev pub full_of : List Deed → List Record
full_of [] = []
full_of (deed ∷ deeds) = operation_in deed ++ full_of deeds

-- how many objects an operation creates
abbrev pub created_by : Op → ℕ
created_by (Create dir name fid mode owner) = 1
created_by (Mkdir dir name fid mode owner) = 1
created_by (Symlink dir name fid target mode owner) = 1
created_by (Store fid pre content) = 0
created_by (Setattr fid pre attrs) = 0
created_by (Remove dir name fid pre) = 0
created_by (Rmdir dir name fid pre) = 0
created_by (Rename from_dir from to_dir to fid over) = 0

-- how many objects the operations create
abbrev pub created_in : List Record → ℕ
created_in [] = 0
created_in (rec ∷ recs) = created_by rec.op + created_in recs

-- the object is of the volume, and it is the root or its client created so many there
abbrev pub IsMade : ℕ → List Deed → Fid → Type 0
IsMade volume deeds fid = (fid.volume ≡ volume) × ((fid.vnode ≡ 0) ⊎ (fid.uniq ≤ created_in (full_of deeds)))

-- the object of this number among those that a client creates in a volume
pub record IsNumbered (volume client number : ℕ) (fid : Fid) : Type 0 where
  pub here : fid.volume ≡ volume
  pub own : fid.vnode ≡ client
  pub number_is : fid.uniq ≡ number

-- what the operations create has the client's numbers, one behind the other, after so many
abbrev pub AreNumberedFrom : ℕ → ℕ → ℕ → List Record → Type 0
AreNumberedFrom volume client before [] = Unit {0}
AreNumberedFrom volume client before (rec ∷ recs) =
    ((fid : Fid) → creates fid rec.op ≡ true → IsNumbered volume client (before + 1) fid) × AreNumberedFrom volume client (before + created_by rec.op) recs

-- a client numbers what it creates in a volume from 1 on
abbrev pub AreNumberedObjects : ℕ → ℕ → List Deed → Type 0
AreNumberedObjects volume client deeds = AreNumberedFrom volume client 0 (full_of deeds)

-- ---- the course of the volume

-- where a chunk goes, and the last operation in it
pub record Cut : Type 0 where
  pub home : ℕ
  pub last : ℕ

-- the number of the last operation; of the last operation that was applied or given up; of the last chunk; and the chunk
-- that is frozen, where there is one
pub record Course : Type 0 where
  pub operations : ℕ
  pub done : ℕ
  pub chunks : ℕ
  pub cut : Option Cut

abbrev pub no_course : Course
no_course = record { operations = 0; done = 0; chunks = 0; cut = None }

-- the last operation of the frozen chunk, where there is one
abbrev pub end_of : Option Cut → ℕ → ℕ
end_of None done = done
end_of (Some cut) done = cut.last

-- applied, the chunk's operations are done with, and a conflict leaves them
abbrev pub done_by : Verdict → Course → ℕ
done_by Applied course = end_of course.cut course.done
done_by (Conflict number why) course = course.done

abbrev pub course_after : Course → Deed → Course
course_after course (Operated rec) = record course { operations = rec.number }
course_after course (Froze number home last) = record course { chunks = number; cut = Some (record { home = home; last = last }) }
course_after course (Settled number verdict) = record course { done = done_by verdict course; cut = None }
course_after course Gaveup = record course { done = course.operations }

abbrev pub course_of : List Deed → Course
course_of deeds = left_by course_after no_course deeds

-- the operations that are pending: those behind the last one that was applied or given up
abbrev pub pending_of : List Deed → List Record
pending_of deeds = records_above (course_of deeds).done (full_of deeds)

-- ---- chunks

-- a chunk: its number, the server that it goes to, and its operations
pub record Chunk : Type 0 where
  pub number : ℕ
  pub home : ℕ
  pub span : List Record

abbrev pub chunk_at : List Deed → Deed → List Chunk
chunk_at past (Operated rec) = []
chunk_at past (Froze number home last) = record { number = number; home = home; span = records_upto last (pending_of past) } ∷ []
chunk_at past (Settled number verdict) = []
chunk_at past Gaveup = []

-- the chunks that were frozen, each with the front of what was pending then
abbrev pub chunks_of : List Deed → List Chunk
chunks_of deeds = told chunk_at [] deeds

-- the operations of the chunk of this number
abbrev pub span_in : ℕ → List Chunk → List Record
span_in number [] = []
span_in number (chunk ∷ chunks) = if chunk.number == number then chunk.span else span_in number chunks

abbrev pub span_of : List Deed → ℕ → List Record
span_of deeds number = span_in number (chunks_of deeds)

-- ---- settlements

-- what a client learned of a chunk
pub record Settlement : Type 0 where
  pub number : ℕ
  pub verdict : Verdict

abbrev pub settlement_at : List Deed → Deed → List Settlement
settlement_at past (Operated rec) = []
settlement_at past (Froze number home last) = []
settlement_at past (Settled number verdict) = record { number = number; verdict = verdict } ∷ []
settlement_at past Gaveup = []

abbrev pub settlements_of : List Deed → List Settlement
settlements_of deeds = told settlement_at [] deeds

-- ---- what ended

-- operations that are done with: those of a chunk that was applied, or those that were given up
pub data Ended : Type 0 where
  InChunk : (number : ℕ) (span : List Record) → Ended
  GivenUp : (span : List Record) → Ended

abbrev pub operations_in : Ended → List Record
operations_in (InChunk number span) = span
operations_in (GivenUp span) = span

abbrev pub all_in : List Ended → List Record
all_in [] = []
all_in (ended ∷ rest) = operations_in ended ++ all_in rest

abbrev pub ended_by : Verdict → ℕ → List Deed → List Ended
ended_by Applied number past = InChunk number (span_of past number) ∷ []
ended_by (Conflict refused why) number past = []

abbrev pub ended_at : List Deed → Deed → List Ended
ended_at past (Operated rec) = []
ended_at past (Froze number home last) = []
ended_at past (Settled number verdict) = ended_by verdict number past
ended_at past Gaveup = GivenUp (pending_of past) ∷ []

-- what of the operations is done with, in order
abbrev pub ended_of : List Deed → List Ended
ended_of deeds = told ended_at [] deeds

-- ---- which entry may follow

-- the next operation: it creates nothing that the pending ones mention, and removes nothing in which one of theirs is left
pub record MayOperate (past : List Deed) (rec : Record) : Type 0 where
  pub next : rec.number ≡ (course_of past).operations + 1
  pub fresh : IsFresh rec.op (pending_of past)
  pub empty : RemovesEmpty rec.op (pending_of past)

-- the next chunk: no other is frozen, and it ends at a pending operation where the log may be cut
pub record MayFreeze (past : List Deed) (number last : ℕ) : Type 0 where
  pub thawed : (course_of past).cut ≡ None
  pub next : number ≡ (course_of past).chunks + 1
  pub pending : (course_of past).done < last
  pub there : last ≤ (course_of past).operations
  pub ends : IsCut last [] (pending_of past)

-- the frozen chunk, which is the last one
pub record MaySettle (past : List Deed) (number : ℕ) : Type 0 where
  pub cut : Cut
  pub frozen : (course_of past).cut ≡ Some cut
  pub last : number ≡ (course_of past).chunks

abbrev pub MayDo : List Deed → Deed → Type 0
MayDo past (Operated rec) = MayOperate past rec
MayDo past (Froze number home last) = MayFreeze past number last
MayDo past (Settled number verdict) = MaySettle past number
MayDo past Gaveup = (course_of past).cut ≡ None

-- each entry may follow those before it
abbrev pub AreLawful : List Deed → Type 0
AreLawful deeds = DoFollow MayDo [] deeds
