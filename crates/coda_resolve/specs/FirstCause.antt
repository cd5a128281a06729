-- Which cause a directory is marked for, in words of what the replicas hold and what their logs say: the table of causes, row by row.
use Rattle.std.specs.Prelude.{◌≡◌, ◌≢◌, ◌<◌, ◌≤◌, ◌⊎◌, ◌↔◌, ℕ, true, false, Option, Some}
use Rattle.std.specs.List.{AllByRecursion}
use Rattle.std.specs.FinMap as finmap
use Rattle.std.specs.declared.cmp.Ordering.TheVariants.{Less}
use Rattle.coda_fid.specs.Fid.{fid_cmp}
use Rattle.coda_fid.specs.Name.{name_cmp}
use Rattle.coda_fid.specs.declared.fid.Fid.{Fid}
use Rattle.coda_tree.specs.Bindings.{Name}
use Rattle.coda_vv.specs.Vector.{Counts, includes}
use Rattle.coda_reslog.specs.declared.entry.ResEntry.{ResEntry}
use Rattle.coda_reslog.specs.declared.entry.ResKind.TheVariants.{Cross, Attr}
use Rattle.coda_reslog.specs.declared.entry.Lost.{Lost}
use Rattle.coda_reslog.specs.declared.change.Held.{Held}
use Rattle.coda_resolve.specs.declared.why.Mark.{Mark}
use Rattle.coda_resolve.specs.declared.why.Why.{Why}
use Rattle.coda_resolve.specs.declared.why.Why.TheVariants.{Kept, Wrapped, CrossRename, NameName, DoubleName, RemoveUpdate, AttrAttr, FileFile}
use Rattle.coda_resolve.specs.Copies.{Copies, bindings_of, log_of, is_marked}
use Rattle.coda_resolve.specs.Missing.{knows, has_update}
use Rattle.coda_resolve.specs.Merged.{merged_bindings}
use Rattle.coda_resolve.specs.Settling.{Marked}
use Rattle.coda_resolve.specs.Settled.{HasKind}
use Rattle.coda_resolve.specs.Resolution.{Objects, Replicas, copies_at, fate_at, child_in}
use Rattle.coda_resolve.specs.Placement.{SomeOf, IsIn}
use Rattle.coda_resolve.specs.Outcome.{marks_of}

-- ---- missing updates

-- some copy has the server's update of that number, and some copy lacks it
pub record IsLacked (copies : Copies) (origin seq : ℕ) : Type 0 where
  pub here : SomeOf (λ copy. knows copy origin seq ≡ true) copies
  pub lacked : SomeOf (λ copy. knows copy origin seq ≡ false) copies

-- the update stands in the log of some copy
abbrev pub IsLogged : Copies → ResEntry → Type 0
IsLogged copies u = SomeOf (λ copy. IsIn u (log_of copy)) copies

-- an update that some copy has and some copy lacks, and of which a log says what it did
pub record IsMissing (copies : Copies) (u : ResEntry) : Type 0 where
  pub lacked : IsLacked copies u.origin u.seq
  pub logged : IsLogged copies u

-- the update names the name, as the old or the new one
abbrev pub IsOf : Name → ResEntry → Type 0
IsOf n u = (u.name ≡ Some n) ⊎ (u.other ≡ Some n)

-- the update took out the object, which had these updates
pub record TookOut (u : ResEntry) (f : Fid) (counts : Counts) : Type 0 where
  pub lost : Lost
  pub is : u.lost ≡ Some lost
  pub object : lost.fid ≡ f
  pub updates : lost.vector.0 ≡ counts

-- ---- the rows of the table

-- an update that some copy lacks is in no log any more: nobody knows what it did
pub record IsForgotten (copies : Copies) (origin seq : ℕ) : Type 0 where
  pub from_one : 1 ≤ origin
  pub to_eight : origin ≤ 8
  pub lacked : IsLacked copies origin seq
  pub unlogged : (u : ResEntry) → IsLogged copies u → u.origin ≡ origin → u.seq ≢ seq

-- each copy lacks a missing update on the name, and two copies bind different objects there, or one of them none
pub record IsContested (copies : Copies) (n : Name) : Type 0 where
  pub unled : (copy : Option Held) → IsIn copy copies → (u : ResEntry) × (IsMissing copies u × (IsOf n u × (has_update u copy ≡ false)))
  pub one : Option Held
  pub other : Option Held
  pub here : IsIn one copies
  pub there : IsIn other copies
  pub apart : finmap.get (bindings_of one) n ≢ finmap.get (bindings_of other) n

-- the merged directory would bind the object at two names
pub record IsTwice (copies : Copies) (f : Fid) : Type 0 where
  pub one : Name
  pub other : Name
  pub apart : one ≢ other
  pub at_one : finmap.get (merged_bindings copies) one ≡ Some f
  pub at_other : finmap.get (merged_bindings copies) other ≡ Some f

-- the merged directory would bind the object, though a missing update took it out
pub record IsStillBound (copies : Copies) (f : Fid) : Type 0 where
  pub name : Name
  pub bound : finmap.get (merged_bindings copies) name ≡ Some f
  pub update : ResEntry
  pub missing : IsMissing copies update
  pub counts : Counts
  pub took : TookOut update f counts

-- the merged directory would bind the object, and a replica that has it doesn't bind it in this directory: it binds it in another one
pub record IsBoundElsewhere (views : Replicas) (d f : Fid) : Type 0 where
  pub name : Name
  pub bound : finmap.get (merged_bindings (copies_at views d)) name ≡ Some f
  pub view : Objects
  pub replica : IsIn view views
  pub held : Held
  pub has : finmap.get view f ≡ Some held
  pub unbound : (n : Name) → child_in view d n ≢ Some f

-- what is held has an update that isn't among these, or binds something
abbrev pub HasMore : Held → Counts → Type 0
HasMore held counts = (includes counts held.vector.0 ≡ false) ⊎ ((n : Name) × ((g : Fid) × (finmap.get (bindings_of (Some held)) n ≡ Some g)))

-- a missing update of the directory took the object out, and a replica that lacks the update has the object with more than was taken out
pub record IsUpdatedElsewhere (views : Replicas) (d f : Fid) : Type 0 where
  pub update : ResEntry
  pub missing : IsMissing (copies_at views d) update
  pub counts : Counts
  pub took : TookOut update f counts
  pub view : Objects
  pub replica : IsIn view views
  pub lacks : has_update update (finmap.get view d) ≡ false
  pub held : Held
  pub has : finmap.get view f ≡ Some held
  pub more : HasMore held counts

-- each copy that is there lacks a missing change of the attributes
abbrev pub AreAttributesContested : Copies → Type 0
AreAttributesContested copies = (held : Held) → IsIn (Some held) copies → (u : ResEntry) × (IsMissing copies u × ((u.kind ≡ Attr) × (has_update u (Some held) ≡ false)))

-- the cause holds of the directory
abbrev pub Holds : Replicas → Fid → Why → Type 0
Holds views d Kept = SomeOf (λ copy. is_marked copy ≡ true) (copies_at views d)
Holds views d (Wrapped origin seq) = IsForgotten (copies_at views d) origin seq
Holds views d CrossRename = (u : ResEntry) × (IsMissing (copies_at views d) u × (u.kind ≡ Cross))
Holds views d (NameName n) = IsContested (copies_at views d) n
Holds views d (DoubleName f) = IsTwice (copies_at views d) f ⊎ (IsStillBound (copies_at views d) f ⊎ IsBoundElsewhere views d f)
Holds views d (RemoveUpdate f) = IsUpdatedElsewhere views d f
Holds views d AttrAttr = AreAttributesContested (copies_at views d)
Holds views d FileFile = ⊥

-- ---- their order

-- the row of the cause: a mark that is there, a forgotten update, a move, a name, an object bound, an object taken out, attributes; files have one of their own
abbrev pub row : Why → ℕ
row Kept = 0
row (Wrapped origin seq) = 1
row CrossRename = 2
row (NameName n) = 3
row (DoubleName f) = 4
row (RemoveUpdate f) = 5
row AttrAttr = 6
row FileFile = 7

-- of its row it is the least that holds: no update of a lower server or number, no lesser name, no lesser object
abbrev pub IsLeast : Replicas → Fid → Why → Type 0
IsLeast views d Kept = Unit {0}
IsLeast views d (Wrapped origin seq) = (server number : ℕ) → Holds views d (Wrapped server number) → (origin < server) ⊎ ((origin ≡ server) × (seq ≤ number))
IsLeast views d CrossRename = Unit {0}
IsLeast views d (NameName n) = (m : Name) → Holds views d (NameName m) → name_cmp m n ≢ Less
IsLeast views d (DoubleName f) = (g : Fid) → Holds views d (DoubleName g) → fid_cmp g f ≢ Less
IsLeast views d (RemoveUpdate f) = (g : Fid) → Holds views d (RemoveUpdate g) → fid_cmp g f ≢ Less
IsLeast views d AttrAttr = Unit {0}
IsLeast views d FileFile = Unit {0}

-- the cause holds, it is the least of its row that does, and none of a row above holds
pub record IsFirstCause (views : Replicas) (d : Fid) (why : Why) : Type 0 where
  pub holds : Holds views d why
  pub least : IsLeast views d why
  pub above : (other : Why) → row other < row why → Holds views d other → ⊥

-- some replica has the directory, and each that has the object has it as one
pub record IsDirectory (views : Replicas) (d : Fid) : Type 0 where
  pub held : Held
  pub here : IsIn (Some held) (copies_at views d)
  pub kind : AllByRecursion (HasKind true) (copies_at views d)

-- a resolution marks a directory for a cause just where it is the first that holds, and so do the new marks name it
pub record MarksNameTheFirstCause : Type 0 where
  pub each : (views : Replicas) (d : Fid) (why : Why) → IsDirectory views d → (fate_at views d ≡ Marked why) ↔ IsFirstCause views d why
  pub told : (views : Replicas) (root : Fid) (mark : Mark) → IsIn mark (marks_of views root) → IsDirectory views mark.fid → IsFirstCause views mark.fid mark.why
