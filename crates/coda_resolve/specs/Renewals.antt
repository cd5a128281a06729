-- What is new in what a replica holds.
use Rattle.std.specs.Prelude.{◌≡◌, ◌≢◌, ℕ, Bool, true, false, not, List, map, Option, Some, None}
use Rattle.std.specs.List.{AllZip, filter}
use Rattle.std.specs.BTreeMap.{BTreeMap, get}
use Rattle.std.specs.BTreeSet.{BTreeSet}
use Rattle.coda_fid.specs.Fid.{fid_cmp}
use Rattle.coda_fid.specs.declared.fid.Fid.{Fid}
use Rattle.coda_reslog.specs.declared.change.Held.{Held}
use Rattle.coda_reslog.specs.declared.change.Change.{Change}
use Rattle.coda_resolve.specs.declared.renewal.Renewal.{Renewal}
use Rattle.coda_resolve.specs.declared.walking.Taken.{Taken}
use Rattle.coda_resolve.specs.Copies.{first_some}
use Rattle.coda_resolve.specs.Counted.{has_fid}
use Rattle.coda_resolve.specs.Settling.{Fate, Same, Marked, Gone, settled_copy}
use Rattle.coda_resolve.specs.Resolution.{Objects, Replicas, copies_at, fate_at}
use Rattle.std.specs.FinMap as finmap
use Rattle.coda_resolve.specs.Changes.{is_among, node_of, nodes_at, changed, afterwards, IsReplicaChange}

-- they are the same just where this is so
abbrev pub Tells : {X : Type 0} → Bool → X → X → Type 0
Tells true one other = one ≡ other
Tells false one other = one ≢ other

-- what is held anew, where it isn't what was held, and whether its node is another
abbrev pub IsRenewal : Option Held → Option Held → Option Renewal → Type 0
IsRenewal old new None = new ≡ old
IsRenewal old new (Some renewal) = (new ≡ Some renewal.held) × ((new ≢ old) × Tells (not renewal.touched) (node_of new) (node_of old))

-- what the replica holds after the resolution of an object that is taken up
abbrev pub left_at : Replicas → Objects → Fid → Option Held
left_at views view f = settled_copy (fate_at views f) (first_some (copies_at views f)) (finmap.get view f)

-- what is held anew of these objects, and of which of them the node is another
pub record AreRenewed (views : Replicas) (view : Objects) (objects : List Fid) (held : BTreeMap Fid Held) (touched : List Fid) : Type 0 where
  pub from : (f : Fid) (new : Held) → get fid_cmp held f ≡ Some new → (is_among objects f ≡ true) × ((left_at views view f ≡ Some new) × (left_at views view f ≢ finmap.get view f))
  pub all : (f : Fid) → is_among objects f ≡ true → get fid_cmp held f ≡ None → left_at views view f ≡ finmap.get view f
  pub differ : (f : Fid) → is_among touched f ≡ true → (is_among objects f ≡ true) × (node_of (left_at views view f) ≢ node_of (finmap.get view f))
  pub alike : (f : Fid) → is_among objects f ≡ true → is_among touched f ≡ false → node_of (left_at views view f) ≡ node_of (finmap.get view f)

-- whether the object is marked everywhere
abbrev pub is_mark : Fate → Bool
is_mark (Same held) = false
is_mark (Marked why) = true
is_mark Gone = false

-- those that are marked everywhere
abbrev pub marked_among : List Taken → List Fid
marked_among objects = map (λ object. object.fid) (filter (λ object. is_mark object.fate) objects)

-- the change of a replica, and the objects of which it then has another node, a new one, or none any more
pub record IsPart (views : Replicas) (root : Fid) (view : Objects) (change : Change) (touched : List Fid) : Type 0 where
  pub replica : IsReplicaChange views root view change
  pub tells : (f : Fid) → Tells (not (is_among touched f)) (node_of (finmap.get (changed view change) f)) (node_of (finmap.get view f))

-- the changes
abbrev pub changes_of : List (ℕ × Change) → List Change
changes_of changes = map (λ change. change.1) changes

-- the changes of some of the replicas, and all objects of which one of these then has another node
pub record AreParts (views : Replicas) (root : Fid) (done : Replicas) (changes : List (ℕ × Change)) (touched : BTreeSet Fid) : Type 0 where
  pub replicas : AllZip (IsReplicaChange views root) done (changes_of changes)
  pub tells : (f : Fid) → Tells (not (has_fid touched f)) (nodes_at (afterwards done (changes_of changes)) f) (nodes_at done f)
