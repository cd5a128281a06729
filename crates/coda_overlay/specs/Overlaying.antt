-- A log, replayed on the copy of one object that a server gave, and what a client's acceptance makes sure of there.
use Rattle.std.specs.Prelude.{◌≡◌, ◌⊎◌, ℕ, Bool, true, false, Option, Some, None, option_map, List, [], ◌∷◌}
use Rattle.coda_fid.specs.Fid.{same_fid}
use Rattle.coda_fid.specs.declared.fid.Fid.{Fid}
use Rattle.coda_fid.specs.declared.op.Over.{Over}
use Rattle.coda_fid.specs.declared.op.Op.{Op}
use Rattle.coda_fid.specs.declared.op.Op.TheVariants.{Create, Mkdir, Symlink, Store, Setattr, Remove, Rmdir, Rename}
use Rattle.coda_fid.specs.declared.op.Record.{Record}
use Rattle.coda_tree.specs.declared.node.Node.{Node}
use Rattle.coda_tree.specs.Bindings.{Name}
use Rattle.coda_tree.specs.Volume.{child_of, IsDirNode}
use Rattle.coda_cancel.specs.Cancel.{is_undone, add}
use Rattle.coda_cancel.specs.Dropping.{creates, mentioning}
use Rattle.coda_cml.specs.Steady.{any_record, is_over}
use Rattle.coda_overlay.specs.Objects.{operated_at}

-- ---- what an operation finds

-- a creation finds what stands at f, where f is its directory, to be a directory in which the name is free
pub record FindsFreeName (f : Fid) (o : Option Node) (dir : Fid) (name : Name) : Type 0 where
  pub dir_there : f ≡ dir → IsDirNode o
  pub free : f ≡ dir → child_of o name ≡ None

-- An operation finds its names bound at f as it says, where f is a directory that it names: a creation finds the name
-- free; a removal and a rename find the object bound; and a rename finds the new name bound to what it replaces.
abbrev pub FindsItsNames : Fid → Option Node → Op → Type 0
FindsItsNames f o (Create dir name fid mode owner) = FindsFreeName f o dir name
FindsItsNames f o (Mkdir dir name fid mode owner) = FindsFreeName f o dir name
FindsItsNames f o (Symlink dir name fid target mode owner) = FindsFreeName f o dir name
FindsItsNames f o (Store fid pre content) = Unit {0}
FindsItsNames f o (Setattr fid pre attrs) = Unit {0}
FindsItsNames f o (Remove dir name fid pre) = f ≡ dir → child_of o name ≡ Some fid
FindsItsNames f o (Rmdir dir name fid pre) = f ≡ dir → child_of o name ≡ Some fid
FindsItsNames f o (Rename from_dir from to_dir to fid over) = (f ≡ from_dir → child_of o from ≡ Some fid)
    × (f ≡ to_dir → child_of o to ≡ option_map (λ (v : Over). v.fid) over)

-- records, replayed in order on what was given of f, leave this; each finds its names as those before it left them
abbrev pub Overlays : Fid → ℕ → Option Node → List Record → Option Node → Type 0
Overlays f client o [] left = o ≡ left
Overlays f client o (rec ∷ recs) left = FindsItsNames f o rec.op
    × Overlays f client (operated_at f client rec o) recs left

-- a node of f, where there is one, is older than the records: they create neither f nor anything that it binds
pub record Predates (f : Fid) (o : Option Node) (recs : List Record) : Type 0 where
  pub not_created : any_record (creates f) recs ≡ false
  pub unbound : (name : Name) (fid : Fid) → child_of o name ≡ Some fid → any_record (creates fid) recs ≡ false

-- The log, replayed on what was given of f, leaves what the client has of it now; and what was given is older than the
-- log.
pub record IsOverlaid (f : Fid) (client : ℕ) (given : Option Node) (log : List Record)
    (now : Option Node) : Type 0 where
  pub predates : Predates f given log
  pub overlays : Overlays f client given log now

-- ---- where an object that is removed was created

-- an operation, where it creates, does so at this name of this directory
abbrev pub IsCreatedAt : Fid → Name → Op → Type 0
IsCreatedAt dir name (Create d n fid mode owner) = (d ≡ dir) × (n ≡ name)
IsCreatedAt dir name (Mkdir d n fid mode owner) = (d ≡ dir) × (n ≡ name)
IsCreatedAt dir name (Symlink d n fid target mode owner) = (d ≡ dir) × (n ≡ name)
IsCreatedAt dir name _ = Unit {0}

-- those of the records that create the object do so at this name of this directory
abbrev pub AreCreatedAt : Fid → Name → Fid → List Record → Type 0
AreCreatedAt dir name fid [] = Unit {0}
AreCreatedAt dir name fid (rec ∷ recs) = (creates fid rec.op ≡ true → IsCreatedAt dir name rec.op)
    × AreCreatedAt dir name fid recs

-- a removal that undoes a creation of the records removes the object from where they created it
abbrev pub RemovesInPlace : List Record → Op → Type 0
RemovesInPlace recs (Remove dir name fid pre) = is_undone fid recs ≡ true → AreCreatedAt dir name fid recs
RemovesInPlace recs (Rmdir dir name fid pre) = is_undone fid recs ≡ true → AreCreatedAt dir name fid recs
RemovesInPlace recs _ = Unit {0}

-- each removal of a run is so, as the run is added to records one by one
abbrev pub AllRemoveInPlace : List Record → List Record → Type 0
AllRemoveInPlace recs [] = Unit {0}
AllRemoveInPlace recs (rec ∷ run) = RemovesInPlace recs rec.op × AllRemoveInPlace (add recs rec) run

-- what was given of f is older than the operation: it creates neither f nor anything that is bound in what was given
abbrev pub PredatesOperation : Fid → Option Node → Op → Type 0
PredatesOperation f given op = (creates f op ≡ false)
    × ((name : Name) (fid : Fid) → child_of given name ≡ Some fid → creates fid op ≡ false)

-- whether an operation takes the object out: it removes or replaces it
abbrev pub takes_out : Fid → Op → Bool
takes_out fid (Create dir name it mode owner) = false
takes_out fid (Mkdir dir name it mode owner) = false
takes_out fid (Symlink dir name it target mode owner) = false
takes_out fid (Store it pre content) = false
takes_out fid (Setattr it pre attrs) = false
takes_out fid (Remove dir name it pre) = same_fid it fid
takes_out fid (Rmdir dir name it pre) = same_fid it fid
takes_out fid (Rename from_dir from to_dir to it over) = is_over fid over

-- the last of the records that mention the object takes it out
abbrev pub EndsTakenOut : Fid → List Record → Type 0
EndsTakenOut fid [] = ⊥
EndsTakenOut fid (rec ∷ recs) = EndsTakenOut fid recs
    ⊎ ((takes_out fid rec.op ≡ true) × (any_record (mentioning fid) recs ≡ false))

-- no record of the chunk mentions what the tail creates
abbrev pub IsTailNew : List Record → List Record → Type 0
IsTailNew chunk tail = (fid : Fid) → any_record (creates fid) tail ≡ true → any_record (mentioning fid) chunk ≡ false
