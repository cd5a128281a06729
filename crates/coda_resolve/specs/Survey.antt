-- What a resolution takes up, and which of these objects may change.
use Rattle.std.specs.Prelude.{◌≡◌, Bool, IsTrue, true, false, not, is_some, List, [], ◌∷◌, Option, Some, None}
use Rattle.std.specs.List.{filter_map, AllByRecursion}
use Rattle.coda_fid.specs.declared.fid.Fid.{Fid}
use Rattle.coda_reslog.specs.declared.change.Held.{Held}
use Rattle.coda_resolve.specs.declared.why.Mark.{Mark}
use Rattle.coda_resolve.specs.declared.walking.Taken.{Taken}
use Rattle.coda_resolve.specs.Copies.{Copies}
use Rattle.coda_resolve.specs.Settling.{Fate, Same, Marked, Gone}
use Rattle.coda_resolve.specs.Settled.{IsEverywhere, is_dir}
use Rattle.coda_resolve.specs.Resolution.{Replicas, copies_at, fate_at}
use Rattle.coda_resolve.specs.Outcome.{mark_by}
use Rattle.coda_resolve.specs.Changes.{is_among}
use Rattle.coda_resolve.specs.Taken.{fids_of, AreFates}

-- ---- files and links that all replicas hold alike

-- the copy is there, with the updates and log of what is held
abbrev pub HasUpdatesOf : Held → Option Held → Type 0
HasUpdatesOf held None = ⊥
HasUpdatesOf held (Some own) = (own.vector ≡ held.vector) × (own.ring ≡ held.ring)

-- the copy is there, with the node of what is held
abbrev pub HasNodeOf : Held → Option Held → Type 0
HasNodeOf held None = ⊥
HasNodeOf held (Some own) = own.node ≡ held.node

-- it is a file or link, unmarked, and each copy is the same
pub record IsLeafEverywhere (held : Held) (copies : Copies) : Type 0 where
  pub leaf : is_dir held.node.kind ≡ false
  pub plain : held.node.marked ≡ false
  pub everywhere : IsEverywhere held copies

-- the copies are those of a file or link that all replicas hold alike, unmarked
abbrev pub AreAlike : Copies → Type 0
AreAlike [] = ⊥
AreAlike (copy ∷ copies) = (held : Held) × ((copy ≡ Some held) × IsLeafEverywhere held copies)

-- ---- what may change

-- all replicas hold the object alike, and a resolution leaves it so
pub record StaysAlike (replicas : Replicas) (f : Fid) : Type 0 where
  pub held : Held
  pub everywhere : IsEverywhere held (copies_at replicas f)
  pub fate : fate_at replicas f ≡ Same held

-- each copy is what becomes of the object
abbrev pub IsFateOf : Fate → Copies → Type 0
IsFateOf (Same held) copies = IsEverywhere held copies
IsFateOf (Marked why) copies = ⊥
IsFateOf Gone copies = ⊥

-- ---- what is known before

-- each copy is there
abbrev pub AreThere : Copies → Type 0
AreThere copies = AllByRecursion (λ copy. is_some copy ≡ true) copies

-- whether all replicas then hold a file or link
abbrev pub is_plain : Fate → Bool
is_plain (Same held) = not (is_dir held.node.kind)
is_plain (Marked why) = false
is_plain Gone = false

-- all replicas then hold a file or link: they stay as they are, unless the object is among those that may change
pub record IsKnown (replicas : Replicas) (changed : List Fid) (f : Fid) : Type 0 where
  pub plain : is_plain (fate_at replicas f) ≡ true
  pub stays : is_among changed f ≡ false → StaysAlike replicas f

-- all replicas have the object, and then hold a file or link
pub record IsPlain (replicas : Replicas) (f : Fid) : Type 0 where
  pub there : AreThere (copies_at replicas f)
  pub plain : is_plain (fate_at replicas f) ≡ true

-- each of the objects is such
abbrev pub ArePlain : Replicas → List Fid → Type 0
ArePlain replicas objects = (f : Fid) → is_among objects f ≡ true → IsPlain replicas f

-- what becomes of the object, unless it is known; where it is said that it stays as all replicas hold it, it does
abbrev pub IsOutlook : Replicas → List Fid → Fid → Option Fate → Bool → Type 0
IsOutlook replicas changed f None stays = IsKnown replicas changed f
IsOutlook replicas changed f (Some fate) stays = (fate ≡ fate_at replicas f) × (IsTrue stays → StaysAlike replicas f)

-- the mark of an object that was taken up, where it is new
abbrev pub mark_at : Replicas → Taken → Option Mark
mark_at replicas object = mark_by (copies_at replicas object.fid) object.fid object.fate

-- the new marks of these objects
abbrev pub marks_among : Replicas → List Taken → List Mark
marks_among replicas objects = filter_map (mark_at replicas) objects

-- of the objects those that may change, in their order, with what becomes of each: all others stay as all replicas hold them
pub record AreOthers (replicas : Replicas) (fids : List Fid) (others : List Taken) : Type 0 where
  pub fates : AreFates replicas others
  pub among : (f : Fid) → is_among (fids_of others) f ≡ true → is_among fids f ≡ true
  pub alike : (f : Fid) → is_among fids f ≡ true → is_among (fids_of others) f ≡ false → StaysAlike replicas f
  pub marks : marks_among replicas others ≡ filter_map (λ f. mark_by (copies_at replicas f) f (fate_at replicas f)) fids

-- the same, but for those that are known to change
pub record AreOthersBut (replicas : Replicas) (changed fids : List Fid) (others : List Taken) : Type 0 where
  pub fates : AreFates replicas others
  pub among : (f : Fid) → is_among (fids_of others) f ≡ true → is_among fids f ≡ true
  pub alike : (f : Fid) → is_among fids f ≡ true → is_among (fids_of others) f ≡ false → is_among changed f ≡ false → StaysAlike replicas f
  pub marks : marks_among replicas others ≡ filter_map (λ f. mark_by (copies_at replicas f) f (fate_at replicas f)) fids
