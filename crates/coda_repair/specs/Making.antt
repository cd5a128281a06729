-- How the changes of a repair are made: what is put, what is spared, and what goes.
use Rattle.std.specs.Prelude.{◌≡◌, ℕ, Bool, true, false, not, cond, ◌&&◌, ◌++◌, List, [], ◌∷◌, map, Option, Some, None, length}
use Rattle.std.specs.List.{filter}
use Rattle.std.specs.Option.{option_map}
use Rattle.std.specs.FinMap as finmap
use Rattle.std.specs.BTreeMap.{BTreeMap, get}
use Rattle.std.specs.BTreeSet.{BTreeSet}
use Rattle.coda_fid.specs.Fid.{fid_cmp, same_fid}
use Rattle.coda_fid.specs.declared.fid.Fid.{Fid}
use Rattle.coda_tree.specs.declared.node.NodeKind.{NodeKind}
use Rattle.coda_tree.specs.declared.node.NodeKind.TheVariants.{File, Link, Dir}
use Rattle.coda_reslog.specs.declared.change.Held.{Held}
use Rattle.coda_tree.specs.Bindings.{Name, Bindings}
use Rattle.coda_record.specs.declared.view.View.{View}
use Rattle.coda_resolve.specs.Copies.{Copies}
use Rattle.coda_resolve.specs.Merged.{updates_of}
use Rattle.coda_resolve.specs.Resolution.{Objects, copies_at}
use Rattle.coda_resolve.specs.Changes.{is_among}
use Rattle.coda_resolve.specs.Counted.{has_fid}
use Rattle.coda_resolve.specs.Views.{HeldPairs, objects_of, replicas_of}
use Rattle.coda_lineage.specs.Repairs.{repaired, is_taken, binds_one, spared_by}

-- the list has the fids of the set
abbrev pub AreSame : BTreeSet Fid → List Fid → Type 0
AreSame set fids = (f : Fid) → is_among fids f ≡ has_fid set f

-- what is put at a fid, if the source has an object there
abbrev pub put_at : ℕ → (Fid → Copies) → Objects → Fid → Option Held
put_at source copies right f = option_map (repaired source (copies f)) (finmap.get right f)

-- the merge of the updates of the copies has a count for each server
abbrev pub IsWide : Copies → Type 0
IsWide copies = length (updates_of copies) ≡ 8

-- of some objects, these are what is put where the source has them
pub record ArePut (source : ℕ) (copies : Fid → Copies) (right : Objects) (fids : List Fid) (held : BTreeMap Fid Held)
    : Type 0 where
  pub put : (f : Fid) → get fid_cmp held f ≡ cond (is_among fids f) (put_at source copies right f) None
  pub wide : (f : Fid) (was : Held) → is_among fids f ≡ true → finmap.get right f ≡ Some was → IsWide (copies f)

-- whether it is a directory that binds one of them
abbrev pub kind_loses : (Fid → Bool) → Fid → NodeKind → Bool
kind_loses subtree top (File content) = false
kind_loses subtree top (Link target) = false
kind_loses subtree top (Dir entries) = binds_one subtree top entries

-- what a directory becomes that loses an object
abbrev pub loser : (Fid → Bool) → Fid → Held → Option Held
loser subtree top held = cond (kind_loses subtree top held.node.kind)
    (Some (spared_by subtree top held held.node.kind)) None

-- what comes in place of an object that isn't below a repaired one, if anything does
abbrev pub spare_of : (Fid → Bool) → Fid → Option Held → Option Held
spare_of subtree top None = None
spare_of subtree top (Some held) = loser subtree top held

-- of some objects of a replica, what comes in place of them, if they aren't below repaired ones
abbrev pub spare_at : (Fid → Bool) → (Fid → Bool) → Fid → Objects → List Fid → Fid → Option Held
spare_at subtree below top view fids f =
    cond (is_among fids f && not (below f)) (spare_of subtree top (finmap.get view f)) None

-- the first, where it is there, and else the other
abbrev pub or_else : {X : Type 0} → Option X → Option X → Option X
or_else None other = other
or_else (Some x) other = Some x

-- ---- one object more

-- of the objects these are what is put, where the source's view has them
abbrev pub ArePutFrom : ℕ → List View → View → List Fid → BTreeMap Fid Held → Type 0
ArePutFrom from views right fids held = ArePut from (copies_at (replicas_of views)) (objects_of right) fids held

-- what was put of some objects is what is put of these and one more
abbrev pub PutsOne : ℕ → List View → View → Fid → BTreeMap Fid Held → BTreeMap Fid Held → Type 0
PutsOne from views right fid old new = (fids : List Fid) → ArePutFrom from views right fids old
    → ArePutFrom from views right (fids ++ fid ∷ []) new

-- what comes in place of one object that isn't below a repaired one is there too
abbrev pub SparesOne : (Fid → Bool) → (Fid → Bool) → Fid → Fid → Held → BTreeMap Fid Held → BTreeMap Fid Held → Type 0
SparesOne subtree below top fid own old new = (f : Fid) → get fid_cmp new f ≡
    or_else (cond (same_fid fid f && not (below fid)) (loser subtree top own) None) (get fid_cmp old f)

-- the fids of a list of objects
abbrev pub fids_in : HeldPairs → List Fid
fids_in items = map (λ (o : Fid × Held). o.0) items

-- and so it is of all objects of a replica
abbrev pub SparesAll : (Fid → Bool) → (Fid → Bool) → Fid → View → BTreeMap Fid Held → BTreeMap Fid Held → Type 0
SparesAll subtree below top view old new = (f : Fid) → get fid_cmp new f ≡
    or_else (spare_at subtree below top (objects_of view) (fids_in view.held) f) (get fid_cmp old f)

-- the objects of a replica that are below repaired ones and aren't repaired
abbrev pub gone_of : (Fid → Bool) → (Fid → Bool) → View → List Fid
gone_of subtree below view = filter (λ f. below f && not (subtree f)) (fids_in view.held)

-- ---- a directory

-- the directory with these bindings, marked
abbrev pub with_bindings : Held → Bindings → Held
with_bindings held entries = record held { node = record held.node { kind = Dir entries; marked = true } }

-- the bindings without the name, if what it is bound to is taken
abbrev pub left_out : (Fid → Bool) → Fid → Name → Fid → Bindings → Bindings
left_out subtree top name fid entries =
    cond (is_taken subtree top (Some fid)) (finmap.remove entries name) entries
