-- Why a directory is marked.
use Rattle.std.specs.Prelude.{ℕ, ◌+◌, Bool, true, false, not, cond, ◌&&◌, ◌||◌, nat_le, List, [], ◌∷◌, Option, Some, None, is_some}
use Rattle.std.specs.List.{list_any, filter, flat_map, fold, zip}
use Rattle.std.specs.Option.{option_map}
use Rattle.std.specs.FinMap as finmap
use Rattle.coda_fid.specs.Fid.{fid_cmp, same_fid}
use Rattle.std.specs.declared.cmp.Ordering.{Ordering}
use Rattle.std.specs.declared.cmp.Ordering.TheVariants.{Less, Equal, Greater}
use Rattle.coda_fid.specs.Name.{name_cmp}
use Rattle.coda_fid.specs.declared.fid.Fid.{Fid}
use Rattle.coda_tree.specs.Bindings.{Name}
use Rattle.coda_vv.specs.Vector.{Counts, includes}
use Rattle.coda_reslog.specs.declared.entry.ResEntry.{ResEntry}
use Rattle.coda_reslog.specs.declared.entry.ResKind.{ResKind}
use Rattle.coda_reslog.specs.declared.entry.ResKind.TheVariants.{Add, Drop, Rename, Cross, Attr}
use Rattle.coda_reslog.specs.declared.entry.Lost.{Lost}
use Rattle.coda_reslog.specs.declared.change.Held.{Held}
use Rattle.coda_resolve.specs.declared.why.Why.{Why}
use Rattle.coda_resolve.specs.declared.why.Why.TheVariants.{Kept, Wrapped, CrossRename, NameName, DoubleName, RemoveUpdate, AttrAttr}
use Rattle.coda_resolve.specs.Copies.{Copies, bindings_of, is_marked, first_some}
use Rattle.coda_resolve.specs.Missing.{missing, wrapped, has_update}
use Rattle.coda_resolve.specs.Merged.{names_of, binding, merged_bindings, attributes_of}

-- the cause, where the test holds
abbrev pub where_so : Bool → Why → Option Why
where_so b why = cond b (Some why) None

-- some replica has it marked already
abbrev pub kept : Copies → Option Why
kept copies = where_so (list_any is_marked copies) Kept

-- whether it moved an object out of the directory or into it
abbrev pub is_cross_kind : ResKind → Bool
is_cross_kind Add = false
is_cross_kind Drop = false
is_cross_kind Rename = false
is_cross_kind Cross = true
is_cross_kind Attr = false

-- a missing update moved an object out of the directory or into it
abbrev pub cross_rename : Copies → Option Why
cross_rename copies = where_so (list_any (λ u. is_cross_kind u.kind) (missing copies)) CrossRename

-- the lesser of two that stand so to each other
abbrev pub lesser_by : {X : Type 0} → Ordering → X → X → X
lesser_by Less one other = one
lesser_by Equal one other = one
lesser_by Greater one other = other

-- the least so far and one more: the lesser of them
abbrev pub least_with : {X : Type 0} → (X → X → Ordering) → Option X → X → Option X
least_with cmp None x = Some x
least_with cmp (Some least) x = Some (lesser_by (cmp least x) least x)

-- the least of them
abbrev pub least : {X : Type 0} → (X → X → Ordering) → List X → Option X
least cmp xs = fold (least_with cmp) None xs

-- the names that the update names, where the copies cannot be merged
abbrev pub conflicts_of : Copies → ResEntry → List Name
conflicts_of copies u = filter (λ n. not (is_some (binding copies n))) (names_of u)

-- the least name at which the copies cannot be merged
abbrev pub name_name : Copies → Option Why
name_name copies = option_map NameName (least name_cmp (flat_map (conflicts_of copies) (missing copies)))

-- the object that an update took out
abbrev pub fids_lost : Option Lost → List Fid
fids_lost None = []
fids_lost (Some lost) = lost.fid ∷ []

-- the objects that missing updates took out
abbrev pub all_lost : Copies → List Fid
all_lost copies = flat_map (λ u. fids_lost u.lost) (missing copies)

-- how often the fid stands in the list
abbrev pub times : Fid → List Fid → ℕ
times f [] = 0
times f (g ∷ gs) = cond (same_fid f g) 1 0 + times f gs

-- whether the copy binds the fid
abbrev pub binds_fid : Fid → Option Held → Bool
binds_fid f copy = list_any (same_fid f) (finmap.values (bindings_of copy))

-- whether a replica with these copies of the directory and of the object has the object, and doesn't bind it in the directory
abbrev pub is_elsewhere : Fid → Option Held × Option Held → Bool
is_elsewhere f p = is_some p.1 && not (binds_fid f p.0)

-- whether the fid is bound twice, or taken out by a missing update, or some replica has it and doesn't bind it in the directory
abbrev pub is_double : Copies → (Fid → Copies) → Fid → Bool
is_double copies look f = nat_le 2 (times f (finmap.values (merged_bindings copies))) || (list_any (same_fid f) (all_lost copies) || list_any (is_elsewhere f) (zip copies (look f)))

-- the least fid that the merged directory binds twice, or binds though a missing update took it out or though some replica has it elsewhere
abbrev pub double_name : Copies → (Fid → Copies) → Option Why
double_name copies look = option_map DoubleName (least fid_cmp (filter (is_double copies look) (finmap.values (merged_bindings copies))))

-- whether there is a copy that binds something or has updates that the vector hasn't
abbrev pub is_newer : Counts → Option Held → Bool
is_newer vector None = false
is_newer vector (Some held) = not (includes vector held.vector.0) || nat_le 1 (finmap.len (bindings_of (Some held)))

-- whether a replica that lacks the update has the object with something that the update didn't see
abbrev pub is_updated : Copies → Copies → ResEntry → Counts → Bool
is_updated copies objects u vector = list_any (λ (p : Option Held × Option Held). not (has_update u p.0) && is_newer vector p.1) (zip copies objects)

-- the object that the update took out, if a replica that lacks the update has it with something that the update didn't see
abbrev pub updated_of : Copies → (Fid → Copies) → ResEntry → Option Lost → List Fid
updated_of copies look u None = []
updated_of copies look u (Some lost) = cond (is_updated copies (look lost.fid) u lost.vector.0) (lost.fid ∷ []) []

-- the least fid that a missing update took out, while a replica that lacks the update has it with something that the update didn't see
abbrev pub remove_update : Copies → (Fid → Copies) → Option Why
remove_update copies look = option_map RemoveUpdate (least fid_cmp (flat_map (λ u. updated_of copies look u u.lost) (missing copies)))

-- no copy's missing changes of attributes contain every other's
abbrev pub attr_attr : Copies → Option Why
attr_attr copies = where_so (not (is_some (attributes_of copies))) AttrAttr

-- the update that stands in no log any more, if there is one
abbrev pub wrapped_by : Option (ℕ × ℕ) → Option Why
wrapped_by gap = option_map (λ (g : ℕ × ℕ). Wrapped g.0 g.1) gap

-- why the directory is marked, where it is: the first cause that holds
abbrev pub cause : Copies → (Fid → Copies) → Option Why
cause copies look = first_some (
    kept copies
    ∷ option_map (λ (gap : ℕ × ℕ). Wrapped gap.0 gap.1) (wrapped copies)
    ∷ cross_rename copies
    ∷ name_name copies
    ∷ double_name copies look
    ∷ remove_update copies look
    ∷ attr_attr copies
    ∷ [])
