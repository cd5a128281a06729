-- What a directory becomes where no cause marks it.
use Rattle.std.specs.Prelude.{◌≡◌, Bool, true, false, not, cond, ◌&&◌, ◌||◌, ◌==◌, List, [], ◌∷◌, ◌++◌, map, Option, Some, None}
use Rattle.std.specs.List.{filter, list_any, list_all, flat_map, filter_map, fold}
use Rattle.std.specs.FinMap as finmap
use Rattle.std.specs.FinSet as set
use Rattle.coda_fid.specs.Fid.{same_fid}
use Rattle.std.specs.Ordering.{eq_by_cmp}
use Rattle.coda_fid.specs.Name.{name_cmp}
use Rattle.coda_fid.specs.declared.fid.Fid.{Fid}
use Rattle.coda_tree.specs.declared.node.NodeKind.TheVariants.{Dir}
use Rattle.coda_tree.specs.Bindings.{Name, Bindings}
use Rattle.coda_tree.specs.Volume.{with_kind}
use Rattle.coda_vv.specs.Vector.{Counts, joined, no_updates}
use Rattle.coda_reslog.specs.declared.entry.ResEntry.{ResEntry}
use Rattle.coda_reslog.specs.Rings.{last_entries}
use Rattle.coda_reslog.specs.declared.entry.ResKind.{ResKind}
use Rattle.coda_reslog.specs.declared.entry.ResKind.TheVariants.{Add, Drop, Rename, Cross, Attr}
use Rattle.coda_reslog.specs.declared.change.Held.{Held}
use Rattle.coda_resolve.specs.Copies.{Copies, vector_of, bindings_of, log_of}
use Rattle.coda_resolve.specs.Missing.{missing, leader, leads}

-- ---- names

-- whether it is this name
abbrev pub is_name_of : Name → Option Name → Bool
is_name_of n None = false
is_name_of n (Some m) = eq_by_cmp name_cmp n m

-- an update on the name: it names it as the old or the new one
abbrev pub is_on : Name → ResEntry → Bool
is_on n u = is_name_of n u.name || is_name_of n u.other

-- both are the same fid, or none is there
abbrev pub same_binding : Option Fid → Option Fid → Bool
same_binding None None = true
same_binding None (Some f) = false
same_binding (Some f) None = false
same_binding (Some f) (Some g) = same_fid f g

-- what all copies bind alike at the name, where they do
abbrev pub shared : Name → Copies → Option (Option Fid)
shared n [] = None
shared n (copy ∷ copies) = cond (list_all (λ other. same_binding (finmap.get (bindings_of copy) n) (finmap.get (bindings_of other) n)) copies) (Some (finmap.get (bindings_of copy) n)) None

-- what that copy binds at the name, and where there is no such copy, what all bind alike
abbrev pub agreed : Name → Copies → Option (Option Held) → Option (Option Fid)
agreed n copies None = shared n copies
agreed n copies (Some copy) = Some (finmap.get (bindings_of copy) n)

-- what the merged directory binds at the name, where the copies can be merged there
abbrev pub binding : Copies → Name → Option (Option Fid)
binding copies n = agreed n copies (leader (is_on n) copies)

-- the name, where there is one
abbrev pub names_in : Option Name → List Name
names_in None = []
names_in (Some n) = n ∷ []

-- the names that the update names
abbrev pub names_of : ResEntry → List Name
names_of u = names_in u.name ++ names_in u.other

-- each name that some copy binds or some missing update names, in order
abbrev pub names : Copies → List Name
names copies = set.items (set.from_list {R = name_cmp} (flat_map (λ copy. finmap.keys (bindings_of copy)) copies ++ flat_map names_of (missing copies)))

-- the name with what it binds, where it binds something
abbrev pub bound_at : Name → Option (Option Fid) → Option (Name × Fid)
bound_at n None = None
bound_at n (Some None) = None
bound_at n (Some (Some f)) = Some (n, f)

-- what is bound, where the copies can be merged
abbrev pub flat : Option (Option Fid) → Option Fid
flat None = None
flat (Some o) = o

-- what the first of the copies binds
abbrev pub first_bindings : Copies → Bindings
first_bindings [] = finmap.empty
first_bindings (copy ∷ copies) = bindings_of copy

-- the second binds as the merged directory does where the test passes, and else as the first
abbrev pub IsSettled : Copies → (Name → Bool) → Bindings → Bindings → Type 0
IsSettled copies t old new = (n : Name) → finmap.get new n ≡ cond (t n) (flat (binding copies n)) (finmap.get old n)

-- what the merged directory binds
abbrev pub merged_bindings : Copies → Bindings
merged_bindings copies = finmap.from_entries (filter_map (λ n. bound_at n (binding copies n)) (names copies))

-- ---- attributes, updates, log

-- a change of the attributes
abbrev pub is_attr_kind : ResKind → Bool
is_attr_kind Add = false
is_attr_kind Drop = false
is_attr_kind Rename = false
is_attr_kind Cross = false
is_attr_kind Attr = true

-- whether the update changed the attributes
abbrev pub is_attr : ResEntry → Bool
is_attr u = is_attr_kind u.kind

-- the copy, if it is there and its missing changes of attributes contain every other's
abbrev pub leading : Copies → Option Held → Option Held
leading copies None = None
leading copies (Some held) = cond (leads is_attr copies (Some held)) (Some held) None

-- the first of two that is there
abbrev pub first_or : Option Held → Option Held → Option Held
first_or None other = other
first_or (Some held) other = Some held

-- the first that is picked from the copies
abbrev pub first_of_copies : (Option Held → Option Held) → Copies → Option Held
first_of_copies pick [] = None
first_of_copies pick (copy ∷ copies) = first_or (pick copy) (first_of_copies pick copies)

-- the lowest copy that is there and whose missing changes of attributes contain every other's
abbrev pub attributes_of : Copies → Option Held
attributes_of copies = first_of_copies (leading copies) copies

-- the updates of all copies
abbrev pub updates_of : Copies → Counts
updates_of [] = no_updates
updates_of (copy ∷ copies) = fold joined (vector_of copy) (map vector_of copies)

-- whether the update stands in the log
abbrev pub stands_in : List ResEntry → ResEntry → Bool
stands_in log u = list_any (λ v. (v.origin == u.origin) && (v.seq == u.seq)) log

-- the log, followed by the updates of the other that aren't there yet
abbrev pub followed_by : List ResEntry → List ResEntry → List ResEntry
followed_by log other = log ++ filter (λ u. not (stands_in log u)) other

-- the log of the lowest copy, followed by the updates of the next ones that aren't there yet
abbrev pub log_of_copies : Copies → List ResEntry
log_of_copies [] = []
log_of_copies (copy ∷ copies) = last_entries (fold followed_by (log_of copy) (map log_of copies))

-- the merged directory, with the attributes of that copy
abbrev pub merged : Copies → Held → Held
merged copies held = record {
  node = with_kind held.node (Dir (merged_bindings copies));
  vector = record { 0 = updates_of copies };
  ring = Some (log_of_copies copies);
}
