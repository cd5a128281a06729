-- What becomes of an object at all replicas.
use Rattle.std.specs.Prelude.{Bool, true, false, not, cond, [], map, Option, Some, None}
use Rattle.std.specs.List.{list_any, list_all}
use Rattle.std.specs.FinMap as finmap
use Rattle.coda_fid.specs.declared.fid.Fid.{Fid}
use Rattle.coda_tree.specs.declared.node.NodeKind.{NodeKind}
use Rattle.coda_tree.specs.declared.node.NodeKind.TheVariants.{File, Link, Dir}
use Rattle.coda_vv.specs.Vector.{includes, no_updates}
use Rattle.coda_reslog.specs.declared.change.Held.{Held}
pub use Rattle.coda_resolve.specs.declared.fate.Fate.{Fate}
pub use Rattle.coda_resolve.specs.declared.fate.Fate.TheVariants.{Same, Marked, Gone}
use Rattle.coda_resolve.specs.declared.why.Why.{Why}
use Rattle.coda_resolve.specs.declared.why.Why.TheVariants.{Kept, FileFile}
use Rattle.coda_resolve.specs.Copies.{Copies, vector_of, is_marked, first_some}
use Rattle.coda_resolve.specs.Merged.{merged, attributes_of, first_of_copies}
use Rattle.coda_resolve.specs.Causes.{cause}

-- the directory is marked for the cause, or merged with the attributes of that copy
abbrev pub dir_fate : Copies → Option Why → Option Held → Fate
dir_fate copies (Some why) held = Marked why
dir_fate copies None None = Gone
dir_fate copies None (Some held) = Same (merged copies held)

-- the copy, where it is there and has each update that is in any copy
abbrev pub dominating : Copies → Option Held → Option Held
dominating copies None = None
dominating copies (Some held) = cond (list_all (λ other. includes held.vector.0 (vector_of other)) copies) (Some held) None

-- the file or link is marked, or everywhere the one that has all updates
abbrev pub leaf_fate : Bool → Option Held → Fate
leaf_fate true newest = Marked Kept
leaf_fate false None = Marked FileFile
leaf_fate false (Some held) = Same held

-- by what kind of object it is
abbrev pub fate_by : Copies → (Fid → Copies) → NodeKind → Fate
fate_by copies look (File content) = leaf_fate (list_any is_marked copies) (first_of_copies (dominating copies) copies)
fate_by copies look (Link target) = leaf_fate (list_any is_marked copies) (first_of_copies (dominating copies) copies)
fate_by copies look (Dir entries) = dir_fate copies (cause copies look) (attributes_of copies)

-- what becomes of the object that the lowest replica that has it holds so
abbrev pub fate_from : Copies → (Fid → Copies) → Option Held → Fate
fate_from copies look None = Gone
fate_from copies look (Some held) = fate_by copies look held.node.kind

-- what becomes of the object with these copies
abbrev pub fate : Copies → (Fid → Copies) → Fate
fate copies look = fate_from copies look (first_some copies)

-- the object, marked
abbrev pub marked : Held → Held
marked held = record held { node = record held.node { marked = true } }

-- the marked object where there was none: a directory is empty and has no updates
abbrev pub stand_in_by : Held → NodeKind → Held
stand_in_by held (File content) = marked held
stand_in_by held (Link target) = marked held
stand_in_by held (Dir entries) = record { node = record held.node { kind = Dir finmap.empty; marked = true }; vector = record { 0 = no_updates }; ring = Some [] }

-- likewise, from what the lowest replica that has the object holds
abbrev pub stand_in : Option Held → Option Held
stand_in None = None
stand_in (Some held) = Some (stand_in_by held held.node.kind)

-- what a replica then holds, from what it held and what the lowest one that has the object holds
abbrev pub settled_copy : Fate → Option Held → Option Held → Option Held
settled_copy (Same held) lowest copy = Some held
settled_copy (Marked why) lowest None = stand_in lowest
settled_copy (Marked why) lowest (Some own) = Some (marked own)
settled_copy Gone lowest copy = copy

-- what all replicas then hold
abbrev pub settled : Copies → (Fid → Copies) → Copies
settled copies look = map (settled_copy (fate copies look) (first_some copies)) copies

-- whether the mark is new: some replica has the object unmarked, or lacks it
abbrev pub is_new : Copies → Fate → Bool
is_new copies (Same held) = false
is_new copies (Marked why) = list_any (λ copy. not (is_marked copy)) copies
is_new copies Gone = false
