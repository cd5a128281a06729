-- The turns in which a volume is gone through: what they put is what is shown, and how frames hold those that are left.
use Rattle.std.proofs.Common.{◌≡◌, ℕ, zero, suc, ◌+◌, ◌-◌, ◌≤◌, ◌<◌, List, [], ◌∷◌, ◌++◌, length, take, drop, reverse, Option, Some, None, refl, sym, ap, ◌∙◌, subst, append_assoc, add-one, length-append, arith}
use Rattle.std.proofs.lemmas.Option.{same_Some, none-some}
use Rattle.std.specs.Prelude.{slice_get}
use Rattle.std.specs.List.{flat_map}
use Rattle.std.specs.FinMap as map
use Rattle.std.proofs.lemmas.List.Concat.{flat_map-append}
use Rattle.std.proofs.lemmas.List.{take_all, drop_all, length-take-le, length-reverse, reverse-append}
use Rattle.std.proofs.Math.Seq.{take-append_seam}
use Rattle.coda_fid.specs.Name.{name_cmp}
use Rattle.coda_fid.specs.Path.{behind_slashes}
use Rattle.coda_fid.specs.declared.fid.Fid.{Fid}
use Rattle.coda_tree.specs.declared.node.Node.{Node}
use Rattle.coda_tree.specs.declared.node.NodeKind.{NodeKind}
use Rattle.coda_tree.specs.declared.node.NodeKind.TheVariants.{File, Link, Dir}
use Rattle.coda_tree.specs.Bindings.{Name, Bindings}
use Rattle.coda_tree.specs.Volume.{Nodes, bindings}
use Rattle.coda_report.specs.declared.walk.Frame.{Frame}
use Rattle.coda_report.specs.Volumes.{Shown, shown_from, shown_below, path_order, line_at, object_line}
use Rattle.coda_report.specs.Walking.{shown_path, own_from, own_line, turns_in, turns_from, turns_below, entry_turns, turns_left, entries_left, turns_of, Nest}
use Rattle.std.proofs.lemmas.List.{append-nil}
use Rattle.coda_report.proofs.Slashes.{slashes_push, shown_names}

-- what turns put, one behind the other
abbrev pub put_by : List (List ℕ) → List ℕ
put_by turns = flat_map (λ turn. turn) turns

-- ---- what the turns put

-- the text of what parts give, and the parts of the text
regrouped : {X Y Z : Type 0} (f : Y → List Z) (g : X → List Y) (h : X → List Z) (xs : List X) → ((x : X) → flat_map f (g x) ≡ h x) → flat_map f (flat_map g xs) ≡ flat_map h xs
regrouped f g h [] each = refl
regrouped f g h (x ∷ xs) each = flat_map-append f (g x) (flat_map g xs) ∙ (λ i. each x i ++ regrouped f g h xs each i)

none_of_length : {X : Type 0} (xs : List X) → length xs ≡ 0 → xs ≡ []
none_of_length [] e = refl
none_of_length (x ∷ xs) e = absurd (omega arith)

no_entries : map.entries (map.empty {X = Fid} {R = name_cmp}) ≡ []
no_entries = none_of_length _ (sym (map.len-entries (map.empty {X = Fid} {R = name_cmp})) ∙ map.len-empty name_cmp Fid)

-- what a kind of node takes puts what is shown below it
in_kind : (kind : NodeKind) (turns : Name × Fid → List (List ℕ)) (below : Name × Fid → List Shown) → ((e : Name × Fid) → put_by (turns e) ≡ flat_map object_line (below e))
    → put_by (turns_in kind turns) ≡ flat_map object_line (flat_map below (map.entries (bindings kind)))
in_kind (File content) turns below each = sym (ap (λ es. flat_map object_line (flat_map below es)) no_entries)
in_kind (Link target) turns below each = sym (ap (λ es. flat_map object_line (flat_map below es)) no_entries)
in_kind (Dir entries) turns below each =
    let es = map.entries entries in
    flat_map-append (λ turn. turn) (flat_map turns es) ([] ∷ []) ∙ append-nil (put_by (flat_map turns es))
    ∙ regrouped (λ turn. turn) turns (λ e. put_by (turns e)) es (λ e. refl)
    ∙ sym (regrouped object_line below (λ e. put_by (turns e)) es (λ e. sym (each e)))

-- an object and what its turns put
in_object : (o : Option Node) (names : List Name) (fid : Fid) (turns : Name × Fid → List (List ℕ)) (below : Name × Fid → List Shown) → ((e : Name × Fid) → put_by (turns e) ≡ flat_map object_line (below e))
    → own_from o (behind_slashes names) fid ++ put_by (turns_from o turns) ≡ flat_map object_line (shown_from o names fid below)
in_object None names fid turns below each = refl
in_object (Some node) names fid turns below each = λ i. line_at (shown_names names i) fid node ++ in_kind node.kind turns below each i

-- the turns of an object put the lines of what is shown there
pub turns_show : (m : Nodes) (levels : ℕ) (names : List Name) (path : List ℕ) (fid : Fid) → path ≡ behind_slashes names → own_line m levels path fid ++ put_by (turns_below m levels path fid) ≡ flat_map object_line (shown_below m levels names fid)
unfolding own_line turns_below shown_below
turns_show m zero names path fid same = refl
turns_show m (suc levels) names path fid same =
    (λ i. own_from (map.get m fid) (same i) fid ++ put_by (turns_from (map.get m fid) (λ e. own_line m levels (same i ++ 47 ∷ e.0) e.1 ∷ turns_below m levels (same i ++ 47 ∷ e.0) e.1)))
    ∙ in_object (map.get m fid) names fid (entry_turns m levels (behind_slashes names)) (λ e. shown_below m levels (names ++ e.0 ∷ []) e.1)
    (λ e. turns_show m levels (names ++ e.0 ∷ []) (behind_slashes names ++ 47 ∷ e.0) e.1 (sym (slashes_push names e.0)))

-- ---- what is left after the line of an object

-- nothing where no levels are left
pub no_levels : (m : Nodes) (levels : ℕ) (path : List ℕ) (fid : Fid) → levels ≡ 0 → (own_line m levels path fid ≡ []) × (turns_below m levels path fid ≡ [])
unfolding own_line turns_below
no_levels m zero path fid e = (refl, refl)
no_levels m (suc levels) path fid e = absurd (omega arith)

-- and where nothing stands
pub not_there : (m : Nodes) (levels : ℕ) (path : List ℕ) (fid : Fid) → map.get m fid ≡ None → (own_line m levels path fid ≡ []) × (turns_below m levels path fid ≡ [])
unfolding own_line turns_below
not_there m zero path fid e = (refl, refl)
not_there m (suc levels) path fid e = (ap (λ o. own_from o path fid) e, ap (λ o. turns_from o (entry_turns m levels path)) e)

-- the line of a node that stands there
pub line_there : (m : Nodes) (levels : ℕ) (path : List ℕ) (fid : Fid) (node : Node) → 0 < levels → map.get m fid ≡ Some node → own_line m levels path fid ≡ line_at (shown_path path) fid node
unfolding own_line
line_there m zero path fid node some there = absurd (omega arith)
line_there m (suc levels) path fid node some there = ap (λ o. own_from o path fid) there

-- what its kind takes
turns_there : (m : Nodes) (levels below : ℕ) (path : List ℕ) (fid : Fid) (node : Node) (kind : NodeKind) → levels ≡ suc below → map.get m fid ≡ Some node → node.kind ≡ kind → turns_below m levels path fid ≡ turns_in kind (entry_turns m below path)
unfolding turns_below
turns_there m levels below path fid node kind more there is =
    ap (λ (n : ℕ). turns_below m n path fid) more ∙ ap (λ o. turns_from o (entry_turns m below path)) there ∙ ap (λ (k : NodeKind). turns_in k (entry_turns m below path)) is

-- ---- frames

-- a frame for the entries of a directory, over those below it
pub framed : (m : Nodes) (levels : ℕ) (path : List ℕ) (frames : List Frame) (frame : Frame) (fid : Fid) (node : Node) (entries : Bindings) → length frames < levels → map.get m fid ≡ Some node → node.kind ≡ Dir entries
    → entries ≡ frame.entries.now → frame.next ≡ 0 → frame.length ≡ length path
    → turns_of m levels path (frame ∷ frames) ≡ turns_below m (levels - length frames) path fid ++ turns_of m levels path frames
unfolding turns_of turns_left
framed m levels path frames frame fid node entries deep there is same first long =
    let whole : take frame.length path ≡ path = take_all frame.length path (omega arith) in
    let below = levels - suc (length frames) in
    let turns = turns_there m (levels - length frames) below path fid node (Dir entries) (omega arith) there is in
    let left : entries_left frame ≡ map.entries entries = ap (λ (n : ℕ). drop n (map.entries frame.entries.now)) first ∙ ap map.entries (sym same) in
    (λ i. turns_left m below (whole i) (left i) ++ turns_of m levels (whole i) frames) ∙ ap (λ t. t ++ turns_of m levels path frames) (sym turns)

-- the frame that was pushed last comes first
pub last_first : (old new : List Frame) (frame : Frame) → new ≡ old ++ frame ∷ [] → reverse new ≡ frame ∷ reverse old
last_first old new frame is = ap reverse is ∙ reverse-append old (frame ∷ [])

-- a frame that was pushed for the entries of a directory
pub pushed : (m : Nodes) (levels : ℕ) (path : List ℕ) (old new : List Frame) (frame : Frame) (fid : Fid) (node : Node) (entries : Bindings) → new ≡ old ++ frame ∷ [] → length old < levels → map.get m fid ≡ Some node → node.kind ≡ Dir entries
    → entries ≡ frame.entries.now → frame.next ≡ 0 → frame.length ≡ length path
    → turns_of m levels path (reverse new) ≡ turns_below m (levels - length old) path fid ++ turns_of m levels path (reverse old)
pushed m levels path old new frame fid node entries more deep there is same first long =
    let size = length-reverse old in
    ap (turns_of m levels path) (last_first old new frame more)
    ∙ framed m levels path (reverse old) frame fid node entries (omega arith) there is same first long
    ∙ ap (λ (n : ℕ). turns_below m (levels - n) path fid ++ turns_of m levels path (reverse old)) size

-- nothing is left below a node that is no directory
pub no_turns : (m : Nodes) (levels : ℕ) (path : List ℕ) (fid : Fid) (node : Node) (kind : NodeKind) (rest : List (List ℕ)) → 0 < levels → map.get m fid ≡ Some node → node.kind ≡ kind → turns_in kind (entry_turns m (levels - 1) path) ≡ []
    → rest ≡ turns_below m levels path fid ++ rest
no_turns m levels path fid node kind rest some there is leaf = sym (ap (λ t. t ++ rest) (turns_there m levels (levels - 1) path fid node kind (omega arith) there is ∙ leaf))

-- nothing behind a text
pub with_none : (xs ys : List ℕ) → ys ≡ [] → xs ≡ xs ++ ys
with_none xs ys e = sym (append-nil xs) ∙ ap (λ zs. xs ++ zs) (sym e)

-- nothing before what is left
pub behind_none : (xs ys : List (List ℕ)) → xs ≡ [] → ys ≡ xs ++ ys
behind_none xs ys e = sym (ap (λ t. t ++ ys) e)

-- the entries from an index on begin with the one that stands there
drop_at : {X : Type 0} (xs : List X) (i : ℕ) (x : X) → slice_get xs i ≡ Some x → drop i xs ≡ x ∷ drop (suc i) xs
drop_at [] i x is = absurd (none-some x is)
drop_at (first ∷ xs) zero x is = ap (λ y. y ∷ xs) (same_Some first x is)
drop_at (first ∷ xs) (suc i) x is = drop_at xs i x is

-- a path cut back to that of its directory
cut_back : (path name : List ℕ) (n : ℕ) → n ≤ length path → take n (take n path ++ name) ≡ take n path
cut_back path name n le = ap (λ (k : ℕ). take k (take n path ++ name)) (sym (length-take-le n path le)) ∙ take-append_seam (take n path) name

-- a directory whose entries are all shown takes one turn more
pub frame_left : (m : Nodes) (levels : ℕ) (path : List ℕ) (frame : Frame) (frames : List Frame) → length (map.entries frame.entries.now) ≤ frame.next
    → turns_of m levels path (frame ∷ frames) ≡ [] ∷ turns_of m levels (take frame.length path) frames
unfolding turns_of turns_left
frame_left m levels path frame frames past =
    ap (λ (es : List (Name × Fid)). turns_left m (levels - suc (length frames)) (take frame.length path) es ++ turns_of m levels (take frame.length path) frames) (drop_all frame.next (map.entries frame.entries.now) past)

-- the turns of an entry, of those behind it and of the frames below
split_turns : (own : List ℕ) (below more last rest : List (List ℕ)) → ((own ∷ below ++ more) ++ last) ++ rest ≡ own ∷ (below ++ ((more ++ last) ++ rest))
split_turns own below more last rest = simp append_assoc

-- the turn of an entry puts its own line, and leaves what stands below it, the entries behind it, and the frames below
pub frame_turn : (m : Nodes) (levels : ℕ) (path named : List ℕ) (frame back : Frame) (frames : List Frame) (e : Name × Fid) → slice_get (map.entries frame.entries.now) frame.next ≡ Some e
    → back.entries.now ≡ frame.entries.now → back.next ≡ frame.next + 1 → back.length ≡ frame.length → frame.length ≤ length path → named ≡ take frame.length path ++ 47 ∷ e.0
    → turns_of m levels path (frame ∷ frames) ≡ own_line m (levels - suc (length frames)) named e.1 ∷ (turns_below m (levels - suc (length frames)) named e.1 ++ turns_of m levels named (back ∷ frames))
unfolding turns_of turns_left
frame_turn m levels path named frame back frames e is same next long le at =
    let below = levels - suc (length frames) in
    let here = take frame.length path in
    let es = map.entries frame.entries.now in
    let left : entries_left frame ≡ e ∷ drop (suc frame.next) es = drop_at es frame.next e is in
    let cut : take back.length named ≡ here = (λ i. take (long i) (at i)) ∙ cut_back path (47 ∷ e.0) frame.length le in
    let after : entries_left back ≡ drop (suc frame.next) es = (λ i. drop (next i) (map.entries (same i))) ∙ ap (λ (n : ℕ). drop n es) (add-one frame.next) in
    ap (λ (xs : List (Name × Fid)). turns_left m below here xs ++ turns_of m levels here frames) left
    ∙ split_turns (own_line m below (here ++ 47 ∷ e.0) e.1) (turns_below m below (here ++ 47 ∷ e.0) e.1) (flat_map (entry_turns m below here) (drop (suc frame.next) es)) ([] ∷ []) (turns_of m levels here frames)
    ∙ sym (λ i. own_line m below (at i) e.1 ∷ (turns_below m below (at i) e.1 ++ (turns_left m below (cut i) (after i) ++ turns_of m levels (cut i) frames)))

-- ---- the paths of frames

pub nest_left : (path : List ℕ) (frame : Frame) (frames : List Frame) → Nest path (frame ∷ frames) → (frame.length ≤ length path) × Nest (take frame.length path) frames
unfolding Nest
nest_left path frame frames n = n

pub nest_framed : (path : List ℕ) (frame : Frame) (frames : List Frame) → frame.length ≡ length path → Nest path frames → Nest path (frame ∷ frames)
unfolding Nest
nest_framed path frame frames long n = (omega arith, subst (λ p. Nest p frames) (sym (take_all frame.length path (omega arith))) n)

pub nest_turn : (path named name : List ℕ) (frame back : Frame) (frames : List Frame) → back.length ≡ frame.length → named ≡ take frame.length path ++ name → Nest path (frame ∷ frames) → Nest named (back ∷ frames)
unfolding Nest
nest_turn path named name frame back frames long at n =
    let le = n.0 in
    let cut : take back.length named ≡ take frame.length path = (λ i. take (long i) (at i)) ∙ cut_back path name frame.length le in
    let size : length named ≡ length (take frame.length path) + length name = ap length at ∙ length-append (take frame.length path) name in
    (omega (arith, size, length-take-le frame.length path le), subst (λ p. Nest p frames) (sym cut) n.1)

-- ---- the whole walk

-- the root's own line and the turns below it put all that is shown
pub whole_walk : (m : Nodes) (root : Fid) → own_line m (map.len m) [] root ++ put_by (turns_below m (map.len m) [] root) ≡ flat_map object_line (path_order root m)
unfolding path_order
whole_walk m root = turns_show m (map.len m) [] [] root refl

-- no frames take no turns
pub no_frames : (m : Nodes) (levels : ℕ) (path : List ℕ) → turns_of m levels path [] ≡ []
unfolding turns_of
no_frames m levels path = refl

pub nest_none : (path : List ℕ) → Nest path []
unfolding Nest
nest_none path = tt

-- a turn that showed an entry: after it, the frame is back with the entries behind it, and what stands below the entry is
-- left before them
pub turn_done : (m : Nodes) (levels : ℕ) (path named : List ℕ) (old mid after : List Frame) (frame back : Frame) (e : Name × Fid) → slice_get (map.entries frame.entries.now) frame.next ≡ Some e
    → back.entries.now ≡ frame.entries.now → back.next ≡ frame.next + 1 → back.length ≡ frame.length → frame.length ≤ length path → named ≡ take frame.length path ++ 47 ∷ e.0 → mid ≡ old ++ back ∷ []
    → turns_of m levels named (reverse after) ≡ turns_below m (levels - length mid) named e.1 ++ turns_of m levels named (reverse mid)
    → turns_of m levels path (frame ∷ reverse old) ≡ own_line m (levels - length mid) named e.1 ∷ turns_of m levels named (reverse after)
turn_done m levels path named old mid after frame back e is same next long le at more left =
    let size : suc (length (reverse old)) ≡ length mid = omega (arith, ap length more, length-append old (back ∷ []), length-reverse old) in
    let first = last_first old mid back more in
    frame_turn m levels path named frame back (reverse old) e is same next long le at
    ∙ (λ i. own_line m (levels - size i) named e.1 ∷ (turns_below m (levels - size i) named e.1 ++ turns_of m levels named (sym first i)))
    ∙ ap (λ t. own_line m (levels - length mid) named e.1 ∷ t) (sym left)

-- a walk begins with the root's own line
pub walk_begins : (m : Nodes) (levels : ℕ) (root : Fid) (old new path : List ℕ) (none after : List Frame) → levels ≡ map.len m → path ≡ [] → none ≡ [] → new ≡ old ++ own_line m (levels - length none) path root
    → turns_of m levels path (reverse after) ≡ turns_below m (levels - length none) path root ++ turns_of m levels path (reverse none)
    → new ++ put_by (turns_of m levels path (reverse after)) ≡ old ++ flat_map object_line (path_order root m)
walk_begins m levels root old new path none after count top empty first left =
    let depth : levels - length none ≡ map.len m = omega (arith, count, ap length empty) in
    let nothing : turns_of m levels path (reverse none) ≡ [] = ap (λ fs. turns_of m levels path (reverse fs)) empty ∙ no_frames m levels path in
    (λ i. first i ++ put_by (left i))
    ∙ (λ i. (old ++ own_line m (depth i) (top i) root) ++ put_by (turns_below m (depth i) (top i) root ++ nothing i))
    ∙ ap (λ t. (old ++ own_line m (map.len m) [] root) ++ put_by t) (append-nil (turns_below m (map.len m) [] root))
    ∙ append_assoc old (own_line m (map.len m) [] root) (put_by (turns_below m (map.len m) [] root))
    ∙ ap (λ t. old ++ t) (whole_walk m root)

-- and ends where no frames are left
pub walk_ends : (m : Nodes) (levels : ℕ) (out whole path : List ℕ) (frames : List Frame) → length frames ≡ 0 → out ++ put_by (turns_of m levels path (reverse frames)) ≡ whole → out ≡ whole
walk_ends m levels out whole path frames none is =
    let nothing : turns_of m levels path (reverse frames) ≡ [] = ap (λ fs. turns_of m levels path (reverse fs)) (none_of_length frames none) ∙ no_frames m levels path in
    sym (append-nil out) ∙ ap (λ t. out ++ put_by t) (sym nothing) ∙ is

-- a turn moves its text from what is left to what was put
pub turn_kept : (out turn new whole : List ℕ) (turns rest : List (List ℕ)) → out ++ put_by turns ≡ whole → new ≡ out ++ turn → turns ≡ turn ∷ rest → new ++ put_by rest ≡ whole
turn_kept out turn new whole turns rest before more is =
    ap (λ t. t ++ put_by rest) more ∙ append_assoc out turn (put_by rest) ∙ ap (λ t. out ++ put_by t) (sym is) ∙ before
