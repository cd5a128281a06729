-- What an accepted operation leaves as it was.
use Rattle.std.proofs.Common.{◌≡◌, ◌≢◌, ℕ, ◌||◌, true, false, Option, Some, None, is_some, option_map, refl, sym, ap, subst, ◌∙◌, inl, inr, ◌⊎◌}
use Rattle.std.specs.FinMap as map
use Rattle.std.proofs.lemmas.Bool.{false≢true}
use Rattle.std.proofs.lemmas.Option.{none-some}
use Rattle.coda_fid.specs.Fid.{same_fid}
use Rattle.coda_fid.specs.declared.fid.Fid.{Fid}
use Rattle.coda_fid.specs.declared.fid.Sid.{Sid}
use Rattle.coda_fid.specs.declared.op.Over.{Over}
use Rattle.coda_fid.specs.declared.op.Op.{Op}
use Rattle.coda_fid.specs.declared.op.Op.TheVariants.{Create, Mkdir, Symlink, Store, Setattr, Remove, Rmdir, Rename}
use Rattle.coda_fid.specs.declared.op.Record.{Record}
use Rattle.coda_fid.proofs.Fids.{fids_total, exact_fids}
use Rattle.coda_tree.specs.declared.node.Node.{Node}
use Rattle.coda_tree.specs.Bindings.{Name}
use Rattle.coda_tree.specs.Volume.{Nodes, has, IsDir, IsDirNode, IsDirAt, changed, bind_in, unbind_in, bound, unbound, Patch, written, additions, removals, moves, content_patch, attrs_patch, edited_all}
use Rattle.coda_tree.proofs.Order.{fid_cases, get_else, gone_here, gone_else}
use Rattle.coda_tree.proofs.Changes.{at_changed, off_changed, has_changed, dir_node, dir_changed}
use Rattle.coda_certify.specs.Replay.{empty_file, empty_dir, new_link, rename_effects, effects, sid_of, applied}
use Rattle.coda_cancel.proofs.Keys.{fid_other}
use Rattle.coda_cml.specs.Steady.{unbinds}
use Rattle.coda_venus.specs.Ask.{object_of}
use Rattle.coda_venus.specs.Accepting.{Sight}
use Rattle.coda_venus.proofs.Accepted.{MayMove, Relies}
use Rattle.coda_cell.proofs.AfterOperations.{still_bound, newly_bound, bound_before, IsBoundBy}
use Rattle.coda_runs.specs.Performed.{IsAsItWas, IsReplaced, OthersStay}
use Rattle.coda_runs.proofs.Performed.{binds_apart, over_gone}

-- ---- nodes

abbrev WasSo : Nodes → Fid → Node → Type 0
WasSo m f node = (was : Node) × (map.get m f ≡ Some was) × IsAsItWas was node

same_node : (node : Node) → IsAsItWas node node
same_node node = record { kind = inr refl; mode = refl; owner = refl; mtime = refl; sid = refl; marked = refl }

was_itself : (m : Nodes) (f : Fid) (node : Node) → map.get m f ≡ Some node → WasSo m f node
was_itself m f node is = (node, is, same_node node)

both_so : (a b c : Node) → IsAsItWas a b → IsAsItWas b c → IsAsItWas a c
both_so a b c first then_ = record {
  kind = elim first.kind [
    | inl dir ↦ inl dir
    | inr same ↦ elim then_.kind [ inl dir ↦ inl (subst IsDir same dir) | inr other ↦ inr (other ∙ same) ]
  ];
  mode = then_.mode ∙ first.mode;
  owner = then_.owner ∙ first.owner;
  mtime = then_.mtime ∙ first.mtime;
  sid = then_.sid ∙ first.sid;
  marked = then_.marked ∙ first.marked;
}

was_both : (m m' : Nodes) (f : Fid) (node : Node) → ((x : Node) → map.get m' f ≡ Some x → WasSo m f x) → WasSo m' f node → WasSo m f node
was_both m m' f node before now = (let first = before now.0 now.1 in (first.0, first.1, both_so first.0 now.0 node first.2 now.2))

some_node : (x y : Node) → Some x ≡ Some y → x ≡ y
some_node x y e = cc

-- a directory whose bindings change
was_changed : (m : Nodes) (d : Fid) (change : Node → Node) → IsDirAt m d → ((was : Node) → IsDir was.kind → IsAsItWas was (change was)) → (f : Fid) (node : Node) → map.get (changed m d change) f ≡ Some node → WasSo m f node
was_changed m d change dir so f node is = elim (fid_cases f d) [
  | inl at ↦ (
      let was = dir_node m d dir in
      let left : Some (change was.0) ≡ Some node = sym (ap (option_map change) was.1) ∙ sym (at_changed m d change) ∙ sym (ap (map.get (changed m d change)) at) ∙ is in
      (was.0, ap (map.get m) at ∙ was.1, subst (IsAsItWas was.0) (some_node (change was.0) node left) (so was.0 was.2)))
  | inr off ↦ was_itself m f node (sym (off_changed m d change f off) ∙ is)
]

binding_so : (name : Name) (f : Fid) (was : Node) → IsDir was.kind → IsAsItWas was (bind_in was name f)
binding_so name f was dir = record { kind = inl dir; mode = refl; owner = refl; mtime = refl; sid = refl; marked = refl }

unbinding_so : (name : Name) (was : Node) → IsDir was.kind → IsAsItWas was (unbind_in was name)
unbinding_so name was dir = record { kind = inl dir; mode = refl; owner = refl; mtime = refl; sid = refl; marked = refl }

-- one that is taken out elsewhere
was_taken : (m : Nodes) (gone f : Fid) (node : Node) → map.get (map.remove m gone) f ≡ Some node → map.get m f ≡ Some node
was_taken m gone f node is = elim (fid_cases f gone) [
  | inl same ↦ absurd (none-some node (sym (ap (map.get (map.remove m gone)) same ∙ gone_here fids_total m gone) ∙ is))
  | inr other ↦ sym (gone_else fids_total exact_fids m gone f other) ∙ is
]

were_added : (m : Nodes) (dir : Fid) (name : Name) (fid : Fid) (new : Node) (f : Fid) (node : Node) → IsDirAt m dir → f ≢ fid → map.get (edited_all m (additions dir name fid new)) f ≡ Some node → WasSo m f node
were_added m dir name fid new f node there other is =
    was_changed m dir (λ n. bind_in n name fid) there (binding_so name fid) f node (sym (get_else fids_total exact_fids (bound m dir name fid) fid new f other) ∙ is)

were_removed : (m : Nodes) (dir : Fid) (name : Name) (fid : Fid) (f : Fid) (node : Node) → IsDirAt m dir → map.get (edited_all m (removals dir name fid)) f ≡ Some node → WasSo m f node
were_removed m dir name fid f node there is = was_changed m dir (λ n. unbind_in n name) there (unbinding_so name) f node (was_taken (unbound m dir name) fid f node is)

were_moved : (m : Nodes) (from_dir : Fid) (from : Name) (to_dir : Fid) (to : Name) (fid : Fid) (f : Fid) (node : Node) → IsDirAt m from_dir → IsDirAt m to_dir → map.get (edited_all m (moves from_dir from to_dir to fid)) f ≡ Some node → WasSo m f node
were_moved m from_dir from to_dir to fid f node from_there to_there is =
    let less = unbound m from_dir from in
    was_both m less f node (was_changed m from_dir (λ n. unbind_in n from) from_there (unbinding_so from) f)
    (was_changed less to_dir (λ n. bind_in n to fid) (dir_changed m from_dir (λ n. unbind_in n from) (λ n _. tt) to_dir to_there) (binding_so to fid) f node is)

were_renamed : (m : Nodes) (from_dir : Fid) (from : Name) (to_dir : Fid) (to : Name) (fid : Fid) (over : Option Over) (f : Fid) (node : Node) → MayMove m from_dir from to_dir to fid over
    → map.get (edited_all m (rename_effects from_dir from to_dir to fid over)) f ≡ Some node → WasSo m f node
were_renamed m from_dir from to_dir to fid None f node may is = were_moved m from_dir from to_dir to fid f node may.places.from_there may.places.to_there is
were_renamed m from_dir from to_dir to fid (Some over) f node may is =
    let less = map.remove m over.fid in
    let from_apart = binds_apart m from_dir over.fid fid from may.bound may.replaced.2 in
    let to_apart = binds_apart m to_dir over.fid over.fid to may.places.bound may.replaced.2 in
    let from_there = subst IsDirNode (sym (gone_else fids_total exact_fids m over.fid from_dir from_apart)) may.places.from_there in
    let to_there = subst IsDirNode (sym (gone_else fids_total exact_fids m over.fid to_dir to_apart)) may.places.to_there in
    was_both m less f node (λ x there. was_itself m f x (was_taken m over.fid f x there)) (were_moved less from_dir from to_dir to fid f node from_there to_there is)

-- what is moved is there as it was
there_after : (m : Nodes) (from_dir : Fid) (from : Name) (to_dir : Fid) (to : Name) (fid : Fid) (over : Option Over) → MayMove m from_dir from to_dir to fid over → has m fid ≡ true
    → has (edited_all m (rename_effects from_dir from to_dir to fid over)) fid ≡ true
there_after m from_dir from to_dir to fid None may is = has_changed (unbound m from_dir from) to_dir (λ n. bind_in n to fid) fid ∙ has_changed m from_dir (λ n. unbind_in n from) fid ∙ is
there_after m from_dir from to_dir to fid (Some over) may is =
    let less = map.remove m over.fid in
    has_changed (unbound less from_dir from) to_dir (λ n. bind_in n to fid) fid ∙ has_changed less from_dir (λ n. unbind_in n from) fid
    ∙ ap is_some (gone_else fids_total exact_fids m over.fid fid (λ same. may.replaced.1 (sym same))) ∙ is

pub moved_whole : (m : Nodes) (from_dir : Fid) (from : Name) (to_dir : Fid) (to : Name) (fid : Fid) (over : Option Over) → MayMove m from_dir from to_dir to fid over → (before : Node) → map.get m fid ≡ Some before
    → (node : Node) × (map.get (edited_all m (rename_effects from_dir from to_dir to fid over)) fid ≡ Some node) × IsAsItWas before node
moved_whole m from_dir from to_dir to fid over may before is = by (map.get (edited_all m (rename_effects from_dir from to_dir to fid over)) fid) refl (there_after m from_dir from to_dir to fid over may (ap is_some is))
  where
    by : (o : Option Node) → map.get (edited_all m (rename_effects from_dir from to_dir to fid over)) fid ≡ o → is_some o ≡ true → (node : Node) × (map.get (edited_all m (rename_effects from_dir from to_dir to fid over)) fid ≡ Some node) × IsAsItWas before node
    by None e there = cc
    by (Some node) e there =
        let was = were_renamed m from_dir from to_dir to fid over fid node may e in
        (node, e, subst (λ b. IsAsItWas b node) (some_node was.0 before (sym was.1 ∙ is)) was.2)

were_written : (m : Nodes) (fid : Fid) (patch : Patch) (sid : Sid) (f : Fid) (node : Node) → f ≢ fid → map.get (changed m fid (written patch sid)) f ≡ Some node → WasSo m f node
were_written m fid patch sid f node other is = was_itself m f node (sym (off_changed m fid (written patch sid) f other) ∙ is)

were_by : (s : Sight) (volume time : ℕ) (sid : Sid) (op : Op) (f : Fid) (node : Node) → Relies s volume op → f ≢ object_of op → map.get (edited_all s.held.nodes (effects time sid op)) f ≡ Some node → WasSo s.held.nodes f node
were_by s volume time sid (Create dir name fid mode owner) f node r other is = were_added s.held.nodes dir name fid (empty_file mode owner time sid) f node r.place.dir_there other is
were_by s volume time sid (Mkdir dir name fid mode owner) f node r other is = were_added s.held.nodes dir name fid (empty_dir mode owner time sid) f node r.place.dir_there other is
were_by s volume time sid (Symlink dir name fid target mode owner) f node r other is = were_added s.held.nodes dir name fid (new_link target mode owner time sid) f node r.place.dir_there other is
were_by s volume time sid (Store fid pre content) f node r other is = were_written s.held.nodes fid (content_patch content time) sid f node other is
were_by s volume time sid (Setattr fid pre attrs) f node r other is = were_written s.held.nodes fid (attrs_patch attrs) sid f node other is
were_by s volume time sid (Remove dir name fid pre) f node r other is = were_removed s.held.nodes dir name fid f node r.0.dir_there is
were_by s volume time sid (Rmdir dir name fid pre) f node r other is = were_removed s.held.nodes dir name fid f node r.0.dir_there is
were_by s volume time sid (Rename from_dir from to_dir to fid over) f node r other is = were_renamed s.held.nodes from_dir from to_dir to fid over f node r is

-- ---- names

abbrev IsLeft : Nodes → Nodes → Fid → Type 0
IsLeft m n other = has m other ≡ true → has n other ≡ true

-- what is another object, and isn't gone, isn't taken from where it is bound
stays_bound : (s : Sight) (volume time : ℕ) (sid : Sid) (op : Op) (other : Fid) → Relies s volume op → other ≢ object_of op → IsLeft s.held.nodes (edited_all s.held.nodes (effects time sid op)) other → unbinds other op ≡ false
stays_bound s volume time sid (Create dir name fid mode owner) other r ne left = refl
stays_bound s volume time sid (Mkdir dir name fid mode owner) other r ne left = refl
stays_bound s volume time sid (Symlink dir name fid target mode owner) other r ne left = refl
stays_bound s volume time sid (Store fid pre content) other r ne left = refl
stays_bound s volume time sid (Setattr fid pre attrs) other r ne left = refl
stays_bound s volume time sid (Remove dir name fid pre) other r ne left = fid_other fid other (λ same. ne (sym same))
stays_bound s volume time sid (Rmdir dir name fid pre) other r ne left = fid_other fid other (λ same. ne (sym same))
stays_bound s volume time sid (Rename from_dir from to_dir to fid None) other r ne left = ap (λ b. b || false) (fid_other fid other (λ same. ne (sym same)))
stays_bound s volume time sid (Rename from_dir from to_dir to fid (Some over)) other r ne left =
    let gone : has (edited_all (map.remove s.held.nodes over.fid) (moves from_dir from to_dir to fid)) over.fid ≡ false = ap is_some (over_gone s.held.nodes over.fid from_dir from to_dir to fid) in
    ap (λ b. b || same_fid over.fid other) (fid_other fid other (λ same. ne (sym same)))
    ∙ fid_other over.fid other (λ same. false≢true (sym gone ∙ ap (has (edited_all (map.remove s.held.nodes over.fid) (moves from_dir from to_dir to fid))) same ∙ left (sym (ap (has s.held.nodes) same) ∙ r.replaced.0)))

-- what an operation binds is its object
binds_its_own : (op : Op) (dir : Fid) (name : Name) (other : Fid) → IsBoundBy op dir name other → other ≡ object_of op
binds_its_own (Create d n fid mode owner) dir name other at = at.2
binds_its_own (Mkdir d n fid mode owner) dir name other at = at.2
binds_its_own (Symlink d n fid target mode owner) dir name other at = at.2
binds_its_own (Store fid pre content) dir name other at = absurd at
binds_its_own (Setattr fid pre attrs) dir name other at = absurd at
binds_its_own (Remove d n fid pre) dir name other at = absurd at
binds_its_own (Rmdir d n fid pre) dir name other at = absurd at
binds_its_own (Rename from_dir from to_dir to fid over) dir name other at = at.2

-- ---- what is there

-- two directories change, and all that is there stays
there_moved : (m : Nodes) (from_dir : Fid) (from : Name) (to_dir : Fid) (to : Name) (fid f : Fid) → has (edited_all m (moves from_dir from to_dir to fid)) f ≡ has m f
there_moved m from_dir from to_dir to fid f = has_changed (unbound m from_dir from) to_dir (λ n. bind_in n to fid) f ∙ has_changed m from_dir (λ n. unbind_in n from) f

there_added : (m : Nodes) (dir : Fid) (name : Name) (fid : Fid) (new : Node) (f : Fid) → f ≢ fid → has (edited_all m (additions dir name fid new)) f ≡ has m f
there_added m dir name fid new f other = ap is_some (get_else fids_total exact_fids (bound m dir name fid) fid new f other) ∙ has_changed m dir (λ n. bind_in n name fid) f

there_removed : (m : Nodes) (dir : Fid) (name : Name) (fid f : Fid) → f ≢ fid → has (edited_all m (removals dir name fid)) f ≡ has m f
there_removed m dir name fid f other = ap is_some (gone_else fids_total exact_fids (unbound m dir name) fid f other) ∙ has_changed m dir (λ n. unbind_in n name) f

-- what is there stays, but an object whose name the operation gives to its own
stays_by : (s : Sight) (volume client number time : ℕ) (op : Op) (other : Fid) → Relies s volume op → other ≢ object_of op → has s.held.nodes other ≡ true
    → (let n = applied s.held.nodes client (record { number = number; time = time; op = op }) in (has n other ≡ true) ⊎ IsReplaced s.held.nodes n (object_of op) other)
unfolding applied
stays_by s volume client number time (Create dir name fid mode owner) other r ne there = inl (there_added s.held.nodes dir name fid (empty_file mode owner time (record { client = client; number = number })) other ne ∙ there)
stays_by s volume client number time (Mkdir dir name fid mode owner) other r ne there = inl (there_added s.held.nodes dir name fid (empty_dir mode owner time (record { client = client; number = number })) other ne ∙ there)
stays_by s volume client number time (Symlink dir name fid target mode owner) other r ne there = inl (there_added s.held.nodes dir name fid (new_link target mode owner time (record { client = client; number = number })) other ne ∙ there)
stays_by s volume client number time (Store fid pre content) other r ne there = inl (has_changed s.held.nodes fid (written (content_patch content time) (record { client = client; number = number })) other ∙ there)
stays_by s volume client number time (Setattr fid pre attrs) other r ne there = inl (has_changed s.held.nodes fid (written (attrs_patch attrs) (record { client = client; number = number })) other ∙ there)
stays_by s volume client number time (Remove dir name fid pre) other r ne there = inl (there_removed s.held.nodes dir name fid other ne ∙ there)
stays_by s volume client number time (Rmdir dir name fid pre) other r ne there = inl (there_removed s.held.nodes dir name fid other ne ∙ there)
stays_by s volume client number time (Rename from_dir from to_dir to fid None) other r ne there = inl (there_moved s.held.nodes from_dir from to_dir to fid other ∙ there)
stays_by s volume client number time (Rename from_dir from to_dir to fid (Some over)) other r ne there = elim (fid_cases other over.fid) [
  | inl same ↦ (
      let rec : Record = record { number = number; time = time; op = Rename from_dir from to_dir to fid (Some over) } in
      inr (to_dir, to, r.places.bound ∙ ap Some (sym same), newly_bound s volume client rec to_dir to fid r (refl, refl, refl)))
  | inr apart ↦ inl (there_moved (map.remove s.held.nodes over.fid) from_dir from to_dir to fid other ∙ ap is_some (gone_else fids_total exact_fids s.held.nodes over.fid other apart) ∙ there)
]

-- ---- all of it

pub others_stay : (s : Sight) (volume client : ℕ) (rec : Record) → Relies s volume rec.op → OthersStay s.held.nodes (applied s.held.nodes client rec) (object_of rec.op)
unfolding applied
others_stay s volume client rec relies = record {
  stay = λ other ne there. stays_by s volume client rec.number rec.time rec.op other relies ne there;
  bound = λ dir other name ne left was. still_bound s volume client rec dir name other relies was (stays_bound s volume rec.time (sid_of client rec) rec.op other relies ne left);
  were_bound = λ dir other name ne is. elim (bound_before s.held.nodes client rec dir name other is) [
    | inl was ↦ was
    | inr anew ↦ absurd (ne (binds_its_own rec.op dir name other anew))
  ];
  were = λ other node ne is. were_by s volume rec.time (sid_of client rec) rec.op other node relies ne is;
}
