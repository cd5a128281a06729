-- What is held below an object that an accepted operation takes out: nothing that the log mentions.
use Rattle.std.proofs.Common.{◌≡◌, ◌≢◌, ℕ, Bool, true, false, ◌==◌, ◌&&◌, List, [], ◌∷◌, ◌++◌, Option, Some, None, is_some, Ok, refl, sym, ap, subst, ◌∙◌, inl, inr}
use Rattle.std.specs.Prelude.{not}
use Rattle.std.specs.List.{list_any}
use Rattle.std.specs.Ordering.{eq_by_cmp}
use Rattle.std.specs.FinMap as map
use Rattle.std.proofs.lemmas.Bool.{or_cases, or_parts, false≢true}
use Rattle.std.proofs.lemmas.Option.{none-some}
use Rattle.coda_fid.specs.Fid.{fid_cmp, same_fid, root_of}
use Rattle.coda_fid.specs.declared.fid.Fid.{Fid}
use Rattle.coda_fid.specs.declared.fid.Sid.{Sid}
use Rattle.coda_fid.specs.declared.op.Attrs.{Attrs}
use Rattle.coda_fid.specs.declared.op.Op.{Op}
use Rattle.coda_fid.specs.declared.op.Op.TheVariants.{Create as CreateOp, Mkdir as MkdirOp, Symlink as SymlinkOp, Store as StoreOp, Setattr as SetattrOp, Remove as RemoveOp, Rmdir as RmdirOp, Rename as RenameOp}
use Rattle.coda_fid.specs.declared.op.Record.{Record}
use Rattle.coda_tree.specs.declared.node.Node.{Node}
use Rattle.coda_tree.specs.declared.node.NodeKind.{NodeKind}
use Rattle.coda_tree.specs.declared.node.NodeKind.TheVariants.{File, Link, Dir}
use Rattle.coda_tree.specs.Bindings.{Name}
use Rattle.coda_tree.specs.Volume.{has}
use Rattle.coda_tree.proofs.Parents.{tied_fid}
use Rattle.coda_cancel.specs.Dropping.{creates}
use Rattle.coda_cancel.proofs.Keys.{fid_other}
use Rattle.coda_certify.specs.Replay.{applied}
use Rattle.coda_cml.specs.Steady.{any_record, makes_in, unbinds}
use Rattle.coda_cml.proofs.runs.WithoutObject.{any-append}
use Rattle.coda_venus.specs.declared.refused.Refused.TheVariants.{Exists, IsDir as IsADirectory, Loop}
use Rattle.coda_venus.specs.Ask.{Asked, Create, Mkdir, Symlink, Store, Setattr, Remove, Rmdir, Rename, Ending, ending}
use Rattle.coda_venus.specs.Held.{Held, is_below, some_below, taken_out}
use Rattle.coda_venus.specs.Looking.{then_find, held, resolve}
use Rattle.coda_cell.specs.State.{pending, ClientState}
use Rattle.coda_cell.specs.Accepting.{sight_of}
use Rattle.coda_venus.specs.Accepting.{Accepted, Sight, new_place, accept_creation, store_in, store_at, setattr_at, remove_in, remove_at, rmdir_of, rmdir_in, rmdir_at, spot, place, is_dir_kind, is_dir_at, replaced_by, move_to, rename_to, rename_root, accept_rename, accept_remove, accept_rmdir, accept}
use Rattle.coda_venus.proofs.Accepted.{Relies, accepted_relies, found_then, ok_is, not_at_root, root_stays, unless_below}
use Rattle.coda_cell.proofs.AfterOperations.{has_operation}
use Rattle.coda_histories.proofs.Ways.{some_fid}
use Rattle.coda_histories.proofs.Forests.{no_dir}
use Rattle.coda_histories.specs.Forests.{ParentsAreDirs}
use Rattle.coda_histories.proofs.Ways.{below_alone}
use Rattle.coda_cell.proofs.Going.{taken_none}
use Rattle.coda_cell.proofs.KeptChildren.{any_parts, any_last, makes_creates}
use Rattle.coda_cell.proofs.Mentioned.{log_mentions}

-- a removal is of what is no directory, and a rmdir of one below which nothing is held that the log mentions
abbrev pub IsClear : Sight → Op → Type 0
IsClear s (RemoveOp dir name fid pre) = is_dir_at (map.get s.held.nodes fid) ≡ false
IsClear s (RmdirOp dir name fid pre) = some_below s.held s.is_dirty fid ≡ false
IsClear s op = Unit {0}

module _ (s : Sight) (volume : ℕ) (op : Op) where
  abbrev Clear : Type 0
  Clear = IsClear s op

  -- it is another operation
  other_than : (other : Op) → IsClear s other → (let ok : Op → Accepted = λ o. Ok o in ok other ≡ ok op) → Clear
  other_than other clear is = subst (IsClear s) (ok_is other op is) clear

  created : (e : Ending) (make : Fid → Name → Fid → Op) → ((dir : Fid) (name : Name) (fid : Fid) → IsClear s (make dir name fid)) → accept_creation s volume e make ≡ Ok op → Clear
  created None make clear h = absurd (not_at_root s volume Exists op h)
  created (Some e) make clear h =
      let a = found_then (new_place s volume e) (λ p. Ok (make p.0 e.1 p.1)) op h in
      other_than (make a.0.0 e.1 a.0.1) (clear a.0.0 e.1 a.0.1) a.2

  stored : (kind : NodeKind) (fid : Fid) (pre : Sid) (content : List ℕ) → store_in kind fid pre content ≡ Ok op → Clear
  stored (File old) fid pre content h = other_than (StoreOp fid pre content) tt h
  stored (Link target) fid pre content h = cc
  stored (Dir entries) fid pre content h = cc

  stored_at : (o : Option Node) (fid : Fid) (content : List ℕ) → store_at o fid content ≡ Ok op → Clear
  stored_at None fid content h = cc
  stored_at (Some node) fid content h = stored node.kind fid node.sid content h

  changed_at : (o : Option Node) (fid : Fid) (attrs : Attrs) → setattr_at o fid attrs ≡ Ok op → Clear
  changed_at None fid attrs h = cc
  changed_at (Some node) fid attrs h = other_than (SetattrOp fid node.sid attrs) tt h

  removed : (kind : NodeKind) (dir : Fid) (name : Name) (fid : Fid) (pre : Sid) → is_dir_at (map.get s.held.nodes fid) ≡ is_dir_kind kind → remove_in kind dir name fid pre ≡ Ok op → Clear
  removed (File content) dir name fid pre is h = other_than (RemoveOp dir name fid pre) is h
  removed (Link target) dir name fid pre is h = other_than (RemoveOp dir name fid pre) is h
  removed (Dir entries) dir name fid pre is h = cc

  removed_at : (o : Option Node) (dir : Fid) (name : Name) (fid : Fid) → map.get s.held.nodes fid ≡ o → remove_at o dir name fid ≡ Ok op → Clear
  removed_at None dir name fid is h = cc
  removed_at (Some node) dir name fid is h = removed node.kind dir name fid node.sid (ap is_dir_at is) h

  emptied : (empty below : Bool) (dir : Fid) (name : Name) (fid : Fid) (pre : Sid) → some_below s.held s.is_dirty fid ≡ below → rmdir_of (empty && not below) dir name fid pre ≡ Ok op → Clear
  emptied true true dir name fid pre is h = cc
  emptied true false dir name fid pre is h = other_than (RmdirOp dir name fid pre) is h
  emptied false below dir name fid pre is h = cc

  emptied_in : (kind : NodeKind) (dir : Fid) (name : Name) (fid : Fid) (pre : Sid) → rmdir_in s kind dir name fid pre ≡ Ok op → Clear
  emptied_in (File content) dir name fid pre h = cc
  emptied_in (Link target) dir name fid pre h = cc
  emptied_in (Dir entries) dir name fid pre h = emptied (map.len entries == 0) (some_below s.held s.is_dirty fid) dir name fid pre refl h

  emptied_at : (o : Option Node) (dir : Fid) (name : Name) (fid : Fid) → rmdir_at s o dir name fid ≡ Ok op → Clear
  emptied_at None dir name fid h = cc
  emptied_at (Some node) dir name fid h = emptied_in node.kind dir name fid node.sid h

  renamed : (from_dir : Fid) (from : Name) (fid : Fid) (to : Ending) → rename_to s volume from_dir from fid to ≡ Ok op → Clear
  renamed from_dir from fid None h = absurd (not_at_root s volume Exists op h)
  renamed from_dir from fid (Some e) h =
      let a = found_then (place s.held.nodes volume e) (λ p. move_to s.held from_dir from fid e.1 p) op h in
      let m = unless_below (is_below s.held.parents a.0.0 fid) (then_find (replaced_by s.held.nodes fid a.0.1) (λ over. Ok (RenameOp from_dir from a.0.0 e.1 fid over))) op a.2 in
      let b = found_then (replaced_by s.held.nodes fid a.0.1) (λ over. Ok (RenameOp from_dir from a.0.0 e.1 fid over)) op m in
      other_than (RenameOp from_dir from a.0.0 e.1 fid b.0) tt b.2

  rename_clear : (from to : Ending) → accept_rename s volume from to ≡ Ok op → Clear
  rename_clear None to h =
      let a = found_then (held (map.get s.held.nodes (root_of volume)) (root_of volume)) (λ _. rename_root s volume to) op h in
      absurd (root_stays s volume to op a.2)
  rename_clear (Some e) to h =
      let a = found_then (spot s.held.nodes volume e) (λ at. rename_to s volume at.0 e.1 at.1 to) op h in
      renamed a.0.0 e.1 a.0.1 to a.2

  remove_clear : (e : Ending) → accept_remove s volume e ≡ Ok op → Clear
  remove_clear None h = absurd (not_at_root s volume IsADirectory op h)
  remove_clear (Some e) h =
      let a = found_then (spot s.held.nodes volume e) (λ at. remove_at (map.get s.held.nodes at.1) at.0 e.1 at.1) op h in
      removed_at (map.get s.held.nodes a.0.1) a.0.0 e.1 a.0.1 refl a.2

  rmdir_clear : (e : Ending) → accept_rmdir s volume e ≡ Ok op → Clear
  rmdir_clear None h = absurd (not_at_root s volume Loop op h)
  rmdir_clear (Some e) h =
      let a = found_then (spot s.held.nodes volume e) (λ at. rmdir_at s (map.get s.held.nodes at.1) at.0 e.1 at.1) op h in
      emptied_at (map.get s.held.nodes a.0.1) a.0.0 e.1 a.0.1 a.2

-- so is each removal that is accepted
pub accepted_clear : (s : Sight) (volume : ℕ) (ask : Asked) (op : Op) → accept s volume ask ≡ Ok op → IsClear s op
unfolding accept
accepted_clear s volume (Create path mode owner) op h = created s volume op (ending path) (λ dir name fid. CreateOp dir name fid mode owner) (λ dir name fid. tt) h
accepted_clear s volume (Mkdir path mode owner) op h = created s volume op (ending path) (λ dir name fid. MkdirOp dir name fid mode owner) (λ dir name fid. tt) h
accepted_clear s volume (Symlink path target) op h = created s volume op (ending path) (λ dir name fid. SymlinkOp dir name fid target 511 0) (λ dir name fid. tt) h
accepted_clear s volume (Store path content) op h =
    let a = found_then (resolve s.held.nodes (root_of volume) path) (λ fid. store_at (map.get s.held.nodes fid) fid content) op h in
    stored_at s volume op (map.get s.held.nodes a.0) a.0 content a.2
accepted_clear s volume (Setattr path attrs) op h =
    let a = found_then (resolve s.held.nodes (root_of volume) path) (λ fid. setattr_at (map.get s.held.nodes fid) fid attrs) op h in
    changed_at s volume op (map.get s.held.nodes a.0) a.0 attrs a.2
accepted_clear s volume (Remove path) op h = remove_clear s volume op (ending path) h
accepted_clear s volume (Rmdir path) op h = rmdir_clear s volume op (ending path) h
accepted_clear s volume (Rename from to) op h = rename_clear s volume op (ending from) (ending to) h

-- ---- what is below

none_passes : (test : Fid → Bool) (fids : List Fid) (f : Fid) → list_any test fids ≡ false → list_any (eq_by_cmp fid_cmp f) fids ≡ true → test f ≡ false
none_passes test [] f none among = absurd (false≢true among)
none_passes test (g ∷ fids) f none among =
    let parts = or_parts (test g) (list_any test fids) none in
    elim (or_cases (eq_by_cmp fid_cmp f g) (list_any (eq_by_cmp fid_cmp f) fids) among) [
      | inl is ↦ ap test (tied_fid f g is) ∙ parts.0
      | inr rest ↦ none_passes test fids f parts.1 rest
    ]

-- an object that is held and passes isn't below another, where nothing below that passes
pub passes_apart : (h : Held) (test : Fid → Bool) (gone f : Fid) → some_below h test gone ≡ false → f ≢ gone → has h.nodes f ≡ true → test f ≡ true → is_below h.parents f gone ≡ false
unfolding some_below
passes_apart h test gone f none other there passes =
    let fails = none_passes (λ g. not (same_fid g gone) && (test g && is_below h.parents g gone)) (map.keys h.nodes) f none (sym (map.contains_key-keys h.nodes f) ∙ there) in
    sym (λ i. not (fid_other f gone other i) && (passes i && is_below h.parents f gone)) ∙ fails

-- what is no directory is nobody's parent
file_apart : (h : Held) (gone f : Fid) → ParentsAreDirs h → is_dir_at (map.get h.nodes gone) ≡ false → f ≢ gone → is_below h.parents f gone ≡ false
file_apart h gone f dirs file other = below_alone h.parents gone (λ kid is. no_dir (map.get h.nodes gone) (dirs kid gone is) file) f ∙ fid_other f gone other

-- nothing that the log mentions goes with what an operation takes out, but for that
mentioned_apart : (s : Sight) (volume : ℕ) (op : Op) (gone f : Fid) → Relies s volume op → IsClear s op → ParentsAreDirs s.held → taken_out op ≡ Some gone → f ≢ gone → has s.held.nodes f ≡ true → s.is_dirty f ≡ true → is_below s.held.parents f gone ≡ false
mentioned_apart s volume (CreateOp dir name fid mode owner) gone f r clear dirs is other there dirty = absurd (none-some gone is)
mentioned_apart s volume (MkdirOp dir name fid mode owner) gone f r clear dirs is other there dirty = absurd (none-some gone is)
mentioned_apart s volume (SymlinkOp dir name fid target mode owner) gone f r clear dirs is other there dirty = absurd (none-some gone is)
mentioned_apart s volume (StoreOp fid pre content) gone f r clear dirs is other there dirty = absurd (none-some gone is)
mentioned_apart s volume (SetattrOp fid pre attrs) gone f r clear dirs is other there dirty = absurd (none-some gone is)
mentioned_apart s volume (RemoveOp dir name fid pre) gone f r clear dirs is other there dirty =
    file_apart s.held gone f dirs (subst (λ g. is_dir_at (map.get s.held.nodes g) ≡ false) (some_fid fid gone is) clear) other
mentioned_apart s volume (RmdirOp dir name fid pre) gone f r clear dirs is other there dirty =
    passes_apart s.held s.is_dirty gone f (subst (λ g. some_below s.held s.is_dirty g ≡ false) (some_fid fid gone is) clear) other there dirty
mentioned_apart s volume (RenameOp from_dir from to_dir to fid None) gone f r clear dirs is other there dirty = absurd (none-some gone is)
mentioned_apart s volume (RenameOp from_dir from to_dir to fid (Some over)) gone f r clear dirs is other there dirty =
    file_apart s.held gone f dirs (subst (λ g. is_dir_at (map.get s.held.nodes g) ≡ false) (some_fid over.fid gone is) r.replaced.3) other

-- what takes something out creates nothing
takes_or_creates : (op : Op) (gone fid : Fid) → taken_out op ≡ Some gone → creates fid op ≡ false
takes_or_creates (CreateOp dir name it mode owner) gone fid is = absurd (none-some gone is)
takes_or_creates (MkdirOp dir name it mode owner) gone fid is = absurd (none-some gone is)
takes_or_creates (SymlinkOp dir name it target mode owner) gone fid is = absurd (none-some gone is)
takes_or_creates (StoreOp it pre content) gone fid is = refl
takes_or_creates (SetattrOp it pre attrs) gone fid is = refl
takes_or_creates (RemoveOp dir name it pre) gone fid is = refl
takes_or_creates (RmdirOp dir name it pre) gone fid is = refl
takes_or_creates (RenameOp from_dir from to_dir to it over) gone fid is = refl

-- a directory in which something was made that is pending, and left, stays where an operation is accepted
pub made_apart : (c : ClientState) (volume : ℕ) (ask : Asked) (rec : Record) → accept (sight_of c volume) volume ask ≡ Ok rec.op → ParentsAreDirs c.held → (gone dir kid : Fid) → taken_out rec.op ≡ Some gone → has (applied c.held.nodes c.number rec) dir ≡ true
    → any_record (makes_in dir kid) (pending (c.volumes volume) ++ rec ∷ []) ≡ true → any_record (unbinds kid) (pending (c.volumes volume) ++ rec ∷ []) ≡ false → is_below c.held.parents dir gone ≡ false
made_apart c volume ask rec accepted dirs gone dir kid is left made stays = elim (any_parts (makes_in dir kid) (pending (c.volumes volume)) (rec ∷ []) made) [
  | inl before ↦ mentioned_apart (sight_of c volume) volume rec.op gone dir (accepted_relies (sight_of c volume) volume ask rec.op accepted) (accepted_clear (sight_of c volume) volume ask rec.op accepted) dirs is other there
      (log_mentions dir kid (c.volumes volume) before (or_parts (any_record (unbinds kid) (pending (c.volumes volume))) (any_record (unbinds kid) (rec ∷ [])) (sym (any-append (unbinds kid) (pending (c.volumes volume)) (rec ∷ [])) ∙ stays)).0)
  | inr now ↦ absurd (false≢true (sym (takes_or_creates rec.op gone kid is) ∙ makes_creates rec.op dir kid (any_last (makes_in dir kid) rec now)))
]
  where
    other : dir ≢ gone
    other same = false≢true (sym (ap is_some (taken_none c.held.nodes c.number rec gone is)) ∙ subst (λ g. has (applied c.held.nodes c.number rec) g ≡ true) same left)

    there : has c.held.nodes dir ≡ true
    there = elim (has_operation c.held.nodes c.number rec dir left) [ inl old ↦ old | inr new ↦ absurd (false≢true (sym (takes_or_creates rec.op gone dir is) ∙ new)) ]
