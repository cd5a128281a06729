-- What a run created stays where it put it, unless the run took it from there: after operations, after fetches, and for the rest
-- of the run.
use Rattle.std.proofs.Common.{◌≡◌, ℕ, Bool, true, false, ◌||◌, not, List, [], ◌∷◌, ◌++◌, Option, Some, None, refl, sym, ap, ◌∙◌, inl, inr, ◌⊎◌}
use Rattle.std.specs.FinMap as map
use Rattle.std.specs.List.{list_any}
use Rattle.std.proofs.lemmas.Bool.{cases_Bool, and_parts, or_cases, or_left, or_right, or_parts, false≢true}
use Rattle.std.proofs.lemmas.Option.{none-some}
use Rattle.coda_fid.specs.Fid.{same_fid}
use Rattle.coda_fid.specs.Op.{over_fids}
use Rattle.coda_fid.specs.declared.fid.Fid.{Fid}
use Rattle.coda_fid.specs.declared.op.Over.{Over}
use Rattle.coda_fid.specs.declared.op.Op.{Op}
use Rattle.coda_fid.specs.declared.op.Op.TheVariants.{Create as CreateOp, Mkdir as MkdirOp, Symlink as SymlinkOp, Store as StoreOp, Setattr as SetattrOp, Remove as RemoveOp, Rmdir as RmdirOp, Rename as RenameOp}
use Rattle.coda_fid.specs.declared.op.Record.{Record}
use Rattle.coda_tree.specs.declared.node.Node.{Node}
use Rattle.coda_tree.specs.Bindings.{Name}
use Rattle.coda_tree.specs.Volume.{Nodes, child, has, parent_of}
use Rattle.coda_certify.specs.Replay.{applied}
use Rattle.coda_cancel.specs.Dropping.{mentioning, creates}
use Rattle.coda_cancel.specs.Cancel.{add}
use Rattle.coda_cancel.proofs.Keys.{fid_true, fid_same}
use Rattle.coda_cml.specs.Steady.{any_record, makes_in, unbinds, is_over, ChildrenLeft, RemovesEmpty, GoesOn, IsSteady}
use Rattle.coda_cml.proofs.runs.WithoutObject.{any-append}
use Rattle.coda_cell.specs.Held.{held_after_fetches}
use Rattle.coda_venus.specs.Held.{Parents, Held, is_below, taken_out, stays, held_without}
use Rattle.coda_cell.specs.Looking.{offered, fetch_of, looked}
use Rattle.coda_venus.specs.Accepting.{Sight}
use Rattle.coda_cell.specs.Kept.{AreChildrenKept}
use Rattle.coda_venus.proofs.Accepted.{Relies}
use Rattle.coda_histories.proofs.Ways.{some_fid}
use Rattle.coda_cell.proofs.Fetches.{child_fetched}
use Rattle.coda_cell.proofs.AfterOperations.{IsBoundBy, still_bound, newly_bound}
use Rattle.coda_histories.proofs.Forests.{binds_there}
use Rattle.coda_cell.proofs.Going.{left_binds}

-- one of two runs passes
pub any_parts : (test : Op → Bool) (front back : List Record) → any_record test (front ++ back) ≡ true → (any_record test front ≡ true) ⊎ (any_record test back ≡ true)
any_parts test front back h = or_cases (any_record test front) (any_record test back) (sym (any-append test front back) ∙ h)

any_front : (test : Op → Bool) (front back : List Record) → any_record test front ≡ true → any_record test (front ++ back) ≡ true
any_front test front back h = any-append test front back ∙ or_left (any_record test front) (any_record test back) h

any_back : (test : Op → Bool) (front back : List Record) → any_record test back ≡ true → any_record test (front ++ back) ≡ true
any_back test front back h = any-append test front back ∙ or_right (any_record test front) (any_record test back) h

-- the last record
pub any_last : (test : Op → Bool) (rec : Record) → any_record test (rec ∷ []) ≡ true → test rec.op ≡ true
any_last test rec h = elim (or_cases (test rec.op) false h) [ inl is ↦ is | inr none ↦ absurd (false≢true none) ]

any_one : (test : Op → Bool) (rec : Record) → test rec.op ≡ true → any_record test (rec ∷ []) ≡ true
any_one test rec h = or_left (test rec.op) false h

-- where a creation binds its child
made_at : (op : Op) (dir kid : Fid) → makes_in dir kid op ≡ true → (name : Name) × IsBoundBy op dir name kid
made_at (CreateOp home name it mode owner) dir kid h = let are = and_parts (same_fid home dir) (same_fid it kid) h in (name, (sym (fid_true home dir are.0), refl, sym (fid_true it kid are.1)))
made_at (MkdirOp home name it mode owner) dir kid h = let are = and_parts (same_fid home dir) (same_fid it kid) h in (name, (sym (fid_true home dir are.0), refl, sym (fid_true it kid are.1)))
made_at (SymlinkOp home name it target mode owner) dir kid h = let are = and_parts (same_fid home dir) (same_fid it kid) h in (name, (sym (fid_true home dir are.0), refl, sym (fid_true it kid are.1)))
made_at (StoreOp it pre content) dir kid h = absurd (false≢true h)
made_at (SetattrOp it pre attrs) dir kid h = absurd (false≢true h)
made_at (RemoveOp home name it pre) dir kid h = absurd (false≢true h)
made_at (RmdirOp home name it pre) dir kid h = absurd (false≢true h)
made_at (RenameOp from_dir from to_dir to it over) dir kid h = absurd (false≢true h)

-- what is kept stays so as the run goes on with an operation
pub kept_children_operation : (s : Sight) (volume client : ℕ) (rec : Record) (run : List Record) → AreChildrenKept s.held.nodes run → Relies s volume rec.op → AreChildrenKept (applied s.held.nodes client rec) (run ++ rec ∷ [])
kept_children_operation s volume client rec run kept relies = λ dir kid made. elim (any_parts (makes_in dir kid) run (rec ∷ []) made) [
  | inl before ↦ elim (kept dir kid before) [
    | inl left ↦ inl (any_front (unbinds kid) run (rec ∷ []) left)
    | inr at ↦ elim (cases_Bool (unbinds kid rec.op)) [
      | inl goes ↦ inl (any_back (unbinds kid) run (rec ∷ []) (any_one (unbinds kid) rec goes))
      | inr stays ↦ inr (at.0, still_bound s volume client rec dir at.0 kid relies at.1 stays)
    ]
  ]
  | inr now ↦ (let at = made_at rec.op dir kid (any_last (makes_in dir kid) rec now) in inr (at.0, newly_bound s volume client rec dir at.0 kid relies at.1))
]

-- what another run keeps stays so where the operation takes none of its objects from where they are
pub kept_children_beside : (s : Sight) (volume client : ℕ) (rec : Record) (run : List Record) → AreChildrenKept s.held.nodes run → Relies s volume rec.op
    → ((dir kid : Fid) → any_record (makes_in dir kid) run ≡ true → unbinds kid rec.op ≡ false) → AreChildrenKept (applied s.held.nodes client rec) run
kept_children_beside s volume client rec run kept relies others = λ dir kid made. elim (kept dir kid made) [
  | inl left ↦ inl left
  | inr at ↦ inr (at.0, still_bound s volume client rec dir at.0 kid relies at.1 (others dir kid made))
]

-- and where an object goes with all that was held below it, if no directory goes in which the run made something that it left there
pub kept_children_going : (gone : Option Fid) (parents : Parents) (h : Held) (run : List Record) → AreChildrenKept h.nodes run
    → ((g dir kid : Fid) → gone ≡ Some g → has h.nodes dir ≡ true → any_record (makes_in dir kid) run ≡ true → any_record (unbinds kid) run ≡ false → is_below parents dir g ≡ false) → AreChildrenKept (held_without gone parents h).nodes run
kept_children_going None parents h run kept apart = kept
kept_children_going (Some gone) parents h run kept apart = λ dir kid made. elim (kept dir kid made) [
  | inl left ↦ inl left
  | inr at ↦ elim (cases_Bool (any_record (unbinds kid) run)) [
    | inl left ↦ inl left
    | inr still ↦ inr (at.0, left_binds h.nodes (stays parents gone) dir kid at.0 (ap not (apart gone dir kid refl (binds_there h.nodes dir kid at.0 at.1) made still)) at.1)
  ]
]

pub kept_children_look : (offers : Option Nodes) (run : List Record) (h : Held) (fid : Fid) → AreChildrenKept h.nodes run → AreChildrenKept (looked offers h fid).nodes run
kept_children_look offers run h fid kept = by (map.get h.nodes fid) (offered offers fid) refl
  where
    by : (o offer : Option Node) → map.get h.nodes fid ≡ o → AreChildrenKept (held_after_fetches h (fetch_of o offer (parent_of h.nodes fid) fid)).nodes run
    by (Some node) offer e = kept
    by None None e = kept
    by None (Some node) e = λ dir kid made. elim (kept dir kid made) [
      | inl left ↦ inl left
      | inr at ↦ inr (at.0, child_fetched h.nodes fid dir kid node at.0 e at.1)
    ]

-- of an object that binds nothing the run took what it created there
left_empty : (m : Nodes) (run : List Record) (dir : Fid) → AreChildrenKept m run → ((name : Name) → child m dir name ≡ None) → ChildrenLeft dir run
left_empty m run dir kept leaf = λ kid made. elim (kept dir kid made) [
  | inl left ↦ left
  | inr at ↦ absurd (none-some kid (sym (leaf at.0) ∙ at.1))
]

-- an operation that is accepted removes nothing in which the run left what it created
pub removes_empty : (s : Sight) (volume : ℕ) (op : Op) (run : List Record) → AreChildrenKept s.held.nodes run → Relies s volume op → RemovesEmpty op run
removes_empty s volume (CreateOp dir name fid mode owner) run kept r = tt
removes_empty s volume (MkdirOp dir name fid mode owner) run kept r = tt
removes_empty s volume (SymlinkOp dir name fid target mode owner) run kept r = tt
removes_empty s volume (StoreOp fid pre content) run kept r = tt
removes_empty s volume (SetattrOp fid pre attrs) run kept r = tt
removes_empty s volume (RemoveOp dir name fid pre) run kept r = left_empty s.held.nodes run fid kept r.0.leaf
removes_empty s volume (RmdirOp dir name fid pre) run kept r = left_empty s.held.nodes run fid kept r.0.leaf
removes_empty s volume (RenameOp from_dir from to_dir to fid over) run kept r = tt

-- an operation mentions what it takes from where it is bound
pub unbinds_mentions : (op : Op) (f : Fid) → unbinds f op ≡ true → mentioning f op ≡ true
unbinds_mentions (CreateOp dir name it mode owner) f h = absurd (false≢true h)
unbinds_mentions (MkdirOp dir name it mode owner) f h = absurd (false≢true h)
unbinds_mentions (SymlinkOp dir name it target mode owner) f h = absurd (false≢true h)
unbinds_mentions (StoreOp it pre content) f h = absurd (false≢true h)
unbinds_mentions (SetattrOp it pre attrs) f h = absurd (false≢true h)
unbinds_mentions (RemoveOp dir name it pre) f h = or_right (same_fid dir f) (same_fid it f || false) (or_left (same_fid it f) false h)
unbinds_mentions (RmdirOp dir name it pre) f h = or_right (same_fid dir f) (same_fid it f || false) (or_left (same_fid it f) false h)
unbinds_mentions (RenameOp from_dir from to_dir to it over) f h =
    let last = list_any (λ g. same_fid g f) (over_fids over) in
    or_right (same_fid from_dir f) (same_fid to_dir f || (same_fid it f || last)) (or_right (same_fid to_dir f) (same_fid it f || last) (over_too over h))
  where
    over_too : (o : Option Over) → (same_fid it f || is_over f o) ≡ true → (same_fid it f || list_any (λ g. same_fid g f) (over_fids o)) ≡ true
    over_too None is = is
    over_too (Some v) is = elim (or_cases (same_fid it f) (same_fid v.fid f) is) [
      | inl same ↦ or_left (same_fid it f) (same_fid v.fid f || false) same
      | inr same ↦ or_right (same_fid it f) (same_fid v.fid f || false) (or_left (same_fid v.fid f) false same)
    ]

-- what an operation takes out it takes from where it is bound
pub takes_unbinds : (op : Op) (gone : Fid) → taken_out op ≡ Some gone → unbinds gone op ≡ true
takes_unbinds (CreateOp dir name it mode owner) gone is = absurd (none-some gone is)
takes_unbinds (MkdirOp dir name it mode owner) gone is = absurd (none-some gone is)
takes_unbinds (SymlinkOp dir name it target mode owner) gone is = absurd (none-some gone is)
takes_unbinds (StoreOp it pre content) gone is = absurd (none-some gone is)
takes_unbinds (SetattrOp it pre attrs) gone is = absurd (none-some gone is)
takes_unbinds (RemoveOp dir name it pre) gone is = fid_same it gone (some_fid it gone is)
takes_unbinds (RmdirOp dir name it pre) gone is = fid_same it gone (some_fid it gone is)
takes_unbinds (RenameOp from_dir from to_dir to it None) gone is = absurd (none-some gone is)
takes_unbinds (RenameOp from_dir from to_dir to it (Some over)) gone is = or_right (same_fid it gone) (same_fid over.fid gone) (fid_same over.fid gone (some_fid over.fid gone is))

-- what is made in a directory is created
pub makes_creates : (op : Op) (dir f : Fid) → makes_in dir f op ≡ true → creates f op ≡ true
makes_creates (CreateOp home name it mode owner) dir f h = (and_parts (same_fid home dir) (same_fid it f) h).1
makes_creates (MkdirOp home name it mode owner) dir f h = (and_parts (same_fid home dir) (same_fid it f) h).1
makes_creates (SymlinkOp home name it target mode owner) dir f h = (and_parts (same_fid home dir) (same_fid it f) h).1
makes_creates (StoreOp it pre content) dir f h = absurd (false≢true h)
makes_creates (SetattrOp it pre attrs) dir f h = absurd (false≢true h)
makes_creates (RemoveOp home name it pre) dir f h = absurd (false≢true h)
makes_creates (RmdirOp home name it pre) dir f h = absurd (false≢true h)
makes_creates (RenameOp from_dir from to_dir to it over) dir f h = absurd (false≢true h)

pub any_weaker : (test weaker : Op → Bool) → ((op : Op) → test op ≡ true → weaker op ≡ true) → (run : List Record) → any_record test run ≡ true → any_record weaker run ≡ true
any_weaker test weaker then_ [] h = absurd (false≢true h)
any_weaker test weaker then_ (rec ∷ run) h = elim (or_cases (test rec.op) (any_record test run) h) [
  | inl is ↦ or_left (weaker rec.op) (any_record weaker run) (then_ rec.op is)
  | inr later ↦ or_right (weaker rec.op) (any_record weaker run) (any_weaker test weaker then_ run later)
]

-- what a steady run creates is mentioned by nothing before it
fresh_before : (f : Fid) (before recs run : List Record) → GoesOn before recs run → any_record (creates f) run ≡ true → any_record (mentioning f) before ≡ false
fresh_before f before recs [] steady h = absurd (false≢true h)
fresh_before f before recs (rec ∷ run) steady h = elim (or_cases (creates f rec.op) (any_record (creates f) run) h) [
  | inl now ↦ steady.0 f now
  | inr later ↦ (or_parts (any_record (mentioning f) before) (any_record (mentioning f) (rec ∷ [])) (sym (any-append (mentioning f) before (rec ∷ [])) ∙ fresh_before f (before ++ rec ∷ []) (add recs rec) run steady.2 later)).0
]

-- nor by the front of the run, where it is created in the back
pub fresh_of_front : (f : Fid) (before recs front back : List Record) → GoesOn before recs (front ++ back) → any_record (creates f) back ≡ true → any_record (mentioning f) front ≡ false
fresh_of_front f before recs [] back steady h = refl
fresh_of_front f before recs (rec ∷ front) back steady h =
    let none = fresh_before f (before ++ rec ∷ []) (add recs rec) (front ++ back) steady.2 (any_back (creates f) front back h) in
    let here = (or_parts (any_record (mentioning f) before) (any_record (mentioning f) (rec ∷ [])) (sym (any-append (mentioning f) before (rec ∷ [])) ∙ none)).1 in
    let now = (or_parts (mentioning f rec.op) false here).0 in
    ap (λ b. b || any_record (mentioning f) front) now ∙ fresh_of_front f (before ++ rec ∷ []) (add recs rec) front back steady.2 h

-- what a steady run keeps, its rest keeps
pub children_of_rest : (m : Nodes) (front back : List Record) → IsSteady (front ++ back) → AreChildrenKept m (front ++ back) → AreChildrenKept m back
children_of_rest m front back steady kept = λ dir kid made. elim (kept dir kid (any_back (makes_in dir kid) front back made)) [
  | inr at ↦ inr at
  | inl left ↦ elim (any_parts (unbinds kid) front back left) [
    | inr behind ↦ inl behind
    | inl before ↦ (
        let none = fresh_of_front kid [] [] front back steady (any_weaker (makes_in dir kid) (creates kid) (λ op. makes_creates op dir kid) back made) in
        absurd (false≢true (sym none ∙ any_weaker (unbinds kid) (mentioning kid) (λ op. unbinds_mentions op kid) front before)))
  ]
]
