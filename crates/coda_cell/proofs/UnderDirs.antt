-- The parents of what a client holds stay directories of its volume: after fetches, and after operations.
use Rattle.std.proofs.Common.{◌≡◌, ℕ, zero, suc, true, false, Option, Some, None, refl, sym, ap, subst, ◌∙◌, inl, inr, ◌⊎◌}
use Rattle.std.specs.Option.{option_map_or}
use Rattle.std.specs.FinMap as map
use Rattle.std.proofs.lemmas.Bool.{or_cases, false≢true}
use Rattle.coda_fid.specs.Fid.{same_fid}
use Rattle.coda_fid.specs.declared.fid.Fid.{Fid}
use Rattle.coda_fid.specs.declared.op.Op.{Op}
use Rattle.coda_fid.specs.declared.op.Op.TheVariants.{Create, Mkdir, Symlink, Store, Setattr, Remove, Rmdir, Rename}
use Rattle.coda_fid.specs.declared.op.Record.{Record}
use Rattle.coda_fid.proofs.Fids.{fids_total, exact_fids, same_fid_is}
use Rattle.coda_tree.specs.declared.node.Node.{Node}
use Rattle.coda_tree.specs.Bindings.{Name}
use Rattle.coda_tree.specs.Volume.{Nodes, parent_of, IsDirNode, IsDirAt}
use Rattle.coda_tree.proofs.Order.{fid_cases, get_here, get_else}
use Rattle.coda_tree.proofs.Changes.{get_dir_put, binder_is_dir}
use Rattle.coda_tree.proofs.Parents.{parent_sound}
use Rattle.coda_cancel.specs.Dropping.{mentioning}
use Rattle.coda_certify.specs.Replay.{applied}
use Rattle.coda_cache.specs.Parents.{below_within}
use Rattle.coda_histories.specs.Forests.{IsForest}
use Rattle.coda_cell.specs.Held.{AreUnderDirs, held_after_fetches}
use Rattle.coda_venus.specs.Held.{Parents, Held, is_below, taken_out, stays, held_without, parents_after, held_after_operation, held_after_fetch}
use Rattle.coda_cell.specs.Kept.{AreWithin}
use Rattle.coda_cell.specs.Looking.{offered, fetch_of, looked}
use Rattle.coda_venus.specs.Accepting.{Sight}
use Rattle.coda_venus.proofs.Accepted.{Relies}
use Rattle.coda_cell.proofs.AfterOperations.{IsBoundBy}
use Rattle.coda_histories.proofs.Ways.{some_fid}
use Rattle.coda_histories.proofs.Forests.{IsBeside}
use Rattle.coda_histories.proofs.Directories.{put_was, under_operation as dirs_operation}
use Rattle.coda_histories.specs.Forests.{ParentsAreDirs}
use Rattle.coda_histories.proofs.Ways.{left_was}
use Rattle.coda_cell.proofs.Within.{bound_is_named}

pub dirs_under : (h : Held) → AreUnderDirs h → ParentsAreDirs h
dirs_under h under = λ f p is. (under f p is).0

-- what is below an object is of its volume
pub below_volume : (h : Held) (f g : Fid) → AreUnderDirs h → is_below h.parents f g ≡ true → f.volume ≡ g.volume
unfolding is_below
below_volume h f g under below = by (map.len h.parents) f below
  where
    up : (n : ℕ) (f : Fid) (o : Option Fid) → ((p : Fid) → below_within h.parents n p g ≡ true → p.volume ≡ g.volume) → map.get h.parents f ≡ o → option_map_or (λ p. below_within h.parents n p g) o false ≡ true → f.volume ≡ g.volume
    up n f None above is rest = absurd (false≢true rest)
    up n f (Some p) above is rest = (under f p is).1 ∙ above p rest

    by : (n : ℕ) (f : Fid) → below_within h.parents n f g ≡ true → f.volume ≡ g.volume
    by zero f same = ap (λ (x : Fid). x.volume) (same_fid_is f g same)
    by (suc n) f either = elim (or_cases (same_fid f g) (option_map_or (λ p. below_within h.parents n p g) (map.get h.parents f) false) either) [
      | inl same ↦ ap (λ (x : Fid). x.volume) (same_fid_is f g same)
      | inr rest ↦ up n f (map.get h.parents f) (λ p. by n p) refl rest
    ]

-- ---- after a fetch

dir_fetched : (m : Nodes) (fid : Fid) (node : Node) (p : Fid) → map.get m fid ≡ None → IsDirAt m p → IsDirAt (map.insert m fid node) p
dir_fetched m fid node p new is = subst IsDirNode (sym (get_dir_put m p fid node is new)) is

-- the first directory that binds an object is of its volume
under_fetch : (h : Held) (fid : Fid) (parent : Option Fid) (node : Node) → map.get h.nodes fid ≡ None → parent ≡ parent_of h.nodes fid → AreWithin h.nodes → AreUnderDirs h → AreUnderDirs (held_after_fetch h fid parent node)
under_fetch h fid None node new from within under = λ f p is. let at = under f p is in (dir_fetched h.nodes fid node p new at.0, at.1)
under_fetch h fid (Some parent) node new from within under = λ f p is. elim (fid_cases f fid) [
  | inl same ↦ (
      let here : Some parent ≡ Some p = sym (ap (map.get (map.insert h.parents fid parent)) same ∙ get_here fids_total h.parents fid parent) ∙ is in
      let p_is = some_fid parent p here in
      let at = parent_sound h.nodes fid parent (sym from) in (
        subst (IsDirAt (map.insert h.nodes fid node)) p_is (dir_fetched h.nodes fid node parent new (binder_is_dir h.nodes parent at.0 fid at.1)),
        ap (λ (x : Fid). x.volume) same ∙ within parent fid at.0 at.1 ∙ ap (λ (x : Fid). x.volume) p_is,
      ))
  | inr other ↦ (let at = under f p (sym (get_else fids_total exact_fids h.parents fid parent f other) ∙ is) in (dir_fetched h.nodes fid node p new at.0, at.1))
]

pub under_look : (offers : Option Nodes) (h : Held) (fid : Fid) → AreWithin h.nodes → AreUnderDirs h → AreUnderDirs (looked offers h fid)
under_look offers h fid within under = by (map.get h.nodes fid) (offered offers fid) refl
  where
    by : (o offer : Option Node) → map.get h.nodes fid ≡ o → AreUnderDirs (held_after_fetches h (fetch_of o offer (parent_of h.nodes fid) fid))
    by (Some node) offer e = under
    by None (Some node) e = under_fetch h fid (parent_of h.nodes fid) node e refl within under
    by None None e = under

-- ---- parents after an operation

-- a parent was so before, or the operation binds the object there
parents_was : (parents : Parents) (op : Op) (f p : Fid) → map.get (parents_after parents op) f ≡ Some p → (map.get parents f ≡ Some p) ⊎ ((name : Name) × IsBoundBy op p name f)
parents_was parents (Create dir name fid mode owner) f p is = elim (put_was parents fid dir f p is) [ inl old ↦ inl old | inr at ↦ inr (name, (at.0, refl, at.1)) ]
parents_was parents (Mkdir dir name fid mode owner) f p is = elim (put_was parents fid dir f p is) [ inl old ↦ inl old | inr at ↦ inr (name, (at.0, refl, at.1)) ]
parents_was parents (Symlink dir name fid target mode owner) f p is = elim (put_was parents fid dir f p is) [ inl old ↦ inl old | inr at ↦ inr (name, (at.0, refl, at.1)) ]
parents_was parents (Store fid pre content) f p is = inl is
parents_was parents (Setattr fid pre attrs) f p is = inl is
parents_was parents (Remove dir name fid pre) f p is = inl is
parents_was parents (Rmdir dir name fid pre) f p is = inl is
parents_was parents (Rename from_dir from to_dir to fid over) f p is = elim (put_was parents fid to_dir f p is) [ inl old ↦ inl old | inr at ↦ inr (to, (at.0, refl, at.1)) ]

module _ (s : Sight) (volume client : ℕ) (rec : Record) (relies : Relies s volume rec.op) (beside : IsBeside s.held.parents rec.op) (named : (fid : Fid) → mentioning fid rec.op ≡ true → fid.volume ≡ volume) (forest : IsForest s.held) (under : AreUnderDirs s.held) where
  abbrev behind : Held
  behind = record { nodes = applied s.held.nodes client rec; parents = parents_after s.held.parents rec.op }

  -- a parent was of the volume
  was_within : (f p : Fid) → map.get behind.parents f ≡ Some p → f.volume ≡ p.volume
  was_within f p is = elim (parents_was s.held.parents rec.op f p is) [
    | inl old ↦ (under f p old).1
    | inr anew ↦ (let are = bound_is_named rec.op p anew.0 f anew.1 in named f are.1 ∙ sym (named p are.0))
  ]

  left_within : (o : Option Fid) (f p : Fid) → map.get (held_without o s.held.parents behind).parents f ≡ Some p → f.volume ≡ p.volume
  left_within None f p is = was_within f p is
  left_within (Some gone) f p is = was_within f p (left_was behind.parents (stays s.held.parents gone) f p is).1

  -- the client's own operation, which names objects of one volume alone
  pub under_operation : AreUnderDirs (held_after_operation s.held client rec)
  under_operation = λ f p is. (
    dirs_operation s volume client rec relies beside forest (dirs_under s.held under) f p is,
    left_within (taken_out rec.op) f p is,
  )
