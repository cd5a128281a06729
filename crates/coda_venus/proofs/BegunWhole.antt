-- An operation that may begin over what may be served may begin over all that is cached, where it makes nothing that is
-- cached.
use Rattle.std.proofs.Common.{◌≡◌, Bool, true, false, not, cond, Option, Some, None, is_some, refl, sym, ap, ◌∙◌, subst}
use Rattle.std.specs.FinMap as map
use Rattle.coda_fid.specs.declared.fid.Fid.{Fid}
use Rattle.coda_fid.specs.declared.op.Op.{Op}
use Rattle.coda_fid.specs.declared.op.Op.TheVariants.{Create, Mkdir, Symlink, Store, Setattr, Remove, Rmdir, Rename}
use Rattle.coda_fid.specs.declared.op.Over.{Over}
use Rattle.coda_fid.proofs.Fids.{exact_fids}
use Rattle.coda_tree.specs.declared.node.Node.{Node}
use Rattle.coda_tree.specs.Bindings.{Name}
use Rattle.coda_tree.specs.Volume.{Nodes, child_of, has, IsDirAt, IsDirNode}
use Rattle.coda_certify.specs.Replay.{MayCreate, MayApply}
use Rattle.coda_venus.specs.Making.{makes_new}
use Rattle.coda_venus.specs.Operating.{IsOverHeld, IsThere, MayBegin}

module _ (m : Nodes) (passes : Fid → Bool) where
  abbrev some : Nodes
  some = map.retain_keys m passes

  at : (q : Fid) → map.get some q ≡ cond (passes q) (map.get m q) None
  at q = map.get-retain_keys m passes q (λ x e. ap passes (sym (exact_fids q x e)))

  -- a directory is the same
  same_dir : (d : Fid) → IsDirAt some d → map.get some d ≡ map.get m d
  same_dir d is = at d ∙ by (passes d) (subst IsDirNode (at d) is)
    where
      by : (b : Bool) → IsDirNode (cond b (map.get m d) None) → cond b (map.get m d) None ≡ map.get m d
      by true there = refl
      by false there = absurd there

  is_dir : (d : Fid) → IsDirAt some d → IsDirAt m d
  is_dir d is = subst IsDirNode (same_dir d is) is

  -- what is there is there
  still : (q : Fid) → has some q ≡ true → has m q ≡ true
  still q e = by (passes q) (map.get m q) (ap is_some (sym (at q)) ∙ e)
    where
      by : (b : Bool) (o : Option Node) → is_some (cond b o None) ≡ true → is_some o ≡ true
      by true o h = h
      by false o h = cc

  free : (o : Option Node) → not (is_some o) ≡ true → o ≡ None
  free None e = refl
  free (Some node) e = cc

  makes : (dir : Fid) (name : Name) (fid : Fid) → not (has m fid) ≡ true → MayCreate some dir name fid
      → MayCreate m dir name fid
  makes dir name fid new may = record {
    dir_there = is_dir dir may.dir_there;
    name_free = ap (λ o. child_of o name) (sym (same_dir dir may.dir_there)) ∙ may.name_free;
    fid_free = free (map.get m fid) new;
  }

  applies : (op : Op) → makes_new m op ≡ true → MayApply some op → MayApply m op
  applies (Create dir name fid mode owner) new may = makes dir name fid new may
  applies (Mkdir dir name fid mode owner) new may = makes dir name fid new may
  applies (Symlink dir name fid target mode owner) new may = makes dir name fid new may
  applies (Store fid pre content) new may = tt
  applies (Setattr fid pre attrs) new may = tt
  applies (Remove dir name fid pre) new may = is_dir dir may
  applies (Rmdir dir name fid pre) new may = is_dir dir may
  applies (Rename from_dir from to_dir to fid over) new may = record {
    from_there = is_dir from_dir may.from_there;
    to_there = is_dir to_dir may.to_there;
    bound = ap (λ o. child_of o to) (sym (same_dir to_dir may.to_there)) ∙ may.bound;
  }

  over_there : (over : Option Over) → IsOverHeld some over → IsOverHeld m over
  over_there None there = tt
  over_there (Some over) there = still over.fid there

  all_there : (op : Op) → IsThere some op → IsThere m op
  all_there (Create dir name fid mode owner) there = tt
  all_there (Mkdir dir name fid mode owner) there = tt
  all_there (Symlink dir name fid target mode owner) there = tt
  all_there (Store fid pre content) there = tt
  all_there (Setattr fid pre attrs) there = tt
  all_there (Remove dir name fid pre) there = still fid there
  all_there (Rmdir dir name fid pre) there = still fid there
  all_there (Rename from_dir from to_dir to fid over) there = (still fid there.0, over_there over there.1)

  pub begins_whole : (op : Op) → makes_new m op ≡ true → MayBegin some op → MayBegin m op
  begins_whole op new may = record { apply = applies op new may.apply; there = all_there op may.there }
