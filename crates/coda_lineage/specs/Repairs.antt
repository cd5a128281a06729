-- What a repair leaves: an object and all below it as one replica has them, at all replicas.
use Rattle.std.specs.Prelude.{◌≡◌, ℕ, Bool, true, false, not, cond, ◌&&◌, List, [], ◌∷◌, Option, Some, None}
use Rattle.std.specs.Prelude.{option_map, ◌↔◌}
use Rattle.std.specs.FinMap as finmap
use Rattle.std.specs.List.{list_any}
use Rattle.coda_fid.specs.Fid.{same_fid}
use Rattle.coda_fid.specs.declared.fid.Fid.{Fid}
use Rattle.coda_tree.specs.declared.node.NodeKind.{NodeKind}
use Rattle.coda_tree.specs.declared.node.NodeKind.TheVariants.{File, Link, Dir}
use Rattle.coda_tree.specs.Bindings.{Name, Bindings}
use Rattle.coda_tree.specs.Tree.{IsBelow}
use Rattle.coda_vv.specs.Vector.{bumped}
use Rattle.coda_reslog.specs.declared.change.Held.{Held}
use Rattle.coda_resolve.specs.Copies.{Copies}
use Rattle.coda_resolve.specs.Merged.{updates_of}
use Rattle.coda_resolve.specs.Resolution.{Objects, child_in}

-- the names lead from one object to another at both replicas, through the same directories
abbrev pub LeadsAlike : Objects → Objects → Fid → List Name → Fid → Type 0
LeadsAlike a b d [] f = f ≡ d
LeadsAlike a b d (n ∷ names) f = (g : Fid)
    × ((child_in a d n ≡ Some g) × ((child_in b d n ≡ Some g) × LeadsAlike a b g names f))

-- an object as the source has it, not marked, with all updates and one more of the source, and an empty log
abbrev pub repaired : ℕ → Copies → Held → Held
repaired source copies held = record {
  node = record held.node { marked = false };
  vector = record { 0 = bumped (updates_of copies) source };
  ring = option_map (λ log. []) held.ring;
}

-- whether what is bound, if anything, is one of these and not their top
abbrev pub is_taken : (Fid → Bool) → Fid → Option Fid → Bool
is_taken subtree top None = false
is_taken subtree top (Some f) = subtree f && not (same_fid f top)

-- the names at which none of them is bound
abbrev pub others_of : (Fid → Bool) → Fid → Bindings → Bindings
others_of subtree top entries = finmap.retain_keys entries (λ n. not (is_taken subtree top (finmap.get entries n)))

-- whether one of them is bound
abbrev pub binds_one : (Fid → Bool) → Fid → Bindings → Bool
binds_one subtree top entries = list_any (λ n. is_taken subtree top (finmap.get entries n)) (finmap.keys entries)

-- a directory that binds one of them doesn't any more, and is marked; all else stays
abbrev pub spared_by : (Fid → Bool) → Fid → Held → NodeKind → Held
spared_by subtree top held (File content) = held
spared_by subtree top held (Link target) = held
spared_by subtree top held (Dir entries) = cond (binds_one subtree top entries)
    (record held { node = record held.node { kind = Dir (others_of subtree top entries); marked = true } })
    held

-- what is left of an object outside the subtree, where a replica has it
abbrev pub spared : (Fid → Bool) → Fid → Option Held → Option Held
spared subtree top None = None
spared subtree top (Some held) = Some (spared_by subtree top held held.node.kind)

-- what a replica holds after a repair: the subtree as the source has it, nothing that it had below an object of the
-- subtree, and the rest
pub record IsRepairedAt (subtree : Fid → Bool) (top : Fid) (source : ℕ) (copies : Fid → Copies)
    (right view after : Objects) : Type 0 where
  pub put : (f : Fid) (held : Held) → subtree f ≡ true → finmap.get right f ≡ Some held
      → finmap.get after f ≡ Some (repaired source (copies f) held)
  pub below : Fid → Bool
  pub is_below : (f : Fid) → (below f ≡ true) ↔ ((g : Fid) × ((subtree g ≡ true) × IsBelow (child_in view) g f))
  pub goes : (f : Fid) → subtree f ≡ false → below f ≡ true → finmap.get after f ≡ None
  pub stays : (f : Fid) → below f ≡ false → finmap.get after f ≡ spared subtree top (finmap.get view f)
