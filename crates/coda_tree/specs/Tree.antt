-- Trees, by what is there and by what each directory binds.
use Rattle.std.specs.Prelude.{◌≡◌, ◌≢◌, ℕ, ◌+◌, Bool, true, Option, Some}
use Rattle.coda_fid.specs.declared.fid.Fid.{Fid}
use Rattle.coda_tree.specs.Bindings.{Name}

-- what a directory binds at a name
abbrev pub Child : Type 0
Child = Fid → Name → Option Fid

-- f is g, or a directory that is g or stands below it binds f
pub data IsBelow (child : Child) (g : Fid) : Fid → Type 0 where
  itself : (f : Fid) → f ≡ g → IsBelow child g f
  under : (d : Fid) (n : Name) (f : Fid) → child d n ≡ Some f → IsBelow child g d → IsBelow child g f

-- f is reached from g by so many bindings, one after the other
pub data AtDepth (child : Child) (g : Fid) : ℕ → Fid → Type 0 where
  at_top : (depth : ℕ) (f : Fid) → depth ≡ 0 → f ≡ g → AtDepth child g depth f
  one_deeper : (above : ℕ) (depth : ℕ) (d : Fid) (n : Name) (f : Fid) → depth ≡ above + 1 → child d n ≡ Some f → AtDepth child g above d → AtDepth child g depth f

-- what is bound is there and so is what binds it; no fid is bound twice and the root never; and each fid that is there is reached from the root
pub record IsTree (root : Fid) (has : Fid → Bool) (child : Child) : Type 0 where
  pub rooted : has root ≡ true
  pub unbound : (d : Fid) (n : Name) → child d n ≢ Some root
  pub from : (d : Fid) (n : Name) (f : Fid) → child d n ≡ Some f → has d ≡ true
  pub there : (d : Fid) (n : Name) (f : Fid) → child d n ≡ Some f → has f ≡ true
  pub once : (d : Fid) (n : Name) (e : Fid) (k : Name) (f : Fid) → child d n ≡ Some f → child e k ≡ Some f → (d ≡ e) × (n ≡ k)
  pub reached : (f : Fid) → has f ≡ true → IsBelow child root f
