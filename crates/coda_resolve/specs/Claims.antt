-- What a copy of a directory binds, and on which names it lacks a missing update.
use Rattle.std.specs.Prelude.{◌≡◌, Bool, not, ◌&&◌, List, map, Option, is_some}
use Rattle.std.specs.List.{list_any, AllByRecursion}
use Rattle.std.specs.Option.{option_copied}
use Rattle.std.specs.FinMap as finmap
use Rattle.coda_tree.specs.Bindings.{Name, Bindings}
use Rattle.coda_reslog.specs.declared.change.Held.{Held}
use Rattle.coda_reslog.specs.declared.entry.ResEntry.{ResEntry}
use Rattle.coda_resolve.specs.declared.claims.Claim.{Claim}
use Rattle.coda_resolve.specs.Copies.{Copies}
use Rattle.coda_resolve.specs.Missing.{has_update, missing}
use Rattle.coda_resolve.specs.Merged.{is_on}

-- whether the name is among these
abbrev pub has_name : Bindings → Name → Bool
has_name names n = is_some (finmap.get names n)

-- whether one of the updates is on the name and isn't in the copy
abbrev pub lacks_on : List ResEntry → Option Held → Name → Bool
lacks_on updates copy n = list_any (λ u. is_on n u && not (has_update u copy)) updates

-- the names are those on which the copy lacks one of the updates
abbrev pub AreLacking : List ResEntry → Option Held → Bindings → Type 0
AreLacking updates copy names = (n : Name) → has_name names n ≡ lacks_on updates copy n

-- the copy of a claim
abbrev pub copy_of : Claim → Option Held
copy_of claim = option_copied claim.copy

-- the copies of claims
abbrev pub copies_of : List Claim → Copies
copies_of claims = map copy_of claims

-- each claim has the names on which its copy lacks one of the updates
abbrev pub AreClaims : List ResEntry → List Claim → Type 0
AreClaims updates claims = AllByRecursion (λ claim. AreLacking updates (copy_of claim) claim.lacking) claims

-- the claims are those of the copies
pub record AreClaimsOf (copies : Copies) (claims : List Claim) : Type 0 where
  pub same : copies_of claims ≡ copies
  pub lacking : AreClaims (missing copies) claims
