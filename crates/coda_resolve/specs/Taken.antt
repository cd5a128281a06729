-- Objects that are taken up, with what becomes of each.
use Rattle.std.specs.Prelude.{◌≡◌, List, map}
use Rattle.std.specs.List.{AllByRecursion}
use Rattle.coda_fid.specs.declared.fid.Fid.{Fid}
use Rattle.coda_resolve.specs.declared.walking.Taken.{Taken}
use Rattle.coda_resolve.specs.Resolution.{Replicas, fate_at}

-- the objects
abbrev pub fids_of : List Taken → List Fid
fids_of taken = map (λ object. object.fid) taken

-- each with what becomes of it
abbrev pub AreFates : Replicas → List Taken → Type 0
AreFates replicas taken = AllByRecursion (λ object. object.fate ≡ fate_at replicas object.fid) taken
