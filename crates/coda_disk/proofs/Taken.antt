-- The disk of a number without a place.
use Rattle.std.proofs.Common.{◌≡◌, List, [], false, inl, refl, sym, subst, arith, ℕ}
use Rattle.std.specs.Prelude.{Option, None, Some}
use Rattle.coda_disk.specs.Told.{Told, Kept}
use Rattle.coda_disk.specs.Memory.{told_of}
use Rattle.coda_disk.specs.declared.calls.Call.{Call}
use Rattle.coda_disk.specs.declared.calls.Past.{Past}
use Rattle.coda_disk.specs.declared.calls.Past.TheVariants.{Made}
use Rattle.coda_disk.specs.declared.memory.MemDisk.{MemDisk}
use Rattle.coda_disk.specs.Places.{told_at, has_disk}

kept_same : (t : Told) → t.honest → Kept t t
kept_same t h = record { honest = h; seen = refl; crash = λ c now. now; time = record { later = omega arith; nothing_else = λ m c le left. inl left; keeps = λ m c le left. left } }

made : (past : Past) (synced : List ℕ) (calls : List Call) → past ≡ Made → synced ≡ [] → calls ≡ [] → (told_of Made [] []).honest → Kept (told_of Made [] []) (told_of past synced calls)
made past synced calls p s e h =
    subst (λ (q : Past). Kept (told_of Made [] []) (told_of q synced calls)) (sym p)
    (subst (λ (x : List ℕ). Kept (told_of Made [] []) (told_of Made x calls)) (sym s)
    (subst (λ (x : List Call). Kept (told_of Made [] []) (told_of Made [] x)) (sym e) (kept_same (told_of Made [] []) h)))

-- A number without a disk tells what an empty disk tells.
pub empty_disk : (place : Option (Option MemDisk)) (past : Past) (synced : List ℕ) (calls : List Call) → has_disk place ≡ false → past ≡ Made → synced ≡ [] → calls ≡ []
    → (told_at place).honest → Kept (told_at place) (told_of past synced calls)
empty_disk None past synced calls none p s e h = made past synced calls p s e h
empty_disk (Some None) past synced calls none p s e h = made past synced calls p s e h
empty_disk (Some (Some disk)) past synced calls none p s e h = cc
