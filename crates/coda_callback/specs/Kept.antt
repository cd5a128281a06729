-- How the sets are kept, and what the private steps do to them.
use Rattle.std.specs.Prelude.{◌≡◌, ℕ, ◌<◌, ◌^◌, Bool, true, false, cond, not, ◌&&◌, ◌||◌, ◌==◌, List, map, ◌⊎◌}
use Rattle.std.specs.List.{filter, list_any}
use Rattle.std.specs.Ordering.{nat_cmp, eq_by_cmp, ordering_then}
use Rattle.std.specs.declared.cmp.Ordering.{Ordering}
use Rattle.std.specs.BTreeSet.{BTreeSet, contains, keys_between}
use Rattle.std.specs.declared.ops.Bound.TheVariants.{Included}
use Rattle.coda_fid.specs.Fid.{fid_cmp}
use Rattle.coda_fid.specs.declared.fid.Fid.{Fid}
use Rattle.coda_callback.specs.declared.interest.Interest.{Interest}
use Rattle.coda_callback.specs.declared.interest.Watch.{Watch}
use Rattle.coda_callback.specs.Callbacks.{interest_cmp, interest, names}

-- an interest as it is kept by object, and back
abbrev pub watch_of : Interest → Watch
watch_of i = record { fid = i.fid; client = i.client }

abbrev pub interest_of : Watch → Interest
interest_of w = record { client = w.client; fid = w.fid }

-- by fid, then by client
abbrev pub watch_cmp : Watch → Watch → Ordering
watch_cmp a b = ordering_then (fid_cmp a.fid b.fid) (nat_cmp a.client b.client)

-- the ends of a client's interests
abbrev pub least_of : ℕ → Interest
least_of client = interest client record { volume = 0; vnode = 0; uniq = 0 }

abbrev pub greatest_of : ℕ → Interest
greatest_of client = interest client record { volume = 4294967295; vnode = 4294967295; uniq = 4294967295 }

-- whether an interest is in a set, and whether it is watched
abbrev pub has : BTreeSet Interest → Interest → Bool
has s q = contains interest_cmp s q

abbrev pub is_watched : BTreeSet Watch → Interest → Bool
is_watched s q = contains watch_cmp s (watch_of q)

-- the numbers of an interest have 8 and 32 bits
pub record IsBounded (q : Interest) : Type 0 where
  pub client : q.client < 256
  pub volume : q.fid.volume < 2 ^ 32
  pub vnode : q.fid.vnode < 2 ^ 32
  pub uniq : q.fid.uniq < 2 ^ 32

abbrev pub AreBounded : (Interest → Bool) → Type 0
AreBounded s = (q : Interest) → s q ≡ true → IsBounded q

-- the same interests
abbrev pub IsSame : (Interest → Bool) → (Interest → Bool) → Type 0
IsSame new old = (q : Interest) → new q ≡ old q

-- Numbers are bounded; the promises are watched by object, and nothing else is; no object that waits for a client is
-- promised to it.
pub record AreKept (promised : BTreeSet Interest) (watched : BTreeSet Watch) (waiting : BTreeSet Interest) : Type 0 where
  pub bounded : AreBounded (has promised)
  pub bounded_words : AreBounded (has waiting)
  pub mirrored : IsSame (is_watched watched) (has promised)
  pub apart : (q : Interest) → has promised q ≡ true → has waiting q ≡ false

-- whether the list has the interest
abbrev pub is_among : List Interest → Interest → Bool
is_among is q = list_any (eq_by_cmp interest_cmp q) is

abbrev pub IsAmong : List Interest → Interest → Type 0
IsAmong is q = is_among is q ≡ true

-- who watches the object, of clients from 0 to 255, in order
abbrev pub watches_on : BTreeSet Watch → Fid → List Watch
watches_on s fid = keys_between watch_cmp (Included (record { fid = fid; client = 0 })) (Included (record { fid = fid; client = 255 })) s

-- the interests in the objects are these
abbrev pub AreThoseOn : (Interest → Bool) → List Fid → List Interest → Type 0
AreThoseOn s fids found = (q : Interest) → is_among found q ≡ (s q && names fids q.fid)

-- the objects of a client among interests
abbrev pub fids_among : List Interest → ℕ → List Fid
fids_among is client = map (λ (i : Interest). i.fid) (filter (λ i. i.client == client) is)

-- one was put in, or taken out
abbrev pub GainsOne : (Interest → Bool) → (Interest → Bool) → Interest → Type 0
GainsOne old new one = (q : Interest) → new q ≡ cond (eq_by_cmp interest_cmp one q) true (old q)

abbrev pub LosesOne : (Interest → Bool) → (Interest → Bool) → Interest → Type 0
LosesOne old new one = (q : Interest) → new q ≡ cond (eq_by_cmp interest_cmp one q) false (old q)

-- all of a client were taken out
abbrev pub LosesClient : (Interest → Bool) → (Interest → Bool) → ℕ → Type 0
LosesClient old new client = (q : Interest) → new q ≡ (old q && not (q.client == client))

-- all of these were put in
abbrev pub Gains : (Interest → Bool) → (Interest → Bool) → List Interest → Type 0
Gains old new moved = (q : Interest) → new q ≡ (old q || is_among moved q)

-- some of these were put in
abbrev pub GainsSome : (Interest → Bool) → (Interest → Bool) → List Interest → Type 0
GainsSome old new moved = (q : Interest) → (new q ≡ old q) ⊎ ((new q ≡ true) × IsAmong moved q)

-- all of these were taken out
abbrev pub Loses : (Interest → Bool) → (Interest → Bool) → List Interest → Type 0
Loses old new moved = (q : Interest) → new q ≡ (old q && not (is_among moved q))
