-- What a server owes its clients for one volume: promises of word when an object changes, and outboxes of objects that changed.
use Rattle.std.specs.Prelude.{◌≡◌, ℕ, Bool, not, ◌==◌, List, refl}
use Rattle.std.specs.Coded.{Coded, code_by, coded×, coded_ℕ}
use Rattle.std.specs.List.{list_any}
use Rattle.std.specs.List.Sorted.{IsStrictlySortedBy}
use Rattle.std.specs.FinSet as set
use Rattle.std.specs.Ordering.{nat_cmp, ordering_then}
use Rattle.std.specs.declared.cmp.Ordering.{Ordering}
use Rattle.coda_fid.specs.Fid.{fid_cmp, same_fid, coded_fid}
use Rattle.coda_fid.specs.declared.fid.Fid.{Fid}
use Rattle.coda_callback.specs.declared.interest.Interest.{Interest}

-- by client, then by fid
abbrev pub interest_cmp : Interest → Interest → Ordering
interest_cmp a b = ordering_then (nat_cmp a.client b.client) (fid_cmp a.fid b.fid)

-- a set of fids for each client: which clients have an interest in which objects
abbrev pub Interests : Type 0
Interests = set.FinSet interest_cmp

-- the promises that stand, and the fids that wait in each client's outbox
pub record Callbacks : Type 0 where
  pub promises : Interests
  pub outboxes : Interests

-- an interest as a number and a fid, and back
abbrev pub coded_interest : Coded Interest
coded_interest = code_by (ℕ × Fid) (coded× coded_ℕ coded_fid) (λ i. (i.client, i.fid)) (λ p. record { client = p.0; fid = p.1 }) (λ _. refl)

-- callbacks as their two sets, and back
abbrev pub coded_callbacks : Coded Callbacks
coded_callbacks =
    code_by (Interests × Interests) (coded× (set.code coded_interest) (set.code coded_interest)) (λ s. (s.promises, s.outboxes)) (λ p. record { promises = p.0; outboxes = p.1 }) (λ _. refl)

-- a client's interest in an object
abbrev pub interest : ℕ → Fid → Interest
interest client fid = record { client = client; fid = fid }

-- whether the client has a promise on the object
abbrev pub is_promised : Callbacks → ℕ → Fid → Bool
is_promised s client fid = set.contains s.promises (interest client fid)

-- whether the object waits in the client's outbox
abbrev pub is_waiting : Callbacks → ℕ → Fid → Bool
is_waiting s client fid = set.contains s.outboxes (interest client fid)

-- whether the list has the fid
abbrev pub names : List Fid → Fid → Bool
names fids fid = list_any (λ f. same_fid f fid) fids

-- nobody was promised anything
abbrev pub no_callbacks : Callbacks
no_callbacks = record { promises = set.empty; outboxes = set.empty }

-- The client fetched the object: it has a promise on it, and no word of it waits any more.
abbrev pub promised : Callbacks → ℕ → Fid → Callbacks
promised s client fid = record {
  promises = set.insert s.promises (interest client fid);
  outboxes = set.remove s.outboxes (interest client fid);
}

-- Objects changed: every promise on one of them, of whatever client, moves into that client's outbox.
abbrev pub broken_where : Callbacks → (Fid → Bool) → Callbacks
broken_where s changed = record {
  promises = set.retain s.promises (λ i. not (changed i.fid));
  outboxes = set.union s.outboxes (set.retain s.promises (λ i. changed i.fid));
}

-- the same of the objects that a list names
abbrev pub broken_by : Callbacks → List Fid → Callbacks
broken_by s fids = broken_where s (names fids)

-- These are the objects that wait for the client, in increasing order.
pub record IsOutbox (s : Callbacks) (client : ℕ) (fids : List Fid) : Type 0 where
  pub increasing : IsStrictlySortedBy fid_cmp fids
  pub exact : (fid : Fid) → names fids fid ≡ is_waiting s client fid

-- a client's outbox was handed over, and is empty
abbrev pub collected : Callbacks → ℕ → Callbacks
collected s client = record s { outboxes = set.retain s.outboxes (λ i. not (i.client == client)) }

-- The client is gone: it has no promise, and its outbox is empty.
abbrev pub dropped : Callbacks → ℕ → Callbacks
dropped s client = record {
  promises = set.retain s.promises (λ i. not (i.client == client));
  outboxes = set.retain s.outboxes (λ i. not (i.client == client));
}
