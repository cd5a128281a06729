-- What a client's cache is once an object was fetched or an operation was performed, for which nodes went.
use Rattle.std.proofs.Common.{◌≡◌, ℕ, suc, ◌<◌, Bool, true, false, cond, not, ◌&&◌, List, [], ◌∷◌, ◌++◌, take, length, Option, Some, None, is_some, refl, sym, ap, ◌∙◌, subst, inl, inr, arith}
use Rattle.std.specs.Prelude.{slice_index_or, Result, Ok, Err, OnOk, OnErr}
use Rattle.std.specs.BTreeMap as tree
use Rattle.std.specs.Ordering.{nat_cmp}
use Rattle.std.specs.List.{filter}
use Rattle.std.specs.FinMap as map
use Rattle.std.specs.FinMap.{FinMap}
use Rattle.std.proofs.lemmas.Bool.{both_ways}
use Rattle.coda_fid.specs.Fid.{fid_cmp, same_fid, root_of}
use Rattle.coda_fid.specs.declared.fid.Fid.{Fid}
use Rattle.coda_fid.specs.declared.op.Record.{Record}
use Rattle.coda_fid.proofs.Fids.{fids_total, exact_fids, same_fid_refl}
use Rattle.coda_tree.specs.declared.node.Node.{Node}
use Rattle.coda_tree.specs.Volume.{Nodes}
use Rattle.coda_tree.proofs.Order.{fid_cases, get_here, get_else}
use Rattle.coda_tree.proofs.Keyed.{not_same}
use Rattle.coda_walk.specs.Going.{is_listed}
use Rattle.coda_cache.specs.declared.hold.Hold.{Hold}
use Rattle.coda_cache.specs.Keeping.{Agree}
use Rattle.coda_cache.specs.State.{CacheState, parent_held}
use Rattle.coda_cache.specs.Steps.{kept_parent, put_in, without, taken_from, except_all, dropped}
use Rattle.coda_cache.specs.Uses.{except, latest}
use Rattle.coda_cache.proofs.Foreseen.{except_is}
use Rattle.coda_cache.proofs.Parents.{parent_there}
use Rattle.coda_cache.proofs.Removed.{filter_twice}
use Rattle.coda_cache.proofs.Taken.{taken_at, except_at, agree_taken}
use Rattle.coda_cache.proofs.Uses.{same_turned}
use Rattle.coda_record.specs.Entries.{node as node_format}
use Rattle.coda_record.specs.Form.{four}
use Rattle.coda_record.specs.Spelling.{HasSpelling}
use Rattle.coda_record.specs.declared.entry.ClientEntry.{ClientEntry}
use Rattle.coda_record.specs.declared.entry.ClientEntry.TheVariants as entry
use Rattle.coda_venus.specs.Caching.{installed_in, log_mentions}
use Rattle.coda_venus.specs.Code.{IsClient, IsLogAt, held_in}
use Rattle.coda_venus.specs.Held.{Held, held_after_operation, held_after_fetch, held_after_drop, held_after_drops}
use Rattle.coda_venus.specs.History.{IsParent, MayEnterAll}
use Rattle.coda_venus.specs.Rounds.{dropping, parent_of_fetched, parent_of_fetched_by}
use Rattle.coda_venus.specs.State.{ClientState, client_after_all}
use Rattle.coda_venus.specs.declared.client.Client.{Client}
use Rattle.coda_spelling.specs.Spelled.{IsSpelled, AreSpelled}
use Rattle.coda_venus.proofs.Entered.{spelled_after}
use Rattle.coda_venus.proofs.SpelledStates.{node_spelled, after_put, after_taken}
use Rattle.coda_venus.proofs.Cached.{drop_held, fetch_held, marked_held}

-- ---- dropping in turn

-- one more is dropped, unless it is kept
pub drops_but : (c : CacheState) (gone : List Fid) (kept : Fid) (i : ℕ) (d : Fid) → i < length gone
    → dropped c (except (take (suc i) gone) kept) ≡ cond (same_fid (slice_index_or gone i d) kept) (dropped c (except (take i gone) kept)) (without (dropped c (except (take i gone) kept)) (slice_index_or gone i d))
drops_but c [] kept i d h = absurd (omega (arith, h))
drops_but c (f ∷ gone) kept ℕ.zero d h = elim (same_fid f kept) as (λ b. dropped c (cond (not b) (f ∷ []) []) ≡ cond b c (without c f)) [ true ↦ refl | false ↦ refl ]
drops_but c (f ∷ gone) kept (suc i) d h = elim (same_fid f kept) as (λ b. dropped c (cond (not b) (f ∷ except (take (suc i) gone) kept) (except (take (suc i) gone) kept))
    ≡ cond (same_fid (slice_index_or gone i d) kept) (dropped c (cond (not b) (f ∷ except (take i gone) kept) (except (take i gone) kept))) (without (dropped c (cond (not b) (f ∷ except (take i gone) kept) (except (take i gone) kept))) (slice_index_or gone i d))) [
      | true ↦ drops_but c gone kept i d (omega (arith, h))
      | false ↦ drops_but (without c f) gone kept i d (omega (arith, h))
    ]

-- what is held once nodes went
pub dropped_held : (c : CacheState) (gone : List Fid) → held_in (dropped c gone) ≡ held_after_drops (held_in c) gone
dropped_held c [] = refl
dropped_held c (f ∷ gone) = dropped_held (without c f) gone ∙ ap (λ h. held_after_drops h gone) (drop_held c f)

-- dropping in turn changes what a client holds alone
pub client_dropped : (c : ClientState) (gone : List Fid) (rest : List ClientEntry) → client_after_all c (dropping gone ++ rest) ≡ client_after_all (record c { held = held_after_drops c.held gone }) rest
client_dropped c [] rest = refl
client_dropped c (f ∷ gone) rest = client_dropped (record c { held = held_after_drop c.held f }) gone rest

pub rest_may : (c : ClientState) (gone : List Fid) (rest : List ClientEntry) → MayEnterAll c (dropping gone ++ rest) → MayEnterAll (record c { held = held_after_drops c.held gone }) rest
rest_may c [] rest may = may
rest_may c (f ∷ gone) rest may = rest_may (record c { held = held_after_drop c.held f }) gone rest may.1

-- ---- putting before dropping is putting behind it

-- an object that is fetched keeps the parent that it has
pub fetched_kept : (c : CacheState) (fid : Fid) → Agree c.nodes c.holds c.recency → kept_parent (map.get c.holds fid) (parent_of_fetched (held_in c) fid) ≡ parent_of_fetched (held_in c) fid
fetched_kept c fid agree = by (map.get c.holds fid) (map.get c.nodes fid) refl refl
  where
    is_root : Bool
    is_root = same_fid fid (root_of fid.volume)

    by : (o : Option Hold) (n : Option Node) → map.get c.holds fid ≡ o → map.get c.nodes fid ≡ n → kept_parent o (parent_of_fetched_by (held_in c) fid n is_root) ≡ parent_of_fetched_by (held_in c) fid n is_root
    by None n at there = refl
    by (Some hold) (Some node) at there = sym (parent_there c.holds fid ∙ ap parent_held at)
    by (Some hold) None at there = absurd (both_ways (is_some (map.get c.nodes fid)) (ap is_some there) (sym (agree.held fid) ∙ ap is_some at))

put_at : {X : Type 0} (m : FinMap fid_cmp X) (f : Fid) (x : X) (q : Fid) → map.get (map.insert m f x) q ≡ cond (same_fid f q) (Some x) (map.get m q)
put_at m f x q = elim (fid_cases q f) [
  | inl at ↦ ap (map.get (map.insert m f x)) at ∙ get_here fids_total m f x ∙ ap (λ b. cond b (Some x) (map.get m q)) (sym (ap (same_fid f) at ∙ same_fid_refl f))
  | inr apart ↦ get_else fids_total exact_fids m f x q apart ∙ ap (λ b. cond b (Some x) (map.get m q)) (sym (not_same f q (λ at. apart (sym at))))
]

put_taken : {X : Type 0} (m : FinMap fid_cmp X) (gone : List Fid) (f : Fid) (x : X) → taken_from (map.insert m f x) (except gone f) ≡ map.insert (taken_from m gone) f x
put_taken {X} m gone f x = map.same_map fids_total exact_fids _ _ (λ q.
    taken_at (map.insert m f x) (except gone f) q ∙ (λ i. cond (except_at gone f q i) None (put_at m f x q i)) ∙ by (same_fid f q) (is_listed gone q) (map.get m q)
    ∙ ap (cond (same_fid f q) (Some x)) (sym (taken_at m gone q)) ∙ sym (put_at (taken_from m gone) f x q))
  where
    by : (b l : Bool) (o : Option X) → cond (not b && l) None (cond b (Some x) o) ≡ cond b (Some x) (cond l None o)
    by true l o = refl
    by false l o = refl

filter_joined : (test : Fid → Bool) (front back : List Fid) → filter test (front ++ back) ≡ filter test front ++ filter test back
filter_joined test [] back = refl
filter_joined test (f ∷ front) back = elim (test f) as (λ b. cond b (f ∷ filter test (front ++ back)) (filter test (front ++ back)) ≡ cond b (f ∷ filter test front) (filter test front) ++ filter test back) [
  | true ↦ ap (λ l. f ∷ l) (filter_joined test front back)
  | false ↦ filter_joined test front back
]

latest_left : (recency gone : List Fid) (f : Fid) → except_all (latest recency f) (except gone f) ≡ latest (except_all recency gone) f
latest_left recency gone f =
    except_is (latest recency f) (except gone f) ∙ filter_joined stays (except recency f) (f ∷ [])
    ∙ (λ i. front i ++ cond (not (own i)) (f ∷ []) [])
    ∙ ap (λ l. except l f ++ f ∷ []) (sym (except_is recency gone))
  where
    stays : Fid → Bool
    stays g = not (is_listed (except gone f) g)

    own : is_listed (except gone f) f ≡ false
    own = except_at gone f f ∙ ap (λ b. not b && is_listed gone f) (same_fid_refl f)

    alike : (g : Fid) → (not (same_fid g f) && stays g) ≡ (not (is_listed gone g) && not (same_fid g f))
    alike g = ap (λ b. not (same_fid g f) && not b) (except_at gone f g ∙ ap (λ b. not b && is_listed gone g) (sym (same_turned g f))) ∙ by (same_fid g f) (is_listed gone g)
      where
        by : (b l : Bool) → (not b && not (not b && l)) ≡ (not l && not b)
        by true true = refl
        by true false = refl
        by false true = refl
        by false false = refl

    both : Fid → Bool
    both g = not (is_listed gone g) && not (same_fid g f)

    front : filter stays (except recency f) ≡ except (filter (λ g. not (is_listed gone g)) recency) f
    front = filter_twice (λ g. not (same_fid g f)) stays both recency alike ∙ sym (filter_twice (λ g. not (is_listed gone g)) (λ g. not (same_fid g f)) both recency (λ g. refl))

pub put_dropped : (c : CacheState) (gone : List Fid) (fid : Fid) (parent : Option Fid) (node : Node) (from : Option ℕ) → kept_parent (map.get c.holds fid) parent ≡ parent
    → dropped (put_in c fid parent node from) (except gone fid) ≡ put_in (dropped c gone) fid parent node from
put_dropped c gone fid parent node from own = λ i. record {
  size = c.size;
  nodes = put_taken c.nodes gone fid node i;
  holds = (put_taken c.holds gone fid (hold (kept_parent (map.get c.holds fid) parent)) ∙ ap (λ p. map.insert (taken_from c.holds gone) fid (hold p)) parents) i;
  recency = latest_left c.recency gone fid i;
  priorities = c.priorities;
}
  where
    hold : Option Fid → Hold
    hold p = record { parent = p; from = from; dirty = false }

    parents : kept_parent (map.get c.holds fid) parent ≡ kept_parent (map.get (taken_from c.holds gone) fid) parent
    parents = by (is_listed gone fid) ∙ ap (λ o. kept_parent o parent) (sym (taken_at c.holds gone fid))
      where
        by : (b : Bool) → kept_parent (map.get c.holds fid) parent ≡ kept_parent (cond b None (map.get c.holds fid)) parent
        by true = own
        by false = refl

-- ---- the client

module _ (s : ClientState) (old new : Client) (gone : List Fid) (fid : Fid) (parent : Option Fid) (node : Node) (server : ℕ) (is : IsClient s old) (agree : Agree old.cache.nodes old.cache.holds old.cache.recency)
    (number : new.number ≡ old.number) (logs : new.logs ≡ old.logs) (cache : new.cache ≡ installed_in (log_mentions old) old.cache gone fid parent node server) where
  abbrev entries : List ClientEntry
  entries = entry.Fetched fid parent node ∷ []

  pub installed_client : MayEnterAll s (dropping gone ++ entries) → IsClient (client_after_all s (dropping gone ++ entries)) new
  installed_client may = subst (λ (c : ClientState). IsClient c new) (sym (client_dropped s gone entries)) (record {
    number = is.number ∙ sym number;
    blocks = is.blocks ∙ sym (ap (λ (c : CacheState). c.size) cache);
    held = (λ i. held_after_fetch (held_after_drops (is.held i) gone) fid parent node) ∙ sym held ∙ ap held_in (sym cache);
    logs = λ volume. subst (λ l. IsLogAt (s.volumes volume) (tree.get nat_cmp l volume)) (sym logs) (is.logs volume);
  })
    where
      left : CacheState
      left = dropped old.cache gone

      place : IsParent (held_in left) fid parent
      place = subst (λ (h : Held). IsParent h fid parent) (ap (λ h. held_after_drops h gone) is.held ∙ sym (dropped_held old.cache gone)) (rest_may s gone entries may).0.1

      held : held_in (installed_in (log_mentions old) old.cache gone fid parent node server) ≡ held_after_fetch (held_after_drops (held_in old.cache) gone) fid parent node
      held = marked_held (put_in left fid parent node (Some server)) fid (log_mentions old fid)
          ∙ fetch_held left fid parent node (Some server) (agree_taken old.cache.nodes old.cache.holds old.cache.recency gone agree) place
          ∙ ap (λ h. held_after_fetch h fid parent node) (dropped_held old.cache gone)

-- ---- what can be spelled

pub all_taken : (m : Nodes) (gone : List Fid) → AreSpelled m → AreSpelled (taken_from m gone)
all_taken m [] are = are
all_taken m (f ∷ gone) are = all_taken (map.remove m f) gone (after_taken m f are)

pub installed_spelled : {A E : Type 0} (r : Result A E) (old new : Client) (gone : List Fid) (fid : Fid) (parent : Option Fid) (n : Node) (server : ℕ)
    → OnOk r (new.cache ≡ installed_in (log_mentions old) old.cache gone fid parent n server) → OnErr r (new ≡ old) → AreSpelled old.cache.nodes → HasSpelling (node_format four) n → AreSpelled new.cache.nodes
installed_spelled (Ok x) old new gone fid parent n server ok err are is =
    subst AreSpelled (sym (ap (λ (c : CacheState). c.nodes) ok)) (after_put (taken_from old.cache.nodes gone) fid n (all_taken old.cache.nodes gone are) (node_spelled n is))
installed_spelled (Err e) old new gone fid parent n server ok err are is = subst AreSpelled (sym (ap (λ (c : Client). c.cache.nodes) err)) are

pub performed_spelled : {A E : Type 0} (r : Result A E) (old : Held) (new : Nodes) (gone : List Fid) (client : ℕ) (rec : Record) → OnOk r (new ≡ taken_from (held_after_operation old client rec).nodes gone) → OnErr r (new ≡ old.nodes)
    → AreSpelled old.nodes → client < 256 → IsSpelled rec → AreSpelled new
performed_spelled (Ok x) old new gone client rec ok err are few is =
    let went : Result (Unit {0}) (Unit {0}) = Ok tt in
    subst AreSpelled (sym ok) (all_taken (held_after_operation old client rec).nodes gone (spelled_after went old (held_after_operation old client rec).nodes client rec refl tt are few is))
performed_spelled (Err e) old new gone client rec ok err are few is = subst AreSpelled (sym err) are

-- nodes that are as they were, with the cache
pub err_nodes : {A E : Type 0} (r : Result A E) (new old : CacheState) → OnErr r (new ≡ old) → OnErr r (new.nodes ≡ old.nodes)
err_nodes (Ok x) new old is = tt
err_nodes (Err e) new old is = ap (λ (c : CacheState). c.nodes) is
