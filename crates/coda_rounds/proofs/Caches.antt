-- What calls make of a cache is the cache of the client behind them.
use Rattle.std.proofs.Common.{◌≡◌, ◌≢◌, ℕ, Bool, true, false, cond, not, ◌&&◌, ◌||◌, List, [], ◌∷◌, ◌++◌, Option, Some, None}
use Rattle.std.proofs.Common.{is_some, option_map, refl, sym, ap, ◌∙◌, inl, inr}
use Rattle.std.proofs.lemmas.Bool.{false≢true}
use Rattle.std.specs.List.{filter}
use Rattle.std.specs.FinMap as map
use Rattle.coda_fid.specs.Fid.{same_fid, root_of}
use Rattle.coda_fid.specs.declared.fid.Fid.{Fid}
use Rattle.coda_fid.proofs.Fids.{fids_total, exact_fids, same_fid_refl}
use Rattle.coda_tree.specs.declared.node.Node.{Node}
use Rattle.coda_tree.specs.Volume.{has}
use Rattle.coda_tree.proofs.Keyed.{at_altered, off_altered}
use Rattle.coda_tree.proofs.Order.{fid_cases, get_here, get_else}
use Rattle.coda_cancel.proofs.Keys.{fid_other}
use Rattle.coda_walk.specs.Going.{is_listed}
use Rattle.coda_cache.specs.declared.hold.Hold.{Hold}
use Rattle.coda_cache.specs.State.{CacheState}
use Rattle.coda_cache.specs.Steps.{set_dirty, kept_parent, taken_from, except_all}
use Rattle.coda_cache.specs.Uses.{except, latest}
use Rattle.coda_cache.proofs.Removed.{filter_alike, filter_all, filter_twice}
use Rattle.coda_cache.proofs.Taken.{taken_at}
use Rattle.coda_cache.proofs.Uses.{filter_joined, same_turned}
use Rattle.coda_record.specs.declared.entry.ClientEntry.TheVariants as entry
use Rattle.coda_venus.specs.Caching.{installed_in}
use Rattle.coda_venus.specs.Accepting.{is_mentioned}
use Rattle.coda_venus.specs.Held.{with_parent}
use Rattle.coda_venus.specs.Rounds.{RoundStep, Installed, copies_without, beside_after, parent_of_fetched_by, parent_of_fetched, serving_after}
use Rattle.coda_venus.specs.Serving.{ServingClient, hold_of, cache_of}
use Rattle.coda_venus.specs.State.{ClientState, client_after}
use Rattle.coda_rounds.specs.Caches.{mentioned_there}
use Rattle.coda_rounds.specs.Entering.{IsOrderly}
use Rattle.coda_venus.proofs.ServedAlike.{held_at}
use Rattle.coda_rounds.proofs.Replies.{left_of, drops_first, left_volumes}

-- caches are one where their parts are
pub cache_same : (a b : CacheState) → a.size ≡ b.size → a.nodes ≡ b.nodes → a.holds ≡ b.holds → a.recency ≡ b.recency
    → a.priorities ≡ b.priorities → a ≡ b
cache_same a b sizes nodes holds uses ranks =
    λ i. record { size = sizes i; nodes = nodes i; holds = holds i; recency = uses i; priorities = ranks i }

and_true : (b : Bool) → b ≡ (b && true)
and_true true = refl
and_true false = refl

and_false : (b : Bool) → false ≡ (b && false)
and_false true = refl
and_false false = refl

-- ---- the order of use

module _ (test : Fid → Bool) (f : Fid) where
  abbrev is_other : Fid → Bool
  is_other g = not (same_fid g f)

  both_ways : (uses : List Fid) → filter test (except uses f) ≡ except (filter test uses) f
  both_ways uses =
      filter_twice is_other test (λ g. is_other g && test g) uses (λ g. refl)
      ∙ filter_alike (λ g. is_other g && test g) (λ g. test g && is_other g) uses (λ g. turned (is_other g) (test g))
      ∙ sym (filter_twice test is_other (λ g. test g && is_other g) uses (λ g. refl))
    where
      turned : (a b : Bool) → (a && b) ≡ (b && a)
      turned true true = refl
      turned true false = refl
      turned false true = refl
      turned false false = refl

  -- what passes is used last, where the object used last does
  pub latest_passes : (uses : List Fid) → test f ≡ true → filter test (latest uses f) ≡ latest (filter test uses) f
  latest_passes uses passes = filter_joined test (except uses f) (f ∷ [])
      ∙ ap (λ l. filter test (except uses f) ++ l) (ap (λ b. cond b (f ∷ []) []) passes)
      ∙ ap (λ l. l ++ f ∷ []) (both_ways uses)

-- ---- fetches

left_nodes : (c : ClientState) (gone : List Fid) → (left_of c gone).held.nodes ≡ taken_from c.held.nodes gone
left_nodes c [] = refl
left_nodes c (g ∷ gone) = left_nodes (client_after c (entry.Dropped g)) gone

left_parents : (c : ClientState) (gone : List Fid) → (left_of c gone).held.parents ≡ taken_from c.held.parents gone
left_parents c [] = refl
left_parents c (g ∷ gone) = left_parents (client_after c (entry.Dropped g)) gone

pub left_blocks : (c : ClientState) (gone : List Fid) → (left_of c gone).blocks ≡ c.blocks
left_blocks c [] = refl
left_blocks c (g ∷ gone) = left_blocks (client_after c (entry.Dropped g)) gone

-- the order of use without these is what is left of it
pub uses_left : (uses gone : List Fid) → except_all uses gone ≡ filter (λ g. not (is_listed gone g)) uses
uses_left uses [] = sym (filter_all uses)
uses_left uses (g ∷ gone) = uses_left (except uses g) gone
    ∙ filter_twice (λ x. not (same_fid x g)) (λ x. not (is_listed gone x)) (λ x. not (is_listed (g ∷ gone) x)) uses (λ x. both x)
  where
    parts : (a b : Bool) → (not a && not b) ≡ not (a || b)
    parts true b = refl
    parts false b = refl

    both : (x : Fid) → (not (same_fid x g) && not (is_listed gone x)) ≡ not (is_listed (g ∷ gone) x)
    both x = ap (λ b. not b && not (is_listed gone x)) (same_turned x g) ∙ parts (same_fid g x) (is_listed gone x)

module _ (s : ServingClient) (gone : List Fid) (fid : Fid) (node : Node) (server : ℕ) (orderly : IsOrderly s) where
  abbrev po : Option Fid
  po = parent_of_fetched s.client.held fid

  abbrev left : ClientState
  left = left_of s.client gone

  abbrev step : RoundStep
  step = Installed gone fid po node server

  abbrev behind : ServingClient
  behind = record { client = client_after left (entry.Fetched fid po node); beside = beside_after s.beside step }

  abbrev then_is : CacheState
  then_is = installed_in (mentioned_there s.client) (cache_of s) gone fid po node server

  -- ---- parents

  orphan : map.get s.client.held.nodes fid ≡ None → map.get s.client.held.parents fid ≡ None
  orphan absent = by (map.get s.client.held.parents fid) refl
    where
      by : (o : Option Fid) → map.get s.client.held.parents fid ≡ o → o ≡ None
      by None e = refl
      by (Some p) e = absurd (false≢true (sym (ap is_some absent) ∙ orderly.cached fid p e))

  no_parent : po ≡ None → map.get s.client.held.parents fid ≡ None
  no_parent e = by (map.get s.client.held.nodes fid) refl e
    where
      by : (o : Option Node) → map.get s.client.held.nodes fid ≡ o
          → parent_of_fetched_by s.client.held fid o (same_fid fid (root_of fid.volume)) ≡ None
          → map.get s.client.held.parents fid ≡ None
      by None at is = orphan at
      by (Some n) at is = is

  parent_then : map.get (with_parent left.held.parents fid po) fid ≡ po
  parent_then = by po refl
    where
      by : (o : Option Fid) → po ≡ o → map.get (with_parent left.held.parents fid o) fid ≡ o
      by None e = ap (λ m. map.get m fid) (left_parents s.client gone) ∙ taken_at s.client.held.parents gone fid
          ∙ (elim (is_listed gone fid) as (λ b. cond b None (map.get s.client.held.parents fid) ≡ None) [ true ↦ refl | false ↦ no_parent e ])
      by (Some p) e = get_here fids_total left.held.parents fid p

  parent_kept : kept_parent (map.get (taken_from (cache_of s).holds gone) fid) po ≡ po
  parent_kept = ap (λ o. kept_parent o po) (taken_at (cache_of s).holds gone fid) ∙ by (is_listed gone fid)
    where
      held_by : (o : Option Node) → map.get s.client.held.nodes fid ≡ o
          → kept_parent (option_map (λ (n : Node). hold_of s fid) o) po ≡ po
      held_by None at = refl
      held_by (Some n) at = ap (λ x. parent_of_fetched_by s.client.held fid x (same_fid fid (root_of fid.volume))) (sym at)

      by : (b : Bool) → kept_parent (cond b None (map.get (cache_of s).holds fid)) po ≡ po
      by true = refl
      by false = ap (λ o. kept_parent o po) (held_at s fid) ∙ held_by (map.get s.client.held.nodes fid) refl

  -- ---- how it is held

  abbrev new_hold : Hold
  new_hold = record { parent = kept_parent (map.get (taken_from (cache_of s).holds gone) fid) po; from = Some server; dirty = false }

  held_here : hold_of behind fid ≡ set_dirty (mentioned_there s.client fid) new_hold
  held_here = (λ i. record {
    parent = (parent_then ∙ sym parent_kept) i;
    from = ap (λ b. cond b (Some server) (copies_without s.beside.copies gone fid)) (same_fid_refl fid) i;
    dirty = is_mentioned (left_volumes s.client gone i fid.volume) fid;
  })

  at_here : map.get (cache_of behind).holds fid ≡ map.get then_is.holds fid
  at_here =
      held_at behind fid
      ∙ ap (option_map (λ (n : Node). hold_of behind fid)) (get_here fids_total left.held.nodes fid node)
      ∙ ap (λ h. Some h) held_here
      ∙ sym (at_altered (map.insert (taken_from (cache_of s).holds gone) fid new_hold) fid (set_dirty (mentioned_there s.client fid))
      ∙ ap (option_map (set_dirty (mentioned_there s.client fid))) (get_here fids_total (taken_from (cache_of s).holds gone) fid new_hold))

  parent_else : (po : Option Fid) (q : Fid) → q ≢ fid
      → map.get (with_parent left.held.parents fid po) q ≡ map.get left.held.parents q
  parent_else None q off = refl
  parent_else (Some p) q off = get_else fids_total exact_fids left.held.parents fid p q off

  held_else : (q : Fid) → q ≢ fid → is_listed gone q ≡ false → hold_of behind q ≡ hold_of s q
  held_else q off stays = (λ i. record {
    parent = (parent_else po q off ∙ ap (λ m. map.get m q) (left_parents s.client gone) ∙ taken_at s.client.held.parents gone q
        ∙ ap (λ b. cond b None (map.get s.client.held.parents q)) stays) i;
    from = (ap (λ b. cond b (Some server) (copies_without s.beside.copies gone q)) (fid_other q fid off)
        ∙ ap (λ b. cond b None (s.beside.copies q)) stays) i;
    dirty = is_mentioned (left_volumes s.client gone i q.volume) q;
  })

  at_else : (q : Fid) → q ≢ fid → map.get (cache_of behind).holds q ≡ map.get then_is.holds q
  at_else q off =
      held_at behind q
      ∙ ap (option_map (λ (n : Node). hold_of behind q)) (get_else fids_total exact_fids left.held.nodes fid node q off
      ∙ ap (λ m. map.get m q) (left_nodes s.client gone) ∙ taken_at s.client.held.nodes gone q)
      ∙ by (is_listed gone q) refl
      ∙ sym (off_altered (map.insert (taken_from (cache_of s).holds gone) fid new_hold) fid (set_dirty (mentioned_there s.client fid)) q off
      ∙ get_else fids_total exact_fids (taken_from (cache_of s).holds gone) fid new_hold q off ∙ taken_at (cache_of s).holds gone q)
    where
      by : (b : Bool) → is_listed gone q ≡ b
          → option_map (λ (n : Node). hold_of behind q) (cond b None (map.get s.client.held.nodes q)) ≡ cond b None (map.get (cache_of s).holds q)
      by true e = refl
      by false e = ap (λ (h : Hold). option_map (λ (n : Node). h) (map.get s.client.held.nodes q)) (held_else q off e) ∙ sym (held_at s q)

  holds_are : (cache_of behind).holds ≡ then_is.holds
  holds_are = map.same_map fids_total exact_fids _ _ (λ q. elim (fid_cases q fid) [
    | inl same ↦ ap (map.get (cache_of behind).holds) same ∙ at_here ∙ sym (ap (map.get then_is.holds) same)
    | inr off ↦ at_else q off
  ])

  -- ---- the order of use

  uses_are : filter (λ g. has (map.insert left.held.nodes fid node) g) (latest s.beside.uses fid) ≡ latest (except_all (filter (λ g. has s.client.held.nodes g) s.beside.uses) gone) fid
  uses_are =
      latest_passes (λ g. has (map.insert left.held.nodes fid node) g) fid s.beside.uses
      (ap is_some (get_here fids_total left.held.nodes fid node))
      ∙ ap (λ l. l ++ fid ∷ []) (
      filter_twice (λ g. has (map.insert left.held.nodes fid node) g) other one s.beside.uses (λ g. refl)
      ∙ filter_alike one two s.beside.uses same
      ∙ sym (ap (λ l. except l fid) (uses_left (filter there s.beside.uses) gone ∙ filter_twice there stays (λ g. there g && stays g) s.beside.uses (λ g. refl))
      ∙ filter_twice (λ g. there g && stays g) other two s.beside.uses (λ g. refl)))
    where
      there : Fid → Bool
      there g = has s.client.held.nodes g

      stays : Fid → Bool
      stays g = not (is_listed gone g)

      other : Fid → Bool
      other g = not (same_fid g fid)

      one : Fid → Bool
      one g = has (map.insert left.held.nodes fid node) g && other g

      two : Fid → Bool
      two g = (there g && stays g) && other g

      left_there : (g : Fid) → has left.held.nodes g ≡ (there g && stays g)
      left_there g = ap (λ m. has m g) (left_nodes s.client gone) ∙ ap is_some (taken_at s.client.held.nodes gone g)
          ∙ (elim (is_listed gone g) as (λ b. is_some (cond b None (map.get s.client.held.nodes g)) ≡ (there g && not b)) [ true ↦ and_false (there g) | false ↦ and_true (there g) ])

      same : (g : Fid) → one g ≡ two g
      same g = elim (fid_cases g fid) [
        | inl at ↦ out (has (map.insert left.held.nodes fid node) g) (there g && stays g) (ap (λ x. not (same_fid x fid)) at ∙ ap not (same_fid_refl fid))
        | inr off ↦ ap (λ b. b && other g) (ap is_some (get_else fids_total exact_fids left.held.nodes fid node g off) ∙ left_there g)
      ]
        where
          out : (a b : Bool) → other g ≡ false → (a && other g) ≡ (b && other g)
          out a b e = ap (λ x. a && x) e ∙ sym (and_false a) ∙ and_false b ∙ sym (ap (λ x. b && x) e)

  pub fetched : cache_of (serving_after s step) ≡ then_is
  fetched =
      ap (λ (c : ClientState). cache_of (record { client = c; beside = beside_after s.beside step })) (drops_first s.client gone (entry.Fetched fid po node ∷ []))
      ∙ cache_same (cache_of behind) then_is (left_blocks s.client gone)
      (ap (λ m. map.insert m fid node) (left_nodes s.client gone)) holds_are uses_are refl
